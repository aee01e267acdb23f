-- `put_palettes` meets its contract: the first n palettes are put. Assumes nothing.
use Rattle.std.proofs.Common.{◌≡◌}
use Rattle.answer_bytes.specs.Answer.{extended}
use Rattle.answer_palettes.specs.Palettes.{palettes_bytes}
use Rattle.answer_palettes.proofs.put_palettes.Given as goal

abbrev pub invariant-loop-n : goal.invariant-loop-n
invariant-loop-n l = l.answer ≡ extended l.initial.answer (palettes_bytes l.block l.n)
