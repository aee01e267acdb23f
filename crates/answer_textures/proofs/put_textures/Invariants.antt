-- `put_textures` meets its contract: the first n textures are put. Assumes nothing.
use Rattle.std.proofs.Common.{◌≡◌}
use Rattle.answer_bytes.specs.Answer.{extended}
use Rattle.answer_textures.specs.Textures.{textures_bytes}
use Rattle.answer_textures.proofs.put_textures.Given as goal

abbrev pub invariant-loop-n : goal.invariant-loop-n
invariant-loop-n l = l.answer ≡ extended l.initial.answer (textures_bytes l.block l.n)
