-- `put_pictures` meets its contract: the pictures of the first n textures are put. Assumes nothing.
use Rattle.std.proofs.Common.{◌≡◌}
use Rattle.answer_pictures.specs.Pictures.{with_pictures}
use Rattle.answer_pictures.proofs.put_pictures.Given as goal

abbrev pub invariant-loop-n : goal.invariant-loop-n
invariant-loop-n l = l.answer ≡ with_pictures l.block l.counts.palettes l.n l.initial.answer
