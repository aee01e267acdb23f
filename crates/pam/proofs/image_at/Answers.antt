-- `pam::image_at` meets its contract where the picture is refused: so is the image, and no byte has changed. Assumes nothing.
use native.Mathlib.Omega.{arith}
use Rattle.output.specs.Output.{write_outcome, write_output}
use Rattle.pam.proofs.Images.{images}
use Rattle.pam.proofs.image_at.Goals as goal

pub returns-in_err-len : goal.returns-in_err-len
unfolding write_outcome write_output
returns-in_err-len c = grind (arith, images)
