-- `decode::decode_texture::decode_texture` meets its contract: the checks decide, and then the texels are written. Assumes nothing.
use Rattle.errors.proofs.Refusals.{passed_on}
use Rattle.decode.proofs.Pictures.{writes_declined}
use Rattle.decode.proofs.decode_texture.decode_texture.Goals as goal

pub returns-in_err-check : goal.returns-in_err-check
returns-in_err-check c = rw (passed_on _ _ c.from_residual.ensures.1) (writes_declined _ _ _ c.in_err-check.ensures)
