-- `decode::decode_texture::Texture::decode_format` meets its contract: the texels are those of the format. Assumes nothing.
use mathlib.Core.Path.{sym}
use Rattle.decode.proofs.Pictures.{picture_fits}
use Rattle.decode.proofs.decode_texture.Texture.decode_format.Goals as goal

pub decode_format5-requires : goal.decode_format5-requires
decode_format5-requires c = rw (c.width-width.ensures, c.height-height.ensures) (picture_fits c.requires (sym c.in-Compressed.ensures))
