-- `texels::index_at` meets its contract: a shift and a mask take the bits out. Assumes nothing.
use native.Mathlib.Omega.{arith}
use lib.Bits.{and_mask}
use Rattle.util.proofs.Fields.{ones_shifted}
use Rattle.texels.proofs.Texels.{texel_bits_lem}
use Rattle.texels.proofs.index_at.Goals as goal

pub returns : goal.returns
returns c =
    let a = c.args in
    texel_bits_lem a.bits a.data1.now a.n _ _ _ (omega arith) (and_mask _ 3) (ones_shifted 8 a.bits (omega arith))
