-- Where a texel's index is, and how large. Assumes nothing.
use Prim.Native.Nat.{ℕ, ◌+◌, ◌*◌, ◌^◌, ◌≤◌, ◌<◌}
use mathlib.Core.List.{List}
use native.Mathlib.Nat.{mod-lt, mul-le-mul, mul-le-mul_right, suc-mul, le_of_lt, lt_of_le_of_lt}
use native.Mathlib.Omega.{arith}
use lib.Dec.{lit<}
use lib.Pow.{pow_pos}
use Rattle.texels.specs.Texels.{texel_bits}

pub texel_lt : (bits : ℕ) (texels : List ℕ) (n : ℕ) → texel_bits bits texels n < 2 ^ bits
unfolding texel_bits
texel_lt bits texels n = mod-lt _ (pow_pos bits)

-- the place of such a texel in the data
pub index_small : (n bits : ℕ) → n < 2 ^ 32 → bits ≤ 8 → n * bits < 2 ^ 64
index_small n bits h k = lt_of_le_of_lt (mul-le-mul {n₂ = 2 ^ 32} {m₂ = 8} (le_of_lt h) k) (lit< tt)

-- a row ends before the next begins
pub row_below : (width i j : ℕ) → i < j → i * width + width ≤ j * width
row_below width i j h = omega (arith, suc-mul i width, mul-le-mul_right width h)
