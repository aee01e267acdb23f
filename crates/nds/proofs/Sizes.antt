-- The laws of a texture word's sizes. Assumes nothing.
use Prim.Native.Nat.{ℕ, ◌*◌, ◌%◌, ◌^◌, ◌≤◌, ◌<◌}
use mathlib.Core.Path.{◌≡◌, refl}
use mathlib.Core.List.{[], ◌∷◌}
use mathlib.Core.Bool.{Bool, true, false}
use native.Mathlib.Omega.{arith}
use native.Mathlib.Nat.{le_of_lt, lt_of_le_of_lt, mul-le-mul, mul-le-mul_left}
use lib.Dec.{lit<, eqb, ltb}
use lib.Pow.{pow_mono, shl_exact}
use borrow.Author.Tests.{ltb-true, ltb-false}
use Rattle.std.proofs.Common.{rules}
use Rattle.std.proofs.lemmas.List.{get_or_past}
use Rattle.std.proofs.lemmas.List.Elements.{All-get_or}
use Rattle.nds.specs.Params.{width, height, format}
use Rattle.nds.specs.Formats.{bits_per_texel, data_length, second_length}

module _ (x : ℕ) where
  -- 8 shifted left by three bits loses nothing at 32 bits
  pub size_fits : (8 * 2 ^ (x % 2 ^ 3)) % 2 ^ 32 ≡ 8 * 2 ^ (x % 2 ^ 3)
  size_fits = shl_exact 4 (x % 2 ^ 3) 32 (lit< tt) (omega arith)

  size_le : 8 * 2 ^ (x % 2 ^ 3) ≤ 1024
  size_le = mul-le-mul_left 8 (pow_mono {j = 7} (omega arith))

module _ (w : ℕ) where
  pub width_le : width w ≤ 1024
  unfolding width
  width_le = size_le _

  pub height_le : height w ≤ 1024
  unfolding height
  height_le = size_le _

-- a product of two sizes, and of two sizes and a byte
module _ {a b : ℕ} (ha : a ≤ 1024) (hb : b ≤ 1024) where
  pub area_lt : a * b < 2 ^ 32
  area_lt = lt_of_le_of_lt (mul-le-mul {n₂ = 1024} {m₂ = 1024} ha hb) (lit< tt)

  pub bits_lt : {bpp : ℕ} → bpp < 2 ^ 8 → a * b * bpp < 2 ^ 32
  bits_lt h = lt_of_le_of_lt (mul-le-mul {n₂ = 1024 * 1024} {m₂ = 2 ^ 8} (mul-le-mul ha hb) (le_of_lt h)) (lit< tt)

-- for functions that multiply a word's sizes
pub ruleset areas = (width_le, height_le, area_lt, bits_lt)

-- the bits of a texel fit a byte, of any format's number
bits_small : (f : ℕ) → bits_per_texel f < 2 ^ 8
bits_small f = go (ltb f 8) refl
  where
    go : (t : Bool) → ltb f 8 ≡ t → bits_per_texel f < 2 ^ 8
    go true e = All-get_or (λ b. b < 2 ^ 8) (0 ∷ 8 ∷ 2 ∷ 4 ∷ 8 ∷ 2 ∷ 8 ∷ 16 ∷ []) f 0 (ltb-true f 8 e) (search rules)
    go false e = rw (get_or_past {X = ℕ} (0 ∷ 8 ∷ 2 ∷ 4 ∷ 8 ∷ 2 ∷ 8 ∷ 16 ∷ []) f 0 (ltb-false f 8 e)) (lit< tt)

-- the lengths of a word's data
module _ (w : ℕ) where
  pub data_length_lt : data_length w < 2 ^ 32
  unfolding data_length
  data_length_lt = omega (arith, bits_lt (width_le w) (height_le w) (bits_small (format w)))

  pub second_length_lt : second_length w < 2 ^ 32
  unfolding second_length
  second_length_lt = go (eqb (format w) 5) refl
    where
      go : (t : Bool) → eqb (format w) 5 ≡ t → second_length w < 2 ^ 32
      go true e = rw e (omega (arith, data_length_lt))
      go false e = rw e (lit< tt)
