-- The laws of a texel of format 7 by the two bytes of its colour. Assumes nothing.
use Prim.Native.Nat.{ℕ, zero, suc, ◌+◌, ◌*◌, ◌/◌, ◌%◌, ◌≤◌, ◌<◌}
use mathlib.Core.Path.{◌≡◌, refl, ◌∙◌}
use mathlib.Core.Bool.{Bool, true, false}
use mathlib.Core.List.{List, [], ◌∷◌}
use native.Mathlib.Omega.{arith}
use lib.ListN.{length, get_or}
use lib.Dec.{eqb}
use borrow.Author.Tests.{eqb-true, eqb-false}
use Rattle.std.specs.Int.{w32, to_le_bytes}
use Rattle.std.proofs.lemmas.Nat.{le_bytes_4}
use Rattle.util.specs.Number.{number_at}
use Rattle.util.proofs.Numbers.{number_one, number_add}
use Rattle.texels.specs.Texels.{widen, pixel, direct, direct_alpha}
use Rattle.direct.specs.Words.{low_word, high_word}

-- the four bytes that a number is made of
module _ (r g b a : ℕ) (hr : r < 256) (hg : g < 256) (hb : b < 256) (ha : a < 256) where
  small : (i : ℕ) → get_or (r ∷ g ∷ b ∷ a ∷ []) i 0 < 256
  small zero = hr
  small (suc zero) = hg
  small (suc (suc zero)) = hb
  small (suc (suc (suc zero))) = ha
  small (suc (suc (suc (suc i)))) = omega arith

  quad_bytes : (n : ℕ) → n ≡ r + 256 * (g + 256 * (b + 256 * a)) → to_le_bytes w32 n ≡ r ∷ g ∷ b ∷ a ∷ []
  quad_bytes n is = le_bytes_4 (r ∷ g ∷ b ∷ a ∷ []) n refl small (omega arith)

widen_small : (v : ℕ) → v < 32 → widen v < 256
widen_small v h = omega arith

-- a level of 5 bits by its lower three bits and its upper two
widen_parts : (l u : ℕ) → l < 8 → widen l + 66 * u ≡ widen (l + 8 * u)
widen_parts l u h = omega arith

parts_small : (l u : ℕ) → l < 8 → u < 4 → widen l + 66 * u < 256
parts_small l u h k = omega arith

-- an alpha of one bit
widen_bit : (q : ℕ) → q < 2 → 255 * q ≡ widen (direct_alpha (32768 * q))
widen_bit q h = go (eqb (32768 * q / 32768 % 2) 1) refl
  where
    go : (t : Bool) → eqb (32768 * q / 32768 % 2) 1 ≡ t → 255 * q ≡ widen (direct_alpha (32768 * q))
    go true e = rw e (omega (arith, eqb-true (32768 * q / 32768 % 2) 1 e))
    go false e =
        let none : (32768 * q / 32768 % 2 ≡ 1) → ⊥ = eqb-false (32768 * q / 32768 % 2) 1 e in
        let zero : q ≡ 0 = omega (arith, none) in
        rw (e, zero)

-- the low word and the high word, as bytes
word_sum : (r l u b a : ℕ) → (r + 256 * l) + (256 * (66 * u) + 65536 * b + 16777216 * a) ≡ r + 256 * ((l + 66 * u) + 256 * (b + 256 * a))
word_sum r l u b a = omega arith

module _ (lo hi : ℕ) (low : lo < 256) (high : hi < 256) where
  red_is : (lo + 256 * hi) % 32 ≡ lo % 32
  red_is = omega arith

  green_is : (lo + 256 * hi) / 32 % 32 ≡ lo / 32 + 8 * (hi % 4)
  green_is = omega arith

  blue_is : (lo + 256 * hi) / 1024 % 32 ≡ hi / 4 % 32
  blue_is = omega arith

  alpha_is : (lo + 256 * hi) / 32768 % 2 ≡ 32768 * (hi / 128) / 32768 % 2
  alpha_is = omega arith

  pub direct_word : to_le_bytes w32 (low_word lo + high_word hi) ≡ direct (lo + 256 * hi)
  unfolding pixel
  direct_word =
      let l = lo / 32 in
      let u = hi % 4 in
      let below : l < 8 = omega arith in
      quad_bytes (widen (lo % 32)) (widen l + 66 * u) (widen (hi / 4 % 32)) (255 * (hi / 128)) (widen_small _ (omega arith))
      (parts_small l u below (omega arith))
      (widen_small _ (omega arith))
      (omega arith)
      _
      (word_sum (widen (lo % 32)) (widen l) u (widen (hi / 4 % 32)) (255 * (hi / 128)))
      ∙ rw (widen_parts l u below, widen_bit (hi / 128) (omega arith), red_is, green_is, blue_is, alpha_is)

-- a number of two bytes
pub number_two : (p : ℕ) (b : List ℕ) → p + 2 ≤ length b → get_or b p 0 + 256 * get_or b (p + 1) 0 ≡ number_at 2 p b
number_two p b h =
    rw (number_one p b (omega arith), number_one (p + 1) b (omega arith)) (number_add p b 1 1 (omega arith))
