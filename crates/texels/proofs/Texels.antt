-- The laws of texels. Assumes nothing.
use Prim.Native.Nat.{ℕ, suc, ◌+◌, ◌-◌, ◌*◌, ◌/◌, ◌%◌, ◌^◌, ◌≤◌, ◌<◌}
use mathlib.Core.Path.{◌≡◌, refl, ap, ◌∙◌}
use mathlib.Core.Bool.{Bool}
use mathlib.Core.List.{List, [], ◌∷◌}
use native.Mathlib.Omega.{arith}
use lib.ListN.{length, take, drop, get_or, set}
use lib.Seq.{sets, drop-cons, take_all}
use lib.Bits.{bit_and, and_mask}
use borrow.Author.Count.{below_none, below_more}
use Rattle.texels.specs.Texels.{pixel, texel_bits, format1, indexed, formats2to4, opaque, mix, mode_color, block_color, format5, format6, format7}

-- by cases, below four
pub below_four : (P : ℕ → Type 0) → P 0 → P 1 → P 2 → P 3 → (k : ℕ) → k < 4 → P k
below_four P p0 p1 p2 p3 = below_more P 3 (below_more P 2 (below_more P 1 (below_more P 0 (below_none P) p0) p1) p2) p3

-- four bytes of a list
pub four_at : (l : List ℕ) (k : ℕ) → k + 4 ≤ length l
    → get_or l k 0 ∷ get_or l (k + 1) 0 ∷ get_or l (k + 2) 0 ∷ get_or l (k + 3) 0 ∷ [] ≡ take 4 (drop k l)
four_at l k h =
    let one : k + 1 ≡ suc k = omega arith in
    let two : k + 2 ≡ suc (suc k) = omega arith in
    let three : k + 3 ≡ suc (suc (suc k)) = omega arith in
    rw (
      one,
      two,
      three,
      drop-cons l k 0 (omega arith),
      drop-cons l (suc k) 0 (omega arith),
      drop-cons l (suc (suc k)) 0 (omega arith),
      drop-cons l (suc (suc (suc k))) 0 (omega arith),
    )

pub four_bytes : (p : List ℕ) → length p ≡ 4 → get_or p 0 0 ∷ get_or p 1 0 ∷ get_or p 2 0 ∷ get_or p 3 0 ∷ [] ≡ p
four_bytes p e = four_at p 0 (omega arith) ∙ take_all 4 p (omega arith)

-- and four bytes stored
pub put_four : (l : List ℕ) (at : ℕ) (p : List ℕ) → length p ≡ 4
    → set (set (set (set l at (get_or p 0 0)) (at + 1) (get_or p 1 0)) (at + 2) (get_or p 2 0)) (at + 3) (get_or p 3 0) ≡ sets l at p
put_four l at p e =
    let one : at + 1 ≡ suc at = omega arith in
    let two : at + 2 ≡ suc (suc at) = omega arith in
    let three : at + 3 ≡ suc (suc (suc at)) = omega arith in
    rw (one, two, three) (ap (sets l at) (four_bytes p e))

-- a texel that a shift and a mask take out of its byte
pub texel_bits_lem : (bits : ℕ) (texels : List ℕ) (n at shift mask : ℕ) → at ≡ n * bits / 8 → shift ≡ n * bits % 8 → mask ≡ 2 ^ bits - 1
    → bit_and (get_or texels at 0 / 2 ^ shift) mask ≡ texel_bits bits texels n
unfolding texel_bits
texel_bits_lem bits texels n at shift mask e f m = rw (e, f, m, and_mask (get_or texels (n * bits / 8) 0 / 2 ^ (n * bits % 8)) bits)

pub texel_byte : (texels : List ℕ) (n : ℕ) → get_or texels n 0 < 256 → get_or texels n 0 ≡ texel_bits 8 texels n
unfolding texel_bits
texel_byte texels n h =
    let at : n * 8 / 8 ≡ n = omega arith in
    let shift : n * 8 % 8 ≡ 0 = omega arith in
    rw (at, shift) (omega arith)

-- every texel has four bytes
pub pixel_four : (color alpha : ℕ) → length (pixel color alpha) ≡ 4
unfolding pixel
pixel_four color alpha = refl

chosen_four : (a b c d : List ℕ) → length a ≡ 4 → length b ≡ 4 → length c ≡ 4 → length d ≡ 4
    → (t : ℕ) → t < 4 → length (get_or (a ∷ b ∷ c ∷ d ∷ []) t []) ≡ 4
chosen_four a b c d = below_four (λ t. length (get_or (a ∷ b ∷ c ∷ d ∷ []) t []) ≡ 4)

mode_four : (pal : List ℕ) (p first t : ℕ) → t < 4 → (mode : ℕ) → mode < 4 → length (mode_color pal p first mode t) ≡ 4
unfolding mode_color mix opaque pixel
mode_four pal p first t h =
    below_four (λ mode. length (mode_color pal p first mode t) ≡ 4)
    (chosen_four _ _ _ _ refl refl refl refl t h)
    (chosen_four _ _ _ _ refl refl refl refl t h)
    (chosen_four _ _ _ _ refl refl refl refl t h)
    (chosen_four _ _ _ _ refl refl refl refl t h)

pub block_four : (pal : List ℕ) (p extra t : ℕ) → t < 4 → length (block_color pal p extra t) ≡ 4
unfolding block_color
block_four pal p extra t h = mode_four pal p (2 * (extra % 2 ^ 14)) t h (extra / 2 ^ 14 % 2 ^ 2) (omega arith)

pub indexed_four : (clear0 : Bool) (pal : List ℕ) (p i : ℕ) → length (indexed clear0 pal p i) ≡ 4
unfolding indexed
indexed_four clear0 pal p i = pixel_four _ _

module _ (texels pal : List ℕ) (p : ℕ) (n : ℕ) where
  pub format1_four : length (format1 texels pal p n) ≡ 4
  unfolding format1
  format1_four = pixel_four _ _

  pub formats2to4_four : (bits : ℕ) (clear0 : Bool) → length (formats2to4 bits clear0 texels pal p n) ≡ 4
  unfolding formats2to4
  formats2to4_four bits clear0 = indexed_four clear0 pal p _

  pub format6_four : length (format6 texels pal p n) ≡ 4
  unfolding format6
  format6_four = pixel_four _ _

pub format7_four : (texels : List ℕ) (n : ℕ) → length (format7 texels n) ≡ 4
unfolding format7
format7_four texels n = pixel_four _ _

pub format5_four : (width : ℕ) (texels extras pal : List ℕ) (p x y : ℕ) → length (format5 width texels extras pal p x y) ≡ 4
unfolding format5
format5_four width texels extras pal p x y = block_four pal p _ _ (omega arith)
