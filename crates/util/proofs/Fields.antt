-- The laws of `bit_field`, over the width. Assumes nothing.
use Prim.Native.Nat.{ℕ, ◌-◌, ◌/◌, ◌%◌, ◌^◌, ◌≤◌, ◌<◌}
use mathlib.Core.Path.{◌≡◌, refl, sym, ap, ◌∙◌}
use mathlib.Core.Bool.{Bool, true, false, cond, ◌&&◌}
use native.Mathlib.Omega.{arith}
use native.Mathlib.Nat.{one-le-pow, mod-lt}
use lib.Bits.{bit_and, and_mask}
use lib.Dec.{ltb, leb, lit<}
use lib.Pow.{high, ones_lt, ones_split, pow_mono}
use borrow.Author.Tests.{lt-ltb, le-ltb, le-leb, lt-leb, leb-true}
use Rattle.util.specs.Bits.{bit_field}

-- all `width` bits set, shifted right until n are left
pub ones_shifted : (width n : ℕ) → n ≤ width → (2 ^ width - 1) / 2 ^ (width - n) ≡ 2 ^ n - 1
ones_shifted width n h =
    ap (λ (k : ℕ). (2 ^ k - 1) / 2 ^ (width - n)) (omega arith)
    ∙ (ap (λ (x : ℕ). x / 2 ^ (width - n)) (ones_split n (width - n)) ∙ high (2 ^ n - 1) (width - n) (ones_lt (width - n)))

module _ (width x lo hi : ℕ) where
  pub in_width : lo < hi → hi ≤ width → bit_field width x lo hi ≡ x / 2 ^ lo % 2 ^ (hi - lo)
  in_width h l = simp (lt-ltb lo hi h, le-leb hi width l)

  -- a shift and a mask, which is made of at least `width` bits
  pub shift_mask : {all : ℕ} → width ≤ all → lo < hi → hi ≤ width
      → bit_and (x / 2 ^ lo) ((2 ^ all - 1) / 2 ^ (all - (hi - lo))) ≡ bit_field width x lo hi
  shift_mask {all} w h l =
      ap (bit_and (x / 2 ^ lo)) (ones_shifted all (hi - lo) (omega arith))
      ∙ (and_mask (x / 2 ^ lo) (hi - lo) ∙ sym (in_width h l))

  pub no_bits : hi ≤ lo → 0 ≡ bit_field width x lo hi
  no_bits h = simp (le-ltb lo hi h)

  pub past_width : lo < hi → width < hi → 0 ≡ bit_field width x lo hi
  past_width h l = simp (lt-ltb lo hi h, lt-leb hi width l)

  -- a field has no more bits than the number
  pub field_fits : bit_field width x lo hi < 2 ^ width
  field_fits = go (ltb lo hi) (leb hi width) refl
    where
      go : (s t : Bool) → leb hi width ≡ t → cond (s && t) (x / 2 ^ lo % 2 ^ (hi - lo)) 0 < 2 ^ width
      go true true q =
          let some : 0 < 2 ^ (hi - lo) = one-le-pow (hi - lo) 2 (lit< tt) in
          let most : 2 ^ (hi - lo) ≤ 2 ^ width = pow_mono (omega (arith, leb-true hi width q)) in
          omega (arith, mod-lt (x / 2 ^ lo) some)
      go true false q = one-le-pow width 2 (lit< tt)
      go false t q = one-le-pow width 2 (lit< tt)
