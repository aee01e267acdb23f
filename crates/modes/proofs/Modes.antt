-- The laws of the colours of a block. Assumes nothing.
use Prim.Native.Nat.{ℕ, zero, suc, ◌+◌, ◌<◌}
use mathlib.Core.Path.{◌≡◌, refl}
use mathlib.Core.List.{List}
use native.Mathlib.Nat.{add-zero, zero-add}
use native.Mathlib.Omega.{arith}
use lib.ListN.{get_or}
use Rattle.texels.specs.Texels.{pixel, palette_color, opaque, mix_channel, mix, mode_color}
use Rattle.texels.proofs.Texels.{below_four}

-- a mix with its two colours exchanged
mix_turned : (x y : List ℕ) → mix 3 5 x y ≡ mix 5 3 y x
unfolding mix
mix_turned x y =
    cc
    (turned (get_or x 0 0) (get_or y 0 0), turned (get_or x 1 0) (get_or y 1 0), turned (get_or x 2 0) (get_or y 2 0), turned (get_or x 3 0) (get_or y 3 0))
  where
    turned : (a b : ℕ) → mix_channel 3 5 a b ≡ mix_channel 5 3 b a
    turned a b = omega arith

-- colours by the same first index and mode
pub mode_same : (pal : List ℕ) (p t : ℕ) {first first' mode mode' : ℕ} → first ≡ first' → mode ≡ mode'
    → mode_color pal p first mode t ≡ mode_color pal p first' mode' t
mode_same pal p t e f = cc

-- the colours of a block's modes, as the code comes to them
module _ (pal : List ℕ) (p first : ℕ) where
  from : (i : ℕ) → opaque pal p 0 (first + i) ≡ opaque pal p first i
  unfolding opaque
  from i = rw zero-add

  first_color : pixel (palette_color pal p first) 31 ≡ opaque pal p first 0
  unfolding opaque
  first_color = rw add-zero

  second_color : pixel (palette_color pal p (first + 1)) 31 ≡ opaque pal p first 1
  unfolding opaque
  second_color = refl

  pub mode0_plain : (t : ℕ) → t < 3 → opaque pal p 0 (first + t) ≡ mode_color pal p first 0 t
  unfolding mode_color
  mode0_plain zero h = from 0
  mode0_plain (suc zero) h = from 1
  mode0_plain (suc (suc zero)) h = from 2
  mode0_plain (suc (suc (suc t))) h = absurd (omega arith)

  pub mode1_plain : (t : ℕ) → t < 2 → opaque pal p 0 (first + t) ≡ mode_color pal p first 1 t
  unfolding mode_color
  mode1_plain zero h = from 0
  mode1_plain (suc zero) h = from 1
  mode1_plain (suc (suc t)) h = absurd (omega arith)

  pub mode2_plain : (t : ℕ) → t < 4 → opaque pal p 0 (first + t) ≡ mode_color pal p first 2 t
  unfolding mode_color
  mode2_plain = below_four (λ t. opaque pal p 0 (first + t) ≡ mode_color pal p first 2 t) (from 0) (from 1) (from 2) (from 3)

  pub mode3_plain : (t : ℕ) → t < 2 → opaque pal p 0 (first + t) ≡ mode_color pal p first 3 t
  unfolding mode_color
  mode3_plain zero h = from 0
  mode3_plain (suc zero) h = from 1
  mode3_plain (suc (suc t)) h = absurd (omega arith)

  pub mode1_mixed : mix 1 1 (pixel (palette_color pal p first) 31) (pixel (palette_color pal p (first + 1)) 31) ≡ mode_color pal p first 1 2
  unfolding mode_color
  mode1_mixed = rw (first_color, second_color)

  pub mode3_mixed : mix 3 5 (pixel (palette_color pal p first) 31) (pixel (palette_color pal p (first + 1)) 31) ≡ mode_color pal p first 3 3
  unfolding mode_color
  mode3_mixed = rw (first_color, second_color)

  pub mode3_turned : mix 3 5 (pixel (palette_color pal p (first + 1)) 31) (pixel (palette_color pal p first) 31) ≡ mode_color pal p first 3 2
  unfolding mode_color
  mode3_turned = rw (first_color, second_color) (mix_turned (opaque pal p first 1) (opaque pal p first 0))
