-- The laws of an image's header. Assumes nothing.
use Prim.Native.Nat.{ℕ, zero, suc, ◌+◌, ◌-◌, ◌*◌, ◌/◌, ◌^◌, ◌≤◌, ◌<◌}
use mathlib.Core.Path.{◌≡◌, refl}
use mathlib.Core.List.{◌++◌, append_assoc}
use native.Mathlib.Nat.{pow-suc}
use native.Mathlib.Omega.{arith}
use lib.ListN.{length, length-append}
use Rattle.nds.specs.Params.{width, height}
use Rattle.nds.proofs.Sizes.{width_le, height_le}
use Rattle.text.specs.Text.{ascii, decimal_below, decimal, line}
use Rattle.io.specs.Digits.{last_digits}
use Rattle.text.proofs.Decimals.{decimal_length, decimal_digits}
use Rattle.pam.specs.Pam.{last_lines, header_text}

-- how many digits a number has, by the greatest power of 10 that is not above it
pub digits_of_none : (n : ℕ) → n ≡ 0 → length (decimal n) ≡ 1
unfolding decimal decimal_below
digits_of_none n e = rw e

length_digits : (k n : ℕ) → length (last_digits 10 k n) ≡ k
length_digits zero n = refl
length_digits (suc k) n = rw (length-append, length_digits k (n / 10)) (omega arith)

pub digits_by_power : (n k : ℕ) → 10 ^ k ≤ n → n < 10 * 10 ^ k → length (decimal n) ≡ k + 1
digits_by_power n k least most =
    let before : suc k - 1 ≡ k = omega arith in
    rw (← decimal_digits n (suc k) (omega arith, rw pow-suc (omega arith), λ _. rw before least)) (rw length_digits (omega arith))

module _ (w : ℕ) where
  -- a header by what stands before, between and behind its two numbers
  pub header_is : header_text w
      ≡ ascii "P7\nWIDTH " ++ ((decimal (width w) ++ ascii "\nHEIGHT ") ++ (decimal (height w) ++ (ascii "\n" ++ last_lines)))
  unfolding header_text ascii line
  header_is = simp append_assoc

  pub header_length : length (header_text w) ≡ 63 + length (decimal (width w)) + length (decimal (height w))
  unfolding last_lines ascii decimal_below decimal line
  header_length = rw header_is (simp length-append (omega arith))

  pub header_fits : length (header_text w) ≤ 71
  header_fits =
      let columns : length (decimal (width w)) ≤ 4 = decimal_length (width w) 3 (omega (arith, width_le w)) in
      let rows : length (decimal (height w)) ≤ 4 = decimal_length (height w) 3 (omega (arith, height_le w)) in
      rw header_length (omega arith)
