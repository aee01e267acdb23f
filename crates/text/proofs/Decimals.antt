-- The laws of decimal numbers. Assumes nothing.
use Prim.Native.Nat.{ℕ, zero, suc, ◌+◌, ◌-◌, ◌/◌, ◌%◌, ◌^◌, ◌≤◌, ◌<◌}
use mathlib.Core.Path.{◌≡◌, refl}
use mathlib.Core.Bool.{Bool, true, false, cond}
use mathlib.Core.List.{[], ◌∷◌, ◌++◌}
use native.Mathlib.Nat.{pow-zero, pow-suc, one-le-pow}
use native.Mathlib.Omega.{arith}
use lib.ListN.{length, length-append}
use lib.Dec.{ltb, lit<}
use borrow.Author.Tests.{ltb-true, ltb-false, lt-ltb}
use Rattle.io.specs.Digits.{hex_digit_ascii, last_digits, IsDigitCount}
use Rattle.text.specs.Text.{decimal_below, decimal}

-- a number below 10 ^ (k + 1) has at most k + 1 digits
below_length : (limit n k : ℕ) → n < 10 ^ suc k → length (decimal_below limit n) ≤ suc k
unfolding decimal_below
below_length zero n k h = omega arith
below_length (suc limit) n k h = go (ltb n 10) refl k h (λ j. below_length limit (n / 10) j)
  where
    go : (t : Bool) → ltb n 10 ≡ t → (k : ℕ) → n < 10 ^ suc k
        → ((j : ℕ) → n / 10 < 10 ^ suc j → length (decimal_below limit (n / 10)) ≤ suc j)
        → length (cond t [] (decimal_below limit (n / 10)) ++ ((48 + n % 10) ∷ [])) ≤ suc k
    go true e k h tenth = omega arith
    go false e zero h tenth = absurd (omega (arith, ltb-false n 10 e, pow-suc 10 0, pow-zero 10))
    go false e (suc k) h tenth = rw length-append (omega (arith, tenth k (omega (arith, pow-suc 10 (suc k)))))

pub decimal_length : (n k : ℕ) → n < 10 ^ suc k → length (decimal n) ≤ suc k
unfolding decimal
decimal_length n k h = below_length (suc n) n k h

-- the fewest digits that hold a number are its decimal digits
below_digits : (limit n k : ℕ) → n < limit → IsDigitCount 10 1 n (suc k) → last_digits 10 (suc k) n ≡ decimal_below limit n
unfolding decimal_below
below_digits zero n k h f = absurd (omega arith)
below_digits (suc limit) n k h f = go (ltb n 10) refl k f (λ j. below_digits limit (n / 10) j)
  where
    less : (k : ℕ) → suc k - 1 ≡ k
    less k = omega arith

    held : {k : ℕ} → IsDigitCount 10 1 n (suc (suc k)) → 10 ^ suc k ≤ n
    held {k} f = rw (less (suc k)) at (f.2 (omega arith))

    last : hex_digit_ascii (n % 10) ≡ 48 + n % 10
    last = rw (lt-ltb (n % 10) 10 (omega arith))

    go : (t : Bool) → ltb n 10 ≡ t → (k : ℕ) → IsDigitCount 10 1 n (suc k)
        → ((j : ℕ) → n / 10 < limit → IsDigitCount 10 1 (n / 10) (suc j) → last_digits 10 (suc j) (n / 10) ≡ decimal_below limit (n / 10))
        → last_digits 10 (suc k) n ≡ cond t [] (decimal_below limit (n / 10)) ++ ((48 + n % 10) ∷ [])
    go true e zero f tenth = rw last
    go true e (suc k) f tenth = absurd (omega (arith, ltb-true n 10 e, held f, pow-suc 10 k, one-le-pow k 10 (lit< tt)))
    go false e zero f tenth = absurd (omega (arith, ltb-false n 10 e, f.1, pow-suc 10 0, pow-zero 10))
    go false e (suc k) f tenth =
        let least : 10 ^ (suc k - 1) ≤ n / 10 = rw (less k) (omega (arith, held f, pow-suc 10 k)) in
        rw (last, tenth k (omega (arith, ltb-false n 10 e)) (omega arith, omega (arith, f.1, pow-suc 10 (suc k)), λ _. least))

pub decimal_digits : (n k : ℕ) → IsDigitCount 10 1 n k → last_digits 10 k n ≡ decimal n
unfolding decimal
decimal_digits n zero f = absurd (omega arith)
decimal_digits n (suc k) f = below_digits (suc n) n k (omega arith) f
