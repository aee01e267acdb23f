-- The laws of the numbers that texts spell. Assumes nothing.
use Rattle.std.specs.Prelude.{None, Some}
use Prim.Native.Nat.{ℕ, zero, suc, ◌+◌, ◌/◌, ◌%◌, ◌≤◌, ◌<◌}
use mathlib.Core.Path.{◌≡◌, refl, ◌∙◌}
use mathlib.Core.Bool.{Bool, true, false, cond, ◌&&◌}
use mathlib.Core.List.{List, [], ◌∷◌, ◌++◌}
use native.Mathlib.Omega.{arith}
use lib.ListN.{length, get_or, length-append}
use Rattle.std.specs.List.{fold}
use lib.Dec.{ltb}
use borrow.Author.Tests.{ltb-true, ltb-false, le-leb}
use Rattle.text.specs.Text.{decimal_below, decimal}
use Rattle.arguments.specs.Arguments.{is_digit, all_digits, with_digit, spelled_from, capped, number_of, is_dash, choice_by, choice_of}

-- the choice of a palette
pub no_palette_lem : (text : List ℕ) → is_dash text ≡ true → Some None ≡ choice_of text
unfolding choice_of
no_palette_lem text e = rw e

pub by_number : (text : List ℕ) → is_dash text ≡ false → choice_by (number_of text) ≡ choice_of text
unfolding choice_of
by_number text e = rw e

-- a number and one digit more, as it is capped
abbrev pub one_more : (n b : ℕ) → ℕ
one_more n b = capped (with_digit n b)

-- numbers that are capped alike are capped alike with the same digits behind them
capped_digit : (m n b : ℕ) → capped m ≡ capped n → capped (with_digit m b) ≡ capped (with_digit n b)
capped_digit m n b e = omega arith

capped_same : (m n : ℕ) (text : List ℕ) → capped m ≡ capped n → capped (spelled_from m text) ≡ capped (spelled_from n text)
unfolding spelled_from
capped_same m n [] e = e
capped_same m n (b ∷ later) e = capped_same (with_digit m b) (with_digit n b) later (capped_digit m n b e)

-- what digits spell is their fold
spelled_fold : (n : ℕ) (text : List ℕ) → n ≤ 65535 → capped (spelled_from n text) ≡ fold one_more n text
unfolding spelled_from
spelled_fold n [] h = omega arith
spelled_fold n (b ∷ later) h =
    capped_same (with_digit n b) (one_more n b) later (omega arith) ∙ spelled_fold (one_more n b) later (omega arith)

all_by_place : (text : List ℕ) → ((k : ℕ) → k < length text → is_digit (get_or text k 0) ≡ true) → all_digits text ≡ true
unfolding all_digits
all_by_place [] h = refl
all_by_place (b ∷ later) h = rw (h 0 (omega arith), all_by_place later (λ k l. h (suc k) (omega arith)))

pub digits_spelled : (text : List ℕ) → 0 < length text → ((k : ℕ) → k < length text → is_digit (get_or text k 0) ≡ true)
    → number_of text ≡ Some (fold one_more 0 text)
unfolding number_of
digits_spelled [] l h = absurd (omega arith)
digits_spelled (b ∷ later) l h = rw (all_by_place (b ∷ later) h, spelled_fold 0 (b ∷ later) (omega arith))

and_false : (t : Bool) → (t && false) ≡ false
and_false true = refl
and_false false = refl

one_other : (text : List ℕ) (k : ℕ) → is_digit (get_or text k 48) ≡ false → all_digits text ≡ false
unfolding all_digits
one_other [] k e = cc
one_other (b ∷ later) zero e = rw e
one_other (b ∷ later) (suc k) e = rw (one_other later k e) (and_false (is_digit b))

-- one byte is no digit
pub other_spelled : (text : List ℕ) (k : ℕ) → is_digit (get_or text k 48) ≡ false → number_of text ≡ None
unfolding number_of
other_spelled [] k e = refl
other_spelled (b ∷ later) k e = rw (one_other (b ∷ later) k e)

pub none_spelled : (text : List ℕ) → length text ≡ 0 → number_of text ≡ None
unfolding number_of
none_spelled [] e = refl
none_spelled (b ∷ later) e = absurd (omega arith)

some_spelled : (text : List ℕ) → 0 < length text → all_digits text ≡ true → number_of text ≡ Some (capped (spelled_from 0 text))
unfolding number_of
some_spelled [] h e = absurd (omega arith)
some_spelled (b ∷ later) h e = rw e

-- digits behind others
spelled_behind : (n : ℕ) (first later : List ℕ) → spelled_from n (first ++ later) ≡ spelled_from (spelled_from n first) later
unfolding spelled_from
spelled_behind n [] later = refl
spelled_behind n (b ∷ first) later = spelled_behind (with_digit n b) first later

digits_behind : (first later : List ℕ) → all_digits first ≡ true → all_digits later ≡ true → all_digits (first ++ later) ≡ true
unfolding all_digits
digits_behind [] later e l = l
digits_behind (b ∷ first) later e l = go (is_digit b) refl (λ d. digits_behind first later d l)
  where
    go : (t : Bool) → is_digit b ≡ t → (all_digits first ≡ true → all_digits (first ++ later) ≡ true) → (is_digit b && all_digits (first ++ later)) ≡ true
    go true q rest = rw q (rest (rw q at e))
    go false q rest = absurd (cc (rw q at e))

last_digit : (n : ℕ) → all_digits ((48 + n % 10) ∷ []) ≡ true
unfolding all_digits
last_digit n = rw (le-leb 48 (48 + n % 10) (omega arith), le-leb (48 + n % 10) 57 (omega arith))

-- a decimal number spells what it is written for
below_spelled : (limit n : ℕ) → n < limit → (all_digits (decimal_below limit n) ≡ true) × (spelled_from 0 (decimal_below limit n) ≡ n)
unfolding decimal_below spelled_from
below_spelled zero n h = absurd (omega arith)
below_spelled (suc limit) n h = go (ltb n 10) refl (λ l. below_spelled limit (n / 10) l)
  where
    go : (t : Bool) → ltb n 10 ≡ t
        → (n / 10 < limit → (all_digits (decimal_below limit (n / 10)) ≡ true) × (spelled_from 0 (decimal_below limit (n / 10)) ≡ n / 10))
        → let text = cond t [] (decimal_below limit (n / 10)) ++ ((48 + n % 10) ∷ []) in (all_digits text ≡ true) × (spelled_from 0 text ≡ n)
    go true e tenth = (last_digit n, omega (arith, ltb-true n 10 e))
    go false e tenth =
        let (digits, spelled) = tenth (omega (arith, ltb-false n 10 e)) in
        (digits_behind (decimal_below limit (n / 10)) _ digits (last_digit n), rw (spelled_behind, spelled) (omega arith))

pub decimal_spelled : (n : ℕ) → number_of (decimal n) ≡ Some (capped n)
unfolding decimal decimal_below
decimal_spelled n =
    let (digits, spelled) = below_spelled (suc n) n (omega arith) in
    some_spelled (decimal n) (rw length-append (omega arith)) digits ∙ rw spelled
