-- A reading as a script: a row of takes, where what comes next may depend on the bytes taken. Assumes nothing.
use Rattle.std.specs.Prelude.{ℕ, zero, suc, ◌+◌, Bool, cond, List, [], ◌∷◌, length, take, drop, leb, ltb}
use Rattle.util.specs.Outcome.{Outcome, result, refusal}
use Rattle.errors.specs.Refusal.{Fault, fault_number}

infixl 1 ◌>>=◌
infixl 1 ◌>>◌
-- `get p n next` takes n bytes at p and goes on with them.
pub data Script (A : Type 0) : Type 0 where
  done : A → Script A
  refuse : Fault → Script A
  get : (p n : ℕ) → (List ℕ → Script A) → Script A

-- What a script comes to on a block: short, with the length at which the failed take passes, which 01 calls the want; or as it ends.
pub data Answer (A : Type 0) : Type 0 where
  short : (needed : ℕ) → Answer A
  fault : Fault → Answer A
  whole : A → Answer A

-- 01, "Modules" 2: "A take of n bytes at p is short exactly if p + n, as an unbounded sum, exceeds the length; n = 0 passes at p equal
-- to the length, not beyond." "Want is the length at which the failed take passes."
unfoldable pub run : {A : Type 0} → Script A → List ℕ → Answer A
run (done a) block = whole a
run (refuse f) block = fault f
run (get p n next) block = cond (leb (p + n) (length block)) (run (next (take n (drop p block))) block) (short (p + n))

-- 01, "When a call is declined": "of the lengths just listed, take those the full run tests, in the order of reading, up to a refusal
-- or to the first that the block doesn't reach, which is included".
unfoldable pub ends : {A : Type 0} → Script A → List ℕ → List ℕ
ends (done a) block = []
ends (refuse f) block = []
ends (get p n next) block = (p + n) ∷ cond (leb (p + n) (length block)) (ends (next (take n (drop p block))) block) []

-- "the count is how many of them are larger than all before": here also than m, so that the whole count is `records 0`.
unfoldable pub records : (m : ℕ) → List ℕ → ℕ
records m [] = 0
records m (end ∷ later) = cond (ltb m end) (suc (records end later)) (records m later)

-- The outcome of a script's answer, in 01's numbers, where `f` says what is made of a script that reached its end.
unfoldable pub outcome_of : {A B : Type 0} → Answer A → (A → Outcome B) → Outcome B
outcome_of (short needed) f = refusal 1 needed
outcome_of (fault found) f = refusal (fault_number found) 0
outcome_of (whole a) f = f a

-- That a script reached its end.
abbrev pub passing : {A : Type 0} → Script A → (block : List ℕ) → Outcome (Unit {0})
passing s block = outcome_of (run s block) λ _. result tt

-- One script, and then the next. With these two a script is written as a `do` block, a step a line.
unfoldable pub ◌>>=◌ : {A B : Type 0} → Script A → (A → Script B) → Script B
◌>>=◌ (done a) f = f a
◌>>=◌ (refuse found) f = refuse found
◌>>=◌ (get p n next) f = get p n (λ part. next part >>= f)

unfoldable pub ◌>>◌ : {A B : Type 0} → Script A → Script B → Script B
◌>>◌ s t = s >>= λ _. t

-- n bytes at p.
unfoldable pub bytes_at : (p n : ℕ) → Script (List ℕ)
bytes_at p n = get p n done

-- Goes on where the test holds.
unfoldable pub expect : Bool → Fault → Script (Unit {0})
expect test found = cond test (done tt) (refuse found)

-- The scripts `f i` to `f (i + n - 1)`, in order, and the list of what they come to.
unfoldable pub each_from : {A : Type 0} → (i n : ℕ) → (ℕ → Script A) → Script (List A)
each_from i zero f = done []
each_from i (suc n) f = do
  first ← f i
  later ← each_from (suc i) n f
  done (first ∷ later)

abbrev pub each : {A : Type 0} → (n : ℕ) → (ℕ → Script A) → Script (List A)
each n f = each_from 0 n f
