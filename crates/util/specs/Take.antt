-- Takes. Assumes nothing.
use Rattle.std.specs.Prelude.{ℕ, ◌+◌, cond, List, [], length, take, drop, leb, Result, Ok, Err}
use Rattle.util.specs.Number.{number_at}
use Rattle.util.specs.Outcome.{Outcome, result, refusal}
use Rattle.util.specs.declared.cur.Needed.{Needed}

-- The number that a `Needed` stands for: 01's "want".
abbrev pub length_of : Needed → ℕ
length_of needed = needed.0

-- 01's number and value of each case, where `f` says what is told of the value. 01, "When a call is declined": "take is short", number 1,
-- returned "want": the length needed.
abbrev pub taken_as : {A B : Type 0} → (A → B) → Result A Needed → Outcome B
taken_as f (Ok a) = result (f a)
taken_as f (Err needed) = refusal 1 (length_of needed)

-- And where the value itself is told.
abbrev pub taken_outcome : {A : Type 0} → Result A Needed → Outcome A
taken_outcome answer = taken_as (λ a. a) answer

-- 01, "Modules" 2: "A take of n bytes at p is short exactly if p + n, as an unbounded sum, exceeds the length; n = 0 passes at p equal
-- to the length, not beyond." "Want is the length at which the failed take passes." On a block of `len` bytes a take that passes answers
-- with `passed`.
unfoldable pub take_of : {A : Type 0} (len p n : ℕ) (passed : A) → Outcome A
take_of len p n passed = cond (leb (p + n) len) (result passed) (refusal 1 (p + n))

-- A take of n bytes at p that answers with them.
abbrev pub bytes_of : (p n : ℕ) → List ℕ → Outcome (List ℕ)
bytes_of p n block = take_of (length block) p n (take n (drop p block))

-- 01, "Rust idioms to redo": "plain 1, 2, 4-byte takes". A take of `size` bytes at p that answers with their number.
abbrev pub peek_of : (size p : ℕ) → List ℕ → Outcome ℕ
peek_of size p block = take_of (length block) p size (number_at size p block)

-- The part that a take hands out. 01, "When a call is declined": "A declined data part is empty".
unfoldable pub taken_part : (p n : ℕ) → List ℕ → List ℕ
taken_part p n block = cond (leb (p + n) (length block)) (take n (drop p block)) []

-- Where a take at p leaves a position that it moves. 01, "Modules" 2, names src/util/cur.rs, and "for the container the Rust does" decide: the
-- position is behind the bytes of a take that passes, and stays where the take is short.
unfoldable pub taken_to : (len p n : ℕ) → ℕ
taken_to len p n = cond (leb (p + n) len) (p + n) p
