-- Writing to a lent output. Assumes nothing.
use Rattle.std.specs.Prelude.{ℕ, zero, suc, ◌≡◌, cond, List, [], ◌∷◌, ◌++◌, length, drop, leb}
use Rattle.util.specs.Outcome.{Outcome, result, refusal}

-- What a call makes, if it is not declined already, goes to the output. 01, "When a call is declined": "writes its text's bytes, returns
-- their number and keeps the output beyond them", and "output shorter than the result", 11. Where the call is declined the output is
-- "left as it was".
unfoldable pub write_outcome : (made : Outcome (List ℕ)) (output : List ℕ) → Outcome ℕ
write_outcome (result bytes) output = cond (leb (length bytes) (length output)) (result (length bytes)) (refusal 11 0)
write_outcome (refusal number returned) output = refusal number returned

unfoldable pub write_output : (made : Outcome (List ℕ)) (output : List ℕ) → List ℕ
write_output (result bytes) output = cond (leb (length bytes) (length output)) (bytes ++ drop (length bytes) output) output
write_output (refusal number returned) output = output

-- A call that writes what it makes: what it answers, and the output that it leaves.
pub record Writes (made : Outcome (List ℕ)) (entry : List ℕ) (answer : Outcome ℕ) (exit : List ℕ) : Type 0 where
  pub outcome : answer ≡ write_outcome made entry
  pub output : exit ≡ write_output made entry

-- What is made of a list's entries by their numbers, one behind the other.
unfoldable pub pieces_from : {A : Type 0} → (number : ℕ) → (ℕ → A → List ℕ) → List A → List ℕ
pieces_from number piece [] = []
pieces_from number piece (first ∷ later) = piece number first ++ pieces_from (suc number) piece later

-- The first n of pieces that are made by their numbers alone.
unfoldable pub pieces : (piece : ℕ → List ℕ) (n : ℕ) → List ℕ
pieces piece zero = []
pieces piece (suc n) = pieces piece n ++ piece n
