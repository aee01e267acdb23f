-- What the test programs' helpers return. Assumes nothing.
use Rattle.std.specs.Prelude.{ℕ, ◌≡◌, ◌+◌, ◌*◌, ◌%◌, zero, suc, cond, List, length, leb}
use Rattle.std.specs.List.{fold}
use Rattle.util.specs.Number.{number_at}
use Rattle.util.specs.Take.{taken_part}
use Rattle.cases.specs.declared.Case.{Case}

-- A case's field: the number of 4 bytes at `pos`, or 0 where the bytes end before it does.
unfoldable pub field_of : (pos : ℕ) → List ℕ → ℕ
field_of pos bytes = cond (leb (pos + 4) (length bytes)) (number_at 4 pos bytes) 0

-- The bytes that a case names: the field at `at` is their position, and the next one their length.
abbrev pub named_by : (at : ℕ) (case input : List ℕ) → List ℕ
named_by at case input = taken_part (field_of at case) (field_of (at + 4) case) input

-- A case is case n of an input, whose cases have `len` bytes each.
pub record IsCase (len n : ℕ) (input : List ℕ) (case : Case) : Type 0 where
  pub same_input : case.input.now ≡ input
  pub numbers : case.numbers.now ≡ taken_part (4 + len * n) len input

-- Calls at the first n cases of an input, one after the other, take a state to another.
abbrev pub CalledAtCases : {F : Type 0} (calls : F → Case → F → Type 0) (len : ℕ) (input : List ℕ) → (n : ℕ) → F → F → Type 0
CalledAtCases calls len input zero from to = from ≡ to
CalledAtCases {F} calls len input (suc n) from to = (between : F) × (case : Case) × CalledAtCases calls len input n from between × IsCase len n input case × calls between case to

-- The byte that an output is filled with at a place.
abbrev pub pattern_at : ℕ → ℕ
pattern_at k = 1 + k % 251

-- The sum with one number more, and with all of a list.
abbrev pub added : (sum x : ℕ) → ℕ
added sum x = (31 * (sum % 65521) + x % 65521) % 65521

abbrev pub added_all : (sum : ℕ) → List ℕ → ℕ
added_all = fold added
