-- Refusals, by the rows of 01's table "When a call is declined": "Number" and "Returned". Assumes nothing.
use Rattle.std.specs.Prelude.{ℕ, Option, Some, None, Result, Ok, Err}
use Rattle.util.specs.Outcome.{Outcome, result, refusal}
use Rattle.errors.specs.declared.Kind.{Kind}
use Rattle.errors.specs.declared.Kind.TheVariants.{Texture, Palette}
use Rattle.errors.specs.declared.Refusal.{Refusal}
use Rattle.errors.specs.declared.Refusal.TheVariants.{Short, Stamp, Dummy, DatumSize, Number, NoPalette, NoTexels, Output, ShortData}

-- What a reading finds wrong with a block that is long enough.
pub data Fault : Type 0 where
  bad_stamp : Fault
  bad_dummy : Kind → Fault
  bad_size : Kind → Fault

-- "stamp differs", 2. "texture list's dummy not 0", 3. "texture datum size not 8", 4. "palette list's dummy not 0", 5. "palette datum
-- size not 4", 6.
abbrev pub fault_number : Fault → ℕ
fault_number bad_stamp = 2
fault_number (bad_dummy Texture) = 3
fault_number (bad_size Texture) = 4
fault_number (bad_dummy Palette) = 5
fault_number (bad_size Palette) = 6

-- "texture number not below its count", 7. "palette number not below its count", 8.
abbrev pub absent_number : Kind → ℕ
absent_number Texture = 7
absent_number Palette = 8

-- 01's number of each case of the code's `Refusal`. "take is short", 1; "formats 1 to 6, no palette chosen", 9; "format 0", 10; "output
-- shorter than the result", 11; "data (second too, for 5) shorter than the word says", 12.
abbrev pub refusal_number : Refusal → ℕ
refusal_number (Short needed) = 1
refusal_number Stamp = fault_number bad_stamp
refusal_number (Dummy kind) = fault_number (bad_dummy kind)
refusal_number (DatumSize kind) = fault_number (bad_size kind)
refusal_number (Number kind) = absent_number kind
refusal_number NoPalette = 9
refusal_number NoTexels = 10
refusal_number Output = 11
refusal_number ShortData = 12

-- The want of a short take; no other row has one.
abbrev pub refusal_needed : Refusal → Option ℕ
refusal_needed (Short needed) = Some needed
refusal_needed Stamp = None
refusal_needed (Dummy kind) = None
refusal_needed (DatumSize kind) = None
refusal_needed (Number kind) = None
refusal_needed NoPalette = None
refusal_needed NoTexels = None
refusal_needed Output = None
refusal_needed ShortData = None

-- And its value: "take is short" returns the want, and every other row 0.
abbrev pub refusal_returned : Refusal → ℕ
refusal_returned (Short needed) = needed
refusal_returned Stamp = 0
refusal_returned (Dummy kind) = 0
refusal_returned (DatumSize kind) = 0
refusal_returned (Number kind) = 0
refusal_returned NoPalette = 0
refusal_returned NoTexels = 0
refusal_returned Output = 0
refusal_returned ShortData = 0

abbrev pub refusal_outcome : {A : Type 0} → Refusal → Outcome A
refusal_outcome r = refusal (refusal_number r) (refusal_returned r)

-- The code's answers.
abbrev pub result_outcome : {A : Type 0} → Result A Refusal → Outcome A
result_outcome (Ok a) = result a
result_outcome (Err r) = refusal_outcome r

-- And where `f` says what is told of the value.
abbrev pub outcome_as : {A B : Type 0} → (A → B) → Result A Refusal → Outcome B
outcome_as f (Ok a) = result (f a)
outcome_as f (Err r) = refusal_outcome r
