-- The bytes of an answer. Assumes nothing.
use Rattle.std.specs.Prelude.{ℕ, ◌≡◌, ◌+◌, ◌-◌, cond, ◌||◌, eqb, leb, List, [], ◌∷◌, ◌++◌, length, take, drop, replicate, Result, Ok, Err}
use Rattle.util.specs.Outcome.{Outcome, result, refusal}
use Rattle.std.specs.Int.{to_le_bytes, w64}
use Rattle.answer_bytes.specs.declared.TheConstants.{ROOM, UNWRITTEN}
use Rattle.errors.specs.Refusal.{refusal_number}
use Rattle.errors.specs.declared.Refusal.{Refusal}

-- The answer with bytes behind it. What does not fit the room is left out.
unfoldable pub extended : (answer bytes : List ℕ) → List ℕ
extended answer bytes = answer ++ take (ROOM - length answer) bytes

-- The class of a refusal with this number, as the program `replay` lists them.
abbrev pub class_of : (number : ℕ) → ℕ
class_of number =
    cond (eqb number 1 || eqb number 2) number
    (cond (eqb number 3 || eqb number 5) 3
    (cond (eqb number 4 || eqb number 6) 4
    (cond (eqb number 9 || eqb number 10) number 255)))

-- Class 0 and what was made, or the refusal's class.
abbrev pub outcome_bytes : Outcome (List ℕ) → List ℕ
outcome_bytes (result bytes) = 0 ∷ bytes
outcome_bytes (refusal number returned) = class_of number ∷ []

-- The low 32 bits of a number, in 4 bytes, the lowest first.
abbrev pub low_bytes : ℕ → List ℕ
low_bytes n = take 4 (to_le_bytes w64 n)

-- A part behind its length.
abbrev pub part_bytes : List ℕ → List ℕ
part_bytes part = low_bytes (length part) ++ part

-- What is put of a picture that was drawn to an output: class 0 and the picture, or the refusal's class.
abbrev pub drawn_bytes : Result ℕ Refusal → (output : List ℕ) → List ℕ
drawn_bytes (Ok n) output = 0 ∷ take n output
drawn_bytes (Err refused) output = class_of (refusal_number refused) ∷ []

-- The room is unwritten from a place on.
abbrev pub UnwrittenFrom : (place : ℕ) (room : List ℕ) → Type 0
UnwrittenFrom place room = drop place room ≡ replicate (ROOM - place) UNWRITTEN

-- What is behind the picture in an output that it was drawn to: all of it, where the picture was refused.
abbrev pub rest_of : Result ℕ Refusal → (output : List ℕ) → List ℕ
rest_of (Ok n) output = drop n output
rest_of (Err refused) output = output

-- A call keeps what is behind the picture that it draws. `draws` is what it draws, as in `PutsPicture`.
abbrev pub KeepsRest : (draws : (before : List ℕ) → Result ℕ Refusal → (after : List ℕ) → Type 0) → Type 0
KeepsRest draws = (before : List ℕ) (answer : Result ℕ Refusal) (after : List ℕ) → draws before answer after → rest_of answer after ≡ rest_of answer before

-- A picture was drawn to the room behind class 0, none of which was written, and is put behind the answer. `draws` is what a call draws: the
-- output before it, its answer, and the output behind it.
pub record PutsPicture (draws : (before : List ℕ) → Result ℕ Refusal → (after : List ℕ) → Type 0) (old new : List ℕ) : Type 0 where
  pub answer : Result ℕ Refusal
  pub output : List ℕ
  pub drawn : draws (replicate (ROOM - (length old + 1)) UNWRITTEN) answer output
  pub put : new ≡ extended old (drawn_bytes answer output)

-- What is made, where it fits the room: else the output is too short, refusal 11.
abbrev pub fitting : (room : ℕ) → Outcome (List ℕ) → Outcome (List ℕ)
fitting room (result bytes) = cond (leb (length bytes) room) (result bytes) (refusal 11 0)
fitting room (refusal number returned) = refusal number returned

-- The answer with a picture behind it, by what is made of the picture.
unfoldable pub with_picture : (answer : List ℕ) → Outcome (List ℕ) → List ℕ
with_picture answer made = extended answer (outcome_bytes (fitting (ROOM - (length answer + 1)) made))
