-- What the picture program shows of a file. Assumes nothing.
use Rattle.std.specs.Prelude.{ℕ, Bool, cond, List, length, ltb, Result, Ok, Err, Option}
use Rattle.util.specs.Outcome.{Outcome, result, refusal}
use Rattle.output.specs.Output.{write_output}
use Rattle.scripts.specs.Script.{run}
use Rattle.reading.specs.Tex.{read_tex}
use Rattle.pam.specs.Pam.{pam_of}
use Rattle.errors.specs.Refusal.{refusal_number, refusal_returned}
use Rattle.show.specs.declared.Unshown.{Unshown}
use Rattle.show.specs.declared.Unshown.TheVariants as unshown

-- What is shown of a file: the length of its image in bytes, a refusal's number with the value returned beside it, or that it is too long to
-- be read.
pub data Shown : Type 0 where
  Image : (length : ℕ) → Shown
  Refused : (number returned : ℕ) → Shown
  TooLong : Shown

-- What the call's answer shows.
abbrev pub shown : Result ℕ Unshown → Shown
shown (Ok len) = Image len
shown (Err (unshown.Refused r)) = Refused (refusal_number r) (refusal_returned r)
shown (Err unshown.TooLong) = TooLong

-- A file of more than 3 MiB is not read.
abbrev pub too_long : (file : List ℕ) → Bool
too_long file = ltb 3145728 (length file)

-- An image is shown by its length, and a refusal by its number and the value returned beside it.
abbrev pub shown_as : Outcome (List ℕ) → Shown
shown_as (result image) = Image (length image)
shown_as (refusal number returned) = Refused number returned

-- What is shown of a file, for texture n and the chosen palette.
unfoldable pub shown_of : (file : List ℕ) (n : ℕ) → Option ℕ → Shown
shown_of file n choice = cond (too_long file) TooLong (shown_as (pam_of n choice (run read_tex file)))

-- The output that is left: an image stands at its start, and nothing else is ever written. Minutes, demand 1: "A refused call changes no byte
-- of the output."
unfoldable pub shown_output : (file : List ℕ) (n : ℕ) → Option ℕ → (output : List ℕ) → List ℕ
shown_output file n choice output = cond (too_long file) output (write_output (pam_of n choice (run read_tex file)) output)
