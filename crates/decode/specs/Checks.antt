-- Whether a texture can be decoded. Assumes nothing.
use Rattle.std.specs.Prelude.{ℕ, ◌≤◌, ◌<◌, Bool, cond, ltb, Option}
use Rattle.util.specs.Outcome.{Outcome, result, refusal, ◌>>=◌}
use Rattle.nds.specs.Params.{format}
use Rattle.nds.specs.Formats.{data_length, second_length}
use Rattle.decode.specs.Pictures.{picture_length, ready}

-- Whether a texture can be decoded, to an output of `room` bytes. "output shorter than the result", 11.
abbrev pub lacks_room : (word room : ℕ) → Bool
lacks_room w room = ltb room (picture_length w)

unfoldable pub checked : (word length1 length2 : ℕ) → Option ℕ → (room : ℕ) → Outcome (Unit {0})
checked w length1 length2 palette room = do
  _ ← ready w length1 length2 palette
  cond (lacks_room w room) (refusal 11 0) (result tt)

-- A texture that can be decoded.
pub record Decodable (word length1 length2 output : ℕ) : Type 0 where
  pub some : 0 < format word
  pub data1 : data_length word ≤ length1
  pub data2 : second_length word ≤ length2
  pub room : picture_length word ≤ output
