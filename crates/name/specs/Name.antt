-- Names, and the texts that they are written as. Assumes nothing.
use Rattle.std.specs.Prelude.{ℕ, ◌+◌, ◌/◌, ◌%◌, Bool, cond, ◌&&◌, ◌||◌, eqb, leb, ltb, List, [], ◌∷◌, map}
use Rattle.std.specs.List.{flat_map}

-- 01, "Modules" 7: "Trailing zero bytes are dropped." A byte stays where another stays behind it, or where it is not 0.
abbrev pub before : ℕ → List ℕ → List ℕ
before b [] = cond (eqb b 0) [] (b ∷ [])
before b (c ∷ later) = b ∷ c ∷ later

unfoldable pub trimmed : List ℕ → List ℕ
trimmed [] = []
trimmed (b ∷ bytes) = before b (trimmed bytes)

-- "`print_safe` keeps letters and digits, turns other bytes into `_`": 0 to 9, A to Z and a to z of ASCII.
abbrev pub letter_or_digit : ℕ → Bool
letter_or_digit b = (leb 48 b && leb b 57) || (leb 65 b && leb b 90) || (leb 97 b && leb b 122)

abbrev pub safe_byte : ℕ → ℕ
safe_byte b = cond (letter_or_digit b) b 95

-- "and gives `_` for an empty name."
abbrev pub or_underscore : List ℕ → List ℕ
or_underscore [] = 95 ∷ []
or_underscore (b ∷ bytes) = b ∷ bytes

unfoldable pub safe_text : (name : List ℕ) → List ℕ
safe_text name = or_underscore (map safe_byte (trimmed name))

-- "`Display` writes `.` below 20 hex, and bytes from 80 hex as two UTF-8 bytes": 110 and the upper bits of the byte's number, then 10
-- and its lower six.
unfoldable pub display_byte : ℕ → List ℕ
display_byte b = cond (ltb b 32) (46 ∷ []) (cond (ltb b 128) (b ∷ []) ((192 + b / 64) ∷ (128 + b % 64) ∷ []))

unfoldable pub display_text : (name : List ℕ) → List ℕ
display_text name = flat_map display_byte (trimmed name)
