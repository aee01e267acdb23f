-- The numbers that texts spell, and the choice of a palette. Assumes nothing.
use Rattle.std.specs.Prelude.{ℕ, ◌+◌, ◌-◌, ◌*◌, min, Bool, true, false, cond, ◌&&◌, List, [], ◌∷◌, leb, eqb, Option, None, Some}

-- The bytes of the digits 0 to 9 are 48 to 57.
abbrev pub is_digit : ℕ → Bool
is_digit b = leb 48 b && leb b 57

unfoldable pub all_digits : List ℕ → Bool
all_digits [] = true
all_digits (b ∷ later) = is_digit b && all_digits later

-- A number in decimal: ten times what the digits before a digit spell, and that digit.
abbrev pub with_digit : (n b : ℕ) → ℕ
with_digit n b = 10 * n + (b - 48)

unfoldable pub spelled_from : (n : ℕ) → List ℕ → ℕ
spelled_from n [] = n
spelled_from n (b ∷ later) = spelled_from (with_digit n b) later

-- No block has as many as 65,535 textures or palettes, so a greater number is refused as this one is.
abbrev pub capped : ℕ → ℕ
capped n = min n 65535

-- The number that a text of digits spells. A text without digits, or with another byte among them, spells none.
unfoldable pub number_of : List ℕ → Option ℕ
number_of [] = None
number_of (b ∷ later) = cond (all_digits (b ∷ later)) (Some (capped (spelled_from 0 (b ∷ later)))) None

-- The text `-`, whose byte is 45.
unfoldable pub is_dash : List ℕ → Bool
is_dash [] = false
is_dash (b ∷ []) = eqb b 45
is_dash (b ∷ c ∷ later) = false

abbrev pub choice_by : Option ℕ → Option (Option ℕ)
choice_by (Some n) = Some (Some n)
choice_by None = None

-- `-` is no palette, and else the text is a palette's number.
unfoldable pub choice_of : List ℕ → Option (Option ℕ)
choice_of text = cond (is_dash text) (Some None) (choice_by (number_of text))
