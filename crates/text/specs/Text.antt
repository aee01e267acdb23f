-- Texts, as lists of bytes: words, decimal numbers, and lines of fields. Assumes nothing.
use Rattle.std.specs.Prelude.{ℕ, zero, suc, ◌+◌, ◌/◌, ◌%◌, cond, List, [], ◌∷◌, ◌++◌, ltb}
use Prim.Native.Char.{code}
use Prim.Native.String.{String, [] as none, ◌∷◌ as ◌then◌}

-- A text by the numbers of its characters, which for all that are used here are ASCII's.
unfoldable pub ascii : String → List ℕ
ascii none = []
ascii (c then rest) = code c ∷ ascii rest

-- 01, "Listing program": "counts and numbers are written in decimal". The last digit is the remainder by 10; before it, unless there is
-- no other, are the digits of the tenth. `limit` is a number above n: n has no more digits than that.
unfoldable pub decimal_below : (limit n : ℕ) → List ℕ
decimal_below zero n = []
decimal_below (suc limit) n = cond (ltb n 10) [] (decimal_below limit (n / 10)) ++ ((48 + n % 10) ∷ [])

unfoldable pub decimal : ℕ → List ℕ
decimal n = decimal_below (suc n) n

-- "lines ended by 0A hex". "One space parts fields".
unfoldable pub line : (fields : List (List ℕ)) → List ℕ
line [] = ascii "\n"
line (field ∷ []) = field ++ ascii "\n"
line (field ∷ next ∷ fields) = (field ++ ascii " ") ++ line (next ∷ fields)
