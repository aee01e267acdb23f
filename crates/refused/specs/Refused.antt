-- The line of a refusal: 01, "Listing program". Assumes nothing.
use Rattle.std.specs.Prelude.{ℕ, List, [], ◌∷◌}
use Rattle.text.specs.Text.{ascii, decimal, line}

-- "Otherwise the single line `refused`, number, want". Beside a number that is not 1 stands 0, which the table of refusals has as returned.
unfoldable pub refused_line : (number returned : ℕ) → List ℕ
refused_line number returned = line (ascii "refused" ∷ decimal number ∷ decimal returned ∷ [])
