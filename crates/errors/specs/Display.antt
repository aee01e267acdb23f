-- The text that a refusal displays. Assumes nothing.
use Rattle.std.specs.Prelude.{ℕ, List, ◌++◌, codes, decimal}
use Rattle.errors.specs.Refusal.{refusal_number, refusal_returned}
use Rattle.errors.specs.declared.Refusal.{Refusal}

-- 01, "Listing program": "Otherwise the single line `refused`, number, want", without the line's end. Beside a number that is not 1 stands 0,
-- which the table of refusals has as returned.
abbrev pub refusal_text : Refusal → List ℕ
refusal_text r = codes "refused " ++ (decimal (refusal_number r) ++ (codes " " ++ decimal (refusal_returned r)))
