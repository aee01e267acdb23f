-- The text that says why no image is shown. Assumes nothing.
use Rattle.std.specs.Prelude.{ℕ, List, ◌++◌, codes, decimal}
use Rattle.errors.specs.Display.{refusal_text}
use Rattle.show.specs.declared.Unshown.{Unshown}
use Rattle.show.specs.declared.Unshown.TheVariants.{Refused, TooLong}

-- A refusal's is that of the refusal.
abbrev pub unshown_text : Unshown → List ℕ
unshown_text (Refused r) = refusal_text r
unshown_text TooLong = codes "the file has more than " ++ (decimal 3145728 ++ codes " bytes")
