-- The laws of the listing's text, by what the reading comes to. Assumes nothing.
use Prim.Native.Nat.{ℕ}
use mathlib.Core.Path.{◌≡◌, refl, sym}
use mathlib.Core.Bool.{Bool, true, false, cond}
use mathlib.Core.List.{List, ◌++◌}
use native.Mathlib.Omega.{arith}
use lib.ListN.{length}
use lib.Dec.{ltb}
use Rattle.util.specs.Outcome.{Outcome, result, refusal}
use Rattle.errors.specs.Refusal.{refusal_number, refusal_returned, refusal_outcome}
use Rattle.errors.specs.declared.Kind.TheVariants.{Texture, Palette}
use Rattle.errors.specs.declared.Refusal.{Refusal}
use Rattle.scripts.specs.Script.{Answer, short, fault, whole, run, outcome_of}
use Rattle.reading.specs.Tex.{Contents, read_tex}
use Rattle.reading.specs.Layouts.{layout_of, layout_answer}
use Rattle.layout.specs.declared.Layout.{Layout}
use Rattle.refused.specs.Refused.{refused_line}
use Rattle.listing.specs.Listing.{printed, lists_of, listing_outcome, listing_text}
use Rattle.listing.specs.Lists.{list_of, read_outcome}
use Rattle.listing.proofs.Lists.{lists_whole}

-- what is listed of what is read: the two lists of a layout, or the line of a refusal
abbrev pub listed : (block : List ℕ) → Outcome Layout → List ℕ
listed block (result l) = list_of Texture (run read_tex block) l.textures ++ list_of Palette (run read_tex block) l.palettes
listed block (refusal number returned) = refused_line number returned

pub listing_read : (b : List ℕ) → listing_text b ≡ listed b (read_outcome b)
unfolding listing_text listing_outcome read_outcome layout_answer outcome_of
listing_read b = go (ltb 65536 (length b)) (run read_tex b) refl
  where
    go : (t : Bool) (a : Answer Contents) → run read_tex b ≡ a
        → printed (cond t (refusal 13 0) (outcome_of a λ c. result (lists_of c))) ≡ listed b (cond t (refusal 13 0) (outcome_of a λ c. result (layout_of b c)))
    go true a e = refl
    go false (short needed) e = refl
    go false (fault found) e = refl
    go false (whole c) e = sym (lists_whole b e)

-- a reading that is refused is listed as one line
pub refused_line_lem : (b : List ℕ) (r : Refusal) (a : Answer Contents) → refusal_outcome r ≡ layout_answer b a
    → printed (outcome_of a λ c. result (lists_of c)) ≡ refused_line (refusal_number r) (refusal_returned r)
unfolding layout_answer outcome_of
refused_line_lem b r a e = grind arith
