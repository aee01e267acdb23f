-- The laws of lists of lines: by their count, as the code writes them, and by the records of a reading. Assumes nothing.
use Prim.Native.Nat.{ℕ, zero, suc, ◌+◌, ◌≤◌, ◌<◌}
use mathlib.Core.Path.{◌≡◌, refl}
use mathlib.Core.List.{List, [], ◌∷◌, ◌++◌, map}
use native.Mathlib.Nat.{zero-add}
use native.Mathlib.Numerals.{add-one}
use native.Mathlib.Omega.{arith}
use lib.ListN.{length, get_or, length-append, length-map}
use lib.Seq.{length-sets}
use Rattle.scripts.specs.Script.{whole, run, outcome_of}
use Rattle.reading.specs.Tex.{Contents, read_tex}
use Rattle.nitro.specs.Calls.{entry, texture_entry, palette_entry, texture_record, palette_record, texture_of, palette_of, no_texture, no_palette, value_or}
use Rattle.errors.specs.declared.Kind.{Kind}
use Rattle.errors.specs.declared.Kind.TheVariants.{Texture, Palette}
use Rattle.lines.specs.Lines.{texture_line, palette_line}
use Rattle.listing.specs.Listing.{headed, lists_of}
use Rattle.listing.specs.Lists.{entry_line, list_of}
use Rattle.output.specs.Output.{pieces}
use Rattle.output.proofs.Outputs.{pieces_part, pieces_listed}
use Rattle.text.proofs.Puts.{sets_both}

-- no line, and one line more
pub no_lines : (f : ℕ → List ℕ) → pieces f 0 ≡ []
unfolding pieces
no_lines f = refl

pub one_more : (f : ℕ → List ℕ) (n : ℕ) → pieces f (n + 1) ≡ pieces f n ++ f n
unfolding pieces
one_more f n = rw add-one

-- one line of those that have room
pub line_fits : (f : ℕ → List ℕ) (n count : ℕ) → n < count → length (pieces f n) + length (f n) ≤ length (pieces f count)
unfolding pieces
line_fits f n count h = omega (arith, pieces_part f (suc n) count h, length-append (pieces f n) (f n))

-- for a loop that puts line behind line
pub ruleset each_line = (no_lines, one_more, line_fits, sets_both, length-append, length-sets)

-- the record beside a call's status is the list's entry
entry_or : {A B : Type 0} (kind : Kind) (make : A → B) (blank : B) (xs : List A) (n : ℕ)
    → value_or blank (entry kind make xs n) ≡ get_or (map make xs) n blank
unfolding entry
entry_or kind make blank [] n = refl
entry_or kind make blank (x ∷ xs) zero = refl
entry_or kind make blank (x ∷ xs) (suc n) = entry_or kind make blank xs n

-- the lists of a finished reading
module _ (b : List ℕ) {c : Contents} (is : run read_tex b ≡ whole c) where
  pub lists_whole : list_of Texture (run read_tex b) (length c.textures) ++ list_of Palette (run read_tex b) (length c.palettes) ≡ lists_of c
  unfolding list_of lists_of headed texture_of palette_of texture_entry palette_entry outcome_of
  lists_whole =
      let textures = pieces_listed texture_line no_texture (map (λ t. texture_record t.name t.word) c.textures) 0
      (entry_line Texture (run read_tex b)) (λ n q. rw (is, zero-add, entry_or)) in
      let palettes = pieces_listed palette_line no_palette (map (λ p. palette_record p.name p.off) c.palettes) 0
      (entry_line Palette (run read_tex b)) (λ n q. rw (is, zero-add, entry_or)) in
      rw (← textures, ← palettes, length-map, length-map)
