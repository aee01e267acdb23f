-- What the private functions put of a listing; no public contract cites it. Assumes nothing.
use Rattle.std.specs.Prelude.{ℕ, cond, List, [], ◌∷◌, ◌++◌, length, ltb}
use Rattle.util.specs.Outcome.{Outcome, refusal}
use Rattle.scripts.specs.Script.{Answer, run}
use Rattle.reading.specs.Tex.{Contents, read_tex}
use Rattle.reading.specs.Layouts.{layout_answer}
use Rattle.layout.specs.declared.Layout.{Layout}
use Rattle.nitro.specs.Calls.{texture_of, palette_of, no_texture, no_palette, value_or}
use Rattle.output.specs.Output.{pieces}
use Rattle.errors.specs.declared.Kind.{Kind}
use Rattle.errors.specs.declared.Kind.TheVariants.{Texture, Palette}
use Rattle.text.specs.Text.{ascii, decimal, line}
use Rattle.lines.specs.Lines.{texture_line, palette_line}

-- The word of a list.
abbrev pub list_word : Kind → List ℕ
list_word Texture = ascii "textures"
list_word Palette = ascii "palettes"

-- The line of entry n, with the record, or what stands for it where it is refused.
abbrev pub entry_line : Kind → Answer Contents → (n : ℕ) → List ℕ
entry_line Texture a n = texture_line n (value_or no_texture (texture_of n a))
entry_line Palette a n = palette_line n (value_or no_palette (palette_of n a))

-- The list of a kind, as long as the count says.
unfoldable pub list_of : Kind → Answer Contents → (count : ℕ) → List ℕ
list_of kind a count = line (list_word kind ∷ decimal count ∷ []) ++ pieces (entry_line kind a) count

-- The layout of an input, as the reading finds it. 01: "program's standard input over 65,536 bytes", 13. "13 comes before any reading."
unfoldable pub read_outcome : (input : List ℕ) → Outcome Layout
read_outcome input = cond (ltb 65536 (length input)) (refusal 13 0) (layout_answer input (run read_tex input))
