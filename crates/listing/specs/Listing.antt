-- The listing of an input: 01, "Listing program". Assumes nothing.
use Rattle.std.specs.Prelude.{ℕ, cond, List, [], ◌∷◌, ◌++◌, map, length, ltb}
use Prim.Native.String.{String}
use Rattle.util.specs.Outcome.{Outcome, result, refusal}
use Rattle.output.specs.Output.{pieces_from}
use Rattle.scripts.specs.Script.{run, outcome_of}
use Rattle.reading.specs.Tex.{Contents, read_tex}
use Rattle.nitro.specs.Calls.{texture_record, palette_record}
use Rattle.nitro.specs.declared.tex.TextureRecord.{TextureRecord}
use Rattle.nitro.specs.declared.tex.PaletteRecord.{PaletteRecord}
use Rattle.text.specs.Text.{ascii, decimal, line}
use Rattle.refused.specs.Refused.{refused_line}
use Rattle.lines.specs.Lines.{texture_line, palette_line}

-- 01, "Listing program": "Each list opens with its word and its count." The lines behind it are numbered in the records' order.
unfoldable pub headed : {A : Type 0} → (word : String) → (ℕ → A → List ℕ) → List A → List ℕ
headed word line_of records = line (ascii word ∷ decimal (length records) ∷ []) ++ pieces_from 0 line_of records

-- The records of a reading, as the record calls give them.
abbrev pub texture_records : Contents → List TextureRecord
texture_records c = map (λ t. texture_record t.name t.word) c.textures

abbrev pub palette_records : Contents → List PaletteRecord
palette_records c = map (λ p. palette_record p.name p.off) c.palettes

-- The two lists, in the order that the sample has.
unfoldable pub lists_of : Contents → List ℕ
lists_of c = headed "textures" texture_line (texture_records c) ++ headed "palettes" palette_line (palette_records c)

-- "program's standard input over 65,536 bytes", 13. "13 comes before any reading."
unfoldable pub listing_outcome : (input : List ℕ) → Outcome (List ℕ)
listing_outcome input = cond (ltb 65536 (length input)) (refusal 13 0) (outcome_of (run read_tex input) λ c. result (lists_of c))

-- What is printed of it: the text, or the line of the refusal.
abbrev pub printed : Outcome (List ℕ) → List ℕ
printed (result text) = text
printed (refusal number returned) = refused_line number returned

unfoldable pub listing_text : (input : List ℕ) → List ℕ
listing_text input = printed (listing_outcome input)
