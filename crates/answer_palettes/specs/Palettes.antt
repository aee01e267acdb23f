-- The part of a block's answer that has its palettes: the program `replay` says what stands there. Assumes nothing.
use Rattle.std.specs.Prelude.{ℕ, ◌%◌, cond, eqb, List, [], ◌∷◌, ◌++◌, length}
use Rattle.util.specs.Outcome.{Outcome, result, refusal}
use Rattle.output.specs.Output.{pieces}
use Rattle.name.specs.Name.{safe_text, display_text}
use Rattle.scripts.specs.Script.{run}
use Rattle.reading.specs.Tex.{read_tex}
use Rattle.nitro.specs.Calls.{palette_of, pal_block_of}
use Rattle.nitro.specs.declared.tex.PaletteRecord.{PaletteRecord}
use Rattle.answer_bytes.specs.Answer.{class_of, low_bytes, part_bytes}

-- A text behind its length in 1 byte.
abbrev pub text_bytes : List ℕ → List ℕ
text_bytes text = length text % 256 ∷ text

-- A record: its name in 16 bytes, its number, the name's safe text and its Display text.
abbrev pub record_bytes : (name : List ℕ) (number : ℕ) → List ℕ
record_bytes name number = name ++ (low_bytes number ++ (text_bytes (safe_text name) ++ text_bytes (display_text name)))

-- What the record call answers for a palette.
abbrev pub palette_bytes : Outcome PaletteRecord → List ℕ
palette_bytes (result palette) = record_bytes palette.name.0 palette.off
palette_bytes (refusal number returned) = class_of number ∷ []

-- The first `palettes` palettes of a block.
abbrev pub palettes_bytes : (block : List ℕ) (palettes : ℕ) → List ℕ
palettes_bytes block = pieces (λ n. palette_bytes (palette_of n (run read_tex block)))

-- The palette block, where there is any palette.
abbrev pub pal_block_bytes : (block : List ℕ) (palettes : ℕ) → List ℕ
pal_block_bytes block palettes = cond (eqb palettes 0) [] (part_bytes (pal_block_of (run read_tex block)))
