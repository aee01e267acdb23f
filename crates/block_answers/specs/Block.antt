-- The answer to a block: the program `replay` says what an answer has. Assumes nothing.
use Rattle.std.specs.Prelude.{ℕ, ◌%◌, List, [], ◌∷◌, ◌++◌}
use Rattle.util.specs.Outcome.{Outcome, result, refusal}
use Rattle.scripts.specs.Script.{run}
use Rattle.reading.specs.Tex.{read_tex}
use Rattle.nitro.specs.Calls.{reading_of}
use Rattle.nitro.specs.declared.tex.Counts.{Counts}
use Rattle.answer_bytes.specs.Answer.{extended, class_of}
use Rattle.answer_palettes.specs.Palettes.{palettes_bytes, pal_block_bytes}
use Rattle.answer_textures.specs.Textures.{textures_bytes}
use Rattle.answer_pictures.specs.Pictures.{with_pictures}

-- What stands before the pictures: class 0, both counts in 1 byte each, textures, palettes and the palette block.
abbrev pub read_bytes : (block : List ℕ) (textures palettes : ℕ) → List ℕ
read_bytes block textures palettes =
    0 ∷ textures % 256 ∷ palettes % 256 ∷ (textures_bytes block textures ++ (palettes_bytes block palettes ++ pal_block_bytes block palettes))

-- The answer by the reading's.
abbrev pub answer_by : (block : List ℕ) → Outcome Counts → List ℕ
answer_by block (result counts) =
    with_pictures block counts.palettes counts.textures (extended [] (read_bytes block counts.textures counts.palettes))
answer_by block (refusal number returned) = extended [] (class_of number ∷ [])

abbrev pub answer_to : (block : List ℕ) → List ℕ
answer_to block = answer_by block (reading_of (run read_tex block))
