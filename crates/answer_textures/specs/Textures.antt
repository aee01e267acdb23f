-- The part of a block's answer that has its textures: the program `replay` says what stands there. Assumes nothing.
use Rattle.std.specs.Prelude.{ℕ, List, [], ◌∷◌, ◌++◌}
use Rattle.util.specs.Outcome.{Outcome, result, refusal}
use Rattle.output.specs.Output.{pieces}
use Rattle.scripts.specs.Script.{run}
use Rattle.reading.specs.Tex.{read_tex}
use Rattle.nitro.specs.Calls.{texture_of, data1_of, data2_of}
use Rattle.nitro.specs.declared.tex.TextureRecord.{TextureRecord}
use Rattle.answer_bytes.specs.Answer.{class_of, part_bytes}
use Rattle.answer_palettes.specs.Palettes.{record_bytes}

-- What the record call answers for a texture, and the texture's data.
abbrev pub texture_bytes : Outcome TextureRecord → (data1 data2 : List ℕ) → List ℕ
texture_bytes (result texture) data1 data2 = record_bytes texture.name.0 texture.params.0 ++ (part_bytes data1 ++ part_bytes data2)
texture_bytes (refusal number returned) data1 data2 = class_of number ∷ []

-- The first `textures` textures of a block.
abbrev pub textures_bytes : (block : List ℕ) (textures : ℕ) → List ℕ
textures_bytes block = pieces (λ n. texture_bytes (texture_of n (run read_tex block)) (data1_of n (run read_tex block)) (data2_of n (run read_tex block)))
