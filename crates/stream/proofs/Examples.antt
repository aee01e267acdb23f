-- 01's "Proved examples", together: one checked list over the definitions, in 01's order. The sentences quoted are those of that section.
-- Assumes nothing.
use Prim.Native.Nat.{ℕ}
use mathlib.Core.Path.{◌≡◌, refl}
use mathlib.Core.List.{List, [], ◌∷◌, ◌++◌}
use lib.ListN.{length, take, replicate}
use Rattle.util.specs.Number.{number_at}
use Rattle.util.specs.Outcome.{result, refusal}
use Rattle.nds.specs.Params.{width, height, format, offset}
use Rattle.nds.specs.Formats.{data_length}
use Rattle.name.specs.Name.{trimmed, safe_text}
use Rattle.scripts.specs.Script.{run, ends, records, outcome_of, bytes_at, expect, each_from, ◌>>=◌, ◌>>◌}
use Rattle.reading.specs.Tex.{header_of, read_header, read_pal_block, read_second, read_data, read_texture, read_textures, read_palettes, read_tex}
use Rattle.layout.specs.Positions.{data_at}
use Rattle.info_block.specs.InfoBlock.{whole_list, name_list}
use Rattle.nitro.specs.Calls.{reading_of}
use Rattle.nitro.proofs.Sample.{leaf, sample}
use Rattle.texels.specs.Texels.{widen, pixel, palette_color, texel_bits, alpha3, format1, opaque, mix, mode_color, format6, format7}
use Rattle.stream.specs.Fetch.{short_answers}

-- A palette block of 32 colours, all 0 but colour 5: its red, green and blue are 1, 2 and 3, which widen to 8, 16 and 24.
abbrev pub only_five : List ℕ
only_five = replicate 10 0 ++ (0x41 ∷ 0x0C ∷ replicate 52 0)

-- A palette block of four colours: C0 is 0, the red of C1 is 31 and its other channels 0, and C2 and C3 are white.
abbrev pub reds : List ℕ
reds = 0x00 ∷ 0x00 ∷ 0x1F ∷ 0x00 ∷ 0xFF ∷ 0x7F ∷ 0xFF ∷ 0x7F ∷ []

-- "These stand together as one checked list over the definitions".
pub record Examples : Type 0 where
  -- "Widening 16, 31: 132, 255."
  pub widening16 : widen 16 ≡ 132
  pub widening31 : widen 31 ≡ 255
  -- "Three-bit alpha 5: 22."
  pub alpha5 : alpha3 5 ≡ 22
  -- "Halving red 0 and 31: 127.": texel 2 in mode 1, with its alpha.
  pub halving : mode_color reds 0 0 1 2 ≡ 127 ∷ 0 ∷ 0 ∷ 255 ∷ []
  -- "Mode 3, red C0 = 0, C1 = 31: texel 2 is 95, texel 3 is 159."
  pub mode3_texel2 : mode_color reds 0 0 3 2 ≡ 95 ∷ 0 ∷ 0 ∷ 255 ∷ []
  pub mode3_texel3 : mode_color reds 0 0 3 3 ≡ 159 ∷ 0 ∷ 0 ∷ 255 ∷ []
  -- "Word 1FF0FFFF hex: 1024 by 1024, format 7, offset 524,280, 2,097,152 bytes."
  pub word_width : width 0x1FF0FFFF ≡ 1024
  pub word_height : height 0x1FF0FFFF ≡ 1024
  pub word_format : format 0x1FF0FFFF ≡ 7
  pub word_offset : offset 0x1FF0FFFF ≡ 524280
  pub word_bytes : data_length 0x1FF0FFFF ≡ 2097152
  -- "Format 1 byte E5 hex: index 5, alpha 255."
  pub format1_e5 : format1 (0xE5 ∷ []) only_five 0 0 ≡ 8 ∷ 16 ∷ 24 ∷ 255 ∷ []
  -- "Format 6 byte 25 hex: index 5, alpha 33."
  pub format6_25 : format6 (0x25 ∷ []) only_five 0 0 ≡ 8 ∷ 16 ∷ 24 ∷ 33 ∷ []
  -- "Format 2 byte E4 hex: 0, 1, 2, 3."
  pub format2_texel0 : texel_bits 2 (0xE4 ∷ []) 0 ≡ 0
  pub format2_texel1 : texel_bits 2 (0xE4 ∷ []) 1 ≡ 1
  pub format2_texel2 : texel_bits 2 (0xE4 ∷ []) 2 ≡ 2
  pub format2_texel3 : texel_bits 2 (0xE4 ∷ []) 3 ≡ 3
  -- "A 3-byte palette block, offset 0: colour 1 is 0.": whatever the bytes are.
  pub color1 : (a b c : ℕ) → palette_color (a ∷ b ∷ c ∷ []) 0 1 ≡ 0
  -- "Format 7 texel 7FFF hex: 255, 255, 255, 0."
  pub format7_7_fff : format7 (0xFF ∷ 0x7F ∷ []) 0 ≡ 255 ∷ 255 ∷ 255 ∷ 0 ∷ []
  -- The sample has its 208 bytes, and reads.
  pub sample_length : length sample ≡ 208
  pub sample_whole : reading_of (run read_tex sample) ≡ result (record { textures = 1; palettes = 1 })
  -- "Sample cut to 59 bytes: want 60; to 60 or 207: want 208; the whole sample's fetching run has 2 short answers."
  pub sample_59 : reading_of (run read_tex (take 59 sample)) ≡ refusal 1 60
  pub sample_60 : reading_of (run read_tex (take 60 sample)) ≡ refusal 1 208
  pub sample_207 : reading_of (run read_tex (take 207 sample)) ≡ refusal 1 208
  pub sample_short_answers : short_answers sample ≡ 2
  -- "Empty name, safe: `_`."
  pub empty_name : safe_text (replicate 16 0) ≡ 95 ∷ []

-- Each by computation.
pub examples : Examples
unfolding pixel palette_color texel_bits format1 opaque mix mode_color format6 format7 width height data_length number_at
    run ends records outcome_of bytes_at expect each_from ◌>>=◌ ◌>>◌ whole_list name_list reading_of trimmed safe_text short_answers
    header_of data_at read_header read_pal_block read_second read_data read_texture read_textures read_palettes read_tex leaf sample
examples = record {
  widening16 = refl;
  widening31 = refl;
  alpha5 = refl;
  halving = refl;
  mode3_texel2 = refl;
  mode3_texel3 = refl;
  word_width = refl;
  word_height = refl;
  word_format = refl;
  word_offset = refl;
  word_bytes = refl;
  format1_e5 = refl;
  format6_25 = refl;
  format2_texel0 = refl;
  format2_texel1 = refl;
  format2_texel2 = refl;
  format2_texel3 = refl;
  color1 = λ a b c. refl;
  format7_7_fff = refl;
  sample_length = refl;
  sample_whole = refl;
  sample_59 = refl;
  sample_60 = refl;
  sample_207 = refl;
  sample_short_answers = refl;
  empty_name = refl;
}
