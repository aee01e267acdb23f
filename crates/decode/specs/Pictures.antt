-- Pictures: texels in order, direct decoding, and a picture from a block. Assumes nothing.
use Rattle.std.specs.Prelude.{ℕ, ◌*◌, ◌/◌, ◌%◌, Bool, false, cond, ◌||◌, List, length, take, ltb, eqb, Option, None, Some, unwrap_or}
use Rattle.util.specs.Outcome.{Outcome, result, refusal, ◌>>=◌}
use Rattle.nds.specs.Params.{width, height, format, color0_transparent}
use Rattle.nds.specs.Formats.{palette_needed, data_length, second_length}
use Rattle.scripts.specs.Script.{Answer}
use Rattle.reading.specs.Tex.{Contents}
use Rattle.places.specs.Sources.{Sources, sources_of}
use Rattle.texels.specs.Texels as Texels
use Rattle.output.specs.Output.{pieces}

-- 01, "Pixels": "A picture is 4 · width · height bytes".
abbrev pub texel_count : (word : ℕ) → ℕ
texel_count w = width w * height w

abbrev pub picture_length : (word : ℕ) → ℕ
picture_length w = 4 * texel_count w

-- A palette's byte offset. Without one no colour is looked up: format 7 has its own, and the others are refused.
abbrev pub off_of : Option ℕ → ℕ
off_of palette = unwrap_or palette 0

-- Texel n of a picture in format f. Format 0 has none.
abbrev pub texel_in : (f : ℕ) → Sources → (n : ℕ) → List ℕ
texel_in f s n =
    let bit29 = color0_transparent s.word in
    let w = width s.word in
    let texels = s.parts.data1 in
    let p = off_of s.palette in
    cond (eqb f 1) (Texels.format1 texels s.pal_block p n)
    (cond (eqb f 2) (Texels.formats2to4 2 bit29 texels s.pal_block p n)
    (cond (eqb f 3) (Texels.formats2to4 4 bit29 texels s.pal_block p n)
    (cond (eqb f 4) (Texels.formats2to4 8 bit29 texels s.pal_block p n)
    (cond (eqb f 5) (Texels.format5 w texels s.parts.data2 s.pal_block p (n % w) (n / w))
    (cond (eqb f 6) (Texels.format6 texels s.pal_block p n) (Texels.format7 texels n))))))

-- And by the word's format.
unfoldable pub texel : Sources → (n : ℕ) → List ℕ
texel s n = texel_in (format s.word) s n

-- "Texels run by rows from the top left, four output bytes R, G, B, A each": the bytes of all texels, one behind the other.
unfoldable pub picture_bytes : Sources → List ℕ
picture_bytes s = pieces (texel s) (texel_count s.word)

-- 01, "When a call is declined": "formats 1 to 6, no palette chosen".
abbrev pub lacks_palette : (word : ℕ) → Option ℕ → Bool
lacks_palette w None = palette_needed (format w)
lacks_palette w (Some p) = false

-- "data (second too, for 5) shorter than the word says": by the lengths of the first and second data.
abbrev pub lacks_data : (word length1 length2 : ℕ) → Bool
lacks_data w length1 length2 = ltb length1 (data_length w) || ltb length2 (second_length w)

-- 9, 10 for "format 0", and 12, in this order.
unfoldable pub ready : (word length1 length2 : ℕ) → Option ℕ → Outcome (Unit {0})
ready w length1 length2 palette =
    cond (lacks_palette w palette) (refusal 9 0)
    (cond (eqb (format w) 0) (refusal 10 0) (cond (lacks_data w length1 length2) (refusal 12 0) (result tt)))

-- "Direct decoding (..): 9, 10, 12, 11." 11 is the output's: `Writes` of the crate output has it.
unfoldable pub decoded : Sources → Outcome (List ℕ)
decoded s = do
  _ ← ready s.word (length s.parts.data1) (length s.parts.data2) s.palette
  result (picture_bytes s)

-- "(word, first and second data, optional palette block with 32-bit offset)": what a direct decoding is given.
abbrev pub sources : (word : ℕ) (data1 data2 : List ℕ) → Option ℕ → (pal_block : List ℕ) → Sources
sources word data1 data2 palette pal_block =
    record { word = word; parts = record { data1 = data1; data2 = data2 }; palette = palette; pal_block = pal_block }

-- "Data beyond the needed length is ignored": with the data cut to the lengths that the word says.
abbrev pub needed : Sources → Sources
needed s =
    sources s.word (take (data_length s.word) s.parts.data1) (take (second_length s.word) s.parts.data2) s.palette s.pal_block

-- "A picture from a block: reading, 7, 8 (also where the palette is unneeded), 9, 10, 12, 11."
unfoldable pub picture_of : (n : ℕ) → Option ℕ → Answer Contents → Outcome (List ℕ)
picture_of n choice a = do
  sources ← sources_of n choice a
  decoded sources
