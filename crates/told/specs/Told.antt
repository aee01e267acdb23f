-- What the calls for other languages tell of an answer, in numbers and slices. An answer itself is the called function's: each definition here
-- goes by the one in that function's contract. Assumes nothing.
use Rattle.std.specs.Prelude.{ℕ, cond, List, ◌++◌, length, take, drop, replicate, eqb, leb, Option, None, Some}
use Rattle.util.specs.Outcome.{Outcome, result, refusal, ◌>>=◌}
use Rattle.nds.specs.declared.texture_formats.Alpha.{Alpha}
use Rattle.nds.specs.declared.texture_formats.Alpha.TheVariants as alpha
use Rattle.nds.specs.declared.wrap.Wrap.{Wrap}
use Rattle.nds.specs.declared.wrap.Wrap.TheVariants as wrap
use Rattle.errors.specs.declared.Kind.{Kind}
use Rattle.scripts.specs.Script.{run}
use Rattle.reading.specs.Tex.{read_tex}
use Rattle.rows.specs.Rows.{place_of, rows_of}
use Rattle.nitro.specs.declared.tex.Counts.{Counts}
use Rattle.nitro.specs.Calls.{reading_of, texture_of, palette_of, data1_of, data2_of, pal_block_of}
use Rattle.places.specs.Sources.{places_of, pal_place_of}
use Rattle.nitro.specs.declared.tex.TextureRecord.{TextureRecord}
use Rattle.nitro.specs.declared.tex.PaletteRecord.{PaletteRecord}
use Rattle.layout.specs.declared.Place.{Place}
use Rattle.layout.specs.Positions.{told}
use Rattle.decode.specs.Pictures.{sources, decoded, picture_of}

-- A number that is told as it is.
abbrev pub itself : ℕ → ℕ
itself n = n

-- A call returns 0, or where it is declined the refusal's number. 01, "When a call is declined": the columns "Number" and "Returned".
abbrev pub code_of : {A : Type 0} → Outcome A → ℕ
code_of (result a) = 0
code_of (refusal number returned) = number

abbrev pub needed_of : {A : Type 0} → Outcome A → ℕ
needed_of (result a) = 0
needed_of (refusal number returned) = returned

-- What stands at exit where a part of the answer goes: that part, or, where the call is declined, what stood there at entry. The table's
-- last column: "Left as it was".
abbrev pub left : {A B : Type 0} → (entry : B) → (part : A → B) → Outcome A → B
left entry part (result a) = part a
left entry part (refusal number returned) = entry

-- The numbers that stand for a wrap word and for an alpha kind.
abbrev pub wrap_number : Wrap → ℕ
wrap_number wrap.Clamp = 0
wrap_number wrap.Repeat = 1
wrap_number wrap.Mirror = 2

abbrev pub alpha_number : Alpha → ℕ
alpha_number alpha.Opaque = 0
alpha_number alpha.Transparent = 1
alpha_number alpha.Translucent = 2

-- A palette is chosen by two numbers: of the first, 0 says that there is none, and any other that it is the second.
abbrev pub choice_of : {A : Type 0} (has : ℕ) (palette : A) → Option A
choice_of has palette = cond (eqb has 0) None (Some palette)

-- A name by a slice of any length: its first 16 bytes, and zeros for those that it lacks.
unfoldable pub name_of : List ℕ → List ℕ
name_of bytes = take 16 (bytes ++ replicate 16 0)

-- A reading, and its counts.
abbrev pub reading : (block : List ℕ) → Outcome Counts
reading block = reading_of (run read_tex block)

abbrev pub textures : Counts → ℕ
textures counts = counts.textures

abbrev pub palettes : Counts → ℕ
palettes counts = counts.palettes

-- A record, whose name of 16 bytes goes to a lent output. "output shorter than the result", 11.
unfoldable pub named : {A : Type 0} → (output : List ℕ) → Outcome A → Outcome A
named output answer = do
  record' ← answer
  cond (leb 16 (length output)) (result record') (refusal 11 0)

abbrev pub texture : (block : List ℕ) (n : ℕ) (output : List ℕ) → Outcome TextureRecord
texture block n output = named output (texture_of n (run read_tex block))

abbrev pub palette : (block : List ℕ) (n : ℕ) (output : List ℕ) → Outcome PaletteRecord
palette block n output = named output (palette_of n (run read_tex block))

-- A record's name in front of what the output keeps, and the numbers that stand for the rest of a texture's.
abbrev pub texture_name : (output : List ℕ) → TextureRecord → List ℕ
texture_name output t = t.name.0 ++ drop 16 output

abbrev pub texture_word : TextureRecord → ℕ
texture_word t = t.params.0

abbrev pub texture_wrap_s : TextureRecord → ℕ
texture_wrap_s t = wrap_number t.wrap_s

abbrev pub texture_wrap_t : TextureRecord → ℕ
texture_wrap_t t = wrap_number t.wrap_t

abbrev pub texture_alpha : TextureRecord → ℕ
texture_alpha t = alpha_number t.alpha

abbrev pub palette_name : (output : List ℕ) → PaletteRecord → List ℕ
palette_name output p = p.name.0 ++ drop 16 output

abbrev pub palette_off : PaletteRecord → ℕ
palette_off p = p.off

-- A part by its place. The laws `data1_inside`, `data2_inside` and `pal_block_inside` of `c_places` proofs/Places.antt say that every place that is told
-- lies within its block, and has the part.
abbrev pub pos : Place → ℕ
pos place = place.pos

abbrev pub len : Place → ℕ
len place = place.len

-- Where a part begins as it is told: 0 for one without bytes.
abbrev pub told_pos : Place → ℕ
told_pos place = pos (told place)

unfoldable pub data1 : (block : List ℕ) (n : ℕ) → Outcome Place
data1 block n = do
  places ← places_of n None block (run read_tex block)
  result (place_of places.data1.pos (data1_of n (run read_tex block)))

unfoldable pub data2 : (block : List ℕ) (n : ℕ) → Outcome Place
data2 block n = do
  places ← places_of n None block (run read_tex block)
  result (place_of places.data2.pos (data2_of n (run read_tex block)))

unfoldable pub pal_block : (block : List ℕ) → Outcome Place
pal_block block = do
  place ← pal_place_of block (run read_tex block)
  result (place_of place.pos (pal_block_of (run read_tex block)))

-- All textures, or all palettes, of one reading, by rows of numbers.
abbrev pub rows : Kind → (block : List ℕ) → Outcome (List ℕ)
rows kind block = rows_of kind block (run read_tex block)

-- Direct decoding, and a picture from a block: what goes to the output.
abbrev pub decoding : (word : ℕ) (first second : List ℕ) (has off : ℕ) (colors : List ℕ) → Outcome (List ℕ)
decoding word first second has off colors = decoded (sources word first second (choice_of has off) colors)

abbrev pub picture : (block : List ℕ) (n has palette : ℕ) → Outcome (List ℕ)
picture block n has palette = picture_of n (choice_of has palette) (run read_tex block)
