-- Where a block's data lie, by its header, and how long its lists are, by its layout. Assumes nothing.
use Rattle.std.specs.Prelude.{ℕ, ◌+◌, ◌*◌, ◌/◌, cond, List, eqb}
use Rattle.util.specs.Take.{taken_part}
use Rattle.nds.specs.Params.{format, offset}
use Rattle.nds.specs.Formats.{data_length, second_length}
use Rattle.errors.specs.declared.Kind.{Kind}
use Rattle.errors.specs.declared.Kind.TheVariants as kind
use Rattle.layout.specs.declared.Header.{Header}
use Rattle.layout.specs.declared.Layout.{Layout}
use Rattle.layout.specs.declared.Place.{Place}

-- 01, "Modules" 5: "Data lies at `tex_block_off` + offset. For format 5 it lies at `compressed1_block_off` + offset".
unfoldable pub data_at : Header → (word : ℕ) → ℕ
data_at h w = cond (eqb (format w) 5) h.compressed1_block_off h.tex_block_off + offset w

-- "then half as many bytes at `compressed2_block_off` + half the offset".
unfoldable pub second_at : Header → (word : ℕ) → ℕ
second_at h w = h.compressed2_block_off + offset w / 2

-- A texture's data, by its word, and the palette block: "palette block (8 times its unit count)".
abbrev pub data1_at : Header → (word : ℕ) → Place
data1_at h w = record { pos = data_at h w; len = data_length w }

abbrev pub data2_at : Header → (word : ℕ) → Place
data2_at h w = record { pos = second_at h w; len = second_length w }

abbrev pub pal_place_at : Header → Place
pal_place_at h = record { pos = h.pal_block_off; len = 8 * h.pal_block_len_shr_3 }

-- The part of a block at a place.
abbrev pub part_at : (block : List ℕ) → Place → List ℕ
part_at block place = taken_part place.pos place.len block

-- A place as it is told. 01, "Modules" 5: "the part of the lent block it occupies". One without bytes begins at 0, so that every place that is told
-- lies within its block.
abbrev pub told : Place → Place
told place = record { pos = cond (eqb place.len 0) 0 place.pos; len = place.len }

-- The length of the list of kind k.
abbrev pub count_of : Kind → Layout → ℕ
count_of kind.Texture l = l.textures
count_of kind.Palette l = l.palettes

-- Where the list of kind k begins: "`texture_off`", "`palette_off`".
abbrev pub list_pos : Kind → Header → ℕ
list_pos kind.Texture h = h.texture_off
list_pos kind.Palette h = h.palette_off
