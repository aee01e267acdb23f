-- Reading a block: 01's order of reading as one script, and what a finished reading holds. Assumes nothing.
use Rattle.std.specs.Prelude.{ℕ, ◌*◌, ◌/◌, Bool, cond, ◌&&◌, List, [], get_or, eqb}
use Rattle.util.specs.Number.{number_at}
use Rattle.nds.specs.Params.{format}
use Rattle.nds.specs.Formats.{data_length}
use Rattle.errors.specs.Refusal.{bad_stamp}
use Rattle.errors.specs.declared.Kind.TheVariants as kind
use Rattle.scripts.specs.Script.{Script, done, bytes_at, expect, each, ◌>>=◌, ◌>>◌}
use Rattle.info_block.specs.InfoBlock.{NameList, name_list, entry_name, entry_number}
use Rattle.layout.specs.Positions.{data_at, second_at}
use Rattle.layout.specs.declared.Header.{Header}

-- What a finished reading holds: the "names, words, data, palettes" of the demands. Second data is a block-compressed texture's.
pub record Data : Type 0 where
  pub data1 : List ℕ
  pub data2 : List ℕ

pub record Texture : Type 0 where
  pub name : List ℕ
  pub word : ℕ
  pub parts : Data

-- The offset is in bytes.
pub record Palette : Type 0 where
  pub name : List ℕ
  pub off : ℕ

pub record Contents : Type 0 where
  pub textures : List Texture
  pub palettes : List Palette
  pub pal_block : List ℕ

-- 01, "Records": "Header, 60 bytes: stamp `TEX0` at 0".
abbrev pub has_stamp : (header : List ℕ) → Bool
has_stamp header = eqb (get_or header 0 0) 84 && eqb (get_or header 1 0) 69 && eqb (get_or header 2 0) 88 && eqb (get_or header 3 0) 48

-- "`texture_off` (2 bytes) at 14; `tex_block_off` (4) at 20; `compressed1_block_off` (4) at 36; `compressed2_block_off` (4) at 40;
-- `pal_block_len_shr_3` (2) at 48; `palette_off` (4) at 52; `pal_block_off` (4) at 56."
unfoldable pub header_of : List ℕ → Header
header_of header = record {
  texture_off = number_at 2 14 header;
  tex_block_off = number_at 4 20 header;
  compressed1_block_off = number_at 4 36 header;
  compressed2_block_off = number_at 4 40 header;
  pal_block_len_shr_3 = number_at 2 48 header;
  palette_off = number_at 4 52 header;
  pal_block_off = number_at 4 56 header;
}

-- 01, "Modules" 5: "Order of reading: header, stamp, .."
unfoldable pub read_header : Script Header
read_header = do
  header ← bytes_at 0 60
  expect (has_stamp header) bad_stamp
  done (header_of header)

-- ".. palette block (8 times its unit count), .."
unfoldable pub read_pal_block : Header → Script (List ℕ)
read_pal_block h = bytes_at h.pal_block_off (8 * h.pal_block_len_shr_3)

-- "For format 5 .. then half as many bytes .. second data is an empty part for other formats."
unfoldable pub read_second : Header → (word : ℕ) → Script (List ℕ)
read_second h w = cond (eqb (format w) 5) (bytes_at (second_at h w) (data_length w / 2)) (done [])

-- First data, then second. "Format 0 takes 0 bytes": its data length is 0, and the take of it may be short all the same.
unfoldable pub read_data : Header → (word : ℕ) → Script Data
read_data h w = do
  data1 ← bytes_at (data_at h w) (data_length w)
  data2 ← read_second h w
  done (record { data1 = data1; data2 = data2 })

-- A texture: its name and its word, the first 4 bytes of its datum, and its data.
unfoldable pub read_texture : Header → NameList → (i : ℕ) → Script Texture
read_texture h list i = do
  parts ← read_data h (entry_number kind.Texture 4 list i)
  done (record { name = entry_name kind.Texture list i; word = entry_number kind.Texture 4 list i; parts = parts })

-- ".. texture list, each texture's data in list order, .."
unfoldable pub read_textures : Header → Script (List Texture)
read_textures h = do
  list ← name_list kind.Texture h.texture_off
  each list.count (read_texture h list)

-- ".. palette list." A palette's offset is the first 2 bytes of its datum, "in units of 8".
abbrev pub palette_at : NameList → (i : ℕ) → Palette
palette_at list i = record { name = entry_name kind.Palette list i; off = 8 * entry_number kind.Palette 2 list i }

unfoldable pub read_palettes : Header → Script (List Palette)
read_palettes h = do
  list ← name_list kind.Palette h.palette_off
  each list.count (λ i. done (palette_at list i))

-- The reading.
unfoldable pub read_tex : Script Contents
read_tex = do
  h ← read_header
  pal_block ← read_pal_block h
  textures ← read_textures h
  palettes ← read_palettes h
  done (record { textures = textures; palettes = palettes; pal_block = pal_block })
