-- What the functions of block-compressed textures hand on. Assumes nothing.
use Rattle.std.specs.Prelude.{ℕ, ◌+◌, ◌*◌, ◌/◌, ◌%◌, ◌^◌, ◌≤◌, ◌<◌, ◌≡◌, List, take, drop, get_or}
use Rattle.std.proofs.lemmas.List.Edits.{sets}
use Rattle.texels.specs.Texels.{format5}
use Rattle.output.specs.Output.{pieces}
use Rattle.paint.specs.Paint.{pixel_at}

-- The four texels that a byte chooses from a table, its low bits first.
unfoldable pub row_bytes : (table : List (List ℕ)) (row : ℕ) → List ℕ
row_bytes table row = pieces (λ c. pixel_at table (row / 2 ^ (2 * c) % 2 ^ 2)) 4

abbrev pub byte_of : List ℕ → ℕ → ℕ
byte_of bytes i = get_or bytes i 0

-- A row of width texels of a picture, by its number.
abbrev pub row_of : (width i : ℕ) → List ℕ → List ℕ
row_of width i picture = take (4 * width) (drop (4 * (i * width)) picture)

-- A block written to the first four rows, from texel x of each on: rows 0 to 3 of it, and nothing else.
pub record BlockPut (width x : ℕ) (rows : ℕ → List ℕ) (entry exit : List ℕ) : Type 0 where
  pub row : (i : ℕ) → i < 4 → row_of width i exit ≡ sets (row_of width i entry) (4 * x) (rows i)
  pub rest : drop (4 * (4 * width)) exit ≡ drop (4 * (4 * width)) entry

pub record BlockFits (width x rows output : ℕ) : Type 0 where
  pub within : x + 4 ≤ width
  pub four : rows ≡ 4
  pub room : 4 * (4 * width) ≤ output

-- Texel n of a block-compressed picture, and of its rows from row 4i on.
abbrev pub compressed_texel : (width : ℕ) (data1 data2 pal_block : List ℕ) (p n : ℕ) → List ℕ
compressed_texel width data1 data2 pal_block p n = format5 width data1 data2 pal_block p (n % width) (n / width)

abbrev pub rows_texel : (width : ℕ) (data1 data2 pal_block : List ℕ) (p i n : ℕ) → List ℕ
rows_texel width data1 data2 pal_block p i n = format5 width data1 data2 pal_block p (n % width) (4 * i + n / width)

-- Row i of blocks, and all rows: their data are there, and so is the output. A width is 4 times the number of blocks in a row.
pub record BlocksFit (width i length1 length2 output : ℕ) : Type 0 where
  pub fours : 4 * (width / 4) ≡ width
  pub data1 : 4 * (width / 4 * i + width / 4) ≤ length1
  pub data2 : 2 * (width / 4 * i + width / 4) ≤ length2
  pub room : 4 * (4 * width) ≤ output

pub record PictureFits (width height length1 length2 output : ℕ) : Type 0 where
  pub fours : 4 * (width / 4) ≡ width
  pub rows : 4 * (height / 4) ≡ height
  pub some : 0 < width
  pub data1 : 4 * (width / 4 * (height / 4)) ≤ length1
  pub data2 : 2 * (width / 4 * (height / 4)) ≤ length2
  pub room : 4 * (width * height) ≤ output
