-- All textures, or all palettes, of one reading: a row of numbers for each, which goes to a lent output. Parts of the block are told by
-- where they are. Assumes nothing.
use Rattle.std.specs.Prelude.{ℕ, ◌+◌, ◌≤◌, ◌≡◌, List, [], ◌∷◌, length, take, drop}
use Rattle.util.specs.Outcome.{Outcome, result}
use Rattle.output.specs.Output.{pieces_from}
use Rattle.errors.specs.declared.Kind.{Kind}
use Rattle.errors.specs.declared.Kind.TheVariants as kind
use Rattle.scripts.specs.Script.{Answer, outcome_of}
use Rattle.info_block.specs.InfoBlock.{name_at}
use Rattle.reading.specs.Tex.{Texture, Palette, Contents, header_of}
use Rattle.layout.specs.Positions.{data_at, second_at}
use Rattle.layout.specs.declared.Header.{Header}
use Rattle.layout.specs.Positions.{told}
use Rattle.layout.specs.declared.Place.{Place}

-- A part by where it begins in the block, and its length.
unfoldable pub place_of : (pos : ℕ) (part : List ℕ) → Place
place_of pos part = told (record { pos = pos; len = length part })

-- A place lies within the block, and has the part. The laws `texture_row_lem` and `palette_row_lem` of proofs/Entries.antt say so of every place in a row.
pub record Inside (block part : List ℕ) (place : Place) : Type 0 where
  pub within : place.pos + place.len ≤ length block
  pub bytes : take place.len (drop place.pos block) ≡ part

-- Where name n of the c names in the list at pos is. 01, "Records": "data from 16 + 4c, then c names of 16 bytes".
abbrev pub name_place : (kind : Kind) (pos c n : ℕ) → Place
name_place kind pos c n = record { pos = pos + name_at kind c n; len = 16 }

-- Where a texture's data are: "Data lies at `tex_block_off` + offset. For format 5 it lies at `compressed1_block_off` + offset, then half as
-- many bytes at `compressed2_block_off` + half the offset. .. second data is an empty part for other formats."
abbrev pub data1_place : Header → Texture → Place
data1_place h t = place_of (data_at h t.word) t.parts.data1

abbrev pub data2_place : Header → Texture → Place
data2_place h t = place_of (second_at h t.word) t.parts.data2

-- The row of texture n of c: where its name begins, its word, where its data begin and how long they are, and the same of its second data.
unfoldable pub texture_row : Header → (c n : ℕ) → Texture → List ℕ
texture_row h c n t =
    (name_place kind.Texture h.texture_off c n).pos
    ∷ t.word
    ∷ (data1_place h t).pos
    ∷ (data1_place h t).len
    ∷ (data2_place h t).pos
    ∷ (data2_place h t).len
    ∷ []

-- The row of palette n of c: where its name begins, and its offset in bytes.
unfoldable pub palette_row : Header → (c n : ℕ) → Palette → List ℕ
palette_row h c n p = (name_place kind.Palette h.palette_off c n).pos ∷ p.off ∷ []

-- The rows of a finished reading, in list order, and what the call makes: it is declined where the reading is.
abbrev pub rows_in : Kind → Header → Contents → List ℕ
rows_in kind.Texture h c = pieces_from 0 (texture_row h (length c.textures)) c.textures
rows_in kind.Palette h c = pieces_from 0 (palette_row h (length c.palettes)) c.palettes

unfoldable pub rows_of : Kind → (block : List ℕ) → Answer Contents → Outcome (List ℕ)
rows_of kind block a = outcome_of a λ c. result (rows_in kind (header_of (take 60 block)) c)
