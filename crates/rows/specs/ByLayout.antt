-- The rows by the header and a list, as the private functions put them; no public contract cites it. Assumes nothing.
use Rattle.std.specs.Prelude.{ℕ, ◌+◌, ◌*◌, List, [], ◌∷◌, None}
use Rattle.output.specs.Output.{pieces}
use Rattle.errors.specs.declared.Kind.{Kind}
use Rattle.errors.specs.declared.Kind.TheVariants as kind
use Rattle.info_block.specs.InfoBlock.{NameList, list_at, name_at, entry_number}
use Rattle.layout.specs.Positions.{list_pos, count_of, told}
use Rattle.layout.specs.declared.Header.{Header}
use Rattle.layout.specs.declared.Layout.{Layout}
use Rattle.places.specs.Sources.{places_at}
use Rattle.places.specs.declared.Places.{Places}

-- Where name n of a list of c entries begins in the block.
abbrev pub name_pos : Kind → Header → (c n : ℕ) → ℕ
name_pos k h c n = list_pos k h + name_at k c n

abbrev pub places_row : (name : ℕ) → Places → List ℕ
places_row name places =
    name
    ∷ places.params.0
    ∷ (told places.data1).pos
    ∷ places.data1.len
    ∷ (told places.data2).pos
    ∷ places.data2.len
    ∷ []

-- The row of entry n as a texture's, and as a palette's.
unfoldable pub texture_row : Kind → Header → NameList → (n : ℕ) → List ℕ
texture_row k h list n = places_row (name_pos k h list.count n) (places_at h (entry_number k 4 list n) None)

unfoldable pub palette_row : Kind → Header → NameList → (n : ℕ) → List ℕ
palette_row k h list n = name_pos k h list.count n ∷ 8 * entry_number k 2 list n ∷ []

-- The row of entry n of a list of kind k, and how many numbers it has.
abbrev pub row : Kind → Header → NameList → (n : ℕ) → List ℕ
row kind.Texture = texture_row kind.Texture
row kind.Palette = palette_row kind.Palette

abbrev pub row_length : Kind → ℕ
row_length kind.Texture = 6
row_length kind.Palette = 2

-- All rows of a list, one behind the other; and so of a layout's list of kind k.
abbrev pub rows : Kind → Header → NameList → List ℕ
rows k h list = pieces (row k h list) list.count

abbrev pub rows_by : Kind → (block : List ℕ) → Layout → List ℕ
rows_by k block l = rows k l.header (list_at k (list_pos k l.header) (count_of k l) block)
