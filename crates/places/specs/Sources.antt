-- What a picture is made from, and where in the block that is. Assumes nothing.
use Rattle.std.specs.Prelude.{ℕ, List, take, Option, None, Some}
use Rattle.util.specs.Outcome.{Outcome, result, ◌>>=◌}
use Rattle.errors.specs.declared.Kind.TheVariants as kind
use Rattle.scripts.specs.Script.{Answer, outcome_of}
use Rattle.reading.specs.Tex.{Data, Palette, Contents, header_of}
pub use Rattle.layout.specs.Positions.{pal_place_at, part_at}
use Rattle.layout.specs.Positions.{data1_at, data2_at}
use Rattle.layout.specs.declared.Header.{Header}
use Rattle.nitro.specs.Calls.{entry}
use Rattle.layout.specs.declared.Place.{Place}
use Rattle.places.specs.declared.Places.{Places}

-- What a picture is made from: the word and data of a texture, the offset of the palette chosen for it, if one was, and the palette block.
pub record Sources : Type 0 where
  pub word : ℕ
  pub parts : Data
  pub palette : Option ℕ
  pub pal_block : List ℕ

-- 01, "Rust idioms to redo": "`Option<&Palette>`: an enum with a number, the palette bytes beside it." A palette is chosen by its number, and
-- a picture has it by its offset.
unfoldable pub chosen_of : Option ℕ → List Palette → Outcome (Option ℕ)
chosen_of None palettes = result None
chosen_of (Some k) palettes = entry kind.Palette (λ p. Some p.off) palettes k

-- "A picture from a block: reading, 7, 8 (also where the palette is unneeded), .."
unfoldable pub sources_of : (n : ℕ) → Option ℕ → Answer Contents → Outcome Sources
sources_of n choice a = outcome_of a λ c. do
  texture ← entry kind.Texture (λ t. t) c.textures n
  palette ← chosen_of choice c.palettes
  result (record { word = texture.word; parts = texture.parts; palette = palette; pal_block = c.pal_block })

-- Where the palette block is.
unfoldable pub pal_place_of : (block : List ℕ) → Answer Contents → Outcome Place
pal_place_of block a = outcome_of a λ c. result (pal_place_at (header_of (take 60 block)))

-- The places of a picture's parts. 01, "Modules" 5: "Data lies at `tex_block_off` + offset. For format 5 it lies at
-- `compressed1_block_off` + offset, then half as many bytes at `compressed2_block_off` + half the offset."
abbrev pub places_at : Header → (word : ℕ) → Option ℕ → Places
places_at h word palette = record {
  params = record { 0 = word };
  data1 = data1_at h word;
  data2 = data2_at h word;
  palette = palette;
  pal_block = pal_place_at h;
}

unfoldable pub places_of : (n : ℕ) → Option ℕ → (block : List ℕ) → Answer Contents → Outcome Places
places_of n choice block a = do
  sources ← sources_of n choice a
  result (places_at (header_of (take 60 block)) sources.word sources.palette)

-- All parts at a picture's places.
abbrev pub sources_at : (block : List ℕ) → Places → Sources
sources_at block places = record {
  word = places.params.0;
  parts = record { data1 = part_at block places.data1; data2 = part_at block places.data2 };
  palette = places.palette;
  pal_block = part_at block places.pal_block;
}
