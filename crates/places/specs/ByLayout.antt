-- What leaves and private functions hand on, by the layout; no contract of a call that demands nothing cites it. Assumes nothing.
use Rattle.std.specs.Prelude.{ℕ, ◌*◌, cond, List, ltb, Option, None, Some}
use Rattle.util.specs.Outcome.{Outcome, result, refusal}
use Rattle.errors.specs.Refusal.{absent_number}
use Rattle.errors.specs.declared.Kind.TheVariants as kind
use Rattle.info_block.specs.InfoBlock.{list_at, entry_number}
use Rattle.layout.specs.declared.Layout.{Layout}
use Rattle.places.specs.Sources.{places_at}
use Rattle.places.specs.declared.Places.{Places}

-- The offset of the palette that is chosen, by the layout. "palette number not below its count", 8.
unfoldable pub chosen_by : (block : List ℕ) → Layout → Option ℕ → Outcome (Option ℕ)
chosen_by block l None = result None
chosen_by block l (Some k) =
    cond (ltb k l.palettes)
    (result (Some (8 * entry_number kind.Palette 2 (list_at kind.Palette l.header.palette_off l.palettes block) k)))
    (refusal (absent_number kind.Palette) 0)

-- The places of texture n, beside the palette's offset.
unfoldable pub places_by : (block : List ℕ) → Layout → (n : ℕ) → Option ℕ → Places
places_by block l n palette =
    places_at l.header (entry_number kind.Texture 4 (list_at kind.Texture l.header.texture_off l.textures block) n) palette
