-- The lines of a listing: 01, "Listing program". Assumes nothing.
use Rattle.std.specs.Prelude.{ℕ, List, [], ◌∷◌}
use Rattle.nds.specs.Params.{format, width, height}
use Rattle.nds.specs.Formats.{alpha_word}
use Rattle.nds.specs.Wrap.{wrap_word}
use Rattle.name.specs.Name.{safe_text}
use Rattle.nitro.specs.declared.tex.TextureRecord.{TextureRecord}
use Rattle.nitro.specs.declared.tex.PaletteRecord.{PaletteRecord}
use Rattle.text.specs.Text.{decimal, line}

-- 01, "Listing program": "Texture lines: number, safe name, format, width, height, wrap S, wrap T, alpha kind."
abbrev pub texture_fields : (number : ℕ) → TextureRecord → List (List ℕ)
texture_fields number t =
    decimal number
    ∷ safe_text t.name.0
    ∷ decimal (format t.params.0)
    ∷ decimal (width t.params.0)
    ∷ decimal (height t.params.0)
    ∷ wrap_word t.wrap_s
    ∷ wrap_word t.wrap_t
    ∷ alpha_word t.alpha
    ∷ []

unfoldable pub texture_line : (number : ℕ) → TextureRecord → List ℕ
texture_line number t = line (texture_fields number t)

-- "Palette lines: number, safe name, offset in bytes."
unfoldable pub palette_line : (number : ℕ) → PaletteRecord → List ℕ
palette_line number p = line (decimal number ∷ safe_text p.name.0 ∷ decimal p.off ∷ [])
