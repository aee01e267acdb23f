-- The formats' facts, by the format's number f, and what they say of a texture word w. Assumes nothing.
use Rattle.std.specs.Prelude.{ℕ, ◌*◌, ◌/◌, Bool, cond, ◌&&◌, ◌||◌, [], ◌∷◌, get_or, leb, eqb, List, codes}
use Rattle.nds.specs.Params as Params
use Rattle.nds.specs.declared.texture_formats.Alpha.{Alpha}
use Rattle.nds.specs.declared.texture_formats.Alpha.TheVariants.{Opaque, Transparent, Translucent}
use Rattle.nds.specs.declared.texture_formats.AlphaDesc.{AlphaDesc}
use Rattle.nds.specs.declared.texture_formats.AlphaDesc.TheVariants.{Always, TransparentDependingOnParams}
use Rattle.nds.specs.declared.texture_formats.FormatDesc.{FormatDesc}
use Rattle.nds.specs.declared.texture_formats.TextureFormat.{TextureFormat}
use Rattle.nds.specs.declared.texture_formats.TextureFormat.TheVariants.{NoTexture, A3I5, Palette4, Palette16, Palette256, Compressed, A5I3, Direct}

-- The format's number in a texture word: GBATEK's "DS 3D Texture Formats" lists the formats by it.
abbrev pub number_of : TextureFormat → ℕ
number_of NoTexture = 0
number_of A3I5 = 1
number_of Palette4 = 2
number_of Palette16 = 3
number_of Palette256 = 4
number_of Compressed = 5
number_of A5I3 = 6
number_of Direct = 7

-- 01, "Records": "bits per texel 0, 8, 2, 4, 8, 2, 8, 16"
abbrev pub bits_per_texel : ℕ → ℕ
bits_per_texel f = get_or (0 ∷ 8 ∷ 2 ∷ 4 ∷ 8 ∷ 2 ∷ 8 ∷ 16 ∷ []) f 0

-- "palette needed for 1 to 6"
abbrev pub palette_needed : ℕ → Bool
palette_needed f = leb 1 f && leb f 6

-- "alpha opaque for 0, translucent for 1 and 6, transparent for 5 and 7, and for 2 to 4 transparent with bit 29, else opaque": the last
-- is the case `TransparentDependingOnParams`.
abbrev pub alpha_desc : ℕ → AlphaDesc
alpha_desc f =
    cond (eqb f 0) (Always Opaque)
    (cond (eqb f 1 || eqb f 6) (Always Translucent) (cond (eqb f 5 || eqb f 7) (Always Transparent) TransparentDependingOnParams))

-- "The formats' facts stand in a table of eight rows (`DESCS`)": row f.
unfoldable pub desc : ℕ → FormatDesc
desc f = record { requires_palette = palette_needed f; bpp = bits_per_texel f; alpha_desc = alpha_desc f }

-- "for 2 to 4 transparent with bit 29, else opaque"
abbrev pub alpha_with : (bit29 : Bool) → AlphaDesc → Alpha
alpha_with bit29 (Always a) = a
alpha_with bit29 TransparentDependingOnParams = cond bit29 Transparent Opaque

unfoldable pub alpha : ℕ → Alpha
alpha w = alpha_with (Params.color0_transparent w) (alpha_desc (Params.format w))

-- The word for an alpha kind: "alpha opaque for 0, translucent for 1 and 6, transparent for 5 and 7, .."
unfoldable pub alpha_word : Alpha → List ℕ
alpha_word Opaque = codes "opaque"
alpha_word Transparent = codes "transparent"
alpha_word Translucent = codes "translucent"

-- "Data length is width times height times bits, divided by 8."
unfoldable pub data_length : ℕ → ℕ
data_length w = Params.width w * Params.height w * bits_per_texel (Params.format w) / 8

-- 01, "Modules" 5: "For format 5 .. then half as many bytes", and "second data is an empty part for other formats".
unfoldable pub second_length : ℕ → ℕ
second_length w = cond (eqb (Params.format w) 5) (data_length w / 2) 0
