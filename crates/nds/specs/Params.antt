-- The fields of a texture word w. The sentence that they render is 01's, in "Records", which begins "Texture word, 32 bits": each
-- definition has its part of it. Assumes nothing.
use Rattle.std.specs.Prelude.{ℕ, ◌*◌, ◌/◌, ◌%◌, ◌^◌, Bool, eqb}

-- Bit k is set.
abbrev pub has_bit : (k w : ℕ) → Bool
has_bit k w = eqb (w / 2 ^ k % 2) 1

-- "0 to 15 offset in units of 8": in bytes.
abbrev pub offset : ℕ → ℕ
offset w = w % 2 ^ 16 * 8

-- "16 and 17 repeat in S and T"
abbrev pub repeat_s : ℕ → Bool
repeat_s w = has_bit 16 w

abbrev pub repeat_t : ℕ → Bool
repeat_t w = has_bit 17 w

-- "18 and 19 mirror in S and T"
abbrev pub mirror_s : ℕ → Bool
mirror_s w = has_bit 18 w

abbrev pub mirror_t : ℕ → Bool
mirror_t w = has_bit 19 w

-- "width is 8 shifted left by bits 20 to 22": in texels.
unfoldable pub width : ℕ → ℕ
width w = 8 * 2 ^ (w / 2 ^ 20 % 2 ^ 3)

-- "height likewise by 23 to 25"
unfoldable pub height : ℕ → ℕ
height w = 8 * 2 ^ (w / 2 ^ 23 % 2 ^ 3)

-- "26 to 28 format"
abbrev pub format : ℕ → ℕ
format w = w / 2 ^ 26 % 2 ^ 3

-- "29 colour 0 clear"
abbrev pub color0_transparent : ℕ → Bool
color0_transparent w = has_bit 29 w

-- "30 and 31 transform mode"
abbrev pub transform_mode : ℕ → ℕ
transform_mode w = w / 2 ^ 30 % 2 ^ 2
