-- The sample block of 01's section "Listing program". Assumes nothing.
use Prim.Native.Nat.{ℕ}
use mathlib.Core.List.{List, [], ◌∷◌, ◌++◌}
use lib.ListN.{replicate}

-- The name leaf, in its 16 bytes.
unfoldable pub leaf : List ℕ
leaf = 0x6C ∷ 0x65 ∷ 0x61 ∷ 0x66 ∷ replicate 12 0

-- 01, "Listing program": "Sample, 208 bytes, those not named here zero: stamp; `texture_off` 60, one texture named leaf, word 2C010000 hex,
-- datum size 8; `palette_off` 104, one palette of the same name, offset 0, datum size 4; `tex_block_off` 144; `pal_block_off` 176, 4
-- units." The positions follow from 01's "Records".
unfoldable pub sample : List ℕ
sample =
    -- the header
    (0x54 ∷ 0x45 ∷ 0x58 ∷ 0x30 ∷ [])  -- 0 to 3: the stamp `TEX0`
    ++ replicate 10 0  -- 4 to 13
    ++ (60 ∷ 0 ∷ [])  -- 14, 15: `texture_off`
    ++ replicate 4 0  -- 16 to 19
    ++ (144 ∷ 0 ∷ 0 ∷ 0 ∷ [])  -- 20 to 23: `tex_block_off`
    ++ replicate 24 0  -- 24 to 47
    ++ (4 ∷ 0 ∷ [])  -- 48, 49: `pal_block_len_shr_3`
    ++ replicate 2 0  -- 50, 51
    ++ (104 ∷ 0 ∷ 0 ∷ 0 ∷ [])  -- 52 to 55: `palette_off`
    ++ (176 ∷ 0 ∷ 0 ∷ 0 ∷ [])  -- 56 to 59: `pal_block_off`
    -- the texture list
    ++ (0 ∷ 1 ∷ [])  -- 60, 61: the dummy, the count
    ++ replicate 14 0  -- 62 to 75
    ++ (8 ∷ 0 ∷ [])  -- 76, 77: the datum size
    ++ replicate 2 0  -- 78, 79
    ++ (0x00 ∷ 0x00 ∷ 0x01 ∷ 0x2C ∷ [])  -- 80 to 83: the word
    ++ replicate 4 0  -- 84 to 87
    ++ leaf  -- 88 to 103: the name
    -- the palette list
    ++ (0 ∷ 1 ∷ [])  -- 104, 105: the dummy, the count
    ++ replicate 14 0  -- 106 to 119
    ++ (4 ∷ 0 ∷ [])  -- 120, 121: the datum size
    ++ replicate 2 0  -- 122, 123
    ++ (0 ∷ 0 ∷ [])  -- 124, 125: the offset
    ++ replicate 2 0  -- 126, 127
    ++ leaf  -- 128 to 143: the name
    ++ replicate 32 0  -- 144 to 175: the texture's data, 64 texels of 4 bits
    ++ replicate 32 0  -- 176 to 207: the palette block, 4 units of 8 bytes
