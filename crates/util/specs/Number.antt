-- Numbers made of bytes. Assumes nothing.
use Rattle.std.specs.Prelude.{ℕ, ◌+◌, ◌*◌, List, [], ◌∷◌, take, drop}

-- 01, "Records": "Whole numbers are unsigned and little-endian": the first byte counts once, and the rest 256 times.
abbrev pub little_endian : List ℕ → ℕ
little_endian [] = 0
little_endian (b ∷ bs) = b + 256 * little_endian bs

-- 01, "Records": "positions count bytes from the block's start". The number of `size` bytes at `pos`.
unfoldable pub number_at : (size pos : ℕ) → List ℕ → ℕ
number_at size pos block = little_endian (take size (drop pos block))
