-- What the functions of one texel demand. Assumes nothing.
use Rattle.std.specs.Prelude.{ℕ, ◌+◌, ◌*◌, ◌≤◌}
use Rattle.texels.specs.Texels.{block_of}

-- The data of the block of the texel in column x and row y of a block-compressed texture are there.
pub record BlockThere (width x y length1 length2 : ℕ) : Type 0 where
  pub texels : 4 * block_of width x y + 4 ≤ length1
  pub extras : 2 * block_of width x y + 2 ≤ length2
