-- `compressed::decode_format5` meets its contract: the loop writes four rows of texels after four. Assumes nothing.
use Prim.Native.Nat.{◌*◌, ◌≤◌}
use Rattle.compressed.specs.Blocks.{compressed_texel}
use Rattle.paint.proofs.Quads.{Painting}
use Rattle.compressed.proofs.decode_format5.Given as goal

abbrev pub invariant-loop-i : goal.invariant-loop-i
invariant-loop-i l =
    (l.i ≤ l.num_blocks_y) × Painting (compressed_texel l.width l.data1 l.data2 l.palette.block.now l.palette.off) (l.width * (4 * l.i)) l.initial.out l.out
