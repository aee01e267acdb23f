-- `compressed::put_blocks` meets its contract: the loop writes block after block, four rows of texels at once. Assumes nothing.
use Rattle.compressed.specs.Blocks.{rows_texel}
use Rattle.compressed.proofs.Rows.{BlocksDone}
use Rattle.compressed.proofs.put_blocks.Given as goal

abbrev pub invariant-loop-i : goal.invariant-loop-i
invariant-loop-i l = BlocksDone l.width (rows_texel l.width l.data1 l.data2 l.palette.block.now l.palette.off l.row) l.i l.initial.out l.out
