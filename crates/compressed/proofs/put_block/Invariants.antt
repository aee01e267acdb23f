-- `compressed::put_block` meets its contract: the loop writes row after row of the block. Assumes nothing.
use Rattle.compressed.specs.Blocks.{row_bytes, byte_of}
use Rattle.compressed.proofs.Rows.{BlockPutting}
use Rattle.compressed.proofs.put_block.Given as goal

abbrev pub invariant-loop-i : goal.invariant-loop-i
invariant-loop-i l = BlockPutting l.width l.x (λ r. row_bytes l.table (byte_of l.rows r)) l.i l.initial.out l.out
