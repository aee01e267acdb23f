-- `compressed::put_blocks` meets its contract: the loop writes block after block, four rows of texels at once. Assumes nothing.
use Prim.Native.Nat.{ℕ, ◌<◌}
use mathlib.Core.Path.{◌≡◌, ap, ◌∙◌}
use native.Mathlib.Omega.{arith}
use lib.ListN.{length, get_or}
use Rattle.compressed.specs.Blocks.{row_bytes}
use borrow.Author.Rules.{rules}
use Rattle.compressed.proofs.Rows.{blocks_more, blocks_all, colors_four, length_row_bytes, row_texels, bytes_there}
use Rattle.compressed.proofs.put_blocks.Goals as goal

pub loop-i-preserved : goal.loop-i-preserved
loop-i-preserved c =
    let a = c.args in
    let table = c.block_colors-table.ensures in
    let kept : length c.put_block.new.out ≡ length c.loop-i.out = search rules in
    let bytes : (k : ℕ) → get_or a.data1.now k 0 < 256 = search rules in
    blocks_more c.loop-i.invariant (omega arith) _ c.put_block.ensures (omega arith)
    (λ r m. ap (row_bytes _) (bytes_there a.data1.now _ _ r (omega arith))
    ∙ (row_texels a.width a.row c.loop-i.i r _ a.data1.now a.data2.now a.palette.block.now a.palette.off m (omega arith) (omega arith)
    c.view.result c.view.ensures table bytes (omega arith)))
    (λ r m. length_row_bytes _ _ (colors_four _ _ _ table))
    kept

pub returns : goal.returns
returns c = blocks_all c.loop-i.invariant (omega arith) (omega arith)
