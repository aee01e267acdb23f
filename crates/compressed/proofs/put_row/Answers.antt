-- `compressed::put_row` meets its contract: the four texels that are written are the row's bytes. Assumes nothing.
use mathlib.Core.Path.{refl}
use native.Mathlib.Omega.{arith}
use borrow.Author.Rules.{rules}
use Rattle.compressed.specs.Blocks.{row_bytes}
use Rattle.compressed.proofs.Rows.{chosen, row_put}
use Rattle.compressed.proofs.put_row.Goals as goal

pub returns : goal.returns
unfolding row_bytes
returns c =
    let f = chosen c.args.table.now c.args.row in
    row_put f _ _ c.args.out.now refl (omega arith) (c.put_texels.ensures.same f (λ k made h post. post)) (search rules)
