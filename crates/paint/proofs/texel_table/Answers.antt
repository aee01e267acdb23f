-- `paint::texel_table` meets its contract: each texel is what the closure gives for its index. Assumes nothing.
use borrow.Author.Rules.{rules}
use Rattle.paint.proofs.Tables.{table_of}
use Rattle.paint.proofs.texel_table.Goals as goal

pub returns : goal.returns
returns g c = table_of _ _ _ _ _ (λ i made later h call. search rules) _ c.from_fn.ensures.items
