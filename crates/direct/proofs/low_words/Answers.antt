-- `direct::low_words` meets its contract: each word is what the closure gives of its byte. Assumes nothing.
use borrow.Author.Rules.{rules}
use Rattle.paint.proofs.Tables.{table_of}
use Rattle.direct.proofs.low_words.Goals as goal

pub returns : goal.returns
returns c = table_of _ _ _ _ _ (λ i made later h call. search rules) _ c.from_fn.ensures.items
