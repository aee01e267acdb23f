-- `paint::decode_bytes` meets its contract: each texel is by its byte, from the table or without it. Assumes nothing.
use Prim.Native.Nat.{ℕ, ◌<◌}
use borrow.Author.Rules.{rules}
use Rattle.paint.specs.Paint.{pixel_at}
use Rattle.paint.proofs.Tables.{made_of}
use Rattle.paint.proofs.decode_bytes.Goals as goal

pub returns-else-data1-lt512 : goal.returns-else-data1-lt512
returns-else-data1-lt512 g c = λ f makes.
    let post = goal.F-post g c.args.texel in
    let made : (k : ℕ) → k < 256 → post k (pixel_at c.from_fn-table.result k) =
    made_of _ post _ _ _ (λ i x later h call. search rules) _ c.from_fn-table.ensures.items in
    c.put_bytes-else-data1-lt512.ensures f (λ n x h (byte, is). makes n x h (byte, rw is (made _ byte)))
