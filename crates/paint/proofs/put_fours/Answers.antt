-- `paint::put_fours` meets its contract: the loop writes the four texels of byte after byte. Assumes nothing.
use Prim.Native.Nat.{ℕ, ◌+◌, ◌*◌, ◌/◌, ◌%◌, ◌^◌}
use mathlib.Core.Path.{◌≡◌, refl, ap}
use mathlib.Core.List.{List}
use native.Mathlib.Omega.{arith}
use lib.ListN.{get_or}
use borrow.Author.Rules.{rules}
use Rattle.paint.specs.Paint.{indexed_texel, pixel_at}
use Rattle.paint.proofs.Quads.{paint_none, paint_part, painted_all}
use Rattle.paint.proofs.Tables.{byte_bits}
use Rattle.paint.proofs.put_fours.Goals as goal

pub loop-i-init : goal.loop-i-init
loop-i-init c = paint_none _ _

pub loop-i-preserved : goal.loop-i-preserved
loop-i-preserved c =
    let bytes = c.args.bytes.now in
    let table = c.args.table.now in
    let i = c.loop-i.i in
    let f = indexed_texel 2 bytes table in
    let g : ℕ → List ℕ = (λ c. pixel_at table (get_or bytes i 0 / 2 ^ (2 * c) % 2 ^ 2)) in
    let next : 4 * i + 4 ≡ 4 * (i + 1) = omega arith in
    rw (← next)
    (paint_part f g (4 * i) 4 (16 * i) _ c.loop-i.invariant (omega arith) refl (omega arith)
    (c.put_texels.ensures.same g (λ k made h post. post)) (search rules)
    (λ j l. ap (pixel_at table) (byte_bits bytes i j l)))

pub returns : goal.returns
returns c =
    let done : c.loop-i.i ≡ c.args.count = omega arith in
    rw done at (painted_all (indexed_texel 2 c.args.bytes.now c.args.table.now) (4 * c.loop-i.i) c.loop-i.invariant)
