-- `name::Name::safe_bytes` meets its contract: the loop writes one safe byte more. Assumes nothing.
use borrow.Author.Rules.{rules}
use mathlib.Core.Path.{◌≡◌}
use lib.ListN.{length, get_or}
use native.Mathlib.Omega.{arith}
use Rattle.std.proofs.lemmas.List.{get_or_default}
use Rattle.std.proofs.lemmas.List.Edits.{map_over_more}
use Rattle.name.specs.Name.{safe_byte}
use Rattle.name.proofs.Name.safe_bytes.Goals as goal

pub loop-b-preserved : goal.loop-b-preserved
loop-b-preserved c =
    let old = get_or c.loop-b.b-items c.loop-b.b-index 0 in
    let sized : length c.args.self.0 ≡ 16 = search rules in
    let long : length c.loop-b.b-items ≡ 16 = search rules in
    rw c.safe_byte.ensures
    (map_over_more safe_byte c.args.self.0 c.loop-b.b-items c.loop-b.b-index old (omega (arith, sized)) c.loop-b.invariant
    (get_or_default c.loop-b.b-items c.loop-b.b-index 0 old (omega (arith, long))))
