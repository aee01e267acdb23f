-- `paint::put_fours` meets its contract: the loop writes four texels after four. Assumes nothing.
use Prim.Native.Nat.{◌*◌}
use Rattle.paint.specs.Paint.{indexed_texel}
use Rattle.paint.proofs.Quads.{Painting}
use Rattle.paint.proofs.put_fours.Given as goal

abbrev pub invariant-loop-i : goal.invariant-loop-i
invariant-loop-i l = Painting (indexed_texel 2 l.bytes l.table) (4 * l.i) l.initial.out l.out
