-- `paint::put_texels` meets its contract: the loop writes texel after texel. Assumes nothing.
use Rattle.paint.proofs.Quads.{PaintingMade}
use Rattle.paint.proofs.put_texels.Given as goal

abbrev pub invariant-loop-n : goal.invariant-loop-n
invariant-loop-n g l = PaintingMade (goal.F-post g l.texel) l.n l.initial.out l.out
