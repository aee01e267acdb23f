-- `paint::put_texels` meets its contract: the loop writes texel after texel. Assumes nothing.
use mathlib.Core.Path.{◌≡◌}
use native.Mathlib.Omega.{arith}
use Rattle.paint.proofs.Quads.{made_all, painted_as}
use Rattle.paint.proofs.put_texels.Goals as goal

pub returns-clause-same : goal.returns-clause-same
returns-clause-same g c =
    let done : c.loop-n.n ≡ c.args.count = omega arith in
    λ f makes. painted_as f _ (rw done at (made_all c.loop-n.invariant)) makes
