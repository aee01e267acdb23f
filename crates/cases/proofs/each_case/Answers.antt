-- `each_case` meets its contract: the loop ends at the last case. Assumes nothing.
use Rattle.std.proofs.Common.{◌≡◌, arith}
use Rattle.cases.specs.Cases.{field_of}
use Rattle.cases.proofs.each_case.Goals as goal

pub returns : goal.returns
returns g c =
    let last : c.loop-n.n ≡ field_of 0 c.args.input.now = omega arith in
    (c.loop-n.show, rw (← last) c.loop-n.invariant.1)
