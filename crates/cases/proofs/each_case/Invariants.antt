-- `each_case` meets its contract: the cases so far were handed on. Assumes nothing.
use Rattle.cases.specs.Cases.{CalledAtCases}
use Rattle.cases.proofs.each_case.Given as goal

abbrev pub invariant-loop-n : goal.invariant-loop-n
invariant-loop-n g l = goal.F-IsAlwaysCallable g l.show × CalledAtCases (λ from case to. goal.F-step g from case tt to) l.len l.input l.n l.fn.show l.show
