-- `Sum::add_all` meets its contract: the sum with the bytes that are left is the whole sum, and then has those of them so far. Assumes nothing.
use Rattle.std.proofs.Common.{◌≡◌, length, take}
use Rattle.cases.specs.Cases.{added_all}
use Rattle.cases.proofs.Sum.add_all.Given as goal

abbrev pub invariant-loop-rest : goal.invariant-loop-rest
invariant-loop-rest l = added_all l.self.0 l.rest ≡ added_all l.fn.self.0 l.fn.bytes

abbrev pub decreases-loop-rest : goal.decreases-loop-rest
decreases-loop-rest l = length l.rest

abbrev pub invariant-loop-b : goal.invariant-loop-b
invariant-loop-b l = l.self.0 ≡ added_all l.initial.self.0 (take l.b-index l.b-items)
