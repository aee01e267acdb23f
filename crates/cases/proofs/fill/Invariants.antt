-- `cases::fill` meets its contract. Assumes nothing.
use Rattle.std.proofs.Common.{◌≡◌, ℕ, ◌<◌, length, get_or}
use Rattle.cases.specs.Cases.{pattern_at}
use Rattle.cases.proofs.fill.Given as goal

abbrev pub invariant-loop-i : goal.invariant-loop-i
invariant-loop-i l = (length l.out ≡ length l.initial.out) × ((k : ℕ) → k < l.i → get_or l.out k 0 ≡ pattern_at k)
