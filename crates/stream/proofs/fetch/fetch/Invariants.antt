-- `stream::fetch::fetch` meets its contract: the loop keeps what the last attempt answered and left. Assumes nothing.
use Prim.Native.Nat.{◌-◌}
use Rattle.errors.specs.Refusal.{result_outcome}
use Rattle.stream.specs.Fetch.{short_answers}
use Rattle.stream.proofs.Fetches.{Attempted}
use Rattle.stream.proofs.fetch.fetch.Given as goal

abbrev pub invariant-loop-needed : goal.invariant-loop-needed
invariant-loop-needed g l = Attempted (g.C.Attempt.call l.call) l.block l.fn.out (result_outcome l.answer) l.out l.short_answers

abbrev pub decreases-loop-needed : goal.decreases-loop-needed
decreases-loop-needed g l = short_answers l.block - l.short_answers
