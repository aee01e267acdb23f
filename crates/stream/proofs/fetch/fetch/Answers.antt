-- `stream::fetch::fetch` meets its contract: the last attempt is settled, or the next one is lent more. Assumes nothing.
use mathlib.Core.Path.{refl}
use native.Mathlib.Omega.{arith}
use Rattle.std.proofs.Common.{rules}
use Rattle.stream.proofs.Fetches.{fetch_start, fetched_settled, fetched_beyond, fetching_again}
use Rattle.stream.proofs.fetch.fetch.Goals as goal

pub loop-needed-init : goal.loop-needed-init
loop-needed-init g c = record {
  given = 0;
  kept = fetch_start _ refl (search rules);
  scripted = g.met.C.Attempt.scripted c.args.call.now;
  is = c.attempt-answer.ensures.answered;
  leaves = c.attempt-answer.ensures.leaves;
}

pub loop-needed-smaller : goal.loop-needed-smaller
loop-needed-smaller g c =
    let last = c.loop-needed.invariant in
    let again = fetching_again _ last.scripted _ last.kept last.is last.leaves {w = c.in-Some.needed} (search rules) (search rules) in
    omega (arith, again.1.1.left)

pub loop-needed-preserved : goal.loop-needed-preserved
loop-needed-preserved g c =
    let last = c.loop-needed.invariant in
    let again = fetching_again _ last.scripted _ last.kept last.is last.leaves {w = c.in-Some.needed} (search rules) (search rules) in
    record {
      given = c.in-Some.needed;
      kept = search (rules, again.1.1);
      scripted = last.scripted;
      is = rw (← again.1.0) (search rules);
      leaves = rw (← again.1.0) (search rules);
    }

pub returns : goal.returns
returns g c =
    let last = c.loop-needed.invariant in
    elim c.match-and_then.branch [
      | goal.in-Some+in_default-get w ↦ rw w.short_answers-is (fetched_beyond _ last.scripted _ last.kept last.is last.leaves {w = w.in-Some.needed} (search rules) (search rules))
      | goal.in_default w ↦ rw w.short_answers-is (fetched_settled _ last.scripted _ last.kept last.is last.leaves (search rules))
    ]
