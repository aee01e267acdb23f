-- 01's fetching run, attempt after attempt, for every call that goes by the reading: it ends, and in what. Assumes nothing.
use Rattle.std.specs.Prelude.{Option, None, Some}
use Prim.Native.Nat.{ℕ, zero, suc, ◌+◌, ◌-◌, ◌≤◌, ◌<◌}
use mathlib.Core.Path.{◌≡◌, refl, sym, ap}
use mathlib.Core.Bool.{Bool, true, false}
use mathlib.Core.List.{List, [], ◌∷◌}
use native.Mathlib.Omega.{arith}
use lib.ListN.{length, take}
use lib.Dec.{leb}
use borrow.Author.Tests.{leb-true, leb-false}
use Rattle.util.specs.Outcome.{Outcome, refusal}
use Rattle.reading.specs.Tex.{read_tex}
use Rattle.stream.specs.Fetch.{shortness, Call, Stops, Attempts, short_ones, Fetched, reading_call, picture_call, Ran, FetchLaws}
use Rattle.laws.proofs.Calls.{Scripted, reading_scripted, picture_scripted}
use Rattle.stream.proofs.Fetches.{needs_short, Fetching, fetch_start, fetched, fetched_settled, fetched_beyond, fetching_again}
use Rattle.stream.proofs.Counts.{bound_reached}

module _ {A B : Type 0} (call : Call A B)
    (scripted : (output : B) → Scripted read_tex (λ b. call.answer b output) (λ b. call.leaves b output) output) (b : List ℕ) where
  -- one more attempt before is one more short answer
  one_more : (next : ℕ) (later : List ℕ) (s : Option ℕ) → short_ones (next ∷ later) s ≡ 1 + short_ones later s
  one_more next later None = omega arith
  one_more next later (Some w) = omega arith

  comes : (later : List ℕ) {given count : ℕ} (output : B) {last : Outcome A} {left : B} → Fetching b given count
      → Attempts call b given output later last left → Fetched call b output last left (count + short_ones later (shortness last))
  comes [] {given} {count} output {last} {left} kept (e, l, stops) = go (shortness last) refl stops
    where
      go : (s : Option ℕ) → shortness last ≡ s → Stops b s → Fetched call b output last left (count + short_ones [] s)
      go None q stop = let f = fetched_settled call scripted b kept (sym e) (sym l) (sym q) in fetched call b f.answered f.leaving (omega (arith, f.counted))
      go (Some w) q stop = let f = fetched_beyond call scripted b kept (sym e) (sym l) (sym q) stop in fetched call b f.answered f.leaving (omega (arith, f.counted))
  comes (next ∷ later) {given} {count} output {last} {left} kept (e, within, more) =
      let again = fetching_again call scripted b kept refl refl (ap shortness (sym e)) within in
      let rest = comes later output again.1.1 (rw again.1.0 at more) in
      fetched call b rest.answered rest.leaving (omega (arith, one_more next later (shortness last), rest.counted))

  -- an attempt, and the run that follows it, if one does
  attempt : {given count : ℕ} (output : B) → Fetching b given count
      → ((next : ℕ) → given < next → next ≤ length b → Fetching b next (count + 1) → Ran call b next output) → Ran call b given output
  attempt {given} {count} output kept onward = go (shortness (call.answer (take given b) output)) refl
    where
      stop : Stops b (shortness (call.answer (take given b) output)) → Ran call b given output
      stop s = record { later = []; last = call.answer (take given b) output; left = call.leaves (take given b) output; is = (refl, refl, s) }

      again : (w : ℕ) → call.answer (take given b) output ≡ refusal 1 w → w ≤ length b → call.leaves (take given b) output ≡ output
          → Ran call b w output → Ran call b given output
      again w e within l rest = record { later = w ∷ rest.later; last = rest.last; left = rest.left; is = (e, within, rw l rest.is) }

      go : (s : Option ℕ) → shortness (call.answer (take given b) output) ≡ s → Ran call b given output
      go None q = stop (rw q tt)
      go (Some w) q = pick (leb w (length b)) refl
        where
          pick : (t : Bool) → leb w (length b) ≡ t → Ran call b given output
          pick false z = stop (rw q (leb-false w (length b) z))
          pick true z =
              let within = leb-true w (length b) z in
              let next = fetching_again call scripted b kept refl refl (sym q) within in
              again w (needs_short (sym q)) within next.1.0 (onward w next.0 within next.1.1)

  ends : (left : ℕ) {given count : ℕ} (output : B) → length b - given ≤ left → Fetching b given count → Ran call b given output
  ends zero output enough kept = attempt output kept (λ next past within more. absurd (omega arith))
  ends (suc left) output enough kept = attempt output kept (λ next past within more. ends left output (omega arith) more)

  -- from the first attempt on
  fetching_ends : (output : B) → Ran call b 0 output
  fetching_ends output = ends (length b) output (omega arith) (fetch_start b refl refl)

  fetching_comes : (output : B) (r : Ran call b 0 output)
      → Fetched call b output r.last r.left (short_ones r.later (shortness r.last))
  fetching_comes output r =
      let f = comes r.later output (fetch_start b refl refl) r.is in
      fetched call b f.answered f.leaving (omega (arith, f.counted))

-- a reading's fetching run and a picture's
pub fetch_laws : FetchLaws
fetch_laws = record {
  reading_ends = λ block. fetching_ends reading_call (λ _. reading_scripted) block tt;
  picture_ends = λ n choice block output. fetching_ends (picture_call n choice) (picture_scripted n choice) block output;
  reading_comes = λ block r. fetching_comes reading_call (λ _. reading_scripted) block tt r;
  picture_comes = λ n choice block output r. fetching_comes (picture_call n choice) (picture_scripted n choice) block output r;
  reached = bound_reached;
}
