-- A picture by what is made of it. Assumes nothing.
use Prim.Native.Nat.{ℕ, ◌+◌, ◌-◌, ◌≤◌}
use mathlib.Core.Path.{◌≡◌, refl, ap, ◌∙◌}
use mathlib.Core.Bool.{Bool, true, false}
use mathlib.Core.List.{List, ◌++◌}
use lib.ListN.{length, take, drop, replicate, length-replicate}
use lib.Seq.{drop-append_seam}
use lib.Dec.{leb}
use borrow.Author.Tests.{leb-true, leb-false}
use Rattle.std.specs.Prelude.{Result, Ok, Err}
use Rattle.util.specs.Outcome.{Outcome, result, refusal}
use Rattle.errors.specs.Refusal.{result_outcome, refusal_number}
use Rattle.errors.specs.declared.Refusal.{Refusal}
use Rattle.output.specs.Output.{write_outcome, write_output, Writes}
use Rattle.output.proofs.Outputs.{outcome_there, output_there, text_there, outcome_short, output_short, sets_start}
use Rattle.answer_bytes.specs.declared.TheConstants.{ROOM, UNWRITTEN}
use Rattle.answer_bytes.specs.Answer.{extended, drawn_bytes, outcome_bytes, fitting, with_picture, rest_of}

-- what a call that writes what is made answers, and what it draws
made_bytes : (made : Outcome (List ℕ)) (entry : List ℕ) (answer : Result ℕ Refusal) → result_outcome answer ≡ write_outcome made entry
    → drawn_bytes answer (write_output made entry) ≡ outcome_bytes (fitting (length entry) made)
unfolding write_outcome
made_bytes (refusal number returned) entry (Ok n) told = absurd (cc (told))
made_bytes (refusal number returned) entry (Err refused) told = let same : refusal_number refused ≡ number = cc (told) in rw same refl
made_bytes (result bytes) entry answer told = go (leb (length bytes) (length entry)) refl answer told
  where
    go : (t : Bool) → leb (length bytes) (length entry) ≡ t → (answer : Result ℕ Refusal) → result_outcome answer ≡ write_outcome (result bytes) entry
        → drawn_bytes answer (write_output (result bytes) entry) ≡ outcome_bytes (fitting (length entry) (result bytes))
    go true e (Ok n) told =
        let fits : length bytes ≤ length entry = leb-true _ _ e in
        let all : n ≡ length bytes = cc (told, outcome_there bytes entry fits) in
        let first : take (length bytes) (write_output (result bytes) entry) ≡ bytes = rw (output_there bytes entry fits) (text_there bytes entry fits) in
        rw (e, all, first)
    go true e (Err refused) told = absurd (cc (told, outcome_there bytes entry (leb-true _ _ e)))
    go false e (Ok n) told = absurd (cc (told, outcome_short bytes entry (leb-false _ _ e)))
    go false e (Err refused) told =
        let same : refusal_number refused ≡ 11 = cc (told, outcome_short bytes entry (leb-false _ _ e)) in
        rw (e, same)

-- so it is put
pub drawn_made : (made : Outcome (List ℕ)) (old : List ℕ) (answer : Result ℕ Refusal)
    → result_outcome answer ≡ write_outcome made (replicate (ROOM - (length old + 1)) UNWRITTEN)
    → extended old (drawn_bytes answer (write_output made (replicate (ROOM - (length old + 1)) UNWRITTEN))) ≡ with_picture old made
unfolding with_picture
drawn_made made old answer told =
    let k : ℕ = ROOM - (length old + 1) in
    ap (extended old) (made_bytes made (replicate k UNWRITTEN) answer told ∙ ap (λ room. outcome_bytes (fitting room made)) (length-replicate k UNWRITTEN))

-- and what is behind it is kept
pub rest_kept : (made : Outcome (List ℕ)) (before : List ℕ) (answer : Result ℕ Refusal) (after : List ℕ) → Writes made before (result_outcome answer) after
    → rest_of answer after ≡ rest_of answer before
unfolding write_outcome write_output
rest_kept (refusal number returned) before (Ok n) after w = absurd (cc (w.outcome))
rest_kept (refusal number returned) before (Err refused) after w = w.output
rest_kept (result bytes) before answer after w = go (leb (length bytes) (length before)) refl answer w
  where
    go : (t : Bool) → leb (length bytes) (length before) ≡ t → (answer : Result ℕ Refusal) → Writes (result bytes) before (result_outcome answer) after
        → rest_of answer after ≡ rest_of answer before
    go true e (Ok n) w =
        let fits : length bytes ≤ length before = leb-true _ _ e in
        let all : n ≡ length bytes = cc (w.outcome, outcome_there bytes before fits) in
        let left : after ≡ bytes ++ drop (length bytes) before = w.output ∙ output_there bytes before fits ∙ sets_start bytes before fits in
        rw (all, left) (drop-append_seam bytes (drop (length bytes) before))
    go true e (Err refused) w = absurd (cc (w.outcome, outcome_there bytes before (leb-true _ _ e)))
    go false e (Ok n) w = absurd (cc (w.outcome, outcome_short bytes before (leb-false _ _ e)))
    go false e (Err refused) w = w.output ∙ output_short bytes before (leb-false _ _ e)
