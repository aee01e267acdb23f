-- The laws of fetching: what its loop keeps, and what it has where it ends, for every call of the reading. Assumes nothing.
use Rattle.std.specs.Prelude.{Option, None, Some}
use Prim.Native.Nat.{ℕ, ◌+◌, ◌≤◌, ◌<◌}
use mathlib.Core.Path.{◌≡◌, refl, sym, ◌∙◌}
use mathlib.Core.Bool.{Bool, true, false}
use mathlib.Core.List.{List}
use native.Mathlib.Omega.{arith}
use lib.ListN.{length, take}
use lib.Dec.{eqb}
use borrow.Author.Tests.{eqb-true}
use Rattle.util.specs.Outcome.{Outcome, result, refusal}
use Rattle.output.proofs.Outputs.{refused_keeps}
use Rattle.scripts.specs.Script.{ends, records}
use Rattle.reading.specs.Tex.{read_tex}
use Rattle.scripts.proofs.Early.{early_settled, early_waits}
use Rattle.stream.specs.Fetch.{shortness, Call, short_answers, Fetched, picture_call}
use Rattle.laws.specs.Prefix.{Prefix}
use Rattle.laws.proofs.Calls.{Scripted, NotShort}
use Rattle.laws.proofs.Prefixes.{prefix_law}
use Rattle.stream.proofs.Counts.{bound}

-- whether an answer is short
module _ {A : Type 0} where
  pub enough_not : {o : Outcome A} → None ≡ shortness o → NotShort o
  enough_not {o = result a} e w q = cc
  enough_not {o = refusal k v} e w q = let one : k ≡ 1 = cc in cc (rw one at e)

  pub needs_short : {o : Outcome A} {w : ℕ} → Some w ≡ shortness o → o ≡ refusal 1 w
  needs_short {o = result a} e = cc
  needs_short {o = refusal k v} {w} e = go (eqb k 1) refl
    where
      go : (t : Bool) → eqb k 1 ≡ t → ◌≡◌ {A = Outcome A} (refusal k v) (refusal 1 w)
      go true q = let one : k ≡ 1 = eqb-true k 1 q in let same : w ≡ v = cc (rw q at e) in rw (one, same)
      go false q = cc (rw q at e)

-- what the loop keeps: the answers that were short, and the lengths that are still to be counted
pub record Fetching (b : List ℕ) (given count : ℕ) : Type 0 where
  pub within : given ≤ length b
  pub below : count ≤ given
  pub left : count + records given (ends read_tex b) ≡ short_answers b

module _ (b : List ℕ) {given count : ℕ} where
  pub fetch_start : given ≡ 0 → count ≡ 0 → Fetching b given count
  unfolding short_answers
  fetch_start g c = rw (g, c) (record { within = omega arith; below = omega arith; left = omega arith })

-- where the loop ends: the last answer, and what stands beside it, are the whole block's, and so is the count
pub record Ending {B C : Type 0} (answer : List ℕ → Outcome B) (beside : List ℕ → C) (b : List ℕ) (given : ℕ) (o : Outcome B) (count : ℕ)
    : Type 0 where
  pub full : o ≡ answer b
  pub left : beside (take given b) ≡ beside b
  pub counted : count ≡ short_answers b

-- an answer that is short of w
pub record Waiting {B C : Type 0} (answer : List ℕ → Outcome B) (beside : List ℕ → C) (declined : C) (b : List ℕ) (given : ℕ) (o : Outcome B)
    (count w : ℕ) : Type 0 where
  pub past : given < w
  pub kept : beside (take given b) ≡ declined
  -- which is more than the block has
  pub beyond : length b < w → Ending answer beside b given o (count + 1)
  -- or no more than that, and goes to the next attempt
  pub again : {next counted : ℕ} → w ≤ length b → next ≡ w → counted ≡ count + 1 → Fetching b next counted

-- an attempt, by a call of the reading: o is what it answers
module _ {B C : Type 0} {answer : List ℕ → Outcome B} {beside : List ℕ → C} {declined : C} (call : Scripted read_tex answer beside declined)
    (law : Prefix answer beside declined) (b : List ℕ) {given count : ℕ} (kept : Fetching b given count) {o : Outcome B}
    (is : o ≡ answer (take given b)) where
  pub settled : None ≡ shortness o → Ending answer beside b given o count
  settled enough =
      let at = (law b given (omega (arith, kept.within))).settled (λ w e. enough_not enough w (is ∙ e)) in
      let counts = early_settled read_tex b given kept.within (λ w e. enough_not enough w (is ∙ (call.at_short (take given b) w e).0)) in
      record { full = is ∙ at.0; left = at.1; counted = omega (arith, kept.left, counts.1) }

  pub waiting : {w : ℕ} → Some w ≡ shortness o → Waiting answer beside declined b given o count w
  waiting {w} needs =
      let short-answer = sym is ∙ needs_short needs in
      let waits = early_waits read_tex b given kept.within (call.only_short (take given b) w short-answer) in
      let at = (law b given (omega (arith, kept.within))).short w short-answer in
      record {
        past = waits.past;
        kept = at.0;
        beyond = λ more. record {
          full = needs_short needs ∙ sym (at.1.1 more);
          left = at.0 ∙ sym (call.at_short b w (waits.out more).0).1;
          counted = omega (arith, kept.left, (waits.out more).1);
        };
        again = λ l n c. rw (n, c) (record {
          within = l;
          below = omega (arith, waits.past, kept.below);
          left = omega (arith, kept.left, waits.within l);
        });
      }

module _ {A B : Type 0} (call : Call A B) (b : List ℕ) {output left : B} {last : Outcome A} {count : ℕ} where
  pub fetched : last ≡ call.answer b output → left ≡ call.leaves b output → count ≡ short_answers b → Fetched call b output last left count
  fetched a l c = record { answered = a; leaving = l; counted = c; bounded = omega (arith, c, bound b) }

-- an attempt, given what it answers and the output that it leaves
module _ {A B : Type 0} (call : Call A B)
    (scripted : (output : B) → Scripted read_tex (λ b. call.answer b output) (λ b. call.leaves b output) output)
    (b : List ℕ) {given count : ℕ} (kept : Fetching b given count) {output left : B} {o : Outcome A}
    (is : o ≡ call.answer (take given b) output) (leaves : left ≡ call.leaves (take given b) output) where
  -- it is not short, or it is short of more than the block has: fetching ends with it
  pub fetched_settled : None ≡ shortness o → Fetched call b output o left count
  fetched_settled enough =
      let end = settled (scripted output) (prefix_law read_tex (scripted output)) b kept is enough in
      fetched call b end.full (leaves ∙ end.left) end.counted

  pub fetched_beyond : {w : ℕ} → Some w ≡ shortness o → length b < w → Fetched call b output o left (count + 1)
  fetched_beyond needs more =
      let end = (waiting (scripted output) (prefix_law read_tex (scripted output)) b kept is needs).beyond more in
      fetched call b end.full (leaves ∙ end.left) end.counted

  -- or it is short of no more than that, which is what the next is lent
  pub fetching_again : {w : ℕ} → Some w ≡ shortness o → w ≤ length b → (given < w) × ((left ≡ output) × Fetching b w (count + 1))
  fetching_again needs within =
      let waits = waiting (scripted output) (prefix_law read_tex (scripted output)) b kept is needs in
      (waits.past, (leaves ∙ waits.kept, waits.again within refl refl))

-- the loop keeps its last attempt: on the block's first `given` bytes, behind `count` short answers, it answered `o` and left `left`
pub record Attempted {A B : Type 0} (call : Call A B) (b : List ℕ) (output : B) (o : Outcome A) (left : B) (count : ℕ) : Type 0 where
  pub given : ℕ
  pub kept : Fetching b given count
  pub scripted : (output : B) → Scripted read_tex (λ b. call.answer b output) (λ b. call.leaves b output) output
  pub is : o ≡ call.answer (take given b) output
  pub leaves : left ≡ call.leaves (take given b) output

-- a fetching picture that ends in a refusal leaves every byte of the output as it was
pub fetched_keeps : (n : ℕ) (choice : Option ℕ) {block output left : List ℕ} {number returned count : ℕ}
    → Fetched (picture_call n choice) block output (refusal number returned) left count → left ≡ output
fetched_keeps n choice f = refused_keeps (record { outcome = f.answered; output = f.leaving })
