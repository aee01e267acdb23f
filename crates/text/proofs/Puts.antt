-- The laws of texts that are put into an output one behind the other. Assumes nothing.
use Prim.Native.Nat.{ℕ, ◌+◌, ◌-◌}
use mathlib.Core.Path.{◌≡◌, refl, ◌∙◌}
use mathlib.Core.List.{List, [], ◌++◌, append-nil, append_assoc}
use native.Mathlib.Omega.{arith}
use lib.ListN.{length, take, drop, length-append, length-drop, length-take}
use lib.Seq.{take_all, drop-drop, drop-length, sets, sets-eq, length-sets}
use borrow.Rule.Slice.PartMut.{mid_of, post_of, put_mid, Post-is}
use Rattle.util.specs.Outcome.{Outcome, result}
use Rattle.errors.proofs.Refusals.{refusal_not}
use Rattle.output.specs.Output.{Writes}
use Rattle.output.proofs.Outputs.{sets_append, outcome_there, output_there, text_there, outcome_short, output_short, writes_whole}
use Rattle.text.specs.Put.{Room, Put}

-- a text that is copied over the output's part from the place on
pub put_copy : (text entry : List ℕ) (at : ℕ) {part : List ℕ} → Room text entry at → part ≡ text
    → Put text entry at (put_mid at (at + length text - at) entry part) (at + length text)
put_copy text entry at r same =
    let long : at + length text - at ≡ length text = omega arith in
    record { output = rw (long, same, drop-drop, sets-eq text entry at r.fits, append_assoc); behind = refl }

-- one text behind the other, and both at once
pub sets_both : (entry : List ℕ) (at : ℕ) (text more : List ℕ) → sets entry at (text ++ more) ≡ sets (sets entry at text) (at + length text) more
sets_both entry at text more = rw sets_append

-- for functions that put one text behind the other
pub ruleset puts = (sets_both, length-append, length-sets)

pub room_first : (text more : List ℕ) {entry : List ℕ} {at : ℕ} → Room (text ++ more) entry at → Room text entry at
room_first text more r = record { fits = omega (arith, r.fits, length-append text more) }

module _ {text entry exit : List ℕ} {at end : ℕ} (p : Put text entry at exit end) where
  pub put_length : length exit ≡ length entry
  put_length = rw p.output (length-sets entry at text)

  -- one text, and then the next
  pub put_then : {more later : List ℕ} {last : ℕ} → Put more exit end later last → Put (text ++ more) entry at later last
  put_then {more} q = record {
    output = q.output ∙ rw (p.output, p.behind, sets_append);
    behind = rw length-append (omega (arith, p.behind, q.behind));
  }

  pub room_then : {more : List ℕ} → Room (text ++ more) entry at → Room more exit end
  room_then {more} r = record { fits = omega (arith, r.fits, p.behind, put_length, length-append text more) }

  pub room_next : (next more : List ℕ) → Room (text ++ (next ++ more)) entry at → Room next exit end
  room_next next more r = room_first next more (room_then r)

-- a text that a call wrote to the output's part from the place on
pub record PartWrote (text entry : List ℕ) (at : ℕ) (answer : Outcome ℕ) (part : List ℕ) : Type 0 where
  pub outcome : answer ≡ result (length text)
  pub output : put_mid at (length entry - at) entry part ≡ sets entry at text

pub part_wrote : (text entry : List ℕ) (at : ℕ) {answer : Outcome ℕ} {part : List ℕ} → Room text entry at
    → Writes (result text) (mid_of at (length entry - at) entry) answer part → PartWrote text entry at answer part
part_wrote text entry at r w =
    let all : mid_of at (length entry - at) entry ≡ drop at entry = take_all (length entry - at) (drop at entry) (rw length-drop (omega arith)) in
    let none : post_of at (length entry - at) entry ≡ [] = Post-is at (length entry) entry (omega (arith, r.fits)) ∙ drop-length entry in
    let (told, wrote) = writes_whole text (drop at entry) (rw length-drop (omega (arith, r.fits))) (rw all at w) in
    record { outcome = told; output = rw (wrote.holds, none, append-nil, drop-drop, sets-eq text entry at r.fits, append_assoc) }

-- for functions that write a text at the start of an output
pub ruleset whole = (outcome_there, output_there, text_there, outcome_short, output_short, refusal_not, length-sets, length-take)
