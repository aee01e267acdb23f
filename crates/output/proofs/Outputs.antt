-- The laws of an output that is written piece after piece, and of the two cases of `Writes`. Assumes nothing.
use Prim.Native.Nat.{ℕ, zero, suc, ◌+◌, ◌*◌, ◌≤◌, ◌<◌}
use mathlib.Core.Path.{◌≡◌, refl, ◌∙◌}
use mathlib.Core.Bool.{Bool, true, false}
use mathlib.Core.List.{List, [], ◌∷◌, ◌++◌, append-nil, append_assoc}
use native.Mathlib.Nat.{add-zero, zero-add, add-suc, suc-add, zero-mul, suc-mul}
use native.Mathlib.Omega.{arith}
use lib.ListN.{length, take, drop, set, get_or, length-append, length-drop, drop_of_length-le}
use lib.Seq.{take-append_seam, drop-append-add, drop-drop, sets, sets-eq}
use lib.Dec.{leb}
use borrow.Author.Tests.{leb-true, leb-false, le-leb, lt-leb}
use Rattle.util.specs.Outcome.{Outcome, result, refusal}
use Rattle.errors.specs.Refusal.{refusal_outcome}
use Rattle.output.specs.Output.{write_outcome, write_output, Writes, pieces_from, pieces}
use Rattle.errors.specs.declared.Refusal.{Refusal}
use Rattle.errors.proofs.Refusals.{refusal_not, refusal_any}

-- bytes stored behind others that were stored
pub sets_append : (l : List ℕ) (p : ℕ) (xs ys : List ℕ) → sets (sets l p xs) (p + length xs) ys ≡ sets l p (xs ++ ys)
sets_append l p [] ys = rw add-zero
sets_append l p (x ∷ xs) ys = rw (add-suc, ← suc-add) (sets_append (set l p x) (suc p) xs ys)

-- bytes stored at the start of an output
pub sets_start : (text entry : List ℕ) → length text ≤ length entry → sets entry 0 text ≡ text ++ drop (length text) entry
sets_start text entry h = sets-eq text entry 0 (omega arith) ∙ rw zero-add

-- where there is room for a text: what is answered, and what is left
pub outcome_there : (text entry : List ℕ) → length text ≤ length entry → write_outcome (result text) entry ≡ result (length text)
unfolding write_outcome
outcome_there text entry h = rw (le-leb _ _ h)

pub output_there : (text entry : List ℕ) → length text ≤ length entry → write_output (result text) entry ≡ sets entry 0 text
unfolding write_output
output_there text entry h = rw (le-leb _ _ h, sets_start text entry h)

-- so the text is the first of what is left
pub text_there : (text entry : List ℕ) → length text ≤ length entry → take (length text) (sets entry 0 text) ≡ text
text_there text entry h = rw (sets_start text entry h) (take-append_seam text _)

-- and where there is none
pub outcome_short : (text entry : List ℕ) → length entry < length text → write_outcome (result text) entry ≡ refusal 11 0
unfolding write_outcome
outcome_short text entry h = rw (lt-leb _ _ h)

pub output_short : (text entry : List ℕ) → length entry < length text → write_output (result text) entry ≡ entry
unfolding write_output
output_short text entry h = rw (lt-leb _ _ h)

-- an output, `entry` at first and `now` after the text was written to its first `end` bytes
pub record Wrote (text entry : List ℕ) (end : ℕ) (now : List ℕ) : Type 0 where
  pub fits : length text ≤ length entry
  pub ends : end ≡ length text
  pub holds : now ≡ text ++ drop (length text) entry

pub wrote_none : (entry : List ℕ) → Wrote [] entry 0 entry
wrote_none entry = record { fits = omega arith; ends = refl; holds = refl }

module _ {text entry : List ℕ} {end : ℕ} {now : List ℕ} (w : Wrote text entry end now) where
  pub wrote_length : length now ≡ length entry
  wrote_length = rw w.holds (simp (length-append, length-drop) (omega arith))

  pub wrote_more : (piece : List ℕ) → end + length piece ≤ length entry
      → Wrote (text ++ piece) entry (end + length piece) (sets now end piece)
  wrote_more piece h = record {
    fits = rw length-append (omega arith);
    ends = rw length-append (omega arith);
    holds =
        rw (w.ends, w.holds)
        (sets-eq piece (text ++ drop (length text) entry) (length text) (simp (length-append, length-drop) (omega arith))
        ∙ rw (take-append_seam, drop-append-add, drop-drop, length-append));
  }

  pub wrote_byte : (b : ℕ) → end < length entry → Wrote (text ++ (b ∷ [])) entry (end + 1) (set now end b)
  wrote_byte b h = wrote_more (b ∷ []) (omega arith)

  -- the text is as many of its bytes as were counted
  pub wrote_text : take end now ≡ text
  wrote_text = rw (w.ends, w.holds) (take-append_seam text _)

  pub wrote_counts : (end ≤ length now) × (end ≡ length (take end now))
  wrote_counts = (omega (arith, w.fits, w.ends, wrote_length), rw wrote_text w.ends)

  -- an output that is full
  pub wrote_all : length entry ≤ end → now ≡ text
  wrote_all h = w.holds ∙ rw (drop_of_length-le entry {i = length text} (omega arith), append-nil)

  pub writes_fits : Writes (result text) entry (result end) now
  unfolding write_outcome write_output
  writes_fits =
      let e = le-leb _ _ w.fits in
      record { outcome = rw (e, w.ends); output = rw e w.holds }

-- a text that is written at once
pub writes_sets : (text entry : List ℕ) → length text ≤ length entry → Writes (result text) entry (result (length text)) (sets entry 0 text)
writes_sets text entry h = rw zero-add at (writes_fits (wrote_more (wrote_none entry) text (omega (arith, h))))

-- and back: what a call that writes a text answers and leaves where there is room for it
pub writes_whole : (text entry : List ℕ) {answer : Outcome ℕ} {exit : List ℕ} → length text ≤ length entry → Writes (result text) entry answer exit
    → (answer ≡ result (length text)) × Wrote text entry (length text) exit
unfolding write_outcome write_output
writes_whole text entry h w =
    let e = le-leb _ _ h in
    (rw e at w.outcome, record { fits = h; ends = refl; holds = rw e at w.output })

pub writes_short : (text entry : List ℕ) → length entry < length text → Writes (result text) entry (refusal 11 0) entry
unfolding write_outcome write_output
writes_short text entry h = let e = lt-leb _ _ h in record { outcome = rw e; output = rw e }

pub writes_refusal : (r : Refusal) (entry : List ℕ) {made : Outcome (List ℕ)} → refusal_outcome r ≡ made
    → Writes made entry (refusal_outcome r) entry
unfolding write_outcome write_output
writes_refusal r entry {made = result bytes} e = absurd (refusal_not r e)
writes_refusal r entry {made = refusal number returned} e = record { outcome = refusal_any r e; output = refl }

-- a call that answers with a refusal leaves every byte of the output as it was
pub refused_keeps : {made : Outcome (List ℕ)} {entry exit : List ℕ} {number returned : ℕ}
    → Writes made entry (refusal number returned) exit → exit ≡ entry
unfolding write_outcome write_output
refused_keeps {made = refusal n r} w = w.output
refused_keeps {made = result bytes} {entry} {exit} w = go (leb (length bytes) (length entry)) refl
  where
    go : (t : Bool) → leb (length bytes) (length entry) ≡ t → exit ≡ entry
    go true e = absurd (cc (rw e at w.outcome))
    go false e = rw e at w.output

-- the first n pieces are a part of all
module _ (f : ℕ → List ℕ) where
  pub pieces_part : (n count : ℕ) → n ≤ count → length (pieces f n) ≤ length (pieces f count)
  unfolding pieces
  pieces_part n zero h = let e : n ≡ zero = omega arith in rw e (omega arith)
  pieces_part n (suc count) h = go (leb n count) refl (λ q. pieces_part n count q)
    where
      go : (t : Bool) → leb n count ≡ t → (n ≤ count → length (pieces f n) ≤ length (pieces f count))
          → length (pieces f n) ≤ length (pieces f (suc count))
      go true q first = omega (arith, first (leb-true n count q), length-append (pieces f count) (f count))
      go false q first = let e : n ≡ suc count = omega (arith, leb-false n count q) in rw e (omega arith)

  -- pieces of one length
  pub pieces_length : (m count : ℕ) → ((n : ℕ) → n < count → length (f n) ≡ m) → length (pieces f count) ≡ count * m
  unfolding pieces
  pieces_length m zero each = rw zero-mul
  pieces_length m (suc count) each =
      rw (length-append, suc-mul) (omega (arith, each count (omega arith), pieces_length m count (λ n h. each n (omega (arith, h)))))

-- pieces that are the same below n
pub pieces_same : (f g : ℕ → List ℕ) (n : ℕ) → ((i : ℕ) → i < n → f i ≡ g i) → pieces f n ≡ pieces g n
unfolding pieces
pieces_same f g zero e = refl
pieces_same f g (suc n) e = rw (pieces_same f g n (λ i l. e i (omega arith)), e n (omega arith))

-- m pieces, and n behind them
pub pieces_add : (f : ℕ → List ℕ) (m n : ℕ) → pieces f (m + n) ≡ pieces f m ++ pieces (λ i. f (m + i)) n
unfolding pieces
pieces_add f m zero = rw (add-zero, append-nil)
pieces_add f m (suc n) = rw (add-suc, pieces_add f m n, append_assoc)

-- by the first piece and the rest
pieces_cons : (f : ℕ → List ℕ) (n : ℕ) → pieces f (suc n) ≡ f 0 ++ pieces (λ i. f (suc i)) n
unfolding pieces
pieces_cons f zero = rw append-nil
pieces_cons f (suc n) = rw (pieces_cons f n, append_assoc)

-- and by a list of which piece n has entry n
pub pieces_listed : {A : Type 0} (piece : ℕ → A → List ℕ) (d : A) (xs : List A) (k : ℕ) (f : ℕ → List ℕ)
    → ((n : ℕ) → n < length xs → f n ≡ piece (k + n) (get_or xs n d)) → pieces f (length xs) ≡ pieces_from k piece xs
unfolding pieces pieces_from
pieces_listed piece d [] k f h = refl
pieces_listed piece d (x ∷ xs) k f h =
    let first : f 0 ≡ piece k x = h 0 (omega arith) ∙ rw add-zero in
    let rest = pieces_listed piece d xs (suc k) (λ n. f (suc n)) (λ n q. h (suc n) (omega (arith, q)) ∙ rw (add-suc, suc-add)) in
    pieces_cons f (length xs) ∙ rw (first, rest)
