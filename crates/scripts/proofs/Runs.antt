-- The laws of `run` and `outcome_of`: what a script comes to, by its steps. Assumes nothing.
use Prim.Native.Nat.{ℕ, zero, suc, ◌+◌, ◌^◌, ◌≤◌, ◌<◌}
use mathlib.Core.Path.{◌≡◌, refl, sym, ap, ◌∙◌}
use mathlib.Core.Bool.{Bool, true, false}
use mathlib.Core.List.{List, [], ◌∷◌}
use native.Mathlib.Nat.{add-zero, add-suc, suc-add, le_of_suc-le-suc, not-suc-le-zero}
use native.Mathlib.Omega.{arith}
use lib.ListN.{length, take, drop, get_or, length-drop}
use lib.Seq.{length-take-le}
use lib.Dec.{leb}
use borrow.Author.Tests.{le-leb, lt-leb, leb-true, leb-false}
use Rattle.std.specs.Prelude.{Result, Err}
use Rattle.util.specs.Outcome.{Outcome, result, refusal}
use Rattle.util.specs.Take.{taken_as, bytes_of}
use Rattle.util.specs.declared.cur.Needed.{Needed}
use Rattle.util.proofs.Takes.{took, lacked}
use Rattle.errors.specs.Refusal.{Fault, fault_number, refusal_outcome}
use Rattle.errors.specs.declared.Refusal.{Refusal}
use Rattle.errors.proofs.Refusals.{refusal_not, refusal_any}
use Rattle.scripts.specs.Script.{Script, done, refuse, get, Answer, short, fault, whole, run, outcome_of, bytes_at, expect, each_from, ◌>>=◌, ◌>>◌}

-- an answer, and then the next
abbrev pub and_then : {A B : Type 0} → Answer A → (A → Answer B) → Answer B
and_then (short needed) f = short needed
and_then (fault found) f = fault found
and_then (whole a) f = f a

module _ {A B : Type 0} (f : A → Script B) (b : List ℕ) where
  pub run_bind : (s : Script A) → run (s >>= f) b ≡ and_then (run s b) (λ a. run (f a) b)
  unfolding run ◌>>=◌
  run_bind (done a) = refl
  run_bind (refuse found) = refl
  run_bind (get p n next) = go (leb (p + n) (length b)) refl (run_bind (next (take n (drop p b))))
    where
      go : (t : Bool) → leb (p + n) (length b) ≡ t
          → run (next (take n (drop p b)) >>= f) b ≡ and_then (run (next (take n (drop p b))) b) (λ a. run (f a) b)
          → run (get p n next >>= f) b ≡ and_then (run (get p n next) b) (λ a. run (f a) b)
      go true e h = rw e h
      go false e h = rw e

-- what an answer of a script of two parts says of them
pub record Both {A B : Type 0} (s : Script A) (f : A → Script B) (b : List ℕ) (end : B) : Type 0 where
  pub middle : A
  pub first : run s b ≡ whole middle
  pub second : run (f middle) b ≡ whole end

module _ {A B : Type 0} (s : Script A) (f : A → Script B) (b : List ℕ) where
  pub onward : {a : A} → run s b ≡ whole a → run (s >>= f) b ≡ run (f a) b
  onward e = run_bind f b s ∙ rw e

  pub both : {end : B} → run (s >>= f) b ≡ whole end → Both s f b end
  both {end} e = go (run s b) refl
    where
      go : (x : Answer A) → run s b ≡ x → Both s f b end
      go (short w) q = absurd (cc (rw q at (sym (run_bind f b s) ∙ e)))
      go (fault w) q = absurd (cc (rw q at (sym (run_bind f b s) ∙ e)))
      go (whole a) q = record { middle = a; first = q; second = rw q at (sym (run_bind f b s) ∙ e) }

-- a take, and what comes next
module _ {A : Type 0} (p n : ℕ) (next : List ℕ → Script A) (b : List ℕ) where
  pub run_in : p + n ≤ length b → run (get p n next) b ≡ run (next (take n (drop p b))) b
  unfolding run
  run_in h = rw (le-leb _ _ h)

  pub run_out : length b < p + n → run (get p n next) b ≡ short (p + n)
  unfolding run
  run_out h = rw (lt-leb _ _ h)

-- a run is short only of a length that the block does not have
pub run_short : {A : Type 0} (s : Script A) (b : List ℕ) {w : ℕ} → run s b ≡ short w → length b < w
unfolding run
run_short (done a) b e = absurd (cc)
run_short (refuse found) b e = absurd (cc)
run_short (get p n next) b {w} e = go (leb (p + n) (length b)) refl (λ q. run_short (next (take n (drop p b))) b q)
  where
    go : (t : Bool) → leb (p + n) (length b) ≡ t → (run (next (take n (drop p b))) b ≡ short w → length b < w) → length b < w
    go true q later = later (rw q at e)
    go false q later = let same : p + n ≡ w = cc (rw q at e) in omega (arith, leb-false (p + n) (length b) q, same)

-- n bytes at p
module _ (p n : ℕ) (b : List ℕ) where
  pub bytes_in : p + n ≤ length b → run (bytes_at p n) b ≡ whole (take n (drop p b))
  unfolding run bytes_at
  bytes_in h = run_in p n done b h

  pub bytes_out : length b < p + n → run (bytes_at p n) b ≡ short (p + n)
  unfolding bytes_at
  bytes_out h = run_out p n done b h

  pub record Bytes (bytes : List ℕ) : Type 0 where
    pub within : p + n ≤ length b
    pub same : bytes ≡ take n (drop p b)

  pub bytes_whole : {bytes : List ℕ} → run (bytes_at p n) b ≡ whole bytes → Bytes bytes
  unfolding run bytes_at
  bytes_whole {bytes} e = go (leb (p + n) (length b)) refl
    where
      go : (t : Bool) → leb (p + n) (length b) ≡ t → Bytes bytes
      go true q = record { within = leb-true _ _ q; same = cc (rw q at e) }
      go false q = absurd (cc (rw q at e))

-- a test, and then the rest
module _ {B : Type 0} (test : Bool) (found : Fault) (rest : Script B) (b : List ℕ) where
  pub expect_met : test ≡ true → run (expect test found >> rest) b ≡ run rest b
  unfolding ◌>>◌ ◌>>=◌ expect
  expect_met e = rw e

  pub expect_failed : test ≡ false → run (expect test found >> rest) b ≡ fault found
  unfolding run ◌>>◌ ◌>>=◌ expect
  expect_failed e = rw e

  pub expect_held : {end : B} → run (expect test found >> rest) b ≡ whole end → test ≡ true
  expect_held {end} e = go test refl
    where
      go : (t : Bool) → test ≡ t → test ≡ true
      go true q = q
      go false q = absurd (cc (sym (expect_failed q) ∙ e))

  pub expected : {end : B} → run (expect test found >> rest) b ≡ whole end → run rest b ≡ whole end
  expected e = sym (expect_met (expect_held e)) ∙ e

-- the outcome of an answer that is known
module _ {A B : Type 0} {x : Answer A} (h : A → Outcome B) where
  pub whole_outcome : {a : A} → x ≡ whole a → h a ≡ outcome_of x h
  unfolding outcome_of
  whole_outcome e = rw e

  pub fault_outcome : {found : Fault} → x ≡ fault found → refusal (fault_number found) 0 ≡ outcome_of x h
  unfolding outcome_of
  fault_outcome e = rw e

  pub short_outcome : {needed : ℕ} → x ≡ short needed → refusal 1 needed ≡ outcome_of x h
  unfolding outcome_of
  short_outcome e = rw e

-- what comes after the end may be put into the script or into the outcome
module _ {A B C : Type 0} (s : Script A) (b : List ℕ) (h : B → Outcome C) where
  pub outcome_bind : (f : A → Script B) → outcome_of (run (s >>= f) b) h ≡ outcome_of (run s b) (λ a. outcome_of (run (f a) b) h)
  unfolding outcome_of
  outcome_bind f = ap (λ x. outcome_of x h) (run_bind f b s) ∙ go (run s b)
    where
      go : (x : Answer A) → outcome_of (and_then x (λ a. run (f a) b)) h ≡ outcome_of x (λ a. outcome_of (run (f a) b) h)
      go (short w) = refl
      go (fault w) = refl
      go (whole a) = refl

  pub outcome_map : (g : A → B) → outcome_of (run (s >>= λ a. done (g a)) b) h ≡ outcome_of (run s b) (λ a. h (g a))
  unfolding run outcome_of
  outcome_map g = outcome_bind (λ a. done (g a))

-- only the end that is reached matters
pub outcome_same : {A B : Type 0} (x : Answer A) (f g : A → Outcome B) → ((a : A) → x ≡ whole a → f a ≡ g a) → outcome_of x f ≡ outcome_of x g
unfolding outcome_of
outcome_same (short w) f g e = refl
outcome_same (fault w) f g e = refl
outcome_same (whole a) f g e = e a refl

-- y stops where x stops
pub record Follows {A B : Type 0} (x : Answer A) (y : Answer B) : Type 0 where
  pub at_short : (w : ℕ) → x ≡ short w → y ≡ short w
  pub at_fault : (w : Fault) → x ≡ fault w → y ≡ fault w

pub follows_self : {A : Type 0} (x : Answer A) → Follows x x
follows_self x = record { at_short = λ w e. e; at_fault = λ w e. e }

pub follows_bind : {A B : Type 0} (s : Script A) (f : A → Script B) (b : List ℕ) → Follows (run s b) (run (s >>= f) b)
follows_bind s f b = record { at_short = λ w e. run_bind f b s ∙ rw e; at_fault = λ w e. run_bind f b s ∙ rw e }

pub follows_onward : {A B C : Type 0} (s : Script A) (f : A → Script B) (b : List ℕ) {a : A} {x : Answer C}
    → run s b ≡ whole a → Follows x (run (f a) b) → Follows x (run (s >>= f) b)
follows_onward s f b e p =
    record { at_short = λ w q. onward s f b e ∙ p.at_short w q; at_fault = λ w q. onward s f b e ∙ p.at_fault w q }

pub follows_trans : {A B C : Type 0} {x : Answer A} {y : Answer B} {z : Answer C} → Follows x y → Follows y z → Follows x z
follows_trans p q =
    record { at_short = λ w e. q.at_short w (p.at_short w e); at_fault = λ w e. q.at_fault w (p.at_fault w e) }

-- scripts in a row
module _ {A : Type 0} (f : ℕ → Script A) (b : List ℕ) where
  pub each_length : (i n : ℕ) {xs : List A} → run (each_from i n f) b ≡ whole xs → length xs ≡ n
  unfolding run each_from
  each_length i zero {xs} e = let q : [] ≡ xs = cc in rw (sym q)
  each_length i (suc n) {xs} e =
      let o = both (f i) _ b e in
      let p = both (each_from (suc i) n f) _ b o.second in
      let q : (o.middle ∷ p.middle) ≡ xs = cc p.second in
      rw (sym q) (ap suc (each_length (suc i) n p.first))

  pub each_at : (i n : ℕ) {xs : List A} → run (each_from i n f) b ≡ whole xs → (k : ℕ) (d : A) → k < n → run (f (i + k)) b ≡ whole (get_or xs k d)
  unfolding run each_from
  each_at i zero e k d h = absurd (not-suc-le-zero h)
  each_at i (suc n) {xs} e k d h =
      let o = both (f i) _ b e in
      let p = both (each_from (suc i) n f) _ b o.second in
      let q : (o.middle ∷ p.middle) ≡ xs = cc p.second in
      rw (sym q) (go p.middle k h o.first (each_at (suc i) n p.first))
    where
      go : {x : A} (ys : List A) (k : ℕ) → k < suc n → run (f i) b ≡ whole x
          → ((j : ℕ) (d : A) → j < n → run (f (suc i + j)) b ≡ whole (get_or ys j d)) → run (f (i + k)) b ≡ whole (get_or (x ∷ ys) k d)
      go ys zero h first later = rw add-zero first
      go ys (suc j) h first later = rw (add-suc, ← suc-add) (later j d (le_of_suc-le-suc h))

  -- a turn of a loop that goes through them and keeps no results
  pub each_turn : {B : Type 0} (i n : ℕ) (r : B) {x : A} → run (f i) b ≡ whole x
      → outcome_of (run (each_from i (suc n) f) b) (λ _. result r) ≡ outcome_of (run (each_from (suc i) n f) b) (λ _. result r)
  unfolding each_from
  each_turn i n r {x} e =
      ap (λ y. outcome_of y (λ _. result r)) (onward (f i) _ b e)
      ∙ outcome_map (each_from (suc i) n f) b (λ _. result r) (λ later. x ∷ later)

  -- and its end
  pub each_none : {B : Type 0} (i : ℕ) (r : B) → result r ≡ outcome_of (run (each_from i 0 f) b) (λ _. result r)
  unfolding run each_from outcome_of
  each_none i r = refl

  pub each_count : (n : ℕ) → outcome_of (run (each_from 0 n f) b) (λ _. result n) ≡ outcome_of (run (each_from 0 n f) b) (λ xs. result (length xs))
  each_count n = outcome_same _ _ _ (λ xs e. ap result (sym (each_length 0 n e)))

  -- a refusal of the first is one of the row
  pub each_follows : (i n : ℕ) → Follows (run (f i) b) (run (each_from i (suc n) f) b)
  unfolding each_from
  each_follows i n = follows_bind (f i) _ b

-- scripts that take nothing
pub each_done : {A B : Type 0} (g : ℕ → A) (b : List ℕ) (i n : ℕ) (r : B)
    → result r ≡ outcome_of (run (each_from i n (λ k. done (g k))) b) (λ _. result r)
unfolding run
each_done g b i zero r = each_none (λ k. done (g k)) b i r
each_done g b i (suc n) r = each_done g b (suc i) n r ∙ sym (each_turn (λ k. done (g k)) b i n r refl)

-- an answer whose outcome is a result reached its end
pub record Ended {A B : Type 0} (x : Answer A) (g : A → B) (r : B) : Type 0 where
  pub end : A
  pub is : x ≡ whole end
  pub gives : r ≡ g end

pub ended : {A B : Type 0} (x : Answer A) (g : A → B) {r : B} → result r ≡ outcome_of x (λ a. result (g a)) → Ended x g r
unfolding outcome_of
ended (short w) g e = absurd (cc)
ended (fault w) g e = absurd (cc)
ended (whole a) g e = record { end = a; is = refl; gives = cc }

-- a refusal of x is y's, whatever either makes of its end
module _ {A B C D : Type 0} (x : Answer A) (y : Answer B) (follows : Follows x y) (g : A → C) (h : B → Outcome D) (r : Refusal) where
  pub refused : refusal_outcome r ≡ outcome_of x (λ a. result (g a)) → refusal_outcome r ≡ outcome_of y h
  unfolding outcome_of
  refused e = go x refl
    where
      go : (z : Answer A) → x ≡ z → refusal_outcome r ≡ outcome_of y h
      go (short w) q = rw (follows.at_short w q) (refusal_any r (rw q at e))
      go (fault w) q = rw (follows.at_fault w q) (refusal_any r (rw q at e))
      go (whole a) q = absurd (refusal_not r (rw q at e))

-- a take that passed, by its bytes
module _ (p n : ℕ) (b : List ℕ) {bytes : List ℕ} (e : result bytes ≡ outcome_of (run (bytes_at p n) b) result) where
  pub taken_whole : run (bytes_at p n) b ≡ whole bytes
  taken_whole = let o = ended (run (bytes_at p n) b) (λ part. part) e in o.is ∙ ap whole (sym o.gives)

  pub taken : Bytes p n b bytes
  taken = bytes_whole p n b taken_whole

  pub take_within : p + n ≤ length b
  take_within = taken.within

  pub take_length : n ≡ length bytes
  take_length = rw taken.same (sym (length-take-le n (drop p b) (rw length-drop (omega (arith, taken.within)))))

-- and a take by the answer of `take_at`
module _ (p n : ℕ) (b : List ℕ) where
  pub take_passed : {bytes : List ℕ} → result bytes ≡ bytes_of p n b → result bytes ≡ outcome_of (run (bytes_at p n) b) result
  take_passed e = let t = took _ _ _ _ e in ap result t.holds ∙ whole_outcome _ (bytes_in p n b t.within)

  pub take_missed : {number needed : ℕ} → refusal number needed ≡ bytes_of p n b → refusal 1 needed ≡ outcome_of (run (bytes_at p n) b) result
  take_missed e = let l = lacked _ _ _ _ e in ap (refusal 1) l.ends ∙ short_outcome _ (bytes_out p n b l.past)

  -- the length that a short take needs is the end of its bytes
  pub take_fits : {A : Type 0} (f : A → List ℕ) (answer : Result A Needed) (needed : Needed)
      → taken_as f answer ≡ bytes_of p n b → p + n < 2 ^ 64 → answer ≡ Err needed → needed.0 < 2 ^ 64
  take_fits f answer needed e h same = omega (arith, (lacked (length b) p n (take n (drop p b)) (rw same at e)).ends, h)
