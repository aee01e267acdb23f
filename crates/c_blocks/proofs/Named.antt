-- The laws of records whose names go to an output. Assumes nothing.
use Prim.Native.Nat.{ℕ, ◌≤◌, ◌<◌}
use mathlib.Core.Path.{◌≡◌, refl}
use mathlib.Core.Bool.{Bool, true, false}
use mathlib.Core.List.{List}
use lib.Dec.{leb}
use lib.ListN.{length}
use borrow.Author.Tests.{le-leb, lt-leb, leb-true}
use Rattle.util.specs.Outcome.{Outcome, result, refusal, ◌>>=◌}
use Rattle.errors.specs.Refusal.{refusal_outcome}
use Rattle.errors.specs.declared.Refusal.{Refusal}
use Rattle.told.specs.Told.{named}

module _ {A : Type 0} (output : List ℕ) where
  pub named_there : (a : A) → 16 ≤ length output → named output (result a) ≡ result a
  unfolding named ◌>>=◌
  named_there a h = rw (le-leb _ _ h) refl

  pub named_short : (a : A) → length output < 16 → named output (result a) ≡ refusal 11 0
  unfolding named ◌>>=◌
  named_short a h = rw (lt-leb _ _ h) refl

  pub named_refused : (r : Refusal) → named {A = A} output (refusal_outcome r) ≡ refusal_outcome r
  unfolding named ◌>>=◌
  named_refused r = refl

  -- a record that is not declined has room for its name
  pub named_room : (answer : Outcome A) {a : A} → result a ≡ named output answer → 16 ≤ length output
  unfolding named ◌>>=◌
  named_room (refusal k v) e = cc
  named_room (result b) {a} e = go (leb 16 (length output)) refl
    where
      go : (t : Bool) → leb 16 (length output) ≡ t → 16 ≤ length output
      go true q = leb-true 16 (length output) q
      go false q = cc (rw q at e)
