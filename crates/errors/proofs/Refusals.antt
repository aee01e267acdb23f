-- The laws of a refusal's outcome. Assumes nothing.
use Prim.Native.Nat.{ℕ}
use mathlib.Core.Path.{◌≡◌, ap}
use Rattle.std.specs.Prelude.{Result, Ok, Err, IsErrAnd}
use Rattle.util.specs.Outcome.{Outcome, result, refusal}
use Rattle.errors.specs.Refusal.{refusal_outcome, result_outcome, outcome_as}
use Rattle.errors.specs.declared.Refusal.{Refusal}

-- a refusal in the code is never a result, and is the same whatever would have been answered
pub refusal_not : {A : Type 0} {a : A} (r : Refusal) → refusal_outcome r ≡ result a → ⊥
refusal_not r e = cc

pub refusal_any : {A B : Type 0} {k v : ℕ} (r : Refusal)
    → ◌≡◌ {A = Outcome A} (refusal_outcome r) (refusal k v) → ◌≡◌ {A = Outcome B} (refusal_outcome r) (refusal k v)
refusal_any r e = cc

-- a refusal that `?` passes on is the answer
pub passed_on : {A : Type 0} (r : Result A Refusal) (e : Refusal) → IsErrAnd r (λ y. y ≡ e) → result_outcome r ≡ refusal_outcome e
passed_on (Ok a) e h = absurd h
passed_on (Err y) e h = ap refusal_outcome h

pub passed_as : {A B : Type 0} (f : A → B) (r : Result A Refusal) (e : Refusal) → IsErrAnd r (λ y. y ≡ e) → outcome_as f r ≡ refusal_outcome e
passed_as f (Ok a) e h = absurd h
passed_as f (Err y) e h = ap refusal_outcome h
