-- What a call answers in document 01's terms. Assumes nothing.
use Rattle.std.specs.Prelude.{ℕ}

infixl 1 ◌>>=◌
-- A result, or a refusal: a row of 01's table "When a call is declined", by its columns "Number" and "Returned".
pub data Outcome (A : Type 0) : Type 0 where
  result : A → Outcome A
  refusal : (number returned : ℕ) → Outcome A

-- One answer, and then what is made of its result: the first refusal is the answer. With it, what a call answers is written as a `do`
-- block, a step a line.
unfoldable pub ◌>>=◌ : {A B : Type 0} → Outcome A → (A → Outcome B) → Outcome B
◌>>=◌ (result a) f = f a
◌>>=◌ (refusal number returned) f = refusal number returned
