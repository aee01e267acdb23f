-- The law of a refusal's number. Assumes nothing.
use Prim.Native.Nat.{◌≤◌}
use native.Mathlib.Omega.{arith}
use Rattle.errors.specs.Refusal.{refusal_number}
use Rattle.errors.specs.declared.Refusal.{Refusal}

pub number_small : (r : Refusal) → refusal_number r ≤ 12
number_small r = grind arith
