-- The line of a refusal is short. Assumes nothing.
use Prim.Native.Nat.{ℕ, ◌^◌, ◌≤◌, ◌<◌}
use native.Mathlib.Omega.{arith}
use lib.ListN.{length, length-append}
use Rattle.text.specs.Text.{ascii, line}
use Rattle.text.proofs.Decimals.{decimal_length}
use Rattle.refused.specs.Refused.{refused_line}

-- Its numbers have 64 bits, and so at most 20 digits each.
pub refused_length : (number returned : ℕ) → number < 2 ^ 64 → returned < 2 ^ 64 → length (refused_line number returned) ≤ 50
unfolding refused_line line ascii
refused_length number returned h k =
    simp length-append (omega (arith, decimal_length number 19 (omega arith), decimal_length returned 19 (omega arith)))
