-- The line of a refusal is the text that the refusal displays, and the line's end. Assumes nothing.
use Prim.Native.Nat.{ℕ, suc, ◌^◌, ◌<◌}
use mathlib.Core.Path.{◌≡◌, refl}
use mathlib.Core.List.{◌++◌, append_assoc}
use native.Mathlib.Omega.{arith}
use borrow.Author.Tests.{lt-ltb, le-ltb}
use Rattle.std.specs.Prelude.{decimal as displayed}
use Rattle.std.proofs.lemmas.Fmt.{AppendsLastDigit, decimal_from_appends, length-decimal-le_succ}
use Rattle.errors.specs.Display.{refusal_text}
use Rattle.errors.specs.Refusal.{refusal_number, refusal_returned}
use Rattle.errors.specs.declared.Refusal.{Refusal}
use Rattle.text.specs.Text.{ascii, decimal_below, decimal, line}
use Rattle.refused.specs.Refused.{refused_line}

-- a number in decimal is what std displays of it
last_digit : AppendsLastDigit decimal_below
unfolding decimal_below
last_digit = record {
  one = λ k n h. rw (lt-ltb n 10 h) (grind arith);
  more = λ k n h. rw (le-ltb n 10 h) refl;
}

pub decimal_displayed : (n : ℕ) → n < 2 ^ 64 → decimal n ≡ displayed n
unfolding decimal
decimal_displayed n h = decimal_from_appends decimal_below last_digit (suc n) n h (omega (arith, length-decimal-le_succ n h))

number_small : (r : Refusal) → refusal_number r < 2 ^ 64
number_small r = grind arith

-- the value that is returned has 64 bits
pub line_displayed : (r : Refusal) → refusal_returned r < 2 ^ 64 → refusal_text r ++ ascii "\n" ≡ refused_line (refusal_number r) (refusal_returned r)
unfolding refused_line line ascii
line_displayed r h = rw (decimal_displayed (refusal_number r) (number_small r), decimal_displayed (refusal_returned r) h) (simp append_assoc refl)
