-- The texts of a record. Assumes nothing.
use Prim.Native.Nat.{ℕ, ◌*◌, ◌≤◌}
use mathlib.Core.Path.{◌≡◌, refl, ap, sym, ◌∙◌}
use mathlib.Core.List.{List}
use native.Mathlib.Omega.{arith}
use lib.ListN.{length, take, length-take}
use Rattle.std.specs.List.{flat_map}
use Rattle.std.specs.Prelude.{Result, Ok, Err, IsOk}
use Rattle.util.specs.Outcome.{result}
use Rattle.errors.specs.Refusal.{result_outcome}
use Rattle.errors.specs.declared.Refusal.{Refusal}
use Rattle.errors.proofs.Refusals.{refusal_not}
use Rattle.output.specs.Output.{write_outcome, write_output}
use Rattle.output.proofs.Outputs.{outcome_there, output_there, text_there as first_there}
use Rattle.name.specs.Name.{safe_text, display_text, display_byte, trimmed}
use Rattle.name.proofs.Texts.{safe_within, trimmed_within, shown_few, shown_all}

-- both texts fit 32 bytes
pub safe_fits : (name : List ℕ) → length name ≡ 16 → length (safe_text name) ≤ 32
safe_fits name e = let most : length (safe_text name) ≤ 16 = rw e at (safe_within name) in omega arith

pub display_fits : (name : List ℕ) → length name ≡ 16 → length (display_text name) ≤ 32
unfolding display_text
display_fits name e =
    let n : ℕ = length (trimmed name) in
    let most : length (flat_map display_byte (trimmed name)) ≤ 2 * n = rw (shown_all (trimmed name) n (omega arith)) at (shown_few (trimmed name) n) in
    omega (arith, trimmed_within name, most)

-- a text that fits is written
module _ (text entry exit : List ℕ) (answer : Result ℕ Refusal) (outcome : result_outcome answer ≡ write_outcome (result text) entry)
    (fits : length text ≤ length entry) where
  told : result_outcome answer ≡ result (length text)
  told = outcome ∙ outcome_there text entry fits

  pub text_ok : IsOk answer
  text_ok = go answer told
    where
      go : (answer : Result ℕ Refusal) → result_outcome answer ≡ result (length text) → IsOk answer
      go (Ok len) e = refl
      go (Err refused) e = absurd (refusal_not refused e)

  module _ (len : ℕ) (is : answer ≡ Ok len) (output : exit ≡ write_output (result text) entry) where
    there : len ≡ length text
    there = cc (rw is at told)

    pub text_written : take len exit ≡ text
    text_written = rw (there, output, output_there text entry fits) (first_there text entry fits)

    pub text_length : len ≡ length (take len exit)
    text_length = there ∙ sym (ap length text_written)

    pub text_within : len ≤ length exit
    text_within = omega (arith, text_length, length-take len exit)

pub ruleset records = (safe_fits, display_fits, text_ok, text_written, text_length)
