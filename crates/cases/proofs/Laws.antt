-- The laws of `field_of` and of `added`. Assumes nothing.
use Prim.Native.Nat.{ℕ, ◌+◌, ◌*◌, ◌/◌, ◌%◌}
use mathlib.Core.Path.{◌≡◌, sym, ap, ◌∙◌}
use mathlib.Core.List.{List}
use native.Mathlib.Omega.{arith}
use native.Mathlib.Nat.{add-mod-mod, add-mul-mod_self_left, mod-mod}
use lib.ListN.{length}
use borrow.Author.Tests.{le-leb, lt-leb}
use Rattle.std.specs.Prelude.{Result, Ok, Err}
use Rattle.std.specs.Result.{result_unwrap_or}
use Rattle.util.specs.Number.{number_at}
use Rattle.util.specs.Take.{peek_of, taken_outcome}
use Rattle.util.specs.declared.cur.Needed.{Needed}
use Rattle.util.proofs.Takes.{took, lacked}
use Rattle.cases.specs.Cases.{field_of, added}

module _ (pos : ℕ) (bytes : List ℕ) where
  pub field_got : (answer : Result ℕ Needed) → taken_outcome answer ≡ peek_of 4 pos bytes → result_unwrap_or answer 0 ≡ field_of pos bytes
  unfolding field_of
  field_got (Ok n) e =
      let t = took (length bytes) pos 4 (number_at 4 pos bytes) e in
      rw (le-leb (pos + 4) (length bytes) t.within) t.holds
  field_got (Err needed) e =
      let l = lacked (length bytes) pos 4 (number_at 4 pos bytes) e in
      rw (lt-leb (pos + 4) (length bytes) l.past)

module _ (x : ℕ) where
  plain : (s : ℕ) → added s x ≡ (31 * (s % 65521) + x) % 65521
  plain s = add-mod-mod (31 * (s % 65521)) x 65521

  whole : (y : ℕ) → (31 * y + x) % 65521 ≡ (31 * (y % 65521) + x) % 65521
  whole y =
      let e : 31 * y + x ≡ (31 * (y % 65521) + x) + 65521 * (31 * (y / 65521)) = omega arith in
      ap (λ n. n % 65521) e ∙ add-mul-mod_self_left (31 * (y % 65521) + x) 65521 (31 * (y / 65521))

  after : (y s : ℕ) → s ≡ y % 65521 → added s x ≡ (31 * y + x) % 65521
  after y s e =
      plain s ∙ (ap (λ t. (31 * t + x) % 65521) (ap (λ t. t % 65521) e ∙ mod-mod y 65521) ∙ sym (whole y))

-- four numbers at once, with one remainder at the start and one at the end
pub four : (s a b c d : ℕ) → (31 * (31 * (31 * (31 * (s % 65521) + a) + b) + c) + d) % 65521 ≡ added (added (added (added s a) b) c) d
four s a b c d = sym (after d _ _ (after c _ _ (after b _ _ (plain a s))))
