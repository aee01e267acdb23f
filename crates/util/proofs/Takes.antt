-- The laws of `take_of`, `taken_part` and `length_of`. Assumes nothing.
use Prim.Native.Nat.{ℕ, ◌+◌, ◌^◌, ◌%◌, ◌≤◌, ◌<◌}
use mathlib.Core.Path.{◌≡◌, refl, sym, ap, ◌∙◌}
use mathlib.Core.Bool.{Bool, true, false, cond}
use mathlib.Core.List.{List, []}
use native.Mathlib.Omega.{arith}
use lib.ListN.{length, take, drop, length-drop}
use lib.Seq.{length-take-le}
use lib.Dec.{leb}
use borrow.Author.Tests.{le-leb, lt-leb, leb-true, leb-false}
use Rattle.util.proofs.Numbers.{number_in_part}
use Rattle.std.proofs.Math.Nat.{mod-eq_of_lt}
use Rattle.util.specs.Outcome.{result, refusal}
use Rattle.util.specs.Number.{number_at}
use Rattle.util.specs.Take.{length_of, take_of, bytes_of, peek_of, taken_part, taken_to}
use Rattle.util.specs.declared.cur.Needed.{Needed}

-- a take that passed: its bytes are there, and its answer is `passed`
pub record Took {A : Type 0} (len p n : ℕ) (passed answer : A) : Type 0 where
  pub within : p + n ≤ len
  pub holds : answer ≡ passed

-- a short take: refusal 1, and its bytes would end at `needed`, which is past the length
pub record Lacked (len p n number needed : ℕ) : Type 0 where
  pub past : len < p + n
  pub one : number ≡ 1
  pub ends : needed ≡ p + n

module _ {A : Type 0} (len p n : ℕ) (passed : A) where
  pub passes : p + n ≤ len → result passed ≡ take_of len p n passed
  unfolding take_of
  passes h = rw (le-leb (p + n) len h)

  pub falls_short : len < p + n → refusal 1 (p + n) ≡ take_of len p n passed
  unfolding take_of
  falls_short h = rw (lt-leb (p + n) len h)

  -- what the answer says of the take
  pub took : {answer : A} → result answer ≡ take_of len p n passed → Took len p n passed answer
  unfolding take_of
  took {answer} e = go (leb (p + n) len) refl
    where
      go : (t : Bool) → leb (p + n) len ≡ t → Took len p n passed answer
      go true q = record { within = leb-true _ _ q; holds = cc }
      go false q = absurd (cc)

  pub lacked : {number needed : ℕ} → refusal number needed ≡ take_of len p n passed → Lacked len p n number needed
  unfolding take_of
  lacked {number} {needed} e = go (leb (p + n) len) refl
    where
      go : (t : Bool) → leb (p + n) len ≡ t → Lacked len p n number needed
      go true q = absurd (cc)
      go false q = record { past = leb-false _ _ q; one = cc; ends = cc }

-- a refusal of a take is one of every take that ends at the same position, whatever it answers when it passes
pub same_short : {A B : Type 0} (len p n q m : ℕ) (passed : A) (other : B) {number needed : ℕ}
    → p + n ≡ q + m → refusal number needed ≡ take_of len p n passed → refusal number needed ≡ take_of len q m other
same_short len p n q m passed other same e =
    let l = lacked len p n passed e in
    let past : len < q + m = omega (arith, l, same) in
    cc (falls_short len q m other past)

-- a needed length that fits 64 bits is what those bits hold, for callers whose positions are small
module _ (needed : Needed) where
  pub low_exact : length_of needed < 2 ^ 64 → needed.0 % 2 ^ 64 ≡ length_of needed
  low_exact h = mod-eq_of_lt h

-- the bytes that a take answers with
module _ (p n : ℕ) (block : List ℕ) {bytes : List ℕ} (e : result bytes ≡ bytes_of p n block) where
  taken : Took (length block) p n (take n (drop p block)) bytes
  taken = took (length block) p n (take n (drop p block)) e

  pub taken_there : p + n ≤ length block
  taken_there = taken.within

  pub taken_length : n ≡ length bytes
  taken_length = rw taken.holds (sym (length-take-le n (drop p block) (rw length-drop (omega (arith, taken.within)))))

  -- a number in them is the one that stands in the slice
  pub number_taken : (size q r : ℕ) → q + size ≡ n → p + q ≡ r → result (number_at size q bytes) ≡ peek_of size r block
  number_taken size q r ends there =
      let within : r + size ≤ length block = omega (arith, taken.within, ends, there) in
      ap result (rw taken.holds (number_in_part size q p n block (omega (arith, ends))) ∙ ap (λ (s : ℕ). number_at size s block) there)
      ∙ passes (length block) r size (number_at size r block) within

module _ (p n : ℕ) (block : List ℕ) where
  pub part_there : p + n ≤ length block → take n (drop p block) ≡ taken_part p n block
  unfolding taken_part
  part_there h = rw (le-leb (p + n) (length block) h)

  pub part_none : length block < p + n → [] ≡ taken_part p n block
  unfolding taken_part
  part_none h = rw (lt-leb (p + n) (length block) h)

module _ (len p n : ℕ) where
  pub moves : p + n ≤ len → p + n ≡ taken_to len p n
  unfolding taken_to
  moves h = rw (le-leb (p + n) len h)

  pub stays : len < p + n → p ≡ taken_to len p n
  unfolding taken_to
  stays h = rw (lt-leb (p + n) len h)

-- no bytes, wherever they are said to stand
pub part_empty : (p : ℕ) (block : List ℕ) → taken_part p 0 block ≡ []
unfolding taken_part
part_empty p block = go (leb (p + 0) (length block))
  where
    go : (t : Bool) → cond t (take 0 (drop p block)) [] ≡ []
    go true = refl
    go false = refl
