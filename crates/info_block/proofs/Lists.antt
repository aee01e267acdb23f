-- The laws of name lists. Assumes nothing.
use Prim.Native.Nat.{ℕ, ◌+◌, ◌*◌, ◌^◌, ◌≤◌, ◌<◌}
use mathlib.Core.Path.{◌≡◌, sym, ap, ◌∙◌, subst}
use mathlib.Core.List.{List}
use native.Mathlib.Omega.{arith}
use lib.ListN.{length}
use borrow.Author.Tests.{eq-eqb, ne_eqb}
use Rattle.util.specs.Number.{number_at}
use Rattle.util.specs.Outcome.{result}
use Rattle.errors.specs.Refusal.{bad_dummy, bad_size, refusal_outcome}
use Rattle.errors.specs.declared.Kind.{Kind}
use Rattle.errors.specs.declared.Kind.TheVariants.{Texture, Palette}
use Rattle.errors.specs.declared.Refusal.{Refusal}
use Rattle.errors.specs.declared.Refusal.TheVariants.{Dummy, DatumSize}
use Rattle.errors.proofs.Refusals as refusals
use Rattle.scripts.specs.Script.{whole, run, outcome_of, bytes_at}
use Rattle.info_block.specs.InfoBlock.{NameList, datum_bytes, size_at, list_length, list_at, whole_list, name_list}
use Rattle.scripts.proofs.Runs.{taken_whole, take_length, whole_outcome, fault_outcome, refused}
use Rattle.scripts.proofs.Runs.{onward, both, bytes_whole, expect_met, expect_failed, expected, ended, Follows, follows_bind}

-- the data of a list of at most 255 entries are few
pub data_small : (kind : Kind) (c : ℕ) {size : ℕ} → size ≡ datum_bytes kind → c < 2 ^ 8 → size * c < 2 ^ 11
data_small Texture c e h = rw e (omega arith)
data_small Palette c e h = rw e (omega arith)

-- and so is the whole list
pub list_small : (kind : Kind) (c : ℕ) → c < 2 ^ 8 → list_length kind c < 2 ^ 13
list_small Texture c h = omega arith
list_small Palette c h = omega arith

module _ (kind : Kind) (pos c : ℕ) (b : List ℕ) where
  -- a list that was read stands in the block
  pub record Listed (list : NameList) : Type 0 where
    pub within : pos + list_length kind c ≤ length b
    pub is : list ≡ list_at kind pos c b

  pub listed : {list : NameList} → run (whole_list kind pos c) b ≡ whole list → Listed list
  unfolding whole_list run
  listed {list} e =
      let o = both (bytes_at pos (list_length kind c)) _ b e in
      let bytes = bytes_whole pos (list_length kind c) b o.first in
      let p = expected _ (bad_size kind) _ b (expected _ (bad_dummy kind) _ b o.second) in
      record { within = bytes.within; is = cc bytes.same }

module _ (kind : Kind) (pos : ℕ) (b : List ℕ) where
  pub name_listed : {list : NameList} → run (name_list kind pos) b ≡ whole list → Listed kind pos list.count b list
  unfolding name_list
  name_listed {list} e =
      let o = both (bytes_at pos 2) _ b e in
      let l = listed kind pos (number_at 1 1 o.middle) b o.second in
      subst (λ (c : ℕ). Listed kind pos c b list) (sym (ap (λ (x : NameList). x.count) l.is)) l

  -- the list that reading it answered
  pub list_read : {list : NameList} → result list ≡ outcome_of (run (name_list kind pos) b) result → run (name_list kind pos) b ≡ whole list
  list_read e = let o = ended (run (name_list kind pos) b) (λ list. list) e in o.is ∙ ap whole (sym o.gives)

-- The laws in the form of the goals: what reading a list answers, by what it called. The list's length is n.
module _ (kind : Kind) (pos c : ℕ) (b : List ℕ) {n : ℕ} (long : n ≡ list_length kind c) where
  pub list_refused : (r : Refusal) → refusal_outcome r ≡ outcome_of (run (bytes_at pos n) b) result
      → refusal_outcome r ≡ outcome_of (run (whole_list kind pos c) b) result
  unfolding whole_list
  list_refused r e = refused _ _ (rw long (follows_bind (bytes_at pos (list_length kind c)) _ b)) (λ bytes. bytes) _ r e

  module _ {bytes : List ℕ} (taken : result bytes ≡ outcome_of (run (bytes_at pos n) b) result) where
    there : run (bytes_at pos (list_length kind c)) b ≡ whole bytes
    there = taken_whole pos (list_length kind c) b (rw long at taken)

    pub dummy_refused : (number_at 1 0 bytes ≡ 0 → ⊥) → refusal_outcome (Dummy kind) ≡ outcome_of (run (whole_list kind pos c) b) result
    unfolding whole_list
    dummy_refused bad =
        fault_outcome _ (onward (bytes_at pos (list_length kind c)) _ b there ∙ expect_failed _ (bad_dummy kind) _ b (ne_eqb _ 0 bad))

    module _ {size : ℕ} (sized : size ≡ datum_bytes kind) (zero : number_at 1 0 bytes ≡ 0) where
      pub size_refused : (number_at 2 (size_at c) bytes ≡ size → ⊥)
          → refusal_outcome (DatumSize kind) ≡ outcome_of (run (whole_list kind pos c) b) result
      unfolding whole_list
      size_refused bad =
          fault_outcome _
          (onward (bytes_at pos (list_length kind c)) _ b there
          ∙ (expect_met _ (bad_dummy kind) _ b (eq-eqb _ 0 zero)
          ∙ expect_failed _ (bad_size kind) _ b (ne_eqb _ (datum_bytes kind) (λ e. bad (e ∙ sym sized)))))

      pub list_found : number_at 2 (size_at c) bytes ≡ size
          → result (record { count = c; bytes = bytes }) ≡ outcome_of (run (whole_list kind pos c) b) result
      unfolding whole_list run
      list_found good =
          whole_outcome _
          (onward (bytes_at pos (list_length kind c)) _ b there
          ∙ (expect_met _ (bad_dummy kind) _ b (eq-eqb _ 0 zero)
          ∙ expect_met _ (bad_size kind) _ b (eq-eqb _ (datum_bytes kind) (good ∙ sized))))

-- and the whole reading of it
module _ (kind : Kind) (pos : ℕ) (b : List ℕ) where
  pub head_refused : (r : Refusal) → refusal_outcome r ≡ outcome_of (run (bytes_at pos 2) b) result
      → refusal_outcome r ≡ outcome_of (run (name_list kind pos) b) result
  unfolding name_list
  head_refused r e = refused _ _ (follows_bind (bytes_at pos 2) _ b) (λ head. head) _ r e

  pub list_by_count : {head : List ℕ} → result head ≡ outcome_of (run (bytes_at pos 2) b) result
      → outcome_of (run (whole_list kind pos (number_at 1 1 head)) b) result ≡ outcome_of (run (name_list kind pos) b) result
  unfolding name_list
  list_by_count e = ap (λ x. outcome_of x result) (sym (onward (bytes_at pos 2) _ b (taken_whole pos 2 b e)))

-- for the functions that read lists
pub ruleset reads = (
  refusals.passed_as,
  take_length,
  list_small,
  list_refused,
  dummy_refused,
  size_refused,
  list_found,
  head_refused,
  list_by_count,
)

-- where the datum of entry n stands, as the code computes it: its first four bytes, and so any fewer, are in the list
pub datum_within : (kind : Kind) (c n : ℕ) {size : ℕ} → size ≡ datum_bytes kind → n < c → 16 + 4 * c + size * n + 4 ≤ list_length kind c
datum_within Texture c n e h = rw e (omega arith)
datum_within Palette c n e h = rw e (omega arith)
