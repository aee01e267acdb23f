-- A table's rule as one fact: the table is the list of the rule's values. antt computes both sides at each entry. Assumes nothing.
use Prim.Native.Nat.{ℕ, zero, suc, ◌+◌, ◌<◌}
use mathlib.Core.Path.{◌≡◌, ◌∙◌}
use mathlib.Core.List.{List, [], ◌∷◌}
use native.Mathlib.Nat.{add-zero, zero-add, add-suc, suc-add, le_of_suc-le-suc, not-suc-le-zero}
use lib.ListN.{get_or}

module _ {A : Type 0} (f : ℕ → A) where
  -- f at the n numbers from i on
  abbrev pub tabulate : (i n : ℕ) → List A
  tabulate i zero = []
  tabulate i (suc n) = f i ∷ tabulate (suc i) n

  tabulated_from : (i n k : ℕ) (d : A) → k < n → get_or (tabulate i n) k d ≡ f (i + k)
  tabulated_from i zero k d h = absurd (not-suc-le-zero h)
  tabulated_from i (suc n) zero d h = rw add-zero
  tabulated_from i (suc n) (suc k) d h = tabulated_from (suc i) n k d (le_of_suc-le-suc h) ∙ rw (suc-add, add-suc)

  -- a table that is `tabulate 0 n` has f k at k
  pub tabulated : (n k : ℕ) (d : A) → k < n → get_or (tabulate 0 n) k d ≡ f k
  tabulated n k d h = tabulated_from 0 n k d h ∙ rw zero-add
