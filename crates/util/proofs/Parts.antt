-- Parts of parts: the n bytes at p of a slice, `take n (drop p b)`. Assumes nothing.
use Prim.Native.Nat.{ℕ, ◌+◌, ◌≤◌, ◌<◌}
use mathlib.Core.Path.{◌≡◌, sym, ap, ◌∙◌}
use mathlib.Core.List.{List}
use native.Mathlib.Omega.{arith}
use lib.ListN.{length, take, drop, get_or, length-take, length-drop}
use lib.Seq.{drop-drop, ext_get_or, get_or-drop, get_or-take}

module _ (p n m : ℕ) (b : List ℕ) (h : p + n ≤ m) where
  -- of the first m bytes
  pub part_of_prefix : take n (drop p (take m b)) ≡ take n (drop p b)
  part_of_prefix = ext_get_or 0 _ _ (simp (length-take, length-drop) (omega arith)) at_each
    where
      at_each : (i : ℕ) → i < length (take n (drop p (take m b))) → get_or (take n (drop p (take m b))) i 0 ≡ get_or (take n (drop p b)) i 0
      at_each i l =
          let l' : i < n = omega (arith, length-take n (drop p (take m b))) in
          let l'' : p + i < m = omega arith in
          get_or-take n (drop p (take m b)) i 0 l'
          ∙ (get_or-drop p (take m b) i 0
          ∙ (get_or-take m b (p + i) 0 l'' ∙ (sym (get_or-drop p b i 0) ∙ sym (get_or-take n (drop p b) i 0 l'))))

-- of the m bytes at q
pub part_of_part : (p n q m : ℕ) (b : List ℕ) → p + n ≤ m → take n (drop p (take m (drop q b))) ≡ take n (drop (q + p) b)
part_of_part p n q m b h = part_of_prefix p n m (drop q b) h ∙ ap (take n) (drop-drop p q b)
