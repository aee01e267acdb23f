-- The law on blocks that are still arriving, for every script: what a run on the first m bytes of a block says of the run on the whole.
-- It carries all of demand 3 that concerns one attempt. A loop that is lent w bytes after `short w` keeps
-- count + records given (ends s b) = records 0 (ends s b). Assumes nothing.
use Prim.Native.Nat.{ℕ, suc, ◌+◌, ◌≤◌, ◌<◌}
use mathlib.Core.Path.{◌≡◌, refl, sym, ◌∙◌, ap, subst}
use mathlib.Core.Bool.{Bool, true, false}
use mathlib.Core.List.{List, [], ◌∷◌}
use native.Mathlib.Omega.{arith}
use lib.ListN.{length, take, drop}
use lib.Seq.{length-take-le}
use lib.Dec.{leb}
use borrow.Author.Tests.{le-leb, lt-leb, leb-true, leb-false, lt-ltb, le-ltb}
use Rattle.util.proofs.Parts.{part_of_prefix}
use Rattle.scripts.specs.Script.{Script, done, refuse, get, short, run, ends, records}
use Rattle.scripts.proofs.Runs.{run_in, run_out}

-- A run on the first m bytes that is short of w: w is past m. The whole is short of w where it has fewer bytes than w, and w is the last
-- to count; else w is counted, and what is left to count is past w.
pub record Waits {A : Type 0} (s : Script A) (b : List ℕ) (m w : ℕ) : Type 0 where
  pub past : m < w
  pub out : length b < w → (run s b ≡ short w) × (records m (ends s b) ≡ 1)
  pub within : w ≤ length b → records m (ends s b) ≡ suc (records w (ends s b))

-- Either the run on the first m bytes is not short, and is the run on the whole, with no length left to count; or it is short.
pub data Early {A : Type 0} (s : Script A) (b : List ℕ) (m : ℕ) : Type 0 where
  same : ((w : ℕ) → run s (take m b) ≡ short w → ⊥) → run s (take m b) ≡ run s b → records m (ends s b) ≡ 0 → Early s b m
  waits : (w : ℕ) → run s (take m b) ≡ short w → Waits s b m w → Early s b m

module _ {A : Type 0} (p n : ℕ) (next : List ℕ → Script A) (b : List ℕ) where
  ends_in : p + n ≤ length b → ends (get p n next) b ≡ (p + n) ∷ ends (next (take n (drop p b))) b
  unfolding ends
  ends_in h = rw (le-leb _ _ h)

  ends_out : length b < p + n → ends (get p n next) b ≡ (p + n) ∷ []
  unfolding ends
  ends_out h = rw (lt-leb _ _ h)

module _ (m x : ℕ) (xs : List ℕ) where
  records_skip : x ≤ m → records m (x ∷ xs) ≡ records m xs
  unfolding records
  records_skip h = rw (le-ltb _ _ h)

  records_rise : m < x → records m (x ∷ xs) ≡ suc (records x xs)
  unfolding records
  records_rise h = rw (lt-ltb _ _ h)

records_last : (m x : ℕ) → m < x → records m (x ∷ []) ≡ 1
unfolding records
records_last m x h = records_rise m x [] h

-- the take is behind the first m bytes
module _ {A : Type 0} (p n : ℕ) (next : List ℕ → Script A) (b : List ℕ) (m : ℕ) (h : m ≤ length b) (f : m < p + n) where
  stopped : Early (get p n next) b m
  stopped =
      waits (p + n) (run_out p n next (take m b) (rw (length-take-le m b h) f))
      (record {
        past = f;
        out = λ z. (run_out p n next b z, ap (records m) (ends_out p n next b z) ∙ records_last m (p + n) f);
        within =
            λ z.
            ap (records m) (ends_in p n next b z)
            ∙ (records_rise m (p + n) _ f
            ∙ ap suc (sym (ap (records (p + n)) (ends_in p n next b z) ∙ records_skip (p + n) (p + n) _ (omega arith))));
      })

-- the take is within the first m bytes: all is as it is from there on
module _ {A : Type 0} (p n : ℕ) (next : List ℕ → Script A) (b : List ℕ) (m : ℕ) (h : m ≤ length b) (f : p + n ≤ m) where
  prefix_run : run (get p n next) (take m b) ≡ run (next (take n (drop p b))) (take m b)
  prefix_run =
      run_in p n next (take m b) (rw (length-take-le m b h) f)
      ∙ ap (λ part. run (next part) (take m b)) (part_of_prefix p n m b f)

  whole_run : run (get p n next) b ≡ run (next (take n (drop p b))) b
  whole_run = run_in p n next b (omega arith)

  later : (w : ℕ) → p + n ≤ w → records w (ends (get p n next) b) ≡ records w (ends (next (take n (drop p b))) b)
  later w l = ap (records w) (ends_in p n next b (omega arith)) ∙ records_skip w (p + n) _ l

  passed : Early (next (take n (drop p b))) b m → Early (get p n next) b m
  passed (same never e r) = same (λ w z. never w (sym prefix_run ∙ z)) (prefix_run ∙ (e ∙ sym whole_run)) (later m f ∙ r)
  passed (waits w e k) =
      waits w (prefix_run ∙ e)
      (record {
        past = k.past;
        out = λ z. (whole_run ∙ (k.out z).0, later m f ∙ (k.out z).1);
        within = λ z. later m f ∙ (k.within z ∙ ap suc (sym (later w (omega (arith, k.past)))));
      })

pub early : {A : Type 0} (s : Script A) (b : List ℕ) (m : ℕ) → m ≤ length b → Early s b m
unfolding run ends records
early (done a) b m h = same (λ w e. cc) refl refl
early (refuse found) b m h = same (λ w e. cc) refl refl
early (get p n next) b m h = go (leb (p + n) m) refl (early (next (take n (drop p b))) b m h)
  where
    go : (t : Bool) → leb (p + n) m ≡ t → Early (next (take n (drop p b))) b m → Early (get p n next) b m
    go true e r = passed p n next b m h (leb-true _ _ e) r
    go false e r = stopped p n next b m h (leb-false _ _ e)

-- the same, where it is known whether the run on the first m bytes is short
module _ {A : Type 0} (s : Script A) (b : List ℕ) (m : ℕ) (h : m ≤ length b) where
  pub early_settled : ((w : ℕ) → run s (take m b) ≡ short w → ⊥) → (run s (take m b) ≡ run s b) × (records m (ends s b) ≡ 0)
  early_settled never = go (early s b m h)
    where
      go : Early s b m → (run s (take m b) ≡ run s b) × (records m (ends s b) ≡ 0)
      go (same _ e r) = (e, r)
      go (waits w e _) = absurd (never w e)

  pub early_waits : {w : ℕ} → run s (take m b) ≡ short w → Waits s b m w
  early_waits {w} e = go (early s b m h)
    where
      go : Early s b m → Waits s b m w
      go (same never _ _) = absurd (never w e)
      go (waits v q k) = let same_length : v ≡ w = cc (sym q ∙ e) in subst (Waits s b m) same_length k
