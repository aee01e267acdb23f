-- The laws of texels written one after another. Assumes nothing.
use Prim.Native.Nat.{ℕ, zero, suc, ◌+◌, ◌*◌, ◌-◌, ◌≤◌, ◌<◌}
use mathlib.Core.Path.{◌≡◌, refl, sym, ap, ◌∙◌, subst}
use mathlib.Core.Bool.{Bool, true, false, cond}
use mathlib.Core.List.{List, [], ◌++◌, append-nil, append_assoc}
use native.Mathlib.Numerals.{add-one}
use native.Mathlib.Omega.{arith}
use lib.ListN.{length, take, drop, length-append, length-drop, drop_of_length-le}
use lib.Seq.{sets, sets-eq, take_at, drop_at, take_all, drop-drop, length-take-le}
use lib.Dec.{eqb, ltb}
use borrow.Author.Count.{below_more}
use borrow.Author.Tests.{eq-eqb, ne_eqb, ltb-true, ltb-false}
use Rattle.output.proofs.Outputs.{Wrote, wrote_none, wrote_more, wrote_length, pieces_length, pieces_same, pieces_add}
use Rattle.output.specs.Output.{pieces}
use Rattle.paint.specs.Paint.{painted, Paints, Makes}

-- texels of four bytes each
abbrev pub Fours : (f : ℕ → List ℕ) (n : ℕ) → Type 0
Fours f n = (i : ℕ) → i < n → length (f i) ≡ 4

pub length_quads : (f : ℕ → List ℕ) (n : ℕ) → Fours f n → length (pieces f n) ≡ 4 * n
length_quads f n fours = omega (arith, pieces_length f 4 n fours)

-- texel k of the first n
pub quad_at : (f : ℕ → List ℕ) (n k : ℕ) (rest : List ℕ) → Fours f n → k < n → take 4 (drop (4 * k) (pieces f n ++ rest)) ≡ f k
unfolding pieces
quad_at f zero k rest fours h = absurd (omega arith)
quad_at f (suc n) k rest fours h = rw append_assoc (go (ltb k n) refl (λ l. quad_at f n k (f n ++ rest) (λ i m. fours i (omega arith)) l))
  where
    go : (t : Bool) → ltb k n ≡ t → (k < n → take 4 (drop (4 * k) (pieces f n ++ (f n ++ rest))) ≡ f k)
        → take 4 (drop (4 * k) (pieces f n ++ (f n ++ rest))) ≡ f k
    go true e before = before (ltb-true k n e)
    go false e before =
        let same : k ≡ n = omega (arith, ltb-false k n e) in
        rw (same, drop_at (pieces f n) (f n ++ rest) (4 * n) (length_quads f n (λ i l. fours i (omega arith))))
        (take_at (f n) rest 4 (fours n (omega arith)))

-- an output whose first n texels are written: the invariant of the loops
abbrev pub Painting : (f : ℕ → List ℕ) (n : ℕ) (entry now : List ℕ) → Type 0
Painting f n entry now = Wrote (pieces f n) entry (4 * n) now

pub paint_none : (f : ℕ → List ℕ) (entry : List ℕ) → Painting f 0 entry entry
unfolding pieces
paint_none f entry = wrote_none entry

module _ (f : ℕ → List ℕ) (n : ℕ) {entry now : List ℕ} (w : Painting f n entry now) where
  -- one more texel
  pub paint_more : {texel : List ℕ} → texel ≡ f n → length (f n) ≡ 4 → 4 * n + 4 ≤ length entry
      → Painting f (n + 1) entry (sets now (4 * n) texel)
  unfolding pieces
  paint_more e four h =
      rw (e, add-one)
      (subst (λ k. Wrote (pieces f n ++ f n) entry k (sets now (4 * n) (f n))) (omega arith) (wrote_more w (f n) (omega arith)))

  -- the output with n texels
  pub painted_all : now ≡ painted f n entry
  unfolding painted
  painted_all = w.holds ∙ rw (sym w.ends)

-- m texels written to the part of an output from a on
pub put_part : (g : ℕ → List ℕ) (m a k : ℕ) (l : List ℕ) → k ≡ length l - a → a + 4 * m ≤ length l → length (pieces g m) ≡ 4 * m
    → take a l ++ (painted g m (take k (drop a l)) ++ drop k (drop a l)) ≡ sets l a (pieces g m)
unfolding painted
put_part g m a k l e h sized =
    rw (
      take_all k (drop a l) (simp length-drop (omega arith)),
      drop_of_length-le (drop a l) {i = k} (simp length-drop (omega arith)),
      append-nil,
      drop-drop (4 * m) a l,
      sets-eq (pieces g m) l a (omega arith),
      sized,
      append_assoc,
    )

-- an output with n texels of four bytes each
pub painting_of : (f : ℕ → List ℕ) (n : ℕ) {entry now : List ℕ} → Fours f n → 4 * n ≤ length entry → now ≡ painted f n entry → Painting f n entry now
unfolding painted
painting_of f n {entry} fours h e =
    let sized = length_quads f n fours in
    record { fits = omega (arith, sized); ends = sym sized; holds = rw e (rw sized) }

-- m texels more, which were written to the part of the output behind the first n
pub paint_part : (f g : ℕ → List ℕ) (n m a k : ℕ) {entry now part : List ℕ} → Painting f n entry now → a ≡ 4 * n → k ≡ length now - a
    → 4 * n + 4 * m ≤ length entry → part ≡ painted g m (take k (drop a now)) → length part ≡ length (take k (drop a now))
    → ((j : ℕ) → j < m → g j ≡ f (n + j)) → Painting f (n + m) entry (take a now ++ (part ++ drop k (drop a now)))
unfolding painted
paint_part f g n m a k {entry} {now} {part} w ea ek h e kept same =
    let l = wrote_length w in
    let part_length = length-take-le k (drop a now) (simp length-drop (omega arith)) in
    let sized : length (pieces g m) ≡ 4 * m = omega (arith, simp (length-append, length-drop) at (sym (ap length e))) in
    let end : 4 * n + length (pieces g m) ≡ 4 * (n + m) = omega arith in
    rw (e, put_part g m a k now ek (omega arith) sized, ea, pieces_add f n m, ← pieces_same g (λ j. f (n + j)) m same, ← end)
    (wrote_more w (pieces g m) (omega arith))

-- texel k of an output with n texels
pub painted_at : (f : ℕ → List ℕ) (n k : ℕ) (entry : List ℕ) → Fours f n → k < n → take 4 (drop (4 * k) (painted f n entry)) ≡ f k
unfolding painted
painted_at f n k entry fours h = quad_at f n k (drop (4 * n) entry) fours h

pub painted_room : (f : ℕ → List ℕ) (n : ℕ) (entry : List ℕ) → Fours f n → 4 * n ≤ length (painted f n entry)
unfolding painted
painted_room f n entry fours = rw length-append (omega (arith, length_quads f n fours))

-- texels that may be made, written one after another
pub record PaintingMade (post : ℕ → List ℕ → Type 0) (n : ℕ) (entry now : List ℕ) : Type 0 where
  pub texel : ℕ → List ℕ
  pub four : Fours texel n
  pub made : (k : ℕ) → k < n → post k (texel k)
  pub painting : Painting texel n entry now

module _ {post : ℕ → List ℕ → Type 0} where
  pub made_none : (entry : List ℕ) → PaintingMade post 0 entry entry
  made_none entry = record { texel = λ k. []; four = λ k h. absurd (omega arith); made = λ k h. absurd (omega arith); painting = paint_none _ entry }

  module _ {n : ℕ} {entry now : List ℕ} (w : PaintingMade post n entry now) where
    pub made_more : {texel : List ℕ} → post n texel → length texel ≡ 4 → 4 * n + 4 ≤ length entry
        → PaintingMade post (n + 1) entry (sets now (4 * n) texel)
    made_more {texel} is four h = record {
      texel = with;
      four = below_more (λ k. length (with k) ≡ 4) n (λ k l. rw (← before k l) (w.four k l)) (rw (← here) four);
      made = below_more (λ k. post k (with k)) n (λ k l. subst (post k) (before k l) (w.made k l)) (subst (post n) here is);
      painting =
          paint_more with n (rw (← pieces_same w.texel with n before) w.painting) here (rw (← here) four) h;
    }
      where
        with : ℕ → List ℕ
        with k = cond (eqb k n) texel (w.texel k)

        before : (k : ℕ) → k < n → w.texel k ≡ with k
        before k l = rw (ne_eqb k n (λ e. omega (arith, e)))

        here : texel ≡ with n
        here = rw (eq-eqb n n refl)

    pub made_all : Paints post n entry now
    made_all = record { texel = w.texel; four = w.four; made = w.made; paints = painted_all w.texel n w.painting }

  -- where only one texel may be made for a number
  pub painted_as : (f : ℕ → List ℕ) (n : ℕ) {entry exit : List ℕ} → Paints post n entry exit → Makes post n f → exit ≡ painted f n entry
  unfolding painted
  painted_as f n p makes = p.paints ∙ rw (pieces_same p.texel f n (λ k h. makes k (p.texel k) h (p.made k h)))

-- outputs with the same texels
pub painted_same : (f g : ℕ → List ℕ) {m n : ℕ} (out : List ℕ) → ((i : ℕ) → g i ≡ f i) → m ≡ n → painted f m out ≡ painted g n out
unfolding painted
painted_same f g {m} {n} out same e = rw (e, pieces_same f g n (λ i l. sym (same i)))
