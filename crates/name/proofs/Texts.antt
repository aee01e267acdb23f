-- The laws of names' texts: what is left of a name without its trailing zeros, and texts made byte after byte. Assumes nothing.
use Prim.Native.Nat.{ℕ, zero, suc, ◌+◌, ◌*◌, ◌/◌, ◌%◌, ◌≤◌, ◌<◌, max}
use mathlib.Core.Path.{◌≡◌, refl, ap, ◌∙◌}
use mathlib.Core.Bool.{Bool, true, false, cond}
use mathlib.Core.List.{List, [], ◌∷◌, ◌++◌, map, reverse, append-nil}
use native.Mathlib.Nat.{zero-add}
use native.Mathlib.Omega.{arith}
use lib.ListN.{length, take, get_or, length-append, length-take, length-map, take-append-drop}
use lib.Seq.{take-take, sets, length-sets}
use lib.Dec.{eqb, ltb}
use Rattle.std.specs.List.{prefix_len, flat_map}
use Rattle.std.proofs.lemmas.List.Concat.{flat_map-append}
use Rattle.std.proofs.lemmas.List.{take_all, take-map, take_more, reverse-append, reverse-reverse, length-reverse}
use borrow.Author.Tests.{eqb-true, eqb-false, ne_eqb}
use Rattle.output.proofs.Outputs.{text_there}
use Rattle.text.proofs.Puts.{sets_both}
use Rattle.name.specs.Name.{before, trimmed, safe_byte, or_underscore, safe_text, display_byte}

trimmed_zero : (xs : List ℕ) → trimmed (xs ++ (0 ∷ [])) ≡ trimmed xs
unfolding trimmed
trimmed_zero [] = refl
trimmed_zero (x ∷ xs) = rw (trimmed_zero xs)

before_some : (x : ℕ) (xs : List ℕ) (b : ℕ) → before x (xs ++ (b ∷ [])) ≡ x ∷ (xs ++ (b ∷ []))
before_some x [] b = refl
before_some x (y ∷ ys) b = refl

trimmed_kept : (xs : List ℕ) (b : ℕ) → (b ≡ 0 → ⊥) → trimmed (xs ++ (b ∷ [])) ≡ xs ++ (b ∷ [])
unfolding trimmed
trimmed_kept [] b h = rw (ne_eqb b 0 h)
trimmed_kept (x ∷ xs) b h = rw (trimmed_kept xs b h) (before_some x xs b)

-- what is left of a name, and the zeros behind it
reverse_cons : (y : ℕ) (ys : List ℕ) → reverse (y ∷ ys) ≡ reverse ys ++ (y ∷ [])
reverse_cons y ys = reverse-append (y ∷ []) ys

zeros_reversed : (ys : List ℕ) → length (trimmed (reverse ys)) + prefix_len (λ b. eqb b 0) ys ≡ length ys
unfolding trimmed
zeros_reversed [] = refl
zeros_reversed (y ∷ ys) = rw (reverse_cons y ys) (go (eqb y 0) refl (zeros_reversed ys))
  where
    go : (t : Bool) → eqb y 0 ≡ t → length (trimmed (reverse ys)) + prefix_len (λ b. eqb b 0) ys ≡ length ys
        → length (trimmed (reverse ys ++ (y ∷ []))) + prefix_len (λ b. eqb b 0) (y ∷ ys) ≡ suc (length ys)
    go true q h = let zero : y ≡ 0 = eqb-true y 0 q in rw (zero, trimmed_zero (reverse ys)) (omega arith)
    go false q h = rw (trimmed_kept (reverse ys) y (eqb-false y 0 q), q, length-append, length-reverse) (omega arith)

pub zeros_trimmed : (xs : List ℕ) → length (trimmed xs) + prefix_len (λ b. eqb b 0) (reverse xs) ≡ length xs
zeros_trimmed xs = rw (reverse-reverse, length-reverse) at (zeros_reversed (reverse xs))

pub take_trimmed : (xs : List ℕ) → take (length (trimmed xs)) xs ≡ trimmed xs
unfolding trimmed
take_trimmed [] = refl
take_trimmed (x ∷ xs) = go (trimmed xs) (take_trimmed xs)
  where
    none : (t : Bool) → take (length (cond t [] (x ∷ []))) (x ∷ xs) ≡ cond t [] (x ∷ [])
    none true = refl
    none false = refl

    go : (t : List ℕ) → take (length t) xs ≡ t → take (length (before x t)) (x ∷ xs) ≡ before x t
    go [] q = none (eqb x 0)
    go (b ∷ t) q = ap (λ l. x ∷ l) q

pub trimmed_within : (name : List ℕ) → length (trimmed name) ≤ length name
trimmed_within name = omega (arith, zeros_trimmed name)

-- a name in letters, digits and underscores
safe_first : (name : List ℕ) → 0 < length name → trimmed name ≡ [] → take 1 (map safe_byte name) ≡ 95 ∷ []
unfolding trimmed
safe_first [] h e = absurd (omega arith)
safe_first (x ∷ xs) h e = go (trimmed xs) e
  where
    go : (t : List ℕ) → before x t ≡ [] → safe_byte x ∷ [] ≡ 95 ∷ []
    go [] q = bit (eqb x 0) refl q
      where
        bit : (z : Bool) → eqb x 0 ≡ z → cond z [] (x ∷ []) ≡ [] → safe_byte x ∷ [] ≡ 95 ∷ []
        bit true z q = rw (eqb-true x 0 z)
        bit false z q = absurd (cc)
    go (b ∷ t) q = absurd (cc)

pub safe_taken : (name : List ℕ) → 0 < length name → take (max (length (trimmed name)) 1) (map safe_byte name) ≡ safe_text name
unfolding safe_text
safe_taken name h = go (trimmed name) refl
  where
    go : (t : List ℕ) → trimmed name ≡ t → take (max (length t) 1) (map safe_byte name) ≡ or_underscore (map safe_byte t)
    go [] e = safe_first name h e
    go (b ∷ t) e =
        let most : max (suc (length t)) 1 ≡ length (trimmed name) = rw e (omega arith) in
        rw (most, take-map) (ap (map safe_byte) (take_trimmed name ∙ e))

pub safe_within : (name : List ℕ) → length (safe_text name) ≤ max (length name) 1
unfolding safe_text
safe_within name = go (map safe_byte (trimmed name)) (rw length-map (omega (arith, trimmed_within name)))
  where
    go : (t : List ℕ) → length t ≤ length name → length (or_underscore t) ≤ max (length name) 1
    go [] q = omega arith
    go (b ∷ t) q = omega arith

pub display_short : (b : ℕ) → length (display_byte b) ≤ 2
unfolding display_byte
display_short b = go (ltb b 32) (ltb b 128)
  where
    go : (t u : Bool) → length (cond t (46 ∷ []) (cond u (b ∷ []) ((192 + b / 64) ∷ (128 + b % 64) ∷ []))) ≤ 2
    go true u = omega arith
    go false true = omega arith
    go false false = omega arith

-- the text of the next byte behind those of the first i
pub shown_more : (bytes : List ℕ) (i : ℕ) → i < length bytes
    → flat_map display_byte (take (i + 1) bytes) ≡ flat_map display_byte (take i bytes) ++ display_byte (get_or bytes i 0)
shown_more bytes i h = rw (take_more bytes i 0 h, flat_map-append, append-nil)

-- at most two bytes for each
pub shown_few : (bytes : List ℕ) (i : ℕ) → length (flat_map display_byte (take i bytes)) ≤ 2 * i
shown_few bytes zero = omega arith
shown_few [] (suc i) = omega arith
shown_few (b ∷ bytes) (suc i) = omega (arith, length-append (display_byte b) (flat_map display_byte (take i bytes)), display_short b, shown_few bytes i)

-- the texts of all of them
pub shown_all : (bytes : List ℕ) (i : ℕ) → length bytes ≤ i → flat_map display_byte (take i bytes) ≡ flat_map display_byte bytes
shown_all bytes i h = rw take_all

-- the texts of the first bytes
module _ (xs : List ℕ) (i : ℕ) where
  -- the text of n bytes has room for that of the first i and of the next
  pub flat_room : (f : ℕ → List ℕ) (n : ℕ) → i < n → n ≤ length xs
      → length (flat_map f (take i xs)) + length (f (get_or xs i 0)) ≤ length (flat_map f (take n xs))
  flat_room f n h k =
      let more : flat_map f (take (i + 1) xs) ≡ flat_map f (take i xs) ++ f (get_or xs i 0) =
      rw (take_more xs i 0 (omega arith), flat_map-append, append-nil)
      in
      let next = simp length-append at (ap length more) in
      let e = rw flat_map-append at (ap (flat_map f) (take-append-drop (i + 1) (take n xs))) in
      let rest = simp (length-append, take-take (i + 1) n xs (omega arith)) at (ap length e) in
      omega arith

pub text_first : (text entry : List ℕ) → length text ≤ length entry → take (0 + length text) (sets entry 0 text) ≡ text
text_first text entry h = rw zero-add (text_there text entry h)

-- for a loop that puts them
pub ruleset each_shown = (take_trimmed, shown_more, shown_few, shown_all, display_short, sets_both, length-append, length-sets, length-take, text_first)
