-- The laws of `number_at`, over the number of bytes. Assumes nothing.
use Prim.Native.Nat.{ℕ, zero, suc, ◌+◌, ◌*◌, ◌^◌, ◌≤◌, ◌<◌}
use mathlib.Core.Path.{◌≡◌, refl, sym, ap, ◌∙◌}
use mathlib.Core.List.{List, [], ◌∷◌, ◌++◌}
use native.Mathlib.Omega.{arith}
use native.Mathlib.Nat.{pow-zero, pow-suc, mul_assoc, mul_comm, one-mul, one-le-pow}
use lib.ListN.{length, take, drop, get_or, length-drop}
use lib.Seq.{take-add, drop-drop, drop-cons, get_or-drop, length-take-le}
use lib.Dec.{lit<}
use Rattle.std.specs.Int.{w16, w32, from_le_bytes}
use Rattle.util.specs.Number.{little_endian, number_at}
use Rattle.util.proofs.Parts.{part_of_part}

-- the bytes behind m others count 256 ^ m times
little_append : (xs ys : List ℕ) → little_endian (xs ++ ys) ≡ little_endian xs + 256 ^ length xs * little_endian ys
little_append [] ys = simp (pow-zero, one-mul) (omega arith)
little_append (x ∷ xs) ys =
    let e : 256 ^ suc (length xs) * little_endian ys ≡ 256 * (256 ^ length xs * little_endian ys) =
    rw (pow-suc, mul_comm (256 ^ length xs) 256, mul_assoc) in
    omega (arith, e, little_append xs ys)

module _ (p : ℕ) (b : List ℕ) where
  pub number_one : p < length b → get_or b p 0 ≡ number_at 1 p b
  unfolding number_at
  number_one h = rw (drop-cons b p 0 h) (omega arith)

  -- a number of m + n bytes, by its first m and the n behind them
  pub number_add : (m n : ℕ) → p + m ≤ length b → number_at m p b + 256 ^ m * number_at n (p + m) b ≡ number_at (m + n) p b
  unfolding number_at
  number_add m n h =
      let e : length (take m (drop p b)) ≡ m = length-take-le m (drop p b) (simp length-drop (omega arith)) in
      sym
      (ap little_endian (take-add m n (drop p b))
      ∙ (little_append (take m (drop p b)) (take n (drop m (drop p b))) ∙ rw (e, drop-drop m p b)))

-- what std makes of the bytes of a number is the number
module _ (p : ℕ) (b : List ℕ) where
  pub number_of_2 : p + 2 ≤ length b → from_le_bytes w16 (get_or b p 0 ∷ get_or b (p + 1) 0 ∷ []) ≡ number_at 2 p b
  number_of_2 h =
      let e : from_le_bytes w16 (get_or b p 0 ∷ get_or b (p + 1) 0 ∷ []) ≡ get_or b p 0 + get_or b (p + 1) 0 * 256 ^ 1 = refl in
      omega (arith, e, number_add p b 1 1 (omega arith), number_one p b (omega arith), number_one (p + 1) b (omega arith))

  pub number_of_4 : p + 4 ≤ length b
      → from_le_bytes w32 (get_or b p 0 ∷ get_or b (p + 1) 0 ∷ get_or b (p + 2) 0 ∷ get_or b (p + 3) 0 ∷ []) ≡ number_at 4 p b
  number_of_4 h =
      let e : from_le_bytes w32 (get_or b p 0 ∷ get_or b (p + 1) 0 ∷ get_or b (p + 2) 0 ∷ get_or b (p + 3) 0 ∷ [])
      ≡ get_or b p 0 + get_or b (p + 1) 0 * 256 ^ 1 + get_or b (p + 2) 0 * 256 ^ 2 + get_or b (p + 3) 0 * 256 ^ 3 = refl in
      omega
      (arith, e, number_one p b (omega arith), number_one (p + 1) b (omega arith), number_one (p + 2) b (omega arith), number_one (p + 3) b (omega arith), number_add p b 1 1 (omega arith), number_add p b 2 1 (omega arith), number_add p b 3 1 (omega arith))

-- a number of `size` bytes at p of the m bytes at q
pub number_in_part : (size p q m : ℕ) (b : List ℕ) → p + size ≤ m → number_at size p (take m (drop q b)) ≡ number_at size (q + p) b
unfolding number_at
number_in_part size p q m b h = ap little_endian (part_of_part p size q m b h)

-- a number of n bytes is below 256 ^ n
little_small : (n : ℕ) (b : List ℕ) → ((k : ℕ) → get_or b k 0 < 256) → little_endian (take n b) < 256 ^ n
little_small zero b bytes = rw pow-zero (lit< tt)
little_small (suc n) [] bytes = one-le-pow (suc n) 256 (lit< tt)
little_small (suc n) (x ∷ xs) bytes = rw pow-suc (omega (arith, bytes 0, little_small n xs (λ k. bytes (suc k))))

pub number_small : (size p : ℕ) (b : List ℕ) → ((k : ℕ) → get_or b k 0 < 256) → number_at size p b < 256 ^ size
unfolding number_at
number_small size p b bytes = little_small size (drop p b) (λ k. rw get_or-drop (bytes (p + k)))
