-- The laws of names by slices of any length. Assumes nothing.
use Prim.Native.Nat.{ℕ, ◌+◌, ◌-◌, ◌≤◌, ◌<◌, min}
use mathlib.Core.Path.{◌≡◌, refl, sym, ap, ◌∙◌}
use mathlib.Core.Bool.{Bool, true, false}
use mathlib.Core.List.{List, ◌++◌, append-nil}
use native.Mathlib.Omega.{arith}
use lib.Dec.{leb}
use lib.ListN.{length, take, drop, replicate}
use lib.Seq.{take-append-le, take-append-add, take_all}
use borrow.Author.Tests.{leb-true, leb-false}
use Rattle.std.proofs.lemmas.List.{take-replicate, drop-replicate}
use Rattle.told.specs.Told.{name_of}

-- 16 zeros, and in front of them the bytes of a name that is shorter, and of one that is not
pub name_padded : (bytes : List ℕ) → length bytes < 16 → bytes ++ drop (length bytes) (replicate 16 0) ≡ name_of bytes
unfolding name_of
name_padded bytes h =
    let all : length bytes + (16 - length bytes) ≡ 16 = omega arith in
    rw (drop-replicate {X = ℕ} (length bytes) 16 0)
    (ap (λ rest. bytes ++ rest) (sym (take-replicate {X = ℕ} (16 - length bytes) 16 0 (omega arith)))
    ∙ sym (rw all at (take-append-add bytes (replicate 16 0) (16 - length bytes))))

pub name_cut : (bytes : List ℕ) → 16 ≤ length bytes → take 16 bytes ++ drop 16 (replicate 16 0) ≡ name_of bytes
unfolding name_of
name_cut bytes h = rw append-nil (sym (take-append-le 16 bytes (replicate 16 0) h))

-- so it is with the first n bytes, n being the length, or 16 where that is less
pub name_filled : (bytes : List ℕ) (n : ℕ) → n ≡ min (length bytes) 16 → take n bytes ++ drop n (replicate 16 0) ≡ name_of bytes
name_filled bytes n e = go (leb 16 (length bytes)) refl
  where
    go : (t : Bool) → leb 16 (length bytes) ≡ t → take n bytes ++ drop n (replicate 16 0) ≡ name_of bytes
    go true q =
        let h = leb-true 16 (length bytes) q in
        let whole : n ≡ 16 = omega (arith, e) in
        rw whole (name_cut bytes h)
    go false q =
        let h = leb-false 16 (length bytes) q in
        let whole : n ≡ length bytes = omega (arith, e) in
        rw (whole, take_all (length bytes) bytes (omega arith)) (name_padded bytes (omega arith))
