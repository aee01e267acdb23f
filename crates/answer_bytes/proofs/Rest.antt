-- The laws of the room behind an answer, which stays unwritten. Assumes nothing.
use Prim.Native.Nat.{ℕ, ◌+◌, ◌-◌, min, max, ◌≤◌, ◌<◌}
use denote.Param.Members.{Once}
use denote.Ref.{MutBor}
use mathlib.Core.Path.{◌≡◌, refl, ap, sym, ◌∙◌}
use mathlib.Core.Bool.{Bool, true, false}
use mathlib.Core.List.{List, [], ◌++◌, append-nil}
use native.Mathlib.Omega.{arith}
use lib.ListN.{length, take, drop, replicate, length-drop, length-replicate, drop_of_length-le}
use lib.Seq.{length-take-le, take_all, drop-append-add, drop-append-le, drop-drop}
use lib.Dec.{leb}
use borrow.Author.Tests.{leb-true, leb-false}
use borrow.Rule.Slice.PartMut.{put_mid, mid_of, post_of}
use Rattle.std.specs.Fn.{FnOnceReturnsAtMut}
use Rattle.std.specs.Prelude.{Result, Ok, Err, IsTrue, cond}
use Rattle.std.proofs.lemmas.List.{drop-replicate, replicate-append-replicate}
use Rattle.std.proofs.lemmas.Slice.{drop-put_mid}
use Rattle.errors.specs.declared.Refusal.{Refusal}
use Rattle.answer_bytes.specs.declared.TheConstants.{ROOM, UNWRITTEN}
use Rattle.answer_bytes.specs.Answer.{UnwrittenFrom, KeepsRest, rest_of}

-- so it is from a later place on
later : (place behind : ℕ) (room : List ℕ) → place ≤ behind → UnwrittenFrom place room → UnwrittenFrom behind room
later place behind room order is =
    let k : ℕ = behind - place in
    let whole : behind ≡ place + k = omega arith in
    let size : ROOM - place - k ≡ ROOM - behind = omega arith in
    ap (λ n. drop n room) whole ∙ sym (drop-drop k place room) ∙ ap (drop k) is ∙ drop-replicate k (ROOM - place) UNWRITTEN ∙ ap (λ n. replicate n UNWRITTEN) size

-- after bytes were copied before the place
module _ (room part : List ℕ) (len n written place : ℕ) (within : len ≤ length room) where
  pub copied_before : length part ≡ len + n - len → place ≡ max written (len + n) → UnwrittenFrom written room
      → UnwrittenFrom place (put_mid len (len + n - len) room part)
  copied_before size is rest =
      drop-put_mid len (len + n - len) room part place (omega arith) within size ∙ later written place room (omega arith) rest

-- the output behind `len` bytes, after as much of it was filled as was written
pub filled_again : (room filled : List ℕ) (len written n : ℕ) → filled ≡ replicate n UNWRITTEN → n ≡ written - len → written ≤ ROOM → len ≤ ROOM → length room ≡ ROOM
    → UnwrittenFrom written room → filled ++ drop n (mid_of len (ROOM - len) room) ≡ replicate (ROOM - len) UNWRITTEN
filled_again room filled len written n same is most within all rest =
    let output : mid_of len (ROOM - len) room ≡ drop len room = take_all (ROOM - len) (drop len room) (omega (arith, length-drop len room)) in
    let behind : drop n (mid_of len (ROOM - len) room) ≡ replicate (ROOM - (len + n)) UNWRITTEN =
    ap (drop n) output ∙ drop-drop n len room ∙ later written (len + n) room (omega arith) rest in
    let size : n + (ROOM - (len + n)) ≡ ROOM - len = omega arith in
    ap (λ l. filled ++ l) behind
    ∙ ap (λ l. l ++ replicate (ROOM - (len + n)) UNWRITTEN) same
    ∙ replicate-append-replicate n (ROOM - (len + n)) UNWRITTEN
    ∙ ap (λ k. replicate k UNWRITTEN) size

-- a place in the room, or its end
pub within_room : (keeps : Bool) (place : ℕ) {from : ℕ} → from ≡ cond keeps place ROOM → place ≤ ROOM → from ≤ ROOM
within_room true place e within = omega arith
within_room false place e within = omega arith

-- the end of a picture that is as long as is said, but no longer than the output behind `len` bytes
pub end_within : (len : ℕ) {m : ℕ} (n : ℕ) (left : List ℕ) → m ≡ min n (length left) → length left ≡ ROOM - len → len ≤ ROOM → len + m ≤ ROOM
end_within len n left least size within = omega arith

-- a list cut at its length or before
cut : (xs : List ℕ) (n : ℕ) → drop (min n (length xs)) xs ≡ drop n xs
cut xs n = go (leb n (length xs)) refl
  where
    go : (t : Bool) → leb n (length xs) ≡ t → drop (min n (length xs)) xs ≡ drop n xs
    go true e =
        let before : n ≤ length xs = leb-true n (length xs) e in
        let same : min n (length xs) ≡ n = omega arith in
        ap (λ k. drop k xs) same
    go false e =
        let past : length xs < n = leb-false n (length xs) e in
        let same : min n (length xs) ≡ length xs = omega arith in
        ap (λ k. drop k xs) same ∙ drop_of_length-le xs {i = length xs} (omega arith) ∙ sym (drop_of_length-le xs {i = n} (omega arith))

-- after a picture was drawn to the room behind `len` bytes
module _ (room left : List ℕ) (len : ℕ) (within : len ≤ ROOM) (all : length room ≡ ROOM) (size : length left ≡ ROOM - len) where
  none : UnwrittenFrom ROOM (put_mid len (ROOM - len) room left)
  none =
      let same : 0 ≡ ROOM - ROOM = omega arith in
      drop-put_mid len (ROOM - len) room left ROOM (omega arith) (omega arith) size
      ∙ drop_of_length-le room {i = ROOM} (omega arith)
      ∙ ap (λ n. replicate n UNWRITTEN) same

  kept : (m place : ℕ) → place ≡ len + m → m ≤ length left → drop m left ≡ replicate (ROOM - len - m) UNWRITTEN → UnwrittenFrom place (put_mid len (ROOM - len) room left)
  kept m place ends order is =
      let first : length (take len room) ≡ len = length-take-le len room (omega arith) in
      let none : post_of len (ROOM - len) room ≡ [] = drop-drop (ROOM - len) len room ∙ drop_of_length-le room {i = len + (ROOM - len)} (omega arith) in
      let last : ROOM - len - m ≡ ROOM - place = omega arith in
      let start : place ≡ length (take len room) + m = omega arith in
      ap (λ k. drop k (put_mid len (ROOM - len) room left)) start
      ∙ drop-append-add (take len room) (left ++ post_of len (ROOM - len) room) m
      ∙ drop-append-le m left _ order
      ∙ ap (λ l. drop m left ++ l) none
      ∙ append-nil (drop m left)
      ∙ is
      ∙ ap (λ n. replicate n UNWRITTEN) last

module _ {F : Type 0} (draws : Once F (MutBor (List ℕ) × Unit {0}) (Result ℕ Refusal × (MutBor (List ℕ) × Unit {0}))) (draw : F)
    (room : List ℕ) (len : ℕ) (shown left : MutBor (List ℕ)) (keeps : Bool) (law : IsTrue keeps → KeepsRest (FnOnceReturnsAtMut draws draw))
    (within : len ≤ ROOM) (all : length room ≡ ROOM) (size : length left.now ≡ ROOM - len) (unwritten : shown.now ≡ replicate (ROOM - len) UNWRITTEN) where
  rest : {result : Result ℕ Refusal} → IsTrue keeps → draws.post draw (shown, tt) (result, (left, tt)) → rest_of result left.now ≡ rest_of result (replicate (ROOM - len) UNWRITTEN)
  rest true_ met = law true_ _ _ _ (record { shown = shown; shows = unwritten; left = left; met = met; leaves = refl })

  pub rest_drawn : {n m place : ℕ} {result : Result ℕ Refusal} → draws.post draw (shown, tt) (result, (left, tt)) → result ≡ Ok n → m ≡ min n (length left.now)
      → place ≡ cond keeps (len + m) ROOM → UnwrittenFrom place (put_mid len (ROOM - len) room left.now)
  rest_drawn {n} {m} {place} {result} met is least ends = go keeps refl ends
    where
      unwritten_room : List ℕ
      unwritten_room = replicate (ROOM - len) UNWRITTEN

      go : (t : Bool) → keeps ≡ t → place ≡ cond t (len + m) ROOM → UnwrittenFrom place (put_mid len (ROOM - len) room left.now)
      go true e p =
          let same : drop n left.now ≡ drop n unwritten_room =
          ap (λ r. rest_of r left.now) (sym is) ∙ rest e met ∙ ap (λ r. rest_of r unwritten_room) is in
          let fits : min n (length unwritten_room) ≡ m = omega (arith, least, size, length-replicate (ROOM - len) UNWRITTEN) in
          kept room left.now len within all size m place p (omega (arith, least))
          (ap (λ k. drop k left.now) least
          ∙ cut left.now n
          ∙ same
          ∙ sym (cut unwritten_room n)
          ∙ ap (λ k. drop k unwritten_room) fits
          ∙ drop-replicate m (ROOM - len) UNWRITTEN)
      go false e p = rw p (none room left.now len within all size)

  pub rest_refused : {place : ℕ} {result : Result ℕ Refusal} {refusal : Refusal} → draws.post draw (shown, tt) (result, (left, tt)) → result ≡ Err refusal
      → place ≡ cond keeps len ROOM → UnwrittenFrom place (put_mid len (ROOM - len) room left.now)
  rest_refused {place} {result} met is ends = go keeps refl ends
    where
      unwritten_room : List ℕ
      unwritten_room = replicate (ROOM - len) UNWRITTEN

      go : (t : Bool) → keeps ≡ t → place ≡ cond t len ROOM → UnwrittenFrom place (put_mid len (ROOM - len) room left.now)
      go true e p =
          let same : left.now ≡ unwritten_room = ap (λ r. rest_of r left.now) (sym is) ∙ rest e met ∙ ap (λ r. rest_of r unwritten_room) is in
          let whole : ROOM - len ≡ ROOM - len - 0 = omega arith in
          kept room left.now len within all size 0 place (omega (arith, p)) (omega arith) (same ∙ ap (λ n. replicate n UNWRITTEN) whole)
      go false e p = rw p (none room left.now len within all size)
