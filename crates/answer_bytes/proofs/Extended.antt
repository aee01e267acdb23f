-- The laws of an answer's bytes. Assumes nothing.
use Prim.Native.Nat.{ℕ, zero, suc, ◌+◌, ◌-◌, min, ◌≤◌}
use denote.Param.Members.{Once}
use denote.Ref.{MutBor}
use mathlib.Core.Path.{◌≡◌, refl, ap, sym, ◌∙◌}
use mathlib.Core.List.{List, [], ◌∷◌, ◌++◌, append_assoc, append-nil}
use native.Mathlib.Omega.{arith}
use lib.ListN.{length, take, replicate, length-take, length-append}
use lib.Seq.{length-take-le, take-nil, take_all, take_at, take-take, take-append-add, take-append-le}
use borrow.Rule.Slice.PartMut.{put_mid, post_of}
use Rattle.std.specs.Fn.{FnOnceReturnsAtMut}
use Rattle.std.specs.Prelude.{Result, Ok, Err}
use Rattle.std.proofs.lemmas.List.{take_min}
use Rattle.std.proofs.lemmas.Slice.{take-put_mid, take-put_mid_below}
use Rattle.errors.specs.Refusal.{refusal_number}
use Rattle.errors.specs.declared.Refusal.{Refusal}
use Rattle.answer_bytes.specs.declared.TheConstants.{ROOM, UNWRITTEN}
use Rattle.answer_bytes.specs.Answer.{extended, class_of, drawn_bytes, PutsPicture}

-- what fits of two lists, one behind the other
take_both : (k m : ℕ) (xs ys : List ℕ) → m ≡ k - length xs → take k xs ++ take m ys ≡ take k (xs ++ ys)
take_both zero m xs ys e = let none : m ≡ 0 = omega arith in rw none refl
take_both (suc k) m [] ys e = let all : m ≡ suc k = omega arith in rw all refl
take_both (suc k) m (x ∷ xs) ys e = ap (λ t. x ∷ t) (take_both k m xs ys (omega arith))

-- bytes behind bytes that were put, and none
pub extended_twice : (answer first later : List ℕ) → extended (extended answer first) later ≡ extended answer (first ++ later)
unfolding extended
extended_twice answer first later =
    let k : ℕ = ROOM - length answer in
    let left : ROOM - length (answer ++ take k first) ≡ k - length first = omega (arith, length-append answer (take k first), length-take k first) in
    append_assoc answer (take k first) _ ∙ ap (λ t. answer ++ t) (take_both k _ first later left)

pub extended_none : (answer : List ℕ) → extended answer [] ≡ answer
unfolding extended
extended_none answer = rw (take-nil, append-nil)

-- the first bytes of the room, after as many as fit were copied behind the `len` that were put
module _ (room bytes part : List ℕ) (len n : ℕ) (within : len ≤ length room) where
  pub copied : n ≡ min (ROOM - len) (length bytes) → part ≡ take n bytes
      → take (len + n) (put_mid len (len + n - len) room part) ≡ extended (take len room) bytes
  unfolding extended
  copied count same =
      let cut : part ≡ take (ROOM - len) bytes = rw (same, count) (take_min (ROOM - len) bytes) in
      let fits : len + n ≡ len + length part = rw cut (omega (arith, length-take (ROOM - len) bytes)) in
      take-put_mid len (len + n - len) room part (len + n) fits within ∙ rw (length-take-le len room within, cut)

-- how many bytes an answer has with one byte behind it
length-one : (answer room : List ℕ) (len byte : ℕ) → len ≤ length room → take len room ≡ extended answer (byte ∷ []) → len ≡ length answer + min (ROOM - length answer) 1
unfolding extended
length-one answer room len byte within is =
    let one : List ℕ = byte ∷ [] in
    omega (arith, ap length is, length-take-le len room within, length-append answer (take (ROOM - length answer) one), length-take (ROOM - length answer) one)

-- a picture that is drawn to the room behind class 0, none of which is written: as much of it is put as the call says
module _ {F : Type 0} (draws : Once F (MutBor (List ℕ) × Unit {0}) (Result ℕ Refusal × (MutBor (List ℕ) × Unit {0}))) (draw : F)
    (answer room : List ℕ) (len : ℕ) (shown left : MutBor (List ℕ))
    (within : len ≤ ROOM) (all : length room ≡ ROOM) (class : take len room ≡ extended answer (0 ∷ []))
    (unwritten : shown.now ≡ replicate (ROOM - len) UNWRITTEN) where
  count : len ≡ length answer + min (ROOM - length answer) 1
  count = length-one answer room len 0 (omega arith) class

  puts : {made result : Result ℕ Refusal} {new : List ℕ} → draws.post draw (shown, tt) (result, (left, tt)) → result ≡ made
      → new ≡ extended answer (drawn_bytes made left.now) → PutsPicture (FnOnceReturnsAtMut draws draw) answer new
  puts met is put =
      let same : ROOM - len ≡ ROOM - (length answer + 1) = omega (arith, count) in
      record {
        answer = _;
        output = left.now;
        drawn = record { shown = shown; shows = unwritten ∙ ap (λ k. replicate k UNWRITTEN) same; left = left; met = met; leaves = refl };
        put = rw is put;
      }

  pub drawn : {n m : ℕ} {result : Result ℕ Refusal} → draws.post draw (shown, tt) (result, (left, tt)) → result ≡ Ok n → length left.now ≡ ROOM - len → m ≡ min n (length left.now)
      → PutsPicture (FnOnceReturnsAtMut draws draw) answer (take (len + m) (put_mid len (ROOM - len) room left.now))
  unfolding extended
  drawn {n} {m} met is size least =
      let first : length (take len room) ≡ len = length-take-le len room (omega arith) in
      let rest : List ℕ = post_of len (ROOM - len) room in
      let part : take (len + m) (put_mid len (ROOM - len) room left.now) ≡ take len room ++ take m left.now =
      ap (λ k. take (k + m) (put_mid len (ROOM - len) room left.now)) (sym first)
      ∙ take-append-add (take len room) (left.now ++ rest) m
      ∙ ap (λ l. take len room ++ l) (take-append-le m left.now rest (omega arith)) in
      let fits : take m left.now ≡ take (ROOM - length (take len room)) (take m left.now) =
      sym (take_all (ROOM - length (take len room)) (take m left.now) (omega (arith, first, length-take m left.now))) in
      let behind : take len room ++ take m left.now ≡ extended (take len room) (take m left.now) = ap (λ l. take len room ++ l) fits in
      let both : extended (take len room) (take m left.now) ≡ extended answer (0 ∷ take m left.now) =
      ap (λ l. extended l (take m left.now)) class ∙ extended_twice answer (0 ∷ []) (take m left.now) in
      puts met is (part ∙ behind ∙ both ∙ ap (λ l. extended answer (0 ∷ l)) (rw least (take_min n left.now)))

  pub refused : (start : ℕ) (before : List ℕ) {new : List ℕ} {refusal : Refusal} {result : Result ℕ Refusal}
      → draws.post draw (shown, tt) (result, (left, tt)) → result ≡ Err refusal → start ≤ ROOM → length before ≡ ROOM → take start before ≡ answer
      → new ≡ extended (take start (put_mid len (ROOM - len) room left.now)) (class_of (refusal_number refusal) ∷ [])
      → PutsPicture (FnOnceReturnsAtMut draws draw) answer new
  unfolding extended
  refused start before {refusal = refusal} met is low full was put =
      let size : length answer ≡ start = ap length (sym was) ∙ length-take-le start before (omega arith) in
      let same : take start (put_mid len (ROOM - len) room left.now) ≡ answer =
      take-put_mid_below len (ROOM - len) room left.now start (omega (arith, count)) (omega arith)
      ∙ sym (take-take start len room (omega (arith, count)))
      ∙ ap (take start) class
      ∙ take_at answer _ start size in
      puts met is (put ∙ ap (λ l. extended l (class_of (refusal_number refusal) ∷ [])) same)
