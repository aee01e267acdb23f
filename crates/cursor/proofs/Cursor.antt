-- What the walks over a cursor share: its type, and what it owns beside its slice.
--     Bytes κ, Cursor κ, Lent κ     `&'a [u8]`, `Cur<'a>`, and `Cur<'a>` behind a `&mut`, κ being 'a
--     slice_of        the machine value of a slice
--     made, made_typed     a cursor over a slice, at a position; its machine value has the struct's MIR type
--     own_made        what a slice owns gives what a cursor over it owns, at any position, and is kept
--     own_buf         what a cursor owns gives what its slice owns, and is kept: both are Copy
--     own_moved       what a cursor owns is what it owns at another position
--     lies_in, room_of     a local that holds a cursor can be lent, and once it is back, it is freed
--     gives_cursor, gives_buf     `own_made` and `own_buf`, as steps of a walk
--     opens_cursor, closes_cursor     the borrow of a cursor that is lent is opened, and closed at another position
-- The laws take `Logic`. The rest assumes nothing.
use mathlib.Core.Path.{◌≡◌, refl}
use Prim.Native.Nat.{ℕ, ◌<◌, ◌^◌}
use mathlib.Core.List.{List, [], ◌∷◌}
use lib.ListN.{length}
use seplogic.Ra.Ura.{Ura}
use base.Fraction.{full_share}
use lib.Dec.{T as Holds}
use mir.Syntax.{Lifetime, named, erased, w8, w64}
use mir.Val.{Val, WT, has_ty}
use base.Logic.{ent, sep}
use base.Stored.{Gv}
use base.Fml.{Lft, Share, GName, Fml, fsep, fat, froom, flft, fobs, fauth, fbor, fobor}
use types.Logic.{Logic, sem}
use types.Kit.{Item, Goal, Soaks, Seq, Step, step, ‵, ◌⊛◌, given, ◌$◌, ◌∵◌, !, qed, by, move, keep, drop, use1, split, learn, fsplit, fjoin, fpick, fpack, done}
use types.Run.{forget}
use types.SemTy.{Body}
use denote.RattleType.{RattleType}
use denote.Laws.{Is, Tells, shows}
use denote.Memory.{cell_at, part_at, part_of, mem}
use denote.Plain.{uint_Makes, uint_row_laws}
use denote.Builtin.{u8, usize}
use denote.Ref.{Bor, NamedLft}
use denote.Signature.{Slot, plain, named_lft}
use denote.Slice.{slice_val, ShrSlice, shr_slice_copy, shr_slice_Lawful}
use denote.Steps.{nothing, owned, peeks, opens, closes}
use denote.Struct.Declared.{Declared}
use denote.Struct.Laws as LL
use denote.Struct.Steps.{spelt}
use denote.Struct.Rest.{all_own, field_own, rest, own_open, own_out, own_put, own_shut}
use Rattle.cursor.specs.Cursor.{moved_to}
use Rattle.cursor.specs.declared.Cur.{Cur}
use Rattle.cursor.specs.contracts.Cur as T
use Rattle.cursor.proofs.Cur.TheLaws as T'

abbrev pub slice_of : Bor (List ℕ) → Val
slice_of s = slice_val s.ref_ptr (length s.now)

abbrev pub made : Bor (List ℕ) → ℕ → Cur
made s pos = record { buf = s; pos = pos }

-- `Cur<'a>` as the referent's place in a signature of two lifetimes
abbrev pub lent : Slot 2
lent = plain (λ κs. T.the_row (named_lft 2 1 tt κs))

module _ (κ : Lft) where
  abbrev α : NamedLft
  α = record { mir = named 0; lft = κ }

  abbrev D : Declared
  D = T.the_type α

  abbrev L : LL.Laws D
  L = T'.the_laws α

  abbrev pub Bytes : RattleType
  Bytes = ShrSlice (named 0) κ u8

  abbrev pub Cursor : RattleType
  Cursor = T.the_row α

  abbrev pub Lent : RattleType
  Lent = T.the_row (record { mir = named 1; lft = κ })

  abbrev pub cursor_vals : Cur → List Val
  cursor_vals = LL.vals D L

  pub cursor_tells : Tells Cursor (Is Cursor) cursor_vals
  cursor_tells = LL.tells D L

  module _ {M : Type 1} {𝓤 : Ura M} (𝓛 : Logic 𝓤) where
    -- the machine value of a cursor has the struct's MIR type, under any name of the lifetime
    pub cursor_typed : (ℓ : Lifetime) (c : Cur) (w : Val) → Is Cursor c (w ∷ []) → Holds (has_ty (T'.mir ℓ) w) × WT w
    cursor_typed ℓ c w is = ((LL.lawful (T.the_type (record { mir = ℓ; lft = κ })) (T'.the_laws (record { mir = ℓ; lft = κ })) 𝓛).typed c
        (w ∷ []) is).0

    pub made_typed : (ℓ : Lifetime) (s : Bor (List ℕ)) (pos : ℕ) → Is Bytes s (slice_of s ∷ []) → pos < 2 ^ 64
        → Holds (has_ty (T'.mir ℓ) (T'.lowered (made s pos))) × WT (T'.lowered (made s pos))
    made_typed ℓ s pos is fits =
        (tt, (((shr_slice_Lawful 𝓛 (named 0) κ u8).typed s (slice_of s ∷ []) is).0.1, (record { fits = fits }, tt)))

    pub own_made : (s : Bor (List ℕ)) (pos : ℕ) → pos < 2 ^ 64 → ent 𝓤 (sem 𝓛 (Bytes.own_val s (slice_of s ∷ [])))
        (sep 𝓤 (sem 𝓛 (Cursor.own_val (made s pos) (T'.lowered (made s pos) ∷ []))) (sem 𝓛 (Bytes.own_val s (slice_of s ∷ []))))
    own_made s pos fits =
        qed 𝓛 (‵ (Bytes.own_val s (slice_of s ∷ [])) ∷ []) ∵
        use1 𝓛 (‵ (Bytes.own_val s (slice_of s ∷ [])) ⊛ ‵ (Bytes.own_val s (slice_of s ∷ [])))
        ((shr_slice_copy 𝓛 (named 0) κ u8 (uint_row_laws w8)).twice s (slice_of s ∷ [])) $ split ! $
        nothing ! $ owned ! usize (Is usize) (uint_Makes 𝓛 w64) pos _ (refl, fits) $ fjoin ! $ move ! (1 ∷ 0 ∷ []) $ fjoin ! $
        use1 𝓛 (‵ (Cursor.own_val (made s pos) (T'.lowered (made s pos) ∷ []))) (own_shut 𝓛 D L (s, (pos, tt))) $ done !

    module _ (c : Cur) where
      abbrev Own : Fml
      Own = Cursor.own_val c (T'.lowered c ∷ [])

      pub own_buf : ent 𝓤 (sem 𝓛 Own) (sep 𝓤 (sem 𝓛 (Bytes.own_val c.buf (slice_of c.buf ∷ []))) (sem 𝓛 Own))
      own_buf =
          qed 𝓛 (‵ Own ∷ []) ∵ use1 𝓛 (‵ Own ⊛ ‵ Own) ((LL.copy D (T'.the_copy α) 𝓛).twice c (T'.lowered c ∷ [])) $ split ! $
          use1 𝓛 (given (T'.lowered c ∷ [] ≡ T'.lowered c ∷ []) (‵ (all_own D.parts L (c.buf, (c.pos, tt)))))
          (own_open 𝓛 D L (c.buf, (c.pos, tt)) (T'.lowered c)) $
          learn ! (λ _. use1 𝓛 (‵ (field_own D.parts L 0 c.buf) ⊛ ‵ (rest D.parts L 0 (c.buf, (c.pos, tt))))
          (own_out 𝓛 D.parts L 0 (c.buf, (c.pos, tt))) $ split ! $
          -- [what buf owns; what pos owns; what the cursor owns]
          move ! (1 ∷ []) $ drop ! $ done !)

      pub own_moved : (pos : ℕ) → pos < 2 ^ 64 → ent 𝓤 (sem 𝓛 Own) (sem 𝓛 (Cursor.own_val (moved_to c pos) (T'.lowered (moved_to c pos) ∷ [])))
      own_moved pos fits =
          qed 𝓛 (‵ Own ∷ []) ∵ owned ! usize (Is usize) (uint_Makes 𝓛 w64) pos _ (refl, fits) $ move ! (1 ∷ 0 ∷ []) $
          by ! (own_put 𝓛 D L 1 (c.buf, (c.pos, tt)) pos (T'.lowered c))

  -- the cursor c in the local at l
  abbrev pub Lies : Cur → ℕ → Fml
  Lies c l = part_at Lent full_share c l 0

  module _ {M : Type 1} {𝓤 : Ura M} (𝓛 : Logic 𝓤) where
    pub lies_in : (c : Cur) (u : Val) (l : ℕ) → ent 𝓤 (sep 𝓤 (sem 𝓛 (fat full_share (T'.mir erased) l 0 u)) (sem 𝓛 (Lent.own_val c (u ∷ []))))
        (sem 𝓛 (Lies c l))
    unfolding part_of
    lies_in c u l =
        qed 𝓛 (‵ (fat full_share (T'.mir erased) l 0 u) ∷ ‵ (Lent.own_val c (u ∷ [])) ∷ []) {P = sem 𝓛 (Lies c l)} (
        use1 𝓛 (‵ (cell_at full_share Lent.mir (u ∷ []) l 0)) (𝓛.laws.at_raw full_share (T'.mir erased) l 0 u) $ fjoin ! $
        fpack ! (List Val) (λ us. fsep (cell_at full_share Lent.mir us l 0) (Lent.own_val c us)) (u ∷ []) $ done !)

    pub room_of : (c : Cur) (l : ℕ) → ent 𝓤 (sem 𝓛 (Lies c l)) (sem 𝓛 (froom (T'.mir erased) l 0))
    unfolding part_of
    room_of c l =
        qed 𝓛 (‵ (Lies c l) ∷ []) {P = sem 𝓛 (froom (T'.mir erased) l 0)} (fpick ! (λ vs. fsplit ! $
        spelt ! Lent (Is Lent) (shows 𝓛 Lent) cursor_vals cursor_tells full_share c vs l 0 $
        use1 𝓛 (‵ (fat full_share (T'.mir erased) l 0 (T'.lowered c))) (𝓛.laws.raw_at full_share (T'.mir erased) l 0 (T'.lowered c)) $
        forget ! 0 refl $ keep ! (0 ∷ []) $ done !))

module _ {M : Type 1} {𝓤 : Ura M} {𝓛 : Logic 𝓤} {K : Type 0} {Γ : List (Item 𝓤)} {G : Goal 𝓤 𝓛.H} where
  pub gives_cursor : K → (κ : Lft) (s : Bor (List ℕ)) (pos : ℕ) → pos < 2 ^ 64
      → Step K 𝓛 (‵ ((Cursor κ).own_val (made s pos) (T'.lowered (made s pos) ∷ [])) ∷ ‵ ((Bytes κ).own_val s (slice_of s ∷ [])) ∷ Γ) G
      (‵ ((Bytes κ).own_val s (slice_of s ∷ [])) ∷ Γ) G
  gives_cursor k κ s pos fits =
      step (λ t. use1 𝓛 (‵ ((Cursor κ).own_val (made s pos) (T'.lowered (made s pos) ∷ [])) ⊛ ‵ ((Bytes κ).own_val s (slice_of s ∷ [])))
      (own_made κ 𝓛 s pos fits) $ split k $ t)

  pub gives_buf : K → (κ : Lft) (c : Cur) → Step K 𝓛 (‵ ((Bytes κ).own_val c.buf (slice_of c.buf ∷ []))
      ∷ ‵ ((Cursor κ).own_val c (T'.lowered c ∷ [])) ∷ Γ) G
      (‵ ((Cursor κ).own_val c (T'.lowered c ∷ [])) ∷ Γ) G
  gives_buf k κ c = step (λ s. use1 𝓛 (‵ ((Bytes κ).own_val c.buf (slice_of c.buf ∷ [])) ⊛ ‵ ((Cursor κ).own_val c (T'.lowered c ∷ [])))
      (own_buf κ 𝓛 c) $ split k $ s)

  pub opens_cursor : K → Soaks G → (κ : Lft) {κₛ : Lft} {q : Share} {γ : GName} (c : Cur) (b o : ℕ)
      → (Is (Lent κ) c (T'.lowered c ∷ []) → Seq K 𝓛 (‵ (fat full_share (T'.mir erased) b o (T'.lowered c)) ∷ ‵ ((Lent κ).own_val c (T'.lowered c ∷ []))
      ∷ ‵ (fobor κₛ q (Body (mem (Lent κ)) b o γ)) ∷ ‵ (fobs γ ((Lent κ).coded.code c)) ∷ ‵ (fauth γ ((Lent κ).coded.code c)) ∷ Γ) G)
      → Seq K 𝓛 (‵ (fobs γ ((Lent κ).coded.code c)) ∷ ‵ (fbor κₛ (Body (mem (Lent κ)) b o γ)) ∷ ‵ (flft κₛ q) ∷ Γ) G
  opens_cursor k z κ c b o next =
      opens k z (Lent κ) b o (λ vs. spelt k (Lent κ) (Is (Lent κ)) (shows 𝓛 (Lent κ)) (cursor_vals κ) (cursor_tells κ) full_share c vs b o $
      use1 𝓛 (‵ (fat full_share (T'.mir erased) b o (T'.lowered c))) (𝓛.laws.raw_at full_share (T'.mir erased) b o (T'.lowered c)) $ move k (1 ∷ []) $
      peeks k (Lent κ) (Is (Lent κ)) (shows 𝓛 (Lent κ)) c (T'.lowered c ∷ []) (λ is. move k (1 ∷ 0 ∷ []) $ next is))

  pub closes_cursor : K → Soaks G → (κ : Lft) {κₛ : Lft} {q : Share} {γ : GName} {u v : Gv} (c : Cur) (pos : ℕ) → pos < 2 ^ 64 → (b o : ℕ)
      → Step K 𝓛 (‵ (fobs γ ((Lent κ).coded.code (moved_to c pos))) ∷ ‵ (fbor κₛ (Body (mem (Lent κ)) b o γ)) ∷ ‵ (flft κₛ q) ∷ Γ) G
      (‵ (fat full_share (T'.mir erased) b o (T'.lowered (moved_to c pos))) ∷ ‵ ((Lent κ).own_val c (T'.lowered c ∷ []))
      ∷ ‵ (fobor κₛ q (Body (mem (Lent κ)) b o γ)) ∷ ‵ (fobs γ u) ∷ ‵ (fauth γ v) ∷ Γ) G
  closes_cursor k z κ c pos fits b o =
      step (λ s. use1 𝓛 (‵ (cell_at full_share (Lent κ).mir (T'.lowered (moved_to c pos) ∷ []) b o))
      (𝓛.laws.at_raw full_share (T'.mir erased) b o (T'.lowered (moved_to c pos))) $
      move k (1 ∷ []) $ use1 𝓛 (‵ ((Lent κ).own_val (moved_to c pos) (T'.lowered (moved_to c pos) ∷ []))) (own_moved κ 𝓛 c pos fits) $
      move k (1 ∷ 0 ∷ []) $ closes k z (Lent κ) (moved_to c pos) (T'.lowered (moved_to c pos) ∷ []) b o $ s)
