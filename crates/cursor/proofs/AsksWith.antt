-- The walk of `cursor::Cur::nth_u16`, over the function that it calls, the number's width and the answer's type. The cursor is taken apart, and the
-- function is called on its slice, its position and the number.
--     asked, asking     the contract of the function called, and of the one walked: both say Φ of the bytes, the position, the number and the answer
--     code              the MIR, over the called function's name
--     asks_with         a function with this MIR meets `asking`
-- Assumes nothing.
use mathlib.Core.Path.{refl}
use Prim.Native.Nat.{ℕ, ◌<◌, ◌^◌}
use mathlib.Core.List.{List, [], ◌∷◌}
use lib.Dec.{T as Holds}
use seplogic.Ra.Ura.{Ura}
use mir.Syntax.{Fn, Callee as Name, Width, Ty, named, erased, w64, ty_int, local, value_local, place, field, copy, rv_opd, seq, assign, call, return}
use mir.Val.{Val, WT, has_ty, bits, vint}
use base.Logic.{SProp, ent, emp, via, fst∗, id⊢}
use base.Fml.{Lft, Share, Fml, ftrue, flft}
use prog.Model.{Model}
use prog.Routine.{Env}
use prog.Wp.{Calls, Loops, WpFn, Closed}
use types.Logic.{Logic}
use contract.Monad.{fact}
use contract.Running.{Running, tables}
use types.Kit.{‵, ◌⊛◌, ⋆, ◌$◌, ◌∵◌, !, qed, by, move, drop, use0, fsplit, fjoin, suffices, frame, done}
use types.Part.{whole, sub, look_in}
use types.Run.{look, init, forget, stop, fld, from, load, of_opd, and_then, no_more, assigns, land, returns, enter, alloc1, alloc0, params1, pass1, pass0, free1, free0}
use sound.WpLaws.{FmC}
use denote.RattleType.{RattleType, owns}
use denote.Laws.{Is}
use denote.Memory.{pointee}
use denote.Plain.{UInt, uint_vals, uint_Tells, uint_Lawful}
use denote.Builtin.{u8, usize}
use denote.Signature.{plain, shr_slice}
use denote.Slice.{ShrSlice}
use denote.Triple.Statement.{Triple}
use denote.Triple.Entry.{Vals, on_entry}
use denote.Triple.Spec.{Meets, triple_of}
use denote.Triple.Clauses.{Ended, Clauses, closing}
use denote.Triple.Walked.{says, Stays, stay_none, walk_of, Goes-none, ends_at}
use denote.Exit.{yes}
use Rattle.cursor.specs.Cursor.{bytes}
use Rattle.cursor.specs.declared.Cur.{Cur}
use Rattle.cursor.proofs.Cursor.{Cursor, slice_of, gives_buf, cursor_typed, cursor_vals, cursor_tells}
use Rattle.cursor.proofs.Walks.{by_walk, callee, calls_told, one_number, two_numbers}
use Rattle.cursor.proofs.Cur.TheLaws as T'

-- w is the number's width; the answer's type is R, and τ as a local's type
module _ (w : Width) (R : RattleType) (τ : Ty) where
  abbrev pub Asked : Ended
  Asked = callee (shr_slice 0 tt (λ _. u8)) (plain (λ _. usize) ∷ plain (λ _. UInt w) ∷ []) (plain (λ _. R)) (yes, (yes, (yes, tt)))

  abbrev pub Asking : Ended
  Asking = callee (plain (λ κs. Cursor κs.0)) (plain (λ _. UInt w) ∷ []) (plain (λ _. R)) (yes, (yes, tt))

  abbrev code : Name → Fn
  code asked = record {
    lifetimes = 1;
    outlives = [];
    ty_params = [];
    givens = 0;
    params = 2;
    locals = local τ value_local
        ∷ local (T'.mir (named 0)) value_local
        ∷ local (ty_int w) value_local
        ∷ local (pointee (ShrSlice erased [] u8).written) value_local
        ∷ local (ty_int w64) value_local
        ∷ [];
    body = seq (assign (place 3 []) (rv_opd (copy (place 1 (field 0 ∷ [])))))
        (seq (assign (place 4 []) (rv_opd (copy (place 1 (field 1 ∷ [])))))
        (seq (call asked (copy (place 3 []) ∷ copy (place 4 []) ∷ copy (place 2 []) ∷ []) (place 0 [])) return));
  }

  abbrev stayed : Stays Asking.signature.params Asking.kept
  stayed = (stay_none (λ κs. Cursor κs.0) yes, (stay_none (λ _. UInt w) yes, tt))

  module _ (Φ : List ℕ → ℕ → ℕ → R.Denot → Type 0) {M : Type 1} (𝓤 : Ura M) where
    abbrev pub asked : Clauses 𝓤 Asked
    asked κs a = record { ghost = Unit {0}; requires = λ _. emp 𝓤; ensures = λ _ r _. fact 𝓤 (Φ a.0.now a.1.0 a.1.1.0 r) }

    abbrev pub asking : Clauses 𝓤 Asking
    asking κs a = record { ghost = Unit {0}; requires = λ _. emp 𝓤; ensures = λ _ r _. fact 𝓤 (Φ (bytes a.0) a.0.pos a.1.0 r) }

    module _ (𝓛 : Logic 𝓤) (typed : (r : R.Denot) (u : Val) → Is R r (u ∷ []) → Holds (has_ty τ u) × WT u) (κ : Lft)
        (q : Share) (c : Cur)
        (n : ℕ) (n-fits : n < 2 ^ bits w) where
      open 𝓛 use {H}

      abbrev mach : Val
      mach = T'.lowered c

      abbrev vals : Vals Asking.signature (κ, tt)
      vals = (mach ∷ [], (vint w n ∷ [], tt))

      -- what the function called is passed
      abbrev passed : Vals Asked.signature (κ, tt)
      passed = (slice_of c.buf ∷ [], (vint w64 c.pos ∷ [], (vint w n ∷ [], tt)))

      abbrev Own : Fml
      Own = (Cursor κ).own_val c (mach ∷ [])

      abbrev Post : Val → SProp 𝓤
      Post = (walk_of 𝓛 Asking stayed asking).post (((κ, tt), (q, tt), tt, (c, (n, tt)), vals), tt)

      exits : (r : R.Denot) (u : Val) → Φ (bytes c) c.pos n r
          → ent 𝓤 (⋆ 𝓛 (‵ (R.own_val r (u ∷ [])) ∷ (‵ (flft κ q) ⊛ ‵ ftrue) ∷ ‵ Own ∷ [])) (Post u)
      exits r u e =
          qed 𝓛 (‵ (R.own_val r (u ∷ [])) ∷ (‵ (flft κ q) ⊛ ‵ ftrue) ∷ ‵ Own ∷ []) ∵
          suffices ! _ (ends_at 𝓛 Asking stayed asking (((κ, tt), (q, tt), tt, (c, (n, tt)), vals), tt) u r (tt, (tt, tt)) (tt, (tt, tt))) $
          says ! e $
          move ! (1 ∷ []) $ frame ! $ use0 𝓛 (‵ (owns (UInt w ∷ []) (n, tt) (vint w n ∷ [], tt))) (one_number 𝓛 w n n-fits) $
          move ! (2 ∷ 0 ∷ []) $ fjoin ! $ frame ! $ done !

      module _ (C : Calls 𝓤 H) (Λ : Loops 𝓤 H) (fm : FmC 𝓤 H 𝓛.laws C) (called : Name)
          (known : Triple 𝓤 (C called) (triple_of 𝓛 Asked.signature (closing 𝓛 Asked asked))) where
        walk : Is (Cursor κ) c (mach ∷ []) → ent 𝓤 (on_entry 𝓛 Asking.signature (κ, tt) (q, tt) (c, (n, tt)) vals)
            (WpFn 𝓤 H C Λ (code called) (mach ∷ vint w n ∷ []) Post)
        walk is =
            let wt = cursor_typed κ 𝓛 (named 0) c mach is in
            qed 𝓛 ((‵ (flft κ q) ⊛ ‵ ftrue) ∷ ‵ (owns (Cursor κ ∷ UInt w ∷ []) (c, (n, tt)) vals) ∷ []) ∵
            enter ! C Λ (code called) (mach ∷ vint w n ∷ []) _ $
            alloc1 ! (λ l₀. alloc1 ! (λ l₁. alloc1 ! (λ l₂. alloc1 ! (λ l₃. alloc1 ! (λ l₄. alloc0 ! $ params1 ! $ pass1 ! (init ! 6 refl wt) $
            pass1 ! (init ! 4 refl ((uint_Lawful 𝓛 w).typed n (vint w n ∷ []) (refl, n-fits)).0) $ pass0 ! $
            assigns ! (of_opd ! (load ! (from ! (fld ! refl (stop !))) (look_in ! 6 (sub ! 0 refl (whole !))))) (from ! (stop !))
            (init ! 2 refl (tt, wt.1.0)) $
            assigns ! (of_opd ! (load ! (from ! (fld ! refl (stop !))) (look_in ! 6 (sub ! 1 refl (whole !))))) (from ! (stop !))
            (init ! 0 refl (tt, wt.1.1.0)) $
            -- [_4; …; _3; …; _2; …; _1; …; room for _0; …; the token; what the cursor and n own]
            move ! (11 ∷ []) $ fsplit ! $ move ! (1 ∷ []) $ drop ! $ gives_buf ! κ c $ move ! (0 ∷ 12 ∷ []) $
            calls_told 𝓛 asked κ q (c.buf, (c.pos, (n, tt))) passed tt
            ! fm known (id⊢ 𝓤 _) (two_numbers 𝓛 w64 c.pos wt.1.1.0.fits w n n-fits) (Φ (bytes c) c.pos n) (λ r e. id⊢ 𝓤 _)
            (and_then ! (load ! (from ! (stop !)) (look ! 4 refl)) (and_then ! (load ! (from ! (stop !)) (look ! 2 refl))
            (and_then ! (load ! (from ! (stop !)) (look ! 6 refl)) (no_more !)))) (λ u r e is-r.
            -- [the answer; the token; what the cursor owns; _4; …; _3; …; _2; …; _1; …; room for _0; …]
            land ! (from ! (stop !)) (init ! 11 refl (typed r u is-r)) $
            returns ! (look ! 11 refl) $ forget ! 3 refl $ forget ! 5 refl $ forget ! 7 refl $ forget ! 9 refl $ forget ! 11 refl $
            move ! (11 ∷ 12 ∷ []) $ free1 ! $ move ! (9 ∷ 10 ∷ []) $ free1 ! $ move ! (7 ∷ 8 ∷ []) $ free1 ! $ move ! (5 ∷ 6 ∷ []) $ free1 ! $
            move ! (3 ∷ 4 ∷ []) $ free1 ! $ free0 ! $ by ! (exits r u e)))))))

    module _ (𝓛 : Logic 𝓤) (𝓜 : Model 𝓤 𝓛.H) (𝓡 : Running 𝓤 𝓛.H 𝓜) (env : Env) (key called : Name) where
      open 𝓛 use {H}

      pub asks_with : Closed 𝓤 H (tables 𝓤 H 𝓜 𝓡 env).C (tables 𝓤 H 𝓜 𝓡 env).Λ key (code called)
          → ((r : R.Denot) (u : Val) → Is R r (u ∷ []) → Holds (has_ty τ u) × WT u)
          → Triple 𝓤 ((tables 𝓤 H 𝓜 𝓡 env).C called) (triple_of 𝓛 Asked.signature (closing 𝓛 Asked asked))
          → Meets 𝓛 Asking.signature ((tables 𝓤 H 𝓜 𝓡 env).C key) (closing 𝓛 Asking asking)
      asks_with unfolded typed known =
          let A = 𝓛.A in
          by_walk 𝓛 𝓜 𝓡 Asking stayed asking env key (code called) unfolded
          (Goes-none 𝓛 1 (λ κs. Cursor κs.0) yes (λ κs x f. refl), (Goes-none 𝓛 1 (λ _. UInt w) yes (λ κs x f. refl), tt))
          (λ κs. (cursor_vals κs.0, (uint_vals w, tt))) (λ κs. (cursor_tells κs.0, (uint_Tells w, tt))) (λ fm κs qs bounds a g are.
          via 𝓤 _ (fst∗ 𝓤 _ (emp 𝓤)) (walk 𝓛 typed κs.0 qs.0 a.0 a.1.0 are.1.0.1 _ _ fm called known are.0))
