-- What walks by hand share, whatever struct they are over.
--     by_walk         a walk of a function's MIR, for all arguments, is the function's theorem
--     callee          the signature of a function with one lifetime that takes some value first, and numbers: what a walk here calls
--     calls_told      a call of it, of which all that is known is that it meets its contract. What it is passed first and the lifetime's token go
--                     to the call. The result and the token come back, with the fact that the contract says of the result
--     one_number, two_numbers      what numbers own is made of nothing but that they fit
-- `calls_told` and the last two take `Logic`. The rest assumes nothing.
use mathlib.Core.Path.{refl}
use Prim.Native.Nat.{ℕ, ◌<◌, ◌^◌}
use mathlib.Core.List.{List, [], ◌∷◌}
use seplogic.Ra.Ura.{Ura}
use mir.Syntax.{Fn, Callee as Name, Place, Width, Opd as Operand, Body, seq, call}
use mir.Val.{Val, vint, bits}
use base.Logic.{ent, sep, emp, via, snd∗, ex_e, id⊢}
use base.Fml.{Lft, Share, ftrue, flft}
use prog.Model.{Model}
use prog.Routine.{Env as RoutineEnv}
use prog.Wp.{Env, Calls, Loops, Closed, WpFn}
use types.Logic.{Logic, sem}
use contract.Lifetimes.{Lfts, Shares, AllOutlive}
use contract.Monad.{Fun, fact}
use contract.Running.{Running, tables, tables_of}
use sound.WpLaws.{FmC, fm_of, WpFn-mono}
use types.Kit.{Item, ‵, raw, ◌⊛◌, some, later, Post, runs, lands, Seq, ◌$◌, ◌∵◌, !, qed, by, move, use0, use1, use2, split, join, pick, fjoin, frame, await, done}
use types.Run.{Opds}
use denote.RattleType.{RattleType, owns, flat}
use denote.Laws.{Is, Ises, Are, Spells, Tellss, valss, shows}
use denote.Plain.{UInt, uint_Makes}
use denote.Signature.{Signature, Slot, type_at, types_at}
use denote.Steps.{owned, peeks, heard, nothing}
use denote.Triple.Statement.{Contract, Triple}
use denote.Triple.Entry.{Args, Vals, on_entry}
use denote.Triple.End.{Kepts}
use denote.Triple.Clauses.{Ended, Clauses, AtExit, closing, ensured, lasts}
use denote.Triple.Call.{calls_at}
use denote.Triple.Spec.{Meets, triple_of}
use denote.Triple.Table.{entered}
use denote.Triple.Walked.{Stays, AllGo, walk_of, walked, walk_Meets}

module _ {M : Type 1} {𝓤 : Ura M} (𝓛 : Logic 𝓤) (𝓜 : Model 𝓤 𝓛.H) (𝓡 : Running 𝓤 𝓛.H 𝓜) (T : Ended)
    (hs : Stays T.signature.params T.kept) (c : Clauses 𝓤 T) (env : RoutineEnv) (key : Name) (code : Fn) where
  open 𝓛 use {H}

  abbrev S : Signature
  S = T.signature

  abbrev run : Fun 𝓤
  run = WpFn 𝓤 H (tables 𝓤 H 𝓜 𝓡 env).C (tables 𝓤 H 𝓜 𝓡 env).Λ code

  pub by_walk : Closed 𝓤 H (tables 𝓤 H 𝓜 𝓡 env).C (tables 𝓤 H 𝓜 𝓡 env).Λ key code
      → AllGo 𝓛 S.lifetimes S.params T.kept hs
      → (sp : (κs : Lfts S.lifetimes) → Spells (types_at S.params κs))
      → ((κs : Lfts S.lifetimes) → Tellss (types_at S.params κs) (Ises (types_at S.params κs)) (sp κs))
      → (FmC 𝓤 H 𝓛.laws (tables 𝓤 H 𝓜 𝓡 env).C
      → (κs : Lfts S.lifetimes) (qs : Shares S.lifetimes) (bounds : AllOutlive S.lifetimes S.outlives κs) (a : Args S κs)
      (g : (c κs a).ghost)
      → Are (types_at S.params κs) (Ises (types_at S.params κs)) a (valss (types_at S.params κs) (sp κs) a)
      → ent 𝓤 (sep 𝓤 (on_entry 𝓛 S κs qs a (valss (types_at S.params κs) (sp κs) a)) ((c κs a).requires g))
      (run (flat (types_at S.params κs) (valss (types_at S.params κs) (sp κs) a))
      ((walk_of 𝓛 T hs c).post ((κs, qs, bounds, a, valss (types_at S.params κs) (sp κs) a), g))))
      → Meets 𝓛 S ((tables 𝓤 H 𝓜 𝓡 env).C key) (closing 𝓛 T c)
  unfolding tables_of
  by_walk unfolded goes sp tells walk =
      let 𝓣 = tables_of 𝓤 H 𝓜 (tables 𝓤 H 𝓜 𝓡 env) in
      let laws = 𝓛.laws in
      entered 𝓤 H (triple_of 𝓛 S (closing 𝓛 T c)) (tables 𝓤 H 𝓜 𝓡 env).C (tables 𝓤 H 𝓜 𝓡 env).Λ key code unfolded
      (walk_Meets 𝓛 T hs goes c run (WpFn-mono 𝓤 H laws 𝓣 code)
      (walked 𝓛 T hs c run sp tells (walk (fm_of 𝓤 H laws 𝓣))))

abbrev pub callee : (first : Slot 1) (numbers : List (Slot 1)) (result : Slot 1) → Kepts (first ∷ numbers) → Ended
callee first numbers result kept = record { signature = record { lifetimes = 1; outlives = []; params = first ∷ numbers; result = result }; kept = kept }

module _ {M : Type 1} {𝓤 : Ura M} (𝓛 : Logic 𝓤) where
  pub one_number : (w : Width) (n : ℕ) → n < 2 ^ bits w → ent 𝓤 (emp 𝓤) (sem 𝓛 (owns (UInt w ∷ []) (n, tt) (vint w n ∷ [], tt)))
  one_number w n fits = qed 𝓛 [] ∵ nothing ! $ owned ! (UInt w) (Is (UInt w)) (uint_Makes 𝓛 w) n (vint w n ∷ []) (refl, fits) $ fjoin ! $ done !

  pub two_numbers : (w : Width) (n : ℕ) → n < 2 ^ bits w → (w' : Width) (m : ℕ) → m < 2 ^ bits w'
      → ent 𝓤 (emp 𝓤) (sem 𝓛 (owns (UInt w ∷ UInt w' ∷ []) (n, (m, tt)) (vint w n ∷ [], (vint w' m ∷ [], tt))))
  two_numbers w n fits w' m fits' =
      qed 𝓛 [] ∵ use0 𝓛 (‵ (owns (UInt w' ∷ []) (m, tt) (vint w' m ∷ [], tt))) (one_number w' m fits') $
      owned ! (UInt w) (Is (UInt w)) (uint_Makes 𝓛 w) n (vint w n ∷ []) (refl, fits) $ fjoin ! $ done !

module _ {M : Type 1} {𝓤 : Ura M} (𝓛 : Logic 𝓤) {first : Slot 1} {numbers : List (Slot 1)} {result : Slot 1}
    {kept : Kepts (first ∷ numbers)}
    (c : Clauses 𝓤 (callee first numbers result kept)) where
  open 𝓛 use {H}

  abbrev Sᶜ : Signature
  Sᶜ = (callee first numbers result kept).signature

  abbrev Callee : Contract 𝓤
  Callee = triple_of 𝓛 Sᶜ (closing 𝓛 (callee first numbers result kept) c)

  module _ (κ : Lft) (q : Share) (a : Args Sᶜ (κ, tt)) (vs : Vals Sᶜ (κ, tt)) (g : (c (κ, tt) a).ghost) where
    abbrev to : Callee.Ghost
    to = (((κ, tt), (q, tt), tt, a, vs), g)

    abbrev R : RattleType
    R = type_at result (κ, tt)

    -- the contract's clause is the fact φ of the result
    abbrev pub Says : (R.Denot → Type 0) → Type 1
    Says φ = (r : R.Denot) (e : AtExit (callee first numbers result kept) (κ, tt)) → ent 𝓤 ((c (κ, tt) a).ensures g r e) (fact 𝓤 (φ r))

    module _ {K : Type 0} {Γ : List (Item 𝓤)} {E : Env 𝓤 H} {C : Calls 𝓤 H} {Λ : Loops 𝓤 H} {f : Name} {xs : List Operand} {d : Place}
        {rest : Body} {p : Post 𝓤 H} where
      pub calls_told : K → FmC 𝓤 H 𝓛.laws C → Triple 𝓤 (C f) Callee
          → ent 𝓤 (emp 𝓤) ((c (κ, tt) a).requires g) → ent 𝓤 (emp 𝓤) (sem 𝓛 (owns (types_at numbers (κ, tt)) a.1 vs.1))
          → (φ : R.Denot → Type 0) → Says φ → Opds K 𝓛 (raw (Callee.pre to) ∷ Γ) E xs (Callee.args to)
          → ((u : Val) (r : R.Denot) → φ r → Is R r (u ∷ []) → Seq K 𝓛 (‵ (R.own_val r (u ∷ [])) ∷ (‵ (flft κ q) ⊛ ‵ ftrue) ∷ Γ)
          (lands C Λ E d u rest p))
          → Seq K 𝓛 (‵ ((type_at first (κ, tt)).own_val a.0 vs.0) ∷ (‵ (flft κ q) ⊛ ‵ ftrue) ∷ Γ) (runs C Λ E (seq (call f xs d) rest) p)
      calls_told k fm known asked own-numbers φ says opds next =
          use0 𝓛 (‵ (owns (types_at numbers (κ, tt)) a.1 vs.1)) own-numbers $ move k (1 ∷ 0 ∷ []) $ fjoin k $ move k (1 ∷ 0 ∷ []) $
          use2 𝓛 (raw (Callee.pre to))
          (qed 𝓛 ((‵ (flft κ q) ⊛ ‵ ftrue) ∷ ‵ (owns (types_at (first ∷ numbers) (κ, tt)) a vs) ∷ []) ∵ join ! $ frame ! $ by ! asked) $
          calls_at k fm Callee known to opds (λ u.
          use1 𝓛 (later (some (λ (r : R.Denot). ((‵ (flft κ q) ⊛ ‵ ftrue) ⊛ ‵ (R.own_val r (u ∷ [])))
          ⊛ raw (ensured 𝓛 (callee first numbers result kept) c (κ, tt) a g r)))) (id⊢ 𝓤 _) $
          await k tt $ pick k (λ r. split k $ move k (1 ∷ []) $
          use1 𝓛 (raw (fact 𝓤 (φ r))) (ex_e 𝓤 _ (λ ws. via 𝓤 _ (snd∗ 𝓤 (sem 𝓛 (lasts (callee first numbers result kept) (κ, tt) a ws)) _)
          (says r _))) $
          heard k (φ r) (λ e. split k $ move k (1 ∷ []) $ peeks k R (Is R) (shows 𝓛 R) r (u ∷ []) (next u r e))))
