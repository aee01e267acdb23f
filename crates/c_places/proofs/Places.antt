-- The laws of parts that are told by their places. Assumes nothing.
use Rattle.std.specs.Prelude.{None}
use Prim.Native.Nat.{ℕ}
use mathlib.Core.Path.{◌≡◌, refl, sym, subst, ◌∙◌}
use mathlib.Core.List.{List}
use Rattle.util.specs.Outcome.{Outcome, result, refusal, ◌>>=◌}
use Rattle.errors.specs.Refusal.{refusal_outcome}
use Rattle.errors.specs.declared.Refusal.{Refusal}
use Rattle.scripts.specs.Script.{run}
use Rattle.reading.specs.Tex.{read_tex}
use Rattle.nitro.specs.Calls.{data1_of, data2_of, pal_block_of}
use Rattle.places.specs.Sources.{places_of, pal_place_of}
use Rattle.layout.specs.Positions.{part_at, told}
use Rattle.layout.specs.declared.Place.{Place}
use Rattle.places.specs.declared.Places.{Places}
use Rattle.places.proofs.Sources.{passed_on, located_sources, located_data1, located_data2, sources_data, placed_part, placed_length}
use Rattle.rows.specs.Rows.{place_of, Inside}
use Rattle.rows.proofs.Entries.{place_inside}
use Rattle.told.specs.Told.{data1, data2, pal_block}

-- what is told of a part, and of a call that is declined
module _ (b : List ℕ) (n : ℕ) where
  module _ {places : Places} (found : result places ≡ places_of n None b (run read_tex b)) where
    data_parts : (part_at b places.data1 ≡ data1_of n (run read_tex b)) × (part_at b places.data2 ≡ data2_of n (run read_tex b))
    data_parts = sources_data n None _ (located_sources n None b found)

    pub data1_told : data1 b n ≡ result (told places.data1)
    unfolding data1 ◌>>=◌ place_of
    data1_told = rw (← found, ← data_parts.0, located_data1 n None b found)

    pub data2_told : data2 b n ≡ result (told places.data2)
    unfolding data2 ◌>>=◌ place_of
    data2_told = rw (← found, ← data_parts.1, located_data2 n None b found)

  module _ (r : Refusal) (e : refusal_outcome r ≡ places_of n None b (run read_tex b)) where
    pub data1_refused : data1 b n ≡ refusal_outcome r
    unfolding data1
    data1_refused = sym (passed_on r _ _ e)

    pub data2_refused : data2 b n ≡ refusal_outcome r
    unfolding data2
    data2_refused = sym (passed_on r _ _ e)

module _ (b : List ℕ) where
  pub pal_block_told : {place : Place} → result place ≡ pal_place_of b (run read_tex b) → pal_block b ≡ result (told place)
  unfolding pal_block ◌>>=◌ place_of
  pal_block_told found = rw (← found, ← placed_part b found, placed_length b found)

  pub pal_block_refused : (r : Refusal) → refusal_outcome r ≡ pal_place_of b (run read_tex b) → pal_block b ≡ refusal_outcome r
  unfolding pal_block
  pal_block_refused r e = sym (passed_on r _ _ e)

-- every place that is told lies within the block, and has the part
module _ {A : Type 0} (at : A → Place) (b part : List ℕ) {place : Place} where
  told_inside : (o : Outcome A) (f : A → Outcome Place)
      → ((a : A) → result a ≡ o → (f a ≡ result (place_of (at a).pos part)) × (part_at b (at a) ≡ part))
      → (o >>= f) ≡ result place → Inside b part place
  unfolding ◌>>=◌
  told_inside (refusal k v) f known e = cc
  told_inside (result a) f known e =
      let (told, same) = known a refl in
      let is : place_of (at a).pos part ≡ place = cc (sym told ∙ e) in
      subst (λ p. Inside b part p) is (subst (λ x. Inside b x (place_of (at a).pos x)) same (place_inside b (at a).pos (at a).len))

module _ (b : List ℕ) {place : Place} where
  pub data1_inside : (n : ℕ) → data1 b n ≡ result place → Inside b (data1_of n (run read_tex b)) place
  unfolding data1
  data1_inside n =
      told_inside (λ (x : Places). x.data1) b (data1_of n (run read_tex b)) (places_of n None b (run read_tex b)) _
      (λ places found. (refl, (data_parts b n found).0))

  pub data2_inside : (n : ℕ) → data2 b n ≡ result place → Inside b (data2_of n (run read_tex b)) place
  unfolding data2
  data2_inside n =
      told_inside (λ (x : Places). x.data2) b (data2_of n (run read_tex b)) (places_of n None b (run read_tex b)) _
      (λ places found. (refl, (data_parts b n found).1))

  pub pal_block_inside : pal_block b ≡ result place → Inside b (pal_block_of (run read_tex b)) place
  unfolding pal_block
  pal_block_inside =
      told_inside (λ (x : Place). x) b (pal_block_of (run read_tex b)) (pal_place_of b (run read_tex b)) _ (λ p found. (refl, placed_part b found))
