-- The laws of what a picture is made from, and of where that is. Assumes nothing.
use Rattle.std.specs.Prelude.{Option, None, Some}
use Prim.Native.Nat.{ℕ, zero, suc, ◌+◌, ◌≤◌, ◌<◌}
use mathlib.Core.Path.{◌≡◌, refl, sym, ap, ◌∙◌}
use mathlib.Core.Bool.{Bool, true, false}
use mathlib.Core.List.{List, [], ◌∷◌}
use native.Mathlib.Omega.{arith}
use lib.ListN.{length, get_or, take, drop, length-drop}
use lib.Seq.{length-take-le}
use lib.Dec.{ltb}
use borrow.Author.Tests.{ltb-true, ltb-false}
use Rattle.std.proofs.lemmas.Bool.Decides.{nat_tests}
use Rattle.util.specs.Outcome.{Outcome, result, refusal, ◌>>=◌}
use Rattle.util.proofs.Takes.{part_there}
use Rattle.errors.specs.Refusal.{absent_number, refusal_outcome}
use Rattle.errors.specs.declared.Kind.{Kind}
use Rattle.errors.specs.declared.Kind.TheVariants as kinds
use Rattle.errors.specs.declared.Refusal.{Refusal}
use Rattle.errors.proofs.Refusals.{refusal_not, refusal_any}
use Rattle.errors.proofs.Refusals as refusals
use Rattle.scripts.specs.Script.{Answer, short, fault, whole, run, outcome_of}
use Rattle.info_block.specs.InfoBlock.{list_length}
use Rattle.reading.specs.Tex as Tex
use Rattle.reading.specs.Tex.{Contents, header_of, read_pal_block, read_tex}
use Rattle.nitro.specs.Calls.{entry, texture_entry, part_of, data1_of, data2_of, pal_block_of}
use Rattle.places.specs.Sources.{Sources, chosen_of, sources_of, sources_at, places_at, places_of, part_at, pal_place_at, pal_place_of}
use Rattle.reading.specs.Blocks.{entry_at}
use Rattle.reading.specs.Layouts.{layout_of, layout_answer, LaidOut}
use Rattle.nitro.specs.ByLayout.{layout_with}
use Rattle.places.specs.ByLayout.{chosen_by, places_by}
use Rattle.layout.specs.declared.Header.{Header}
use Rattle.layout.specs.declared.Layout.{Layout}
use Rattle.layout.specs.declared.Place.{Place}
use Rattle.places.specs.declared.Places.{Places}
use Rattle.scripts.proofs.Runs.{bytes_whole, whole_outcome, ended, follows_self, refused}
use Rattle.reading.proofs.Readings.{finished, textures_listed, palettes_listed, pal_block_whole}
use Rattle.reading.proofs.Blocks.{list_within, entry_is}
use Rattle.nitro.proofs.Answers.{entry_laid, entry_in, entry_out, blank_texture, blank_palette}

-- the palette block by its place
pub placed_part : (b : List ℕ) {place : Place} → result place ≡ pal_place_of b (run read_tex b) → part_at b place ≡ pal_block_of (run read_tex b)
unfolding pal_place_of pal_block_of
placed_part b e =
    let o = ended (run read_tex b) (λ _. pal_place_at (header_of (take 60 b))) e in
    rw o.gives (sym (pal_block_whole _ b (finished b o.is).pal_block_lem) ∙ ap part_of (whole_outcome _ o.is))

pub placed_length : (b : List ℕ) {place : Place} → result place ≡ pal_place_of b (run read_tex b) → length (part_at b place) ≡ place.len
unfolding pal_place_of read_pal_block
placed_length b e =
    let o = ended (run read_tex b) (λ _. pal_place_at (header_of (take 60 b))) e in
    let within = (bytes_whole _ _ b (finished b o.is).pal_block_lem).within in
    rw (o.gives, ← part_there _ _ b within) (length-take-le _ (drop _ b) (rw length-drop (omega (arith, within))))

-- the palette block's place, by the layout that was found
pub pal_place_found : (b : List ℕ) {l : Layout} → result l ≡ layout_answer b (run read_tex b)
    → result (pal_place_at l.header) ≡ pal_place_of b (run read_tex b)
unfolding pal_place_of layout_answer
pal_place_found b e = let o = ended _ _ e in ap (λ (x : Layout). result (pal_place_at x.header)) o.gives ∙ whole_outcome _ o.is

pub pal_place_refused : (b : List ℕ) (r : Refusal) → refusal_outcome r ≡ layout_answer b (run read_tex b)
    → refusal_outcome r ≡ pal_place_of b (run read_tex b)
unfolding pal_place_of layout_answer
pal_place_refused b r e = refused _ _ (follows_self _) _ _ r e

-- the chosen palette of a finished reading, by the layout
chosen_there : (b : List ℕ) {c : Contents} → run read_tex b ≡ whole c → (choice : Option ℕ)
    → chosen_of choice c.palettes ≡ chosen_by b (layout_of b c) choice
unfolding chosen_of chosen_by
chosen_there b is None = refl
chosen_there b {c} is (Some k) = go (ltb k (length c.palettes)) refl
  where
    go : (t : Bool) → ltb k (length c.palettes) ≡ t → chosen_of (Some k) c.palettes ≡ chosen_by b (layout_of b c) (Some k)
    go true e =
        let below = ltb-true k (length c.palettes) e in
        rw e
        (entry_in kinds.Palette (λ p. Some p.off) c.palettes k blank_palette below
        ∙ ap (λ (p : Tex.Palette). result (Some p.off))
        ((palettes_listed (header_of (take 60 b)) b (finished b is).palettes).at k blank_palette below))
    go false e = rw e (entry_out kinds.Palette _ c.palettes k (ltb-false k (length c.palettes) e))

-- and where there is no such palette
pub chosen_absent : (b : List ℕ) (l : Layout) (k : ℕ) (r : Refusal) → refusal_outcome r ≡ entry_at kinds.Palette k b l
    → refusal_outcome r ≡ chosen_by b l (Some k)
unfolding chosen_by entry_at
chosen_absent b l k r e = grind (arith, nat_tests)

-- a refusal is passed on, whatever comes next
pub passed_on : {A B : Type 0} (r : Refusal) (o : Outcome A) (f : A → Outcome B) → refusal_outcome r ≡ o → refusal_outcome r ≡ (o >>= f)
unfolding ◌>>=◌
passed_on r o f e = grind arith

-- what a picture of texture n is made from
module _ (n : ℕ) (choice : Option ℕ) (b : List ℕ) {c : Contents} (is : run read_tex b ≡ whole c) (below : n < length c.textures) where
  abbrev this : Tex.Texture
  this = get_or c.textures n blank_texture

  texture_in : entry kinds.Texture (λ (t : Tex.Texture). t) c.textures n ≡ result this
  texture_in = entry_in kinds.Texture (λ (t : Tex.Texture). t) c.textures n blank_texture below

  sources_by : {o : Outcome (Option ℕ)} → chosen_of choice c.palettes ≡ o
      → sources_of n choice (run read_tex b)
      ≡ (o >>= λ p. result (record { word = this.word; parts = this.parts; palette = p; pal_block = c.pal_block }))
  unfolding sources_of outcome_of ◌>>=◌
  sources_by e = rw (is, texture_in, e)

  abbrev header : Header
  header = header_of (take 60 b)

  -- by the layout
  places_there : {p : Option ℕ} → result p ≡ chosen_by b (layout_of b c) choice
      → result (places_by b (layout_of b c) n p) ≡ places_of n choice b (run read_tex b)
  unfolding places_of places_by ◌>>=◌
  places_there e =
      let t = (textures_listed header b (finished b is).textures).at n blank_texture below in
      rw (sources_by (chosen_there b is choice ∙ sym e), ← t.word)

  places_absent : (r : Refusal) → refusal_outcome r ≡ chosen_by b (layout_of b c) choice
      → refusal_outcome r ≡ places_of n choice b (run read_tex b)
  unfolding places_of ◌>>=◌
  places_absent r e = rw (sources_by (chosen_there b is choice ∙ sym e))

  -- and by the places
  parts_at : (p : Option ℕ)
      → sources_at b (places_at header this.word p)
      ≡ record { word = this.word; parts = this.parts; palette = p; pal_block = c.pal_block }
  parts_at p =
      let t = (textures_listed header b (finished b is).textures).at n blank_texture below in
      rw (t.word, ← t.parts.first, ← t.parts.second, ← pal_block_whole header b (finished b is).pal_block_lem)

  -- data are as long as their places say
  lengths_at : (p : Option ℕ)
      → let places = places_at header this.word p in
      (length (part_at b places.data1) ≡ places.data1.len) × (length (part_at b places.data2) ≡ places.data2.len)
  lengths_at p =
      let t = (textures_listed header b (finished b is).textures).at n blank_texture below in
      (rw (t.word, ← t.parts.first, t.parts.first_length), rw (t.word, ← t.parts.second, t.parts.second_length_lem))

  -- for the places that were found
  record PartsThere (places : Places) : Type 0 where
    sources_at_lem : result (sources_at b places) ≡ sources_of n choice (run read_tex b)
    first : length (part_at b places.data1) ≡ places.data1.len
    second : length (part_at b places.data2) ≡ places.data2.len

  parts_there : {places : Places} → result places ≡ places_of n choice b (run read_tex b) → PartsThere places
  unfolding places_of ◌>>=◌
  parts_there {places} e = go (chosen_of choice c.palettes) refl
    where
      go : (o : Outcome (Option ℕ)) → chosen_of choice c.palettes ≡ o → PartsThere places
      go (refusal k v) q = absurd (cc (rw (sources_by q) at e))
      go (result p) q =
          let same : places ≡ places_at header this.word p = cc (rw (sources_by q) at e) in
          rw same
          (record { sources_at_lem = rw (sources_by q, parts_at p); first = (lengths_at p).0; second = (lengths_at p).1 })

-- the same by the layout that the code has
module _ (n : ℕ) (choice : Option ℕ) (b : List ℕ) where
  pub places_refused : (r : Refusal) → refusal_outcome r ≡ layout_answer b (run read_tex b) → refusal_outcome r ≡ places_of n choice b (run read_tex b)
  unfolding places_of sources_of layout_answer
  places_refused r e = passed_on r (sources_of n choice (run read_tex b)) _ (refused _ _ (follows_self _) _ _ r e)

  module _ {l : Layout} (laid : LaidOut b l) where
    pub no_texture : l.textures ≤ n → refusal (absent_number kinds.Texture) 0 ≡ places_of n choice b (run read_tex b)
    unfolding places_of sources_of layout_answer outcome_of ◌>>=◌
    no_texture h =
        let o = ended _ _ laid.is in
        rw (o.is, entry_out kinds.Texture (λ (t : Tex.Texture). t) _ n (rw o.gives at h))

    pub places_found : {p : Option ℕ} → n < l.textures → result p ≡ chosen_by b l choice
        → result (places_by b l n p) ≡ places_of n choice b (run read_tex b)
    unfolding layout_answer
    places_found h e = let o = ended _ _ laid.is in rw o.gives (places_there n choice b o.is (rw o.gives at h) (rw o.gives at e))

    pub no_palette : n < l.textures → (r : Refusal) → refusal_outcome r ≡ chosen_by b l choice
        → refusal_outcome r ≡ places_of n choice b (run read_tex b)
    unfolding layout_answer
    no_palette h r e = let o = ended _ _ laid.is in places_absent n choice b o.is (rw o.gives at h) r (rw o.gives at e)

-- all that a picture of a texture that the block has is made from, by the layout
pub record SourcesFound (n : ℕ) (choice : Option ℕ) (b : List ℕ) (l : Layout) : Type 0 where
  pub within : l.header.palette_off + list_length kinds.Palette l.palettes ≤ length b
  pub there : {p : Option ℕ} → result p ≡ chosen_by b l choice → result (places_by b l n p) ≡ places_of n choice b (run read_tex b)
  pub absent : (r : Refusal) → refusal_outcome r ≡ chosen_by b l choice → refusal_outcome r ≡ places_of n choice b (run read_tex b)

pub sources_found : (n : ℕ) (choice : Option ℕ) (b : List ℕ) {l : Layout} → result l ≡ layout_with kinds.Texture n b (run read_tex b)
    → SourcesFound n choice b l
sources_found n choice b e =
    let (laid, below) = entry_laid _ _ _ e in
    record { within = list_within kinds.Palette b laid; there = places_found n choice b laid below; absent = no_palette n choice b laid below }

-- and where it has no such texture
pub no_sources : (n : ℕ) (choice : Option ℕ) (b : List ℕ) (r : Refusal) (a : Answer Contents)
    → refusal_outcome r ≡ layout_with kinds.Texture n b a → refusal_outcome r ≡ places_of n choice b a
unfolding layout_with places_of sources_of outcome_of ◌>>=◌
no_sources n choice b r a e = grind (arith, entry_out)

-- for the functions that find places
pub ruleset finds = (
  refusals.passed_on,
  entry_is,
  chosen_absent,
  pal_place_found,
  pal_place_refused,
  places_refused,
  no_texture,
  places_found,
  no_palette,
)

-- where places are found, texture n was read
record Read (n : ℕ) (b : List ℕ) : Type 0 where
  contents : Contents
  is : run read_tex b ≡ whole contents
  below : n < length contents.textures

module _ (n : ℕ) (choice : Option ℕ) (b : List ℕ) {places : Places} (e : result places ≡ places_of n choice b (run read_tex b)) where
  texture_read : Read n b
  unfolding places_of sources_of outcome_of ◌>>=◌
  texture_read = go (run read_tex b) refl
    where
      no : {A : Type 0} {k v : ℕ} → ◌≡◌ {A = Outcome Places} (result places) (refusal k v) → A
      no q = absurd (cc)

      go : (a : Answer Contents) → run read_tex b ≡ a → Read n b
      go (short w) q = no (rw q at e)
      go (fault f) q = no (rw q at e)
      go (whole c) q = pick (ltb n (length c.textures)) refl
        where
          pick : (t : Bool) → ltb n (length c.textures) ≡ t → Read n b
          pick true h = record { contents = c; is = q; below = ltb-true n (length c.textures) h }
          pick false h = no (rw (q, entry_out kinds.Texture (λ (t : Tex.Texture). t) c.textures n (ltb-false n (length c.textures) h)) at e)

  there : PartsThere n choice b texture_read.is texture_read.below places
  there = parts_there n choice b texture_read.is texture_read.below e

  -- what the parts at the places are
  pub located_sources : result (sources_at b places) ≡ sources_of n choice (run read_tex b)
  located_sources = there.sources_at_lem

  -- and how long the data among them
  pub located_data1 : length (part_at b places.data1) ≡ places.data1.len
  located_data1 = there.first

  pub located_data2 : length (part_at b places.data2) ≡ places.data2.len
  located_data2 = there.second

-- an entry by a part of it
entry_by : {A B : Type 0} (k : Kind) (f : A → B) (xs : List A) (n : ℕ) {a : A} → entry k (λ t. t) xs n ≡ result a → entry k f xs n ≡ result (f a)
unfolding entry
entry_by k f [] n e = absurd (cc)
entry_by k f (x ∷ xs) zero e = ap (λ y. result (f y)) (cc)
entry_by k f (x ∷ xs) (suc n) e = entry_by k f xs n e

-- and the data among them
pub sources_data : (n : ℕ) (choice : Option ℕ) (a : Answer Contents) {s : Sources} → result s ≡ sources_of n choice a
    → (s.parts.data1 ≡ data1_of n a) × (s.parts.data2 ≡ data2_of n a)
unfolding sources_of data1_of data2_of texture_entry outcome_of ◌>>=◌
sources_data n choice a e = grind (arith, entry_by)

pub located_refused : (n : ℕ) (choice : Option ℕ) (b : List ℕ) (r : Refusal) (a : Answer Contents)
    → refusal_outcome r ≡ places_of n choice b a → refusal_outcome r ≡ sources_of n choice a
unfolding places_of ◌>>=◌
located_refused n choice b r a e = grind arith
