-- The laws of what the calls answer. Assumes nothing.
use Prim.Native.Nat.{ℕ, zero, suc, ◌+◌, ◌*◌, ◌≤◌, ◌<◌}
use mathlib.Core.Path.{◌≡◌, refl, sym, ap, ◌∙◌, subst}
use mathlib.Core.Bool.{Bool, true, false}
use mathlib.Core.List.{List, [], ◌∷◌}
use native.Mathlib.Nat.{le_of_suc-le-suc, not-suc-le-zero}
use lib.ListN.{length, get_or, take}
use lib.Dec.{ltb}
use borrow.Author.Tests.{ltb-true, ltb-false, lt-ltb, le-ltb}
use Rattle.util.specs.Outcome.{result, refusal}
use Rattle.util.specs.Take.{taken_part}
use Rattle.errors.specs.Refusal.{absent_number, refusal_outcome}
use Rattle.errors.specs.declared.Kind.{Kind}
use Rattle.errors.specs.declared.Kind.TheVariants as kinds
use Rattle.errors.specs.declared.Refusal.{Refusal}
use Rattle.errors.proofs.Refusals.{refusal_not, refusal_any}
use Rattle.errors.proofs.Refusals as refusals
use Rattle.scripts.specs.Script.{Answer, short, fault, whole, run, outcome_of}
use Rattle.nds.specs.Formats.{data_length, second_length}
use Rattle.info_block.specs.InfoBlock.{list_at, list_length, entry_name, entry_number}
use Rattle.reading.specs.Tex as Tex
use Rattle.reading.specs.Tex.{Contents, header_of, read_tex}
use Rattle.nitro.specs.Calls.{texture_record, palette_record, palette_of}
use Rattle.nitro.specs.Calls.{entry, texture_entry, palette_entry, reading_of, texture_of, part_of, data1_of, data2_of, pal_block_of}
use Rattle.reading.specs.Blocks.{entry_at}
use Rattle.reading.specs.Layouts.{layout_of, layout_answer, LaidOut}
use Rattle.layout.specs.Positions.{count_of, data_at, second_at}
use Rattle.nitro.specs.ByLayout.{layout_with}
use Rattle.layout.specs.declared.Layout.{Layout}
use Rattle.scripts.proofs.Runs.{whole_outcome, ended, follows_self, refused}
use Rattle.reading.proofs.Blocks.{entry_is, entry_none}
use Rattle.reading.proofs.Readings.{TextureAt, finished, textures_listed, palettes_listed, pal_block_whole}

-- entry n of a list, and none
module _ {A B : Type 0} (k : Kind) (f : A → B) where
  pub entry_in : (xs : List A) (n : ℕ) (d : A) → n < length xs → entry k f xs n ≡ result (f (get_or xs n d))
  unfolding entry
  entry_in [] n d h = absurd (not-suc-le-zero h)
  entry_in (x ∷ xs) zero d h = refl
  entry_in (x ∷ xs) (suc n) d h = entry_in xs n d (le_of_suc-le-suc h)

  pub entry_out : (xs : List A) (n : ℕ) → length xs ≤ n → entry k f xs n ≡ refusal (absent_number k) 0
  unfolding entry
  entry_out [] n h = refl
  entry_out (x ∷ xs) zero h = absurd (not-suc-le-zero h)
  entry_out (x ∷ xs) (suc n) h = entry_out xs n (le_of_suc-le-suc h)

-- what is made of an entry does not matter to whether it is there
entry_absent : {A B C : Type 0} (k : Kind) (f : A → B) (g : A → C) (xs : List A) (n : ℕ) {number returned : ℕ}
    → entry k f xs n ≡ refusal number returned → entry k g xs n ≡ refusal number returned
unfolding entry
entry_absent k f g [] n e = cc
entry_absent k f g (x ∷ xs) zero e = absurd (cc)
entry_absent k f g (x ∷ xs) (suc n) e = entry_absent k f g xs n e

-- 01, "When a call is declined": "A declined data part is empty, and the record call for that number names the refusal." The palette block
-- has the reading's.
pub declined_data : (n : ℕ) (a : Answer Contents) {number returned : ℕ} → texture_of n a ≡ refusal number returned
    → (data1_of n a ≡ []) × (data2_of n a ≡ [])
unfolding texture_of data1_of data2_of texture_entry outcome_of
declined_data n (short w) e = (refl, refl)
declined_data n (fault found) e = (refl, refl)
declined_data n (whole c) e =
    (ap part_of (entry_absent kinds.Texture _ _ c.textures n e), ap part_of (entry_absent kinds.Texture _ _ c.textures n e))

pub declined_pal_block : (a : Answer Contents) {number returned : ℕ} → reading_of a ≡ refusal number returned → pal_block_of a ≡ []
unfolding reading_of pal_block_of outcome_of
declined_pal_block (short w) e = refl
declined_pal_block (fault found) e = refl
declined_pal_block (whole c) e = absurd (cc)

-- a layout that was found: the reading finished, and its list has the entry
pub record Found (k : Kind) (n : ℕ) (b : List ℕ) (a : Answer Contents) (l : Layout) : Type 0 where
  pub contents : Contents
  pub is : a ≡ whole contents
  pub laid : l ≡ layout_of b contents
  pub below : n < count_of k (layout_of b contents)

pub found : (k : Kind) (n : ℕ) (b : List ℕ) (a : Answer Contents) {l : Layout} → result l ≡ layout_with k n b a → Found k n b a l
unfolding layout_with outcome_of
found k n b (short w) e = absurd (cc)
found k n b (fault w) e = absurd (cc)
found k n b (whole c) {l} e = go (ltb n (count_of k (layout_of b c))) refl
  where
    go : (t : Bool) → ltb n (count_of k (layout_of b c)) ≡ t → Found k n b (whole c) l
    go true q = record { contents = c; is = refl; laid = cc (rw q at e); below = ltb-true _ _ q }
    go false q = absurd (cc (rw q at e))

-- a finished reading, as a layout and as counts
module _ (b : List ℕ) {a : Answer Contents} {c : Contents} {l : Layout} (is : a ≡ whole c) (laid : l ≡ layout_of b c) where
  pub reading_laid : result (record { textures = l.textures; palettes = l.palettes }) ≡ reading_of a
  unfolding reading_of outcome_of
  reading_laid = rw (is, laid)

  pub with_entry : (k : Kind) (n : ℕ) → n < count_of k l → result l ≡ layout_with k n b a
  unfolding layout_with outcome_of
  with_entry k n h = rw (is, laid, lt-ltb n (count_of k (layout_of b c)) (rw laid at h))

  pub without_entry : (k : Kind) (n : ℕ) → count_of k l ≤ n → refusal (absent_number k) 0 ≡ layout_with k n b a
  unfolding layout_with outcome_of
  without_entry k n h = rw (is, le-ltb n (count_of k (layout_of b c)) (rw laid at h))

-- a layout of the block, with an entry that it has or has not
module _ (k : Kind) (n : ℕ) (b : List ℕ) {l : Layout} where
  pub laid_entry : LaidOut b l → n < count_of k l → result l ≡ layout_with k n b (run read_tex b)
  unfolding layout_answer
  laid_entry laid h = let o = ended (run read_tex b) (layout_of b) laid.is in with_entry b o.is o.gives k n h

  pub laid_no_entry : LaidOut b l → count_of k l ≤ n → refusal (absent_number k) 0 ≡ layout_with k n b (run read_tex b)
  unfolding layout_answer
  laid_no_entry laid h = let o = ended (run read_tex b) (layout_of b) laid.is in without_entry b o.is o.gives k n h

  pub entry_laid : result l ≡ layout_with k n b (run read_tex b) → LaidOut b l × (n < count_of k l)
  unfolding layout_answer
  entry_laid e =
      let o = found k n b (run read_tex b) e in
      (record { is = ap result o.laid ∙ whole_outcome _ o.is }, rw o.laid o.below)

-- and none
pub not_laid : (k : Kind) (n : ℕ) (b : List ℕ) (r : Refusal) → refusal_outcome r ≡ layout_answer b (run read_tex b)
    → refusal_outcome r ≡ layout_with k n b (run read_tex b)
unfolding layout_answer layout_with
not_laid k n b r e = refused _ _ (follows_self _) _ _ r e

-- the palette block by the layout
pub laid_pal_block : (b : List ℕ) {l : Layout} → LaidOut b l
    → taken_part l.header.pal_block_off (8 * l.header.pal_block_len_shr_3) b ≡ pal_block_of (run read_tex b)
unfolding layout_answer pal_block_of
laid_pal_block b laid =
    let o = ended (run read_tex b) (layout_of b) laid.is in
    rw o.gives (sym (pal_block_whole _ b (finished b o.is).pal_block_lem) ∙ ap part_of (whole_outcome _ o.is))

pub no_pal_block : (b : List ℕ) (r : Refusal) → refusal_outcome r ≡ layout_answer b (run read_tex b) → [] ≡ pal_block_of (run read_tex b)
unfolding layout_answer pal_block_of
no_pal_block b r e = ap part_of (refused _ _ (follows_self _) _ _ r e)

-- and one that was not: the refusal is that of entry n, whatever is made of the entry
module _ {A B : Type 0} (k : Kind) (n : ℕ) (b : List ℕ) (list : Contents → List A) (f : A → B)
    (counts : (c : Contents) → count_of k (layout_of b c) ≡ length (list c)) (r : Refusal) where
  pub no_entry : (a : Answer Contents) → refusal_outcome r ≡ layout_with k n b a → refusal_outcome r ≡ outcome_of a (λ c. entry k f (list c) n)
  unfolding layout_with outcome_of
  no_entry (short w) e = refusal_any r e
  no_entry (fault w) e = refusal_any r e
  no_entry (whole c) e = go (ltb n (count_of k (layout_of b c))) refl
    where
      go : (t : Bool) → ltb n (count_of k (layout_of b c)) ≡ t → refusal_outcome r ≡ entry k f (list c) n
      go true q = absurd (refusal_not r (rw q at e))
      go false q = refusal_any r (rw q at e) ∙ sym (entry_out k f (list c) n (rw (counts c) at (ltb-false n (count_of k (layout_of b c)) q)))

-- an entry that is asked for is there, so these are never answered
abbrev pub blank_texture : Tex.Texture
blank_texture = record { name = []; word = 0; parts = record { data1 = []; data2 = [] } }

abbrev pub blank_palette : Tex.Palette
blank_palette = record { name = []; off = 0 }

-- texture n: where it stands, by the layout that the code has, and that it is what the calls answer with
pub record TextureFound (n : ℕ) (b : List ℕ) (l : Layout) : Type 1 where
  pub texture : Tex.Texture
  pub within : l.header.texture_off + list_length kinds.Texture l.textures ≤ length b
  pub below : n < l.textures
  pub at : TextureAt l.header (list_at kinds.Texture l.header.texture_off l.textures b) n b texture
  pub entry : {B : Type 0} (f : Tex.Texture → B) → result (f texture) ≡ texture_entry f n (run read_tex b)

pub texture_found : (n : ℕ) (b : List ℕ) {l : Layout} → result l ≡ layout_with kinds.Texture n b (run read_tex b) → TextureFound n b l
unfolding texture_entry
texture_found n b e =
    let o = found kinds.Texture n b (run read_tex b) e in
    let listed = textures_listed (header_of (take 60 b)) b (finished b o.is).textures in
    subst (TextureFound n b) (sym o.laid)
    (record {
      texture = get_or o.contents.textures n blank_texture;
      within = listed.within;
      below = o.below;
      at = listed.at n blank_texture o.below;
      entry = λ f. sym (entry_in kinds.Texture f o.contents.textures n blank_texture o.below) ∙ whole_outcome _ o.is;
    })

pub no_texture_lem : {B : Type 0} (n : ℕ) (b : List ℕ) (f : Tex.Texture → B) (r : Refusal)
    → refusal_outcome r ≡ layout_with kinds.Texture n b (run read_tex b) → refusal_outcome r ≡ texture_entry f n (run read_tex b)
unfolding texture_entry
no_texture_lem n b f r e = no_entry kinds.Texture n b (λ c. c.textures) f (λ c. refl) r (run read_tex b) e

-- palette n, likewise
pub record PaletteFound (n : ℕ) (b : List ℕ) (l : Layout) : Type 1 where
  pub palette : Tex.Palette
  pub within : l.header.palette_off + list_length kinds.Palette l.palettes ≤ length b
  pub below : n < l.palettes
  pub at : palette ≡ Tex.palette_at (list_at kinds.Palette l.header.palette_off l.palettes b) n
  pub entry : {B : Type 0} (f : Tex.Palette → B) → result (f palette) ≡ palette_entry f n (run read_tex b)

pub palette_found : (n : ℕ) (b : List ℕ) {l : Layout} → result l ≡ layout_with kinds.Palette n b (run read_tex b) → PaletteFound n b l
unfolding palette_entry
palette_found n b e =
    let o = found kinds.Palette n b (run read_tex b) e in
    let listed = palettes_listed (header_of (take 60 b)) b (finished b o.is).palettes in
    subst (PaletteFound n b) (sym o.laid)
    (record {
      palette = get_or o.contents.palettes n blank_palette;
      within = listed.within;
      below = o.below;
      at = listed.at n blank_palette o.below;
      entry = λ f. sym (entry_in kinds.Palette f o.contents.palettes n blank_palette o.below) ∙ whole_outcome _ o.is;
    })

pub no_palette_lem : {B : Type 0} (n : ℕ) (b : List ℕ) (f : Tex.Palette → B) (r : Refusal)
    → refusal_outcome r ≡ layout_with kinds.Palette n b (run read_tex b) → refusal_outcome r ≡ palette_entry f n (run read_tex b)
unfolding palette_entry
no_palette_lem n b f r e = no_entry kinds.Palette n b (λ c. c.palettes) f (λ c. refl) r (run read_tex b) e

-- The laws in the form of the goals: what each call answers, by the layout that it found.
module _ (b : List ℕ) where
  pub reading_refused : (r : Refusal) → refusal_outcome r ≡ layout_answer b (run read_tex b) → refusal_outcome r ≡ reading_of (run read_tex b)
  unfolding layout_answer reading_of
  reading_refused r e = refused _ _ (follows_self _) _ _ r e

  pub reading_found : {l : Layout} → result l ≡ layout_answer b (run read_tex b)
      → result (record { textures = l.textures; palettes = l.palettes }) ≡ reading_of (run read_tex b)
  unfolding layout_answer
  reading_found e = let o = ended _ _ e in reading_laid b o.is o.gives

  pub pal_block_found : {l : Layout} → result l ≡ layout_answer b (run read_tex b)
      → taken_part l.header.pal_block_off (8 * l.header.pal_block_len_shr_3) b ≡ pal_block_of (run read_tex b)
  pal_block_found e = laid_pal_block b (record { is = e })

-- an entry that a block that was read does not have
pub entry_missed : (k : Kind) (n : ℕ) (b : List ℕ) {l : Layout} → LaidOut b l → (r : Refusal) → refusal_outcome r ≡ entry_at k n b l
    → refusal_outcome r ≡ layout_with k n b (run read_tex b)
entry_missed k n b {l} laid r e =
    let (beyond, is) = entry_none k n b l r e in
    is ∙ laid_no_entry k n b laid beyond

-- the entries of a layout of the block
module _ (b : List ℕ) {l : Layout} (laid : LaidOut b l) where
  pub laid_texture : (n : ℕ) → n < l.textures
      → result
      (texture_record (entry_name kinds.Texture (list_at kinds.Texture l.header.texture_off l.textures b) n)
      (entry_number kinds.Texture 4 (list_at kinds.Texture l.header.texture_off l.textures b) n))
      ≡ texture_of n (run read_tex b)
  unfolding texture_of
  laid_texture n below =
      let t = texture_found n b (laid_entry kinds.Texture n b laid below) in
      ap result (rw (t.at.name, t.at.word)) ∙ t.entry (λ x. texture_record x.name x.word)

  pub laid_data1 : (n : ℕ) → n < l.textures
      → let word = entry_number kinds.Texture 4 (list_at kinds.Texture l.header.texture_off l.textures b) n in
      result (taken_part (data_at l.header word) (data_length word) b) ≡ texture_entry (λ t. t.parts.data1) n (run read_tex b)
  laid_data1 n below =
      let t = texture_found n b (laid_entry kinds.Texture n b laid below) in
      ap result (sym t.at.parts.first) ∙ t.entry (λ x. x.parts.data1)

  pub laid_data2 : (n : ℕ) → n < l.textures
      → let word = entry_number kinds.Texture 4 (list_at kinds.Texture l.header.texture_off l.textures b) n in
      result (taken_part (second_at l.header word) (second_length word) b) ≡ texture_entry (λ t. t.parts.data2) n (run read_tex b)
  laid_data2 n below =
      let t = texture_found n b (laid_entry kinds.Texture n b laid below) in
      ap result (sym t.at.parts.second) ∙ t.entry (λ x. x.parts.data2)

  pub laid_palette : (n : ℕ) → n < l.palettes
      → result
      (palette_record (entry_name kinds.Palette (list_at kinds.Palette l.header.palette_off l.palettes b) n)
      (8 * entry_number kinds.Palette 2 (list_at kinds.Palette l.header.palette_off l.palettes b) n))
      ≡ palette_of n (run read_tex b)
  unfolding palette_of
  laid_palette n below =
      let t = palette_found n b (laid_entry kinds.Palette n b laid below) in
      ap result (rw t.at) ∙ t.entry (λ x. palette_record x.name x.off)

-- texture n and palette n, by a layout that has them, or where there is none
module _ (n : ℕ) (b : List ℕ) where
  pub texture_refused : (r : Refusal) → refusal_outcome r ≡ layout_with kinds.Texture n b (run read_tex b) → refusal_outcome r ≡ texture_of n (run read_tex b)
  unfolding texture_of
  texture_refused r e = no_texture_lem n b _ r e

  pub palette_refused : (r : Refusal) → refusal_outcome r ≡ layout_with kinds.Palette n b (run read_tex b) → refusal_outcome r ≡ palette_of n (run read_tex b)
  unfolding palette_of
  palette_refused r e = no_palette_lem n b _ r e

-- for the calls
pub ruleset answers = (
  refusals.passed_on,
  not_laid,
  reading_refused,
  reading_found,
  pal_block_found,
  no_pal_block,
  entry_missed,
  entry_is,
  laid_texture,
  laid_data1,
  laid_data2,
  laid_palette,
  no_texture_lem,
  texture_refused,
  palette_refused,
)
