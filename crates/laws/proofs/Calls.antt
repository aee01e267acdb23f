-- Calls that go by what a script comes to: such a call is short exactly where the script is. Assumes nothing.
use Rattle.std.specs.Prelude.{Option, None, Some}
use Prim.Native.Nat.{ℕ, zero, suc, ◌≤◌, ◌<◌}
use mathlib.Core.Path.{◌≡◌, refl, ap, ◌∙◌, sym}
use mathlib.Core.Bool.{Bool, true, false, cond}
use mathlib.Core.List.{List, [], ◌∷◌}
use native.Mathlib.Omega.{arith}
use lib.ListN.{length, take}
use lib.Seq.{length-take-le}
use lib.Dec.{leb, eqb}
use borrow.Author.Tests.{leb-true, leb-false}
use Rattle.util.specs.Outcome.{Outcome, result, refusal, ◌>>=◌}
use Rattle.util.proofs.Parts.{part_of_prefix}
use Rattle.nds.specs.Params.{format}
use Rattle.errors.specs.Refusal.{Fault, bad_stamp, bad_dummy, bad_size, fault_number, absent_number}
use Rattle.output.specs.Output.{write_outcome, write_output}
use Rattle.errors.specs.declared.Kind.{Kind}
use Rattle.errors.specs.declared.Kind.TheVariants as kinds
use Rattle.scripts.specs.Script.{Script, Answer, short, fault, whole, run, outcome_of}
use Rattle.info_block.specs.InfoBlock.{NameList, name_list}
use Rattle.reading.specs.Tex.{Palette, Contents, header_of, read_tex}
use Rattle.reading.specs.Layouts.{layout_answer}
use Rattle.layout.specs.declared.Layout.{Layout}
use Rattle.nitro.specs.Calls as Calls
use Rattle.nitro.specs.declared.tex.Counts.{Counts}
use Rattle.places.specs.Sources as Sources
use Rattle.rows.specs.Rows.{rows_in, rows_of}
use Rattle.layout.specs.declared.Place.{Place}
use Rattle.places.specs.declared.Places.{Places}
use Rattle.scripts.proofs.Runs.{bytes_out}
use Rattle.reading.proofs.Readings.{header_follows, read_header_follows}
use Rattle.decode.specs.Pictures.{ready, decoded, picture_of, lacks_palette, lacks_data}
use Rattle.pam.specs.Pam.{pam_of}
use Rattle.laws.specs.BlockCalls.{nothing}

-- On two blocks, or parts of one, of which the script comes to the same, the call gives the same. Where the script is short, the call is
-- short of the same length, and leaves what stands beside its answer as declined; and nowhere else is it short.
pub record Scripted {A B C : Type 0} (s : Script A) (answer : List ℕ → Outcome B) (beside : List ℕ → C) (declined : C) : Type 0 where
  pub same : (b : List ℕ) (n : ℕ) → n ≤ length b → run s (take n b) ≡ run s b
      → (answer (take n b) ≡ answer b) × (beside (take n b) ≡ beside b)
  pub at_short : (b : List ℕ) (w : ℕ) → run s b ≡ short w → (answer b ≡ refusal 1 w) × (beside b ≡ declined)
  pub only_short : (b : List ℕ) (w : ℕ) → answer b ≡ refusal 1 w → run s b ≡ short w

-- an answer that is not short
abbrev pub NotShort : {A : Type 0} → Outcome A → Type 0
NotShort o = (w : ℕ) → o ≡ refusal 1 w → ⊥

-- a result, and a refusal with another number
result_not : {A : Type 0} {a : A} → NotShort (result a)
result_not w e = cc

number_not : {A : Type 0} {k v : ℕ} → (k ≡ 1 → ⊥) → NotShort {A = A} (refusal k v)
number_not d w e = d cc

fault_not : (found : Fault) → fault_number found ≡ 1 → ⊥
fault_not bad_stamp e = omega (arith, e)
fault_not (bad_dummy kinds.Texture) e = omega (arith, e)
fault_not (bad_dummy kinds.Palette) e = omega (arith, e)
fault_not (bad_size kinds.Texture) e = omega (arith, e)
fault_not (bad_size kinds.Palette) e = omega (arith, e)

absent_not : (k : Kind) → absent_number k ≡ 1 → ⊥
absent_not kinds.Texture e = omega (arith, e)
absent_not kinds.Palette e = omega (arith, e)

-- one answer and then the next is short where the first is
bind_short : {A B : Type 0} (o : Outcome A) (f : A → Outcome B) → ((a : A) → NotShort (f a)) → (w : ℕ) → (o >>= f) ≡ refusal 1 w → o ≡ refusal 1 w
unfolding ◌>>=◌
bind_short (result a) f d w e = absurd (d a w e)
bind_short (refusal k v) f d w e = cc

bind_not : {A B : Type 0} (o : Outcome A) (f : A → Outcome B) → NotShort o → ((a : A) → NotShort (f a)) → NotShort (o >>= f)
bind_not o f d g w e = d w (bind_short o f g w e)

-- what is made of a script that reached its end is not short, so the outcome is short where the script is
outcome_short : {A B : Type 0} (a : Answer A) (f : A → Outcome B) → ((x : A) → NotShort (f x)) → (w : ℕ) → outcome_of a f ≡ refusal 1 w → a ≡ short w
unfolding outcome_of
outcome_short (short v) f d w e = cc
outcome_short (fault found) f d w e = absurd (number_not (fault_not found) w e)
outcome_short (whole x) f d w e = absurd (d x w e)

-- a call that is a function of what the script comes to
module _ {A B C : Type 0} (s : Script A) (f : Answer A → Outcome B) (g : Answer A → C) (declined : C) where
  of_answer : ((w : ℕ) → (f (short w) ≡ refusal 1 w) × (g (short w) ≡ declined)) → ((a : Answer A) (w : ℕ) → f a ≡ refusal 1 w → a ≡ short w)
      → Scripted s (λ b. f (run s b)) (λ b. g (run s b)) declined
  of_answer here only = record {
    same = λ b n h e. (ap f e, ap g e);
    at_short = λ b w e. (ap f e ∙ (here w).0, ap g e ∙ (here w).1);
    only_short = λ b w e. only (run s b) w e;
  }

entry_not : {A B : Type 0} (k : Kind) (f : A → B) (xs : List A) (n : ℕ) → NotShort (Calls.entry k f xs n)
unfolding Calls.entry
entry_not k f [] n w e = number_not (absent_not k) w e
entry_not k f (x ∷ xs) zero w e = result_not w e
entry_not k f (x ∷ xs) (suc n) w e = entry_not k f xs n w e

-- the calls of `nitro`
pub list_scripted : (kind : Kind) (pos : ℕ) → Scripted (name_list kind pos) (λ b. outcome_of (run (name_list kind pos) b) result) nothing tt
unfolding outcome_of
list_scripted kind pos =
    of_answer (name_list kind pos) (λ a. outcome_of a result) (λ _. tt {0}) tt (λ w. (refl, refl))
    (λ a w e. outcome_short a _ (λ _. result_not {A = NameList}) w e)

reading_short : (a : Answer Contents) (w : ℕ) → Calls.reading_of a ≡ refusal 1 w → a ≡ short w
unfolding Calls.reading_of
reading_short a w e = outcome_short a _ (λ _. result_not {A = Counts}) w e

-- with anything beside it that stays as it is
pub reading_keeps : {C : Type 0} (kept : C) → Scripted read_tex (λ b. Calls.reading_of (run read_tex b)) (λ b. kept) kept
unfolding Calls.reading_of outcome_of
reading_keeps kept = of_answer read_tex Calls.reading_of (λ _. kept) kept (λ w. (refl, refl)) reading_short

pub reading_scripted : Scripted read_tex (λ b. Calls.reading_of (run read_tex b)) nothing tt
reading_scripted = reading_keeps tt

pub pal_block_scripted : Scripted read_tex (λ b. Calls.reading_of (run read_tex b)) (λ b. Calls.pal_block_of (run read_tex b)) []
unfolding Calls.reading_of Calls.pal_block_of outcome_of
pal_block_scripted = of_answer read_tex Calls.reading_of Calls.pal_block_of [] (λ w. (refl, refl)) reading_short

module _ (n : ℕ) where
  texture_short : (a : Answer Contents) (w : ℕ) → Calls.texture_of n a ≡ refusal 1 w → a ≡ short w
  unfolding Calls.texture_of Calls.texture_entry
  texture_short a w e = outcome_short a _ (λ c. entry_not kinds.Texture _ c.textures n) w e

  palette_short : (a : Answer Contents) (w : ℕ) → Calls.palette_of n a ≡ refusal 1 w → a ≡ short w
  unfolding Calls.palette_of Calls.palette_entry
  palette_short a w e = outcome_short a _ (λ c. entry_not kinds.Palette _ c.palettes n) w e

  pub texture_scripted : Scripted read_tex (λ b. Calls.texture_of n (run read_tex b))
      (λ b. Calls.value_or Calls.no_texture (Calls.texture_of n (run read_tex b))) Calls.no_texture
  unfolding Calls.texture_of Calls.texture_entry outcome_of
  texture_scripted =
      of_answer read_tex (Calls.texture_of n) (λ a. Calls.value_or Calls.no_texture (Calls.texture_of n a)) Calls.no_texture (λ w. (refl, refl))
      texture_short

  pub palette_scripted : Scripted read_tex (λ b. Calls.palette_of n (run read_tex b))
      (λ b. Calls.value_or Calls.no_palette (Calls.palette_of n (run read_tex b))) Calls.no_palette
  unfolding Calls.palette_of Calls.palette_entry outcome_of
  palette_scripted =
      of_answer read_tex (Calls.palette_of n) (λ a. Calls.value_or Calls.no_palette (Calls.palette_of n a)) Calls.no_palette (λ w. (refl, refl))
      palette_short

  pub data1_scripted : Scripted read_tex (λ b. Calls.texture_of n (run read_tex b)) (λ b. Calls.data1_of n (run read_tex b)) []
  unfolding Calls.texture_of Calls.data1_of Calls.texture_entry outcome_of
  data1_scripted = of_answer read_tex (Calls.texture_of n) (Calls.data1_of n) [] (λ w. (refl, refl)) texture_short

  pub data2_scripted : Scripted read_tex (λ b. Calls.texture_of n (run read_tex b)) (λ b. Calls.data2_of n (run read_tex b)) []
  unfolding Calls.texture_of Calls.data2_of Calls.texture_entry outcome_of
  data2_scripted = of_answer read_tex (Calls.texture_of n) (Calls.data2_of n) [] (λ w. (refl, refl)) texture_short

-- what a picture is made from, where it is, and the picture
chosen_not : (choice : Option ℕ) (palettes : List Palette) → NotShort (Sources.chosen_of choice palettes)
unfolding Sources.chosen_of
chosen_not None palettes w e = result_not {A = Option ℕ} w e
chosen_not (Some k) palettes w e = entry_not kinds.Palette _ palettes k w e

cond_not : {A : Type 0} (t : Bool) {x y : Outcome A} → NotShort x → NotShort y → NotShort (cond t x y)
cond_not true d e = d
cond_not false d e = e

ready_not : (word length1 length2 : ℕ) (palette : Option ℕ) → NotShort (ready word length1 length2 palette)
unfolding ready
ready_not word length1 length2 palette =
    cond_not (lacks_palette word palette) (number_not {A = Unit {0}} {k = 9} (λ e. omega (arith, e)))
    (cond_not (eqb (format word) 0) (number_not {A = Unit {0}} {k = 10} (λ e. omega (arith, e)))
    (cond_not (lacks_data word length1 length2) (number_not {A = Unit {0}} {k = 12} (λ e. omega (arith, e))) (result_not {A = Unit {0}})))

decoded_not : (s : Sources.Sources) → NotShort (decoded s)
unfolding decoded
decoded_not s =
    bind_not (ready s.word (length s.parts.data1) (length s.parts.data2) s.palette) _
    (ready_not s.word (length s.parts.data1) (length s.parts.data2) s.palette)
    (λ _. result_not {A = List ℕ})

write_short : (made : Outcome (List ℕ)) (output : List ℕ) (w : ℕ) → write_outcome made output ≡ refusal 1 w → made ≡ refusal 1 w
unfolding write_outcome
write_short (result bytes) output w e =
    absurd
    (cond_not (leb (length bytes) (length output)) (result_not {A = ℕ}) (number_not {A = ℕ} {k = 11} (λ e. omega (arith, e))) w e)
write_short (refusal k v) output w e = cc

-- a block that ends before 60
ends_early : (b : List ℕ) → length b < 60 → run read_tex b ≡ short 60
ends_early b h = (read_header_follows b).at_short 60 ((header_follows b).at_short 60 (bytes_out 0 60 b h))

-- an answer that takes no more of the block than its header
by_header : {A : Type 0} (f : (header : List ℕ) → Answer Contents → Outcome A)
    → ((header : List ℕ) (a : Answer Contents) (w : ℕ) → a ≡ short w → f header a ≡ refusal 1 w)
    → (b : List ℕ) (m : ℕ) → m ≤ length b → run read_tex (take m b) ≡ run read_tex b
    → f (take 60 (take m b)) (run read_tex (take m b)) ≡ f (take 60 b) (run read_tex b)
by_header f at_short b m h e = go (leb 60 m) refl
  where
    go : (t : Bool) → leb 60 m ≡ t → f (take 60 (take m b)) (run read_tex (take m b)) ≡ f (take 60 b) (run read_tex b)
    go true q = rw (e, part_of_prefix 0 60 m b (leb-true 60 m q))
    go false q =
        let r = ends_early (take m b) (rw (length-take-le m b h) (leb-false 60 m q)) in
        at_short (take 60 (take m b)) _ 60 r ∙ sym (at_short (take 60 b) _ 60 (sym e ∙ r))

pub lay_out_scripted : Scripted read_tex (λ b. layout_answer b (run read_tex b)) nothing tt
unfolding layout_answer outcome_of
lay_out_scripted = record {
  same =
      λ b m h e. (
        by_header
            (λ header a. outcome_of a λ c. result (record { header = header_of header; textures = length c.textures; palettes = length c.palettes }))
            (λ header a w q. rw q) b m h e,
        refl,
      );
  at_short = λ b w e. (rw e, refl);
  only_short = λ b w e. outcome_short (run read_tex b) _ (λ _. result_not {A = Layout}) w e;
}

pub pal_place_scripted : Scripted read_tex (λ b. Sources.pal_place_of b (run read_tex b)) nothing tt
unfolding Sources.pal_place_of outcome_of
pal_place_scripted = record {
  same = λ b m h e. (by_header (λ header a. outcome_of a λ c. result (Sources.pal_place_at (header_of header))) (λ header a w q. rw q) b m h e, refl);
  at_short = λ b w e. (rw e, refl);
  only_short = λ b w e. outcome_short (run read_tex b) _ (λ _. result_not {A = Place}) w e;
}

module _ (kind : Kind) where
  rows_at_short : (b : List ℕ) (a : Answer Contents) (w : ℕ) → a ≡ short w → rows_of kind b a ≡ refusal 1 w
  unfolding rows_of outcome_of
  rows_at_short b a w e = rw e

  rows_same : (b : List ℕ) (m : ℕ) → m ≤ length b → run read_tex (take m b) ≡ run read_tex b
      → rows_of kind (take m b) (run read_tex (take m b)) ≡ rows_of kind b (run read_tex b)
  unfolding rows_of outcome_of
  rows_same = by_header (λ header a. outcome_of a λ c. result (rows_in kind (header_of header) c)) (λ header a w q. rw q)

  pub rows_scripted : (output : List ℕ)
      → Scripted read_tex (λ b. write_outcome (rows_of kind b (run read_tex b)) output) (λ b. write_output (rows_of kind b (run read_tex b)) output) output
  unfolding rows_of write_outcome write_output
  rows_scripted output = record {
    same = λ b m h e. let same = rows_same b m h e in (ap (λ made. write_outcome made output) same, ap (λ made. write_output made output) same);
    at_short = λ b w e. rw (rows_at_short b _ w e) (refl, refl);
    only_short =
        λ b w e.
        outcome_short (run read_tex b) _ (λ _. result_not {A = List ℕ}) w (write_short (rows_of kind b (run read_tex b)) output w e);
  }

module _ (n : ℕ) (choice : Option ℕ) where
  sources_short : (a : Answer Contents) (w : ℕ) → Sources.sources_of n choice a ≡ refusal 1 w → a ≡ short w
  unfolding Sources.sources_of
  sources_short a w e =
      outcome_short a _
      (λ c.
      bind_not (Calls.entry kinds.Texture (λ t. t) c.textures n) _ (entry_not kinds.Texture (λ t. t) c.textures n)
      (λ t. bind_not (Sources.chosen_of choice c.palettes) _ (chosen_not choice c.palettes) (λ p. result_not {A = Sources.Sources})))
      w
      e

  places_at_short : (b : List ℕ) (a : Answer Contents) (w : ℕ) → a ≡ short w → Sources.places_of n choice b a ≡ refusal 1 w
  unfolding Sources.places_of Sources.sources_of outcome_of ◌>>=◌
  places_at_short b a w e = rw e

  places_same : (b : List ℕ) (m : ℕ) → m ≤ length b → run read_tex (take m b) ≡ run read_tex b
      → Sources.places_of n choice (take m b) (run read_tex (take m b)) ≡ Sources.places_of n choice b (run read_tex b)
  unfolding Sources.places_of Sources.sources_of outcome_of ◌>>=◌
  places_same =
      by_header (λ header a. Sources.sources_of n choice a >>= λ s. result (Sources.places_at (header_of header) s.word s.palette))
      (λ header a w e. rw e)

  pub locate_scripted : Scripted read_tex (λ b. Sources.places_of n choice b (run read_tex b)) nothing tt
  unfolding Sources.places_of
  locate_scripted = record {
    same = λ b m h e. (places_same b m h e, refl);
    at_short = λ b w e. (places_at_short b _ w e, refl);
    only_short =
        λ b w e.
        sources_short (run read_tex b) w (bind_short (Sources.sources_of n choice (run read_tex b)) _ (λ s. result_not {A = Places}) w e);
  }

  picture_short : (a : Answer Contents) (w : ℕ) → picture_of n choice a ≡ refusal 1 w → a ≡ short w
  unfolding picture_of
  picture_short a w e = sources_short a w (bind_short (Sources.sources_of n choice a) decoded decoded_not w e)

  pub picture_scripted : (output : List ℕ)
      → Scripted read_tex (λ b. write_outcome (picture_of n choice (run read_tex b)) output)
      (λ b. write_output (picture_of n choice (run read_tex b)) output) output
  unfolding picture_of Sources.sources_of outcome_of ◌>>=◌ write_outcome write_output
  picture_scripted output =
      of_answer read_tex (λ a. write_outcome (picture_of n choice a) output) (λ a. write_output (picture_of n choice a) output) output
      (λ w. (refl, refl))
      (λ a w e. picture_short a w (write_short (picture_of n choice a) output w e))

  pam_short : (a : Answer Contents) (w : ℕ) → pam_of n choice a ≡ refusal 1 w → a ≡ short w
  unfolding pam_of ◌>>=◌
  pam_short a w e = go (Sources.sources_of n choice a) refl
    where
      go : (o : Outcome Sources.Sources) → Sources.sources_of n choice a ≡ o → a ≡ short w
      go (result s) q = picture_short a w (bind_short (picture_of n choice a) _ (λ p. result_not {A = List ℕ}) w (rw q at e))
      go (refusal k v) q = let f = rw q at e in sources_short a w (q ∙ cc)

  pub pam_scripted : (output : List ℕ)
      → Scripted read_tex (λ b. write_outcome (pam_of n choice (run read_tex b)) output)
      (λ b. write_output (pam_of n choice (run read_tex b)) output) output
  unfolding pam_of Sources.sources_of outcome_of ◌>>=◌ write_outcome write_output
  pam_scripted output =
      of_answer read_tex (λ a. write_outcome (pam_of n choice a) output) (λ a. write_output (pam_of n choice a) output) output
      (λ w. (refl, refl))
      (λ a w e. pam_short a w (write_short (pam_of n choice a) output w e))
