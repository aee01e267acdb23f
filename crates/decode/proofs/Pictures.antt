-- The laws of direct decoding: when it is declined, the sizes of what is decoded, and the texels by format. Assumes nothing.
use Rattle.std.specs.Prelude.{Option}
use Prim.Native.Nat.{ℕ, ◌*◌, ◌/◌, ◌%◌, ◌^◌, ◌≤◌, ◌<◌}
use mathlib.Core.Path.{◌≡◌, refl, sym, ◌∙◌, subst}
use mathlib.Core.Bool.{Bool, true, false, cond}
use mathlib.Core.List.{List, ◌++◌}
use native.Mathlib.Nat.{mul_assoc, mul_comm}
use native.Mathlib.Omega.{arith}
use lib.ListN.{length, drop}
use lib.Dec.{eqb, ltb}
use lib.Pow.{pow_pos}
use borrow.Author.Tests.{eq-eqb, ne_eqb, ltb-true, ltb-false, eqb-false}
use Rattle.util.specs.Outcome.{Outcome, result, refusal, ◌>>=◌}
use Rattle.nds.specs.Params.{width, height, format}
use Rattle.nds.specs.Formats.{bits_per_texel, data_length, second_length}
use Rattle.errors.specs.Refusal.{refusal_outcome}
use Rattle.output.specs.Output.{Writes, pieces, write_outcome, write_output}
use Rattle.errors.specs.declared.Refusal.{Refusal}
use Rattle.errors.proofs.Refusals as refusals
use Rattle.errors.proofs.Refusals.{refusal_not, refusal_any}
use Rattle.output.proofs.Outputs.{writes_fits, writes_refusal, writes_short}
use Rattle.scripts.specs.Script.{Answer}
use Rattle.reading.specs.Tex.{Contents}
use Rattle.places.specs.Sources.{Sources, sources_of}
use Rattle.places.proofs.Sources.{passed_on, located_sources, located_refused}
use Rattle.paint.specs.Paint.{painted}
use Rattle.decode.specs.Pictures.{texel_count, picture_length, texel, texel_in, picture_bytes, lacks_palette, lacks_data, ready, decoded, picture_of}
use Rattle.decode.specs.Checks.{Decodable, lacks_room, checked}
use Rattle.compressed.specs.Blocks.{PictureFits}
use Rattle.paint.proofs.Quads.{length_quads, painted_same}
use Rattle.texels.proofs.Texels.{format1_four, formats2to4_four, format5_four, format6_four, format7_four}

-- a word's sizes: 8 times a number each
pub record Eights (w : ℕ) : Type 0 where
  pub across : ℕ
  pub down : ℕ
  pub wide : width w ≡ 8 * across
  pub high : height w ≡ 8 * down
  pub some : 0 < across
  pub texels : texel_count w ≡ 64 * (across * down)
  pub blocks : width w / 4 * (height w / 4) ≡ 4 * (across * down)

-- the product of two multiples
multiples : (k l a b : ℕ) → k * a * (l * b) ≡ k * l * (a * b)
multiples k l a b = rw (mul_assoc k a (l * b), ← mul_assoc a l b, mul_comm a l, mul_assoc l a b, ← mul_assoc k l (a * b))

pub eights : (w : ℕ) → Eights w
unfolding width height
eights w =
    let a = 2 ^ (w / 2 ^ 20 % 2 ^ 3) in
    let b = 2 ^ (w / 2 ^ 23 % 2 ^ 3) in
    let half : 8 * a / 4 ≡ 2 * a = omega arith in
    let half' : 8 * b / 4 ≡ 2 * b = omega arith in
    record {
      across = a;
      down = b;
      wide = refl;
      high = refl;
      some = pow_pos (w / 2 ^ 20 % 2 ^ 3);
      texels = multiples 8 8 a b;
      blocks = rw (half, half') (multiples 2 2 a b);
    }

-- when a call is declined, in the order of the checks
module _ (w length1 length2 : ℕ) (palette : Option ℕ) (room : ℕ) where
  pub no_palette_lem : lacks_palette w palette ≡ true → refusal 9 0 ≡ checked w length1 length2 palette room
  unfolding checked ready ◌>>=◌
  no_palette_lem e = rw e

  module _ (chosen : lacks_palette w palette ≡ false) where
    pub no_texels : format w ≡ 0 → refusal 10 0 ≡ checked w length1 length2 palette room
    unfolding checked ready ◌>>=◌
    no_texels e = rw (chosen, e)

    module _ (some : format w ≡ 0 → ⊥) where
      pub no_data : lacks_data w length1 length2 ≡ true → refusal 12 0 ≡ checked w length1 length2 palette room
      unfolding checked ready ◌>>=◌
      no_data e = rw (chosen, ne_eqb (format w) 0 some, e)

      module _ (there : lacks_data w length1 length2 ≡ false) where
        pub no_room : lacks_room w room ≡ true → refusal 11 0 ≡ checked w length1 length2 palette room
        unfolding checked ready ◌>>=◌
        no_room e = rw (chosen, ne_eqb (format w) 0 some, there, e)

        pub all_there : lacks_room w room ≡ false → result tt ≡ checked w length1 length2 palette room
        unfolding checked ready ◌>>=◌
        all_there e = rw (chosen, ne_eqb (format w) 0 some, there, e)

  -- and when it is not
  pub record Ready : Type 0 where
    pub decodable : Decodable w length1 length2 room
    pub is : ready w length1 length2 palette ≡ result tt

  pub ready_if : result tt ≡ checked w length1 length2 palette room → Ready
  unfolding checked ready ◌>>=◌
  ready_if e =
      go (lacks_palette w palette) (eqb (format w) 0) (ltb length1 (data_length w)) (ltb length2 (second_length w)) (lacks_room w room)
      refl refl refl refl refl
    where
      no : {A : Type 0} {n v : ℕ} → ◌≡◌ {A = Outcome (Unit {0})} (result tt) (refusal n v) → A
      no q = absurd (cc)

      go : (l f d s r : Bool) → lacks_palette w palette ≡ l → eqb (format w) 0 ≡ f → ltb length1 (data_length w) ≡ d
          → ltb length2 (second_length w) ≡ s → lacks_room w room ≡ r → Ready
      go true f d s r hl hf hd hs hr = no (rw hl at e)
      go false true d s r hl hf hd hs hr = no (rw (hl, hf) at e)
      go false false true s r hl hf hd hs hr = no (rw (hl, hf, hd) at e)
      go false false false true r hl hf hd hs hr = no (rw (hl, hf, hd, hs) at e)
      go false false false false true hl hf hd hs hr = no (rw (hl, hf, hd, hs, hr) at e)
      go false false false false false hl hf hd hs hr = record {
        decodable = record {
          some = omega (arith, eqb-false (format w) 0 hf);
          data1 = ltb-false _ _ hd;
          data2 = ltb-false _ _ hs;
          room = ltb-false _ _ hr;
        };
        is = rw (hl, hf, hd, hs);
      }

-- for the function that checks in this order
pub ruleset checks = (no_palette_lem, no_texels, no_data, no_room, all_there)

-- a picture's length
module _ (s : Sources) where
  texel_four : (n : ℕ) → length (texel s n) ≡ 4
  unfolding texel
  texel_four n =
      either (eqb f 1) _ _ (format1_four _ _ _ _)
      (either (eqb f 2) _ _ (formats2to4_four _ _ _ _ _ _)
      (either (eqb f 3) _ _ (formats2to4_four _ _ _ _ _ _)
      (either (eqb f 4) _ _ (formats2to4_four _ _ _ _ _ _)
      (either (eqb f 5) _ _ (format5_four _ _ _ _ _ _ _) (either (eqb f 6) _ _ (format6_four _ _ _ _) (format7_four _ _))))))
    where
      f : ℕ
      f = format s.word

      either : (t : Bool) (a b : List ℕ) → length a ≡ 4 → length b ≡ 4 → length (cond t a b) ≡ 4
      either true a b ha hb = ha
      either false a b ha hb = hb

  pub length_picture : length (picture_bytes s) ≡ picture_length s.word
  unfolding picture_bytes
  length_picture = length_quads (texel s) (texel_count s.word) (λ i l. texel_four i)

  picture_is : (rest : List ℕ) → pieces (texel s) (texel_count s.word) ++ drop (picture_length s.word) rest
      ≡ picture_bytes s ++ drop (picture_length s.word) rest
  unfolding picture_bytes
  picture_is rest = refl

  is_ready : Outcome (Unit {0})
  is_ready = ready s.word (length s.parts.data1) (length s.parts.data2) s.palette

  decoded_not : {n v : ℕ} → is_ready ≡ refusal n v → decoded s ≡ refusal n v
  unfolding is_ready decoded ◌>>=◌
  decoded_not q = rw q

  decoded_is : is_ready ≡ result tt → decoded s ≡ result (picture_bytes s)
  unfolding is_ready decoded ◌>>=◌
  decoded_is q = rw q

  -- direct decoding, by the answer of the checks
  module _ (out : List ℕ) where
    is_checked : Outcome (Unit {0})
    is_checked = checked s.word (length s.parts.data1) (length s.parts.data2) s.palette (length out)

    checked_not : {n v : ℕ} → is_ready ≡ refusal n v → is_checked ≡ refusal n v
    unfolding is_ready is_checked checked ◌>>=◌
    checked_not q = rw q

    checked_is : is_ready ≡ result tt → is_checked ≡ cond (lacks_room s.word (length out)) (refusal 11 0) (result tt)
    unfolding is_ready is_checked checked ◌>>=◌
    checked_is q = rw q

    declined : (r : Refusal) → refusal_outcome r ≡ is_checked → Writes (decoded s) out (refusal_outcome r) out
    declined r e = go is_ready refl
      where
        fit : is_ready ≡ result tt → (t : Bool) → lacks_room s.word (length out) ≡ t
            → Writes (decoded s) out (refusal_outcome r) out
        fit q false h = absurd (refusal_not r (e ∙ (checked_is q ∙ rw h)))
        fit q true h =
            let short : length out < length (picture_bytes s) = omega (arith, length_picture, ltb-true (length out) (picture_length s.word) h) in
            subst (λ a. Writes (decoded s) out a out) (sym (refusal_any {k = 11} {v = 0} r (e ∙ (checked_is q ∙ rw h))))
            (rw (decoded_is q) (writes_short (picture_bytes s) out short))

        go : (o : Outcome (Unit {0})) → is_ready ≡ o → Writes (decoded s) out (refusal_outcome r) out
        go (refusal n v) q = writes_refusal r out (refusal_any r (e ∙ checked_not q) ∙ sym (decoded_not q))
        go (result tt) q = fit q (lacks_room s.word (length out)) refl

    pub writes_declined : (r : Refusal)
        → refusal_outcome r ≡ checked s.word (length s.parts.data1) (length s.parts.data2) s.palette (length out)
        → Writes (decoded s) out (refusal_outcome r) out
    unfolding is_checked
    writes_declined r e = declined r e

    pub writes_decoded : ready s.word (length s.parts.data1) (length s.parts.data2) s.palette ≡ result tt
        → picture_length s.word ≤ length out
        → Writes (decoded s) out (result (picture_length s.word)) (painted (texel s) (texel_count s.word) out)
    unfolding is_ready painted
    writes_decoded is room =
        rw (decoded_is is)
        (writes_fits
        (record {
          fits = omega (arith, length_picture);
          ends = sym length_picture;
          holds = rw length_picture (picture_is out);
        }))

-- what a decoding answers and leaves where the checks pass
module _ (s : Sources) (out : List ℕ) (passed : result tt ≡ checked s.word (length s.parts.data1) (length s.parts.data2) s.palette (length out)) where
  written : Writes (decoded s) out (result (picture_length s.word)) (painted (texel s) (texel_count s.word) out)
  written =
      let r : Ready s.word (length s.parts.data1) (length s.parts.data2) s.palette (length out) = ready_if _ _ _ _ _ passed in
      writes_decoded s out r.is r.decodable.room

  pub answer_decoded : write_outcome (decoded s) out ≡ result (picture_length s.word)
  answer_decoded = sym written.outcome

  pub output_decoded : write_output (decoded s) out ≡ painted (texel s) (texel_count s.word) out
  output_decoded = sym written.output

-- for the function that decodes
pub ruleset decodes = (ready_if, answer_decoded, output_decoded)

-- texels by format
module _ (f : ℕ) (s : Sources) (is : format s.word ≡ f) where
  pub texel_by : (n : ℕ) → texel s n ≡ texel_in f s n
  unfolding texel
  texel_by n = rw is

-- the lengths of the data, by format
module _ (w : ℕ) where
  pub length_by : {f : ℕ} → format w ≡ f → data_length w ≡ texel_count w * bits_per_texel f / 8
  unfolding data_length
  length_by e = rw e

  pub second_by : format w ≡ 5 → second_length w ≡ data_length w / 2
  unfolding second_length
  second_by e = rw (eq-eqb (format w) 5 e)

-- whole bytes
pub data_bits : (w : ℕ) → 8 * data_length w ≡ texel_count w * bits_per_texel (format w)
unfolding data_length
data_bits w =
    let m = (eights w).across * (eights w).down in
    let bits = bits_per_texel (format w) in
    let all : texel_count w * bits ≡ 8 * (8 * m * bits) = rw ((eights w).texels, ← mul_assoc 8 (8 * m) bits, ← mul_assoc 8 8 m) refl in
    omega (arith, all)

-- what the loops of format 5 ask for, of a texture that can be decoded
pub picture_fits : {w length1 length2 output : ℕ} → Decodable w length1 length2 output → format w ≡ 5
    → PictureFits (width w) (height w) length1 length2 output
picture_fits {w = w} d is =
    let e = eights w in
    let there : texel_count w * bits_per_texel 5 ≡ 8 * data_length w = rw is at (sym (data_bits w)) in
    record {
      fours = omega (arith, e.wide);
      rows = omega (arith, e.high);
      some = omega (arith, e.wide, e.some);
      data1 = omega (arith, e.blocks, e.texels, there, d.data1);
      data2 = omega (arith, e.blocks, e.texels, there, length_by w is, second_by w is, d.data2);
      room = omega (arith, d.room);
    }

-- the texels of a format, written
module _ (s : Sources) (n : ℕ) (out : List ℕ) where
  by_format : (f : ℕ) → f ≡ format s.word → painted (texel s) n out ≡ painted (texel_in f s) n out
  by_format f is = painted_same _ _ out (λ i. sym (texel_by f s (sym is) i)) refl

  pub painted1 : 1 ≡ format s.word → painted (texel s) n out ≡ painted (texel_in 1 s) n out
  painted1 = by_format 1

  pub painted2 : 2 ≡ format s.word → painted (texel s) n out ≡ painted (texel_in 2 s) n out
  painted2 = by_format 2

  pub painted3 : 3 ≡ format s.word → painted (texel s) n out ≡ painted (texel_in 3 s) n out
  painted3 = by_format 3

  pub painted4 : 4 ≡ format s.word → painted (texel s) n out ≡ painted (texel_in 4 s) n out
  painted4 = by_format 4

  pub painted5 : 5 ≡ format s.word → painted (texel s) n out ≡ painted (texel_in 5 s) n out
  painted5 = by_format 5

  pub painted6 : 6 ≡ format s.word → painted (texel s) n out ≡ painted (texel_in 6 s) n out
  painted6 = by_format 6

  pub painted7 : 7 ≡ format s.word → painted (texel s) n out ≡ painted (texel_in 7 s) n out
  painted7 = by_format 7

-- for the function that chooses between them
pub ruleset formats = (data_bits, painted1, painted2, painted3, painted4, painted5, painted6, painted7)

-- a picture from a block, by what was located
module _ (n : ℕ) (choice : Option ℕ) (a : Answer Contents) where
  pub picture_found : {s : Sources} → result s ≡ sources_of n choice a → picture_of n choice a ≡ decoded s
  unfolding picture_of ◌>>=◌
  picture_found e = rw (← e)

  pub picture_refused : (r : Refusal) → refusal_outcome r ≡ sources_of n choice a → refusal_outcome r ≡ picture_of n choice a
  unfolding picture_of
  picture_refused r e = passed_on r (sources_of n choice a) _ e

-- for the call
pub ruleset located = (refusals.passed_on, located_refused, located_sources, picture_found, picture_refused)
