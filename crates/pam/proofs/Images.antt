-- The laws of an image: a picture that is written behind its header. Assumes nothing.
use Rattle.std.specs.Prelude.{Option}
use Prim.Native.Nat.{ℕ, ◌+◌, ◌-◌, ◌≤◌, ◌<◌, min}
use mathlib.Core.Path.{◌≡◌, refl, sym, ◌∙◌, ap}
use mathlib.Core.List.{List, ◌++◌, append_assoc}
use native.Mathlib.Nat.{zero-add, mul-pos}
use native.Mathlib.Omega.{arith}
use lib.ListN.{length, take, drop, length-append}
use lib.Seq.{drop_at, length-take-le, sets, sets-eq, length-sets}
use lib.Dec.{lit<}
use lib.Pow.{pow_pos}
use borrow.Rule.Slice.PartMut.{mid_of, put_mid, mid_len, put_same}
use Rattle.util.specs.Outcome.{Outcome, result, refusal, ◌>>=◌}
use Rattle.nds.specs.Params.{width, height}
use Rattle.errors.specs.Refusal.{refusal_outcome}
use Rattle.errors.specs.declared.Refusal.{Refusal}
use Rattle.errors.proofs.Refusals as refusals
use Rattle.output.specs.Output.{write_outcome, write_output, Writes}
use Rattle.output.proofs.Outputs.{writes_fits, refused_keeps}
use Rattle.scripts.specs.Script.{Answer, run}
use Rattle.reading.specs.Tex.{Contents, read_tex}
use Rattle.places.specs.Sources.{Sources, sources_of, sources_at, places_of}
use Rattle.places.specs.declared.Places.{Places}
use Rattle.places.proofs.Sources.{passed_on, located_sources, located_refused}
use Rattle.decode.specs.Pictures.{texel_count, picture_length, decoded, picture_of}
use Rattle.decode.proofs.Pictures.{length_picture}
use Rattle.text.specs.Put.{Room, Put}
use Rattle.text.proofs.Puts.{PartWrote, part_wrote}
use Rattle.pam.specs.Pam.{header_text, headed, image_of, pam_of}

-- a picture's length
pub decoded_length : (s : Sources) {picture : List ℕ} → decoded s ≡ result picture → length picture ≡ picture_length s.word
unfolding decoded ◌>>=◌
decoded_length s e = grind (arith, length_picture)

texels_some : (w : ℕ) → 0 < texel_count w
unfolding width height
texels_some w = mul-pos (mul-pos {m = 8} (lit< tt) (pow_pos _)) (mul-pos {m = 8} (lit< tt) (pow_pos _))

pub picture_some : (s : Sources) (picture : List ℕ) → decoded s ≡ result picture → 0 < length picture
picture_some s picture e = omega (arith, decoded_length s e, texels_some s.word)

-- bytes stored, and others before them from the start on
sets_before : (first second entry : List ℕ) → length first + length second ≤ length entry
    → sets (sets entry (length first) second) 0 first ≡ (first ++ second) ++ drop (length (first ++ second)) entry
sets_before first second entry h =
    let before = take (length first) entry in
    let rest = drop (length first + length second) entry in
    let n : length before ≡ length first = length-take-le (length first) entry (omega arith) in
    sets-eq first (sets entry (length first) second) 0 (rw length-sets (omega arith))
    ∙ rw (zero-add, sets-eq second entry (length first) h, append_assoc before second rest)
    (ap (λ (l : List ℕ). first ++ l) (drop_at before (second ++ rest) (length first) n) ∙ rw (append_assoc, length-append))

-- a header before a picture that stands behind its place
pub header_before : (header picture entry : List ℕ) (at : ℕ) → at ≡ length header → length header + length picture ≤ length entry
    → sets (put_mid at (length entry - at) entry (picture ++ drop (length picture) (mid_of at (length entry - at) entry))) 0 header
    ≡ (header ++ picture) ++ drop (length (header ++ picture)) entry
header_before header picture entry at is h =
    let room : length picture ≤ length (mid_of at (length entry - at) entry) = omega (arith, mid_len at (length entry) entry (omega arith), is, h) in
    let wrote = part_wrote picture entry at (record { fits = omega (arith, is, h) }) (writes_fits (record { fits = room; ends = refl; holds = refl })) in
    rw (wrote.output, is) (sets_before header picture entry h)

-- a header in front of what a call writes to the output's part behind it
module _ (header entry : List ℕ) (made : Outcome (List ℕ)) {at : ℕ} (is : at ≡ min (length header) (length entry)) where
  part_length : length (mid_of at (length entry - at) entry) ≡ length entry - at
  part_length = mid_len at (length entry) entry (omega arith)

  -- a refusal is passed on, and no byte has changed
  pub headed_refused : {part : List ℕ} (r : Refusal) → Writes made (mid_of at (length entry - at) entry) (refusal_outcome r) part
      → Writes (headed header made) entry (refusal_outcome r) (put_mid at (length entry - at) entry part)
  unfolding write_outcome write_output
  headed_refused {part} r w = rw (refused_keeps w, put_same) (go made w.outcome)
    where
      go : (made : Outcome (List ℕ)) → refusal_outcome r ≡ write_outcome made (mid_of at (length entry - at) entry)
          → Writes (headed header made) entry (refusal_outcome r) entry
      go (refusal k v) e = grind (arith, e)
      go (result picture) e = grind (arith, e, part_length, length-append)

  -- what was written, where it was: the header has room before it
  pub record Behind (len : ℕ) : Type 0 where
    pub picture : List ℕ
    pub made_is : made ≡ result picture
    pub counted : len ≡ length picture
    pub fits : length picture ≤ length entry - at

  pub behind : {len : ℕ} {part : List ℕ} → Writes made (mid_of at (length entry - at) entry) (result len) part → Behind len
  unfolding write_outcome
  behind {len} w = go made refl
    where
      go : (o : Outcome (List ℕ)) → made ≡ o → Behind len
      go (refusal k v) q = absurd (cc (rw q at w.outcome))
      go (result picture) q = record { picture = picture; made_is = q; counted = grind (arith, w, part_length); fits = grind (arith, w, part_length) }

  -- a picture has some bytes, so that where it has room behind the header the header has its room before it
  module _ {len : ℕ} {part : List ℕ} (w : Writes made (mid_of at (length entry - at) entry) (result len) part) (b : Behind len)
      (some : 0 < length b.picture) where
    header_whole : at ≡ length header
    header_whole = omega (arith, is, b.fits)

    both_fit : length header + length b.picture ≤ length entry
    both_fit = omega (arith, is, b.fits)

    wrote : PartWrote b.picture entry at (result len) part
    wrote = part_wrote b.picture entry at (record { fits = omega (arith, header_whole, both_fit) }) (rw b.made_is at w)

    pub header_room : Room header (put_mid at (length entry - at) entry part) 0
    header_room = record { fits = rw (wrote.output, length-sets) (omega (arith, both_fit)) }

    module _ {exit : List ℕ} {end : ℕ} (p : Put header (put_mid at (length entry - at) entry part) 0 exit end) where
      pub headed_count : end + len ≤ length entry
      headed_count = omega (arith, p.behind, b.counted, both_fit)

      pub headed_written : Writes (headed header made) entry (result (end + len)) exit
      headed_written =
          rw b.made_is
          (writes_fits
          (record {
            fits = rw length-append both_fit;
            ends = rw length-append (omega (arith, p.behind, b.counted));
            holds = p.output ∙ rw (wrote.output, header_whole) (sets_before header b.picture entry both_fit);
          }))

-- for the function that puts both
pub ruleset images = (refusals.passed_on, put_same, mid_len, header_before, picture_some, length-append)

then_headed : (header : List ℕ) (made : Outcome (List ℕ)) → (made >>= λ picture. result (header ++ picture)) ≡ headed header made
unfolding ◌>>=◌
then_headed header (result picture) = refl
then_headed header (refusal k v) = refl

-- an image, by what a picture is made from
module _ (n : ℕ) (choice : Option ℕ) (a : Answer Contents) where
  pub image_refused : (r : Refusal) → refusal_outcome r ≡ sources_of n choice a → refusal_outcome r ≡ pam_of n choice a
  unfolding pam_of
  image_refused r e = passed_on r (sources_of n choice a) _ e

  pub image_found : {s : Sources} → result s ≡ sources_of n choice a → pam_of n choice a ≡ headed (header_text s.word) (picture_of n choice a)
  unfolding pam_of ◌>>=◌
  image_found {s} e = rw (← e) (then_headed (header_text s.word) (picture_of n choice a))

-- and by what was located
module _ (n : ℕ) (choice : Option ℕ) (b : List ℕ) where
  pub not_located : (r : Refusal) → refusal_outcome r ≡ places_of n choice b (run read_tex b) → refusal_outcome r ≡ pam_of n choice (run read_tex b)
  not_located r e = image_refused n choice _ r (located_refused n choice b r _ e)

  pub image_located : {places : Places} → result places ≡ places_of n choice b (run read_tex b)
      → pam_of n choice (run read_tex b) ≡ image_of (sources_at b places)
  unfolding pam_of picture_of ◌>>=◌
  image_located found = grind (arith, located_sources)

-- for the call
pub ruleset located = (refusals.passed_on, not_located, image_located)
