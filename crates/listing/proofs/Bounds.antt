-- No listing of bytes is longer than 22,211 bytes: twice the line that opens a list, and the lines of 255 textures and 255 palettes, with
-- the longest names, numbers and words. Assumes nothing.
use Prim.Native.Nat.{ℕ, suc, ◌+◌, ◌*◌, ◌^◌, ◌≤◌, ◌<◌}
use mathlib.Core.Path.{◌≡◌, refl}
use mathlib.Core.Bool.{Bool, true, false, cond}
use mathlib.Core.List.{List, [], ◌∷◌, map}
use native.Mathlib.Nat.{add-zero, add-suc, suc-add, suc-mul}
use native.Mathlib.Omega.{arith}
use lib.ListN.{length, get_or, length-append, length-map}
use lib.Dec.{ltb, lit<}
use Rattle.util.specs.Outcome.{result, refusal}
use Rattle.output.specs.Output.{pieces_from}
use Rattle.errors.specs.Refusal.{Fault, bad_stamp, bad_dummy, bad_size, fault_number}
use Rattle.errors.specs.declared.Kind.TheVariants.{Texture, Palette}
use Rattle.scripts.specs.Script.{Answer, short, fault, whole, run, outcome_of}
use Rattle.reading.specs.Tex.{Contents, read_tex}
use Rattle.nitro.specs.Calls.{texture_record, palette_record}
use Rattle.reading.proofs.Sizes.{want_small, textures_few, palettes_few, texture_name_lem, palette_name_lem, palette_off_lem}
use Rattle.text.specs.Text.{ascii, decimal, line}
use Rattle.text.proofs.Decimals.{decimal_length}
use Rattle.refused.specs.Refused.{refused_line}
use Rattle.refused.proofs.Lengths.{refused_length}
use Rattle.lines.specs.Lines.{texture_line, palette_line}
use Rattle.lines.proofs.Lengths.{texture_length, palette_length}
use Rattle.listing.specs.Listing.{headed, lists_of, printed, listing_outcome, listing_text}

-- the line of a refusal
refused_fits : (number returned : ℕ) → number < 100 → returned < 2 ^ 34 → length (refused_line number returned) ≤ 22211
refused_fits number returned h k = omega (arith, refused_length number returned (omega arith) (omega arith))

-- the lines of a list, each of which is short
module _ {A B : Type 0} (make : A → B) (line_of : ℕ → B → List ℕ) (most : ℕ) where
  lines_length : (k : ℕ) (xs : List A) → ((i : ℕ) (d : A) → i < length xs → length (line_of (k + i) (make (get_or xs i d))) ≤ most)
      → length (pieces_from k line_of (map make xs)) ≤ length xs * most
  unfolding pieces_from
  lines_length k [] h = omega arith
  lines_length k (x ∷ xs) h =
      let first : length (line_of k (make x)) ≤ most = rw add-zero at (h 0 x (omega arith)) in
      let later = lines_length (suc k) xs (λ i d q. rw (add-suc, ← suc-add) at (h (suc i) d (omega arith))) in
      rw (length-append, suc-mul) (omega arith)

-- and with the line that opens it
heading_length : (word : List ℕ) (count : ℕ) → length word ≡ 8 → count < 256 → length (line (word ∷ decimal count ∷ [])) ≤ 13
unfolding line ascii
heading_length word count e h = simp length-append (omega (arith, decimal_length count 2 (omega arith)))

module _ (b : List ℕ) (bytes : (k : ℕ) → get_or b k 0 < 256) where
  lists_length : {c : Contents} → run read_tex b ≡ whole c → length (lists_of c) ≤ 22211
  unfolding lists_of headed ascii
  lists_length {c} is =
      let textures = lines_length (λ t. texture_record t.name t.word) texture_line 59 0 c.textures
      (λ i d q. texture_length _ _ (omega (arith, textures_few b bytes is)) (texture_name_lem b bytes is i d q)) in
      let palettes = lines_length (λ p. palette_record p.name p.off) palette_line 28 0 c.palettes
      (λ i d q. palette_length _ _ (omega (arith, palettes_few b bytes is)) (palette_name_lem b bytes is i d q) (palette_off_lem b bytes is i d q)) in
      simp (length-append, length-map)
      (omega (
        arith,
        textures,
        palettes,
        textures_few b bytes is,
        palettes_few b bytes is,
        heading_length (ascii "textures") (length c.textures) refl (textures_few b bytes is),
        heading_length (ascii "palettes") (length c.palettes) refl (palettes_few b bytes is),
      ))

  fault_length : (found : Fault) → length (refused_line (fault_number found) 0) ≤ 22211
  fault_length bad_stamp = refused_fits _ _ (lit< tt) (lit< tt)
  fault_length (bad_dummy Texture) = refused_fits _ _ (lit< tt) (lit< tt)
  fault_length (bad_dummy Palette) = refused_fits _ _ (lit< tt) (lit< tt)
  fault_length (bad_size Texture) = refused_fits _ _ (lit< tt) (lit< tt)
  fault_length (bad_size Palette) = refused_fits _ _ (lit< tt) (lit< tt)

  pub listing_fits : length (listing_text b) ≤ 22211
  unfolding listing_text listing_outcome outcome_of
  listing_fits = go (ltb 65536 (length b)) (run read_tex b) refl
    where
      go : (t : Bool) (a : Answer Contents) → run read_tex b ≡ a
          → length (printed (cond t (refusal 13 0) (outcome_of a λ c. result (lists_of c)))) ≤ 22211
      go true a e = refused_fits 13 0 (lit< tt) (lit< tt)
      go false (short needed) e = refused_fits 1 needed (lit< tt) (want_small b bytes e)
      go false (fault found) e = fault_length found
      go false (whole c) e = lists_length e
