-- 01, "Pixels": "Data beyond the needed length is ignored." Assumes nothing.
use Prim.Native.Nat.{ℕ, ◌+◌, ◌*◌, ◌/◌, ◌%◌, ◌≤◌, ◌<◌}
use mathlib.Core.Path.{◌≡◌, refl, ◌∙◌}
use mathlib.Core.Bool.{Bool, true, false}
use mathlib.Core.List.{List}
use native.Mathlib.Nat.{zero-add, mul_comm, mod-lt, div-lt_iff_lt-mul}
use native.Mathlib.Omega.{arith}
use lib.ListN.{length, take}
use lib.Seq.{get_or-take, length-take-le, take_all}
use lib.Dec.{eqb, ltb}
use borrow.Author.Count.{below_none, below_more}
use borrow.Author.Tests.{le-ltb, ltb-true, ltb-false, eqb-false}
use Rattle.util.specs.Outcome.{◌>>=◌}
use Rattle.util.specs.Number.{number_at}
use Rattle.util.proofs.Numbers.{number_in_part}
use Rattle.nds.specs.Params.{width, height, format}
use Rattle.nds.specs.Formats.{data_length, second_length}
use Rattle.places.specs.Sources.{Sources}
use Rattle.texels.specs.Texels.{texel_bits, block_of, format1, formats2to4, format5, format6, format7}
use Rattle.decode.specs.Pictures.{texel_count, texel, picture_bytes, lacks_palette, ready, decoded, needed}
use Rattle.decode.proofs.Pictures.{eights, length_by, second_by, texel_by}
use Rattle.output.proofs.Outputs.{pieces_same}
use Rattle.compressed.proofs.Rows.{mul_below}

-- a cut at m keeps whether m are there
cut_short : (m : ℕ) (l : List ℕ) → ltb (length (take m l)) m ≡ ltb (length l) m
cut_short m l = go (ltb (length l) m) refl
  where
    go : (t : Bool) → ltb (length l) m ≡ t → ltb (length (take m l)) m ≡ t
    go true e = rw (take_all m l (omega (arith, ltb-true (length l) m e))) e
    go false e = rw (length-take-le m l (ltb-false (length l) m e)) (le-ltb m m (omega arith))

-- a number before the cut
number_cut : (size p m : ℕ) (l : List ℕ) → p + size ≤ m → number_at size p (take m l) ≡ number_at size p l
number_cut size p m l h = number_in_part size p 0 m l h ∙ rw zero-add

-- the block of a texel is one of the picture's
block_below : (w n : ℕ) → n < texel_count w → block_of (width w) (n % width w) (n / width w) + 1 ≤ width w / 4 * (height w / 4)
block_below w n h =
    let e = eights w in
    let z : 0 < width w = omega arith in
    let x : n % width w < width w = mod-lt n z in
    let y : n / width w < height w = (div-lt_iff_lt-mul z).1 (rw (mul_comm (height w) (width w)) h) in
    omega (arith, mul_below (width w / 4) (n / width w / 4) (height w / 4) (omega arith))

-- a texel, by the word's format
module _ (s : Sources) (n : ℕ) (h : n < texel_count s.word) where
  same1 : format s.word ≡ 1 → texel s n ≡ texel (needed s) n
  unfolding format1
  same1 e =
      let l : n < data_length s.word = omega (arith, length_by s.word e) in
      rw (texel_by 1 s e n, texel_by 1 (needed s) e n, get_or-take)

  same2 : format s.word ≡ 2 → texel s n ≡ texel (needed s) n
  unfolding formats2to4 texel_bits
  same2 e =
      let l : n * 2 / 8 < data_length s.word = omega (arith, (eights s.word).texels, length_by s.word e) in
      rw (texel_by 2 s e n, texel_by 2 (needed s) e n, get_or-take)

  same3 : format s.word ≡ 3 → texel s n ≡ texel (needed s) n
  unfolding formats2to4 texel_bits
  same3 e =
      let l : n * 4 / 8 < data_length s.word = omega (arith, (eights s.word).texels, length_by s.word e) in
      rw (texel_by 3 s e n, texel_by 3 (needed s) e n, get_or-take)

  same4 : format s.word ≡ 4 → texel s n ≡ texel (needed s) n
  unfolding formats2to4 texel_bits
  same4 e =
      let l : n * 8 / 8 < data_length s.word = omega (arith, length_by s.word e) in
      rw (texel_by 4 s e n, texel_by 4 (needed s) e n, get_or-take)

  same5 : format s.word ≡ 5 → texel s n ≡ texel (needed s) n
  unfolding format5
  same5 e =
      let w = s.word in
      let b = block_of (width w) (n % width w) (n / width w) in
      let sizes = eights w in
      let l : 4 * b + 4 ≤ data_length w = omega (arith, block_below w n h, length_by w e) in
      let l' : 2 * b + 2 ≤ second_length w = omega (arith, block_below w n h, length_by w e, second_by w e) in
      rw (texel_by 5 s e n, texel_by 5 (needed s) e n, number_cut 4 (4 * b), number_cut 2 (2 * b))

  same6 : format s.word ≡ 6 → texel s n ≡ texel (needed s) n
  unfolding format6
  same6 e =
      let l : n < data_length s.word = omega (arith, length_by s.word e) in
      rw (texel_by 6 s e n, texel_by 6 (needed s) e n, get_or-take)

  same7 : format s.word ≡ 7 → texel s n ≡ texel (needed s) n
  unfolding format7
  same7 e =
      let l : 2 * n + 2 ≤ data_length s.word = omega (arith, length_by s.word e) in
      rw (texel_by 7 s e n, texel_by 7 (needed s) e n, number_cut)

  -- format 0 has none
  same_texel : (format s.word ≡ 0 → ⊥) → texel s n ≡ texel (needed s) n
  same_texel some = below_more P 7 to6 same7 (format s.word) (omega arith) refl
    where
      P : ℕ → Type 0
      P f = format s.word ≡ f → texel s n ≡ texel (needed s) n

      to3 : (f : ℕ) → f < 4 → P f
      to3 = below_more P 3 (below_more P 2 (below_more P 1 (below_more P 0 (below_none P) (λ e. absurd (some e))) same1) same2) same3

      to6 : (f : ℕ) → f < 7 → P f
      to6 = below_more P 6 (below_more P 5 (below_more P 4 to3 same4) same5) same6

same_bytes : (s : Sources) → (format s.word ≡ 0 → ⊥) → picture_bytes s ≡ picture_bytes (needed s)
unfolding picture_bytes
same_bytes s some = pieces_same (texel s) (texel (needed s)) (texel_count s.word) (λ n h. same_texel s n h some)

pub beyond_ignored : (s : Sources) → decoded s ≡ decoded (needed s)
unfolding decoded ready ◌>>=◌
beyond_ignored s = go (lacks_palette s.word s.palette) (eqb (format s.word) 0) refl refl
  where
    go : (l f : Bool) → lacks_palette s.word s.palette ≡ l → eqb (format s.word) 0 ≡ f → decoded s ≡ decoded (needed s)
    go true f hl hf = rw hl
    go false true hl hf = rw (hl, hf)
    go false false hl hf =
        rw (
          cut_short (data_length s.word) s.parts.data1,
          cut_short (second_length s.word) s.parts.data2,
          same_bytes s (eqb-false (format s.word) 0 hf),
        )
