-- How many lengths a reading tests: at most 6 and two for each texture. Assumes nothing.
use Prim.Native.Nat.{ℕ, zero, suc, ◌+◌, ◌*◌, ◌≤◌}
use mathlib.Core.Path.{◌≡◌, refl, ap, ◌∙◌, subst}
use mathlib.Core.Bool.{Bool, true, false}
use mathlib.Core.List.{List, [], ◌∷◌, ◌++◌}
use native.Mathlib.Nat.{zero-mul, mul-suc}
use native.Mathlib.Omega.{arith}
use lib.ListN.{length, take, drop, replicate}
use lib.Dec.{leb, ltb, eqb}
use borrow.Author.Tests.{le-leb}
use Rattle.util.specs.Number.{number_at}
use Rattle.util.proofs.Numbers.{number_in_part}
use Rattle.nds.specs.Params.{width, height, format}
use Rattle.nds.specs.Formats.{data_length}
use Rattle.errors.specs.Refusal.{Fault}
use Rattle.errors.specs.declared.Kind.{Kind}
use Rattle.errors.specs.declared.Kind.TheVariants as kinds
use Rattle.scripts.specs.Script.{Script, done, refuse, get, whole, run, ends, records, bytes_at, expect, each_from, ◌>>=◌, ◌>>◌}
use Rattle.info_block.specs.InfoBlock.{NameList, whole_list, name_list}
use Rattle.reading.specs.Tex.{has_stamp, header_of, palette_at, read_header, read_pal_block, read_second, read_data, read_texture}
use Rattle.layout.specs.Positions.{data_at, second_at}
use Rattle.reading.specs.Tex.{read_textures, read_palettes, read_tex}
use Rattle.scripts.proofs.Runs.{both, bytes_whole}
use Rattle.info_block.proofs.Lists.{listed}
use Rattle.reading.proofs.Readings.{header_there, header_whole}
use Rattle.stream.specs.Fetch.{short_answers, texture_count}

-- no more are larger than all before than there are
records_most : (m : ℕ) (xs : List ℕ) → records m xs ≤ length xs
unfolding records
records_most m [] = omega arith
records_most m (x ∷ xs) = go (ltb m x) refl (records_most x xs) (records_most m xs)
  where
    go : (t : Bool) → ltb m x ≡ t → records x xs ≤ length xs → records m xs ≤ length xs → records m (x ∷ xs) ≤ length (x ∷ xs)
    go true e a b = rw e (omega (arith, a))
    go false e a b = rw e (omega (arith, b))

-- a script tests at most k lengths
record Tests {A : Type 0} (b : List ℕ) (s : Script A) (k : ℕ) : Type 0 where
  most : length (ends s b) ≤ k

module _ (b : List ℕ) where
  -- by its steps
  tests_bind : {A B : Type 0} (s : Script A) (f : A → Script B) (k : ℕ) → ((a : A) → run s b ≡ whole a → Tests b (f a) k)
      → length (ends (s >>= f) b) ≤ length (ends s b) + k
  unfolding run ends ◌>>=◌
  tests_bind (done a) f k h = omega (arith, (h a refl).most)
  tests_bind (refuse found) f k h = omega arith
  tests_bind (get p n next) f k h = go (leb (p + n) (length b)) refl (λ g. tests_bind (next (take n (drop p b))) f k g)
    where
      go : (t : Bool) → leb (p + n) (length b) ≡ t
          → (((a : _) → run (next (take n (drop p b))) b ≡ whole a → Tests b (f a) k)
          → length (ends (next (take n (drop p b)) >>= f) b) ≤ length (ends (next (take n (drop p b))) b) + k)
          → length (ends (get p n next >>= f) b) ≤ length (ends (get p n next) b) + k
      go true e later = rw e (omega (arith, later (λ a q. h a (rw e q))))
      go false e later = rw e (omega arith)

  tests_then : {A B : Type 0} {s : Script A} {f : A → Script B} (j k : ℕ) → Tests b s j → ((a : A) → run s b ≡ whole a → Tests b (f a) k)
      → Tests b (s >>= f) (j + k)
  tests_then {s = s} {f = f} j k h g = record { most = omega (arith, h.most, tests_bind s f k g) }

  tests_done : {A : Type 0} {a : A} (k : ℕ) → Tests b (done a) k
  unfolding ends
  tests_done k = record { most = omega arith }

  tests_bytes : (p n : ℕ) → Tests b (bytes_at p n) 1
  unfolding ends bytes_at
  tests_bytes p n = record { most = go (leb (p + n) (length b)) refl }
    where
      go : (t : Bool) → leb (p + n) (length b) ≡ t → length (ends (bytes_at p n) b) ≤ 1
      go true e = rw e (omega arith)
      go false e = rw e (omega arith)

  tests_expect : {B : Type 0} (test : Bool) (found : Fault) {rest : Script B} {k : ℕ} → Tests b rest k → Tests b (expect test found >> rest) k
  unfolding ends expect ◌>>=◌ ◌>>◌
  tests_expect true found h = h
  tests_expect false found h = record { most = omega arith }

  tests_each : {A : Type 0} (i n k : ℕ) {f : ℕ → Script A} → ((i : ℕ) → Tests b (f i) k) → Tests b (each_from i n f) (k * n)
  unfolding each_from
  tests_each i zero k h = tests_done (k * 0)
  tests_each i (suc n) k {f} h =
      subst (λ (m : ℕ). Tests b (each_from i (suc n) f) m) total
      (tests_then k (k * n + 0) (h i) (λ _ _. tests_then (k * n) 0 (tests_each (suc i) n k h) (λ _ _. tests_done 0)))
    where
      total : k + (k * n + 0) ≡ k * suc n
      total = rw mul-suc (omega arith)

  -- the header
  tests_header : Tests b read_header 1
  unfolding read_header
  tests_header = tests_then 1 0 (tests_bytes _ _) (λ _ _. tests_expect _ _ (tests_done 0))

  -- a list
  tests_list : (kind : Kind) (pos c : ℕ) → Tests b (whole_list kind pos c) 1
  unfolding whole_list
  tests_list kind pos c = tests_then 1 0 (tests_bytes _ _) (λ _ _. tests_expect _ _ (tests_expect _ _ (tests_done 0)))

  tests_names : (kind : Kind) (pos : ℕ) → Tests b (name_list kind pos) 2
  unfolding name_list
  tests_names kind pos = tests_then 1 1 (tests_bytes _ _) (λ _ _. tests_list kind pos _)

  -- a texture's data, with the header of the block
  tests_second : (w : ℕ) → Tests b (read_second (header_of (take 60 b)) w) 1
  unfolding read_second
  tests_second w = go (eqb (format w) 5) refl
    where
      go : (t : Bool) → eqb (format w) 5 ≡ t → Tests b (read_second (header_of (take 60 b)) w) 1
      go true e = rw e (tests_bytes _ _)
      go false e = rw e (tests_done 1)

  tests_data : (w : ℕ) → Tests b (read_data (header_of (take 60 b)) w) 2
  unfolding read_data
  tests_data w = tests_then 1 1 (tests_bytes _ _) (λ _ _. tests_then 1 0 (tests_second w) (λ _ _. tests_done 0))

  tests_texture : (list : NameList) (i : ℕ) → Tests b (read_texture (header_of (take 60 b)) list i) 2
  unfolding read_texture
  tests_texture list i = tests_then 2 0 (tests_data _) (λ _ _. tests_done 0)

  -- the count of a list that was read
  list_count : (kind : Kind) (pos : ℕ) {list : NameList} → run (name_list kind pos) b ≡ whole list
      → (pos + 2 ≤ length b) × (list.count ≡ number_at 1 (pos + 1) b)
  unfolding name_list
  list_count kind pos e =
      let o = both (bytes_at pos 2) _ b e in
      let head = bytes_whole pos 2 b o.first in (
        head.within,
        ap (λ (l : NameList). l.count) (listed kind pos _ b o.second).is
            ∙ (ap (number_at 1 1) head.same ∙ number_in_part 1 1 pos 2 b (omega arith)),
      )

  -- a texture list that was read has the block's texture count
  module _ (start : 60 ≤ length b) (stamp : has_stamp (take 60 b) ≡ true)
      (pal : (header_of (take 60 b)).pal_block_off + 8 * (header_of (take 60 b)).pal_block_len_shr_3 ≤ length b) where
    count_read : {list : NameList} → run (name_list kinds.Texture (header_of (take 60 b)).texture_off) b ≡ whole list
        → list.count ≡ texture_count b
    unfolding texture_count
    count_read e =
        let l = list_count kinds.Texture (header_of (take 60 b)).texture_off e in
        rw (le-leb 60 (length b) start, stamp, le-leb _ _ pal, le-leb _ _ l.0) l.1

    tests_textures : Tests b (read_textures (header_of (take 60 b))) (2 + 2 * texture_count b)
    unfolding read_textures
    tests_textures =
        tests_then 2 (2 * texture_count b) (tests_names _ _)
        (λ list e.
        subst (λ (t : ℕ). Tests b (each_from 0 list.count (read_texture (header_of (take 60 b)) list)) (2 * t)) (count_read e)
        (tests_each 0 list.count 2 (tests_texture list)))

  tests_palettes : Tests b (read_palettes (header_of (take 60 b))) 2
  unfolding read_palettes
  tests_palettes =
      tests_then 2 0 (tests_names _ _)
      (λ list _.
      subst (λ (m : ℕ). Tests b (each_from 0 list.count (λ i. done (palette_at list i))) m) (zero-mul list.count)
      (tests_each 0 list.count 0 (λ i. tests_done 0)))

  -- all
  tests_all : Tests b read_tex (6 + 2 * texture_count b)
  unfolding read_tex read_pal_block
  tests_all = record { most = omega (arith, steps.most) }
    where
      steps : Tests b read_tex (1 + (1 + (2 + 2 * texture_count b + (2 + 0))))
      steps =
          tests_then 1 _ tests_header
          (λ h head.
          rw (header_whole b head)
          (tests_then 1 _ (tests_bytes _ _)
          (λ _ pal.
          tests_then _ _ (tests_textures (header_there b head).0 (header_there b head).1 (bytes_whole _ _ b pal).within)
          (λ _ _. tests_then 2 0 tests_palettes (λ _ _. tests_done 0)))))

pub bound : (b : List ℕ) → short_answers b ≤ 6 + 2 * texture_count b
unfolding short_answers
bound b = omega (arith, records_most 0 (ends read_tex b), (tests_all b).most)

-- Two blocks in which each length tested is larger than all before. The first has 100 bytes, no texture and no palette.
unfoldable pub rising0 : List ℕ
rising0 =
    (0x54 ∷ 0x45 ∷ 0x58 ∷ 0x30 ∷ [])  -- 0 to 3: the stamp `TEX0`
    ++ replicate 10 0  -- 4 to 13
    ++ (68 ∷ 0 ∷ [])  -- 14, 15: `texture_off`
    ++ replicate 32 0  -- 16 to 47
    ++ (1 ∷ 0 ∷ [])  -- 48, 49: `pal_block_len_shr_3`
    ++ replicate 2 0  -- 50, 51
    ++ (84 ∷ 0 ∷ 0 ∷ 0 ∷ [])  -- 52 to 55: `palette_off`
    ++ (60 ∷ 0 ∷ 0 ∷ 0 ∷ [])  -- 56 to 59: `pal_block_off`
    ++ replicate 8 0  -- 60 to 67: the palette block
    ++ replicate 12 0  -- 68 to 79: the texture list, with no texture
    ++ (8 ∷ 0 ∷ [])  -- 80, 81: its datum size
    ++ replicate 2 0  -- 82, 83
    ++ replicate 12 0  -- 84 to 95: the palette list, with no palette
    ++ (4 ∷ 0 ∷ [])  -- 96, 97: its datum size
    ++ replicate 2 0  -- 98, 99

-- The second has 152 bytes, one texture of format 5, 8 by 8, and no palette.
unfoldable pub rising1 : List ℕ
rising1 =
    (0x54 ∷ 0x45 ∷ 0x58 ∷ 0x30 ∷ [])  -- 0 to 3: the stamp `TEX0`
    ++ replicate 10 0  -- 4 to 13
    ++ (68 ∷ 0 ∷ [])  -- 14, 15: `texture_off`
    ++ replicate 20 0  -- 16 to 35
    ++ (112 ∷ 0 ∷ 0 ∷ 0 ∷ [])  -- 36 to 39: `compressed1_block_off`
    ++ (128 ∷ 0 ∷ 0 ∷ 0 ∷ [])  -- 40 to 43: `compressed2_block_off`
    ++ replicate 4 0  -- 44 to 47
    ++ (1 ∷ 0 ∷ [])  -- 48, 49: `pal_block_len_shr_3`
    ++ replicate 2 0  -- 50, 51
    ++ (136 ∷ 0 ∷ 0 ∷ 0 ∷ [])  -- 52 to 55: `palette_off`
    ++ (60 ∷ 0 ∷ 0 ∷ 0 ∷ [])  -- 56 to 59: `pal_block_off`
    ++ replicate 8 0  -- 60 to 67: the palette block
    ++ (0 ∷ 1 ∷ [])  -- 68, 69: the texture list's dummy and count
    ++ replicate 14 0  -- 70 to 83
    ++ (8 ∷ 0 ∷ [])  -- 84, 85: its datum size
    ++ replicate 2 0  -- 86, 87
    ++ (0 ∷ 0 ∷ 0 ∷ 0x14 ∷ [])  -- 88 to 91: the word
    ++ replicate 20 0  -- 92 to 111
    ++ replicate 24 0  -- 112 to 135: first and second data
    ++ replicate 12 0  -- 136 to 147: the palette list, with no palette
    ++ (4 ∷ 0 ∷ [])  -- 148, 149: its datum size
    ++ replicate 2 0  -- 150, 151

rising0_counts : (texture_count rising0 ≡ 0) × (short_answers rising0 ≡ 6)
unfolding short_answers texture_count rising0 number_at run ends records bytes_at expect each_from ◌>>=◌ ◌>>◌ whole_list name_list header_of read_header
    read_pal_block read_textures read_palettes read_tex
rising0_counts = (refl, refl)

rising1_counts : (texture_count rising1 ≡ 1) × (short_answers rising1 ≡ 8)
unfolding short_answers texture_count rising1 width height data_length number_at run ends records bytes_at expect each_from ◌>>=◌ ◌>>◌
    whole_list name_list header_of data_at second_at read_header read_pal_block read_second read_data read_texture read_textures read_palettes read_tex
rising1_counts = (refl, refl)

-- so the bound is reached without a texture and with one
pub bound_reached : (most : ℕ → ℕ) → ((block : List ℕ) → short_answers block ≤ most (texture_count block)) → (6 ≤ most 0) × (8 ≤ most 1)
bound_reached most holds =
    (rw (rising0_counts.0, rising0_counts.1) at (holds rising0), rw (rising1_counts.0, rising1_counts.1) at (holds rising1))
