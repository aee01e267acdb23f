-- How large the numbers are that a reading of bytes comes to. Assumes nothing.
use Prim.Native.Nat.{ℕ, zero, suc, ◌+◌, ◌/◌, ◌^◌, ◌≤◌, ◌<◌}
use mathlib.Core.Path.{◌≡◌, refl, sym, ap, ◌∙◌}
use mathlib.Core.Bool.{Bool, true, false, cond}
use mathlib.Core.List.{List, []}
use native.Mathlib.Nat.{min-le_left}
use native.Mathlib.Omega.{arith}
use lib.ListN.{length, take, drop, get_or, length-take}
use lib.Dec.{leb, eqb, lit<, lit≤}
use Rattle.util.specs.Number.{number_at}
use Rattle.util.proofs.Numbers.{number_small, number_in_part}
use Rattle.nds.specs.Params.{format, offset}
use Rattle.nds.specs.Formats.{data_length}
use Rattle.nds.proofs.Sizes.{data_length_lt}
use Rattle.errors.specs.Refusal.{Fault}
use Rattle.scripts.specs.Script.{Script, done, Answer, short, fault, whole, run, bytes_at, expect, each, each_from, ◌>>=◌, ◌>>◌}
use Rattle.info_block.specs.InfoBlock.{NameList, datum_at, list_length, whole_list, name_list, entry_number}
use Rattle.reading.specs.Tex.{Contents, Texture, Palette, header_of, palette_at, read_header, read_pal_block}
use Rattle.layout.specs.Positions.{data_at, second_at}
use Rattle.reading.specs.Tex.{read_second, read_data, read_texture, read_textures, read_palettes, read_tex}
use Rattle.errors.specs.declared.Kind.{Kind}
use Rattle.errors.specs.declared.Kind.TheVariants as kinds
use Rattle.layout.specs.declared.Header.{Header}
use Rattle.scripts.proofs.Runs.{and_then, run_bind, both, bytes_whole, each_length}
use Rattle.info_block.proofs.Lists.{data_small, listed}
use Rattle.reading.proofs.Readings.{header_whole, finished, textures_listed, palettes_listed}

-- a script that is short only of small lengths, by its steps
record Small {A : Type 0} (s : Script A) (b : List ℕ) : Type 0 where
  want : (w : ℕ) → run s b ≡ short w → w < 2 ^ 34

module _ {b : List ℕ} where
  small_done : {A : Type 0} {a : A} → Small (done a) b
  unfolding run
  small_done = record { want = λ w e. absurd (cc) }

  small_bytes : (p n : ℕ) → p + n < 2 ^ 34 → Small (bytes_at p n) b
  unfolding run bytes_at
  small_bytes p n h = record { want = λ w e. go w e (leb (p + n) (length b)) refl }
    where
      go : (w : ℕ) → run (bytes_at p n) b ≡ short w → (t : Bool) → leb (p + n) (length b) ≡ t → w < 2 ^ 34
      go w e true q = absurd (cc (rw q at e))
      go w e false q = let same : p + n ≡ w = cc (rw q at e) in omega (arith, same, h)

  small_bind : {A B : Type 0} {s : Script A} {f : A → Script B} → Small s b → ((a : A) → run s b ≡ whole a → Small (f a) b) → Small (s >>= f) b
  small_bind {A} {s = s} {f} first later = record { want = λ w e. go w (sym (run_bind f b s) ∙ e) (run s b) refl }
    where
      go : (w : ℕ) → and_then (run s b) (λ a. run (f a) b) ≡ short w → (x : Answer A) → run s b ≡ x → w < 2 ^ 34
      go w e (short v) q = let same : v ≡ w = cc (rw q at e) in first.want w (q ∙ ap short same)
      go w e (fault v) q = absurd (cc (rw q at e))
      go w e (whole a) q = (later a q).want w (rw q at e)

  small_expect : {B : Type 0} (test : Bool) (found : Fault) {rest : Script B} → Small rest b → Small (expect test found >> rest) b
  unfolding run expect ◌>>◌ ◌>>=◌
  small_expect true found h = h
  small_expect false found h = record { want = λ w e. absurd (cc) }

  small_each : {A : Type 0} {f : ℕ → Script A} → ((i : ℕ) → Small (f i) b) → (i n : ℕ) → Small (each_from i n f) b
  unfolding each_from
  small_each each i zero = small_done
  small_each each i (suc n) = small_bind (each i) (λ _ _. small_bind (small_each each (suc i) n) (λ _ _. small_done))

module _ (b : List ℕ) (bytes : (k : ℕ) → get_or b k 0 < 256) where
  -- a number in a part of the block, so the count of a list, and so where the list ends
  part_small : (size p q m : ℕ) → p + size ≤ m → number_at size p (take m (drop q b)) < 256 ^ size
  part_small size p q m h = rw (number_in_part size p q m b h) (number_small size (q + p) b bytes)

  count_small : (pos : ℕ) {head : List ℕ} → run (bytes_at pos 2) b ≡ whole head → number_at 1 1 head < 2 ^ 8
  count_small pos e = rw (bytes_whole pos 2 b e).same (part_small 1 1 pos 2 (lit≤ tt))

  small_list : (kind : Kind) (pos : ℕ) → pos < 2 ^ 32 → Small (name_list kind pos) b
  unfolding name_list whole_list
  small_list kind pos h =
      small_bind (small_bytes _ _ (omega arith))
      (λ head e.
      small_bind (small_bytes _ _ (omega (arith, count_small pos e, data_small kind (number_at 1 1 head) refl (count_small pos e))))
      (λ _ _. small_expect _ _ (small_expect _ _ small_done)))

  -- what was read for each entry of a list
  few : {A : Type 0} (kind : Kind) (pos : ℕ) (f : NameList → ℕ → Script A) {xs : List A}
      → run (name_list kind pos >>= λ list. each list.count (f list)) b ≡ whole xs → length xs < 256
  unfolding name_list
  few kind pos f e =
      let o = both (name_list kind pos) _ b e in
      let p = both (bytes_at pos 2) _ b o.first in
      let c = ap (λ (x : NameList). x.count) (listed kind pos (number_at 1 1 p.middle) b p.second).is in
      rw (each_length (f o.middle) b 0 o.middle.count o.second, c) (count_small pos p.first)

  -- the header's fields have at most 4 bytes, which bounds where data lies
  abbrev header : Header
  header = header_of (take 60 b)

  field_small : (p : ℕ) → p + 4 ≤ 60 → number_at 4 p (take 60 b) < 2 ^ 32
  field_small p h = part_small 4 p 0 60 h

  small_second : (w : ℕ) → Small (read_second header w) b
  unfolding read_second second_at header_of
  small_second w = go (eqb (format w) 5)
    where
      go : (t : Bool) → Small (cond t (bytes_at (second_at header w) (data_length w / 2)) (done [])) b
      go true = small_bytes _ _ (omega (arith, field_small 40 (lit≤ tt), data_length_lt w))
      go false = small_done

  data_at_lem : (w : ℕ) → data_at header w < 2 ^ 33
  unfolding data_at header_of
  data_at_lem w = go (eqb (format w) 5)
    where
      go : (t : Bool) → cond t header.compressed1_block_off header.tex_block_off + offset w < 2 ^ 33
      go true = omega (arith, field_small 36 (lit≤ tt))
      go false = omega (arith, field_small 20 (lit≤ tt))

  -- the order of reading
  small_texture : (list : NameList) (i : ℕ) → Small (read_texture header list i) b
  unfolding read_texture read_data
  small_texture list i =
      let w = entry_number kinds.Texture 4 list i in
      small_bind (small_bind (small_bytes _ _ (omega (arith, data_at_lem w, data_length_lt w))) (λ _ _. small_bind (small_second w) (λ _ _. small_done)))
      (λ _ _. small_done)

  small_tex : Small read_tex b
  unfolding read_tex read_header read_pal_block read_textures read_palettes header_of
  small_tex =
      small_bind (small_bind (small_bytes _ _ (lit< tt)) (λ _ _. small_expect _ _ small_done))
      (λ h e.
      rw (header_whole b e)
      (small_bind (small_bytes _ _ (omega (arith, part_small 2 48 0 60 (lit≤ tt), field_small 56 (lit≤ tt))))
      (λ _ _.
      small_bind
      (small_bind (small_list kinds.Texture _ (omega (arith, part_small 2 14 0 60 (lit≤ tt)))) (λ list _. small_each (small_texture list) 0 _))
      (λ _ _.
      small_bind (small_bind (small_list kinds.Palette _ (field_small 52 (lit≤ tt))) (λ _ _. small_each (λ _. small_done) 0 _))
      (λ _ _. small_done)))))

  -- a want is a position of at most 32 bits, an offset of 19 and a length of at most 32
  pub want_small : {w : ℕ} → run read_tex b ≡ short w → w < 2 ^ 34
  want_small {w} e = small_tex.want w e

  module _ {c : Contents} (is : run read_tex b ≡ whole c) where
    -- what a finished reading holds
    pub textures_few : length c.textures < 256
    unfolding read_textures
    textures_few = few kinds.Texture _ (read_texture header) (finished b is).textures

    pub palettes_few : length c.palettes < 256
    unfolding read_palettes
    palettes_few = few kinds.Palette _ (λ list i. done (palette_at list i)) (finished b is).palettes

    pub texture_name_lem : (n : ℕ) (d : Texture) → n < length c.textures → length (get_or c.textures n d).name ≤ 16
    texture_name_lem n d h = rw (((textures_listed header b (finished b is).textures).at n d h).name, length-take) (min-le_left 16 _)

    pub palette_name_lem : (n : ℕ) (d : Palette) → n < length c.palettes → length (get_or c.palettes n d).name ≤ 16
    palette_name_lem n d h = rw ((palettes_listed header b (finished b is).palettes).at n d h, length-take) (min-le_left 16 _)

    pub palette_off_lem : (n : ℕ) (d : Palette) → n < length c.palettes → (get_or c.palettes n d).off < 2 ^ 19
    palette_off_lem n d h =
        let datum = datum_at kinds.Palette (length c.palettes) n in
        rw ((palettes_listed header b (finished b is).palettes).at n d h)
        (omega (arith, part_small 2 datum header.palette_off (list_length kinds.Palette (length c.palettes)) (omega arith)))
