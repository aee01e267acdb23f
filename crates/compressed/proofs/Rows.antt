-- The laws of rows of a picture: bytes stored to them, blocks of 4 by 4 texels written to four of them, and the texels of such blocks.
-- Assumes nothing.
use Prim.Native.Nat.{ℕ, zero, suc, ◌+◌, ◌*◌, ◌/◌, ◌%◌, ◌-◌, ◌^◌, ◌≤◌, ◌<◌}
use mathlib.Core.Path.{◌≡◌, refl, sym, ap, ◌∙◌, subst}
use mathlib.Core.List.{List, [], ◌∷◌, ◌++◌}
use native.Mathlib.Nat.{add-zero, add-suc, suc-mul, zero-mul, mul_comm, mul_left_comm, mul-add}
use native.Mathlib.Nat.{mod-eq_of_lt, div-eq_of_lt, mul-add-mod_self_left, mul-add-mod_self_right, mul-add-div, mul-add-div_right}
use native.Mathlib.Omega.{arith}
use lib.ListN.{length, take, drop, get_or, set, length-append, length-drop, take-append-drop}
use lib.Seq.{take-set-le, take-set-lt, drop-set-lt, drop-set-add, length-take-le, take-add, sets, length-sets}
use borrow.Rule.Slice.PartMut.{mid_of, put_mid}
use lib.Pow.{shr-shr}
use borrow.Author.Count.{below_more}
use Rattle.std.proofs.lemmas.List.{get_or-take, get_or-drop}
use Rattle.util.specs.Number.{number_at}
use Rattle.util.proofs.Numbers.{number_one, number_add}
use Rattle.output.proofs.Outputs.{wrote_length, wrote_more, wrote_all, pieces_same, pieces_add}
use Rattle.texels.specs.Texels.{block_color, format5}
use Rattle.output.specs.Output.{pieces}
use Rattle.paint.specs.Paint.{painted, pixel_at, TexelTable}
use Rattle.compressed.specs.Blocks.{row_bytes, byte_of, row_of, BlockPut, compressed_texel, rows_texel}
use Rattle.paint.proofs.Bytes as Bytes
use Rattle.paint.proofs.Quads.{Fours, length_quads, Painting, paint_none, put_part, paint_part, painted_at}
use Rattle.texels.proofs.Texels.{below_four, block_four}
use Rattle.texels.proofs.Index.{row_below}

-- a part of a list before, behind and around the bytes stored
take_sets_before : (n : ℕ) (l : List ℕ) (p : ℕ) (vs : List ℕ) → n ≤ p → take n (sets l p vs) ≡ take n l
take_sets_before n l p [] h = refl
take_sets_before n l p (v ∷ vs) h = take_sets_before n (set l p v) (suc p) vs (omega arith) ∙ take-set-le n l p v h

drop_sets_behind : (n : ℕ) (l : List ℕ) (p : ℕ) (vs : List ℕ) → p + length vs ≤ n → drop n (sets l p vs) ≡ drop n l
drop_sets_behind n l p [] h = refl
drop_sets_behind n l p (v ∷ vs) h = drop_sets_behind n (set l p v) (suc p) vs (omega arith) ∙ drop-set-lt n l p v (omega arith)

take_sets_within : (n : ℕ) (l : List ℕ) (p : ℕ) (vs : List ℕ) → p + length vs ≤ n → take n (sets l p vs) ≡ sets (take n l) p vs
take_sets_within n l p [] h = refl
take_sets_within n l p (v ∷ vs) h =
    take_sets_within n (set l p v) (suc p) vs (omega arith) ∙ rw (take-set-lt n l p v (omega arith))

drop_sets_within : (n : ℕ) (l : List ℕ) (p : ℕ) (vs : List ℕ) → drop n (sets l (n + p) vs) ≡ sets (drop n l) p vs
drop_sets_within n l p [] = refl
drop_sets_within n l p (v ∷ vs) = rw (← add-suc) (drop_sets_within n (set l (n + p) v) (suc p) vs ∙ rw drop-set-add)

module _ (width : ℕ) where
  length_row : (i : ℕ) (l : List ℕ) → 4 * (i * width) + 4 * width ≤ length l → length (row_of width i l) ≡ 4 * width
  length_row i l h = length-take-le _ _ (simp length-drop (omega arith))

  -- bytes stored from texel x of row j on, within the row
  module _ (j x : ℕ) (vs l : List ℕ) (h : 4 * x + length vs ≤ 4 * width) where
    pub row_here : row_of width j (sets l (4 * (j * width + x)) vs) ≡ sets (row_of width j l) (4 * x) vs
    row_here =
        let e : 4 * (j * width + x) ≡ 4 * (j * width) + 4 * x = omega arith in
        rw (e, drop_sets_within (4 * (j * width)) l (4 * x) vs) (take_sets_within (4 * width) (drop (4 * (j * width)) l) (4 * x) vs h)

    pub row_before : (i : ℕ) → i < j → row_of width i (sets l (4 * (j * width + x)) vs) ≡ row_of width i l
    row_before i m =
        let q = 4 * (j * width + x) - 4 * (i * width) in
        let e : 4 * (j * width + x) ≡ 4 * (i * width) + q = omega (arith, row_below width i j m) in
        ap (λ k. row_of width i (sets l k vs)) e
        ∙ (ap (take (4 * width)) (drop_sets_within (4 * (i * width)) l q vs)
        ∙ take_sets_before (4 * width) (drop (4 * (i * width)) l) q vs (omega (arith, row_below width i j m)))

    pub row_behind : (i : ℕ) → j < i → row_of width i (sets l (4 * (j * width + x)) vs) ≡ row_of width i l
    row_behind i m = ap (take (4 * width)) (drop_sets_behind (4 * (i * width)) l _ vs (omega (arith, row_below width j i m)))

    pub rows_rest : j < 4 → drop (4 * (4 * width)) (sets l (4 * (j * width + x)) vs) ≡ drop (4 * (4 * width)) l
    rows_rest m = drop_sets_behind (4 * (4 * width)) l (4 * (j * width + x)) vs (omega (arith, row_below width j 4 m))

-- a block of which the first i rows are written: the invariant of the loop over its rows
pub record BlockPutting (width x : ℕ) (rows : ℕ → List ℕ) (i : ℕ) (entry now : List ℕ) : Type 0 where
  pub within : i ≤ 4
  pub done : (r : ℕ) → r < i → row_of width r now ≡ sets (row_of width r entry) (4 * x) (rows r)
  pub left : (r : ℕ) → i ≤ r → row_of width r now ≡ row_of width r entry
  pub rest : drop (4 * (4 * width)) now ≡ drop (4 * (4 * width)) entry
  pub same : length now ≡ length entry

pub block_none : (width x : ℕ) (rows : ℕ → List ℕ) (entry : List ℕ) → BlockPutting width x rows 0 entry entry
block_none width x rows entry =
    record { within = omega arith; done = λ r l. absurd (omega arith); left = λ r l. refl; rest = refl; same = refl }

module _ {width x : ℕ} {rows : ℕ → List ℕ} {i : ℕ} {entry now : List ℕ} (p : BlockPutting width x rows i entry now) where
  -- one more row
  pub block_more : i < 4 → 4 * x + length (rows i) ≤ 4 * width
      → BlockPutting width x rows (i + 1) entry (sets now (4 * (i * width + x)) (rows i))
  block_more l h = record {
    within = omega arith;
    done =
        below_more (λ r. row_of width r (sets now (4 * (i * width + x)) (rows i)) ≡ sets (row_of width r entry) (4 * x) (rows r)) i
        (λ r m. row_before width i x (rows i) now h r m ∙ p.done r m)
        (row_here width i x (rows i) now h ∙ rw (p.left i (omega arith)));
    left = λ r m. row_behind width i x (rows i) now h r (omega arith) ∙ p.left r (omega arith);
    rest = rows_rest width i x (rows i) now h l ∙ p.rest;
    same = rw length-sets p.same;
  }

  -- all four
  pub block_all : 4 ≤ i → BlockPut width x rows entry now
  block_all h = record { row = λ r l. p.done r (omega arith); rest = p.rest }

-- for the function that writes a block
pub ruleset block_rows = (row_below, block_none, row_here, row_before, row_behind, rows_rest, block_all)

-- texel c of those that a row's byte chooses from four texels
abbrev pub chosen : (table : List (List ℕ)) (row c : ℕ) → List ℕ
chosen table row c = pixel_at table (row / 2 ^ (2 * c) % 2 ^ 2)

abbrev pub FourTexels : List (List ℕ) → Type 0
FourTexels table = Fours (pixel_at table) 4

pub row_fours : (table : List (List ℕ)) (row : ℕ) → FourTexels table → Fours (chosen table row) 4
row_fours table row four c l = four (row / 2 ^ (2 * c) % 2 ^ 2) (omega arith)

pub length_row_bytes : (table : List (List ℕ)) (row : ℕ) → FourTexels table → length (row_bytes table row) ≡ 16
unfolding row_bytes
length_row_bytes table row four = length_quads (chosen table row) 4 (row_fours table row four)

-- the same of a table of texels as bytes, as a picture has them
abbrev pub chosen_of_bytes : (table : List ℕ) (row c : ℕ) → List ℕ
chosen_of_bytes table row c = Bytes.pixel_at table (row / 2 ^ (2 * c) % 2 ^ 2)

pub row_fours_of_bytes : (table : List ℕ) (row : ℕ) → 16 ≤ length table → Fours (chosen_of_bytes table row) 4
row_fours_of_bytes table row h c l =
    let k = row / 2 ^ (2 * c) % 2 ^ 2 in
    length-take-le 4 (drop (4 * k) table) (simp length-drop (omega arith))

pub length_row_of_bytes : (table : List ℕ) (row : ℕ) → 16 ≤ length table → length (pieces (chosen_of_bytes table row) 4) ≡ 16
length_row_of_bytes table row h = length_quads (chosen_of_bytes table row) 4 (row_fours_of_bytes table row h)

pub colors_four : (pal_block : List ℕ) (p extra : ℕ) {table : List (List ℕ)} → TexelTable (block_color pal_block p extra) 4 table → FourTexels table
colors_four pal_block p extra t k h = rw (t.at k h) (block_four pal_block p extra k h)

-- a row of four texels, written to the part of an output from a on
pub row_put : (g : ℕ → List ℕ) (a k : ℕ) (l : List ℕ) {part : List ℕ} → k ≡ length l - a → a + 16 ≤ length l
    → part ≡ painted g 4 (take k (drop a l)) → length part ≡ length (take k (drop a l))
    → (take a l ++ (part ++ drop k (drop a l)) ≡ sets l a (pieces g 4)) × (length (pieces g 4) ≡ 16)
unfolding painted
row_put g a k l {part} e h is kept =
    let whole = length-take-le k (drop a l) (simp length-drop (omega arith)) in
    let sized : length (pieces g 4) ≡ 16 = omega (arith, simp (length-append, length-drop) at (sym (ap length is))) in
    (rw is (put_part g 4 a k l e h sized), sized)

-- four rows of a picture with texels f, of which the first i blocks are written: the invariant of the loop over the blocks
pub record BlocksDone (width : ℕ) (f : ℕ → List ℕ) (i : ℕ) (entry now : List ℕ) : Type 0 where
  pub within : 4 * i ≤ width
  pub row : (r : ℕ) → r < 4 → Painting (λ x. f (r * width + x)) (4 * i) (row_of width r entry) (row_of width r now)
  pub rest : drop (4 * (4 * width)) now ≡ drop (4 * (4 * width)) entry
  pub same : length now ≡ length entry

pub blocks_none : (width : ℕ) (f : ℕ → List ℕ) (entry : List ℕ) → BlocksDone width f 0 entry entry
blocks_none width f entry = record { within = omega arith; row = λ r l. paint_none _ _; rest = refl; same = refl }

-- rows of texels are the texels in order
rows_texels : (width : ℕ) (f : ℕ → List ℕ) (l : List ℕ) (n : ℕ)
    → ((r : ℕ) → r < n → row_of width r l ≡ pieces (λ x. f (r * width + x)) width) → take (4 * (n * width)) l ≡ pieces f (n * width)
unfolding pieces
rows_texels width f l zero e = rw zero-mul
rows_texels width f l (suc n) e =
    let k : 4 * (suc n * width) ≡ 4 * (n * width) + 4 * width = omega (arith, suc-mul n width) in
    ap (λ m. take m l) k
    ∙ (take-add (4 * (n * width)) (4 * width) l
    ∙ (rw (e n (omega arith), rows_texels width f l n (λ r m. e r (omega arith))) (sym (pieces_add f (n * width) width))
    ∙ ap (pieces f) (sym (suc-mul n width))))

module _ {width : ℕ} {f : ℕ → List ℕ} {i : ℕ} {entry now : List ℕ} (d : BlocksDone width f i entry now)
    (room : 4 * (4 * width) ≤ length entry) where
  full_row : (r : ℕ) → r < 4 → length (row_of width r entry) ≡ 4 * width
  full_row r l = length_row width r entry (omega (arith, row_below width r 4 l))

  -- one more block
  pub blocks_more : (rows : ℕ → List ℕ) {later : List ℕ} → BlockPut width (4 * i) rows now later → 4 * i + 4 ≤ width
      → ((r : ℕ) → r < 4 → rows r ≡ pieces (λ c. f (r * width + (4 * i + c))) 4) → ((r : ℕ) → r < 4 → length (rows r) ≡ 16)
      → length later ≡ length now → BlocksDone width f (i + 1) entry later
  blocks_more rows {later} p fits same sized kept = record {
    within = omega arith;
    row = row;
    rest = p.rest ∙ d.rest;
    same = kept ∙ d.same;
  }
    where
      row : (r : ℕ) → r < 4 → Painting (λ x. f (r * width + x)) (4 * (i + 1)) (row_of width r entry) (row_of width r later)
      row r l =
          let n : 4 * (i + 1) ≡ 4 * i + 4 = omega arith in
          let e : 4 * (4 * i) + length (rows r) ≡ 4 * (4 * i + 4) = omega (arith, sized r l) in
          rw (p.row r l, n, pieces_add (λ x. f (r * width + x)) (4 * i) 4, ← same r l, ← e)
          (wrote_more (d.row r l) (rows r) (omega (arith, full_row r l, sized r l)))

  -- all of them
  pub blocks_all : width ≤ 4 * i → now ≡ painted f (4 * width) entry
  unfolding painted
  blocks_all h = sym (take-append-drop (4 * (4 * width)) now) ∙ rw (d.rest, rows_texels width f now 4 row)
    where
      row : (r : ℕ) → r < 4 → row_of width r now ≡ pieces (λ x. f (r * width + x)) width
      row r l =
          subst (λ k. row_of width r now ≡ pieces (λ x. f (r * width + x)) k) (omega arith)
          (wrote_all (d.row r l) (omega (arith, full_row r l)))

-- the number of four bytes
module _ (b : List ℕ) (p : ℕ) (small : (i : ℕ) → get_or b i 0 < 256) (h : p + 4 ≤ length b) where
  number_four : number_at 4 p b ≡ get_or b p 0 + 256 * get_or b (p + 1) 0 + 65536 * get_or b (p + 2) 0 + 16777216 * get_or b (p + 3) 0
  number_four =
      omega (
        arith,
        number_one p b (omega arith),
        number_one (p + 1) b (omega arith),
        number_one (p + 2) b (omega arith),
        number_one (p + 3) b (omega arith),
        number_add p b 1 1 (omega arith),
        number_add p b 2 1 (omega arith),
        number_add p b 3 1 (omega arith),
      )

  -- byte r of it
  number_byte : (r : ℕ) → r < 4 → number_at 4 p b / 2 ^ (8 * r) % 256 ≡ get_or b (p + r) 0
  number_byte =
      let s0 = small p in
      let s1 = small (p + 1) in
      let s2 = small (p + 2) in
      let s3 = small (p + 3) in
      let n = number_four in
      below_four (λ r. number_at 4 p b / 2 ^ (8 * r) % 256 ≡ get_or b (p + r) 0)
      (rw add-zero (omega arith)) (omega arith) (omega arith) (omega arith)

  -- bits 2c and 2c + 1 of byte r
  number_bits : (r c : ℕ) → r < 4 → c < 4 → number_at 4 p b / 2 ^ (2 * (4 * r + c)) % 2 ^ 2 ≡ get_or b (p + r) 0 / 2 ^ (2 * c) % 2 ^ 2
  number_bits r c hr hc =
      let e : 2 * (4 * r + c) ≡ 8 * r + 2 * c = omega arith in
      rw (e, ← shr-shr (number_at 4 p b) (8 * r) (2 * c), ← number_byte r hr) (low (number_at 4 p b / 2 ^ (8 * r)) c hc)
    where
      low : (m c : ℕ) → c < 4 → m / 2 ^ (2 * c) % 2 ^ 2 ≡ m % 256 / 2 ^ (2 * c) % 2 ^ 2
      low m = below_four (λ c. m / 2 ^ (2 * c) % 2 ^ 2 ≡ m % 256 / 2 ^ (2 * c) % 2 ^ 2) (omega arith) (omega arith) (omega arith) (omega arith)

-- a byte of a part of the data
pub bytes_there : (l : List ℕ) (a n r : ℕ) → r < n → byte_of (take n (drop a l)) r ≡ byte_of l (a + r)
bytes_there l a n r h = get_or-take n (drop a l) r 0 h ∙ get_or-drop a l r 0

-- row r of block i of row `row` of blocks, which is block b
module _ (width row i r b : ℕ) (data1 data2 pal_block : List ℕ) (p : ℕ) (hr : r < 4) (h : 4 * i + 4 ≤ width) (is : b ≡ width / 4 * row + i) where
  -- its texel c, texel 4r + c of the block
  block_texel_lem : (c : ℕ) → c < 4
      → rows_texel width data1 data2 pal_block p row (r * width + (4 * i + c))
      ≡ block_color pal_block p (number_at 2 (2 * b) data2) (number_at 4 (4 * b) data1 / 2 ^ (2 * (4 * r + c)) % 2 ^ 2)
  unfolding format5
  block_texel_lem c hc =
      let z : 0 < width = omega arith in
      let l : 4 * i + c < width = omega arith in
      let x : (r * width + (4 * i + c)) % width ≡ 4 * i + c = mul-add-mod_self_right r width (4 * i + c) ∙ mod-eq_of_lt l in
      let y : (r * width + (4 * i + c)) / width ≡ r = mul-add-div_right z r (4 * i + c) ∙ (ap (λ k. r + k) (div-eq_of_lt l) ∙ add-zero r) in
      let x4 : (4 * i + c) / 4 ≡ i = omega arith in
      let xm : (4 * i + c) % 4 ≡ c = omega arith in
      let y4 : (4 * row + r) / 4 ≡ row = omega arith in
      let ym : (4 * row + r) % 4 ≡ r = omega arith in
      rw (x, y, x4, xm, y4, ym, is)

  -- its bytes are those that its byte chooses from the block's colours
  pub row_texels : (extra : ℕ) {table : List (List ℕ)} → extra ≡ number_at 2 (2 * b) data2 → TexelTable (block_color pal_block p extra) 4 table
      → ((k : ℕ) → get_or data1 k 0 < 256) → 4 * b + 4 ≤ length data1
      → row_bytes table (byte_of data1 (4 * b + r)) ≡ pieces (λ c. rows_texel width data1 data2 pal_block p row (r * width + (4 * i + c))) 4
  unfolding row_bytes
  row_texels extra {table} e t bytes fits =
      pieces_same (chosen table (byte_of data1 (4 * b + r))) (λ c. rows_texel width data1 data2 pal_block p row (r * width + (4 * i + c))) 4
      (λ c l.
      let k = byte_of data1 (4 * b + r) / 2 ^ (2 * c) % 2 ^ 2 in
      t.at k (omega arith) ∙ rw (e, ← number_bits data1 (4 * b) bytes fits r c hr l) (sym (block_texel_lem c l)))

  -- the same of a table of texels as bytes
  pub row_texels_bytes : (extra : ℕ) (entry : List ℕ) {table : List ℕ}
      → extra ≡ number_at 2 (2 * b) data2 → table ≡ painted (block_color pal_block p extra) 4 entry
      → ((k : ℕ) → get_or data1 k 0 < 256) → 4 * b + 4 ≤ length data1
      → pieces (chosen_of_bytes table (byte_of data1 (4 * b + r))) 4
      ≡ pieces (λ c. rows_texel width data1 data2 pal_block p row (r * width + (4 * i + c))) 4
  row_texels_bytes extra entry {table} e t bytes fits =
      pieces_same _ (λ c. rows_texel width data1 data2 pal_block p row (r * width + (4 * i + c))) 4
      (λ c l.
      let k = byte_of data1 (4 * b + r) / 2 ^ (2 * c) % 2 ^ 2 in
      ap (λ m. Bytes.pixel_at m k) t
      ∙ (painted_at (block_color pal_block p extra) 4 k entry (block_four pal_block p extra) (omega arith)
      ∙ (rw (e, ← number_bits data1 (4 * b) bytes fits r c hr l) (sym (block_texel_lem c l)))))

-- n numbers behind n · i of them, and 4n behind n · 4i
pub mul_below : (n i k : ℕ) → i < k → n * i + n ≤ n * k
mul_below n i k h = omega (arith, mul_comm n i, mul_comm n k, row_below n i k h)

pub mul_next : (n i : ℕ) → n * (4 * (i + 1)) ≡ n * (4 * i) + 4 * n
mul_next n i = omega (arith, mul_left_comm n 4 (i + 1), mul_left_comm n 4 i, mul-add n i 1)

-- four rows behind 4i of them, and no more than all
pub band_below : (width height i : ℕ) → i < height / 4 → 4 * (height / 4) ≡ height → 16 * (width * i) + 16 * width ≤ 4 * (width * height)
band_below width height i h fours =
    omega (arith, mul_below width i (height / 4) h, mul_left_comm width 4 (height / 4), ap (λ k. width * k) fours)

-- a texel of the rows from row 4i on
pub rows_texel_lem : (width : ℕ) (data1 data2 pal_block : List ℕ) (p i n : ℕ) → 0 < width
    → rows_texel width data1 data2 pal_block p i n ≡ compressed_texel width data1 data2 pal_block p (width * (4 * i) + n)
rows_texel_lem width data1 data2 pal_block p i n h = rw (mul-add-mod_self_left width (4 * i) n, mul-add-div h (4 * i) n)

-- no texels
pub pieces_none : (f : ℕ → List ℕ) (n : ℕ) → n ≡ 0 → pieces f n ≡ []
unfolding pieces
pieces_none f n e = rw e

-- all rows
pub rows_all : (width height i : ℕ) → i ≤ height / 4 → height / 4 ≤ i → 4 * (height / 4) ≡ height → width * (4 * i) ≡ width * height
rows_all width height i most least fours = let all : 4 * i ≡ height = omega arith in rw all

-- four rows more of a picture
module _ (width height : ℕ) (data1 data2 pal_block : List ℕ) (p i : ℕ) {entry now part : List ℕ} where
  pub band_more : Painting (compressed_texel width data1 data2 pal_block p) (width * (4 * i)) entry now
      → part ≡ painted (rows_texel width data1 data2 pal_block p i) (4 * width) (mid_of (16 * (width * i)) (length now - 16 * (width * i)) now)
      → length part ≡ length (mid_of (16 * (width * i)) (length now - 16 * (width * i)) now)
      → 0 < width → i < height / 4 → 4 * (height / 4) ≡ height → 4 * (width * height) ≤ length entry
      → Painting (compressed_texel width data1 data2 pal_block p) (width * (4 * (i + 1))) entry
      (put_mid (16 * (width * i)) (length now - 16 * (width * i)) now part)
  band_more w is kept some below fours room =
      let at : 16 * (width * i) ≡ 4 * (width * (4 * i)) = omega (arith, mul_left_comm width 4 i) in
      rw (mul_next width i)
      (paint_part _ (rows_texel width data1 data2 pal_block p i) _ _ _ _ w at refl
      (omega (arith, band_below width height i below fours, wrote_length w))
      is kept (λ j _. rows_texel_lem width _ _ _ p i j some))
