-- The laws of rows: by the layout that the code has, and where the parts are that a row tells of. Assumes nothing.
use Prim.Native.Nat.{ℕ, ◌+◌, ◌-◌, ◌*◌, ◌≤◌, ◌<◌}
use mathlib.Core.Path.{◌≡◌, refl, sym, ap, ◌∙◌}
use mathlib.Core.Bool.{Bool, true, false}
use mathlib.Core.List.{List, append_assoc}
use native.Mathlib.Nat.{zero-add, suc-mul, mul-le-mul_right}
use native.Mathlib.Numerals.{add-one}
use native.Mathlib.Omega.{arith}
use lib.ListN.{length, take, drop, get_or, length-drop}
use lib.Seq.{drop-drop, length-take-le, sets, sets-eq}
use lib.Dec.{leb, eqb}
use borrow.Author.Tests.{leb-true, eqb-true}
use borrow.Rule.Slice.PartMut.{put_mid}
use Rattle.util.specs.Outcome.{result}
use Rattle.util.specs.Take.{taken_part}
use Rattle.util.proofs.Parts.{part_of_part}
use Rattle.output.specs.Output.{pieces}
use Rattle.errors.specs.Refusal.{refusal_outcome}
use Rattle.errors.specs.declared.Kind.{Kind}
use Rattle.errors.specs.declared.Kind.TheVariants as kinds
use Rattle.errors.specs.declared.Refusal.{Refusal}
use Rattle.errors.proofs.Refusals.{passed_on}
use Rattle.output.proofs.Outputs.{sets_append, outcome_there, output_there, outcome_short, output_short, pieces_length, pieces_listed}
use Rattle.scripts.specs.Script.{whole, run}
use Rattle.info_block.specs.InfoBlock.{NameList, name_at, list_length}
use Rattle.reading.specs.Tex.{Texture, Contents, header_of, read_tex}
use Rattle.reading.specs.Layouts.{layout_of, layout_answer}
use Rattle.reading.proofs.Blocks.{list_within}
use Rattle.rows.specs.ByLayout.{row_length, row, rows_by, texture_row, palette_row}
use Rattle.rows.specs.Rows as Rows
use Rattle.rows.specs.Rows.{place_of, Inside, name_place, data1_place, data2_place, rows_in, rows_of}
use Rattle.layout.specs.Positions.{list_pos, count_of}
use Rattle.layout.specs.declared.Header.{Header}
use Rattle.layout.specs.declared.Layout.{Layout}
use Rattle.scripts.proofs.Runs.{whole_outcome, ended, follows_self, refused}
use Rattle.reading.proofs.Readings.{finished, textures_listed, palettes_listed}
use Rattle.nitro.proofs.Answers.{blank_texture, blank_palette}

-- a row that is copied over the part from the place on
pub row_copied : (rows row : List ℕ) (at n : ℕ) {part : List ℕ} → length row ≡ n → at + n ≤ length rows → part ≡ row
    → put_mid at (at + n - at) rows part ≡ sets rows at row
row_copied rows row at n long room same =
    let n_is : at + n - at ≡ n = omega arith in
    rw (n_is, same, ← long, drop-drop, sets-eq row rows at (rw long room), append_assoc)

-- rows of one length, one behind the other
module _ (kind : Kind) (h : Header) (list : NameList) where
  row_length_lem : (n : ℕ) → length (row kind h list n) ≡ row_length kind
  unfolding texture_row palette_row
  row_length_lem n = by_kind kind
    where
      by_kind : (k : Kind) → length (row k h list n) ≡ row_length k
      by_kind kinds.Texture = refl
      by_kind kinds.Palette = refl

  pub rows_length : (n : ℕ) → length (pieces (row kind h list) n) ≡ n * row_length kind
  rows_length n = pieces_length (row kind h list) (row_length kind) n (λ i h. row_length_lem i)

  pub row_behind : (n : ℕ) (entry : List ℕ) {out : List ℕ} → out ≡ sets entry 0 (pieces (row kind h list) n)
      → sets out (n * row_length kind) (row kind h list n) ≡ sets entry 0 (pieces (row kind h list) (n + 1))
  unfolding pieces
  row_behind n entry e =
      rw (e, add-one, ← rows_length n, ← sets_append entry 0 (pieces (row kind h list) n) (row kind h list n), zero-add)

-- there is room for one that is left
pub row_room : (m n count : ℕ) {len : ℕ} → n < count → count * m ≤ len → n * m + m ≤ len
row_room m n count h r = omega (arith, mul-le-mul_right m h, suc-mul n m, r)

-- as many numbers as the list has bytes, or fewer
entries_few : (kind : Kind) (c : ℕ) → c * row_length kind ≤ list_length kind c
entries_few kinds.Texture c = omega arith
entries_few kinds.Palette c = omega arith

-- the rows of a finished reading, by its lists
module _ (b : List ℕ) {c : Contents} (is : run read_tex b ≡ whole c) where
  rows_laid : (kind : Kind) → rows_by kind b (layout_of b c) ≡ rows_in kind (header_of (take 60 b)) c
  unfolding texture_row palette_row Rows.texture_row Rows.palette_row place_of
  rows_laid kinds.Texture =
      pieces_listed (Rows.texture_row (header_of (take 60 b)) (length c.textures)) blank_texture c.textures 0 _
      (λ n below.
      let t = (textures_listed (header_of (take 60 b)) b (finished b is).textures).at n blank_texture below in
      rw (zero-add, t.word, t.parts.first_length, t.parts.second_length_lem))
  rows_laid kinds.Palette =
      pieces_listed (Rows.palette_row (header_of (take 60 b)) (length c.palettes)) blank_palette c.palettes 0 _
      (λ n below. rw (zero-add, (palettes_listed (header_of (take 60 b)) b (finished b is).palettes).at n blank_palette below))

-- a list has as many numbers in its rows as bytes, or fewer
pub rows_few : (kind : Kind) (c : ℕ) {n : ℕ} → n ≡ list_length kind c → c * row_length kind ≤ n
rows_few kind c e = rw e (entries_few kind c)

-- for the function that writes them
pub ruleset writes_rows = (rows_few, rows_length, outcome_there, output_there, outcome_short, output_short)

-- of the layout of a block that was read: the list lies within the block, and its rows are the reading's
pub record RowsFound (kind : Kind) (b : List ℕ) (l : Layout) : Type 0 where
  pub within : list_pos kind l.header + list_length kind (count_of kind l) ≤ length b
  pub made : result (rows_by kind b l) ≡ rows_of kind b (run read_tex b)

-- what the call makes, by the layout of a block that was read
module _ (kind : Kind) (b : List ℕ) where
  pub rows_refused : (r : Refusal) → refusal_outcome r ≡ layout_answer b (run read_tex b) → refusal_outcome r ≡ rows_of kind b (run read_tex b)
  unfolding layout_answer rows_of
  rows_refused r e = refused _ _ (follows_self _) _ _ r e

  pub rows_made : {l : Layout} → result l ≡ layout_answer b (run read_tex b) → result (rows_by kind b l) ≡ rows_of kind b (run read_tex b)
  unfolding layout_answer rows_of
  rows_made e =
      let o = ended (run read_tex b) (layout_of b) e in
      rw o.gives (ap result (rows_laid b o.is kind) ∙ whole_outcome _ o.is)

  pub rows_found : {l : Layout} → result l ≡ layout_answer b (run read_tex b) → RowsFound kind b l
  rows_found e = record { within = list_within kind b (record { is = e }); made = rows_made e }

pub ruleset makes_rows = (passed_on, rows_refused, rows_made)

-- a part that was taken, by its place
pub place_inside : (b : List ℕ) (p n : ℕ) → Inside b (taken_part p n b) (place_of p (taken_part p n b))
unfolding taken_part place_of
place_inside b p n = go (leb (p + n) (length b)) refl
  where
    go : (t : Bool) → leb (p + n) (length b) ≡ t → Inside b (taken_part p n b) (place_of p (taken_part p n b))
    go false q = rw q (record { within = omega arith; bytes = refl })
    go true q = pick (eqb n 0) refl
      where
        fits : p + n ≤ length b
        fits = leb-true _ _ q

        long : length (take n (drop p b)) ≡ n
        long = length-take-le n (drop p b) (rw length-drop (omega (arith, fits)))

        pick : (t : Bool) → eqb n 0 ≡ t → Inside b (taken_part p n b) (place_of p (taken_part p n b))
        pick false z = rw (q, long, z) (record { within = fits; bytes = refl })
        pick true z = rw (q, long, z) (record { within = omega (arith, eqb-true n 0 z); bytes = rw (eqb-true n 0 z) })

-- a name, by its place
name_inside : (kind : Kind) (pos c n : ℕ) (b : List ℕ) → pos + list_length kind c ≤ length b → n < c
    → Inside b (take 16 (drop (name_at kind c n) (take (list_length kind c) (drop pos b)))) (name_place kind pos c n)
name_inside kind pos c n b within below = record {
  within = omega (arith, within, below);
  bytes = sym (part_of_part (name_at kind c n) 16 pos (list_length kind c) b (omega (arith, below)));
}

-- every place in a row lies within the block, and has its part
module _ (b : List ℕ) {c : Contents} (is : run read_tex b ≡ whole c) (n : ℕ) where
  abbrev texture : Texture
  texture = get_or c.textures n blank_texture

  pub record TextureRow : Type 0 where
    pub name : Inside b texture.name (name_place kinds.Texture (header_of (take 60 b)).texture_off (length c.textures) n)
    pub data1 : Inside b texture.parts.data1 (data1_place (header_of (take 60 b)) texture)
    pub data2 : Inside b texture.parts.data2 (data2_place (header_of (take 60 b)) texture)

  pub texture_row_lem : n < length c.textures → TextureRow
  texture_row_lem below =
      let listed = textures_listed (header_of (take 60 b)) b (finished b is).textures in
      let t = listed.at n blank_texture below in
      record {
        name = rw t.name (name_inside kinds.Texture _ _ n b listed.within below);
        data1 = rw (t.word, t.parts.first) (place_inside b _ _);
        data2 = rw (t.word, t.parts.second) (place_inside b _ _);
      }

  pub palette_row_lem : n < length c.palettes
      → Inside b (get_or c.palettes n blank_palette).name (name_place kinds.Palette (header_of (take 60 b)).palette_off (length c.palettes) n)
  palette_row_lem below =
      let listed = palettes_listed (header_of (take 60 b)) b (finished b is).palettes in
      rw (listed.at n blank_palette below) (name_inside kinds.Palette _ _ n b listed.within below)
