-- The laws of tables of texels as bytes, four for each texel, as a picture has them. Assumes nothing.
use Prim.Native.Nat.{ℕ, ◌*◌, ◌/◌, ◌%◌, ◌^◌, ◌≤◌, ◌<◌}
use mathlib.Core.Path.{◌≡◌, sym, ap, ◌∙◌}
use mathlib.Core.Bool.{Bool}
use mathlib.Core.List.{List}
use native.Mathlib.Omega.{arith}
use lib.ListN.{length, take, drop, get_or, length-drop}
use lib.Seq.{length-take-le}
use Rattle.texels.specs.Texels.{texel_bits, indexed, formats2to4}
use Rattle.texels.proofs.Index.{texel_lt}
use Rattle.texels.proofs.Texels.{indexed_four}
use Rattle.paint.specs.Paint.{painted, Tabled}
use Rattle.paint.proofs.Quads.{Fours, painted_at, painted_room}

-- texel k of a table
abbrev pub pixel_at : (table : List ℕ) (k : ℕ) → List ℕ
pixel_at table k = take 4 (drop (4 * k) table)

-- texel n, where its colour index is taken from the data and the texel from the table
abbrev pub indexed_texel : (bits : ℕ) (data1 table : List ℕ) (n : ℕ) → List ℕ
indexed_texel bits data1 table n = pixel_at table (texel_bits bits data1 n)

-- the rule of the bytes themselves
abbrev pub itself : ℕ → ℕ
itself b = b

-- a table of the first `count` colours
pub record Table (clear0 : Bool) (pal : List ℕ) (p count : ℕ) (table : List ℕ) : Type 0 where
  pub room : 4 * count ≤ length table
  pub at : (k : ℕ) → k < count → take 4 (drop (4 * k) table) ≡ indexed clear0 pal p k

pub table_made : (clear0 : Bool) (pal : List ℕ) (p count : ℕ) (before : List ℕ) {table : List ℕ}
    → table ≡ painted (indexed clear0 pal p) count before → Table clear0 pal p count table
table_made clear0 pal p count before e =
    let fours : Fours (indexed clear0 pal p) count = λ i l. indexed_four clear0 pal p i in
    record {
      room = rw e (painted_room (indexed clear0 pal p) count before fours);
      at = λ k h. rw e (painted_at (indexed clear0 pal p) count k before fours h);
    }

-- formats 2 to 4: the texel is in the table
module _ (bits : ℕ) (texels table : List ℕ) (n : ℕ) where
  pub indexed_texel_lem : (clear0 : Bool) (pal : List ℕ) (p : ℕ) → Table clear0 pal p (2 ^ bits) table
      → formats2to4 bits clear0 texels pal p n ≡ indexed_texel bits texels table n
  unfolding formats2to4
  indexed_texel_lem clear0 pal p t = sym (t.at (texel_bits bits texels n) (texel_lt bits texels n))

  pub indexed_texel_four : 4 * 2 ^ bits ≤ length table → length (indexed_texel bits texels table n) ≡ 4
  indexed_texel_four room =
      let k = texel_bits bits texels n in
      length-take-le 4 (drop (4 * k) table) (simp length-drop (omega (arith, texel_lt bits texels n)))

-- a texel that is its byte's, from a table of the texels of all bytes
module _ (texel : ℕ → List ℕ) (four : (k : ℕ) → length (texel k) ≡ 4) (bytes before : List ℕ) {table : List ℕ} where
  pub byte_texel : Tabled itself bytes → table ≡ painted (λ n. texel (get_or bytes n 0)) 256 before → (texels : List ℕ) (n : ℕ)
      → get_or texels n 0 < 256 → texel (get_or texels n 0) ≡ indexed_texel 8 texels table n
  unfolding texel_bits
  byte_texel all e texels n byte =
      let x = get_or texels n 0 in
      let at : n * 8 / 8 ≡ n = omega arith in
      let whole : n * 8 % 8 ≡ 0 = omega arith in
      let index : get_or texels (n * 8 / 8) 0 / 2 ^ (n * 8 % 8) % 2 ^ 8 ≡ x = rw (at, whole) (omega (arith, byte)) in
      sym
      (rw index
      (rw e (painted_at (λ n. texel (get_or bytes n 0)) 256 x before (λ k l. four (get_or bytes k 0)) byte) ∙ ap texel (all.at x byte)))
