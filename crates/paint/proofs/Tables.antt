-- The laws of a palette written out as a table of texels, and of the texels that are taken from it. Assumes nothing.
use Prim.Native.Nat.{ℕ, zero, suc, ◌+◌, ◌*◌, ◌-◌, ◌/◌, ◌%◌, ◌^◌, ◌≤◌, ◌<◌}
use mathlib.Core.Path.{◌≡◌, refl, sym, ◌∙◌}
use mathlib.Core.Bool.{Bool, true, false}
use mathlib.Core.List.{List, ◌++◌}
use native.Mathlib.Nat.{add-zero, zero-add, not-suc-le-zero}
use native.Mathlib.Omega.{arith}
use lib.ListN.{length, take, drop, get_or, set, replicate, length-set}
use lib.Seq.{get_or-set_same, get_or-set_other}
use lib.Dec.{ltb}
use lib.Bits.{bit_and, and_mask}
use borrow.Author.Tests.{ltb-true, ltb-false}
use Rattle.std.proofs.lemmas.List.{get_or-drop}
use Rattle.std.specs.Fn.{Mut, Called}
use Rattle.std.specs.Array.{IsFromFnResultFrom, IsFromFnResult}
use Rattle.texels.specs.Texels.{pixel, palette_color, texel_bits, alpha3, a3i5, indexed, formats2to4, a5i3}
use Rattle.paint.proofs.Quads.{Fours, painting_of, paint_part, painted_all, painted_same}
use Rattle.paint.specs.Paint.{painted, with_alpha, pixel_at, indexed_texel, TableOf, Tabled, TexelTable, AreIndices}
use Rattle.texels.specs.Index.{IndexThere}
use Rattle.texels.proofs.Index.{row_below, texel_lt}
use Rattle.texels.proofs.Texels.{texel_byte, indexed_four}

-- a table of what a closure that stays as it is may give for each number
module _ {F A : Type 0} (none : A) (made : ℕ → A → Type 0) (n : ℕ) (g : Mut F (ℕ × Unit {0}) A) (f : F)
    (step : (i : ℕ) (x : A) (later : F) → i < n → Called g f (i, tt) x later → made i x × (later ≡ f)) (table : List A) where
  calls_from : (m i : ℕ) → i + m ≡ n → IsFromFnResultFrom g f table i m → (k : ℕ) → k < m → made (i + k) (get_or table (i + k) none)
  calls_from zero i e calls k h = absurd (not-suc-le-zero h)
  calls_from (suc m) i e (later, x, is, call, calls) zero h = rw (add-zero, is.1 none) (step i x later (omega arith) call).0
  calls_from (suc m) i e (later, x, is, call, calls) (suc k) h =
      let next : i + suc k ≡ i + 1 + k = omega arith in
      rw next (calls_from m (i + 1) (omega arith) (rw (step i x later (omega arith) call).1 at calls) k (omega arith))

  pub made_of : IsFromFnResult g f table n → (k : ℕ) → k < n → made k (get_or table k none)
  made_of calls k h = rw zero-add at (calls_from n 0 (zero-add n) calls.each k h)

-- and where it gives one thing alone
module _ {F A : Type 0} (none : A) (rule : ℕ → A) (n : ℕ) (g : Mut F (ℕ × Unit {0}) A) (f : F)
    (step : (i : ℕ) (made : A) (later : F) → i < n → Called g f (i, tt) made later → (made ≡ rule i) × (later ≡ f)) (table : List A) where
  pub table_of : IsFromFnResult g f table n → TableOf none rule n table
  table_of calls = record { long = calls.long; at = made_of none (λ i x. x ≡ rule i) n g f step table calls }

-- formats 2 to 4: the texel is in the table
module _ (bits : ℕ) (texels : List ℕ) (table : List (List ℕ)) (n : ℕ) where
  pub indexed_texel_lem : (clear0 : Bool) (pal : List ℕ) (p : ℕ) → TexelTable (indexed clear0 pal p) (2 ^ bits) table
      → formats2to4 bits clear0 texels pal p n ≡ indexed_texel bits texels table n
  unfolding formats2to4
  indexed_texel_lem clear0 pal p t = sym (t.at (texel_bits bits texels n) (texel_lt bits texels n))

-- and so are all, where the table has all indices
pub painted_by_table : (bits : ℕ) (texels : List ℕ) (table : List (List ℕ)) (clear0 : Bool) (pal : List ℕ) (p count size : ℕ) (entry : List ℕ)
    → TexelTable (indexed clear0 pal p) size table → size ≡ 2 ^ bits
    → painted (indexed_texel bits texels table) count entry ≡ painted (formats2to4 bits clear0 texels pal p) count entry
painted_by_table bits texels table clear0 pal p count size entry t e =
    painted_same _ _ entry (λ i. indexed_texel_lem bits texels table i clear0 pal p (rw e at t)) refl

-- texels of 2 bits: bits 2c and 2c + 1 of a byte, which are those of its texel c
pub two_bits : (byte c : ℕ) → bit_and (byte / 2 ^ (2 * c)) 3 ≡ byte / 2 ^ (2 * c) % 2 ^ 2
two_bits byte c = and_mask (byte / 2 ^ (2 * c)) 2

pub byte_bits : (bytes : List ℕ) (i c : ℕ) → c < 4 → get_or bytes i 0 / 2 ^ (2 * c) % 2 ^ 2 ≡ texel_bits 2 bytes (4 * i + c)
unfolding texel_bits
byte_bits bytes i c h =
    let at : (4 * i + c) * 2 / 8 ≡ i = omega arith in
    let shift : (4 * i + c) * 2 % 8 ≡ 2 * c = omega arith in
    rw (at, shift)

-- and those behind the first i bytes
pub bits_behind : (bytes : List ℕ) (i j : ℕ) → texel_bits 2 (drop i bytes) j ≡ texel_bits 2 bytes (4 * i + j)
unfolding texel_bits
bits_behind bytes i j =
    let at : (4 * i + j) * 2 / 8 ≡ i + j * 2 / 8 = omega arith in
    let shift : (4 * i + j) * 2 % 8 ≡ j * 2 % 8 = omega arith in
    rw (at, shift, get_or-drop i bytes (j * 2 / 8) 0)

-- the rest of the texels, behind those of the first i bytes
module _ (bytes : List ℕ) {table : List (List ℕ)} (clear0 : Bool) (pal : List ℕ) (p : ℕ) (t : TexelTable (indexed clear0 pal p) 4 table) where
  pub fours_then : (i m a k : ℕ) (entry : List ℕ) {rest now part : List ℕ} → rest ≡ drop i bytes → now ≡ painted (indexed_texel 2 bytes table) (4 * i) entry
      → a ≡ 4 * (4 * i) → k ≡ length now - a → 4 * (4 * i) + 4 * m ≤ length entry
      → part ≡ painted (indexed_texel 2 rest table) m (take k (drop a now)) → length part ≡ length (take k (drop a now))
      → take a now ++ (part ++ drop k (drop a now)) ≡ painted (formats2to4 2 clear0 bytes pal p) (4 * i + m) entry
  unfolding formats2to4
  fours_then i m a k entry {rest} behind e ea ek h is kept =
      let f = formats2to4 2 clear0 bytes pal p in
      let four : Fours f (4 * i) = λ n l. indexed_four clear0 pal p (texel_bits 2 bytes n) in
      let first = painting_of f (4 * i) four (omega arith) (e ∙ painted_by_table 2 bytes table clear0 pal p (4 * i) 4 entry t refl) in
      painted_all f (4 * i + m)
      (paint_part f (indexed_texel 2 rest table) (4 * i) m a k first ea ek h is kept
      (λ j l. rw (behind, bits_behind bytes i j) (sym (indexed_texel_lem 2 bytes table (4 * i + j) clear0 pal p t))))

pub index_there : (bits count length1 n : ℕ) → AreIndices bits count → count * bits ≤ 8 * length1 → n < count → IndexThere bits n length1
index_there bits count length1 n a there h = record {
  some = a.some;
  byte = a.byte;
  small = omega (arith, a.small);
  there = omega (arith, row_below bits n count h, a.some);
}

-- a table of what a rule gives for each byte, the first i of them
pub record TabledTo (rule : ℕ → ℕ) (i : ℕ) (table : List ℕ) : Type 0 where
  pub long : length table ≡ 256
  pub at : (k : ℕ) → k < i → get_or table k 0 ≡ rule k

module _ (rule : ℕ → ℕ) where
  pub tabled_none : TabledTo rule 0 (replicate 256 0)
  tabled_none = record { long = refl; at = λ k h. absurd (not-suc-le-zero h) }

  pub tabled_more : {i x : ℕ} {table : List ℕ} → TabledTo rule i table → i < 256 → x ≡ rule i → TabledTo rule (i + 1) (set table i x)
  tabled_more {i} {x} {table} t within is = record { long = length-set table i x ∙ t.long; at = λ k h. go k h (ltb k i) refl }
    where
      go : (k : ℕ) → k < i + 1 → (b : Bool) → ltb k i ≡ b → get_or (set table i x) k 0 ≡ rule k
      go k h true e = get_or-set_other table i k x 0 (λ same. omega (arith, same, ltb-true k i e)) ∙ t.at k (ltb-true k i e)
      go k h false e =
          let same : k ≡ i = omega (arith, ltb-false k i e) in
          rw same (get_or-set_same table i x 0 (omega (arith, t.long)) ∙ is)

  pub tabled_all : {i : ℕ} {table : List ℕ} → TabledTo rule i table → 256 ≤ i → Tabled rule table
  tabled_all t h = record { long = t.long; at = λ k l. t.at k (omega arith) }

-- a texel that is its byte's, from a table of the texels of all bytes
pub byte_texel : (texel : ℕ → List ℕ) {table : List (List ℕ)} → TexelTable texel 256 table → (texels : List ℕ) (n : ℕ) → get_or texels n 0 < 256
    → texel (get_or texels n 0) ≡ indexed_texel 8 texels table n
byte_texel texel t texels n byte = sym (rw (← texel_byte texels n byte) (t.at (get_or texels n 0) byte))

-- formats 1 and 6: a texel's colour is in the table of its palette
other_alpha : (color a : ℕ) → with_alpha (pixel color 31) a ≡ pixel color a
unfolding pixel
other_alpha color a = refl

translucent : (pal : List ℕ) (p count : ℕ) {table : List (List ℕ)} → TexelTable (indexed false pal p) count table → (k a : ℕ) → k < count
    → with_alpha (pixel_at table k) a ≡ pixel (palette_color pal p k) a
unfolding indexed
translucent pal p count t k a h = rw (t.at k h) (other_alpha (palette_color pal p k) a)

-- by the texel's byte
module _ (pal : List ℕ) (p b : ℕ) {table : List (List ℕ)} (byte : b < 256) where
  pub a3i5_texel : TexelTable (indexed false pal p) 32 table → with_alpha (pixel_at table (b % 32)) (alpha3 (b / 32)) ≡ a3i5 pal p b
  a3i5_texel t =
      let small : b / 32 % 8 ≡ b / 32 = omega arith in
      rw small (translucent pal p 32 t (b % 32) (alpha3 (b / 32)) (omega arith))

  pub a5i3_texel : TexelTable (indexed false pal p) 8 table → with_alpha (pixel_at table (b % 8)) (b / 8) ≡ a5i3 pal p b
  a5i3_texel t =
      let small : b / 8 % 32 ≡ b / 8 = omega arith in
      rw small (translucent pal p 8 t (b % 8) (b / 8) (omega arith))
