-- Texels in order, written to an output, and tables of them. Assumes nothing.
use Rattle.std.specs.Prelude.{ℕ, ◌*◌, ◌^◌, ◌≤◌, ◌<◌, ◌≡◌, List, [], ◌∷◌, ◌++◌, length, drop, get_or, slice_index}
use Rattle.output.specs.Output.{pieces}
use Rattle.texels.specs.Texels.{widen, texel_bits}

-- The first n texels written. 01, "Pixels": "the output beyond them keeps its content".
unfoldable pub painted : (texel : ℕ → List ℕ) (n : ℕ) (output : List ℕ) → List ℕ
painted texel n output = pieces texel n ++ drop (4 * n) output

-- The first count texels written, each of four bytes and as it may be made for its number.
pub record Paints (post : ℕ → List ℕ → Type 0) (count : ℕ) (entry exit : List ℕ) : Type 0 where
  pub texel : ℕ → List ℕ
  pub four : (n : ℕ) → n < count → length (texel n) ≡ 4
  pub made : (n : ℕ) → n < count → post n (texel n)
  pub paints : exit ≡ painted texel count entry

-- What may be made for each number below count is the texel that f has for it.
abbrev pub Makes : (post : ℕ → List ℕ → Type 0) (count : ℕ) (f : ℕ → List ℕ) → Type 0
Makes post count f = (n : ℕ) (made : List ℕ) → n < count → post n made → made ≡ f n

-- The same of what may be made of each of the first count bytes.
abbrev pub MakesOf : (post : ℕ → List ℕ → Type 0) (bytes : List ℕ) (count : ℕ) (f : ℕ → List ℕ) → Type 0
MakesOf post bytes count f = Makes (λ n made. let b = slice_index bytes n in (b < 256) × post b made) count f

-- A texel's colour with alpha a.
abbrev pub with_alpha : (pixel : List ℕ) (a : ℕ) → List ℕ
with_alpha pixel a = get_or pixel 0 0 ∷ get_or pixel 1 0 ∷ get_or pixel 2 0 ∷ widen a ∷ []

-- Texel k of a table.
abbrev pub pixel_at : (table : List (List ℕ)) (k : ℕ) → List ℕ
pixel_at table k = get_or table k []

-- Texel n, where its colour index is taken from the data and the texel from the table.
abbrev pub indexed_texel : (bits : ℕ) (data1 : List ℕ) (table : List (List ℕ)) (n : ℕ) → List ℕ
indexed_texel bits data1 table n = pixel_at table (texel_bits bits data1 n)

-- A table of what a rule gives for the numbers below count. Where there is no entry, `none` stands.
pub record TableOf {A : Type 0} (none : A) (rule : ℕ → A) (count : ℕ) (table : List A) : Type 0 where
  pub long : length table ≡ count
  pub at : (k : ℕ) → k < count → get_or table k none ≡ rule k

-- A table of what a rule gives for each byte.
abbrev pub Tabled : (rule : ℕ → ℕ) (table : List ℕ) → Type 0
Tabled rule table = TableOf 0 rule 256 table

-- A table of texels.
abbrev pub TexelTable : (rule : ℕ → List ℕ) (count : ℕ) (table : List (List ℕ)) → Type 0
TexelTable rule count table = TableOf [] rule count table

-- Texels of so many bits are indices of a colour, and so few that a number of 64 bits counts their bits.
pub record AreIndices (bits count : ℕ) : Type 0 where
  pub some : 0 < bits
  pub byte : bits ≤ 8
  pub small : count < 2 ^ 32
