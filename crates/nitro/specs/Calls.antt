-- What each call answers, as a function of the reading's answer and the call's other arguments. Assumes nothing.
use Rattle.std.specs.Prelude.{ℕ, zero, suc, List, [], ◌∷◌, length, replicate}
use Rattle.util.specs.Outcome.{Outcome, result, refusal}
use Rattle.nds.specs.Params.{repeat_s, mirror_s, repeat_t, mirror_t}
use Rattle.nds.specs.Formats.{alpha}
use Rattle.nds.specs.Wrap.{wrap_of}
use Rattle.errors.specs.Refusal.{absent_number}
use Rattle.errors.specs.declared.Kind.{Kind}
use Rattle.errors.specs.declared.Kind.TheVariants as kind
use Rattle.scripts.specs.Script.{Answer, outcome_of}
use Rattle.reading.specs.Tex.{Texture, Palette, Contents}
pub use Rattle.nitro.specs.declared.tex.Counts.{Counts}
use Rattle.nitro.specs.declared.tex.TextureRecord.{TextureRecord}
use Rattle.nitro.specs.declared.tex.PaletteRecord.{PaletteRecord}

-- 01, "When a call is declined": "A reading gives both counts".
abbrev pub counts_of : Contents → Counts
counts_of c = record { textures = length c.textures; palettes = length c.palettes }

unfoldable pub reading_of : Answer Contents → Outcome Counts
reading_of a = outcome_of a λ c. result (counts_of c)

-- Entry n of a list, as `f` gives it. "texture number not below its count", "palette number not below its count": by the list's kind.
unfoldable pub entry : {A B : Type 0} → Kind → (A → B) → List A → (n : ℕ) → Outcome B
entry k f [] n = refusal (absent_number k) 0
entry k f (x ∷ xs) zero = result (f x)
entry k f (x ∷ xs) (suc n) = entry k f xs n

-- "Reading gives 1 to 6 in its own order. A record or part adds 7 or 8."
unfoldable pub texture_entry : {B : Type 0} → (Texture → B) → (n : ℕ) → Answer Contents → Outcome B
texture_entry f n a = outcome_of a λ c. entry kind.Texture f c.textures n

unfoldable pub palette_entry : {B : Type 0} → (Palette → B) → (n : ℕ) → Answer Contents → Outcome B
palette_entry f n a = outcome_of a λ c. entry kind.Palette f c.palettes n

-- "a texture record holds name, word, wrap words and alpha kind, a palette record name and offset."
abbrev pub texture_record : (name : List ℕ) (word : ℕ) → TextureRecord
texture_record name w = record {
  name = record { 0 = name };
  params = record { 0 = w };
  wrap_s = wrap_of (repeat_s w) (mirror_s w);
  wrap_t = wrap_of (repeat_t w) (mirror_t w);
  alpha = alpha w;
}

abbrev pub palette_record : (name : List ℕ) (off : ℕ) → PaletteRecord
palette_record name off = record { name = record { 0 = name }; off = off }

unfoldable pub texture_of : (n : ℕ) → Answer Contents → Outcome TextureRecord
texture_of n a = texture_entry (λ t. texture_record t.name t.word) n a

unfoldable pub palette_of : (n : ℕ) → Answer Contents → Outcome PaletteRecord
palette_of n a = palette_entry (λ p. palette_record p.name p.off) n a

-- The records that stand for those that a block does not have.
abbrev pub no_name : List ℕ
no_name = replicate 16 0

abbrev pub no_texture : TextureRecord
no_texture = texture_record no_name 0

abbrev pub no_palette : PaletteRecord
no_palette = palette_record no_name 0

-- What an answer holds, or `blank` where it is a refusal.
abbrev pub value_or : {A : Type 0} → (blank : A) → Outcome A → A
value_or blank (result a) = a
value_or blank (refusal number returned) = blank

-- "A declined data part is empty, and the record call for that number names the refusal."
abbrev pub part_of : Outcome (List ℕ) → List ℕ
part_of o = value_or [] o

unfoldable pub data1_of : (n : ℕ) → Answer Contents → List ℕ
data1_of n a = part_of (texture_entry (λ t. t.parts.data1) n a)

unfoldable pub data2_of : (n : ℕ) → Answer Contents → List ℕ
data2_of n a = part_of (texture_entry (λ t. t.parts.data2) n a)

unfoldable pub pal_block_of : Answer Contents → List ℕ
pal_block_of a = part_of (outcome_of a λ c. result c.pal_block)
