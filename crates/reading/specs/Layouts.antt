-- What `lay_out` answers with: the layout, which is the header and both counts; and what the functions below it hand on. Assumes nothing.
use Rattle.std.specs.Prelude.{ℕ, ◌≡◌, List, length, take}
use Rattle.util.specs.Outcome.{Outcome, result}
use Rattle.scripts.specs.Script.{Script, Answer, run, outcome_of, each}
use Rattle.info_block.specs.InfoBlock.{NameList}
use Rattle.reading.specs.Tex.{Texture, Contents, header_of, read_texture, read_tex}
use Rattle.layout.specs.declared.Header.{Header}
use Rattle.layout.specs.declared.Layout.{Layout}

-- How many things a script came to.
abbrev pub counting : {A : Type 0} → Script (List A) → (block : List ℕ) → Outcome ℕ
counting s block = outcome_of (run s block) λ found. result (length found)

-- The first c textures of a list.
abbrev pub each_texture : Header → (c : ℕ) → NameList → Script (List Texture)
each_texture h c list = each c (read_texture h list)

abbrev pub layout_of : (block : List ℕ) → Contents → Layout
layout_of block c = record {
  header = header_of (take 60 block);
  textures = length c.textures;
  palettes = length c.palettes;
}

unfoldable pub layout_answer : (block : List ℕ) → Answer Contents → Outcome Layout
layout_answer block a = outcome_of a λ c. result (layout_of block c)

-- The layout of the block, as `lay_out` finds it: what a call that is handed a layout beside the block demands of it.
pub record LaidOut (block : List ℕ) (layout : Layout) : Type 0 where
  pub is : result layout ≡ layout_answer block (run read_tex block)
