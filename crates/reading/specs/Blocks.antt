-- A block that was read, as the code has it, and its entries. Assumes nothing.
use Rattle.std.specs.Prelude.{ℕ, cond, List, ltb}
use Rattle.util.specs.Outcome.{Outcome, result, refusal}
use Rattle.errors.specs.Refusal.{absent_number}
use Rattle.errors.specs.declared.Kind.{Kind}
use Rattle.info_block.specs.InfoBlock.{NameList, list_at}
use Rattle.info_block.specs.Lists.{listed}
use Rattle.info_block.specs.declared.name_list.Entry.{Entry}
use Rattle.layout.specs.Positions.{list_pos, count_of}
use Rattle.layout.specs.declared.Layout.{Layout}
use Rattle.reading.specs.declared.tex.Tex.{Tex}

-- What its reading found.
abbrev pub layout_in : Tex → Layout
layout_in tex = tex.layout

-- The list that an entry is of.
abbrev pub list_of : Entry → NameList
list_of entry = listed entry.list

-- The list of kind k, where it has an entry n. 01, "When a call is declined": "texture number not below its count", 7. "palette number not
-- below its count", 8.
unfoldable pub entry_at : Kind → (n : ℕ) → (block : List ℕ) → Layout → Outcome NameList
entry_at k n block l =
    cond (ltb n (count_of k l)) (result (list_at k (list_pos k l.header) (count_of k l) block)) (refusal (absent_number k) 0)
