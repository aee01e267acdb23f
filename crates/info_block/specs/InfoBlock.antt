-- Name lists. Assumes nothing.
use Rattle.std.specs.Prelude.{ℕ, ◌+◌, ◌*◌, List, take, drop, eqb}
use Rattle.util.specs.Number.{number_at}
use Rattle.errors.specs.Refusal.{bad_dummy, bad_size}
use Rattle.errors.specs.declared.Kind.{Kind}
use Rattle.errors.specs.declared.Kind.TheVariants.{Texture, Palette}
use Rattle.scripts.specs.Script.{Script, done, bytes_at, expect, ◌>>=◌, ◌>>◌}

-- 01, "Records": "A texture datum has 8 bytes, .. a palette datum has 4".
abbrev pub datum_bytes : Kind → ℕ
datum_bytes Texture = 8
datum_bytes Palette = 4

-- Where things stand in a list of c entries, from its start. 01, "Records": "dummy (1) at 0, count c (1) at 1, c unknown 4-byte numbers
-- from 12, datum size (2) at 12 + 4c, data from 16 + 4c, then c names of 16 bytes".
abbrev pub size_at : (c : ℕ) → ℕ
size_at c = 12 + 4 * c

abbrev pub datum_at : (kind : Kind) (c i : ℕ) → ℕ
datum_at kind c i = 16 + 4 * c + datum_bytes kind * i

abbrev pub name_at : (kind : Kind) (c i : ℕ) → ℕ
name_at kind c i = 16 + 4 * c + datum_bytes kind * c + 16 * i

-- "So the lists end after 16 + 28c and 16 + 24c bytes": behind the last name.
abbrev pub list_length : (kind : Kind) (c : ℕ) → ℕ
list_length kind c = name_at kind c c

-- A list that was read: its count and all its bytes.
pub record NameList : Type 0 where
  pub count : ℕ
  pub bytes : List ℕ

-- The list of c entries at pos, as it stands in a block.
abbrev pub list_at : (kind : Kind) (pos c : ℕ) → List ℕ → NameList
list_at kind pos c block = record { count = c; bytes = take (list_length kind c) (drop pos block) }

-- 01, "Modules" 3: "Whole list read, then dummy = 0, then datum size."
unfoldable pub whole_list : (kind : Kind) (pos c : ℕ) → Script NameList
whole_list kind pos c = do
  bytes ← bytes_at pos (list_length kind c)
  expect (eqb (number_at 1 0 bytes) 0) (bad_dummy kind)
  expect (eqb (number_at 2 (size_at c) bytes) (datum_bytes kind)) (bad_size kind)
  done (record { count = c; bytes = bytes })

-- 01, "When a call is declined", of the want: "`texture_off` + 2 while the count is unread, then the list's end".
unfoldable pub name_list : (kind : Kind) (pos : ℕ) → Script NameList
name_list kind pos = do
  head ← bytes_at pos 2
  whole_list kind pos (number_at 1 1 head)

-- Entry i of a list: its name, and the number of the first `size` bytes of its datum.
abbrev pub entry_name : (kind : Kind) → NameList → (i : ℕ) → List ℕ
entry_name kind list i = take 16 (drop (name_at kind list.count i) list.bytes)

abbrev pub entry_number : (kind : Kind) (size : ℕ) → NameList → (i : ℕ) → ℕ
entry_number kind size list i = number_at size (datum_at kind list.count i) list.bytes
