-- The cursor. Assumes nothing.
use Rattle.std.specs.Prelude.{ℕ, List, length}
use Rattle.util.specs.Take.{taken_to}
use Rattle.cursor.specs.declared.Cur.{Cur}

-- 01, "Rust idioms to redo": "`Cur<'a>` keeps its slice and position together". The bytes that it is over.
abbrev pub bytes : Cur → List ℕ
bytes c = c.buf.now

-- The cursor over the same slice, at another position.
abbrev pub moved_to : Cur → ℕ → Cur
moved_to c pos = record { buf = c.buf; pos = pos }

-- The cursor after a take of n bytes at its position.
abbrev pub taken_on : Cur → ℕ → Cur
taken_on c n = moved_to c (taken_to (length (bytes c)) c.pos n)
