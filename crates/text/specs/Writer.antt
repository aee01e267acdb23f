-- What a writer puts into its output. Assumes nothing.
use Rattle.std.specs.Prelude.{◌≡◌, List, ℕ, length}
use Rattle.text.specs.Put.{Room, Put}
use Rattle.text.specs.declared.Writer.{Writer}

-- The writer's output has room for the text behind what has been put into it.
abbrev pub HasRoom : (text : List ℕ) → Writer → Type 0
HasRoom text writer = Room text writer.out.now writer.at

-- The text is put where the writer was, into the same output, and the writer is behind it.
pub record Adds (text : List ℕ) (entry exit : Writer) : Type 0 where
  pub same_output : exit.out.ghost_name ≡ entry.out.ghost_name
  pub same_length : length exit.out.now ≡ length entry.out.now
  pub put : Put text entry.out.now entry.at exit.out.now exit.at
