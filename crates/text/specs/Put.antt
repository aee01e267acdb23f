-- A text that is put into an output, at a place that is given. Assumes nothing.
use Rattle.std.specs.Prelude.{ℕ, ◌+◌, ◌≤◌, ◌≡◌, List, length}
use Rattle.std.proofs.lemmas.List.Edits.{sets}

-- The output has room for the text at the place.
pub record Room (text output : List ℕ) (at : ℕ) : Type 0 where
  pub fits : at + length text ≤ length output

-- The text stands there at exit, all else is as it was, and `end` is the place behind it.
pub record Put (text entry : List ℕ) (at : ℕ) (exit : List ℕ) (end : ℕ) : Type 0 where
  pub output : exit ≡ sets entry at text
  pub behind : end ≡ at + length text
