-- What a private function asks for; no public contract cites it. Assumes nothing.
use Rattle.std.specs.Prelude.{ℕ, ◌≤◌}

-- A digit's byte.
pub record Digit (b : ℕ) : Type 0 where
  pub least : 48 ≤ b
  pub most : b ≤ 57
