-- What the laws say of an entry by the layout of its block; no contract cites it. Assumes nothing.
use Rattle.std.specs.Prelude.{ℕ, cond, List, ltb}
use Rattle.util.specs.Outcome.{Outcome, result, refusal}
use Rattle.errors.specs.Refusal.{absent_number}
use Rattle.errors.specs.declared.Kind.{Kind}
use Rattle.scripts.specs.Script.{Answer, outcome_of}
use Rattle.reading.specs.Tex.{Contents}
use Rattle.reading.specs.Layouts.{layout_of}
use Rattle.layout.specs.Positions.{count_of}
use Rattle.layout.specs.declared.Layout.{Layout}

-- The layout of a block that has entry n in its list of kind k.
unfoldable pub layout_with : Kind → (n : ℕ) → (block : List ℕ) → Answer Contents → Outcome Layout
layout_with k n block a =
    outcome_of a λ c.
    cond (ltb n (count_of k (layout_of block c))) (result (layout_of block c)) (refusal (absent_number k) 0)
