-- `rows::put_rows` meets its contract: the loop puts row behind row. Assumes nothing.
use mathlib.Core.Path.{◌≡◌}
use lib.Seq.{sets}
use Rattle.output.specs.Output.{pieces}
use Rattle.info_block.specs.Lists.{listed}
use Rattle.rows.specs.ByLayout.{row}
use Rattle.rows.proofs.put_rows.Given as goal

abbrev pub invariant-loop-n : goal.invariant-loop-n
invariant-loop-n l = l.rows ≡ sets l.initial.rows 0 (pieces (row l.list.kind l.header (listed l.list)) l.n)
