-- `reading::take_all_data` meets its contract: what is left of the row of textures has the whole row's outcome, which is the loop's
-- invariant. Assumes nothing.
use Prim.Native.Nat.{◌-◌}
use mathlib.Core.Path.{◌≡◌}
use Rattle.info_block.specs.Lists.{listed}
use Rattle.reading.specs.Layouts.{counting, each_texture}
use Rattle.reading.proofs.Readings.{row}
use Rattle.reading.proofs.take_all_data.Given as goal

abbrev pub invariant-loop-i : goal.invariant-loop-i
invariant-loop-i l = row l.block l.header l.list.count (listed l.list) l.i (l.list.count - l.i) ≡ counting (each_texture l.header l.list.count (listed l.list)) l.block
