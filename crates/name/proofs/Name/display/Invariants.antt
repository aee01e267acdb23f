-- `name::Name::display` meets its contract: the loop puts the texts of the bytes that stay, text after text. Assumes nothing.
use Rattle.std.specs.List.{flat_map}
use lib.ListN.{take}
use Rattle.text.specs.Writer.{Adds}
use Rattle.name.specs.Name.{display_byte}
use Rattle.name.proofs.Name.display.Given as goal

abbrev pub invariant-loop-b : goal.invariant-loop-b
invariant-loop-b l = Adds (flat_map display_byte (take l.b-index l.b-items)) l.initial.writer l.writer
