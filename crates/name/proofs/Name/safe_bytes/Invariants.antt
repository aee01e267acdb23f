-- `name::Name::safe_bytes` meets its contract: the loop has written the safe bytes of those so far, and left the others. Assumes nothing.
use mathlib.Core.Path.{◌≡◌}
use mathlib.Core.List.{◌++◌, map}
use lib.ListN.{take, drop}
use Rattle.name.specs.Name.{safe_byte}
use Rattle.name.proofs.Name.safe_bytes.Given as goal

abbrev pub invariant-loop-b : goal.invariant-loop-b
invariant-loop-b l = l.b-items ≡ map safe_byte (take l.b-index l.fn.self.0) ++ drop l.b-index l.fn.self.0
