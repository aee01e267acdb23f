-- `listing::put_list` meets its contract: behind the heading the loop puts line after line. Assumes nothing.
use Rattle.scripts.specs.Script.{run}
use Rattle.output.specs.Output.{pieces}
use Rattle.reading.specs.Tex.{read_tex}
use Rattle.text.specs.Writer.{Adds}
use Rattle.listing.specs.Lists.{entry_line}
use Rattle.listing.proofs.put_list.Given as goal

abbrev pub invariant-loop-n : goal.invariant-loop-n
invariant-loop-n l = Adds (pieces (entry_line l.kind (run read_tex l.tex.block.now)) l.n) l.initial.writer l.writer
