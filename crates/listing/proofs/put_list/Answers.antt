-- `listing::put_list` meets its contract: each line has room behind the others. Assumes nothing.
use native.Mathlib.Omega.{arith}
use Rattle.scripts.specs.Script.{run}
use Rattle.reading.specs.Tex.{read_tex}
use Rattle.layout.specs.Positions.{count_of}
use Rattle.listing.specs.Lists.{entry_line, list_of}
use Rattle.listing.proofs.Lists.{line_fits, each_line}
use Rattle.listing.proofs.put_list.Goals as goal

pub put_entry-requires : goal.put_entry-requires
unfolding list_of
put_entry-requires c =
    grind (arith, each_line, line_fits (entry_line c.args.kind (run read_tex c.args.tex.block.now)) c.loop-n.n (count_of c.args.kind c.args.tex.layout))
