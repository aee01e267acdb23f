-- `paint::decode_format2` meets its contract: the texels of whole bytes, and those of the byte behind them. Assumes nothing.
use Prim.Native.Nat.{◌+◌, ◌*◌, ◌/◌, ◌%◌}
use mathlib.Core.Path.{◌≡◌, refl}
use native.Mathlib.Omega.{arith}
use lib.ListN.{length-drop}
use lib.Seq.{take_all}
use borrow.Author.Rules.{rules}
use Rattle.paint.proofs.Tables.{fours_then}
use Rattle.paint.proofs.decode_format2.Goals as goal

pub returns : goal.returns
returns c =
    let n = c.args.data1.num_texels in
    let all : 4 * (n / 4) + n % 4 ≡ n = omega arith in
    let pal = c.args.colors.palette in
    rw all at
    (fours_then c.args.data1.bytes.now c.args.colors.clear0 pal.block.now pal.off c.texel_table-table.ensures (n / 4) (n % 4) (16 * (n / 4)) _ _
    (take_all _ _ (simp length-drop (omega arith))) c.put_fours.ensures (omega arith) refl (omega arith) c.put_indexed.ensures (search rules))
