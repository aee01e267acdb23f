-- `lines::put_name` meets its contract: the name's own call writes the text to the output's part behind the place. Assumes nothing.
use Prim.Native.Nat.{◌+◌, ◌-◌}
use mathlib.Core.Path.{◌≡◌, ◌∙◌}
use lib.ListN.{length}
use borrow.Rule.Slice.PartMut.{put_mid}
use Rattle.text.specs.Put.{Put}
use Rattle.text.proofs.Puts.{room_first, put_then, put_length, part_wrote}
use Rattle.name.specs.Name.{safe_text}
use Rattle.lines.proofs.put_name.Goals as goal

pub returns : goal.returns
returns c =
    let text = safe_text c.args.name.0 in
    let entry = c.args.writer.now.out.now in
    let at = c.args.writer.now.at in
    let w = part_wrote text entry at (room_first text c.args.end.now c.requires) c.print_safe.ensures in
    let counted : c.unwrap-len.result ≡ length text = cc (rw c.unwrap-len.ensures at w.outcome) in
    let first : Put text entry at (put_mid at (length entry - at) entry c.print_safe.new.out) (at + c.unwrap-len.result) =
    record { output = w.output; behind = rw counted } in
    record {
      same_output = c.put.ensures.same_output;
      same_length = c.put.ensures.same_length ∙ put_length first;
      put = put_then first c.put.ensures.put;
    }
