-- `put_record` meets its contract: what was written of each text ends within the 32 bytes that were lent. Assumes nothing.
use native.Mathlib.Omega.{arith}
use Rattle.answer_palettes.proofs.Records.{safe_fits, display_fits, text_within}
use Rattle.answer_palettes.proofs.put_record.Goals as goal

pub slice_bounds-safe-end : goal.slice_bounds-safe-end
slice_bounds-safe-end c =
    text_within _ _ _ c.print_safe.result c.print_safe.ensures.outcome (safe_fits c.args.name.0 (omega arith)) _ c.unwrap-safe_len.ensures c.print_safe.ensures.output

pub slice_bounds-display-end-2 : goal.slice_bounds-display-end-2
slice_bounds-display-end-2 c =
    text_within _ _ _ c.display.result c.display.ensures.outcome (display_fits c.args.name.0 (omega arith)) _ c.unwrap-display_len.ensures c.display.ensures.output
