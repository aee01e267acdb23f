-- The laws of what is shown of a file. Assumes nothing.
use Rattle.std.specs.Prelude.{Option}
use Prim.Native.Nat.{ℕ, ◌≤◌}
use mathlib.Core.Path.{◌≡◌}
use mathlib.Core.List.{List}
use native.Mathlib.Omega.{arith}
use lib.ListN.{length, length-append}
use lib.Seq.{take-append_seam}
use Rattle.util.specs.Outcome.{result}
use Rattle.util.specs.Take.{taken_part}
use Rattle.output.specs.Output.{write_output}
use Rattle.scripts.specs.Script.{run}
use Rattle.reading.specs.Tex.{read_tex}
use Rattle.pam.specs.Pam.{pam_of}
use Rattle.pam.proofs.Bounds.{pam_fits}
use Rattle.show.specs.Show.{Image, Refused, TooLong, shown_of, shown_output}

module _ (file : List ℕ) (n : ℕ) (choice : Option ℕ) (entry : List ℕ) where
  -- A file that is refused leaves every byte of the output as it was, and so does one that is too long.
  pub shown_keeps : {number returned : ℕ} → shown_of file n choice ≡ Refused number returned → shown_output file n choice entry ≡ entry
  unfolding shown_of shown_output write_output
  shown_keeps e = grind arith

  pub shown_keeps_long : shown_of file n choice ≡ TooLong → shown_output file n choice entry ≡ entry
  unfolding shown_of shown_output write_output
  shown_keeps_long e = grind arith

  -- an output that has room for every image
  module _ (room : 4194375 ≤ length entry) where
    -- An image is the part of the output that has the length that is answered, from the start on.
    pub shown_image : (len : ℕ) → shown_of file n choice ≡ Image len
        → pam_of n choice (run read_tex file) ≡ result (taken_part 0 len (shown_output file n choice entry))
    unfolding shown_of shown_output write_output taken_part
    shown_image len e = grind (arith, pam_fits, length-append, take-append_seam)
