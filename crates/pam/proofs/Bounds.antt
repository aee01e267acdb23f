-- No image is longer than 4,194,375 bytes: a header of 71, and 4 for each of 1024 times 1024 texels. Assumes nothing.
use Rattle.std.specs.Prelude.{Option}
use Prim.Native.Nat.{ℕ, ◌≤◌}
use mathlib.Core.Path.{◌≡◌}
use mathlib.Core.List.{List}
use native.Mathlib.Nat.{mul-le-mul}
use native.Mathlib.Omega.{arith}
use lib.ListN.{length, length-append}
use Rattle.util.specs.Outcome.{result, ◌>>=◌}
use Rattle.nds.proofs.Sizes.{width_le, height_le}
use Rattle.scripts.specs.Script.{Answer}
use Rattle.reading.specs.Tex.{Contents}
use Rattle.places.specs.Sources.{Sources}
use Rattle.decode.specs.Pictures.{texel_count, decoded, picture_of}
use Rattle.pam.specs.Pam.{pam_of}
use Rattle.pam.proofs.Headers.{header_fits}
use Rattle.pam.proofs.Images.{decoded_length}

texels_few : (w : ℕ) → texel_count w ≤ 1048576
texels_few w = mul-le-mul {n₂ = 1024} {m₂ = 1024} (width_le w) (height_le w)

decoded_few : (s : Sources) {picture : List ℕ} → decoded s ≡ result picture → length picture ≤ 4194304
decoded_few s e = omega (arith, decoded_length s e, texels_few s.word)

pub pam_fits : (n : ℕ) (choice : Option ℕ) (a : Answer Contents) {image : List ℕ} → pam_of n choice a ≡ result image → length image ≤ 4194375
unfolding pam_of picture_of ◌>>=◌
pam_fits n choice a e = grind (arith, decoded_few, header_fits, length-append)
