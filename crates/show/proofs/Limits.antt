-- The number that stands for every greater one is refused as they are: no list of a block is so long. Assumes nothing.
use Rattle.std.specs.Prelude.{Option, None, Some}
use Prim.Native.Nat.{ℕ, ◌<◌}
use mathlib.Core.Path.{◌≡◌, refl, sym, ◌∙◌}
use mathlib.Core.Bool.{Bool, true, false}
use mathlib.Core.List.{List}
use native.Mathlib.Omega.{arith}
use lib.ListN.{length, get_or}
use lib.Dec.{leb}
use borrow.Author.Tests.{leb-true, leb-false}
use Rattle.errors.specs.declared.Kind.{Kind}
use Rattle.scripts.specs.Script.{Answer, short, fault, whole, run, outcome_of}
use Rattle.reading.specs.Tex.{Contents, read_tex}
use Rattle.nitro.specs.Calls.{entry}
use Rattle.places.specs.Sources.{chosen_of, sources_of}
use Rattle.nitro.proofs.Answers.{entry_out}
use Rattle.reading.proofs.Sizes.{textures_few, palettes_few}
use Rattle.decode.specs.Pictures.{picture_of}
use Rattle.pam.specs.Pam.{pam_of}
use Rattle.arguments.specs.Arguments.{capped}
use Rattle.show.specs.Show.{shown_of, shown_output}

abbrev pub capped_choice : Option ℕ → Option ℕ
capped_choice None = None
capped_choice (Some k) = Some (capped k)

entry_capped : {A B : Type 0} (k : Kind) (f : A → B) (xs : List A) (n : ℕ) → length xs < 256 → entry k f xs (capped n) ≡ entry k f xs n
entry_capped k f xs n h = go (leb n 65535) refl
  where
    go : (t : Bool) → leb n 65535 ≡ t → entry k f xs (capped n) ≡ entry k f xs n
    go true e = let same : capped n ≡ n = omega (arith, leb-true n 65535 e) in rw same
    go false e =
        let more = leb-false n 65535 e in
        entry_out k f xs (capped n) (omega arith) ∙ sym (entry_out k f xs n (omega arith))

module _ (b : List ℕ) (bytes : (k : ℕ) → get_or b k 0 < 256) (n : ℕ) where
  sources_capped : (choice : Option ℕ) → sources_of (capped n) (capped_choice choice) (run read_tex b) ≡ sources_of n choice (run read_tex b)
  unfolding sources_of outcome_of chosen_of
  sources_capped choice = go choice (run read_tex b) refl
    where
      go : (choice : Option ℕ) (a : Answer Contents) → run read_tex b ≡ a → sources_of (capped n) (capped_choice choice) a ≡ sources_of n choice a
      go choice (short w) e = refl
      go choice (fault w) e = refl
      go None (whole c) e = rw (entry_capped _ _ c.textures n (textures_few b bytes e))
      go (Some k) (whole c) e =
          rw (entry_capped _ _ c.textures n (textures_few b bytes e), entry_capped _ _ c.palettes k (palettes_few b bytes e))

  pam_capped : (choice : Option ℕ) → pam_of (capped n) (capped_choice choice) (run read_tex b) ≡ pam_of n choice (run read_tex b)
  unfolding pam_of picture_of
  pam_capped choice = rw (sources_capped choice)

  pub shown_capped : (choice : Option ℕ) → shown_of b (capped n) (capped_choice choice) ≡ shown_of b n choice
  unfolding shown_of
  shown_capped choice = rw (pam_capped choice)

  pub output_capped : (choice : Option ℕ) (output : List ℕ)
      → shown_output b (capped n) (capped_choice choice) output ≡ shown_output b n choice output
  unfolding shown_output
  output_capped choice output = rw (pam_capped choice)
