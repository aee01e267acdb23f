-- The laws of a block that was read, and of its entries. Assumes nothing.
use Prim.Native.Nat.{ℕ, ◌+◌, ◌≤◌}
use mathlib.Core.Bool.{cond}
use mathlib.Core.Path.{◌≡◌, refl}
use mathlib.Core.List.{List}
use native.Mathlib.Omega.{arith}
use lib.Dec.{ltb}
use lib.ListN.{length, take}
use Rattle.std.proofs.lemmas.Bool.Decides.{nat_tests}
use Rattle.util.specs.Outcome.{result, refusal}
use Rattle.errors.specs.Refusal.{absent_number, refusal_outcome}
use Rattle.errors.specs.declared.Refusal.{Refusal}
use Rattle.errors.specs.declared.Kind.{Kind}
use Rattle.errors.specs.declared.Kind.TheVariants.{Texture, Palette}
use Rattle.scripts.proofs.Runs.{ended}
use Rattle.info_block.specs.InfoBlock.{list_at, list_length}
use Rattle.layout.specs.Positions.{list_pos, count_of}
use Rattle.layout.specs.declared.Layout.{Layout}
use Rattle.reading.specs.Tex.{header_of}
use Rattle.reading.specs.Blocks.{entry_at}
use Rattle.reading.specs.Layouts.{layout_answer, LaidOut}
use Rattle.reading.proofs.Readings.{finished, textures_listed, palettes_listed}

-- its lists lie within it
pub list_within : (kind : Kind) (b : List ℕ) {l : Layout} → LaidOut b l → list_pos kind l.header + list_length kind (count_of kind l) ≤ length b
unfolding layout_answer
list_within Texture b laid = let o = ended _ _ laid.is in rw o.gives (textures_listed (header_of (take 60 b)) b (finished b o.is).textures).within
list_within Palette b laid = let o = ended _ _ laid.is in rw o.gives (palettes_listed (header_of (take 60 b)) b (finished b o.is).palettes).within

-- an entry of a list of it is there, or is not
module _ (k : Kind) (n : ℕ) (b : List ℕ) (l : Layout) where
  pub entry_is : entry_at k n b l
      ≡ cond (ltb n (count_of k l)) (result (list_at k (list_pos k l.header) (count_of k l) b)) (refusal (absent_number k) 0)
  unfolding entry_at
  entry_is = refl

  pub entry_none : {A : Type 0} (r : Refusal) → refusal_outcome r ≡ entry_at k n b l
      → (count_of k l ≤ n) × (refusal_outcome {A = A} r ≡ refusal (absent_number k) 0)
  unfolding entry_at
  entry_none r e = grind (arith, nat_tests)
