-- Blocks that are still arriving: what the answer of a call on the first bytes of a block, 01's "early run", tells of the same call on the
-- whole block, its "full run". An early run is the same call, lent `&block[..n]`. The sentences quoted are demand 3's. Assumes nothing.
use Rattle.std.specs.Prelude.{ℕ, ◌≤◌, ◌<◌, ◌≡◌, ◌↔◌, List, length, take}
use Rattle.util.specs.Outcome.{Outcome, refusal}
use Rattle.laws.specs.BlockCalls.{BlockCall, BlockCalls}

-- A call, with all that it is given but the block: on a block it gives `answer`, and `beside` it an output, a record or a part, which is
-- `declined` where the call is declined. So it is with the first n bytes of one block.
pub record PrefixAt {A B : Type 0} (answer : List ℕ → Outcome A) (beside : List ℕ → B) (declined : B) (block : List ℕ) (n : ℕ) : Type 0 where
  -- "an early run that isn't short (refusal 1) gives the full run's answer, .. whether counts, record, picture or refusal, and both leave
  -- the same output"
  pub settled : ((needed : ℕ) → answer (take n block) ≡ refusal 1 needed → ⊥)
      → (answer (take n block) ≡ answer block) × (beside (take n block) ≡ beside block)
  -- "Where the early run is short, the full run is short with the same want exactly when the block has fewer bytes than that want."
  pub short : (needed : ℕ) → answer (take n block) ≡ refusal 1 needed
      → (beside (take n block) ≡ declined) × ((answer block ≡ refusal 1 needed) ↔ (length block < needed))

-- "Proved for every block, every n up to its length"
abbrev pub Prefix : {A B : Type 0} (answer : List ℕ → Outcome A) (beside : List ℕ → B) (declined : B) → Type 0
Prefix answer beside declined = (block : List ℕ) (n : ℕ) → n ≤ length block → PrefixAt answer beside declined block n

-- The law, of a call as a value.
abbrev pub Arriving : (A B : Type 0) → BlockCall A B → Type 0
Arriving A B call = Prefix call.answer call.beside call.declined

-- The theorem, proved by `arriving` of proofs/Prefixes.antt: the law holds of each call in the list of block calls.
abbrev pub PrefixLaws : Type 0
PrefixLaws = BlockCalls Arriving
