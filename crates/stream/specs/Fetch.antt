-- Fetching: 01's "fetching run", over a whole block. The sentences quoted are those of 01's "When a call is declined". Assumes nothing.
use Rattle.std.specs.Prelude.{ℕ, ◌+◌, ◌*◌, ◌≤◌, ◌<◌, ◌≡◌, cond, ◌&&◌, List, [], ◌∷◌, length, take, leb, eqb, Option, None, Some}
use Rattle.util.specs.Number.{number_at}
use Rattle.util.specs.Outcome.{Outcome, result, refusal}
use Rattle.output.specs.Output.{write_outcome, write_output}
use Rattle.scripts.specs.Script.{run, ends, records}
use Rattle.reading.specs.Tex.{has_stamp, header_of, read_tex}
use Rattle.nitro.specs.Calls.{reading_of}
use Rattle.nitro.specs.declared.tex.Counts.{Counts}
use Rattle.decode.specs.Pictures.{picture_of}

-- Whether an answer is short, which is refusal 1, and then its want.
abbrev pub shortness : {A : Type 0} → Outcome A → Option ℕ
shortness (result a) = None
shortness (refusal number returned) = cond (eqb number 1) (Some returned) None

-- A call that takes a block and an output: what it answers, and the output that it leaves.
pub record Call (A B : Type 0) : Type 0 where
  pub answer : (block : List ℕ) (output : B) → Outcome A
  pub leaves : (block : List ℕ) (output : B) → B

-- ".. until an answer isn't short or the want exceeds the block."
abbrev pub Stops : (block : List ℕ) → Option ℕ → Type 0
Stops block None = Unit {0}
Stops block (Some needed) = length block < needed

-- "The fetching run is a call over a whole block, ..: it reads the first 0 bytes, then as many as the last want, each attempt an early run
-- lent those bytes alone, .. Each attempt gets the output as the one before left it." Here from an attempt that is lent `given` bytes and
-- `output` on: the attempts after it are lent the lengths in `later`, and the last of them answers `last` and leaves `left`.
abbrev pub Attempts : {A B : Type 0} (call : Call A B) (block : List ℕ) (given : ℕ) (output : B) (later : List ℕ) (last : Outcome A) (left : B)
    → Type 0
Attempts call block given output [] last left =
    (call.answer (take given block) output ≡ last) × (call.leaves (take given block) output ≡ left) × Stops block (shortness last)
Attempts call block given output (next ∷ later) last left =
    (call.answer (take given block) output ≡ refusal 1 next)
    × (next ≤ length block)
    × Attempts call block next (call.leaves (take given block) output) later last left

-- "Its result carries the last answer and how many answers were short, the last included if short": each attempt before the last was short.
abbrev pub short_ones : (later : List ℕ) (last : Option ℕ) → ℕ
short_ones later None = length later
short_ones later (Some needed) = length later + 1

-- "That count is defined from the block: of the lengths just listed, take those the full run tests, in the order of reading, up to a
-- refusal or to the first that the block doesn't reach, which is included; the count is how many of them are larger than all before."
unfoldable pub short_answers : (block : List ℕ) → ℕ
short_answers block = records 0 (ends read_tex block)

-- "The texture count t is the byte at `texture_off` + 1; it is never read where the block ends before 60, the palette block's end or
-- `texture_off` + 2, or has another stamp." Where it is never read, it is 0.
unfoldable pub texture_count : (block : List ℕ) → ℕ
texture_count block =
    let h = header_of (take 60 block) in
    cond
    (leb 60 (length block)
    && has_stamp (take 60 block)
    && leb (h.pal_block_off + 8 * h.pal_block_len_shr_3) (length block)
    && leb (h.texture_off + 2) (length block))
    (number_at 1 (h.texture_off + 1) block)
    0

-- "What demand 3 says of a fetching run is one claim about the whole call: its last answer, its count and the output it leaves." Answer and
-- output are the full run's. The bound is demand 3's: "at most 6 + 2t, t being the texture count, or 0 if never read".
pub record Fetched {A B : Type 0} (call : Call A B) (block : List ℕ) (output : B) (last : Outcome A) (left : B) (count : ℕ) : Type 0 where
  pub answered : last ≡ call.answer block output
  pub leaving : left ≡ call.leaves block output
  pub counted : count ≡ short_answers block
  pub bounded : count ≤ 6 + 2 * texture_count block

-- "for a reading or a picture": the calls `nitro::tex::read_tex`, which takes no output, and `decode::picture::picture`, by their contracts.
abbrev pub reading_call : Call Counts (Unit {0})
reading_call = record { answer = λ block output. reading_of (run read_tex block); leaves = λ block output. output }

abbrev pub picture_call : (n : ℕ) (choice : Option ℕ) → Call ℕ (List ℕ)
picture_call n choice = record {
  answer = λ block output. write_outcome (picture_of n choice (run read_tex block)) output;
  leaves = λ block output. write_output (picture_of n choice (run read_tex block)) output;
}

-- A fetching run over a block, from an attempt that is lent `given` bytes and `output` on: the lengths that the attempts after it are lent, the
-- last answer, and the output that is left.
pub record Ran {A B : Type 0} (call : Call A B) (block : List ℕ) (given : ℕ) (output : B) : Type 0 where
  pub later : List ℕ
  pub last : Outcome A
  pub left : B
  pub is : Attempts call block given output later last left

-- What is claimed of fetching runs, each from 0 bytes on. `fetch_laws` of proofs/Attempts.antt proves it.
pub record FetchLaws : Type 0 where
  -- Demand 3: "A fetching run, for a reading or a picture, begins empty and is each time given bytes up to the want, until an answer isn't
  -- short or the want exceeds the block." There is such a run for every block, number, choice and output.
  pub reading_ends : (block : List ℕ) → Ran reading_call block 0 tt
  pub picture_ends : (n : ℕ) (choice : Option ℕ) (block output : List ℕ) → Ran (picture_call n choice) block 0 output
  -- "For every block, number, choice and output it ends in the full run's answer and output. Its result counts its short answers: ..": the one
  -- claim holds of every such run, with the count of its short answers.
  pub reading_comes : (block : List ℕ) (r : Ran reading_call block 0 tt)
      → Fetched reading_call block tt r.last r.left (short_ones r.later (shortness r.last))
  pub picture_comes : (n : ℕ) (choice : Option ℕ) (block output : List ℕ) (r : Ran (picture_call n choice) block 0 output)
      → Fetched (picture_call n choice) block output r.last r.left (short_ones r.later (shortness r.last))
  -- 6 + 2t is reached without a texture and with one: a bound by the texture count that holds of all blocks is at least 6 there, and 8. It is not
  -- said that 6 + 2t is reached for every t.
  pub reached : (most : ℕ → ℕ) → ((block : List ℕ) → short_answers block ≤ most (texture_count block)) → (6 ≤ most 0) × (8 ≤ most 1)
