-- Fourteen calls that read the block that they take: a name list, the layout, a block with its layout, the reading, the records, the data parts, the
-- palette block and its place, a picture's places, rows, pictures and images. A law that is to hold of all of them is stated once, over a call as a
-- value; `BlockCalls` of that law has a field for each call. So a call that is added here owes every law of the list.
--
-- Not here: the forms by a block that was read or by places, which are handed what a reading of the same bytes found; fetching runs, which are lent the whole
-- block (`stream` specs/Fetch.antt); the listing, which has a text also for a block that is refused, and so another text for a block that is cut;
-- and `show::show`, which takes a file and is `pam` for one that is not too long. A form for C is not here either: it tells what these calls answer and leave,
-- by equations over that alone (`told` specs/Told.antt), so what a law says of the call it says of the form. Assumes nothing.
use Rattle.std.specs.Prelude.{ℕ, List, [], Option}
use Rattle.util.specs.Outcome.{Outcome, result}
use Rattle.errors.specs.declared.Kind.{Kind}
use Rattle.output.specs.Output.{write_outcome, write_output}
use Rattle.scripts.specs.Script.{run, outcome_of}
use Rattle.info_block.specs.InfoBlock.{NameList, name_list}
use Rattle.reading.specs.Tex.{read_tex}
use Rattle.reading.specs.Layouts.{layout_answer}
use Rattle.layout.specs.declared.Layout.{Layout}
use Rattle.nitro.specs.Calls as Calls
use Rattle.nitro.specs.declared.tex.Counts.{Counts}
use Rattle.nitro.specs.declared.tex.TextureRecord.{TextureRecord}
use Rattle.nitro.specs.declared.tex.PaletteRecord.{PaletteRecord}
use Rattle.places.specs.Sources.{places_of, pal_place_of}
use Rattle.rows.specs.Rows.{rows_of}
use Rattle.layout.specs.declared.Place.{Place}
use Rattle.places.specs.declared.Places.{Places}
use Rattle.decode.specs.Pictures.{picture_of}
use Rattle.pam.specs.Pam.{pam_of}

-- A call, with all that it is given but the block: on a block it gives `answer`, and `beside` it an output, a record or a part, which is
-- `declined` where the call is declined.
pub record BlockCall (A B : Type 0) : Type 0 where
  pub answer : List ℕ → Outcome A
  pub beside : List ℕ → B
  pub declined : B

-- A call that gives nothing beside its answer.
abbrev pub nothing : List ℕ → Unit {0}
nothing block = tt

abbrev pub answering : {A : Type 0} → (List ℕ → Outcome A) → BlockCall A (Unit {0})
answering answer = record { answer = answer; beside = nothing; declined = tt }

-- A call that writes what it makes to an output.
abbrev pub writing : (made : List ℕ → Outcome (List ℕ)) (output : List ℕ) → BlockCall ℕ (List ℕ)
writing made output = record { answer = λ b. write_outcome (made b) output; beside = λ b. write_output (made b) output; declined = output }

-- Each call, by its name in the code: what its contract says that it answers and leaves.
-- `info_block::read`: a list, its count and its bytes.
abbrev pub block_read : (kind : Kind) (pos : ℕ) → BlockCall NameList (Unit {0})
block_read kind pos = answering (λ b. outcome_of (run (name_list kind pos) b) result)

-- `reading::lay_out`: a block's layout.
abbrev pub block_lay_out : BlockCall Layout (Unit {0})
block_lay_out = answering (λ b. layout_answer b (run read_tex b))

-- `reading::tex::Tex::read`: a block with its layout. The block in it is the one that the call was handed, so what the call finds out is the layout.
abbrev pub block_tex : BlockCall Layout (Unit {0})
block_tex = answering (λ b. layout_answer b (run read_tex b))

-- `nitro::tex::read_tex`: a reading's counts.
abbrev pub block_read_tex : BlockCall Counts (Unit {0})
block_read_tex = answering (λ b. Calls.reading_of (run read_tex b))

-- `nitro::tex::texture` and `nitro::tex::palette`: a record; beside it that of `texture_or_blank` and of `palette_or_blank`, which is blank where it is
-- refused.
abbrev pub block_texture : (i : ℕ) → BlockCall TextureRecord TextureRecord
block_texture i = record {
  answer = λ b. Calls.texture_of i (run read_tex b);
  beside = λ b. Calls.value_or Calls.no_texture (Calls.texture_of i (run read_tex b));
  declined = Calls.no_texture;
}

abbrev pub block_palette : (i : ℕ) → BlockCall PaletteRecord PaletteRecord
block_palette i = record {
  answer = λ b. Calls.palette_of i (run read_tex b);
  beside = λ b. Calls.value_or Calls.no_palette (Calls.palette_of i (run read_tex b));
  declined = Calls.no_palette;
}

-- `nitro::tex::texture_data1` and `texture_data2`: a data part, and beside which answer it is empty. 01, "When a call is declined": "A
-- declined data part is empty, and the record call for that number names the refusal."
abbrev pub block_data1 : (i : ℕ) → BlockCall TextureRecord (List ℕ)
block_data1 i = record { answer = λ b. Calls.texture_of i (run read_tex b); beside = λ b. Calls.data1_of i (run read_tex b); declined = [] }

abbrev pub block_data2 : (i : ℕ) → BlockCall TextureRecord (List ℕ)
block_data2 i = record { answer = λ b. Calls.texture_of i (run read_tex b); beside = λ b. Calls.data2_of i (run read_tex b); declined = [] }

-- `nitro::tex::pal_block`: the palette block, whose refusal is the reading's.
abbrev pub block_pal_block : BlockCall Counts (List ℕ)
block_pal_block = record { answer = λ b. Calls.reading_of (run read_tex b); beside = λ b. Calls.pal_block_of (run read_tex b); declined = [] }

-- `places::pal_place`: where the palette block is.
abbrev pub block_pal_place : BlockCall Place (Unit {0})
block_pal_place = answering (λ b. pal_place_of b (run read_tex b))

-- `places::locate`: where a picture's parts are.
abbrev pub block_locate : (i : ℕ) (choice : Option ℕ) → BlockCall Places (Unit {0})
block_locate i choice = answering (λ b. places_of i choice b (run read_tex b))

-- `rows::rows`: how many numbers all rows of a kind have, and the output as the call leaves it.
abbrev pub block_rows : (kind : Kind) (output : List ℕ) → BlockCall ℕ (List ℕ)
block_rows kind output = writing (λ b. rows_of kind b (run read_tex b)) output

-- `decode::picture::picture`: a picture's length, and the output as the call leaves it.
abbrev pub block_picture : (i : ℕ) (choice : Option ℕ) (output : List ℕ) → BlockCall ℕ (List ℕ)
block_picture i choice output = writing (λ b. picture_of i choice (run read_tex b)) output

-- `pam::pam`: the length of a picture's image, and the output as the call leaves it.
abbrev pub block_pam : (i : ℕ) (choice : Option ℕ) (output : List ℕ) → BlockCall ℕ (List ℕ)
block_pam i choice output = writing (λ b. pam_of i choice (run read_tex b)) output

-- All of them, under a law: for every number, kind, choice and output.
pub record BlockCalls (Law : (A B : Type 0) → BlockCall A B → Type 0) : Type 0 where
  pub read : (kind : Kind) (pos : ℕ) → Law _ _ (block_read kind pos)
  pub lay_out : Law _ _ block_lay_out
  pub tex : Law _ _ block_tex
  pub read_tex_lem : Law _ _ block_read_tex
  pub texture : (i : ℕ) → Law _ _ (block_texture i)
  pub palette : (i : ℕ) → Law _ _ (block_palette i)
  pub texture_data1 : (i : ℕ) → Law _ _ (block_data1 i)
  pub texture_data2 : (i : ℕ) → Law _ _ (block_data2 i)
  pub pal_block_lem : Law _ _ block_pal_block
  pub pal_place : Law _ _ block_pal_place
  pub locate : (i : ℕ) (choice : Option ℕ) → Law _ _ (block_locate i choice)
  pub rows : (kind : Kind) (output : List ℕ) → Law _ _ (block_rows kind output)
  pub picture : (i : ℕ) (choice : Option ℕ) (output : List ℕ) → Law _ _ (block_picture i choice output)
  pub pam : (i : ℕ) (choice : Option ℕ) (output : List ℕ) → Law _ _ (block_pam i choice output)
