-- What 01's section "Listing program" prints, and the lines of refused inputs. Assumes nothing.
use mathlib.Core.Path.{◌≡◌, refl}
use mathlib.Core.List.{[], ◌∷◌, ◌++◌}
use lib.ListN.{take, replicate}
use Rattle.util.specs.Number.{number_at}
use Rattle.nds.specs.Params.{width, height}
use Rattle.nds.specs.Formats.{alpha, alpha_word, data_length}
use Rattle.nds.specs.Wrap.{wrap_word}
use Rattle.name.specs.Name.{trimmed, safe_text}
use Rattle.scripts.specs.Script.{run, outcome_of, bytes_at, expect, each_from, ◌>>=◌, ◌>>◌}
use Rattle.info_block.specs.InfoBlock.{whole_list, name_list}
use Rattle.reading.specs.Tex.{header_of, read_header, read_pal_block, read_second, read_data, read_texture, read_textures, read_palettes, read_tex}
use Rattle.layout.specs.Positions.{data_at}
use Rattle.nitro.proofs.Sample.{leaf, sample}
use Rattle.text.specs.Text.{ascii, decimal_below, decimal, line}
use Rattle.output.specs.Output.{pieces_from}
use Rattle.lines.specs.Lines.{texture_line, palette_line}
use Rattle.refused.specs.Refused.{refused_line}
use Rattle.listing.specs.Listing.{headed, lists_of, listing_outcome, listing_text}

pub record Examples : Type 0 where
  -- "It prints: .."
  pub sample_listing : listing_text sample ≡ ascii "textures 1\n0 leaf 3 8 8 repeat clamp transparent\npalettes 1\n0 leaf 0\n"
  -- and that byte by byte, a line a row: "lines ended by 0A hex", "One space parts fields"
  pub sample_bytes : listing_text sample
      ≡ (0x74 ∷ 0x65 ∷ 0x78 ∷ 0x74 ∷ 0x75 ∷ 0x72 ∷ 0x65 ∷ 0x73 ∷ 0x20 ∷ 0x31 ∷ 0x0A ∷ [])
      ++ (0x30 ∷ 0x20 ∷ 0x6C ∷ 0x65 ∷ 0x61 ∷ 0x66 ∷ 0x20 ∷ 0x33 ∷ 0x20 ∷ 0x38 ∷ 0x20 ∷ 0x38 ∷ 0x20 ∷ 0x72 ∷ 0x65 ∷ 0x70 ∷ 0x65 ∷ 0x61 ∷ 0x74 ∷ 0x20 ∷ 0x63 ∷ 0x6C ∷ 0x61 ∷ 0x6D ∷ 0x70 ∷ 0x20
      ∷ 0x74 ∷ 0x72 ∷ 0x61 ∷ 0x6E ∷ 0x73 ∷ 0x70 ∷ 0x61 ∷ 0x72 ∷ 0x65 ∷ 0x6E ∷ 0x74 ∷ 0x0A ∷ [])
      ++ (0x70 ∷ 0x61 ∷ 0x6C ∷ 0x65 ∷ 0x74 ∷ 0x74 ∷ 0x65 ∷ 0x73 ∷ 0x20 ∷ 0x31 ∷ 0x0A ∷ [])
      ++ (0x30 ∷ 0x20 ∷ 0x6C ∷ 0x65 ∷ 0x61 ∷ 0x66 ∷ 0x20 ∷ 0x30 ∷ 0x0A ∷ [])
  -- "Sample cut to 59 bytes: want 60; to 60 or 207: want 208": as lines, and that of no input at all
  pub sample_59 : listing_text (take 59 sample) ≡ ascii "refused 1 60\n"
  pub sample_60 : listing_text (take 60 sample) ≡ ascii "refused 1 208\n"
  pub sample_207 : listing_text (take 207 sample) ≡ ascii "refused 1 208\n"
  pub empty_input : listing_text [] ≡ ascii "refused 1 60\n"
  -- "program's standard input over 65,536 bytes", and one that is not over
  pub zeros_65536 : listing_text (replicate 65536 0) ≡ ascii "refused 2 0\n"
  pub zeros_65537 : listing_text (replicate 65537 0) ≡ ascii "refused 13 0\n"

-- Each by computation.
pub examples : Examples
unfolding width height alpha data_length number_at run outcome_of bytes_at expect each_from ◌>>=◌ ◌>>◌ whole_list name_list trimmed safe_text
    header_of data_at read_header read_pal_block read_second read_data read_texture read_textures read_palettes read_tex leaf sample
    ascii decimal_below decimal line wrap_word alpha_word texture_line palette_line pieces_from headed lists_of refused_line listing_outcome listing_text
examples = record {
  sample_listing = refl;
  sample_bytes = refl;
  sample_59 = refl;
  sample_60 = refl;
  sample_207 = refl;
  empty_input = refl;
  zeros_65536 = refl;
  zeros_65537 = refl;
}
