-- Headers, as texts. Assumes nothing.
use mathlib.Core.Path.{◌≡◌, refl}
use lib.ListN.{length}
use Rattle.nds.specs.Params.{width, height}
use Rattle.text.specs.Text.{ascii, decimal_below, decimal, line}
use Rattle.pam.specs.Pam.{last_lines, header_text}

pub record Examples : Type 0 where
  -- the header of 01's sample, 8 by 8
  pub sample_header : header_text 0x2C010000 ≡ ascii "P7\nWIDTH 8\nHEIGHT 8\nDEPTH 4\nMAXVAL 255\nTUPLTYPE RGB_ALPHA\nENDHDR\n"
  -- the longest header: "Word 1FF0FFFF hex: 1024 by 1024"
  pub longest_header : length (header_text 0x1FF0FFFF) ≡ 71

-- Each by computation.
pub examples : Examples
unfolding width height ascii decimal_below decimal line last_lines header_text
examples = record {
  sample_header = refl;
  longest_header = refl;
}
