-- Pictures as PAM images: Netpbm's pam(5). Assumes nothing.
use Rattle.std.specs.Prelude.{ℕ, List, [], ◌∷◌, ◌++◌, Option}
use Rattle.util.specs.Outcome.{Outcome, result, refusal, ◌>>=◌}
use Rattle.nds.specs.Params.{width, height}
use Rattle.scripts.specs.Script.{Answer}
use Rattle.reading.specs.Tex.{Contents}
use Rattle.places.specs.Sources.{Sources, sources_of}
use Rattle.decode.specs.Pictures.{decoded, picture_of}
use Rattle.text.specs.Text.{ascii, decimal, line}

-- pam(5): "The header begins with the ASCII characters "P7" followed by newline", and "ENDHDR This is the last line in the header". In the
-- lines between, "the second token is a decimal number representing" the width, the height, the depth, which is the number of bytes of a
-- texel, and the maxval. The tuple type "RGB_ALPHA" is that of red, green, blue and opacity, the order that 01 has.
unfoldable pub last_lines : List ℕ
last_lines =
    line (ascii "DEPTH" ∷ decimal 4 ∷ [])
    ++ (line (ascii "MAXVAL" ∷ decimal 255 ∷ []) ++ (line (ascii "TUPLTYPE" ∷ ascii "RGB_ALPHA" ∷ []) ++ line (ascii "ENDHDR" ∷ [])))

unfoldable pub header_text : (word : ℕ) → List ℕ
header_text w =
    line (ascii "P7" ∷ [])
    ++ (line (ascii "WIDTH" ∷ decimal (width w) ∷ []) ++ (line (ascii "HEIGHT" ∷ decimal (height w) ∷ []) ++ last_lines))

-- A header in front of a picture, if one is made; and so the image of what a picture is made from.
abbrev pub headed : (header : List ℕ) → Outcome (List ℕ) → Outcome (List ℕ)
headed header (result picture) = result (header ++ picture)
headed header (refusal number returned) = refusal number returned

abbrev pub image_of : Sources → Outcome (List ℕ)
image_of s = headed (header_text s.word) (decoded s)

-- "Each PAM image consists of a header followed immediately by a raster", which is "each row of the image, in order from top to bottom", as
-- a picture's bytes are. The image is that of texture n with the chosen palette. What is refused, and in which order, is the picture's.
unfoldable pub pam_of : (n : ℕ) → Option ℕ → Answer Contents → Outcome (List ℕ)
pam_of n choice a = do
  sources ← sources_of n choice a
  picture ← picture_of n choice a
  result (header_text sources.word ++ picture)
