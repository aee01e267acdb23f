-- How long the lines are at most. Assumes nothing.
use Prim.Native.Nat.{ℕ, ◌^◌, ◌≤◌, ◌<◌}
use native.Mathlib.Omega.{arith}
use lib.ListN.{length, length-append}
use lib.Dec.{lit≤}
use Rattle.nds.specs.Params.{format, width, height}
use Rattle.nds.specs.Formats.{alpha_word}
use Rattle.nds.specs.Wrap.{wrap_word}
use Rattle.nds.specs.declared.texture_formats.Alpha.{Alpha}
use Rattle.nds.specs.declared.texture_formats.Alpha.TheVariants.{Opaque, Transparent, Translucent}
use Rattle.nds.specs.declared.wrap.Wrap.{Wrap}
use Rattle.nds.specs.declared.wrap.Wrap.TheVariants.{Clamp, Repeat, Mirror}
use Rattle.nds.proofs.Sizes.{width_le, height_le}
use Rattle.name.specs.Name.{safe_text}
use Rattle.name.proofs.Texts.{safe_within}
use Rattle.nitro.specs.declared.tex.TextureRecord.{TextureRecord}
use Rattle.nitro.specs.declared.tex.PaletteRecord.{PaletteRecord}
use Rattle.text.specs.Text.{ascii, decimal, line}
use Rattle.text.proofs.Decimals.{decimal_length}
use Rattle.lines.specs.Lines.{texture_line, palette_line}

-- the words
wrap_length : (w : Wrap) → length (wrap_word w) ≤ 6
unfolding wrap_word
wrap_length Clamp = lit≤ tt
wrap_length Repeat = lit≤ tt
wrap_length Mirror = lit≤ tt

alpha_length : (a : Alpha) → length (alpha_word a) ≤ 11
unfolding alpha_word
alpha_length Opaque = lit≤ tt
alpha_length Transparent = lit≤ tt
alpha_length Translucent = lit≤ tt

-- the lines
pub texture_length : (n : ℕ) (t : TextureRecord) → n < 256 → length t.name.0 ≤ 16 → length (texture_line n t) ≤ 59
unfolding texture_line line ascii
texture_length n t h name =
    let w = t.params.0 in
    let number : length (decimal n) ≤ 3 = decimal_length n 2 (omega arith) in
    let text : length (safe_text t.name.0) ≤ 16 = omega (arith, safe_within t.name.0) in
    let digit : length (decimal (format w)) ≤ 1 = decimal_length (format w) 0 (omega arith) in
    let columns : length (decimal (width w)) ≤ 4 = decimal_length (width w) 3 (omega (arith, width_le w)) in
    let rows : length (decimal (height w)) ≤ 4 = decimal_length (height w) 3 (omega (arith, height_le w)) in
    simp length-append (omega (arith, wrap_length t.wrap_s, wrap_length t.wrap_t, alpha_length t.alpha))

pub palette_length : (n : ℕ) (p : PaletteRecord) → n < 256 → length p.name.0 ≤ 16 → p.off < 2 ^ 19 → length (palette_line n p) ≤ 28
unfolding palette_line line ascii
palette_length n p h name off =
    let number : length (decimal n) ≤ 3 = decimal_length n 2 (omega arith) in
    let text : length (safe_text p.name.0) ≤ 16 = omega (arith, safe_within p.name.0) in
    let offset : length (decimal p.off) ≤ 6 = decimal_length p.off 5 (omega arith) in
    simp length-append (omega arith)
