-- Bit fields. Assumes nothing.
use Rattle.std.specs.Prelude.{ℕ, ◌-◌, ◌/◌, ◌%◌, ◌^◌, cond, ◌&&◌, ltb, leb}

-- 01, "Modules" 1: "`bits(lo, hi)` is the number in bits lo up to hi, hi not included; it is 0 unless lo < hi and hi is at most the width".
abbrev pub bit_field : (width x lo hi : ℕ) → ℕ
bit_field width x lo hi = cond (ltb lo hi && leb hi width) (x / 2 ^ lo % 2 ^ (hi - lo)) 0
