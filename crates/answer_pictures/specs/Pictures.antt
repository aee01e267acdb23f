-- The part of a block's answer that has the pictures of its textures: the program `replay` says what stands there. Assumes nothing.
use Rattle.std.specs.Prelude.{ℕ, zero, suc, ◌%◌, cond, eqb, List, Option, None, Some}
use Rattle.scripts.specs.Script.{run}
use Rattle.reading.specs.Tex.{read_tex}
use Rattle.decode.specs.Pictures.{picture_of}
use Rattle.answer_bytes.specs.Answer.{with_picture}

-- The answer with the picture of texture n behind it.
abbrev pub with_one : (block : List ℕ) (n : ℕ) (choice : Option ℕ) (answer : List ℕ) → List ℕ
with_one block n choice answer = with_picture answer (picture_of n choice (run read_tex block))

-- The same for both of its pictures: without a palette, and, where there is any palette, with the one whose number is the texture's modulo
-- the number of palettes.
unfoldable pub with_both : (block : List ℕ) (palettes n : ℕ) (answer : List ℕ) → List ℕ
with_both block palettes n answer =
    let first = with_one block n None answer in
    cond (eqb palettes 0) first (with_one block n (Some (n % palettes)) first)

-- And for the first `textures` textures.
unfoldable pub with_pictures : (block : List ℕ) (palettes textures : ℕ) (answer : List ℕ) → List ℕ
with_pictures block palettes zero answer = answer
with_pictures block palettes (suc n) answer = with_both block palettes n (with_pictures block palettes n answer)
