-- Arguments, as texts. Assumes nothing.
use Rattle.std.specs.Prelude.{None, Some}
use mathlib.Core.Path.{◌≡◌, refl}
use mathlib.Core.List.{[]}
use Rattle.text.specs.Text.{ascii}
use Rattle.arguments.specs.Arguments.{all_digits, spelled_from, number_of, is_dash, choice_of}

pub record Examples : Type 0 where
  pub twelve : number_of (ascii "12") ≡ Some 12
  pub leading_zeros : number_of (ascii "007") ≡ Some 7
  pub above_all : number_of (ascii "65536") ≡ Some 65535
  pub no_digits : number_of [] ≡ None
  pub another_byte : number_of (ascii "1x") ≡ None
  pub dash : choice_of (ascii "-") ≡ Some None
  pub two_dashes : choice_of (ascii "--") ≡ None

-- Each by computation.
pub examples : Examples
unfolding ascii all_digits spelled_from number_of is_dash choice_of
examples = record {
  twelve = refl;
  leading_zeros = refl;
  above_all = refl;
  no_digits = refl;
  another_byte = refl;
  dash = refl;
  two_dashes = refl;
}
