-- The law on early runs, for each call in the list of block calls. Assumes nothing.
use Prim.Native.Nat.{ℕ, ◌≤◌}
use mathlib.Core.List.{List}
use native.Mathlib.Omega.{arith}
use lib.ListN.{length, take}
use Rattle.util.specs.Outcome.{Outcome}
use Rattle.scripts.specs.Script.{Script}
use Rattle.scripts.proofs.Early.{early_settled, early_waits}
use Rattle.scripts.proofs.Runs.{run_short}
use Rattle.laws.specs.Prefix.{Prefix, PrefixLaws}
use Rattle.laws.proofs.Calls.{Scripted, list_scripted, lay_out_scripted, reading_scripted, texture_scripted, palette_scripted, data1_scripted}
use Rattle.laws.proofs.Calls.{data2_scripted, pal_block_scripted, pal_place_scripted, locate_scripted, rows_scripted, picture_scripted, pam_scripted}

-- from the law on scripts, for every call that goes by what a script comes to
module _ {A B C : Type 0} (s : Script A) {answer : List ℕ → Outcome B} {beside : List ℕ → C} {declined : C} where
  pub prefix_law : Scripted s answer beside declined → Prefix answer beside declined
  prefix_law call b n h = record {
    settled = λ never. call.same b n up_to (early_settled s b n up_to (λ w e. never w (call.at_short (take n b) w e).0)).0;
    short =
        λ w e.
        let stopped = call.only_short (take n b) w e in (
          (call.at_short (take n b) w stopped).1,
          (
            (λ full. run_short s b (call.only_short b w full)),
            (λ fewer. (call.at_short b w ((early_waits s b n up_to stopped).out fewer).0).0),
          ),
        );
  }
    where
      up_to : n ≤ length b
      up_to = omega (arith, h)

-- and so for each
pub arriving : PrefixLaws
arriving = record {
  read = λ kind pos. prefix_law _ (list_scripted kind pos);
  lay_out = prefix_law _ lay_out_scripted;
  tex = prefix_law _ lay_out_scripted;
  read_tex_lem = prefix_law _ reading_scripted;
  texture = λ i. prefix_law _ (texture_scripted i);
  palette = λ i. prefix_law _ (palette_scripted i);
  texture_data1 = λ i. prefix_law _ (data1_scripted i);
  texture_data2 = λ i. prefix_law _ (data2_scripted i);
  pal_block_lem = prefix_law _ pal_block_scripted;
  pal_place = prefix_law _ pal_place_scripted;
  locate = λ i choice. prefix_law _ (locate_scripted i choice);
  rows = λ kind output. prefix_law _ (rows_scripted kind output);
  picture = λ i choice output. prefix_law _ (picture_scripted i choice output);
  pam = λ i choice output. prefix_law _ (pam_scripted i choice output);
}
