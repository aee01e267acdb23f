-- `arguments::parse_number` meets its contract: a whole run reads digits alone and comes to their fold, and a run that broke off ends at another byte.
-- Assumes nothing.
use Rattle.std.proofs.Common.{rules, tests, ◌≡◌, Bool, true, false, MatchBool, refl}
use Rattle.arguments.proofs.Spellings.{one_more, digits_spelled, other_spelled}
use Rattle.arguments.proofs.parse_number.Goals as goal

by_whole : (w : Bool) {P Q C : Type 0} → MatchBool w P Q → (w ≡ true → P → C) → (w ≡ false → Q → C) → C
by_whole true h f g = f refl h
by_whole false h f g = g refl h

-- src/lib.rt:23:1
pub returns : goal.returns
returns c =
    let (p, e, h) = c.try_fold.ensures.runs in
    let (_, _, reads, _, _, folds, _, _, _) = c.iter.ensures.runs p p.seen in
    let text = c.args.text.now in
    by_whole p.whole h
    (λ q (a, r, f, all).
    let total = f (λ n b. one_more n b.now) (λ b x v c' f' d k. (refl, search (rules, tests))) in
    let same = folds one_more 0 q in
    let spelled = digits_spelled text (search rules) (λ k l. search (rules, all (λ _ _ _ _. refl) k, reads k 0)) in
    search (rules, spelled, total, same, r, e))
    (λ q (b, r, any, last).
    let (k, l, x) = any (λ _ _ _ _. refl) in
    rw (r, other_spelled text k (search (rules, x, reads k 48 l))))
