-- `Answer::new` meets its contract: the room is filled, so all of it is unwritten. Assumes nothing.
use Rattle.std.proofs.Common.{rules, arith, ◌∙◌, ap, ℕ, replicate}
use Rattle.std.proofs.lemmas.List.{length-replicate}
use Rattle.answer_bytes.specs.declared.TheConstants.{ROOM, UNWRITTEN}
use Rattle.answer_bytes.proofs.Answer.new.Goals as goal

pub invariant_of-answer : goal.invariant_of-answer
invariant_of-answer c = (omega arith, omega arith, c.fill.ensures.after (λ y same. search rules) ∙ ap (λ n. replicate n UNWRITTEN) (length-replicate {A = ℕ} ROOM 0))
