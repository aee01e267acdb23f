-- `Answer::put_drawn` meets its contract: what `draw` drew to the unwritten room is what is put, and the room behind it is as unwritten as it is said to
-- be. Assumes nothing.
use Rattle.std.proofs.Common.{rules}
use Rattle.answer_bytes.proofs.Extended.{drawn, refused}
use Rattle.answer_bytes.proofs.Rest.{filled_again, within_room, end_within, rest_drawn, rest_refused}
use Rattle.answer_bytes.proofs.Answer.put_drawn.Goals as goal

pub returns-in-Ok : goal.returns-in-Ok
returns-in-Ok g c =
    drawn g.F.FnOnce c.args.draw c.args.self.now c.self-2.inside.room c.self-2.inside.len _ _ c.self-2.invariant.0 (search rules) (search rules)
    (filled_again c.self-2.inside.room _ c.self-2.inside.len c.self-2.inside.written _ (search rules) c.saturating_sub-written.ensures c.self-2.invariant.1
    c.self-2.invariant.0 (search rules) c.self-2.invariant.2)
    c.draw.ensures c.in-Ok.is (search rules) (search rules)

pub returns-in-Err : goal.returns-in-Err
returns-in-Err g c =
    refused g.F.FnOnce c.args.draw c.args.self.now c.self-2.inside.room c.self-2.inside.len _ _ c.self-2.invariant.0 (search rules) (search rules)
    (filled_again c.self-2.inside.room _ c.self-2.inside.len c.self-2.inside.written _ (search rules) c.saturating_sub-written.ensures c.self-2.invariant.1
    c.self-2.invariant.0 (search rules) c.self-2.invariant.2)
    c.self.inside.len c.self.inside.room c.draw.ensures c.in-Err.is c.self.invariant.0 (search rules) c.self.view_is (search rules)

pub invariant_of-self : goal.invariant_of-self
invariant_of-self g c = (
  end_within c.self-2.inside.len _ _ c.min.ensures (search rules) c.self-2.invariant.0,
  within_room c.args.keeps _ c.written_to-self-inside.ensures (end_within c.self-2.inside.len _ _ c.min.ensures (search rules) c.self-2.invariant.0),
  rest_drawn g.F.FnOnce c.args.draw c.self-2.inside.room c.self-2.inside.len _ _ c.args.keeps c.requires.keeps c.self-2.invariant.0 (search rules) (search rules)
      (filled_again c.self-2.inside.room _ c.self-2.inside.len c.self-2.inside.written _ (search rules) c.saturating_sub-written.ensures c.self-2.invariant.1
      c.self-2.invariant.0 (search rules) c.self-2.invariant.2)
      c.draw.ensures c.in-Ok.is c.min.ensures c.written_to-self-inside.ensures,
)

pub invariant_of-self-in-Err : goal.invariant_of-self-in-Err
invariant_of-self-in-Err g c = (
  c.self.invariant.0,
  within_room c.args.keeps _ c.written_to-self-inside-in-Err.ensures c.self-2.invariant.0,
  rest_refused g.F.FnOnce c.args.draw c.self-2.inside.room c.self-2.inside.len _ _ c.args.keeps c.requires.keeps c.self-2.invariant.0 (search rules) (search rules)
      (filled_again c.self-2.inside.room _ c.self-2.inside.len c.self-2.inside.written _ (search rules) c.saturating_sub-written.ensures c.self-2.invariant.1
      c.self-2.invariant.0 (search rules) c.self-2.invariant.2)
      c.draw.ensures c.in-Err.is c.written_to-self-inside-in-Err.ensures,
)
