use Rattle.std.proofs.Common.{List, Option, subst, ℕ}
use Rattle.recording_reader.specs.FileReader.{TellsTurn}
use Rattle.side_by_side.specs.Sides.{LendsSides, hand_at}
use Rattle.side_by_side.specs.declared.side.Side.{Side}
use Rattle.side_by_side.proofs.Sound.{tells_end, tells_lent}
use Rattle.side_by_side.proofs.sides.SideBySide.take_next.Goals as goal

pub returns-in-Ok-Some-clause-told : goal.returns-in-Ok-Some-clause-told
returns-in-Ok-Some-clause-told g c =
    let w = c.in-Ok-Some in
    let old = c.args.self.now in
    let new = c.advance.new.self in
    tells_lent c.tell_at.result c.tell_at.new.buf old new w.place
    (subst (λ (at : Option ℕ). LendsSides at old new) w.field-0-is w.ensures.lent)
    (subst (λ (ss : List (Side _ _)).
    TellsTurn (hand_at ss w.place) c.tell_at.result c.tell_at.new.buf) c.sides.ensures
    c.tell_at.ensures.told)

pub returns-in-Ok-None-clause-told : goal.returns-in-Ok-None-clause-told
returns-in-Ok-None-clause-told g c =
    let w = c.in-Ok-None in
    let old = c.args.self.now in
    let new = c.advance.new.self in
    tells_end c.args.buf.now old new
    (subst (λ (at : Option ℕ). LendsSides at old new) w.field-0-is w.ensures.lent)
