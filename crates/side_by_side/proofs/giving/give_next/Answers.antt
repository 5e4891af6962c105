use Rattle.std.proofs.Common.{◌∙◌, sym}
use Rattle.side_by_side.proofs.Told.{all_were, given_end, given_place}
use Rattle.side_by_side.proofs.giving.give_next.Goals as goal

pub returns-in-Some-clause-begun : goal.returns-in-Some-clause-begun
returns-in-Some-clause-begun g c = c.give_at.ensures.begun ∙ c.in_ok-read_all.ensures.begun

pub returns-in-Some-clause-given : goal.returns-in-Some-clause-given
returns-in-Some-clause-given g c =
    given_place c.args.steering c.args.sides.now c.read_all.new.sides c.give_at.new.sides
    c.in-Some.place c.in-Some.field-0-1 c.in_ok-read_all.ensures.read
    (sym c.in-Some.ensures.first) c.give_at.ensures.given

pub returns-in-Some-clause-unfailed : goal.returns-in-Some-clause-unfailed
returns-in-Some-clause-unfailed g c =
    c.give_at.ensures.unfailed c.in_ok-read_all.ensures.unfailed

pub returns-in-Some-clause-were : goal.returns-in-Some-clause-were
returns-in-Some-clause-were g c =
    all_were c.args.steering c.args.sides.now c.read_all.new.sides c.in_ok-read_all.ensures.read

pub returns-in-Some-clause-device : goal.returns-in-Some-clause-device
returns-in-Some-clause-device g c =
    λ unfailed. c.give_at.ensures.failures ∙ c.in_ok-read_all.ensures.device unfailed

pub returns-in-None-clause-given : goal.returns-in-None-clause-given
returns-in-None-clause-given g c =
    given_end c.args.steering c.args.sides.now c.read_all.new.sides
    c.in_ok-read_all.ensures.read (sym c.in-None.ensures.first)

pub returns-in-None-clause-were : goal.returns-in-None-clause-were
returns-in-None-clause-were g c =
    all_were c.args.steering c.args.sides.now c.read_all.new.sides c.in_ok-read_all.ensures.read
