use Rattle.std.proofs.Common.{◌≡◌, Ok, Err, rules, sym, ◌∙◌}
use Rattle.capture_engines.proofs.Ways.{way_past, way_there}
use Rattle.capture_engines.proofs.way.Way.at.Goals as goal

pub returns-in-Some-Ok : goal.returns-in-Some-Ok
returns-in-Some-Ok c =
    let w = c.in-Some-Ok in
    let found = w.ensures.lookup in
    let is : w.field-0.now ≡ Ok w.flows = search rules in
    sym (way_there c.args.ways.now c.args.place w.field-0.now (Ok w.flows) found.3.0
    (sym found.1 ∙ is))

pub returns-in-Some-Err : goal.returns-in-Some-Err
returns-in-Some-Err c =
    let w = c.in-Some-Err in
    let found = w.ensures.lookup in
    let is : w.field-0.now ≡ Err w.refusal = search rules in
    sym (way_there c.args.ways.now c.args.place w.field-0.now (Err w.refusal) found.3.0
    (sym found.1 ∙ is))

pub returns-in-None : goal.returns-in-None
returns-in-None c = sym (way_past c.args.ways.now c.args.place c.in-None.ensures.lookup.3)
