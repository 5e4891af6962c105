use Rattle.std.proofs.Common.{◌≡◌, ◌∙◌, [], arith, inl, sym}
use Rattle.std.proofs.lemmas.Bool.{eqb-true}
use Rattle.std.proofs.lemmas.List.{nil_from_length}
use Rattle.script_engines.proofs.RehearsedLemmas.{on_ok_map}
use Rattle.script_engines.proofs.rehearsal.read_body_line.Goals as goal

pub returns-in-Some-clause-adds : goal.returns-in-Some-clause-adds
returns-in-Some-clause-adds g c =
    let events = c.args.rehearsal.now.events in
    let zero : events.len ≡ 0 =
    eqb-true events.len 0 (sym c.is_empty.ensures ∙ c.if-not-is_empty.false) in
    let none : events.items ≡ [] =
    nil_from_length events.items (omega (arith, events.ok, zero)) in
    on_ok_map c.add_picture.result
    (λ q. inl (
      q.0,
      record {
        digits = c.in-Some.digits.now;
        text_is = c.in-Some.ensures.cases;
        picture_is = q.1;
      },
      none,
      c.add_picture.ensures.events ∙ none,
      q.2,
    ))
    c.add_picture.ensures.picture
