use Rattle.std.proofs.Common.{List, ℕ, subst}
use Rattle.path_merge.specs.declared.schedule.event.Event.{Event}
use Rattle.st_format.specs.Picture.{Values}
use Rattle.script_engines.specs.Rehearsal.{Said, said_by}
use Rattle.script_engines.specs.Rehearsed.{IsUnplayed, PlaysSaid}
use Rattle.script_engines.proofs.RehearsedLemmas.{plan_of, said_like, said_same, unplayed}
use Rattle.script_engines.proofs.rehearsing.play_rehearsal.Goals as goal

pub returns-clause-unplayed : goal.returns-clause-unplayed
returns-clause-unplayed g c =
    let said : Said = said_by c.args.rehearsal.now in
    let window : List ℕ = c.as_slice-2.result.now in
    let pictures : List Values = c.as_slice.result.now in
    let events : List Event = c.as_slice-3.result.now in
    let fault = c.refused_at-in-Err-played.result in
    subst (λ (s : Said). IsUnplayed fault s)
    (said_same said window pictures events c.as_slice-2.ensures.value c.as_slice.ensures.value
    c.as_slice-3.ensures.value)
    (unplayed c.play-played.result c.in-Err-played.fault fault c.line_of.result c.in-Ok.plan
    (said_like said window pictures events)
    (plan_of c.in-Ok.plan (said_like said window pictures events).heading c.in-Ok.ensures.made
    c.facts.ensures.full)
    (record {
      window = c.play-played.ensures.window.0;
      double = c.play-played.ensures.double.0;
      pictures = c.play-played.ensures.pictures.0;
      receivers = c.play-played.ensures.receivers.0;
      event = c.play-played.ensures.event;
    })
    c.in-Err-played.is c.refused_at-in-Err-played.ensures)

pub returns-in-Ok-played-clause-plays : goal.returns-in-Ok-played-clause-plays
returns-in-Ok-played-clause-plays g c =
    let said : Said = said_by c.args.rehearsal.now in
    let window : List ℕ = c.as_slice-2.result.now in
    let pictures : List Values = c.as_slice.result.now in
    let events : List Event = c.as_slice-3.result.now in
    let plays : PlaysSaid c.in-Ok-played.played (said_like said window pictures events) = record {
      plan = c.in-Ok.plan;
      plan_is =
          plan_of c.in-Ok.plan (said_like said window pictures events).heading
          c.in-Ok.ensures.made c.facts.ensures.full;
      window = c.in-Ok-played.ensures.fine.0;
      pictures = c.in-Ok-played.ensures.fine.1;
      receivers = c.in-Ok-played.ensures.fine.2;
      played_is = c.in-Ok-played.ensures.played;
      list = c.in-Ok-played.ensures.list;
      packets = c.in-Ok-played.ensures.packets;
      senders = c.in-Ok-played.ensures.senders;
    } in
    subst (λ (s : Said). PlaysSaid c.in-Ok-played.played s)
    (said_same said window pictures events c.as_slice-2.ensures.value c.as_slice.ensures.value
    c.as_slice-3.ensures.value) plays
