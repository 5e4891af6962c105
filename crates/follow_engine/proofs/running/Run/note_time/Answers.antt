use Rattle.std.proofs.Common.{Bool, Some, subst}
use Rattle.follow_engine.specs.Events.{IsAnewAt}
use Rattle.follow_engine.specs.Running.{running_of}
use Rattle.follow_engine.proofs.Noting.{noted_time}
use Rattle.follow_engine.proofs.running.Run.note_time.Goals as goal

pub returns-clause-noted : goal.returns-clause-noted
returns-clause-noted g c =
    let was = c.args.self.now in
    noted_time (running_of was) was.restarts.bound c.args.timestamp c.args.answer
    c.note.new.self c.note-is_anew.new.self.since c.note.ensures c.note-is_anew.ensures.since

pub returns-clause-anew : goal.returns-clause-anew
returns-clause-anew g c =
    subst (λ (b : Bool). IsAnewAt b (Some c.args.timestamp) c.told_at.result)
    c.note-is_anew.ensures.restart c.told_at.ensures
