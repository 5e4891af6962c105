use Rattle.std.proofs.Common.{Option, subst, ℕ}
use Rattle.follow_engine.specs.Events.{IsAnewAt, anew_with, datagram_time}
use Rattle.follow_engine.specs.Running.{running_of}
use Rattle.follow_engine.proofs.Noting.{none_told, noted_none, noted_some}
use Rattle.follow_engine.proofs.running.Run.note.Goals as goal

pub returns-in-None-clause-noted : goal.returns-in-None-clause-noted
returns-in-None-clause-noted g c =
    let was = c.args.self.now in
    noted_none (running_of was) was.restarts.bound (datagram_time c.args.octets.now) c.args.answer
    c.note.new.self c.late_after-self.result c.note.ensures c.late_after-self.ensures c.in-None.ensures

pub returns-in-None-clause-anew : goal.returns-in-None-clause-anew
returns-in-None-clause-anew g c =
    let was = c.args.self.now in
    none_told was.restarts.bound was.restarts.since (datagram_time c.args.octets.now) c.args.answer
    c.in-None.ensures

pub returns-in-Some-clause-noted : goal.returns-in-Some-clause-noted
returns-in-Some-clause-noted g c =
    let was = c.args.self.now in
    noted_some (running_of was) (running_of c.note_time.new.self) was.restarts.bound
    c.in-Some.timestamp (datagram_time c.args.octets.now) c.args.answer c.note.new.self
    c.late_after-self.result c.note.ensures c.late_after-self.ensures c.in-Some.ensures
    c.note_time.ensures.noted

pub returns-in-Some-clause-anew : goal.returns-in-Some-clause-anew
returns-in-Some-clause-anew g c =
    let was = c.args.self.now in
    subst (λ (o : Option ℕ). IsAnewAt (anew_with was.restarts.bound was.restarts.since o
    c.args.answer) o c.note_time.result) c.in-Some.ensures c.note_time.ensures.anew
