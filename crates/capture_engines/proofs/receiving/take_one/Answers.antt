use Rattle.std.proofs.Common.{◌≡◌, None, rules}
use Rattle.run_outcome.proofs.SetSums.{counted_by}
use Rattle.recording_reader.proofs.Standings.{exact_between}
use Rattle.capture_engines.specs.Taking.{Stands}
use Rattle.capture_engines.proofs.Readings.{ended_taken, part_taken}
use Rattle.capture_engines.proofs.FirstRefused.{front_turn, opens_lent, turn_lent}
use Rattle.capture_engines.proofs.receiving.take_one.Goals as goal

pub returns-clause-failures : goal.returns-clause-failures
returns-clause-failures g c =
    counted_by c.take_opened-taken.result _ _ _ _ c.in-Ok.ensures.counted (search rules)
    c.take_opened-taken.ensures.failures

pub returns-clause-taken : goal.returns-clause-taken
returns-clause-taken g c =
    let told = g.S.ByteSource in
    ended_taken c.take_opened-taken.new.reader (λ s. s.now) told.gave told.ended c.args.file.now _
    c.args.way _ (Stands c.args.opening.now c.args.begun.now)
    (Stands c.args.opening.now c.take_opened-taken.new.begun) c.take_opened-taken.result
    (search rules) (search rules) (search rules) (search rules) c.history.ensures.by_flows
    c.take_opened-taken.ensures.ended c.take_opened-taken.ensures.few
    c.history.ensures.known c.take_opened-taken.ensures.taken

pub returns-clause-sound : goal.returns-clause-sound
returns-clause-sound g c =
    let told = g.S.ByteSource in
    part_taken c.args.opening.now c.take_opened-taken.new.reader (λ s. s.now) told.gave told.ended
    c.args.file.now _ c.args.way _ c.args.begun.now c.take_opened-taken.new.begun _
    c.take_opened-taken.result (search rules) (search rules) (search rules) (search rules)
    c.history.ensures.known
    (λ reads. c.history.ensures.given
    (exact_between c.take_opened-taken.new.reader.standing reads)) c.history.ensures.of_capture
    c.take_opened-taken.ensures.stop

pub returns-clause-opens : goal.returns-clause-opens
returns-clause-opens g c =
    let told = g.S.ByteSource in
    opens_lent c.args.opening.now.window.items _ c.args.way (c.args.begun.now ≡ None)
    c.take_opened-taken.new.reader (λ s. s.now) told.gave told.ended c.args.file.now _
    (search rules) (search rules) (search rules) c.history.ensures.by_flows (search rules)
    c.history.ensures.known c.history.ensures.parts c.take_opened-taken.result
    c.take_opened-taken.ensures.opens

pub returns-clause-refusal : goal.returns-clause-refusal
returns-clause-refusal g c =
    let told = g.S.ByteSource in
    turn_lent c.args.opening.now.window.items _ c.args.way (c.args.begun.now ≡ None)
    c.take_opened-taken.new.reader (λ s. s.now) told.gave told.ended c.args.file.now _
    (search rules) (search rules) (search rules) c.history.ensures.by_flows (search rules)
    c.history.ensures.known c.history.ensures.parts c.take_opened-taken.result
    c.take_opened-taken.ensures.refusal

pub returns-in-Err-clause-refusal : goal.returns-in-Err-clause-refusal
returns-in-Err-clause-refusal g c =
    let told = g.S.ByteSource in
    front_turn c.args.opening.now.window.items c.args.way (c.args.begun.now ≡ None) told.gave
    told.ended c.args.file.now _ c.unopened.new.source c.unopened.result (search rules)
    (c.unopened.ensures.front (told.gave c.args.file.now) (search rules) (search rules))
