use Rattle.std.proofs.Common.{false, sym, ◌∙◌}
use Rattle.path_receiver.specs.Took.{datagrams_since}
use Rattle.following.specs.Stream.{not_shown}
use Rattle.following.specs.Turned.{handed_while}
use Rattle.following.proofs.Driving.{turns_told}
use Rattle.following.proofs.Turning.{plain_shown, plain_state, stream_turned}
use Rattle.following.proofs.stream.follow.Goals as goal

pub returns-clause-stream : goal.returns-clause-stream
returns-clause-stream g c o timed =
    let came = g.S.DatagramSource.came in
    let shown = g.K.FrameSink.shown in
    let ds = datagrams_since (came c.args.source.now) (came c.take_turns.new.source) in
    let missed = not_shown c.take_turns.result c.take_turns.new.frame in
    stream_turned c.args.follower.now c.take_turns.new.follower o timed ds
    (shown c.args.sink.now) (shown c.take_turns.new.sink) missed c.facts.ensures.size.some
    (plain_shown c.take_turns.result c.take_turns.new.follower (shown c.args.sink.now)
    (shown c.take_turns.new.sink) missed (handed_while false c.args.follower.now ds)
    c.take_turns.ensures.shown)
    (sym (plain_state c.take_turns.result c.take_turns.new.follower) ∙ c.take_turns.ensures.state)

pub returns-clause-state : goal.returns-clause-state
returns-clause-state g c =
    sym (plain_state c.take_turns.result c.take_turns.new.follower) ∙ c.take_turns.ensures.state

pub returns-clause-shown : goal.returns-clause-shown
returns-clause-shown g c =
    let came = g.S.DatagramSource.came in
    let shown = g.K.FrameSink.shown in
    plain_shown c.take_turns.result c.take_turns.new.follower (shown c.args.sink.now)
    (shown c.take_turns.new.sink) (not_shown c.take_turns.result c.take_turns.new.frame)
    (handed_while false c.args.follower.now
    (datagrams_since (came c.args.source.now) (came c.take_turns.new.source)))
    c.take_turns.ensures.shown

pub returns-clause-turns : goal.returns-clause-turns
returns-clause-turns g c =
    let came = g.S.DatagramSource.came in
    let turns = g.S.DatagramSource.turns in
    turns_told c.args.limit c.take_turns.result (turns c.args.source.now)
    (turns c.take_turns.new.source) (came c.args.source.now) (came c.take_turns.new.source)
    c.take_turns.ensures.took
