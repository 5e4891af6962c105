use Rattle.std.proofs.Common.{◌++◌, map, true}
use Rattle.path_receiver.specs.Took.{datagrams_since}
use Rattle.following.specs.Stream.{not_shown, still_early, without_early}
use Rattle.following.specs.Times.{handed_at, in_order, times_of}
use Rattle.following.proofs.Driving.{turns_told}
use Rattle.following.proofs.Prompt.{prompt_turned}
use Rattle.following.proofs.Turning.{early_turned, with_still}
use Rattle.following.proofs.stream.follow_eagerly.Goals as goal

pub returns-clause-stream : goal.returns-clause-stream
returns-clause-stream g c o timed same octets are_timed nearby none =
    let came = g.S.DatagramSource.came in
    let shown = g.K.FrameSink.shown in
    let r = c.take_turns.result in
    let t = c.take_turns.new.follower in
    let missed = not_shown r c.take_turns.new.frame in
    with_still true r t (shown c.args.sink.now) (shown c.take_turns.new.sink) missed
    (map (handed_at o timed) (in_order (times_of o timed)))
    (early_turned c.args.follower.now (without_early true r t) o timed
    (datagrams_since (came c.args.source.now) (came c.take_turns.new.source))
    (shown c.args.sink.now) (shown c.take_turns.new.sink) (missed ++ still_early true r t)
    c.facts.ensures.size.some c.take_turns.ensures.shown c.take_turns.ensures.state same octets
    are_timed nearby none)

pub returns-clause-prompt : goal.returns-clause-prompt
returns-clause-prompt g c o timed same octets are_timed nearby prompt agreed =
    let came = g.S.DatagramSource.came in
    let shown = g.K.FrameSink.shown in
    let r = c.take_turns.result in
    let t = c.take_turns.new.follower in
    let missed = not_shown r c.take_turns.new.frame in
    with_still true r t (shown c.args.sink.now) (shown c.take_turns.new.sink) missed
    (map (handed_at o timed) (in_order (times_of o timed)))
    (prompt_turned true c.args.follower.now (without_early true r t) o timed
    (datagrams_since (came c.args.source.now) (came c.take_turns.new.source))
    (shown c.args.sink.now) (shown c.take_turns.new.sink) (missed ++ still_early true r t)
    c.facts.ensures.size.some c.take_turns.ensures.shown c.take_turns.ensures.state same octets
    are_timed nearby prompt
    (λ is. agreed))

pub returns-clause-turns : goal.returns-clause-turns
returns-clause-turns g c =
    let came = g.S.DatagramSource.came in
    let turns = g.S.DatagramSource.turns in
    turns_told c.args.limit c.take_turns.result (turns c.args.source.now)
    (turns c.take_turns.new.source) (came c.args.source.now) (came c.take_turns.new.source)
    c.take_turns.ensures.took
