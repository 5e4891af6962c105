use Rattle.std.proofs.Common.{◌∙◌, ◌++◌, List, Some, ap}
use Rattle.following.specs.Following.{Handed}
use Rattle.following.specs.Turned.{handed_as, handed_early}
use Rattle.following.proofs.Driving.{turn_early, turn_shown, turn_state}
use Rattle.following.proofs.stream.show_turn.Goals as goal

pub returns-in-None-clause-state : goal.returns-in-None-clause-state
returns-in-None-clause-state g c =
    let turn = c.take_turn-turn in
    c.show_early.ensures.state
    ∙ turn_state c.args.eager c.args.follower.now turn.new.follower c.args.octets.now
    turn.ensures.state

pub returns-in-None-clause-shown : goal.returns-in-None-clause-shown
returns-in-None-clause-shown g c =
    let shown = g.K.FrameSink.shown in
    let turn = c.take_turn-turn in
    let early = c.show_early in
    turn_early c.args.eager c.args.follower.now turn.new.follower c.args.octets.now
    (handed_as early.result early.new.frame ++ handed_early c.args.eager early.new.follower)
    (shown c.args.sink.now) (shown c.show.new.sink) (shown early.new.sink) turn.ensures.state
    (c.in-None.ensures.shown ∙ ap (λ (hs : List Handed). shown c.args.sink.now ++ hs)
    turn.ensures.handed)
    early.ensures.shown

pub returns-in-Some-clause-state : goal.returns-in-Some-clause-state
returns-in-Some-clause-state g c =
    let turn = c.take_turn-turn in
    turn_state c.args.eager c.args.follower.now turn.new.follower c.args.octets.now
    turn.ensures.state

pub returns-in-Some-clause-shown : goal.returns-in-Some-clause-shown
returns-in-Some-clause-shown g c =
    let shown = g.K.FrameSink.shown in
    let turn = c.take_turn-turn in
    turn_shown c.args.eager c.args.follower.now turn.new.follower c.args.octets.now
    (handed_as (Some c.in-Some.timestamp) turn.new.frame) (shown c.args.sink.now)
    (shown c.show.new.sink) turn.ensures.state
    (c.in-Some.ensures.shown ∙ ap (λ (hs : List Handed). shown c.args.sink.now ++ hs)
    turn.ensures.handed)
