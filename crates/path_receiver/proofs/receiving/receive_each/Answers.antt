use Rattle.path_receiver.proofs.TurnLemmas.{heard_delivered, holds_any, holds_came, holds_delivered}
use Rattle.path_receiver.proofs.TurnLemmas.{only_heard, only_taken}
use Rattle.path_receiver.specs.Took.{delivered_in}
use Rattle.path_receiver.proofs.receiving.receive_each.Goals as goal

pub returns-clause-heard : goal.returns-clause-heard
returns-clause-heard g c =
    let turns = g.S.DatagramSource.turns in
    let came = g.S.DatagramSource.came in
    only_heard g.O.Observer.after c.args.limit c.take_turns.result (turns c.args.source.now)
    (turns c.take_turns.new.source) c.args.receiver.now c.take_turns.new.receiver
    c.args.observer.now c.take_turns.new.observer (came c.args.source.now)
    (came c.take_turns.new.source) c.take_turns.ensures.came

pub returns-clause-came : goal.returns-clause-came
returns-clause-came g c = c.take_turns.ensures.came

pub returns-clause-holds_came : goal.returns-clause-holds_came
returns-clause-holds_came g c =
    let turns = g.S.DatagramSource.turns in
    let came = g.S.DatagramSource.came in
    holds_came g.O.Observer.after c.args.limit c.take_turns.result (turns c.args.source.now)
    (turns c.take_turns.new.source) c.args.receiver.now c.take_turns.new.receiver
    c.args.observer.now c.take_turns.new.observer (came c.args.source.now)
    (came c.take_turns.new.source) c.take_turns.ensures.came

pub returns-clause-took : goal.returns-clause-took
returns-clause-took g c =
    let turns = g.S.DatagramSource.turns in
    only_taken g.O.Observer.after c.args.limit c.take_turns.result (turns c.args.source.now)
    (turns c.take_turns.new.source) c.args.receiver.now c.take_turns.new.receiver
    c.args.observer.now c.take_turns.new.observer (returns-clause-heard g c)

pub returns-clause-answers : goal.returns-clause-answers
returns-clause-answers g c =
    let turns = g.S.DatagramSource.turns in
    heard_delivered g.O.Observer.after c.args.limit c.take_turns.result (turns c.args.source.now)
    (turns c.take_turns.new.source) c.args.receiver.now c.take_turns.new.receiver
    c.args.observer.now c.take_turns.new.observer (returns-clause-heard g c)

pub returns-clause-holds : goal.returns-clause-holds
returns-clause-holds g c =
    let turns = g.S.DatagramSource.turns in
    holds_delivered c.args.limit c.take_turns.result (turns c.args.source.now)
    (turns c.take_turns.new.source) c.args.receiver.now c.take_turns.new.receiver
    (returns-clause-took g c)

pub returns-clause-any_list : goal.returns-clause-any_list
returns-clause-any_list g c = λ datagrams due told.
    holds_any c.args.receiver.now c.take_turns.new.receiver (delivered_in c.take_turns.result) due
    (λ ds. returns-clause-holds g c ds due told)
    datagrams
