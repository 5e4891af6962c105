use Rattle.path_receiver.proofs.TurnLemmas.{only_came}
use Rattle.path_receiver.proofs.receiving.receive.Goals as goal

pub returns-clause-took : goal.returns-clause-took
returns-clause-took g c = c.receive_each.ensures.took

pub returns-clause-holds : goal.returns-clause-holds
returns-clause-holds g c = c.receive_each.ensures.holds

pub returns-clause-any_list : goal.returns-clause-any_list
returns-clause-any_list g c = c.receive_each.ensures.any_list

pub returns-clause-holds_came : goal.returns-clause-holds_came
returns-clause-holds_came g c = c.receive_each.ensures.holds_came

pub returns-clause-came : goal.returns-clause-came
returns-clause-came g c =
    let turns = g.S.DatagramSource.turns in
    let came = g.S.DatagramSource.came in
    only_came _ c.args.limit c.receive_each.result (turns c.args.source.now)
    (turns c.receive_each.new.source) c.args.receiver.now c.receive_each.new.receiver _ _
    (came c.args.source.now) (came c.receive_each.new.source) c.receive_each.ensures.came
