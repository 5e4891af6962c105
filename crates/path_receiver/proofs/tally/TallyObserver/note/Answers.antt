use Rattle.path_receiver.proofs.Tallies.{tallies_more}
use Rattle.path_receiver.proofs.tally.TallyObserver.note.Goals as goal

pub returns-clause-counted : goal.returns-clause-counted
returns-clause-counted c =
    tallies_more c.args.self.now c.count.new.self c.args.answer c.count.ensures
