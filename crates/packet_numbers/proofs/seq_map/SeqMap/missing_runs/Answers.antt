use Rattle.std.proofs.lemmas.Result.{IfOk-weaker}
use Rattle.packet_numbers.specs.Numbers.{Numbers}
use Rattle.packet_numbers.proofs.Runs.{are_runs}
use Rattle.packet_numbers.proofs.seq_map.SeqMap.missing_runs.Goals as goal

pub returns-clause-runs : goal.returns-clause-runs
returns-clause-runs g c =
    let m : Numbers = record { first = c.self.inside.first; noted = c.self.inside.noted } in
    IfOk-weaker c.runs_of.result _ _
    (λ v e. are_runs m c.args.self.now v.items c.self.view_is c.self.invariant e)
    c.runs_of.ensures
