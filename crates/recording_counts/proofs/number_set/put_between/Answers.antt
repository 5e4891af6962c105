use Rattle.std.proofs.Common.{◌∙◌, sym}
use Rattle.recording_counts.proofs.TreeLaws.{joined_alone, joined_apart, joined_behind, joined_more}
use Rattle.recording_counts.proofs.number_set.put_between.Goals as goal

pub returns-in_ok-insert-in-Some-clause-put : goal.returns-in_ok-insert-in-Some-clause-put
returns-in_ok-insert-in-Some-clause-put g c =
    λ limit room apart.
    let joined =
    joined_behind c.args.first c.args.number c.in-Some.last c.args.runs.now c.insert.new.self
    c.remove.new.self c.requires.begins.bound
    (sym c.get.ensures.value ∙ sym c.copied.ensures ∙ c.in-Some.is)
    c.in_ok-insert-in-Some.ensures.updates c.remove.ensures.updates in (
      joined_apart limit c.args.first c.args.number c.in-Some.last c.args.runs.now
          c.remove.new.self apart c.requires.begins joined c.remove.ensures.ordered room,
      joined_more limit c.args.first c.args.number c.in-Some.last c.args.runs.now
          c.remove.new.self apart c.requires.begins joined,
    )

pub returns-in_ok-insert-in-None-clause-put : goal.returns-in_ok-insert-in-None-clause-put
returns-in_ok-insert-in-None-clause-put g c =
    λ limit room apart.
    let joined =
    joined_alone c.args.first c.args.number c.args.runs.now c.insert-in-None.new.self
    c.requires.begins.bound
    (sym c.get.ensures.value ∙ sym c.copied.ensures ∙ c.in-None.is)
    c.in_ok-insert-in-None.ensures.updates in (
      joined_apart limit c.args.first c.args.number c.args.number c.args.runs.now
          c.insert-in-None.new.self apart c.requires.begins joined
          c.insert-in-None.ensures.ordered room,
      joined_more limit c.args.first c.args.number c.args.number c.args.runs.now
          c.insert-in-None.new.self apart c.requires.begins joined,
    )
