use Rattle.std.proofs.Common.{arith}
use Rattle.std.proofs.lemmas.List.{get_or-set_other}
use Rattle.run_outcome.proofs.Printed.{on_ok}
use Rattle.run_outcome.proofs.Refusals.{if_err_map}
use Rattle.run_outcome.proofs.SetSums.{set_counted}
use Rattle.run_outcome.specs.Moments.{WasRead}
use Rattle.run_outcome.specs.Refusing.{OfRefusal}
use Rattle.receiver_engines.specs.MergeAllRefused.{IsJoinRefusal}
use Rattle.receiver_engines.specs.MergedAll.{JoinsOne}
use Rattle.receiver_engines.proofs.FileRefusals.{set_so}
use Rattle.receiver_engines.proofs.merging_all.join_at.Goals as goal

pub returns-clause-failures : goal.returns-clause-failures
returns-clause-failures g c =
    set_counted g.S.ByteSource.failures c.args.others.now c.args.place
    c.index-others-place.result c.join.new.source c.join.result c.requires
    c.join.ensures.failures

pub returns-clause-before : goal.returns-clause-before
returns-clause-before g c = λ k s lt.
    get_or-set_other c.args.others.now c.args.place k c.join.new.source s
    (λ e. omega (arith, lt, e))

pub returns-clause-joined : goal.returns-clause-joined
returns-clause-joined g c =
    let told = WasRead g.S.ByteSource.gave g.S.ByteSource.ended in
    on_ok c.join.result _ _
    (set_so (λ s. JoinsOne (told s) c.args.merged.now c.join.new.merged)
    c.args.others.now c.args.place c.index-others-place.result c.join.new.source c.requires)
    c.join.ensures.joined

pub returns-clause-ended : goal.returns-clause-ended
returns-clause-ended g c =
    on_ok c.join.result _ _
    (set_so (λ s. g.S.ByteSource.ended s.1)
    c.args.others.now c.args.place c.index-others-place.result c.join.new.source c.requires)
    c.join.ensures.ended

pub returns-clause-refusal : goal.returns-clause-refusal
returns-clause-refusal g c =
    let told = WasRead g.S.ByteSource.gave g.S.ByteSource.ended in
    if_err_map c.join.result
    (λ f. set_so (λ s. OfRefusal f (IsJoinRefusal c.args.merged.now (told s)))
    c.args.others.now c.args.place c.index-others-place.result c.join.new.source c.requires)
    c.join.ensures.refusal
