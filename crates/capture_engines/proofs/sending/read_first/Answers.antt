use Rattle.std.proofs.Common.{◌≡◌, ℕ, Err, ap, rules, subst, sym}
use Rattle.std.proofs.lemmas.Result.{err_from_is_err_and}
use Rattle.std.specs.List.{zip}
use Rattle.packet_plan.specs.Plan.{IsSize}
use Rattle.run_outcome.proofs.Refusals.{of_refusal_map}
use Rattle.run_outcome.specs.Moments.{WasRead}
use Rattle.capture_engines.specs.Sent.{FirstSays}
use Rattle.capture_engines.proofs.SentRefusals.{first_refused, plan_refused}
use Rattle.capture_engines.proofs.sending.read_first.Goals as goal

pub returns-in_err-picture-clause-refusal : goal.returns-in_err-picture-clause-refusal
returns-in_err-picture-clause-refusal g c =
    let told = WasRead g.S.ByteSource.gave g.S.ByteSource.ended in
    let p = err_from_is_err_and c.from_residual.result c.from_residual.ensures.1 in
    rw (p.1, p.2) (of_refusal_map c.in_err-picture.field-0.0
    (first_refused c.args.max_octets told (zip c.args.pictures.now c.read_at.new.pictures))
    c.in_err-picture.ensures.refusal)

pub returns-in_err-plan-clause-refusal : goal.returns-in_err-plan-clause-refusal
returns-in_err-plan-clause-refusal g c =
    let told = WasRead g.S.ByteSource.gave g.S.ByteSource.ended in
    let format = c.format.result in
    let pictures = zip c.args.pictures.now c.read_at.new.pictures in
    let says = subst (λ x. FirstSays told x pictures) (sym c.format.ensures.value)
    c.in_ok-picture.ensures.says in
    let p = err_from_is_err_and c.from_residual-in_err-plan.result
    c.from_residual-in_err-plan.ensures.1 in
    rw (p.1, p.2) (plan_refused c.args.max_octets format told pictures says
    c.in_err-plan.field-0.0
    (λ is. c.in_err-plan.ensures.size.0 (ap Err is)))

pub returns-clause-says : goal.returns-clause-says
returns-clause-says g c =
    let told = WasRead g.S.ByteSource.gave g.S.ByteSource.ended in
    let pictures = zip c.args.pictures.now c.read_at.new.pictures in
    let same : c.in_ok-picture.picture.format ≡ c.in_ok-plan.plan.format = search rules in
    subst (λ x. FirstSays told x pictures) same c.in_ok-picture.ensures.says

pub returns-clause-limits : goal.returns-clause-limits
returns-clause-limits g c =
    subst (λ (m : ℕ). IsSize m c.in_ok-plan.plan.format) c.in_ok-plan.ensures.made.1
    c.facts.ensures.full.limits

pub returns-clause-planned : goal.returns-clause-planned
returns-clause-planned g c =
    record { size = c.in_ok-plan.ensures.made.1; full = c.facts.ensures.full }
