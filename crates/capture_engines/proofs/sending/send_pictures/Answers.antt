use Rattle.std.proofs.Common.{inl, refl}
use Rattle.std.proofs.lemmas.Result.{IfOk-weaker}
use Rattle.run_outcome.specs.Moments.{WasRead}
use Rattle.run_outcome.proofs.Printed.{on_err, whenever}
use Rattle.run_outcome.proofs.Refusals.{if_err_map, of_refusal_map}
use Rattle.capture_engines.proofs.SentRefusals.{rest_refused}
use Rattle.capture_engines.proofs.Sendings.{pictures_sent}
use Rattle.capture_engines.proofs.SentParts.{pictures_part}
use Rattle.capture_engines.proofs.sending.send_pictures.Goals as goal

pub returns-clause-refusal : goal.returns-clause-refusal
returns-clause-refusal g c =
    let told = WasRead g.S.ByteSource.gave g.S.ByteSource.ended in
    let first = c.in_ok-picture.ensures in
    let format = c.in_ok-picture.plan.format in
    if_err_map c.send_first_and_rest.result
    (λ e. of_refusal_map e
    (λ r is. rest_refused c.args.wanted.max_octets format told c.args.pictures.now _ _ r
    first.says first.limits first.behind c.send_first_and_rest.ensures.front is))
    c.send_first_and_rest.ensures.refusal

pub returns-clause-sent : goal.returns-clause-sent
returns-clause-sent g c =
    let first = c.in_ok-picture.ensures in
    IfOk-weaker c.send_first_and_rest.result _ _
    (λ n sends. pictures_sent (WasRead g.S.ByteSource.gave g.S.ByteSource.ended) c.args.wanted
    c.args.said.now c.in_ok-picture.picture c.args.pictures.now _ _ _ _ n first.shows
    first.behind c.send_first_and_rest.ensures.front sends)
    c.send_first_and_rest.ensures.sent

pub returns-in_err-buf-clause-part : goal.returns-in_err-buf-clause-part
returns-in_err-buf-clause-part g c = whenever c.from_residual.result _ (inl (refl, refl))

pub returns-in_err-picture-clause-part : goal.returns-in_err-picture-clause-part
returns-in_err-picture-clause-part g c =
    whenever c.from_residual-in_err-picture.result _
    (inl (refl, c.in_err-picture.ensures.behind))

pub returns-clause-part : goal.returns-clause-part
returns-clause-part g c =
    let first = c.in_ok-picture.ensures in
    on_err c.send_first_and_rest.result _ _
    (λ part. pictures_part (WasRead g.S.ByteSource.gave g.S.ByteSource.ended) _ c.args.wanted
    c.args.said.now c.in_ok-picture.picture c.args.pictures.now _ _ _ _ c.requires.few first.shows
    first.behind c.send_first_and_rest.ensures.front part) c.send_first_and_rest.ensures.part
