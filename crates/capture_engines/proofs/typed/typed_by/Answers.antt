use Rattle.std.proofs.lemmas.Result.{err_from_is_err_and}
use Rattle.capture_engines.proofs.TypedTexts.{reads_again}
use Rattle.capture_engines.proofs.typed.typed_by.Goals as goal

pub returns-in_err-sdp-clause-unrefused : goal.returns-in_err-sdp-clause-unrefused
returns-in_err-sdp-clause-unrefused g c =
    let p = err_from_is_err_and c.from_residual.result c.from_residual.ensures.1 in
    rw (p.1, p.2)
    (reads_again c.args.said.now c.in_err-sdp.field-0.0 c.requires c.in_err-sdp.ensures.fault)
