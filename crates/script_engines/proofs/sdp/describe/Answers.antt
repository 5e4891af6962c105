use Rattle.std.proofs.lemmas.Result.{err_from_is_err_and}
use Rattle.run_outcome.proofs.Refusals.{none_refused}
use Rattle.script_engines.specs.Reading.{IsRefusedFor}
use Rattle.script_engines.specs.Described.{IsUndescribed}
use Rattle.script_engines.proofs.sdp.describe.Goals as goal

pub returns-in_err-script-clause-refusal : goal.returns-in_err-script-clause-refusal
returns-in_err-script-clause-refusal g c =
    let p = err_from_is_err_and c.from_residual.result c.from_residual.ensures.1 in
    rw (p.1, p.2)
    (none_refused
    (IsRefusedFor IsUndescribed (g.S.ByteSource.gave c.args.source.now)
    (g.S.ByteSource.gave c.read_script.new.source) (g.S.ByteSource.ended c.read_script.new.source))
    c.in_err-script.field-0.0 c.in_err-script.ensures.unrefused)
