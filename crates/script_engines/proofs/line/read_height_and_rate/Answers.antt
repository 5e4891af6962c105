use Rattle.std.proofs.Common.{sym}
use Rattle.script_engines.proofs.FormLemmas.{if_none, rate_none}
use Rattle.script_engines.proofs.line.read_height_and_rate.Goals as goal

pub returns-in_err-n-clause-none : goal.returns-in_err-n-clause-none
returns-in_err-n-clause-none c =
    if_none c.from_residual-in_err-n.result c.from_residual-in_err-n.ensures
    (rate_none c.args.text.now c.in_ok-height.height.now c.in_ok-height.rate.now
    (sym c.in_ok-height.ensures.parts) c.in_err-n.ensures.none)
