use Rattle.std.proofs.Common.{sym}
use Rattle.script_engines.proofs.FormLemmas.{if_none}
use Rattle.script_engines.proofs.RehearsalLemmas.{stamp_last_none}
use Rattle.script_engines.proofs.rehearsal_line.read_stamp.Goals as goal

pub returns-in_err-timestamp-clause-none : goal.returns-in_err-timestamp-clause-none
returns-in_err-timestamp-clause-none c =
    if_none c.from_residual-in_err-timestamp.result c.from_residual-in_err-timestamp.ensures
    (stamp_last_none c.args.text.now c.in_ok-payload_type.payload_type.now
    c.in_ok-payload_type.rest.now c.in_ok-first.first.now c.in_ok-first.rest.now
    (sym c.in_ok-payload_type.ensures.parts)
    (sym c.in_ok-first.ensures.parts) c.in_err-timestamp.ensures.none)
