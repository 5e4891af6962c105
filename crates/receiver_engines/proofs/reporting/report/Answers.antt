use Rattle.std.proofs.Common.{inr}
use Rattle.receiver_engines.proofs.reporting.report.Goals as goal

pub returns-in-Ok-clause-reported : goal.returns-in-Ok-clause-reported
returns-in-Ok-clause-reported g c = record {
  receiver = c.in_ok-receiver.receiver;
  says = c.in_ok-receiver.ensures.found;
  again = c.in_ok-receiver.ensures.same;
  written = c.in-Ok.ensures.ok;
}

pub returns-clause-part : goal.returns-clause-part
returns-clause-part g c =
    inr (c.in_ok-receiver.receiver, c.in_ok-receiver.ensures.found, c.in-Err.ensures.fault)
