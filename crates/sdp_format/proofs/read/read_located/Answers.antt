use Rattle.std.proofs.Common.{Ok, Err}
use Rattle.sdp_format.specs.Views.{description}
use Rattle.sdp_format.proofs.TextFaults.{said_from, fault_from}
use Rattle.sdp_format.proofs.read.read_located.Goals as goal

pub returns-in-Ok-clause-said : goal.returns-in-Ok-clause-said
returns-in-Ok-clause-said g c =
    said_from (Ok c.in-Ok.sdp) description c.args.text.now c.in-Ok.ensures.exact

pub returns-in-Err-clause-fault : goal.returns-in-Err-clause-fault
returns-in-Err-clause-fault g c =
    fault_from (Err c.in-Err.stop.fault) description c.args.text.now c.in-Err.ensures.exact
