use Rattle.std.proofs.Common.{arith}
use Rattle.payload_header.proofs.Again.{is_found, is_only}
use Rattle.payload_header.proofs.Refused.{is_refused}
use Rattle.payload_header.proofs.reading.read_payload.Goals as goal

pub returns-clause-found : goal.returns-clause-found
returns-clause-found c =
    is_found c.args.format.now c.args.octets.now c.read.result
    (λ i. omega (arith, c.type_inv.octets i)) c.read.ensures.exact

pub returns-clause-only : goal.returns-clause-only
returns-clause-only c =
    is_only c.args.format.now c.args.octets.now c.read.result c.read.ensures.exact

pub returns-clause-refused : goal.returns-clause-refused
returns-clause-refused c =
    is_refused c.args.format.now c.args.octets.now c.read.result
    (λ i. omega (arith, c.type_inv.octets i)) c.read.ensures.exact
