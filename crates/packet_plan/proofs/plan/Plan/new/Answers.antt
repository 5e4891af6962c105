use Rattle.std.proofs.Common.{arith}
use Rattle.packet_plan.specs.Plan.{IsSize}
use Rattle.packet_plan.proofs.Walks.{promised}
use Rattle.packet_plan.proofs.plan.Plan.new.Goals as goal

pub returns-clause-plan : goal.returns-clause-plan
returns-clause-plan g c =
    let fits : IsSize c.args.max_octets c.args.format =
    record { least = omega arith; most = omega arith } in
    (promised c.args.format c.args.max_octets c.in_ok-starts.starts.items
    (fits, c.in_ok-starts.ensures)).plan

pub returns-clause-rows : goal.returns-clause-rows
returns-clause-rows g c =
    let fits : IsSize c.args.max_octets c.args.format =
    record { least = omega arith; most = omega arith } in
    (promised c.args.format c.args.max_octets c.in_ok-starts.starts.items
    (fits, c.in_ok-starts.ensures)).rows

pub returns-clause-room : goal.returns-clause-room
returns-clause-room g c =
    let fits : IsSize c.args.max_octets c.args.format =
    record { least = omega arith; most = omega arith } in
    (promised c.args.format c.args.max_octets c.in_ok-starts.starts.items
    (fits, c.in_ok-starts.ensures)).room

pub returns-clause-fewest : goal.returns-clause-fewest
returns-clause-fewest g c =
    let fits : IsSize c.args.max_octets c.args.format =
    record { least = omega arith; most = omega arith } in
    (promised c.args.format c.args.max_octets c.in_ok-starts.starts.items
    (fits, c.in_ok-starts.ensures)).fewest
