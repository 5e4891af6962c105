use Rattle.std.proofs.Common.{ap}
use Rattle.std.specs.Option.{option_copied}
use Rattle.flow.proofs.FlowTexts.{host_v4, host_v6}
use Rattle.flow.proofs.text.read_host.Goals as goal

pub returns-in-Ok : goal.returns-in-Ok
returns-in-Ok c = host_v4 c.args.text.now c.in-Ok.address c.in-Ok.ensures

pub returns-in-Ok-parse_ascii : goal.returns-in-Ok-parse_ascii
returns-in-Ok-parse_ascii c =
    let inside = c.in_ok-inside.inside.now in
    host_v6 c.args.text.now inside c.in-Ok-parse_ascii.address
    ((c.in_brackets.ensures inside).1 (ap option_copied c.in_ok-inside.was))
    c.in-Ok-parse_ascii.ensures
