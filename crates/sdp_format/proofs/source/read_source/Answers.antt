use Rattle.sdp_format.proofs.Sources.{found_v4, found_v6}
use Rattle.sdp_format.proofs.source.read_source.Goals as goal

pub returns-in-Ok : goal.returns-in-Ok
returns-in-Ok c =
    found_v4 c.args.address c.args.text.now c.in-V4.field-0 c.in-Ok.source c.in-V4.is
    c.in-Ok.ensures

pub returns-in-Ok-parse_ascii : goal.returns-in-Ok-parse_ascii
returns-in-Ok-parse_ascii c =
    found_v6 c.args.address c.args.text.now c.in-V6.field-0 c.in-Ok-parse_ascii.source c.in-V6.is
    c.in-Ok-parse_ascii.ensures
