use Rattle.std.proofs.Common.{ap, ◌∙◌}
use Rattle.sdp_format.specs.Bytes.{front}
use Rattle.sdp_format.proofs.Destined.{named_v4, named_v6, unnamed, unnamed_v4, unnamed_v6}
use Rattle.sdp_format.proofs.flows.read_connection.Goals as goal

pub returns-in-Ok : goal.returns-in-Ok
returns-in-Ok c =
    let rest = c.in-Some.address.now in
    named_v4 c.args.line.now c.cut.result.0.now
    (c.cut.ensures.front ∙ ap (front 47) c.trim_end.ensures) rest c.in-Ok.address
    c.in-Some.ensures c.in-Ok.ensures

pub returns-in-Err : goal.returns-in-Err
returns-in-Err c =
    let rest = c.in-Some.address.now in
    unnamed_v4 c.args.line.now c.cut.result.0.now
    (c.cut.ensures.front ∙ ap (front 47) c.trim_end.ensures) rest
    c.in-Some.ensures c.in-Err.ensures

pub returns-in-Ok-parse_ascii : goal.returns-in-Ok-parse_ascii
returns-in-Ok-parse_ascii c =
    let rest = c.in-Some-after_word.address.now in
    named_v6 c.args.line.now c.cut.result.0.now
    (c.cut.ensures.front ∙ ap (front 47) c.trim_end.ensures) rest c.in-Ok-parse_ascii.address
    c.in-Some-after_word.ensures
    c.in-Ok-parse_ascii.ensures

pub returns-in-Err-parse_ascii : goal.returns-in-Err-parse_ascii
returns-in-Err-parse_ascii c =
    let rest = c.in-Some-after_word.address.now in
    unnamed_v6 c.args.line.now c.cut.result.0.now
    (c.cut.ensures.front ∙ ap (front 47) c.trim_end.ensures) rest
    c.in-Some-after_word.ensures
    c.in-Err-parse_ascii.ensures

pub returns-in_default-after_word : goal.returns-in_default-after_word
returns-in_default-after_word c =
    unnamed c.args.line.now c.cut.result.0.now
    (c.cut.ensures.front ∙ ap (front 47) c.trim_end.ensures)
    c.in_default.ensures c.in_default-after_word.ensures
