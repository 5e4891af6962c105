use Rattle.std.proofs.Common.{rules}
use Rattle.stream_sending.proofs.Readings.{ended_back, head_back, head_left, part_back}
use Rattle.stream_sending.proofs.Readings.{refused_back, sent_back}
use Rattle.stream_sending.proofs.sending.send_frames.Goals as goal

pub returns-in-Err-clause-refusal : goal.returns-in-Err-clause-refusal
returns-in-Err-clause-refusal g c =
    let told = g.S.ByteSource in
    head_back told.gave told.ended c.args.stream.now c.in-Err.failed.1.now _
    c.args.wanted.max_octets c.in-Err.failed.0 c.of_form.result c.of_form.ensures (search rules)
    c.in-Err.ensures.gave_wrong

pub returns-clause-sent : goal.returns-clause-sent
returns-clause-sent g c =
    let told = g.S.ByteSource in
    let last = c.send_opened-sent.new.reader.source.now in
    sent_back told.gave told.ended c.args.stream.now last _ c.in-Ok.reader.source.now
    c.args.wanted c.args.said.now c.in-Ok.reader.format _ _ c.send_opened-sent.result
    (search rules) c.in-Ok.ensures.gave c.send_opened-sent.ensures.sent

pub returns-clause-refusal : goal.returns-clause-refusal
returns-clause-refusal g c =
    let told = g.S.ByteSource in
    let last = c.send_opened-sent.new.reader.source.now in
    refused_back told.gave told.ended c.args.stream.now last _ c.in-Ok.reader.source.now
    c.args.wanted.max_octets c.in-Ok.reader.format c.send_opened-sent.result (search rules)
    c.in-Ok.ensures.gave c.send_opened-sent.ensures.refusal

pub returns-clause-ended : goal.returns-clause-ended
returns-clause-ended g c =
    let told = g.S.ByteSource in
    let last = c.send_opened-sent.new.reader.source.now in
    ended_back told.gave told.ended c.args.stream.now last _ c.send_opened-sent.result
    (search rules) (λ n sends. sends.over) c.send_opened-sent.ensures.sent

pub returns-in-Err-clause-part : goal.returns-in-Err-clause-part
returns-in-Err-clause-part g c =
    let told = g.S.ByteSource in
    head_left told.gave told.ended c.args.stream.now c.in-Err.failed.1.now _ _ c.args.wanted
    c.args.said.now _ (search rules) c.in-Err.ensures.gave_part

pub returns-clause-part : goal.returns-clause-part
returns-clause-part g c =
    let told = g.S.ByteSource in
    let last = c.send_opened-sent.new.reader.source.now in
    part_back told.gave told.ended c.args.stream.now last _ c.in-Ok.reader.source.now _
    c.args.wanted c.args.said.now c.in-Ok.reader.format _ _ c.send_opened-sent.result
    (search rules) c.in-Ok.ensures.gave c.send_opened-sent.ensures.sent
    c.send_opened-sent.ensures.part
