use Rattle.media_file.proofs.Splits.{only_read}
use Rattle.media_file.proofs.Found.{found_read}
use Rattle.media_file.proofs.CaptureFaults.{capture_wrong}
use Rattle.media_file.proofs.GaveCaptures.{capture_ended, capture_found, capture_grew, capture_once}
use Rattle.media_file.proofs.GaveCaptures.{capture_refused}
use Rattle.media_file.proofs.capture.read_capture.Goals as goal

pub returns-clause-only : goal.returns-clause-only
returns-clause-only g c d octets told is le =
    only_read c.args.limit _ _ c.read_whole_capture.result c.read_whole_capture.ensures.read
    c.read_whole_capture.ensures.fault d octets told is le

pub returns-clause-found : goal.returns-clause-found
returns-clause-found g c =
    found_read c.args.limit _ _ c.read_whole_capture.result c.read_whole_capture.ensures.read
    c.read_whole_capture.ensures.octets

pub returns-clause-wrong : goal.returns-clause-wrong
returns-clause-wrong g c =
    capture_wrong c.args.limit _ c.read_whole_capture.result c.read_whole_capture.ensures.fault

pub returns-clause-gave : goal.returns-clause-gave
returns-clause-gave g c =
    capture_found c.args.limit _ _ _ c.read_whole_capture.result c.read_whole_capture.ensures.gave

pub returns-clause-ended : goal.returns-clause-ended
returns-clause-ended g c =
    let told = g.S.ByteSource in
    capture_ended c.args.limit (told.gave c.args.source.now)
    (told.gave c.read_whole_capture.new.source) (told.ended c.read_whole_capture.new.source)
    c.read_whole_capture.result c.read_whole_capture.ensures.gave

pub returns-clause-gave_wrong : goal.returns-clause-gave_wrong
returns-clause-gave_wrong g c =
    capture_refused c.args.limit _ _ _ c.read_whole_capture.result
    c.read_whole_capture.ensures.gave_wrong

pub returns-clause-gave_only : goal.returns-clause-gave_only
returns-clause-gave_only g c d octets read is few =
    capture_once c.args.limit _ _ _ c.read_whole_capture.result c.read_whole_capture.ensures.gave
    c.read_whole_capture.ensures.gave_wrong d octets read is few

pub returns-clause-grown : goal.returns-clause-grown
returns-clause-grown g c =
    let told = g.S.ByteSource in
    capture_grew c.args.limit (told.gave c.args.source.now)
    (told.gave c.read_whole_capture.new.source) (told.ended c.read_whole_capture.new.source)
    c.read_whole_capture.result c.read_whole_capture.ensures.gave
    c.read_whole_capture.ensures.gave_wrong
