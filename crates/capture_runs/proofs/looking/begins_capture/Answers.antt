use Rattle.capture_runs.proofs.Looks.{looked_front}
use Rattle.capture_runs.proofs.looking.begins_capture.Goals as goal

pub returns-in-Ok : goal.returns-in-Ok
returns-in-Ok c =
    looked_front c.read_whole.new.source _ c.read_whole.new.buf c.in-Ok.count c.is_name.result
    c.requires c.in-Ok.ensures.gave c.in-Ok.ensures.within c.in-Ok.ensures.room
    c.in-Ok.ensures.ended c.is_name.ensures
