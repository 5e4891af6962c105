use Rattle.media_file.proofs.CaptureFaults.{capture_fails, capture_tells}
use Rattle.media_file.proofs.laws.capture_fault.Goals as goal

pub returns : goal.returns
returns c limit f octets bytes = (capture_fails limit f octets bytes, capture_tells limit f octets)
