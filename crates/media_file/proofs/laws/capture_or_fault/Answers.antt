use Rattle.media_file.proofs.CaptureFaults.{capture_or_fault}
use Rattle.media_file.proofs.laws.capture_or_fault.Goals as goal

pub returns : goal.returns
returns c limit octets bytes = capture_or_fault limit octets bytes
