use Rattle.media_file.proofs.CaptureFaults.{one_capture_fault}
use Rattle.media_file.proofs.laws.one_capture_fault.Goals as goal

pub returns : goal.returns
returns c limit f g octets p q = one_capture_fault limit f g octets p q
