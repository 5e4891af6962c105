use Rattle.sdp_format.proofs.TextFaults.{no_video, too_many_legs, legs_differ, text_fault}
use Rattle.sdp_format.proofs.TextFaults.{text_said}
use Rattle.sdp_format.proofs.Members.{turned}
use Rattle.sdp_format.proofs.laws.text_faults.Goals as goal

pub returns : goal.returns
returns c = record {
  said = λ text d. turned (text_said text d);
  first_fault = λ text fault. turned (text_fault text fault);
  no_video = λ text. turned (no_video text);
  too_many_legs = λ text. turned (too_many_legs text);
  legs_differ = λ text. turned (legs_differ text);
}
