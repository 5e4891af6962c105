-- What a told refusal is of (own).
use Rattle.std.specs.Prelude.{◌≡◌}
use Rattle.run_outcome.specs.declared.refusal.Refusal.{Refusal}
use Rattle.run_outcome.specs.declared.refusal.Refusal.TheVariants as refusal

-- both are of one fault of an SDP text, whatever the places that are told of it
abbrev pub AreOfOneFault : Refusal → Refusal → Type 0
AreOfOneFault (refusal.Sdp at) (refusal.Sdp other) = at.fault ≡ other.fault
AreOfOneFault r other = ⊥
