-- A recording read from the left: what its readings are, of those that st_format has for any, by
-- where a recording's faults come from.
use Rattle.std.specs.Prelude.{ℕ, List, ⊤, Option, Result}
use Rattle.st_format.specs.Given.{CountsDeviceBy, CountsFaultBy, FailsBy, GaveFaultBy, IfContentBy}
use Rattle.st_format.specs.Given.{Origin, OfContent, OfDevice, field_by}
use Rattle.pcap_file.specs.declared.fault.RecordingFault.{RecordingFault}
use Rattle.pcap_file.specs.declared.fault.RecordingFault.TheVariants.{Device, Truncated}

-- where each fault comes from
abbrev pub recording_fault_origin : RecordingFault → Origin
recording_fault_origin Device = OfDevice
recording_fault_origin _ = OfContent

-- the fault is the recording's: then this holds
abbrev pub IfContent : RecordingFault → Type 0 → Type 0
IfContent f P = IfContentBy recording_fault_origin f P

-- the fault is the recording's
abbrev pub IsContent : RecordingFault → Type 0
IsContent Device = ⊥
IsContent _ = ⊤

-- a fault of the device is one failure more, and any other none
abbrev pub CountsFault : RecordingFault → ℕ → ℕ → Type 0
CountsFault f old new = CountsFaultBy recording_fault_origin f old new

-- what is answered without a fault is none either
abbrev pub CountsDevice : {V : Type 0} → ℕ → ℕ → Result V RecordingFault → Type 0
CountsDevice old new result = CountsDeviceBy recording_fault_origin old new result

-- so many octets
abbrev pub field_at : ℕ → List ℕ → Result (List ℕ × List ℕ) RecordingFault
field_at n octets = field_by Truncated n octets

-- a fault of the recording is the first that the reading finds in what a source was to give
abbrev pub Fails : {X : Type 0} → (List ℕ → Result (X × List ℕ) RecordingFault) → Option (List ℕ)
    → RecordingFault → Type 0
Fails reading old f = FailsBy recording_fault_origin reading old f

-- a fault of the recording is the first that the reading finds in what a source gave
abbrev pub GaveFault : {X : Type 0} → (List ℕ → Result (X × List ℕ) RecordingFault) → List ℕ
    → List ℕ → Type 0 → RecordingFault → Type 0
GaveFault reading before now ended f = GaveFaultBy recording_fault_origin reading before now ended f
