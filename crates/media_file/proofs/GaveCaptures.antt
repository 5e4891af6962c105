-- A capture that was read as one value, by what its source gave.
use Rattle.std.proofs.Common.{◌≡◌, ℕ, ◌≤◌, List, [], ◌++◌, length, Some, Result, Ok, Err}
use Rattle.std.proofs.Common.{refl}
use Rattle.std.specs.Prelude.{IfErr, IfOk, MatchResult, OnOk}
use Rattle.st_format.specs.Device.{AreOctets}
use Rattle.st_format.specs.History.{GrewFrom, IsRead}
use Rattle.media_file.specs.declared.capture.Capture.{Capture}
use Rattle.media_file.specs.declared.fault.FileFault.{FileFault}
use Rattle.media_file.specs.Capture.{Content, IsCapture, capture_seen, capture_walk}
use Rattle.media_file.specs.Capture.{records_at}
use Rattle.media_file.specs.CaptureFaults.{IsCaptureFault}
use Rattle.media_file.specs.Faults.{IfContent, IsMachine, file_fault_origin}
use Rattle.media_file.specs.Fields.{GaveFault}
use Rattle.st_format.specs.Given.{GaveValue, GaveWhole}
use Rattle.media_file.specs.Fronts.{front_at}
use Rattle.media_file.specs.Records.{Entry}
use Rattle.media_file.proofs.CaptureFaults.{capture_wrong}
use Rattle.media_file.proofs.Found.{found_read}
use Rattle.media_file.proofs.Gave.{fault_grew, fault_read}
use Rattle.media_file.proofs.Gave.{whole_grew, whole_read}
use Rattle.media_file.proofs.Loops.{capture_cut, capture_fails, capture_gives}
use Rattle.media_file.proofs.Splits.{only_read}
use Rattle.st_format.proofs.Gave.{fault_one, fault_two, grew_twice}

-- ---- its front and its records

pub capture_gave : (limit : ℕ) (a b c text : List ℕ) (ended : Type 0) (es : List Entry)
    → GaveValue front_at a b text → GaveWhole (records_at limit) b c ended es
    → GaveWhole (capture_walk limit) a c ended (record { text = text; records = es })
capture_gave limit a b c text ended es g h = record {
  part = g.part ++ h.part;
  grown = grew_twice a b c g.part h.part g.grown h.grown;
  over = h.over;
  says =
      capture_gives limit (Some (g.part ++ h.part)) (Some h.part) (Some []) text es
      (g.says h.part) h.says;
}

pub capture_gave_cut : (limit : ℕ) (a b : List ℕ) (ended : Type 0) (f : FileFault)
    → GaveFault front_at a b ended f → GaveFault (capture_walk limit) a b ended f
capture_gave_cut limit a b ended f g =
    fault_one file_fault_origin front_at (capture_walk limit) a b ended f
    (λ was p. capture_cut limit was f p) g

pub capture_gave_wrong : (limit : ℕ) (a b c text : List ℕ) (ended : Type 0) (f : FileFault)
    → GaveValue front_at a b text → GaveFault (records_at limit) b c ended f
    → GaveFault (capture_walk limit) a c ended f
capture_gave_wrong limit a b c text ended f g h =
    fault_two file_fault_origin front_at (records_at limit) (capture_walk limit) text a b c ended f
    (λ was mid p q. capture_fails limit was mid text f p q) g h

-- ---- what was read

pub capture_found : {A : Type 0} (limit : ℕ) (a b : List ℕ) (ended : Type 0)
    (r : Result (Capture A) FileFault)
    → IfOk r (λ v. GaveWhole (capture_walk limit) a b ended (capture_seen v))
    → IfOk r (λ v. (octets : List ℕ) → IsRead a b ended octets → AreOctets octets
    → IsCapture octets (capture_seen v) × (length v.records.items ≤ limit))
capture_found limit a b ended (Ok v) g = λ octets q bytes.
    let found =
    found_read limit (Some octets) (Some []) (Ok v)
    (whole_read (capture_walk limit) (capture_seen v) a b ended octets g q) bytes octets refl in
    (found.0, found.1)
capture_found limit a b ended (Err f) g = tt

pub capture_ended : {A : Type 0} (limit : ℕ) (a b : List ℕ) (ended : Type 0)
    (r : Result (Capture A) FileFault)
    → IfOk r (λ v. GaveWhole (capture_walk limit) a b ended (capture_seen v)) → OnOk r ended
capture_ended limit a b ended (Ok v) g = g.over
capture_ended limit a b ended (Err f) g = tt

pub capture_refused : {X : Type 0} (limit : ℕ) (a b : List ℕ) (ended : Type 0)
    (r : Result X FileFault) → IfErr r (λ f. GaveFault (capture_walk limit) a b ended f)
    → IfErr r (λ f. (octets : List ℕ) → IsRead a b ended octets → AreOctets octets
    → IfContent f (IsCaptureFault f limit octets))
capture_refused limit a b ended (Ok x) g = tt
capture_refused {X} limit a b ended (Err f) g = λ octets q bytes.
    let r : Result X FileFault = Err f in
    capture_wrong limit (Some octets) r (fault_read (capture_walk limit) a b ended f octets g q)
    octets refl bytes

pub capture_once : {A : Type 0} (limit : ℕ) (a b : List ℕ) (ended : Type 0)
    (r : Result (Capture A) FileFault)
    → IfOk r (λ v. GaveWhole (capture_walk limit) a b ended (capture_seen v))
    → IfErr r (λ f. GaveFault (capture_walk limit) a b ended f)
    → (d : Content) (octets : List ℕ) → IsRead a b ended octets → IsCapture octets d
    → length d.records ≤ limit → MatchResult r (λ v. capture_seen v ≡ d) IsMachine
capture_once limit a b ended (Ok v) g h d octets q is few =
    only_read limit (Some octets) (Some []) (Ok v)
    (whole_read (capture_walk limit) (capture_seen v) a b ended octets g q) tt d octets refl is few
capture_once {A} limit a b ended (Err f) g h d octets q is few =
    let r : Result (Capture A) FileFault = Err f in
    only_read limit (Some octets) (Some []) r tt
    (fault_read (capture_walk limit) a b ended f octets h q) d octets refl is few

pub capture_grew : {A : Type 0} (limit : ℕ) (a b : List ℕ) (ended : Type 0)
    (r : Result (Capture A) FileFault)
    → IfOk r (λ v. GaveWhole (capture_walk limit) a b ended (capture_seen v))
    → IfErr r (λ f. GaveFault (capture_walk limit) a b ended f) → GrewFrom a b
capture_grew limit a b ended (Ok v) g h =
    whole_grew (capture_walk limit) (capture_seen v) a b ended g
capture_grew limit a b ended (Err f) g h = fault_grew (capture_walk limit) a b ended f h
