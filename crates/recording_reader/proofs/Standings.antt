-- Where a reader of a file stands, and what is known of the file then.
use Rattle.std.proofs.Common.{◌≡◌, ℕ, List, [], ◌∷◌, ◌++◌, Option, None, Some}
use Rattle.std.proofs.Common.{refl, sym, ap, subst, ◌∙◌, false, true}
use Rattle.std.specs.Prelude.{IsSome}
use Rattle.flow.specs.declared.flows.Flows.{Flows}
use Rattle.media_file.specs.Records.{Entry, records_text}
use Rattle.st_format.specs.History.{GrewFrom, IsRead, since}
use Rattle.recording_reader.specs.FileReader.{IsExact, IsKnownBy}
use Rattle.recording_reader.specs.Files.{HasFirstRecords, HasFrontBy, HaveFileRecords}
use Rattle.recording_reader.specs.Files.{text_of_file}
use Rattle.recording_reader.specs.Found.{entry_at}
use Rattle.recording_reader.specs.Kinds.{is_recording}
use Rattle.recording_reader.specs.Reading.{entry_there}
use Rattle.recording_reader.specs.Ways.{FailsNextBy, FindsNext, HasSpace, IsAtHand}
use Rattle.recording_reader.specs.Ways.{RecordingStands, WayStands}
use Rattle.recording_reader.specs.Ways.{is_recording_way, left_out_by}
use Rattle.recording_reader.specs.declared.fault.ReadingFault.{ReadingFault}
use Rattle.recording_reader.specs.declared.fault.ReadingFault.TheVariants as fault
use Rattle.recording_reader.specs.declared.found.Found.{Found}
use Rattle.recording_reader.specs.declared.way.Standing.{Standing}
use Rattle.recording_reader.specs.declared.way.Standing.TheVariants.{Reads, Ended, Failed}
use Rattle.recording_reader.specs.declared.way.FileKind.{FileKind}
use Rattle.recording_reader.specs.declared.way.FileKind.TheVariants.{Capture, Recording}
use Rattle.recording_reader.proofs.Captures.{capture_again, capture_end, capture_fails, capture_grew}
use Rattle.recording_reader.proofs.Captures.{capture_has, capture_kind, capture_known, capture_said}
use Rattle.recording_reader.proofs.Captures.{capture_parts, capture_text_is}
use Rattle.recording_reader.proofs.Recordings.{recording_again, recording_end, recording_fails}
use Rattle.recording_reader.proofs.Recordings.{recording_front, recording_grew, recording_has}
use Rattle.recording_reader.proofs.Recordings.{recording_kind}
use Rattle.recording_reader.proofs.Recordings.{recording_known, recording_said, recording_text_is}

abbrev some_flows : Flows → Option Flows
some_flows flows = Some flows

-- ---- what is known

pub way_grew : (way : FileKind) (flows : Option Flows) (standing : Standing) (before now : List ℕ)
    (ended : Type 0) (text : List ℕ) (records : List Entry)
    → WayStands way flows standing before now ended text records → GrewFrom before now
way_grew Capture flows standing before now ended text records s =
    capture_grew standing before now ended text records s
way_grew (Recording t) flows standing before now ended text records s =
    recording_grew t.flows standing t.layout before now ended records t.left_out s.2

pub way_text : (way : FileKind) (flows : Option Flows) (standing : Standing) (before now : List ℕ)
    (ended : Type 0) (text : List ℕ) (records : List Entry)
    → WayStands way flows standing before now ended text records
    → text_of_file (since before now) ≡ text
way_text Capture flows standing before now ended text records s =
    capture_text_is standing before now ended text records s
way_text (Recording t) flows standing before now ended text records s =
    recording_text_is t.flows standing t.layout before now ended records t.left_out s.2 ∙ sym s.1

pub way_has : (way : FileKind) (flows : Option Flows) (standing : Standing) (before now : List ℕ)
    (ended : Type 0) (text : List ℕ) (records : List Entry)
    → WayStands way flows standing before now ended text records → IsExact standing
    → HaveFileRecords flows (since before now) records (left_out_by way)
way_has Capture flows standing before now ended text records s exact =
    capture_has standing before now ended text records s flows
way_has (Recording t) flows standing before now ended text records s exact =
    subst (λ (f : Option Flows). HaveFileRecords f (since before now) records t.left_out) (sym s.0)
    (recording_has t.flows standing t.layout before now ended records t.left_out s.2 exact)

-- between records
pub exact_between : (standing : Standing) → standing ≡ Reads → IsExact standing
exact_between standing reads = subst (λ (s : Standing). IsExact s) (sym reads) tt

-- of a capture wherever its reader stands
pub way_given : (way : FileKind) (flows : Option Flows) (standing : Standing) (before now : List ℕ)
    (ended : Type 0) (text : List ℕ) (records : List Entry)
    → WayStands way flows standing before now ended text records → is_recording_way way ≡ false
    → HaveFileRecords flows (since before now) records (left_out_by way)
way_given Capture flows standing before now ended text records s kind =
    capture_has standing before now ended text records s flows
way_given (Recording t) flows standing before now ended text records s kind = absurd cc

pub way_parts : (way : FileKind) (flows : Option Flows) (standing : Standing) (before now : List ℕ)
    (ended : Type 0) (text : List ℕ) (records : List Entry) (octets : List ℕ)
    → WayStands way flows standing before now ended text records → is_recording_way way ≡ false
    → IsRead before now ended octets → HasFirstRecords text records octets
way_parts Capture flows standing before now ended text records octets s kind read =
    capture_parts standing before now ended text records s flows octets read
way_parts (Recording t) flows standing before now ended text records octets s kind read = absurd cc

-- a recording is read by flows
pub way_by_flows : (way : FileKind) (flows : Option Flows) (standing : Standing)
    (before now : List ℕ) (ended : Type 0) (text : List ℕ) (records : List Entry)
    → WayStands way flows standing before now ended text records → is_recording_way way ≡ true
    → IsSome flows
way_by_flows Capture flows standing before now ended text records s kind = absurd cc
way_by_flows (Recording t) flows standing before now ended text records s kind =
    subst (λ (f : Option Flows). IsSome f) (sym s.0) refl

pub way_kind : (way : FileKind) (flows : Option Flows) (standing : Standing) (before now : List ℕ)
    (ended : Type 0) (text : List ℕ) (records : List Entry) (octets : List ℕ)
    → WayStands way flows standing before now ended text records → IsRead before now ended octets
    → is_recording octets ≡ is_recording_way way
way_kind Capture flows standing before now ended text records octets s read =
    capture_kind standing before now ended text records s flows octets read
way_kind (Recording t) flows standing before now ended text records octets s read =
    recording_kind t.flows standing t.layout before now ended records t.left_out s.2 octets read

-- its front is without a fault
pub way_front : (way : FileKind) (flows : Option Flows) (standing : Standing) (before now : List ℕ)
    (ended : Type 0) (text : List ℕ) (records : List Entry) (octets : List ℕ)
    → WayStands way flows standing before now ended text records → IsRead before now ended octets
    → HasFrontBy (is_recording_way way) octets
way_front Capture flows standing before now ended text records octets s read =
    let parts = capture_parts standing before now ended text records s flows octets read in
    ((text, records_text records ++ parts.behind), parts.front)
way_front (Recording t) flows standing before now ended text records octets s read =
    recording_front t.flows standing t.layout before now ended records t.left_out s.2 octets read

pub way_said : (way : FileKind) (flows : Option Flows) (standing : Standing) (before now : List ℕ)
    (ended : Type 0) (text : List ℕ) (records : List Entry) (octets : List ℕ)
    → WayStands way flows standing before now ended text records → IsRead before now ended octets
    → text_of_file octets ≡ text
way_said Capture flows standing before now ended text records octets s read =
    capture_said standing before now ended text records s flows octets read
way_said (Recording t) flows standing before now ended text records octets s read =
    recording_said t.flows standing t.layout before now ended records t.left_out s.2 octets read
    ∙ sym s.1

pub way_known : (way : FileKind) (flows : Option Flows) (standing : Standing) (before now : List ℕ)
    (ended : Type 0) (text : List ℕ) (records : List Entry) (octets : List ℕ)
    → WayStands way flows standing before now ended text records → IsRead before now ended octets
    → IsKnownBy flows standing octets records (left_out_by way)
way_known Capture flows standing before now ended text records octets s read =
    capture_known standing before now ended text records s flows octets read
way_known (Recording t) flows standing before now ended text records octets s read =
    subst (λ (f : Option Flows). IsKnownBy f standing octets records t.left_out) (sym s.0)
    (recording_known t.flows standing t.layout before now ended records t.left_out s.2 octets read)

-- ---- one call later

module _ (flows : Option Flows) (standing : Standing) (before old new : List ℕ)
    (ended ended' : Type 0) (text : List ℕ) (records : List Entry) (reads : standing ≡ Reads) where
  pub way_again : (was way : FileKind) (f : Found) (buffer : List ℕ)
      → WayStands was flows standing before old ended text records
      → FindsNext was way (Some f) buffer old new ended'
      → WayStands way flows standing before new ended' text (records ++ entry_at f buffer ∷ [])
  way_again Capture Capture f buffer s next =
      capture_again standing before old new ended ended' text records reads s (entry_at f buffer)
      next
  way_again Capture (Recording u) f buffer s next = absurd next
  way_again (Recording t) Capture f buffer s next = absurd next
  way_again (Recording t) (Recording u) f buffer s next = (
    s.0 ∙ ap (λ (x : Flows). some_flows x) (sym next.0),
    s.1,
    subst (λ (x : Flows). RecordingStands x standing u.layout before new ended'
        (records ++ entry_at f buffer ∷ []) u.left_out) (sym next.0)
        (recording_again t.flows standing t.layout u.layout before old new ended ended' records
        t.left_out u.left_out reads s.2 next.1 f buffer next.2),
  )

  pub way_end : (was way : FileKind) (buffer : List ℕ)
      → WayStands was flows standing before old ended text records
      → FindsNext was way None buffer old new ended'
      → WayStands way flows Ended before new ended' text records
  way_end Capture Capture buffer s next =
      capture_end standing before old new ended ended' text records reads s next.0 next.1
  way_end Capture (Recording u) buffer s next = absurd next
  way_end (Recording t) Capture buffer s next = absurd next
  way_end (Recording t) (Recording u) buffer s next = (
    s.0 ∙ ap (λ (x : Flows). some_flows x) (sym next.0),
    s.1,
    subst (λ (x : Flows). RecordingStands x Ended u.layout before new ended' records u.left_out)
        (sym next.0)
        (recording_end t.flows standing t.layout u.layout before old new ended ended' records
        t.left_out u.left_out reads s.2 next.1 buffer next.2),
  )

  pub way_fails : (was way : FileKind) (f : ReadingFault)
      → WayStands was flows standing before old ended text records
      → FailsNextBy was way f old new ended'
      → WayStands way flows (Failed f) before new ended' text records
  way_fails Capture Capture (fault.Capture f) s next =
      capture_fails standing before old new ended ended' text records reads s f next
  way_fails Capture Capture (fault.Recording f) s next = absurd next
  way_fails Capture (Recording u) f s next = absurd next
  way_fails (Recording t) Capture f s next = absurd next
  way_fails (Recording t) (Recording u) (fault.Capture f) s next = absurd next
  way_fails (Recording t) (Recording u) (fault.Recording f) s next = (
    s.0 ∙ ap (λ (x : Flows). some_flows x) (sym next.0),
    s.1,
    subst (λ (x : Flows). RecordingStands x (Failed (fault.Recording f)) u.layout before new
        ended' records u.left_out) (sym next.0)
        (recording_fails t.flows standing t.layout u.layout before old new ended ended' records
        t.left_out u.left_out reads s.2 next.1 f next.2),
  )

-- ---- what stays

pub same_room : (was way : FileKind) (o : Option Found) (buffer old new : List ℕ) (ended : Type 0)
    (count : ℕ) → FindsNext was way o buffer old new ended → HasSpace was count → HasSpace way count
same_room Capture Capture o buffer old new ended count next is = is
same_room Capture (Recording u) o buffer old new ended count next is = absurd next
same_room (Recording t) Capture o buffer old new ended count next is = absurd next
same_room (Recording t) (Recording u) o buffer old new ended count next is = is

pub same_room_failed : (was way : FileKind) (f : ReadingFault) (old new : List ℕ) (ended : Type 0)
    (count : ℕ) → FailsNextBy was way f old new ended → HasSpace was count → HasSpace way count
same_room_failed Capture Capture f old new ended count next is = is
same_room_failed Capture (Recording u) f old new ended count next is = absurd next
same_room_failed (Recording t) Capture f old new ended count next is = absurd next
same_room_failed (Recording t) (Recording u) f old new ended count next is = is

-- ---- what is at hand

pub at_hand : (o : Option Found) (standing : Standing) → standing ≡ Reads → IsAtHand standing o
at_hand None standing is = tt
at_hand (Some f) standing is = is

pub none_failed : (o : Option Found) (buffer : List ℕ) (standing : Standing) (f : ReadingFault)
    → IsAtHand standing o → standing ≡ Failed f → entry_there o buffer ≡ None
none_failed None buffer standing f hand is = refl
none_failed (Some found) buffer standing f hand is =
    let other : Reads ≡ Failed f = sym hand ∙ is in absurd cc
