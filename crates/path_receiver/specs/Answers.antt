-- What the calls of a receiver answer.
use Rattle.std.specs.Prelude.{ℕ, ◌+◌, ◌-◌, ◌==◌, if◌then◌else◌, List, [], ◌∷◌, ◌++◌, length, drop}
use Rattle.std.specs.Prelude.{Result, Ok, Err, codes}
use Rattle.std.specs.List.{list_any}
use Rattle.st_format.specs.declared.path.Path.{Path}
use Rattle.payload_header.specs.Faults.{payload_fault_name, payload_fault_number}
use Rattle.payload_header.specs.declared.payload.PayloadFault.TheVariants as payload
use Rattle.rtp_header.specs.Faults.{rtp_fault_name, rtp_fault_number}
use Rattle.rtp_header.specs.declared.header.RtpFault.TheVariants as rtp
use Rattle.path_receiver.specs.declared.answer.Refusal.{Refusal}
use Rattle.path_receiver.specs.declared.answer.Refusal.TheVariants.{Header, WrongPayloadType}
use Rattle.path_receiver.specs.declared.answer.Refusal.TheVariants.{WrongSource, Payload}
use Rattle.path_receiver.specs.declared.answer.Taken.{Taken}
use Rattle.path_receiver.specs.declared.answer.Taken.TheVariants.{Kept, Outside}
use Rattle.path_receiver.specs.declared.fault.OpenFault.{OpenFault}
use Rattle.path_receiver.specs.declared.fault.OpenFault.TheVariants.{NoMemory, BadWindow}
use Rattle.path_receiver.specs.declared.fault.OpenFault.TheVariants.{DoubleTimestamp}
use Rattle.path_receiver.specs.declared.fault.SlideFault.{SlideFault}
use Rattle.path_receiver.specs.declared.fault.SlideFault.TheVariants.{InWindow, OtherFormat}
use Rattle.path_receiver.specs.Opening.{Opening}
use Rattle.path_receiver.specs.Grammar.{Datagram}
use Rattle.path_receiver.specs.Admission.{datagram_walk}
use Rattle.st_format.specs.Reading.{◌>>=◌}

-- the window's word on a datagram that is for the receiver (own)
abbrev pub kept_or_outside : List ℕ → Datagram → Taken
kept_or_outside window d =
    if list_any (λ t. t == d.timestamp) window then Kept d.number else Outside

-- what take answers: the first refusal, or the window's word
abbrev pub taken_at : Opening → List ℕ → Result Taken Refusal
taken_at o octets =
    datagram_walk o.format o.payload_type o.ssrc octets >>= λ d. Ok (kept_or_outside o.window d)

-- the last 64 of a list, or all where there are fewer
abbrev pub last_64 : {X : Type 0} → List X → List X
last_64 xs = drop (length xs - 64) xs

-- the refusals after a datagram by a path: where it was refused there is one more, and the last 64
-- stay (own)
abbrev pub refusals_after : Path → Result Taken Refusal
    → List (Path × Refusal) → List (Path × Refusal)
refusals_after path (Ok t) refusals = refusals
refusals_after path (Err e) refusals = last_64 (refusals ++ (path, e) ∷ [])

-- the numbers of the refusals, in their order
abbrev pub refusal_number : Refusal → ℕ
refusal_number (Header e) = rtp_fault_number e
refusal_number WrongPayloadType = 5
refusal_number WrongSource = 6
refusal_number (Payload e) = 6 + payload_fault_number e

-- all refusals, in the order of their numbers
abbrev pub all_refusals : List Refusal
all_refusals =
    Header rtp.ShortHeader ∷ Header rtp.BadVersion ∷ Header rtp.ShortExtension
    ∷ Header rtp.BadPadding ∷ WrongPayloadType ∷ WrongSource ∷ Payload payload.ShortPayloadHeader
    ∷ Payload payload.TooManySegments ∷ Payload payload.SecondField ∷ Payload payload.BadLength
    ∷ Payload payload.BadOffset ∷ Payload payload.RowOutside ∷ Payload payload.ColumnsOutside
    ∷ Payload payload.ShortData ∷ []

-- their names, as `name` answers them (own)
abbrev pub refusal_name : Refusal → List ℕ
refusal_name (Header e) = rtp_fault_name e
refusal_name WrongPayloadType = codes "WrongPayloadType"
refusal_name WrongSource = codes "WrongSource"
refusal_name (Payload e) = payload_fault_name e

-- the numbers of the faults of an opening, in their order
abbrev pub open_fault_number : OpenFault → ℕ
open_fault_number NoMemory = 1
open_fault_number BadWindow = 2
open_fault_number DoubleTimestamp = 3

-- their names (own)
abbrev pub open_fault_name : OpenFault → List ℕ
open_fault_name NoMemory = codes "NoMemory"
open_fault_name BadWindow = codes "BadWindow"
open_fault_name DoubleTimestamp = codes "DoubleTimestamp"

-- the numbers of the faults of a slide, in their order
abbrev pub slide_fault_number : SlideFault → ℕ
slide_fault_number InWindow = 1
slide_fault_number OtherFormat = 2

-- their names (own)
abbrev pub slide_fault_name : SlideFault → List ℕ
slide_fault_name InWindow = codes "InWindow"
slide_fault_name OtherFormat = codes "OtherFormat"

-- that of a source that failed (own)
abbrev pub receive_fault_name : List ℕ
receive_fault_name = codes "ReceiveFault"
