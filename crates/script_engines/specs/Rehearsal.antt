-- What the lines of a rehearsal say, and which of them is at fault.
use Rattle.std.specs.Prelude.{◌≡◌, ◌⊎◌, ℕ, List, [], ◌∷◌, ◌++◌, codes, Bool, true, Ok}
use Rattle.std.specs.List.{AllZip}
use Rattle.packet_plan.specs.declared.stamp.Stamp.{Stamp}
use Rattle.path_merge.specs.declared.schedule.event.Event.{Event}
use Rattle.st_format.specs.declared.format.Format.{Format}
use Rattle.st_format.specs.Fields.{Fields, fields_of}
use Rattle.st_format.specs.Picture.{IsPicture, Values}
use Rattle.run_outcome.specs.declared.fault.Fault.{Fault}
use Rattle.run_outcome.specs.declared.script_line.Form.TheVariants.{End}
use Rattle.run_outcome.specs.LowerFaults.{IsMisformed, of_script}
use Rattle.script_engines.specs.declared.rehearsal.Head.{Head}
use Rattle.script_engines.specs.declared.rehearsal.Rehearsal.{Rehearsal}
use Rattle.script_engines.specs.FirstLines.{IsFaultyFormat, IsFaultyNext, ReadsFormat, ReadsOne}
use Rattle.script_engines.specs.RehearsalForms.{IsCountLine, IsEventLine, IsNumberLine}
use Rattle.script_engines.specs.RehearsalForms.{IsPictureText}
use Rattle.script_engines.specs.RehearsalForms.{IsStampLine, IsWindowLine}

-- ---- the first five lines

-- a line `max OCTETS`
abbrev pub IsMaxLine : List ℕ → ℕ → Type 0
IsMaxLine text octets = IsNumberLine text (codes "max ") octets

-- a text is a line `stamp`
abbrev pub SaysStamp : List ℕ → Type 0
SaysStamp text = (stamp : Stamp) × IsStampLine text stamp

-- a text is a line `max`
abbrev pub SaysMax : List ℕ → Type 0
SaysMax text = (octets : ℕ) × IsMaxLine text octets

-- a text is a line `window`
abbrev pub SaysWindow : List ℕ → Type 0
SaysWindow text = (window : List ℕ) × IsWindowLine text window

-- a text is a line `receivers`
abbrev pub SaysCount : List ℕ → Type 0
SaysCount text = (count : ℕ) × IsCountLine text count

-- What the first five lines of a rehearsal say (own)
pub record Heading : Type 0 where
  pub format : Format
  pub stamp : Stamp
  pub max_octets : ℕ
  pub window : List ℕ
  pub receivers : ℕ

-- what the lines that were read say
abbrev pub heading_of : {A : Type 0} → Head A → Heading
heading_of head = record {
  format = head.format;
  stamp = head.stamp;
  max_octets = head.max_octets;
  window = head.window.items;
  receivers = head.receivers;
}

-- The next five lines are of a format, a stamp, a greatest size, a window and a number of
-- receivers, in this order, and say these; the lines behind them are left (own)
pub record ReadsHead (lines behind : List (ℕ × List ℕ)) (h : Heading) : Type 0 where
  pub from_stamp : List (ℕ × List ℕ)
  pub from_max : List (ℕ × List ℕ)
  pub from_window : List (ℕ × List ℕ)
  pub from_count : List (ℕ × List ℕ)
  pub format : ReadsFormat lines from_stamp (Ok (fields_of h.format))
  pub stamp : ReadsOne (λ text. IsStampLine text h.stamp) from_stamp from_max
  pub max_octets : ReadsOne (λ text. IsMaxLine text h.max_octets) from_max from_window
  pub window : ReadsOne (λ text. IsWindowLine text h.window) from_window from_count
  pub receivers : ReadsOne (λ text. IsCountLine text h.receivers) from_count behind

-- the next line is at fault, or it is of its form and a later one is at fault
abbrev pub IsFaultyFrom : (List ℕ → Type 0) → (List (ℕ × List ℕ) → ℕ → Fault → Type 0)
    → List (ℕ × List ℕ) → ℕ → Fault → Type 0
IsFaultyFrom form Later lines end fault =
    IsFaultyNext form lines end fault
    ⊎ ((behind : List (ℕ × List ℕ)) × ReadsOne form lines behind × Later behind end fault)

-- the first line at fault from the window on
abbrev pub IsFaultyFromWindow : List (ℕ × List ℕ) → ℕ → Fault → Type 0
IsFaultyFromWindow lines end fault =
    IsFaultyFrom SaysWindow (IsFaultyNext SaysCount) lines end fault

-- the first line at fault from the greatest size on
abbrev pub IsFaultyFromMax : List (ℕ × List ℕ) → ℕ → Fault → Type 0
IsFaultyFromMax lines end fault = IsFaultyFrom SaysMax IsFaultyFromWindow lines end fault

-- the first line at fault from the stamp on
abbrev pub IsFaultyFromStamp : List (ℕ × List ℕ) → ℕ → Fault → Type 0
IsFaultyFromStamp lines end fault = IsFaultyFrom SaysStamp IsFaultyFromMax lines end fault

-- The first line at fault among the five that a rehearsal begins with (own)
abbrev pub IsFaultyHead : List (ℕ × List ℕ) → ℕ → Fault → Type 0
IsFaultyHead lines end fault =
    IsFaultyFormat lines end fault
    ⊎ ((behind : List (ℕ × List ℕ)) × (made : Fields) × ReadsFormat lines behind (Ok made)
    × IsFaultyFromStamp behind end fault)

-- ---- the lines behind them

-- digits are those of a picture of a format
pub record IsPictureOf (format : Format) (digits : List ℕ) (p : Values) : Type 0 where
  pub digits_are : IsPictureText digits p
  pub format_is : p.format ≡ format
  pub whole : IsPicture p

-- a line `picture DIGITS`
pub record IsPictureLine (format : Format) (text : List ℕ) (p : Values) : Type 0 where
  pub digits : List ℕ
  pub text_is : text ≡ codes "picture " ++ digits
  pub picture_is : IsPictureOf format digits p

-- Lines of pictures, one for each, and behind them lines of events, one for each; each in its
-- order, and no other line (own)
pub record IsBody (format : Format) (lines : List (ℕ × List ℕ)) (pictures : List Values)
    (events : List Event) : Type 0 where
  pub of_pictures : List (ℕ × List ℕ)
  pub of_events : List (ℕ × List ℕ)
  pub whole : lines ≡ of_pictures ++ of_events
  pub pictures_are : AllZip (λ line p. IsPictureLine format line.1 p) of_pictures pictures
  pub events_are : AllZip (λ line event. IsEventLine line.1 event) of_events events

-- a line adds its picture, which stands before all events, or its event
abbrev pub AddsLine : Format → List ℕ → List Values → List Event → List Values → List Event
    → Type 0
AddsLine format text pictures events pictures' events' =
    ((p : Values) × IsPictureLine format text p × (events ≡ []) × (events' ≡ [])
    × (pictures' ≡ pictures ++ p ∷ []))
    ⊎ ((event : Event) × IsEventLine text event × (events' ≡ events ++ event ∷ [])
    × (pictures' ≡ pictures))

-- no line that may follow those of such events: neither one of an event, nor, where there is none
-- before it, one of a picture
pub record IsUnfitBehind (format : Format) (events : List Event) (text : List ℕ) : Type 0 where
  pub no_picture : (p : Values) → events ≡ [] → IsPictureLine format text p → ⊥
  pub no_event : (event : Event) → IsEventLine text event → ⊥

-- The first line at fault behind the first five: those before it are of pictures and of events, and
-- it may not follow them (own)
pub record IsFaultyBody (format : Format) (lines : List (ℕ × List ℕ)) (fault : Fault)
    : Type 0 where
  pub before : List (ℕ × List ℕ)
  pub number : ℕ
  pub text : List ℕ
  pub behind : List (ℕ × List ℕ)
  pub pictures : List Values
  pub events : List Event
  pub whole : lines ≡ before ++ (number, text) ∷ behind
  pub fine : IsBody format before pictures events
  pub unfit : IsUnfitBehind format events text
  pub fault_is : IsMisformed number fault

-- ---- a whole rehearsal

-- What a rehearsal says: what is opened and sent, and the events (own)
pub record Said : Type 0 where
  pub heading : Heading
  pub pictures : List Values
  pub events : List Event

-- what a rehearsal that was read says
abbrev pub said_by : {A : Type 0} → Rehearsal A → Said
said_by r = record {
  heading = heading_of r.head;
  pictures = r.pictures.items;
  events = r.events.items;
}

-- Lines are those of a rehearsal, which says this: five, and behind them those of its pictures and
-- of its events, to the last (own)
pub record SaysRehearsal (lines : List (ℕ × List ℕ)) (said : Said) : Type 0 where
  pub behind : List (ℕ × List ℕ)
  pub head : ReadsHead lines behind said.heading
  pub body : IsBody said.heading.format behind said.pictures said.events

-- lines are those of a rehearsal, but the script passes the limit, and the next line is at fault
pub record IsCutRehearsal (lines : List (ℕ × List ℕ)) (is_cut : Bool) (end : ℕ) (fault : Fault)
    : Type 0 where
  pub said : Said
  pub fine : SaysRehearsal lines said
  pub cut : is_cut ≡ true
  pub fault_is : fault ≡ of_script end End

-- lines begin with the five of a rehearsal, and one behind them is at fault
pub record HasFaultyBody (lines : List (ℕ × List ℕ)) (fault : Fault) : Type 0 where
  pub behind : List (ℕ × List ℕ)
  pub heading : Heading
  pub head : ReadsHead lines behind heading
  pub body : IsFaultyBody heading.format behind fault

-- The first line at fault of a script that is no rehearsal (own)
abbrev pub IsFaultyRehearsal : List (ℕ × List ℕ) → Bool → ℕ → Fault → Type 0
IsFaultyRehearsal lines is_cut end fault =
    IsFaultyHead lines end fault
    ⊎ (HasFaultyBody lines fault ⊎ IsCutRehearsal lines is_cut end fault)
