-- A form read from the left: its readings, of those that st_format has for any, by where a form's
-- faults come from (own).
use Rattle.std.specs.Prelude.{◌≡◌, ℕ, ◌+◌, ◌==◌, ◌<◌, nat_lt, if◌then◌else◌, List, [], ◌++◌}
use Rattle.std.specs.Prelude.{length, take, drop, Option, Result, Ok, Err}
use Rattle.std.specs.List.{position_or_len}
use Rattle.std.specs.Io.KnownBytes.{Consumes, IsAtEnd}
use Rattle.st_format.specs.Given.{FailsBy, GaveFaultBy, field_by}
use Rattle.picture_forms.specs.declared.fault.FormFault.{FormFault}
use Rattle.picture_forms.specs.declared.fault.FormFault.TheVariants.{NoMemory, Device, BadHeader}
use Rattle.picture_forms.specs.declared.fault.FormFault.TheVariants.{Truncated}
use Rattle.picture_forms.specs.Faults.{form_fault_origin}

-- READINGS

-- so many octets
abbrev pub field_at : ℕ → List ℕ → Result (List ℕ × List ℕ) FormFault
field_at n octets = field_by Truncated n octets

-- LF, by which a line ends
abbrev pub line_feed : ℕ
line_feed = 10

-- a line of which so many octets stand before the first LF, or in all where there is none
abbrev pub line_by : ℕ → List ℕ → ℕ → Result (List ℕ × List ℕ) FormFault
line_by most octets before =
    if nat_lt before most
    then (if nat_lt before (length octets) then Ok (take before octets, drop (before + 1) octets)
    else Err Truncated)
    else Err BadHeader

-- The octets up to the first LF, which stands behind fewer than so many. Those behind it come next.
unfoldable pub line_at : ℕ → List ℕ → Result (List ℕ × List ℕ) FormFault
line_at most octets =
    line_by most octets (position_or_len (λ octet. octet == line_feed) octets)

-- SOURCES

-- a fault of the content is the first that the reading finds in what a source was to give
abbrev pub Fails : {X : Type 0} → (List ℕ → Result (X × List ℕ) FormFault) → Option (List ℕ)
    → FormFault → Type 0
Fails reading old f = FailsBy form_fault_origin reading old f

-- a fault of the content is the first that the reading finds in what a source gave
abbrev pub GaveFault : {X : Type 0} → (List ℕ → Result (X × List ℕ) FormFault) → List ℕ → List ℕ
    → Type 0 → FormFault → Type 0
GaveFault reading before now ended f = GaveFaultBy form_fault_origin reading before now ended f

-- A source has ended, and gave nothing more.
pub record Ends (was left : Option (List ℕ)) (before now : List ℕ) (ended : Type 0)
    : Type 0 where
  pub given : Consumes was left []
  pub none : IsAtEnd left
  pub same : now ≡ before
  pub over : ended

-- THE SAME OF BOTH: of what a source was to give, and of what it gave so far

-- a source gave these octets
pub record Gives (was left : Option (List ℕ)) (before now octets : List ℕ) : Type 0 where
  pub given : Consumes was left octets
  pub grown : now ≡ before ++ octets

-- it gave octets of which the reading makes this value, whatever is behind them
pub record Reads {X : Type 0} (reading : List ℕ → Result (X × List ℕ) FormFault)
    (was left : Option (List ℕ)) (before now : List ℕ) (x : X) : Type 0 where
  pub part : List ℕ
  pub gives : Gives was left before now part
  pub says : (behind : List ℕ) → reading (part ++ behind) ≡ Ok (x, behind)

-- no value is read
abbrev pub IsNoValue : {X : Type 0} → Result (X × List ℕ) FormFault → Type 0
IsNoValue read = (e : FormFault) × (read ≡ Err e)

-- In this part a reading finds a fault. Where octets are missing, the source has ended; each other
-- fault of the content is found whatever is behind the part. Where memory or the device fails, the
-- part by itself makes no value.
abbrev pub IsFaultIn : {X : Type 0} → (List ℕ → Result (X × List ℕ) FormFault) → FormFault
    → List ℕ → Option (List ℕ) → Type 0 → Type 0
IsFaultIn reading NoMemory part left ended = IsNoValue (reading part)
IsFaultIn reading Device part left ended = IsNoValue (reading part)
IsFaultIn reading Truncated part left ended =
    ended × (IsAtEnd left × (reading part ≡ Err Truncated))
IsFaultIn reading f part left ended = (behind : List ℕ) → reading (part ++ behind) ≡ Err f

-- a source gave a part in which the reading finds this fault
pub record Refuses {X : Type 0} (reading : List ℕ → Result (X × List ℕ) FormFault)
    (was left : Option (List ℕ)) (before now : List ℕ) (ended : Type 0) (f : FormFault)
    : Type 0 where
  pub part : List ℕ
  pub gives : Gives was left before now part
  pub finds : IsFaultIn reading f part left ended

-- a fault where so many octets were to come, and fewer came: the device's, or the source has ended
abbrev pub IsShort : FormFault → ℕ → List ℕ → Option (List ℕ) → Type 0 → Type 0
IsShort Device n part left ended = length part < n
IsShort Truncated n part left ended = (length part < n) × (ended × IsAtEnd left)
IsShort f n part left ended = ⊥

-- a source gave only a part where so many octets were to come, for this fault
pub record IsCut (f : FormFault) (n : ℕ) (was left : Option (List ℕ)) (before now : List ℕ)
    (ended : Type 0) : Type 0 where
  pub part : List ℕ
  pub gives : Gives was left before now part
  pub short : IsShort f n part left ended
