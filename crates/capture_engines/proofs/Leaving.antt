-- What a run of `migrate` leaves of the capture that it writes.
use Rattle.std.proofs.Common.{◌≡◌, ℕ, inl, inr, List, Result, Ok, Err, IfErr}
use Rattle.std.proofs.Common.{refl, subst, sym}
use Rattle.std.specs.Prelude.{OnOk}
use Rattle.media_file.specs.Migrated.{IsOfCapture}
use Rattle.media_file.specs.declared.fault.FileFault.{FileFault}
use Rattle.media_file.specs.declared.fault.FileFault.TheVariants.{NoMemory, Device, BadName}
use Rattle.media_file.specs.declared.fault.FileFault.TheVariants.{BadVersion, Truncated, BadField}
use Rattle.media_file.specs.declared.fault.FileFault.TheVariants.{TrailingBytes, MixedGroup}
use Rattle.media_file.specs.declared.fault.FileFault.TheVariants.{TooManyRecords}
use Rattle.run_outcome.specs.Fault.{IfRefused}
use Rattle.run_outcome.specs.LowerFaults.{capture_fault}
use Rattle.capture_engines.specs.Migrating.{LeavesOff, LeavesAt, LeavesBy, Migrates, MovesBy}
use Rattle.capture_engines.specs.Migrating.{Passed, PrintsMigrated, MigratesUpTo}
use Rattle.capture_engines.specs.Migrating.LeavesOff.{Stopped, Untouched, Written}
use Rattle.run_outcome.specs.TextRefusals.{IsTextRefusal}
use Rattle.run_outcome.specs.Refusing.{OfRefusal}
use Rattle.run_outcome.specs.declared.fault.Fault.{Fault}
use Rattle.run_outcome.specs.declared.fault.Fault.TheVariants as fault
use Rattle.run_outcome.specs.declared.refusal.Refusal.{Refusal}
use Rattle.run_outcome.specs.declared.refusal.Refusal.TheVariants as why

-- a text that was read
abbrev Saying : Type 1
Saying = List ℕ → Type 0

-- a fault of the capture's file
moved_by : (f : FileFault) (text : List ℕ) (ended : Type 0) (old new : Passed) → IsOfCapture f
    → MigratesUpTo f text ended old new → MovesBy (capture_fault f) text ended old new
moved_by NoMemory text ended old new named stops = absurd named
moved_by TrailingBytes text ended old new named stops = absurd named
moved_by MixedGroup text ended old new named stops = absurd named
moved_by Device text ended old new named stops = stops
moved_by BadName text ended old new named stops = stops
moved_by BadVersion text ended old new named stops = stops
moved_by Truncated text ended old new named stops = stops
moved_by BadField text ended old new named stops = stops
moved_by TooManyRecords text ended old new named stops = stops

-- the text wasn't read
pub untouched : (f : Fault) (told : Saying) (Said : Saying) (ended : Type 0) (same : Passed)
    → OfRefusal f (IsTextRefusal why.MigrateSdp told) → LeavesBy f Said ended same same
untouched (fault.Refused (why.Capture f)) told Said ended same (inl is) =
    let clash : why.Capture f ≡ why.MigrateSdp = is.0 in absurd cc
untouched (fault.Refused (why.Capture f)) told Said ended same (inr is) = absurd is.1
untouched (fault.Refused r) told Said ended same is = refl
untouched fault.Device told Said ended same is = Untouched refl
untouched fault.Memory told Said ended same is = Untouched refl

-- the capture was written up to a fault
pub moved_left : (f : Fault) (text : List ℕ) (Said : Saying) (ended : Type 0) (old new : Passed)
    → Said text → MovesBy f text ended old new → LeavesBy f Said ended old new
moved_left (fault.Refused (why.Capture f)) text Said ended old new gives moved =
    record { text = text; read = gives; stopped = moved }
moved_left (fault.Refused r) text Said ended old new gives moved = absurd moved
moved_left fault.Device text Said ended old new gives moved =
    Stopped Device (record { text = text; read = gives; stopped = moved })
moved_left fault.Memory text Said ended old new gives moved = Untouched moved

-- all was written, and printing failed
pub printed_left : {V : Type 0} (r : Result V Fault) (Said : Saying) (ended : Type 0)
    (old new : Passed) → Migrates Said old.gave new.gave ended old.took new.took
    → IfErr r (λ f. IfRefused f ⊥) → IfErr r (λ f. LeavesBy f Said ended old new)
printed_left (Ok v) Said ended old new all none = tt
printed_left (Err (fault.Refused e)) Said ended old new all none = absurd none
printed_left (Err fault.Device) Said ended old new all none = Written all
printed_left (Err fault.Memory) Said ended old new all none = Written all

-- however the run ended
left_by : (f : Fault) (Said : Saying) (ended : Type 0) (old new : Passed)
    → LeavesBy f Said ended old new → LeavesOff Said ended old new
left_by (fault.Refused (why.Capture f)) Said ended old new is = Stopped f is
left_by (fault.Refused r) Said ended old new is = Untouched is
left_by fault.Device Said ended old new is = is
left_by fault.Memory Said ended old new is = is

pub run_left : {V : Type 0} (r : Result V Fault) (Said : Saying) (ended : Type 0)
    (old new : Passed) (shown shown' : List ℕ)
    → OnOk r (PrintsMigrated Said old.gave new.gave ended old.took new.took shown shown')
    → IfErr r (λ f. LeavesBy f Said ended old new) → LeavesOff Said ended old new
run_left (Ok v) Said ended old new shown shown' all is = Written all.migrated
run_left (Err f) Said ended old new shown shown' all is = left_by f Said ended old new is

-- a refusal is told with what it left
with_left : (Is : Refusal → Type 0) (f : Fault) (Said : Saying) (ended : Type 0)
    (old new : Passed) → OfRefusal f Is → LeavesBy f Said ended old new
    → OfRefusal f (λ r. Is r × LeavesAt r Said ended old new)
with_left Is (fault.Refused r) Said ended old new is left = (is, left)
with_left Is fault.Device Said ended old new is left = tt
with_left Is fault.Memory Said ended old new is left = tt

pub refused_left : {V : Type 0} (Is : Refusal → Type 0) (r : Result V Fault) (Said : Saying)
    (ended : Type 0) (old new : Passed) → IfErr r (λ f. OfRefusal f Is)
    → IfErr r (λ f. LeavesBy f Said ended old new)
    → IfErr r (λ f. OfRefusal f (λ e. Is e × LeavesAt e Said ended old new))
refused_left Is (Ok v) Said ended old new is left = tt
refused_left Is (Err f) Said ended old new is left = with_left Is f Said ended old new is left

pub moved_fault : (f : FileFault) (result : Fault) (text : List ℕ) (ended : Type 0)
    (old new : Passed) → result ≡ capture_fault f → IsOfCapture f
    → MigratesUpTo f text ended old new → MovesBy result text ended old new
moved_fault f result text ended old new is named stops =
    subst (λ (e : Fault). MovesBy e text ended old new) (sym is)
    (moved_by f text ended old new named stops)
