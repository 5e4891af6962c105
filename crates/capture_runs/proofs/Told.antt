-- What a run that ends by a fault has saved, and left as it was.
use Rattle.std.proofs.Common.{◌≡◌, ℕ, Result, Ok, Err, Option, None, Some, List, ap, subst, sym}
use Rattle.std.specs.Prelude.{IfErr, MatchOption, MatchResult, OnErr, Vec, ⊤}
use Rattle.capture_engines.specs.declared.reception.Reception.{Reception}
use Rattle.capture_runs.specs.Opened.{said_text}
use Rattle.capture_runs.specs.Refused.{HasSdpText}
use Rattle.capture_runs.specs.declared.opening.Files.{Files}
use Rattle.capture_runs.specs.declared.replayed.Replayed.{Replayed}
use Rattle.recording_engines.specs.Ways.{AreWaysBy}
use Rattle.run_outcome.specs.Fault.{Accounts, Blames, Failures, IfRefused}
use Rattle.run_outcome.specs.declared.fault.Fault.{Fault}
use Rattle.run_outcome.specs.Refusing.{OfRefusal}
use Rattle.run_outcome.specs.declared.fault.Fault.TheVariants.{Refused, Device, Memory}
use Rattle.run_outcome.specs.declared.refusal.Refusal.{Refusal}

-- by the fault that it ended by, which speaks of its devices
pub left_by : (o : Result (Unit {0}) Fault) (kept : Option Reception) (Sound : Type 0)
    (Saves : Fault → Reception → Type 0) (devices : List Failures) → Accounts o devices
    → IfErr o (λ f. MatchOption kept ⊤ (λ r. Sound × Saves f r))
    → OnErr o (MatchOption kept ⊤
    (λ r. Sound × ((f : Fault) × Blames devices f × Saves f r)))
left_by (Ok v) kept Sound Saves devices owed saves = tt
left_by (Err f) None Sound Saves devices owed saves = tt
left_by (Err f) (Some r) Sound Saves devices owed saves = (saves.0, (f, owed, saves.1))

-- what two sinks took, where a refusal leaves both as they were
pub untouched : {K W : Type 0} (o : Result (Unit {0}) Fault) (If : Type 0)
    (printed : W → List ℕ) (sink sink' : K) (output output' : W) (before last : List ℕ)
    → IfErr o (λ f. IfRefused f (If → sink' ≡ sink))
    → IfErr o (λ f. IfRefused f (If → output' ≡ output)) → (sink' ≡ sink → last ≡ before)
    → IfErr o (λ f. IfRefused f (If → (last ≡ before) × (printed output' ≡ printed output)))
untouched (Ok v) If printed sink sink' output output' before last kept quiet took = tt
untouched (Err (Refused x)) If printed sink sink' output output' before last kept quiet took =
    λ so. (took (kept so), ap printed (quiet so))
untouched (Err Device) If printed sink sink' output output' before last kept quiet took = tt
untouched (Err Memory) If printed sink sink' output output' before last kept quiet took = tt

-- and where memory was wanted
pub unwritten : {K W : Type 0} (o : Result (Unit {0}) Fault) (If : Type 0)
    (printed : W → List ℕ) (sink sink' : K) (output output' : W) (before last : List ℕ)
    → IfErr o (λ f. f ≡ Memory → If → (sink' ≡ sink) × (output' ≡ output))
    → (sink' ≡ sink → last ≡ before)
    → IfErr o (λ f. f ≡ Memory → If → (last ≡ before) × (printed output' ≡ printed output))
unwritten (Ok v) If printed sink sink' output output' before last wants took = tt
unwritten (Err f) If printed sink sink' output output' before last wants took = λ memory so.
    (took (wants memory so).0, ap printed (wants memory so).1)

-- what a run that was not begun is refused by, and what it leaves
pub opened_refused : (f : Fault) (opened : Result (Unit {0}) Fault) (R : Refusal → Type 0)
    (Left : Type 0) → opened ≡ Err f → Left
    → OfRefusal f (λ r. MatchResult opened (λ _. R r) (λ g. g ≡ Refused r) × Left)
opened_refused (Refused r) opened R Left is left = (by opened is, left)
  where
    by : (o : Result (Unit {0}) Fault) → o ≡ Err (Refused r)
        → MatchResult o (λ _. R r) (λ g. g ≡ Refused r)
    by (Ok v) is = absurd cc
    by (Err g) is = cc
opened_refused Device opened R Left is left = tt
opened_refused Memory opened R Left is left = tt

-- and one that was, by what it came to
pub begun_refused : {P : Type 0} (opened : Result (Unit {0}) Fault) (v : Unit {0}) (r : Refusal)
    → opened ≡ Ok v → P → MatchResult opened (λ _. P) (λ g. g ≡ Refused r)
begun_refused (Ok u) v r is why = why
begun_refused (Err f) v r is why = absurd cc

-- ---- what is behind the words

-- no SDP is named
pub none_read : (sdp : Option Replayed) (said : Option (List ℕ)) → sdp ≡ None
    → HasSdpText sdp said
none_read None said none = tt
none_read (Some file) said none = absurd cc

-- it stays as it was read
pub sdp_kept : (old new : Files) → new.sdp ≡ old.sdp → new.said ≡ old.said
    → HasSdpText old.sdp (said_text old.said) → HasSdpText new.sdp (said_text new.said)
sdp_kept old new sdp said is =
    subst (λ (x : Option Replayed). HasSdpText x (said_text new.said)) (sym sdp)
    (subst (λ (x : Option (Vec ℕ _)). HasSdpText old.sdp (said_text x)) (sym said) is)

-- and so do the flows by which files are taken
pub ways_kept : (a b : Option (List ℕ)) (n : ℕ) (old new : Files) → new.said ≡ old.said
    → new.ways ≡ old.ways → AreWaysBy a b (said_text old.said) n old.ways.items
    → (m : ℕ) × AreWaysBy a b (said_text new.said) m new.ways.items
ways_kept a b n old new said ways is = (n, rw (said, ways) is)
