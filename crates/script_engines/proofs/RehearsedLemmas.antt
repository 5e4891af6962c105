-- What is played and printed of a rehearsal.
use Rattle.std.proofs.Common.{◌≡◌, ◌⊎◌, inl, inr, Bool, ℕ, ◌<◌, ◌≤◌, List, ◌++◌, length}
use Rattle.std.proofs.Common.{get_or, Result, Ok, Err, OnOk, OnErr, IfErr, ap}
use Rattle.std.proofs.Common.{sym, subst, ◌∙◌, zero-add}
use Rattle.std.specs.List.{enumerate_from}
use Rattle.std.proofs.lemmas.List.FromFn.{get_or-enumerate_from, length-enumerate_from}
use Rattle.packet_plan.specs.Plan.{IsFullPlan, RasterPlan}
use Rattle.path_merge.specs.declared.schedule.event.Event.{Event}
use Rattle.path_receiver.specs.declared.play_fault.PlayFault.{PlayFault}
use Rattle.path_receiver.specs.declared.play_fault.PlayFault.TheVariants as play
use Rattle.path_merge.specs.declared.schedule.played.Handed.{Handed}
use Rattle.path_merge.specs.declared.schedule.played.Played.{Played}
use Rattle.path_receiver.specs.Frames.{State}
use Rattle.st_format.specs.Device.{GrowsPart}
use Rattle.st_format.specs.Picture.{Values}
use Rattle.run_outcome.proofs.Printed.{part_then, took_both}
use Rattle.run_outcome.specs.declared.fault.Fault.{Fault}
use Rattle.run_outcome.specs.declared.fault.Fault.TheVariants.{Refused, Device, Memory}
use Rattle.script_engines.specs.declared.rehearsal.Rehearsal.{Rehearsal}
use Rattle.run_outcome.specs.Fault.{IfRefused}
use Rattle.run_outcome.specs.Refusing.{OfRefusal}
use Rattle.run_outcome.specs.declared.script_line.LineFault.TheVariants.{Play}
use Rattle.run_outcome.specs.LowerFaults.{of_line}
use Rattle.script_engines.specs.Rehearsal.{Heading, IsFaultyRehearsal, Said, SaysRehearsal, said_by}
use Rattle.script_engines.specs.Rehearsed.{IsRefusedScript, IsRehearsalPlan, IsUnplayed}
use Rattle.script_engines.specs.Rehearsed.{IsUnplayedBy}
use Rattle.script_engines.specs.Rehearsed.{PlaysSaid, Rehearses, RehearsesPart}
use Rattle.script_engines.specs.Rehearsed.{handed_text, receivers_text}
use Rattle.script_engines.specs.Script.{line_behind, numbered_lines}

-- ---- texts of numbered items

pub numbered_item : {X : Type 0} (xs : List X) (i : ℕ) (x : X) → i < length xs
    → x ≡ get_or xs i x → ◌≡◌ {A = ℕ × X} (i, x) (get_or (enumerate_from 0 xs) i (i, x))
numbered_item xs i x lt is =
    sym (get_or-enumerate_from 0 xs i (i, x) lt
    ∙ ap (λ (k : ℕ). (k, get_or xs i x)) (zero-add i)
    ∙ ap (λ (y : _). (i, y)) (sym is))

pub numbered_before : {X : Type 0} (xs : List X) (i : ℕ) → i < length xs
    → i < length (enumerate_from 0 xs)
numbered_before xs i lt = subst (λ (n : ℕ). i < n) (sym (length-enumerate_from 0 xs)) lt

pub numbered_end : {X : Type 0} (xs : List X) (i : ℕ) → length xs ≤ i
    → length (enumerate_from 0 xs) ≤ i
numbered_end xs i end = subst (λ (n : ℕ). n ≤ i) (sym (length-enumerate_from 0 xs)) end

-- ---- one text behind another

-- where the second of two texts was printed, both were
pub both_printed : {V E : Type 0} (r : Result V E) (old mid new xs ys : List ℕ)
    → mid ≡ old ++ xs → OnOk r (new ≡ mid ++ ys) → OnOk r (new ≡ old ++ (xs ++ ys))
both_printed (Ok v) old mid new xs ys p q = took_both old mid new xs ys p q
both_printed (Err e) old mid new xs ys p q = tt

pub both_cut : {V E : Type 0} (r : Result V E) (old mid new xs ys : List ℕ)
    → mid ≡ old ++ xs → OnErr r (GrowsPart mid new ys) → OnErr r (GrowsPart old new (xs ++ ys))
both_cut (Ok v) old mid new xs ys p q = tt
both_cut (Err e) old mid new xs ys p q = part_then old mid new xs ys p q

-- what is so where a run succeeds
pub on_ok_map : {V E P Q : Type 0} (r : Result V E) → (P → Q) → OnOk r P → OnOk r Q
on_ok_map (Ok v) f p = f p
on_ok_map (Err e) f p = tt

pub on_err_map : {V E P Q : Type 0} (r : Result V E) → (P → Q) → OnErr r P → OnErr r Q
on_err_map (Ok v) f p = tt
on_err_map (Err e) f p = f p

-- ---- a script that is played, or refused

pub rehearses : {A : Type 0} (script : List ℕ) (r : Rehearsal A) (played : Played A)
    (handed : List (Handed A)) (receivers : List State) (old mid new : List ℕ)
    → handed ≡ played.handed.items → receivers ≡ played.receivers.items
    → SaysRehearsal (numbered_lines 0 script) (said_by r) → PlaysSaid played (said_by r)
    → mid ≡ old ++ handed_text handed → new ≡ mid ++ receivers_text receivers
    → Rehearses A script old new
rehearses script r played handed receivers old mid new h e says plays p q =
    let first : mid ≡ old ++ handed_text played.handed.items =
    subst (λ (hs : List (Handed _)). mid ≡ old ++ handed_text hs) h p in
    let last : new ≡ mid ++ receivers_text played.receivers.items =
    subst (λ (rs : List State). new ≡ mid ++ receivers_text rs) e q in
    record {
      said = said_by r;
      says = says;
      played = played;
      plays = plays;
      printed = took_both old mid new (handed_text played.handed.items)
          (receivers_text played.receivers.items) first last;
    }

-- where the output failed, a first part of it was printed
pub rehearses_part : {A : Type 0} (script : List ℕ) (r : Rehearsal A) (played : Played A)
    (handed : List (Handed A)) (receivers : List State) (old new : List ℕ)
    → handed ≡ played.handed.items → receivers ≡ played.receivers.items
    → SaysRehearsal (numbered_lines 0 script) (said_by r) → PlaysSaid played (said_by r)
    → GrowsPart old new (handed_text handed ++ receivers_text receivers)
    → RehearsesPart A script old new
rehearses_part script r played handed receivers old new h e says plays p = record {
  said = said_by r;
  says = says;
  played = played;
  plays = plays;
  cut =
      subst (λ (hs : List (Handed _)). GrowsPart old new
      (handed_text hs ++ receivers_text played.receivers.items)) h
      (subst (λ (rs : List State). GrowsPart old new
      (handed_text handed ++ receivers_text rs)) e p);
}

-- a fault of the lines that were read, as one that a run ends by
pub refused_read : (script : List ℕ) (is_cut : Bool) (f y : Fault) → y ≡ f
    → ((f ≡ Memory) ⊎ IsFaultyRehearsal (numbered_lines 0 script) is_cut (line_behind 0 script) f)
    → OfRefusal y (λ r. IsRefusedScript script is_cut (Refused r))
refused_read script is_cut f y same bad =
    subst (λ (g : Fault). OfRefusal g (λ r. IsRefusedScript script is_cut (Refused r))) (sym same)
    (refused f bad)
  where
    refused : (g : Fault) → ((g ≡ Memory)
        ⊎ IsFaultyRehearsal (numbered_lines 0 script) is_cut (line_behind 0 script) g)
        → OfRefusal g (λ r. IsRefusedScript script is_cut (Refused r))
    refused (Refused r) (inl memory) = absurd cc
    refused (Refused r) (inr faulty) = inl faulty
    refused Device faulty = tt
    refused Memory faulty = tt

-- what holds where a run that no refusal ends is refused
pub none_holds : {V : Type 0} (r : Result V Fault) (P : Type 0)
    → IfErr r (λ f. IfRefused f ⊥) → IfErr r (λ f. IfRefused f P)
none_holds (Ok v) P none = tt
none_holds (Err (Refused r)) P none = absurd none
none_holds (Err Device) P none = tt
none_holds (Err Memory) P none = tt

-- so of one fault
pub none_holds_of : (f : Fault) (P : Type 0) → IfRefused f ⊥ → IfRefused f P
none_holds_of (Refused r) P none = absurd none
none_holds_of Device P none = tt
none_holds_of Memory P none = tt

-- so of a rehearsal that is not played
pub refused_play : (script : List ℕ) (is_cut : Bool) (f : Fault) (said : Said)
    → SaysRehearsal (numbered_lines 0 script) said → IsUnplayed f said
    → OfRefusal f (λ r. IsRefusedScript script is_cut (Refused r))
refused_play script is_cut (Refused r) said says bad =
    inr (record { said = said; says = says; unplayed = bad })
refused_play script is_cut Device said says bad = tt
refused_play script is_cut Memory said says bad = tt

-- ---- what is played

-- a rehearsal with another window, other pictures and other events
abbrev pub said_like : Said → List ℕ → List Values → List Event → Said
said_like s window pictures events = record {
  heading = record {
    format = s.heading.format;
    stamp = s.heading.stamp;
    max_octets = s.heading.max_octets;
    window = window;
    receivers = s.heading.receivers;
  };
  pictures = pictures;
  events = events;
}

pub said_same : (s : Said) (window : List ℕ) (pictures : List Values) (events : List Event)
    → window ≡ s.heading.window → pictures ≡ s.pictures → events ≡ s.events
    → said_like s window pictures events ≡ s
said_same s window pictures events w p e =
    ap (λ (ts : List ℕ). said_like s ts pictures events) w
    ∙ ap (λ (ps : List Values). said_like s s.heading.window ps events) p
    ∙ ap (λ (es : List Event). said_like s s.heading.window s.pictures es) e

pub plan_of : (plan : RasterPlan) (h : Heading) → (plan.format ≡ h.format)
    × (plan.max_octets ≡ h.max_octets) → IsFullPlan plan.packets plan.format plan.max_octets
    → IsRehearsalPlan plan h
plan_of plan h made full = record { format_is = made.0; max_is = made.1; full = full }

-- what is said of a schedule that is not played
pub record SaysWhy {V : Type 0} (r : Result V PlayFault) (plan : RasterPlan) (said : Said)
    : Type 0 where
  pub window : r ≡ Err play.BadWindow → IsUnplayedBy play.BadWindow plan said
  pub double : r ≡ Err play.DoubleTimestamp → IsUnplayedBy play.DoubleTimestamp plan said
  pub pictures : r ≡ Err play.BadPictures → IsUnplayedBy play.BadPictures plan said
  pub receivers : r ≡ Err play.BadReceivers → IsUnplayedBy play.BadReceivers plan said
  pub event : (place : ℕ) → r ≡ Err (play.BadEvent place)
      → IsUnplayedBy (play.BadEvent place) plan said

pub unplayed : {V : Type 0} (r : Result V PlayFault) (f : PlayFault) (y : Fault) (number : ℕ)
    (plan : RasterPlan) (said : Said) → IsRehearsalPlan plan said.heading → SaysWhy r plan said
    → r ≡ Err f → y ≡ of_line number (Play f) → IsUnplayed y said
unplayed r play.NoMemory y number plan said of why is same =
    subst (λ (g : Fault). IsUnplayed g said) (sym same) tt
unplayed r (play.BadEvent place) y number plan said of why is same =
    subst (λ (g : Fault). IsUnplayed g said) (sym same) (plan, of, why.event place is)
unplayed r play.BadWindow y number plan said of why is same =
    subst (λ (g : Fault). IsUnplayed g said) (sym same) (plan, of, why.window is)
unplayed r play.DoubleTimestamp y number plan said of why is same =
    subst (λ (g : Fault). IsUnplayed g said) (sym same) (plan, of, why.double is)
unplayed r play.BadPictures y number plan said of why is same =
    subst (λ (g : Fault). IsUnplayed g said) (sym same) (plan, of, why.pictures is)
unplayed r play.BadReceivers y number plan said of why is same =
    subst (λ (g : Fault). IsUnplayed g said) (sym same) (plan, of, why.receivers is)
