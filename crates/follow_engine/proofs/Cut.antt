-- Events of which some first were told.
use Rattle.std.proofs.Common.{◌≡◌, ◌∙◌, ℕ, Bool, true, List, [], ◌∷◌, ◌++◌, Option, Some}
use Rattle.std.proofs.Common.{Result, Ok, Err, IfErr, ap, append-nil, append_assoc, cond, inl, inr}
use Rattle.std.proofs.Common.{refl, subst, sym}
use Rattle.std.proofs.lemmas.Grind.{flat_map-append}
use Rattle.std.proofs.lemmas.List.Elements.{filter_map-append}
use Rattle.following.specs.Follower.{Following}
use Rattle.following.specs.Following.{Handed, frames_in, handed_before}
use Rattle.following.specs.Turned.{answer_in, handed_early, handed_in, state_taken}
use Rattle.following.specs.declared.answer.Followed.{Followed}
use Rattle.frame_assembly.specs.Kinds.{counts_of}
use Rattle.frame_assembly.specs.declared.counts.Counts.{Counts}
use Rattle.path_receiver.specs.declared.answer.Refusal.{Refusal}
use Rattle.path_receiver.specs.Took.{datagrams_since}
use Rattle.run_outcome.specs.Fault.{IfRefused}
use Rattle.run_outcome.specs.declared.fault.Fault.{Fault}
use Rattle.run_outcome.specs.declared.fault.Fault.TheVariants.{Device, Memory, Refused}
use Rattle.st_format.specs.Device.{GrowsPart}
use Rattle.st_format.specs.declared.path.Path.{Path}
use Rattle.follow_engine.specs.Events.{Anew, Event, Left, Running, datagram_time, events_at}
use Rattle.follow_engine.specs.Events.{events_in, frame_of_event, frames_of_events, is_anew}
use Rattle.follow_engine.specs.Events.{late_left, late_with, leaving, noted_by, time_or_zero}
use Rattle.follow_engine.specs.Events.{turn_left, turn_taken}
use Rattle.follow_engine.specs.Line.{ended_line}
use Rattle.follow_engine.specs.Running.{LeavesWith, TellsDatagram, TellsEvents, TellsSome}
use Rattle.follow_engine.specs.Shown.{GrowsSome, IsCutAtFrame, TakesEachFrame, TakesSome}
use Rattle.follow_engine.specs.Telling.{event_text, events_text}
use Rattle.follow_engine.specs.declared.line.FollowLine.TheVariants as line
use Rattle.follow_engine.proofs.Grows.{grows_all, grows_first, grows_none, grows_part, grows_then}
use Rattle.follow_engine.proofs.Leaving.{HasLeft, leaving_append}
use Rattle.follow_engine.proofs.Parts.{events_more}
use Rattle.follow_engine.proofs.Tells.{takes_both}
use Rattle.follow_engine.proofs.Turns.{FollowedSo, since_more}

-- ---- frames

module _ {K : Type 0} (takes fails : K → Handed → K → Type 0) where
  cut_none : (k : K) (hs : List Handed) → IsCutAtFrame fails k hs k
  cut_none k [] = refl
  cut_none k (h ∷ hs) = inl refl

  cut_more : (mid new : K) (hs gs : List Handed) → IsCutAtFrame fails mid hs new
      → IsCutAtFrame fails mid (hs ++ gs) new
  cut_more mid new [] [] is = is
  cut_more mid new [] (g ∷ gs) is = inl is
  cut_more mid new (h ∷ hs) gs is = is

  pub some_none : (k : K) (hs : List Handed) → TakesSome takes fails k hs k
  some_none k hs = record {
    shown = [];
    rest = hs;
    parts = refl;
    mid = k;
    taken = refl;
    cut = cut_none k hs;
  }

  pub some_all : (old new : K) (hs : List Handed) → TakesEachFrame takes old hs new
      → TakesSome takes fails old hs new
  some_all old new hs is = record {
    shown = hs;
    rest = [];
    parts = sym (append-nil hs);
    mid = new;
    taken = is;
    cut = refl;
  }

  some_failed : (old new : K) (h : Handed) → fails old h new
      → TakesSome takes fails old (h ∷ []) new
  some_failed old new h is = record {
    shown = [];
    rest = h ∷ [];
    parts = refl;
    mid = old;
    taken = refl;
    cut = inr is;
  }

  -- and others that come behind them
  pub some_first : (old new : K) (hs gs : List Handed) → TakesSome takes fails old hs new
      → TakesSome takes fails old (hs ++ gs) new
  some_first old new hs gs is = record {
    shown = is.shown;
    rest = is.rest ++ gs;
    parts = ap (λ (l : List Handed). l ++ gs) is.parts ∙ append_assoc is.shown is.rest gs;
    mid = is.mid;
    taken = is.taken;
    cut = cut_more is.mid new is.rest gs is.cut;
  }

  -- behind others, all of which were taken
  pub some_then : (old mid new : K) (hs gs : List Handed) → TakesEachFrame takes old hs mid
      → TakesSome takes fails mid gs new → TakesSome takes fails old (hs ++ gs) new
  some_then old mid new hs gs first is = record {
    shown = hs ++ is.shown;
    rest = is.rest;
    parts = ap (λ (l : List Handed). hs ++ l) is.parts ∙ sym (append_assoc hs is.shown is.rest);
    mid = is.mid;
    taken = takes_both takes old mid is.mid hs is.shown first is.taken;
    cut = is.cut;
  }

  -- ---- events

  pub tells_none : (k : K) (took : List ℕ) (es : List Event) → TellsSome takes fails k k took took es
  tells_none k took es = record {
    printed = grows_none took (events_text es);
    shown = some_none k (frames_of_events es);
  }

  pub tells_all : (old new : K) (took took' : List ℕ) (es : List Event)
      → TellsEvents takes old new took took' es → TellsSome takes fails old new took took' es
  tells_all old new took took' es is = record {
    printed = grows_all took took' (events_text es) is.printed;
    shown = some_all old new (frames_of_events es) is.shown;
  }

  pub tells_first : (old new : K) (took took' : List ℕ) (es fs : List Event)
      → TellsSome takes fails old new took took' es
      → TellsSome takes fails old new took took' (es ++ fs)
  tells_first old new took took' es fs is = record {
    printed =
        subst (λ (t : List ℕ). GrowsSome took took' t) (sym (flat_map-append event_text es fs))
        (grows_first took took' (events_text es) (events_text fs) is.printed);
    shown =
        subst (λ (hs : List Handed). TakesSome takes fails old hs new)
        (sym (filter_map-append frame_of_event es fs))
        (some_first old new (frames_of_events es) (frames_of_events fs) is.shown);
  }

  pub tells_then : (old mid new : K) (took took' took'' : List ℕ) (es fs : List Event)
      → TellsEvents takes old mid took took' es → TellsSome takes fails mid new took' took'' fs
      → TellsSome takes fails old new took took'' (es ++ fs)
  tells_then old mid new took took' took'' es fs first is = record {
    printed =
        subst (λ (t : List ℕ). GrowsSome took took'' t) (sym (flat_map-append event_text es fs))
        (grows_then took took' took'' (events_text es) (events_text fs) first.printed is.printed);
    shown =
        subst (λ (hs : List Handed). TakesSome takes fails old hs new)
        (sym (filter_map-append frame_of_event es fs))
        (some_then old mid new (frames_of_events es) (frames_of_events fs) first.shown is.shown);
  }

  -- a frame that left was not shown
  pub left_failed : (old new : K) (took : List ℕ) (h : Handed) (late : ℕ) → fails old h new
      → TellsSome takes fails old new took took (Left h late ∷ [])
  left_failed old new took h late is = record {
    printed = grows_none took (events_text (Left h late ∷ []));
    shown = some_failed old new h is;
  }

  -- it was shown, and of its line a first part was printed
  pub left_cut : (old new : K) (took took' : List ℕ) (h : Handed) (counts : Counts) (late : ℕ)
      → counts ≡ counts_of h.frame → takes old h new
      → GrowsPart took took' (ended_line (line.Left h.timestamp counts late))
      → TellsSome takes fails old new took took' (Left h late ∷ [])
  left_cut old new took took' h counts late are shown printed = record {
    printed =
        grows_first took took' (event_text (Left h late)) []
        (subst (λ (x : Counts). GrowsSome took took' (ended_line (line.Left h.timestamp x late)))
        are (grows_part took took' (ended_line (line.Left h.timestamp counts late)) printed));
    shown = some_all old new (h ∷ []) (new, shown, refl);
  }

  -- so of the line of one that is followed anew
  pub anew_cut : (k : K) (took took' : List ℕ) (timestamp : ℕ)
      → GrowsPart took took' (ended_line (line.Anew timestamp))
      → TellsSome takes fails k k took took' (Anew timestamp ∷ [])
  anew_cut k took took' timestamp printed = record {
    printed =
        grows_first took took' (event_text (Anew timestamp)) []
        (grows_part took took' (ended_line (line.Anew timestamp)) printed);
    shown = some_none k [];
  }

  -- ---- frames that leave

  -- all that had left were told, and some first of those that leave then
  pub leaving_cut : (those : Following → List Handed) (r r' : Running) (old mid new : K)
      (took took' took'' : List ℕ) (hs : List Handed) (t : Following)
      → (left : HasLeft takes those r r' old mid took took')
      → those r'.follower ≡ hs ++ those t
      → TellsSome takes fails mid new took' took'' (leaving r'.late hs)
      → TellsSome takes fails old new took took'' (leaving r.late (those r.follower))
  leaving_cut those r r' old mid new took took' took'' hs t left frames is =
      let late : r'.late ≡ late_left r.late left.gone =
      ap (λ (x : Running). x.late) left.running in
      let all : left.gone ++ (hs ++ those t) ≡ those r.follower =
      ap (λ (l : List Handed). left.gone ++ l) (sym frames) ∙ left.parts in
      let parts : leaving r.late (those r.follower)
      ≡ leaving r.late left.gone ++ (leaving r'.late hs
      ++ leaving (late_left r'.late hs) (those t)) =
      ap (leaving r.late) (sym all) ∙ leaving_append r.late left.gone (hs ++ those t)
      ∙ ap (λ (n : ℕ). leaving r.late left.gone ++ leaving n (hs ++ those t)) (sym late)
      ∙ ap (λ (l : List Event). leaving r.late left.gone ++ l)
      (leaving_append r'.late hs (those t)) in
      subst (λ (es : List Event). TellsSome takes fails old new took took'' es) (sym parts)
      (tells_then old mid new took took' took'' (leaving r.late left.gone)
      (leaving r'.late hs ++ leaving (late_left r'.late hs) (those t)) left.told
      (tells_first mid new took' took'' (leaving r'.late hs)
      (leaving (late_left r'.late hs) (those t)) is))

  -- of the frames that leave first some first were told
  pub first_cut : (late : ℕ) (hs gs : List Handed) (old new : K) (took took' : List ℕ)
      → TellsSome takes fails old new took took' (leaving late hs)
      → TellsSome takes fails old new took took' (leaving late (hs ++ gs))
  first_cut late hs gs old new took took' is =
      subst (λ (es : List Event). TellsSome takes fails old new took took' es)
      (sym (leaving_append late hs gs))
      (tells_first old new took took' (leaving late hs) (leaving (late_left late hs) gs) is)

  -- they all were, and some first of those that go early
  pub rest_cut : (eager : Bool) (r r' : Running) (hs : List Handed) (old mid new : K)
      (took took' took'' : List ℕ) → LeavesWith takes r r' hs old mid took took'
      → TellsSome takes fails mid new took' took'' (leaving r'.late (handed_early eager r'.follower))
      → TellsSome takes fails old new took took''
      (leaving r.late (hs ++ handed_early eager r.follower))
  rest_cut eager r r' hs old mid new took took' took'' first is =
      let early : List Handed = handed_early eager r.follower in
      subst (λ (es : List Event). TellsSome takes fails old new took took'' es)
      (sym (leaving_append r.late hs early))
      (tells_then old mid new took took' took'' (leaving r.late hs)
      (leaving (late_left r.late hs) early) first.told
      (subst (λ (x : Running).
      TellsSome takes fails mid new took' took'' (leaving x.late (handed_early eager x.follower)))
      first.running is))

  -- ---- a turn

  -- by the answer that was noted
  pub turn_cut : (eager : Bool) (r n : Running) (octets : List ℕ) (bound : ℕ)
      (answer : Result Followed Refusal) (t : Following) (hs : List Handed) (old new : K)
      (took took' : List ℕ) → answer ≡ answer_in r.follower octets
      → t ≡ state_taken r.follower octets → hs ≡ handed_before r.follower octets
      → n ≡ noted_by bound (record r { follower = t }) (datagram_time octets) answer
      → TellsSome takes fails old new took took'
      (leaving n.late (hs ++ handed_early eager n.follower))
      → TellsSome takes fails old new took took' (turn_left eager r octets)
  unfolding handed_in
  turn_cut eager r n octets bound answer t hs old new took took' answered_so taken handed noted is =
      let a : Result Followed Refusal = answer_in r.follower octets in
      subst (λ (es : List Event). TellsSome takes fails old new took took' es)
      (ap (λ (x : Running). leaving x.late (hs ++ handed_early eager x.follower)) noted
      ∙ ap (λ (x : Result Followed Refusal).
      leaving (late_with r.late x) (hs ++ handed_early eager t)) answered_so
      ∙ ap (λ (l : List Handed). leaving (late_with r.late a) (l ++ handed_early eager t)) handed
      ∙ ap (λ (x : Following). leaving (late_with r.late a)
      (handed_before r.follower octets ++ handed_early eager x)) taken) is

  -- behind it nothing more was told
  pub turn_stops : (eager : Bool) (r : Running) (octets : List ℕ) (old new : K)
      (took took' : List ℕ) → TellsSome takes fails old new took took' (turn_left eager r octets)
      → TellsSome takes fails old new took took' (events_at eager r octets)
  unfolding events_at
  turn_stops eager r octets old new took took' is =
      tells_first old new took took' (turn_left eager r octets)
      (cond (is_anew r octets) (leaving (turn_taken eager r octets).late
      (frames_in (turn_taken eager r octets).follower)
      ++ Anew (time_or_zero (datagram_time octets)) ∷ []) []) is

  -- behind it the stream is followed anew, of which some first was told
  pub anew_stops : (eager : Bool) (r r' : Running) (octets : List ℕ) (ts : ℕ) (old mid new : K)
      (took took' took'' : List ℕ) → is_anew r octets ≡ true → datagram_time octets ≡ Some ts
      → TellsDatagram takes eager r r' octets old mid took took'
      → TellsSome takes fails mid new took' took''
      (leaving r'.late (frames_in r'.follower) ++ Anew ts ∷ [])
      → TellsSome takes fails old new took took'' (events_at eager r octets)
  unfolding events_at
  anew_stops eager r r' octets ts old mid new took took' took'' is at turn more =
      let t : Running = turn_taken eager r octets in
      let es : List Event = turn_left eager r octets in
      let fs : List Event =
      leaving t.late (frames_in t.follower) ++ Anew (time_or_zero (datagram_time octets)) ∷ [] in
      let gs : List Event = leaving r'.late (frames_in r'.follower) ++ Anew ts ∷ [] in
      let ends : gs ≡ fs =
      ap (λ (x : Running). leaving x.late (frames_in x.follower) ++ Anew ts ∷ []) turn.running
      ∙ ap (λ (o : Option ℕ). leaving t.late (frames_in t.follower)
      ++ Anew (time_or_zero o) ∷ []) (sym at) in
      subst (λ (l : List Event). TellsSome takes fails old new took took'' l)
      (ap (λ (l : List Event). es ++ l) ends
      ∙ ap (λ (x : Bool). es ++ cond x fs []) (sym is))
      (tells_then old mid new took took' took'' es gs turn.told more)

  -- ---- what came

  -- of the last datagram that came some first was told
  pub so_stops : (eager : Bool) (before now then : List (Path × List ℕ)) (r r' : Running)
      (old mid new : K) (took took' took'' : List ℕ) (path : Path) (octets : List ℕ)
      → FollowedSo takes eager before now r r' old mid took took'
      → then ≡ now ++ (path, octets) ∷ []
      → TellsSome takes fails mid new took' took'' (events_at eager r' octets)
      → TellsSome takes fails old new took took'' (events_in eager r (datagrams_since before then))
  so_stops eager before now then r r' old mid new took took' took'' path octets so comes is =
      let ds : List (List ℕ) = datagrams_since before now in
      let more : datagrams_since before then ≡ ds ++ octets ∷ [] =
      since_more before now then so.rest path octets so.came comes in
      subst (λ (es : List Event). TellsSome takes fails old new took took'' es)
      (ap (λ (x : Running). events_in eager r ds ++ events_at eager x octets) so.running
      ∙ sym (events_more eager r ds octets) ∙ ap (events_in eager r) (sym more))
      (tells_then old mid new took took' took'' (events_in eager r ds)
      (events_at eager r' octets) so.told is)

-- nothing more came
pub so_told : {K : Type 0} (takes : K → Handed → K → Type 0) (eager : Bool)
    (before now then : List (Path × List ℕ)) (r r' : Running) (old new : K)
    (took took' : List ℕ) → FollowedSo takes eager before now r r' old new took took'
    → then ≡ now
    → TellsEvents takes old new took took' (events_in eager r (datagrams_since before then))
so_told takes eager before now then r r' old new took took' so same =
    subst (λ (l : List (Path × List ℕ)).
    TellsEvents takes old new took took' (events_in eager r (datagrams_since before l)))
    (sym same) so.told

-- ---- a run that is refused

pub if_refused : (P : Type 0) (f : Fault) → P → IfRefused f P
if_refused P (Refused r) is = is
if_refused P Device is = tt
if_refused P Memory is = tt

pub unrefused_if : (P : Type 0) (f : Fault) → IfRefused f ⊥ → IfRefused f P
unrefused_if P (Refused r) none = absurd none
unrefused_if P Device none = tt
unrefused_if P Memory none = tt

pub refused_map : (P Q : Type 0) (f : Fault) → (P → Q) → IfRefused f P → IfRefused f Q
refused_map P Q (Refused r) then is = then is
refused_map P Q Device then is = tt
refused_map P Q Memory then is = tt

-- a device's fault is no want of memory
pub no_memory : {V : Type 0} (P : Type 0) (r : Result V Fault) → IfErr r (λ f. f ≡ Device)
    → r ≡ Err Memory → P
no_memory P (Ok v) is wants = absurd cc
no_memory P (Err f) is wants =
    let same : f ≡ Memory = cc in
    let both : Device ≡ Memory = sym is ∙ same in
    absurd cc
