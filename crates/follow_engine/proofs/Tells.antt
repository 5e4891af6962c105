-- Events that are told one after the other.
use Rattle.std.proofs.Common.{◌≡◌, ℕ, List, [], ◌∷◌, ◌++◌, refl, sym, ap, subst, ◌∙◌, append_assoc}
use Rattle.std.proofs.Common.{append-nil}
use Rattle.std.proofs.lemmas.Grind.{flat_map-append}
use Rattle.std.proofs.lemmas.List.Elements.{filter_map-append}
use Rattle.following.specs.Following.{Handed}
use Rattle.frame_assembly.specs.Kinds.{counts_of}
use Rattle.frame_assembly.specs.declared.counts.Counts.{Counts}
use Rattle.follow_engine.specs.Events.{Anew, Event, Left, frame_of_event, frames_of_events}
use Rattle.follow_engine.specs.Line.{ended_line}
use Rattle.follow_engine.specs.Running.{TellsEvents}
use Rattle.follow_engine.specs.Shown.{TakesEachFrame}
use Rattle.follow_engine.specs.Telling.{event_text, events_text}
use Rattle.follow_engine.specs.declared.line.FollowLine.TheVariants as line

pub takes_both : {K : Type 0} (takes : K → Handed → K → Type 0) (old mid new : K)
    (hs gs : List Handed) → TakesEachFrame takes old hs mid → TakesEachFrame takes mid gs new
    → TakesEachFrame takes old (hs ++ gs) new
takes_both takes old mid new [] gs first more =
    subst (λ (k : _). TakesEachFrame takes k gs new) first more
takes_both takes old mid new (h ∷ hs) gs first more =
    (first.0, first.1, takes_both takes first.0 mid new hs gs first.2 more)

pub told_none : {K : Type 0} (takes : K → Handed → K → Type 0) (k : K) (took : List ℕ)
    → TellsEvents takes k k took took []
told_none takes k took = record { printed = sym (append-nil took); shown = refl }

pub told_both : {K : Type 0} (takes : K → Handed → K → Type 0) (old mid new : K)
    (took took' took'' : List ℕ) (es fs : List Event) → TellsEvents takes old mid took took' es
    → TellsEvents takes mid new took' took'' fs → TellsEvents takes old new took took'' (es ++ fs)
told_both takes old mid new took took' took'' es fs first more = record {
  printed =
      more.printed ∙ ap (λ (l : List ℕ). l ++ events_text fs) first.printed
      ∙ append_assoc took (events_text es) (events_text fs)
      ∙ ap (λ (l : List ℕ). took ++ l) (sym (flat_map-append event_text es fs));
  shown =
      subst (λ (hs : List Handed). TakesEachFrame takes old hs new)
      (sym (filter_map-append frame_of_event es fs))
      (takes_both takes old mid new (frames_of_events es) (frames_of_events fs) first.shown
      more.shown);
}

-- a frame that left was shown, and its line was printed
pub told_left : {K : Type 0} (takes : K → Handed → K → Type 0) (old new : K)
    (took took' : List ℕ) (h : Handed) (counts : Counts) (late : ℕ)
    → counts ≡ counts_of h.frame → takes old h new
    → took' ≡ took ++ ended_line (line.Left h.timestamp counts late)
    → TellsEvents takes old new took took' (Left h late ∷ [])
told_left takes old new took took' h counts late are shown printed = record {
  printed =
      printed
      ∙ ap (λ (x : Counts). took ++ ended_line (line.Left h.timestamp x late)) are
      ∙ ap (λ (l : List ℕ). took ++ l) (sym (append-nil (event_text (Left h late))));
  shown = (new, shown, refl);
}

-- that the stream is followed anew was printed
pub told_anew : {K : Type 0} (takes : K → Handed → K → Type 0) (k : K) (took took' : List ℕ)
    (timestamp : ℕ) → took' ≡ took ++ ended_line (line.Anew timestamp)
    → TellsEvents takes k k took took' (Anew timestamp ∷ [])
told_anew takes k took took' timestamp printed = record {
  printed =
      printed ∙ ap (λ (l : List ℕ). took ++ l) (sym (append-nil (event_text (Anew timestamp))));
  shown = refl;
}
