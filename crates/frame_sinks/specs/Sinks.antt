-- What sinks do with a frame (own).
use Rattle.std.specs.Prelude.{◌≡◌, ◌⊎◌, ℕ, List, ◌++◌, Some}
use Rattle.std.specs.List.{flat_map}
use Rattle.follow_engine.specs.Shown.{GrowsSome}
use Rattle.following.specs.Following.{Handed}
use Rattle.frame_report.specs.Report.{frame_text}
use Rattle.frame_sinks.specs.declared.both.BothSinks.{BothSinks}
use Rattle.frame_sinks.specs.Pictures.{head_for, held_by, picture_of}
use Rattle.frame_sinks.specs.declared.form_sink.FormSink.{FormSink}
use Rattle.frame_sinks.specs.declared.report_sink.ReportSink.{ReportSink}
use Rattle.settled_forms.specs.Settled.{form_text}

-- what is written of a frame: its picture, behind the head of a stream where one begins
abbrev pub text_for : {K A : Type 0} → FormSink K A → Handed → List ℕ
text_for k h = head_for k.format h.frame.format
    ++ form_text (picture_of k.settling.fill k.settling.held h.frame)

-- It took a frame: the sink of octets below it, of which `took` says what it took so far, took the
-- frame's picture, behind the head of a stream where one begins; and it holds what the next one is
-- settled over.
pub record SinkTakes {K A : Type 0} (took : K → List ℕ) (k : FormSink K A) (h : Handed)
    (l : FormSink K A) : Type 0 where
  pub written : took l.sink ≡ took k.sink ++ text_for k h
  pub format : l.format ≡ Some h.frame.format
  pub held : l.settling.held
      ≡ held_by k.settling.filling (picture_of k.settling.fill k.settling.held h.frame)
  pub filling : l.settling.filling ≡ k.settling.filling
  pub fill : l.settling.fill ≡ k.settling.fill

-- It failed at a frame: the sink of octets took some first part of that.
abbrev pub FailsFrame : {K A : Type 0} → (K → List ℕ) → FormSink K A → Handed → FormSink K A
    → Type 0
FailsFrame took k h l = GrowsSome (took k.sink) (took l.sink) (text_for k h)

-- ---- what frames lack

-- what a receiver's report has of a frame
abbrev pub lines_of : Handed → List ℕ
lines_of h = frame_text h.timestamp h.frame

-- so of frames, one behind the other
abbrev pub frames_report : List Handed → List ℕ
frames_report frames = flat_map lines_of frames

-- It took a frame: the sink of octets below it took what a report has of it.
abbrev pub TakesLines : {K : Type 0} → (K → List ℕ) → ReportSink K → Handed → ReportSink K
    → Type 0
TakesLines took k h l = took l.sink ≡ took k.sink ++ lines_of h

-- It failed at a frame: that took some first part of it.
abbrev pub FailsLines : {K : Type 0} → (K → List ℕ) → ReportSink K → Handed → ReportSink K
    → Type 0
FailsLines took k h l = GrowsSome (took k.sink) (took l.sink) (lines_of h)

-- ---- two sinks

-- Both took a frame.
abbrev pub TakesBoth : {P Q : Type 0} → (P → Handed → P → Type 0) → (Q → Handed → Q → Type 0)
    → BothSinks P Q → Handed → BothSinks P Q → Type 0
TakesBoth first second k h l = first k.first h l.first × second k.second h l.second

-- The first one failed at a frame, and the second one stays as it was; or the first one took it,
-- and the second one failed.
abbrev pub FailsBoth : {P Q : Type 0} → (P → Handed → P → Type 0) → (P → Handed → P → Type 0)
    → (Q → Handed → Q → Type 0) → BothSinks P Q → Handed → BothSinks P Q → Type 0
FailsBoth fails takes fails' k h l = (fails k.first h l.first × (l.second ≡ k.second))
    ⊎ (takes k.first h l.first × fails' k.second h l.second)
