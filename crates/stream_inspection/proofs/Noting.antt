-- One more record in an inspection.
use Rattle.std.proofs.Common.{◌≡◌, ◌∙◌, ◌+◌, Bool, true, false, cond, List, []}
use Rattle.std.proofs.Common.{◌∷◌, ◌++◌, Option, None, Some, Result, ap, sym, subst, arith}
use Rattle.std.proofs.Common.{append_assoc, append-nil}
use Rattle.std.proofs.lemmas.Grind.{flat_map-append}
use Rattle.std.proofs.lemmas.List.{map-append}
use Rattle.std.proofs.lemmas.List.Sums.{sum_by-append}
use Rattle.std.specs.List.{count_by, flat_map}
use Rattle.std.specs.Prelude.{option_to_list}
use Rattle.media_file.specs.Records.{Entry}
use Rattle.media_file.specs.Writer.{entry}
use Rattle.path_receiver.specs.Tallied.{Tallies, TalliesMore}
use Rattle.path_receiver.specs.declared.tally.Tally.{Tally}
use Rattle.path_receiver.specs.declared.answer.Refusal.{Refusal}
use Rattle.path_receiver.specs.declared.answer.Taken.{Taken}
use Rattle.rtp_header.specs.Reading.{rtp_walk}
use Rattle.st_format.specs.Device.{capped}
use Rattle.recording_counts.specs.Timestamps.{timestamps_of}
use Rattle.recording_counts.specs.declared.packet.Packet.{Packet}
use Rattle.recording_counts.specs.FlowCounts.{is_rtcp}
use Rattle.recording_reader.specs.FileReader.{FileReader, FindsOne, record_seen}
use Rattle.recording_reader.specs.declared.room.RecordView.{RecordView}
use Rattle.stream_inspection.specs.Arrivals.{Arrival, answer_at, answers_in, answers_of, arrival}
use Rattle.stream_inspection.specs.Arrivals.{arrival_if, arrivals_in, arrivals_of}
use Rattle.stream_inspection.specs.Arrivals.{packet_by, packets, video_in, video_of}
use Rattle.stream_inspection.specs.Inspected.{IsInspected, Notes, NotesPacket, controls_of}
use Rattle.stream_inspection.specs.Numbers.{AreStreams}
use Rattle.stream_inspection.specs.Skews.{AreProbes}
use Rattle.stream_inspection.specs.declared.inspection.Inspection.{Inspection}
use Rattle.stream_inspection.specs.declared.target.Target.{Target}

-- ---- one more of a list

abbrev pub packet_in : Arrival → Packet
packet_in a = a.packet

one_behind : {X Y : Type 0} (f : X → List Y) (xs : List X) (x : X)
    → flat_map f (xs ++ x ∷ []) ≡ flat_map f xs ++ f x
one_behind {Y = Y} f xs x =
    flat_map-append f xs (x ∷ [])
    ∙ ap (λ (l : List Y). flat_map f xs ++ l) (append-nil (f x))

counted : {X : Type 0} (p : X → Bool) (xs : List X) (x : X) (b : Bool) → p x ≡ b
    → count_by p (xs ++ x ∷ []) ≡ count_by p xs + cond b 1 0
counted p xs x b is =
    sum_by-append (λ y. cond (p y) 1 0) xs (x ∷ [])
    ∙ ap (λ (c : Bool). count_by p xs + (0 + cond c 1 0)) is ∙ omega arith

controls_same : (es : List Entry) (e : Entry) → is_rtcp e.octets ≡ false
    → controls_of (es ++ e ∷ []) ≡ controls_of es
controls_same es e is =
    ap capped (counted (λ x. is_rtcp x.octets) es e false is)
    ∙ omega arith

-- ---- what a record adds

-- one of RTCP
module _ (t : Target) (es : List Entry) (e : Entry) (is : is_rtcp e.octets ≡ true) where
  control_arrivals : arrivals_of t (es ++ e ∷ []) ≡ arrivals_of t es
  control_arrivals =
      one_behind (arrivals_in t) es e
      ∙ ap (λ (b : Bool). arrivals_of t es
      ++ cond b [] (arrival_if (packet_by t e.path (rtp_walk e.octets)) e.moment)) is
      ∙ append-nil (arrivals_of t es)

  control_answers : answers_of t (es ++ e ∷ []) ≡ answers_of t es
  control_answers =
      one_behind (answers_in t) es e
      ∙ ap (λ (b : Bool). answers_of t es ++ cond b [] (answer_at t e.octets ∷ [])) is
      ∙ append-nil (answers_of t es)

-- one of another kind
module _ (t : Target) (es : List Entry) (e : Entry) (is : is_rtcp e.octets ≡ false) where
  other_arrivals : (o : Option Packet) → packet_by t e.path (rtp_walk e.octets) ≡ o
      → arrivals_of t (es ++ e ∷ []) ≡ arrivals_of t es ++ arrival_if o e.moment
  other_arrivals o read =
      one_behind (arrivals_in t) es e
      ∙ ap (λ (b : Bool). arrivals_of t es
      ++ cond b [] (arrival_if (packet_by t e.path (rtp_walk e.octets)) e.moment)) is
      ∙ ap (λ (p : Option Packet). arrivals_of t es ++ arrival_if p e.moment) read

  other_answers : answers_of t (es ++ e ∷ []) ≡ answers_of t es ++ answer_at t e.octets ∷ []
  other_answers =
      one_behind (answers_in t) es e
      ∙ ap (λ (b : Bool). answers_of t es ++ cond b [] (answer_at t e.octets ∷ [])) is

-- ---- an inspection behind a record

-- one with a header was: its answer, and then its packet
pub notes_one : {A : Type 0} (t : Target) (e : Entry) (p : Packet) (old mid new : Inspection A)
    → is_rtcp e.octets ≡ false → packet_by t e.path (rtp_walk e.octets) ≡ Some p
    → mid.streams ≡ old.streams → mid.timestamps ≡ old.timestamps → mid.probes ≡ old.probes
    → TalliesMore old.tally mid.tally (answer_at t e.octets)
    → mid.controls ≡ old.controls
    → NotesPacket t (arrival p e.moment) mid new → Notes t (e ∷ []) old new
notes_one t e p old mid new is some streams timestamps probes tally controls packet = record {
  counted = λ before i.
      let a : Arrival = arrival p e.moment in
      let es : List Entry = before ++ e ∷ [] in
      let all : arrivals_of t es ≡ arrivals_of t before ++ a ∷ [] =
      other_arrivals t before e is (Some p) some in
      let video : video_of t es ≡ video_of t before ++ video_in t a =
      ap (flat_map (video_in t)) all ∙ one_behind (video_in t) (arrivals_of t before) a in
      record {
        streams =
            subst (λ (ps : List Packet). AreStreams new.streams ps)
            (sym (ap packets all
            ∙ map-append packet_in (arrivals_of t before) (a ∷ [])))
            (packet.streams (packets (arrivals_of t before))
            (subst (λ (s : _). AreStreams s (packets (arrivals_of t before))) (sym streams)
            i.streams));
        timestamps =
            packet.timestamps (video_of t before) (timestamps ∙ i.timestamps)
            ∙ ap (λ (l : List Arrival). timestamps_of (packets l)) (sym video);
        probes =
            subst (λ (l : List Arrival). AreProbes new.probes l) (sym video)
            (packet.probes (video_of t before)
            (subst (λ (q : _). AreProbes q (video_of t before)) (sym probes) i.probes));
        tally =
            subst (λ (y : Tally). Tallies y (answers_of t es)) (sym packet.tally)
            (subst (λ (l : List (Result Taken Refusal)). Tallies mid.tally l)
            (sym (other_answers t before e is)) (tally (answers_of t before) i.tally));
        controls =
            packet.controls ∙ controls ∙ i.controls ∙ sym (controls_same before e is);
      };
}

-- ---- several records

pub notes_none : {A : Type 0} (t : Target) (s : Inspection A) → Notes t [] s s
notes_none t s = record {
  counted = λ before i.
      subst (λ (l : List Entry). IsInspected t s l) (sym (append-nil before)) i;
}

pub notes_then : {A : Type 0} (t : Target) (es fs : List Entry) (old mid new : Inspection A)
    → Notes t es old mid → Notes t fs mid new → Notes t (es ++ fs) old new
notes_then t es fs old mid new first second = record {
  counted = λ before i.
      subst (λ (l : List Entry). IsInspected t new l) (append_assoc before es fs)
      (second.counted (before ++ es) (first.counted before i));
}

-- ---- records that a reader gave

-- none yet
pub notes_no_records : {A : Type 0} (t : Target) (s : Inspection A) (records : List Entry)
    → records ≡ [] → Notes t records s s
notes_no_records t s records none =
    subst (λ (es : List Entry). Notes t es s s) (sym none) (notes_none t s)

-- none more
pub notes_same : {A : Type 0} (t : Target) (a b : Inspection A) (records more : List Entry)
    → more ≡ records → Notes t records a b → Notes t more a b
notes_same t a b records more same noted =
    subst (λ (es : List Entry). Notes t es a b) (sym same) noted

-- the one at hand, by its borrowed octets
pub notes_hand : {A : Type 0} (t : Target) (hand : Option Entry) (r : RecordView)
    (a b : Inspection A) → record_seen (Some r) ≡ hand
    → Notes t (entry r.path r.moment r.octets.now ∷ []) a b → Notes t (option_to_list hand) a b
notes_hand t hand r a b same noted =
    subst (λ (h : Option Entry). Notes t (option_to_list h) a b) same noted

pub notes_no_hand : {A : Type 0} (t : Target) (hand : Option Entry) (s : Inspection A)
    → record_seen None ≡ hand → Notes t (option_to_list hand) s s
notes_no_hand t hand s same =
    subst (λ (h : Option Entry). Notes t (option_to_list h) s s) same (notes_none t s)

-- one more
pub notes_found : {S A : Type 0} (t : Target) (old new : FileReader S) (a b c : Inspection A)
    → FindsOne old new → Notes t old.records a b → Notes t (option_to_list new.at_hand) b c
    → Notes t new.records a c
notes_found t old new a b c found first more =
    subst (λ (es : List Entry). Notes t es a c) (sym found.records)
    (notes_then t old.records (found.entry ∷ []) a b c first
    (subst (λ (h : Option Entry). Notes t (option_to_list h) b c) found.at_hand more))
