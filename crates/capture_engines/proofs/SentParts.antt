-- What `send` leaves in its capture where it fails.
use Rattle.std.proofs.Common.{◌≡◌, ℕ, zero, suc, ◌+◌, ◌^◌, ◌<◌, ◌≤◌, List, [], ◌∷◌, ◌++◌, Option}
use Rattle.std.proofs.Common.{Bool, drop, drop-drop, false, length, take, refl, sym, ap, subst, ◌∙◌}
use Rattle.std.proofs.Common.{append_assoc, append-nil, arith, inl, inr, length-append}
use Rattle.std.proofs.lemmas.List.{drop_all, take-append-drop, take_all}
use Rattle.std.specs.Borrow.{GName}
use Rattle.std.specs.List.{zip}
use Rattle.st_format.specs.Device.{Failed, GrowsPart, capped}
use Rattle.st_format.specs.Picture.{IsPicture, Values}
use Rattle.st_format.specs.Puts.{FailsAt}
use Rattle.st_format.specs.declared.device.ByteSink.{Ghosts}
use Rattle.st_format.specs.declared.format.Format.{Format}
use Rattle.media_file.proofs.Putting.{each_stands, each_written}
use Rattle.media_file.proofs.Written.{part_first, part_then, records_append}
use Rattle.media_file.specs.Faults.{CountsFault, IsDevice}
use Rattle.media_file.specs.Fronts.{front_text}
use Rattle.media_file.specs.Records.{records_text}
use Rattle.media_file.specs.Writer.{FailsDatagram, TakesDatagram, Writer, WritesDatagrams}
use Rattle.media_file.specs.Writer.{entries_from, entries_of, moment_after, moment_behind}
use Rattle.media_file.specs.Writer.{written_text}
use Rattle.media_file.specs.declared.fault.FileFault.{FileFault}
use Rattle.media_file.specs.declared.fault.FileFault.TheVariants.{Device}
use Rattle.media_file.specs.declared.front.Version.TheVariants.{Two}
use Rattle.media_file.specs.declared.paths.Paths.{Paths}
use Rattle.packet_plan.proofs.Texts.{picture_sent}
use Rattle.packet_plan.specs.Plan.{IsRasterPlan, IsSize, RasterPlan}
use Rattle.packet_plan.specs.Sender.{SendsFrom, Sender, stamp_of}
use Rattle.packet_plan.specs.Sent.{IsSentPicture}
use Rattle.packet_plan.specs.Text.{IsStamp, datagram_texts}
use Rattle.run_outcome.specs.AtFault.{WrittenAtFault}
use Rattle.run_outcome.specs.Pictures.{SaysPicture}
use Rattle.run_outcome.specs.Refusing.{OfRefusal}
use Rattle.run_outcome.specs.TextRefusals.{SaysText}
use Rattle.run_outcome.specs.Moments.{WasRead}
use Rattle.run_outcome.specs.declared.fault.Fault.{Fault}
use Rattle.run_outcome.specs.declared.fault.Fault.TheVariants as fault
use Rattle.run_outcome.specs.declared.refusal.Refusal.TheVariants.{SendFormats}
use Rattle.capture_engines.specs.Sending.{HasSent, IsPlanOf, SayPictures, SendsNext, SendsPictures}
use Rattle.capture_engines.specs.Sending.{SendsTo, TakesPictures, number_behind, run_sender}
use Rattle.capture_engines.specs.Sent.{FirstIs}
use Rattle.capture_engines.specs.SentPart.{CutsNext, HasStopped, SendsFirstAndPart}
use Rattle.capture_engines.specs.SentPart.{SendsSome, SendsUpTo, StopsBehind, StopsNext}
use Rattle.capture_engines.specs.Typed.{IsSentBy}
use Rattle.capture_engines.specs.declared.sender.Sender.{Sender as Sends}
use Rattle.capture_engines.specs.declared.sender.Sending.{Sending}
use Rattle.capture_engines.proofs.OneOf.{first_again}
use Rattle.capture_engines.proofs.Sendings.{SoFar, counted_once, has_more, records-append, said_long}
use Rattle.capture_engines.proofs.Sendings.{said_next, sends_from, sends_more}

-- ---- a capture that is cut

-- datagrams put into a writer, whose sink failed at one of them
pub fails_written : {K : Type 0} (held : K → Option (List ℕ)) (took : K → List ℕ)
    (failures : K → ℕ) (names : K → List GName) (old : Writer K) (ds : List (List ℕ)) (count : ℕ)
    (new : Writer K) → old.place.failed ≡ false
    → FailsAt (TakesDatagram held took failures names) (FailsDatagram held took failures names)
    old ds count new
    → GrowsPart (took old.sink) (took new.sink)
    (records_text (entries_from old.place.paths old.place.moment ds))
fails_written {K} held took failures names old ds count new stands at =
    let p : Paths = old.place.paths in
    let m : ℕ = old.place.moment in
    let front : List (List ℕ) = take count ds in
    let w : WritesDatagrams took front old at.last =
    each_written held took failures names old front at.last at.taken in
    let here : ℕ = moment_after p m front in
    let before : List ℕ = took at.last.sink in
    let after : List ℕ = took new.sink in
    let cut : GrowsPart before after (records_text (entries_of p here at.datagram)) =
    subst (λ (n : ℕ). GrowsPart before after (records_text (entries_of p n at.datagram))) w.moment
    (subst (λ (q : Paths). GrowsPart before after
    (records_text (entries_of q at.last.place.moment at.datagram))) w.paths
    (at.failed.part
    (each_stands held took failures names old front at.last at.taken ∙ stands))) in
    let behind : GrowsPart before after
    (records_text (entries_from p here (at.datagram ∷ at.more))) =
    subst (λ (l : List ℕ). GrowsPart before after l)
    (sym (records_append (entries_of p here at.datagram)
    (entries_from p (moment_behind p here) at.more)))
    (part_first before after (records_text (entries_of p here at.datagram))
    (records_text (entries_from p (moment_behind p here) at.more)) cut) in
    subst (λ (l : List (List ℕ)). GrowsPart (took old.sink) after (records_text (entries_from p m l)))
    (ap (λ (l : List (List ℕ)). front ++ l) (sym at.behind) ∙ take-append-drop count ds)
    (subst (λ (l : List ℕ). GrowsPart (took old.sink) after l)
    (records-append p m front (at.datagram ∷ at.more))
    (part_then (took old.sink) before after (records_text (entries_from p m front))
    (records_text (entries_from p here (at.datagram ∷ at.more))) w.taken behind))

-- the records of datagrams behind a capture of others
written-append : (p : Paths) (text : List ℕ) (ds es : List (List ℕ))
    → written_text p text ds ++ records_text (entries_from p (moment_after p 0 ds) es)
    ≡ written_text p text (ds ++ es)
written-append p text ds es =
    append_assoc (front_text Two text) (records_text (entries_from p 0 ds))
    (records_text (entries_from p (moment_after p 0 ds) es))
    ∙ ap (λ (l : List ℕ). front_text Two text ++ l) (records-append p 0 ds es)

-- a capture that is cut within datagrams behind others
part_more : (p : Paths) (text start m n : List ℕ) (q : Paths) (u : ℕ) (ds es : List (List ℕ))
    → q ≡ p → u ≡ moment_after p 0 ds → m ≡ start ++ written_text p text ds
    → GrowsPart m n (records_text (entries_from q u es))
    → GrowsPart start n (written_text p text (ds ++ es))
part_more p text start m n q u ds es same at first part =
    let behind : GrowsPart m n (records_text (entries_from p (moment_after p 0 ds) es)) =
    subst (λ (v : ℕ). GrowsPart m n (records_text (entries_from p v es))) at
    (subst (λ (x : Paths). GrowsPart m n (records_text (entries_from x u es))) same part) in
    subst (λ (l : List ℕ). GrowsPart start n l) (written-append p text ds es)
    (part_then start m n (written_text p text ds)
    (records_text (entries_from p (moment_after p 0 ds) es)) first behind)

-- ---- a sender

-- it sent all pictures that it was to send
has_all : {A K : Type 0} {G : Ghosts K} (took : K → List ℕ) (Fails : Type 0) (wanted : Sending)
    (text start : List ℕ) (ps : List Values) (s : Sends A K G)
    → HasSent took wanted text start ps s → HasStopped took Fails wanted text start ps s
has_all took Fails wanted text start ps s has = record {
  datagrams = has.datagrams;
  plan = has.plan;
  next = s.next;
  sent = has.sent;
  taken = inl has.taken;
}

-- its sink failed at one behind those that it sent
has_cut : {A K : Type 0} {G : Ghosts K} (took : K → List ℕ) (failures : K → ℕ) (Fails : Type 0)
    (wanted : Sending) (text start : List ℕ) (ps : List Values) (p : Values) (k : ℕ)
    (old new : Sends A K G)
    → (Failed (failures old.writer.sink) (failures new.writer.sink) → Fails) → length ps ≡ k
    → HasSent took wanted text start ps old → CutsNext took failures p k old new
    → HasStopped took Fails wanted text start (ps ++ p ∷ []) new
has_cut took failures Fails wanted text start ps p k old new fails count has cut =
    let by : Sender = run_sender old.plan.format wanted in
    let at : k ≡ 0 + length ps = omega arith in
    let next : ℕ = number_behind old.next old.plan in
    let datagrams : List (List ℕ) = has.datagrams ++ cut.datagrams in
    let picture : IsSentPicture cut.datagrams p (stamp_of by (0 + length ps) old.next)
    old.plan.max_octets old.plan.packets =
    subst (λ (i : ℕ). IsSentPicture cut.datagrams p (stamp_of by i old.next) old.plan.max_octets
    old.plan.packets) at
    (subst (λ (v : Sending). IsSentPicture cut.datagrams p
    (stamp_of (run_sender old.plan.format v) k old.next) old.plan.max_octets old.plan.packets)
    has.wanted_is cut.sent) in
    record {
      datagrams = datagrams;
      plan = subst (λ (x : RasterPlan). IsPlanOf wanted.max_octets x) (sym cut.plan) has.plan;
      next = next;
      sent =
          subst (λ (x : RasterPlan). SendsTo x (run_sender x.format wanted) 0 (ps ++ p ∷ [])
          wanted.first datagrams next) (sym cut.plan)
          (sends_more old.plan by 0 wanted.first old.next ps has.datagrams p cut.datagrams has.sent
          cut.format picture);
      taken = inr (
        fails cut.failed,
        part_more wanted.paths text start (took old.writer.sink) (took new.writer.sink)
            old.writer.place.paths old.writer.place.moment has.datagrams cut.datagrams has.paths
            has.moment has.taken cut.part,
      );
    }

-- ---- pictures behind the first

-- the first behind a list's first
take_behind : {S : Type 0} (k n : ℕ) (xs : List S) → n + 1 ≡ k
    → drop 1 (take k xs) ≡ take n (drop 1 xs)
take_behind zero n xs is = absurd (omega (arith, is))
take_behind (suc j) zero [] is = refl
take_behind (suc j) (suc n) [] is = refl
take_behind {S} (suc j) n (x ∷ xs) is =
    let same : j ≡ n = omega (arith, is) in ap (λ (i : ℕ). take i xs) same

unread_behind : {S : Type 0} (k n : ℕ) (start here : List S) → n + 1 ≡ k
    → drop (k + 1) here ≡ drop (k + 1) start
    → drop (n + 1) (drop 1 here) ≡ drop (n + 1) (drop 1 start)
unread_behind {S} k n start here is same =
    let at : 1 + (n + 1) ≡ k + 1 = omega (arith, is) in
    drop-drop (n + 1) 1 here ∙ ap (λ (i : ℕ). drop i here) at ∙ same
    ∙ ap (λ (i : ℕ). drop i start) (sym at) ∙ sym (drop-drop (n + 1) 1 start)

said_behind : {S : Type 0} (told : S × S → List ℕ → Type 0) (k n : ℕ) (start here : List S)
    (ps : List Values) → n + 1 ≡ k
    → SayPictures told (drop 1 (take k start)) (drop 1 (take k here)) ps
    → SayPictures told (take n (drop 1 start)) (take n (drop 1 here)) ps
said_behind {S} told k n start here ps is say =
    subst (λ (l : List S). SayPictures told l (take n (drop 1 here)) ps)
    (take_behind k n start is)
    (subst (λ (l : List S). SayPictures told (drop 1 (take k start)) l ps)
    (take_behind k n here is) say)

-- the picture at a place was not sent
pub rest_stopped : {S A K : Type 0} {G : Ghosts K} (told : S × S → List ℕ → Type 0)
    (took : K → List ℕ) (Fails : Type 0) (k : ℕ) (start now here : List S) (old mid : Sends A K G)
    → SoFar told took k start now old mid → take k here ≡ take k now
    → drop (k + 1) here ≡ drop (k + 1) start
    → StopsBehind told took Fails 1 [] (drop 1 start) (drop 1 here) old mid
rest_stopped {S} told took Fails k start now here old mid so_far before unread =
    let ps : List Values = so_far.pictures in
    record {
      pictures = ps;
      say =
          said_behind told k (length ps) start here ps so_far.count
          (subst (λ (l : List S). SayPictures told (drop 1 (take k start)) (drop 1 l) ps)
          (sym before) so_far.say);
      unread = unread_behind k (length ps) start here so_far.count unread;
      stops = record {
        stops = λ wanted text from qs count has.
            has_all took Fails wanted text from (qs ++ ps) mid
            (so_far.sent.sent wanted text from qs count has);
      };
    }

-- the sink failed at it
rest_cut : {S A K : Type 0} {G : Ghosts K} (told : S × S → List ℕ → Type 0) (took : K → List ℕ)
    (failures : K → ℕ) (Fails : Type 0) (k : ℕ) (start now here : List S) (p : Values)
    (old mid new : Sends A K G)
    → (Failed (failures mid.writer.sink) (failures new.writer.sink) → Fails)
    → SoFar told took k start now old mid → drop k now ≡ drop k start → take k here ≡ take k now
    → drop (k + 1) here ≡ drop (k + 1) start
    → FirstIs (λ s. SaysPicture (told s) p) (zip (drop k now) (drop k here))
    → CutsNext took failures p k mid new
    → StopsBehind told took Fails 1 [] (drop 1 start) (drop 1 here) old new
rest_cut {S} told took failures Fails k start now here p old mid new fails so_far behind before
    unread first cut =
    let ps : List Values = so_far.pictures ++ p ∷ [] in
    let count : length ps + 1 ≡ k + 1 =
    omega (arith, so_far.count, length-append so_far.pictures (p ∷ [])) in
    record {
      pictures = ps;
      say =
          said_behind told (k + 1) (length ps) start here ps count
          (said_next told k start now here so_far.pictures p (omega (arith, so_far.count)) behind
          before first so_far.say);
      unread =
          unread_behind (k + 1) (length ps) start here count
          (sym (drop-drop 1 (k + 1) here) ∙ ap (drop 1) unread ∙ drop-drop 1 (k + 1) start);
      stops = record {
        stops = λ wanted text from qs some has.
            subst (λ (l : List Values). HasStopped took Fails wanted text from l new)
            (append_assoc qs so_far.pictures (p ∷ []))
            (has_cut took failures Fails wanted text from (qs ++ so_far.pictures) p k mid new fails
            (omega (arith, some, so_far.count, length-append qs so_far.pictures))
            (so_far.sent.sent wanted text from qs some has) cut);
      };
    }

-- it was refused, or the sink failed at it
pub rest_ended : {S A K : Type 0} {G : Ghosts K} (told : S × S → List ℕ → Type 0)
    (took : K → List ℕ) (failures : K → ℕ) (Fails : Type 0) (k : ℕ) (start now here : List S)
    (p : Values) (old mid new : Sends A K G) (f : Fault)
    → (Failed (failures mid.writer.sink) (failures new.writer.sink) → Fails)
    → SoFar told took k start now old mid → drop k now ≡ drop k start → take k here ≡ take k now
    → drop (k + 1) here ≡ drop (k + 1) start
    → FirstIs (λ s. SaysPicture (told s) p) (zip (drop k now) (drop k here))
    → StopsNext took failures p k mid new f
    → StopsBehind told took Fails 1 [] (drop 1 start) (drop 1 here) old new
rest_ended {S} {A} {K} {G} told took failures Fails k start now here p old mid new
    (fault.Refused r) fails so_far behind before unread first same =
    subst (λ (s : Sends A K G). StopsBehind told took Fails 1 [] (drop 1 start) (drop 1 here) old s)
    (sym same) (rest_stopped told took Fails k start now here old mid so_far before unread)
rest_ended told took failures Fails k start now here p old mid new fault.Device fails so_far behind
    before unread first cut =
    rest_cut told took failures Fails k start now here p old mid new fails so_far behind before
    unread first cut
rest_ended told took failures Fails k start now here p old mid new fault.Memory fails so_far behind
    before unread first none = absurd none

-- ---- the first picture

no_pictures_said : {S : Type 0} (told : S × S → List ℕ → Type 0) (xs : List S)
    → SayPictures told (take 0 xs) (take 0 xs) []
no_pictures_said told [] = tt
no_pictures_said told (x ∷ xs) = tt

-- the sink failed at it
first_cut : {S A K : Type 0} {G : Ghosts K} (told : S × S → List ℕ → Type 0)
    (took : K → List ℕ) (failures : K → ℕ) (Fails : Type 0) (p : Values) (sources : List S)
    (old new : Sends A K G)
    → (Failed (failures old.writer.sink) (failures new.writer.sink) → Fails)
    → CutsNext took failures p 0 old new
    → StopsBehind told took Fails 0 (p ∷ []) sources sources old new
first_cut told took failures Fails p sources old new fails cut = record {
  pictures = [];
  say = no_pictures_said told sources;
  unread = refl;
  stops = record {
    stops = λ wanted text from ps count has.
        has_cut took failures Fails wanted text from ps p 0 old new fails count has cut;
  };
}

-- so it is where it isn't refused
pub first_ended : {S A K : Type 0} {G : Ghosts K} (told : S × S → List ℕ → Type 0)
    (took : K → List ℕ) (failures : K → ℕ) (Fails : Type 0) (p : Values) (sources : List S)
    (old new : Sends A K G) (f : Fault)
    → (Failed (failures old.writer.sink) (failures new.writer.sink) → Fails)
    → p.format ≡ old.plan.format
    → OfRefusal f (λ r. (r ≡ SendFormats) × (p.format ≡ old.plan.format → ⊥))
    → StopsNext took failures p 0 old new f
    → StopsBehind told took Fails 0 (p ∷ []) sources sources old new
first_ended told took failures Fails p sources old new (fault.Refused r) fails alike is stops =
    absurd (is.1 alike)
first_ended told took failures Fails p sources old new fault.Device fails alike is stops =
    first_cut told took failures Fails p sources old new fails stops
first_ended told took failures Fails p sources old new fault.Memory fails alike is stops =
    absurd stops

-- it was sent, and of those behind it not all
pub each_stopped : {S A K : Type 0} {G : Ghosts K} (told : S × S → List ℕ → Type 0)
    (took : K → List ℕ) (Fails : Type 0) (p : Values) (sources later : List S)
    (old between new : Sends A K G) → SendsNext took p 0 old between
    → StopsBehind told took Fails 1 [] sources later between new
    → StopsBehind told took Fails 0 (p ∷ []) sources later old new
each_stopped told took Fails p sources later old between new sends rest = record {
  pictures = rest.pictures;
  say = rest.say;
  unread = rest.unread;
  stops = record {
    stops = λ wanted text from ps count has.
        subst (λ (l : List Values). HasStopped took Fails wanted text from l new)
        (append_assoc ps (p ∷ []) rest.pictures)
        (rest.stops.stops wanted text from (ps ++ p ∷ [])
        (omega (arith, count, length-append ps (p ∷ [])))
        (has_more took wanted text from ps p 0 old between count has sends));
  };
}

-- ---- a run

short_take : {S : Type 0} (n : ℕ) (xs : List S) → length (take n xs) ≤ length xs
short_take zero xs = omega arith
short_take (suc n) [] = omega arith
short_take (suc n) (x ∷ xs) = omega (arith, short_take n xs)

-- a sender that had begun was to send the first picture, and some behind it
pub first_and_part : {S A K : Type 0} {G : Ghosts K} (told : S × S → List ℕ → Type 0)
    (took : K → List ℕ) (Fails : Type 0) (wanted : Sending) (text : List ℕ) (p : Values)
    (sources later : List S) (start last_took : List ℕ) (first last : Sends A K G)
    → length sources < 10000 → IsSize wanted.max_octets p.format
    → HasSent took wanted text start [] first
    → StopsBehind told took Fails 0 (p ∷ []) sources later first last
    → last_took ≡ took last.writer.sink
    → SendsFirstAndPart told Fails wanted text p sources later start last_took
first_and_part {S} told took Fails wanted text p sources later start last_took first last few
    limits begun stops same =
    let ps : List Values = p ∷ stops.pictures in
    let stopped : HasStopped took Fails wanted text start ps last =
    stops.stops.stops wanted text start [] refl begun in
    let format : p.format ≡ last.plan.format = stopped.sent.format in
    let n : ℕ = length stops.pictures in
    let long : n ≡ length (take n sources) =
    said_long told (take n sources) (take n later) stops.pictures stops.say in
    let whole : List ℕ = written_text wanted.paths text stopped.datagrams in
    record {
      rest = stops.pictures;
      say = stops.say;
      unread = stops.unread;
      whole = whole;
      count = capped (length stopped.datagrams);
      capture = record {
        limits = limits;
        datagrams = stopped.datagrams;
        sent = record {
          few = omega (arith, few, long, short_take n sources);
          sent =
              subst (λ (x : Format). SendsFrom (run_sender x wanted) 0 ps wanted.first
              stopped.datagrams) (sym format)
              (sends_from last.plan (run_sender last.plan.format wanted) 0 wanted.first
              stopped.next ps stopped.datagrams stopped.sent);
        };
        planned = record {
          plan = last.plan;
          plan_is = stopped.plan;
          format_is = sym format;
          next = stopped.next;
          sent =
              subst (λ (x : Format). SendsTo last.plan (run_sender x wanted) 0 ps wanted.first
              stopped.datagrams stopped.next) (sym format) stopped.sent;
        };
        taken = refl;
        count_is = refl;
      };
      taken = subst (λ (l : List ℕ). WrittenAtFault Fails start l whole) (sym same) stopped.taken;
    }

-- what the datagrams of the first picture have in common has room in the headers
pub stamp_fits : (f : Format) (wanted : Sending) → wanted.payload_type ≤ 127
    → wanted.ssrc < 2 ^ 32 → IsStamp (stamp_of (run_sender f wanted) 0 wanted.first)
stamp_fits f wanted small ssrc = record {
  payload_type = omega (arith, small);
  timestamp = omega arith;
  ssrc = ssrc;
}

-- the sink failed at the capture's front
pub front_cut : {S : Type 0} (told : S × S → List ℕ → Type 0) (Fails : Type 0) (wanted : Sending)
    (text : List ℕ) (p : Values) (plan : RasterPlan) (sources : List S) (old new : List ℕ)
    → p.format ≡ plan.format → IsSize wanted.max_octets p.format
    → IsPlanOf wanted.max_octets plan → IsPicture p
    → IsStamp (stamp_of (run_sender p.format wanted) 0 wanted.first) → Fails
    → GrowsPart old new (front_text Two text)
    → SendsFirstAndPart told Fails wanted text p sources sources old new
front_cut told Fails wanted text p plan sources old new same limits planned picture stamp fails
    cut =
    let by : Sender = run_sender p.format wanted in
    let ds : List (List ℕ) = datagram_texts p (stamp_of by 0 wanted.first) 0 plan.packets in
    let is : IsRasterPlan plan.packets p.format plan.max_octets =
    subst (λ (f : Format). IsRasterPlan plan.packets f plan.max_octets) (sym same)
    planned.full.plan in
    let none : List (List ℕ) = [] in
    let sent : SendsTo plan by 0 (p ∷ []) wanted.first ds (number_behind wanted.first plan) =
    record {
      mine = ds;
      others = none;
      format = refl;
      picture =
          picture_sent p (stamp_of by 0 wanted.first) plan.max_octets plan.packets
          planned.full.limits.most is picture stamp;
      rest = (refl, refl);
      whole = sym (append-nil ds);
    } in
    record {
      rest = [];
      say = no_pictures_said told sources;
      unread = refl;
      whole = written_text wanted.paths text ds;
      count = capped (length ds);
      capture = record {
        limits = limits;
        datagrams = ds;
        sent = record {
          few = omega arith;
          sent = sends_from plan by 0 wanted.first (number_behind wanted.first plan) (p ∷ []) ds
              sent;
        };
        planned = record {
          plan = plan;
          plan_is = planned;
          format_is = sym same;
          next = number_behind wanted.first plan;
          sent = sent;
        };
        taken = refl;
        count_is = refl;
      };
      taken = inr (
        fails,
        part_first old new (front_text Two text) (records_text (entries_from wanted.paths 0 ds))
            cut,
      );
    }

-- a device's fault was counted
pub device_counted : (f : FileFault) (old new : ℕ) → IsDevice f → CountsFault f old new
    → Failed old new
device_counted Device old new is counted = counted_once old new counted
device_counted f old new is counted = absurd is

-- of a sink that was lent, and came back as it then was
pub sink_back : {S K : Type 0} (told : S × S → List ℕ → Type 0) (took : K → List ℕ)
    (failures : K → ℕ) (wanted : Sending) (text : List ℕ) (p : Values) (sources later : List S)
    (old last new : K) → new ≡ last
    → SendsFirstAndPart told (Failed (failures old) (failures last)) wanted text p sources later
    (took old) (took last)
    → SendsFirstAndPart told (Failed (failures old) (failures new)) wanted text p sources later
    (took old) (took new)
sink_back {S} {K} told took failures wanted text p sources later old last new same part =
    subst (λ (k : K). SendsFirstAndPart told (Failed (failures old) (failures k)) wanted text p
    sources later (took old) (took k)) (sym same) part

-- of the pictures of sources
pub pictures_part : {S : Type 0} (told : S × S → List ℕ → Type 0) (Fails : Type 0)
    (wanted : Sending) (text : List ℕ) (p : Values) (sources mid later : List S)
    (old new : List ℕ) → length sources ≤ 10000
    → FirstIs (λ s. SaysPicture (told s) p) (zip sources mid) → drop 1 mid ≡ drop 1 sources
    → take 1 later ≡ take 1 mid
    → SendsFirstAndPart told Fails wanted text p (drop 1 mid) (drop 1 later) old new
    → SendsUpTo told Fails wanted text sources later old new
pictures_part {S} told Fails wanted text p sources mid later old new few first behind front part =
    inr (record {
      few = few;
      first = p;
      first_is = first_again (λ s. SaysPicture (told s) p) sources mid later front first;
      taken =
          subst (λ (l : List S). SendsFirstAndPart told Fails wanted text p l (drop 1 later) old
          new) behind part;
    })

said_later : {S : Type 0} (told : S × S → List ℕ → Type 0) (xs ys : List S) (ps : List Values)
    → SayPictures told xs ys ps → length ps ≡ length ys
said_later told [] [] [] say = refl
said_later told [] [] (q ∷ qs) say = absurd say
said_later told [] (b ∷ vs) ps say = absurd say
said_later told (a ∷ us) [] ps say = absurd say
said_later told (a ∷ us) (b ∷ vs) [] say = absurd say
said_later told (a ∷ us) (b ∷ vs) (q ∷ qs) say =
    ap (λ (n : ℕ). suc n) (said_later told us vs qs say.1)

-- all of them, where what is behind failed
pub all_part : {S : Type 0} (told : S × S → List ℕ → Type 0) (Fails : Type 0) (wanted : Sending)
    (text : List ℕ) (sources later : List S) (old new : List ℕ) (count : ℕ)
    → length sources ≤ 10000 → SendsPictures told wanted text sources later old new count
    → SendsUpTo told Fails wanted text sources later old new
all_part {S} told Fails wanted text sources later old new count few sends =
    at sources later sends.pictures few sends.say sends.taken
  where
    at : (xs ys : List S) (ps : List Values) → length xs ≤ 10000 → SayPictures told xs ys ps
        → TakesPictures wanted text ps old new count
        → SendsUpTo told Fails wanted text xs ys old new
    at [] [] [] some say taken = inl (taken.0, refl)
    at [] [] (q ∷ qs) some say taken = absurd say
    at [] (b ∷ vs) ps some say taken = absurd say
    at (a ∷ us) [] ps some say taken = absurd say
    at (a ∷ us) (b ∷ vs) [] some say taken = absurd say
    at (a ∷ us) (b ∷ vs) (q ∷ qs) some say taken =
        let n : ℕ = length qs in
        let long : n ≡ length us = said_long told us vs qs say.1 in
        let same : n ≡ length vs = said_later told us vs qs say.1 in
        inr (record {
          few = some;
          first = q;
          first_is = say.0;
          taken = record {
            rest = qs;
            say =
                subst (λ (l : List S). SayPictures told l (take n vs) qs)
                (sym (take_all n us (omega (arith, long))))
                (subst (λ (l : List S). SayPictures told us l qs)
                (sym (take_all n vs (omega (arith, same)))) say.1);
            unread =
                drop_all (n + 1) vs (omega (arith, same))
                ∙ sym (drop_all (n + 1) us (omega (arith, long)));
            whole = written_text wanted.paths text taken.datagrams;
            count = count;
            capture = record {
              limits = taken.limits;
              datagrams = taken.datagrams;
              sent = taken.sent;
              planned = taken.planned;
              taken = refl;
              count_is = taken.count_is;
            };
            taken = inl taken.taken;
          };
        })

-- with the text that was read
pub some_of : {S : Type 0} (gave : S → List ℕ) (ended : S → Type 0) (Fails : Type 0)
    (by_sdp : Bool) (wanted asked : Sending) (sdp sdp_later : Option S) (text : List ℕ)
    (sources later : List S) (old new : List ℕ) → SaysText gave ended sdp sdp_later text
    → IsSentBy by_sdp wanted text asked
    → SendsUpTo (WasRead gave ended) Fails asked text sources later old new
    → SendsSome gave ended Fails by_sdp wanted sdp sdp_later sources later old new
some_of gave ended Fails by_sdp wanted asked sdp sdp_later text sources later old new says is
    (inl none) = inl none
some_of gave ended Fails by_sdp wanted asked sdp sdp_later text sources later old new says is
    (inr part) = inr (text, says, (asked, is, part))
