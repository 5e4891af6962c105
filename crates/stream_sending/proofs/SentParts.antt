-- What `send` of a stream leaves in its capture where it fails.
use Rattle.std.proofs.Common.{◌≡◌, ℕ, ◌+◌, ◌<◌, ◌≤◌, Bool, List, [], ◌∷◌, ◌++◌, Option, Some}
use Rattle.std.proofs.Common.{append_assoc, append-nil, ap, arith, drop, get_or, inl, inr, length}
use Rattle.std.proofs.Common.{length-append, refl, subst, sym, ◌∙◌}
use Rattle.st_format.specs.Device.{Failed, GrowsPart, capped}
use Rattle.st_format.specs.Given.{GavePart, field_by}
use Rattle.st_format.specs.Picture.{IsPicture, Values}
use Rattle.st_format.specs.declared.device.ByteSink.{Ghosts}
use Rattle.st_format.specs.declared.format.Format.{Format}
use Rattle.media_file.proofs.Written.{part_first, part_then}
use Rattle.media_file.specs.Fronts.{front_text}
use Rattle.media_file.specs.Records.{records_text}
use Rattle.media_file.specs.Writer.{entries_from, moment_after, written_text}
use Rattle.media_file.specs.declared.front.Version.TheVariants.{Two}
use Rattle.media_file.specs.declared.paths.Paths.{Paths}
use Rattle.packet_plan.proofs.Texts.{picture_sent}
use Rattle.packet_plan.specs.Plan.{IsRasterPlan, IsSize, RasterPlan}
use Rattle.packet_plan.specs.Sender.{Sender, stamp_of}
use Rattle.packet_plan.specs.Sent.{IsSentPicture}
use Rattle.packet_plan.specs.Text.{IsStamp, datagram_texts}
use Rattle.picture_forms.proofs.Begun.{no_frame}
use Rattle.picture_forms.specs.Frames.{frame_walk}
use Rattle.picture_forms.specs.Heads.{head_walk, name_at}
use Rattle.picture_forms.specs.declared.fault.FormFault.TheVariants.{Truncated}
use Rattle.run_outcome.specs.AtFault.{WrittenAtFault}
use Rattle.run_outcome.specs.Refusing.{OfRefusal}
use Rattle.run_outcome.specs.TextRefusals.{SaysText}
use Rattle.run_outcome.specs.declared.fault.Fault.{Fault}
use Rattle.run_outcome.specs.declared.fault.Fault.TheVariants as fault
use Rattle.run_outcome.specs.declared.refusal.Refusal.TheVariants.{SendFormats}
use Rattle.capture_engines.proofs.Sendings.{records-append, sends_from, sends_more}
use Rattle.capture_engines.specs.Sending.{HasSent, IsPlanOf, SendsMore, SendsNext, SendsTo}
use Rattle.capture_engines.specs.Sending.{number_behind, run_sender}
use Rattle.capture_engines.specs.SentPart.{CutsNext, HasStopped, StopsMore, StopsNext}
use Rattle.capture_engines.specs.Typed.{IsSentBy}
use Rattle.capture_engines.specs.declared.sender.Sender.{Sender as Sends}
use Rattle.capture_engines.specs.declared.sender.Sending.{Sending}
use Rattle.stream_sending.specs.Reading.{GaveAll, GaveFrames, SendsFirstSome, SendsOpenedSome}
use Rattle.stream_sending.specs.Reading.{GaveNextFrame, StopsFrames}
use Rattle.stream_sending.specs.Sent.{TakesFrames}
use Rattle.stream_sending.specs.SentPart.{SendsSomeFrames, SendsStreamUpTo, TakesFirst, TakesStreamSome}
use Rattle.stream_sending.proofs.FramesRead.{gave_first, gave_none}
use Rattle.stream_sending.proofs.Sendings.{SoFar, all_so_far}

-- ---- what a source gave

-- nothing is no head
pub no_head : (a : List ℕ) → GavePart head_walk a a
unfolding head_walk name_at field_by
no_head a =
    record { part = []; grown = sym (append-nil a); fault = Truncated; none = refl }

-- frames, of which all are to be sent
pub all_given : (f : Format) (ps : List Values) (a b c : List ℕ) → GaveFrames f ps a b
    → GavePart (frame_walk f) b c → GaveAll f (ps ++ []) a c
all_given f ps a b c gave left = record {
  between = b;
  gave = subst (λ (l : List Values). GaveFrames f l a b) (sym (append-nil ps)) gave;
  left = left;
}

-- ---- a capture that is cut

-- within the records of datagrams behind a capture of others
cut_behind : (p : Paths) (text start m n : List ℕ) (q : Paths) (u : ℕ) (ds es : List (List ℕ))
    → q ≡ p → u ≡ moment_after p 0 ds → m ≡ start ++ written_text p text ds
    → GrowsPart m n (records_text (entries_from q u es))
    → GrowsPart start n (written_text p text (ds ++ es))
cut_behind p text start m n q u ds es same at first part =
    let more : List ℕ = records_text (entries_from p (moment_after p 0 ds) es) in
    let behind : GrowsPart m n more =
    subst (λ (v : ℕ). GrowsPart m n (records_text (entries_from p v es))) at
    (subst (λ (x : Paths). GrowsPart m n (records_text (entries_from x u es))) same part) in
    subst (λ (l : List ℕ). GrowsPart start n l)
    (append_assoc (front_text Two text) (records_text (entries_from p 0 ds)) more
    ∙ ap (λ (l : List ℕ). front_text Two text ++ l) (records-append p 0 ds es))
    (part_then start m n (written_text p text ds) more first behind)

-- within the records of a picture behind others
has_cut : {A K : Type 0} {G : Ghosts K} (took : K → List ℕ) (failures : K → ℕ) (Fails : Type 0)
    (wanted : Sending) (text start : List ℕ) (ps : List Values) (p : Values) (k : ℕ)
    (old new : Sends A K G)
    → (Failed (failures old.writer.sink) (failures new.writer.sink) → Fails) → length ps ≡ k
    → HasSent took wanted text start ps old → CutsNext took failures p k old new
    → HasStopped took Fails wanted text start (ps ++ p ∷ []) new
has_cut took failures Fails wanted text start ps p k old new fails count has cut =
    let by : Sender = run_sender old.plan.format wanted in
    let at : k ≡ 0 + length ps = omega arith in
    let next : ℕ = number_behind old.next old.plan in
    let datagrams : List (List ℕ) = has.datagrams ++ cut.datagrams in
    let picture : IsSentPicture cut.datagrams p (stamp_of by (0 + length ps) old.next)
    old.plan.max_octets old.plan.packets =
    subst (λ (i : ℕ). IsSentPicture cut.datagrams p (stamp_of by i old.next) old.plan.max_octets
    old.plan.packets) at
    (subst (λ (v : Sending). IsSentPicture cut.datagrams p
    (stamp_of (run_sender old.plan.format v) k old.next) old.plan.max_octets old.plan.packets)
    has.wanted_is cut.sent) in
    record {
      datagrams = datagrams;
      plan = subst (λ (x : RasterPlan). IsPlanOf wanted.max_octets x) (sym cut.plan) has.plan;
      next = next;
      sent =
          subst (λ (x : RasterPlan). SendsTo x (run_sender x.format wanted) 0 (ps ++ p ∷ [])
          wanted.first datagrams next) (sym cut.plan)
          (sends_more old.plan by 0 wanted.first old.next ps has.datagrams p cut.datagrams has.sent
          cut.format picture);
      taken = inr (
        fails cut.failed,
        cut_behind wanted.paths text start (took old.writer.sink) (took new.writer.sink)
            old.writer.place.paths old.writer.place.moment has.datagrams cut.datagrams has.paths
            has.moment has.taken cut.part,
      );
    }

-- ---- a sender

-- it sent all that it was to send
all_stopped : {A K : Type 0} {G : Ghosts K} (took : K → List ℕ) (Fails : Type 0)
    (ps : List Values) (old new : Sends A K G) → SendsMore took 0 ps old new
    → StopsMore took Fails 0 ps old new
all_stopped {A} {K} {G} took Fails ps old new sends = record {
  stops = λ wanted text from qs none has.
      let all : HasSent took wanted text from (qs ++ ps) new =
      sends.sent wanted text from qs none has in
      record {
        datagrams = all.datagrams;
        plan = all.plan;
        next = new.next;
        sent = all.sent;
        taken = inl all.taken;
      };
}

-- those that were read are no more than are sent at most
few_here : {A K : Type 0} {G : Ghosts K} (took : K → List ℕ) (f : Format) (k : ℕ)
    (first here : Values) (before now : List ℕ) (old mid : Sends A K G) → k < 4294967295
    → (so_far : SoFar took f k first here before now old mid)
    → length (first ∷ so_far.rest) ≤ 4294967295
few_here took f k first here before now old mid lt so_far =
    omega (
      arith,
      lt,
      so_far.count,
      ap length so_far.read,
      length-append so_far.sent (here ∷ []),
    )

-- the next frame isn't whole and right, or the device failed
pub next_ended : {A K : Type 0} {G : Ghosts K} (took : K → List ℕ) (Fails : Type 0) (f : Format)
    (k : ℕ) (first here : Values) (before now later : List ℕ) (old mid new : Sends A K G)
    → k < 4294967295 → SoFar took f k first here before now old mid
    → SendsNext took here k mid new → GavePart (frame_walk f) now later
    → StopsFrames took Fails f first before later old new
next_ended {A} {K} {G} took Fails f k first here before now later old mid new lt so_far sends left =
    record {
      rest = so_far.rest;
      unsent = [];
      unsent_is = inl (refl, few_here took f k first here before now old mid lt so_far);
      gave = all_given f so_far.rest before now later so_far.gave left;
      stops =
          all_stopped took Fails (first ∷ so_far.rest) old new
          (all_so_far took f k first here before now old mid new so_far sends);
    }

-- the sink failed at the picture that is here
here_cut : {A K : Type 0} {G : Ghosts K} (took : K → List ℕ) (failures : K → ℕ) (Fails : Type 0)
    (f : Format) (k : ℕ) (first here : Values) (before now : List ℕ) (old mid new : Sends A K G)
    → (Failed (failures mid.writer.sink) (failures new.writer.sink) → Fails) → k < 4294967295
    → SoFar took f k first here before now old mid → CutsNext took failures here k mid new
    → StopsFrames took Fails f first before now old new
here_cut {A} {K} {G} took failures Fails f k first here before now old mid new fails lt so_far cut =
    let sent : List Values = so_far.sent in
    record {
      rest = so_far.rest;
      unsent = [];
      unsent_is = inl (refl, few_here took f k first here before now old mid lt so_far);
      gave = all_given f so_far.rest before now now so_far.gave (no_frame f now);
      stops =
          subst (λ (l : List Values). StopsMore took Fails 0 l old new) (sym so_far.read)
          (record {
            stops = λ wanted text from ps none has.
                subst (λ (l : List Values). HasStopped took Fails wanted text from l new)
                (append_assoc ps sent (here ∷ []))
                (has_cut took failures Fails wanted text from (ps ++ sent) here k mid new fails
                (omega (arith, none, so_far.count, length-append ps sent))
                (so_far.sends.sent wanted text from ps none has) cut);
          });
    }

-- so it is where it isn't refused
pub here_ended : {A K : Type 0} {G : Ghosts K} (took : K → List ℕ) (failures : K → ℕ)
    (Fails : Type 0) (f : Format) (k : ℕ) (first here : Values) (before now : List ℕ)
    (old mid new : Sends A K G) (e : Fault)
    → (Failed (failures mid.writer.sink) (failures new.writer.sink) → Fails) → k < 4294967295
    → here.format ≡ mid.plan.format
    → OfRefusal e (λ r. (r ≡ SendFormats) × (here.format ≡ mid.plan.format → ⊥))
    → SoFar took f k first here before now old mid → StopsNext took failures here k mid new e
    → StopsFrames took Fails f first before now old new
here_ended took failures Fails f k first here before now old mid new (fault.Refused r) fails lt
    alike is so_far stops = absurd (is.1 alike)
here_ended took failures Fails f k first here before now old mid new fault.Device fails lt alike is
    so_far stops =
    here_cut took failures Fails f k first here before now old mid new fails lt so_far stops
here_ended took failures Fails f k first here before now old mid new fault.Memory fails lt alike is
    so_far stops = absurd stops

-- as many were sent as are sent at most, and one more was read
pub many_ended : {A K : Type 0} {G : Ghosts K} (took : K → List ℕ) (Fails : Type 0) (f : Format)
    (k : ℕ) (first here : Values) (before now : List ℕ) (old mid : Sends A K G)
    → k ≡ 4294967295 → SoFar took f k first here before now old mid
    → StopsFrames took Fails f first before now old mid
many_ended {A} {K} {G} took Fails f k first here before now old mid many so_far =
    by so_far.sent so_far.count so_far.read so_far.sends
  where
    by : (sent : List Values) → length sent ≡ k → first ∷ so_far.rest ≡ sent ++ here ∷ []
        → SendsMore took 0 sent old mid → StopsFrames took Fails f first before now old mid
    by [] count read sends = absurd (omega (arith, many, count))
    by (q ∷ qs) count read sends =
        let same : first ≡ q = ap (λ (l : List Values). get_or l 0 first) read in
        let behind : so_far.rest ≡ qs ++ here ∷ [] = ap (drop 1) read in
        record {
          rest = qs;
          unsent = here ∷ [];
          unsent_is = inr (refl, omega (arith, many, count));
          gave = record {
            between = now;
            gave = subst (λ (l : List Values). GaveFrames f l before now) behind so_far.gave;
            left = no_frame f now;
          };
          stops =
              all_stopped took Fails (first ∷ qs) old mid
              (subst (λ (v : Values). SendsMore took 0 (v ∷ qs) old mid) (sym same) sends);
        }

-- ---- a run

-- of planned pictures, the capture or a part
some_planned : (Fails : Type 0) (wanted : Sending) (text : List ℕ) (f : Format)
    (ps : List Values) (plan : RasterPlan) (next : ℕ) (ds : List (List ℕ)) (old new : List ℕ)
    → IsSize wanted.max_octets f → IsPlanOf wanted.max_octets plan → plan.format ≡ f
    → SendsTo plan (run_sender f wanted) 0 ps wanted.first ds next
    → WrittenAtFault Fails old new (written_text wanted.paths text ds)
    → TakesStreamSome Fails wanted text f ps old new
some_planned Fails wanted text f ps plan next ds old new limits planned same sent taken = record {
  whole = written_text wanted.paths text ds;
  count = capped (length ds);
  capture = record {
    limits = limits;
    datagrams = ds;
    sent = sends_from plan (run_sender f wanted) 0 wanted.first next ps ds sent;
    planned = record {
      plan = plan;
      plan_is = planned;
      format_is = same;
      next = next;
      sent = sent;
    };
    taken = refl;
    count_is = refl;
  };
  taken = taken;
}

-- the sink failed at the capture's front, behind which the first picture was to come
pub front_ended : (Fails : Type 0) (wanted : Sending) (text : List ℕ) (f : Format) (p : Values)
    (plan : RasterPlan) (before old new : List ℕ) → p.format ≡ plan.format → p.format ≡ f
    → IsSize wanted.max_octets f → IsPlanOf wanted.max_octets plan → IsPicture p
    → IsStamp (stamp_of (run_sender f wanted) 0 wanted.first) → Fails
    → GrowsPart old new (front_text Two text)
    → SendsFirstSome Fails wanted text f p before before old new
front_ended Fails wanted text f p plan before old new alike same limits planned picture stamp
    fails cut =
    let by : Sender = run_sender f wanted in
    let ds : List (List ℕ) = datagram_texts p (stamp_of by 0 wanted.first) 0 plan.packets in
    let is : IsRasterPlan plan.packets p.format plan.max_octets =
    subst (λ (g : Format). IsRasterPlan plan.packets g plan.max_octets) (sym alike)
    planned.full.plan in
    let none : List (List ℕ) = [] in
    let sent : SendsTo plan by 0 (p ∷ []) wanted.first ds (number_behind wanted.first plan) =
    record {
      mine = ds;
      others = none;
      format = same;
      picture =
          picture_sent p (stamp_of by 0 wanted.first) plan.max_octets plan.packets
          planned.full.limits.most is picture stamp;
      rest = (refl, refl);
      whole = sym (append-nil ds);
    } in
    record {
      rest = [];
      unsent = [];
      unsent_is = inl (refl, omega arith);
      gave = all_given f [] before before before (gave_none f before) (no_frame f before);
      taken =
          some_planned Fails wanted text f (p ∷ []) plan (number_behind wanted.first plan) ds old
          new limits planned (sym alike ∙ same) sent
          (inr (
            fails,
            part_first old new (front_text Two text)
                (records_text (entries_from wanted.paths 0 ds)) cut,
          ));
    }

-- a sender that had begun was to send the first picture, and those behind it
pub first_ended : {A K : Type 0} {G : Ghosts K} (took : K → List ℕ) (Fails : Type 0)
    (wanted : Sending) (text : List ℕ) (f : Format) (p : Values)
    (before now start last_took : List ℕ) (first last : Sends A K G)
    → p.format ≡ f → IsSize wanted.max_octets f → HasSent took wanted text start [] first
    → StopsFrames took Fails f p before now first last → last_took ≡ took last.writer.sink
    → SendsFirstSome Fails wanted text f p before now start last_took
first_ended {A} {K} {G} took Fails wanted text f p before now start last_took first last same
    limits begun stops at =
    let ps : List Values = p ∷ stops.rest in
    let stopped : HasStopped took Fails wanted text start ps last =
    stops.stops.stops wanted text start [] refl begun in
    let format : last.plan.format ≡ f = sym stopped.sent.format ∙ same in
    let whole : List ℕ = written_text wanted.paths text stopped.datagrams in
    record {
      rest = stops.rest;
      unsent = stops.unsent;
      unsent_is = stops.unsent_is;
      gave = stops.gave;
      taken =
          some_planned Fails wanted text f ps last.plan stopped.next stopped.datagrams start
          last_took limits stopped.plan format
          (subst (λ (x : Format). SendsTo last.plan (run_sender x wanted) 0 ps wanted.first
          stopped.datagrams stopped.next) format stopped.sent)
          (subst (λ (l : List ℕ). WrittenAtFault Fails start l whole) (sym at) stopped.taken);
    }

-- of a sink that was lent, and came back as it then was
pub sink_back : {K : Type 0} (took : K → List ℕ) (failures : K → ℕ) (wanted : Sending)
    (text : List ℕ) (f : Format) (p : Values) (before now : List ℕ) (old last new : K)
    → new ≡ last
    → SendsFirstSome (Failed (failures old) (failures last)) wanted text f p before now (took old)
    (took last)
    → SendsFirstSome (Failed (failures old) (failures new)) wanted text f p before now (took old)
    (took new)
sink_back {K} took failures wanted text f p before now old last new same some =
    subst (λ (k : K). SendsFirstSome (Failed (failures old) (failures k)) wanted text f p before now
    (took old) (took k)) (sym same) some

-- no frame was read
pub none_ended : (Fails : Type 0) (wanted : Sending) (text : List ℕ) (f : Format)
    (before now old : List ℕ) → GavePart (frame_walk f) before now
    → SendsOpenedSome Fails wanted text f before now old old
none_ended Fails wanted text f before now old left = record {
  pictures = [];
  unsent = [];
  unsent_is = inl (refl, omega arith);
  gave = record { between = before; gave = gave_none f before; left = left };
  taken = refl;
}

-- a first one was
pub opened_ended : (Fails : Type 0) (wanted : Sending) (text : List ℕ) (f : Format) (p : Values)
    (a b c old new : List ℕ) → GaveNextFrame f a b ⊥ (Some p)
    → SendsFirstSome Fails wanted text f p b c old new
    → SendsOpenedSome Fails wanted text f a c old new
opened_ended Fails wanted text f p a b c old new next some = record {
  pictures = p ∷ some.rest;
  unsent = some.unsent;
  unsent_is = some.unsent_is;
  gave = record {
    between = some.gave.between;
    gave = gave_first f p (some.rest ++ some.unsent) a b some.gave.between next some.gave.gave;
    left = some.gave.left;
  };
  taken = some.taken;
}

-- what a sink took whole
pub whole_taken : (Fails : Type 0) (wanted : Sending) (text : List ℕ) (f : Format)
    (ps : List Values) (old new : List ℕ) (count : ℕ)
    → TakesFrames wanted text f ps old new count → TakesFirst Fails wanted text f ps old new
whole_taken Fails wanted text f [] old new count taken = taken.0
whole_taken Fails wanted text f (p ∷ ps) old new count taken = record {
  whole = written_text wanted.paths text taken.datagrams;
  count = count;
  capture = record {
    limits = taken.limits;
    datagrams = taken.datagrams;
    sent = taken.sent;
    planned = taken.planned;
    taken = refl;
    count_is = taken.count_is;
  };
  taken = inl taken.taken;
}

-- with the text that was read
pub some_of : {S : Type 0} (gave : S → List ℕ) (ended : S → Type 0) (Fails : Type 0)
    (by_sdp : Bool) (wanted asked : Sending) (sdp sdp_later : Option S)
    (text before now old new : List ℕ) → SaysText gave ended sdp sdp_later text
    → IsSentBy by_sdp wanted text asked → SendsStreamUpTo Fails asked text before now old new
    → SendsSomeFrames gave ended Fails by_sdp wanted sdp sdp_later before now old new
some_of gave ended Fails by_sdp wanted asked sdp sdp_later text before now old new says is
    (inl none) = inl none
some_of gave ended Fails by_sdp wanted asked sdp sdp_later text before now old new says is
    (inr some) = inr (text, says, (asked, is, some))
