-- Pictures of a stream sent one after the other into a capture.
use Rattle.std.proofs.Common.{◌≡◌, ℕ, ◌+◌, List, [], ◌∷◌, ◌++◌, length, Some, refl, sym, ap, subst}
use Rattle.std.proofs.Common.{◌∙◌, arith, false, append_assoc, append-nil, length-append}
use Rattle.st_format.specs.Picture.{Values}
use Rattle.st_format.specs.declared.device.ByteSink.{Ghosts}
use Rattle.st_format.specs.declared.format.Format.{Format}
use Rattle.media_file.specs.Fronts.{front_text}
use Rattle.media_file.specs.Writer.{Writer, WriterPlace}
use Rattle.media_file.specs.declared.front.Version.TheVariants.{Two}
use Rattle.packet_plan.specs.Plan.{IsSize}
use Rattle.packet_plan.specs.Sender.{SendsFrom}
use Rattle.capture_engines.specs.Sending.{HasSent, IsPlanOf, SendsMore, SendsNext, run_sender}
use Rattle.capture_engines.specs.declared.sender.Sender.{Sender as Sends}
use Rattle.capture_engines.specs.declared.sender.Sending.{Sending}
use Rattle.capture_engines.proofs.Sendings.{has_more, has_planned, none_sent, sends_from}
use Rattle.stream_sending.specs.Reading.{GaveFrames, GaveNextFrame}
use Rattle.stream_sending.specs.Sent.{TakesStream}
use Rattle.stream_sending.proofs.FramesRead.{gave_more, gave_none}

-- Of a stream so many pictures were sent, and one more was read, which is here: what a source gave
-- behind the first was `before`, and is `now`.
pub record SoFar {A K : Type 0} {G : Ghosts K} (took : K → List ℕ) (f : Format) (k : ℕ)
    (first here : Values) (before now : List ℕ) (old mid : Sends A K G) : Type 0 where
  pub sent : List Values
  pub rest : List Values
  pub count : length sent ≡ k
  pub read : first ∷ rest ≡ sent ++ here ∷ []
  pub gave : GaveFrames f rest before now
  pub sends : SendsMore took 0 sent old mid

pub none_so_far : {A K : Type 0} {G : Ghosts K} (took : K → List ℕ) (f : Format) (first : Values)
    (before : List ℕ) (s : Sends A K G) → SoFar took f 0 first first before before s s
none_so_far took f first before s = record {
  sent = [];
  rest = [];
  count = refl;
  read = refl;
  gave = gave_none f before;
  sends = record {
    sent = λ wanted text from ps count has.
        subst (λ (l : List Values). HasSent took wanted text from l s) (sym (append-nil ps)) has;
  };
}

-- the picture that is here was sent too
one_more : {A K : Type 0} {G : Ghosts K} (took : K → List ℕ) (k : ℕ) (sent : List Values)
    (p : Values) (old mid new : Sends A K G) → length sent ≡ k → SendsMore took 0 sent old mid
    → SendsNext took p k mid new → SendsMore took 0 (sent ++ p ∷ []) old new
one_more {A} {K} {G} took k sent p old mid new count sends next = record {
  sent = λ wanted text from ps none has.
      let so_far : HasSent took wanted text from (ps ++ sent) mid =
      sends.sent wanted text from ps none has in
      subst (λ (l : List Values). HasSent took wanted text from l new)
      (append_assoc ps sent (p ∷ []))
      (has_more took wanted text from (ps ++ sent) p k mid new
      (omega (arith, none, count, length-append ps sent)) so_far next);
}

-- and the next one was read
pub more_so_far : {A K : Type 0} {G : Ghosts K} (took : K → List ℕ) (f : Format) (k : ℕ)
    (first here next : Values) (before now later : List ℕ) (old mid new : Sends A K G)
    → SoFar took f k first here before now old mid → SendsNext took here k mid new
    → GaveNextFrame f now later ⊥ (Some next)
    → SoFar took f (k + 1) first next before later old new
more_so_far {A} {K} {G} took f k first here next before now later old mid new so_far sends
    gave = record {
      sent = so_far.sent ++ here ∷ [];
      rest = so_far.rest ++ next ∷ [];
      count = omega (arith, so_far.count, length-append so_far.sent (here ∷ []));
      read = ap (λ (l : List Values). l ++ next ∷ []) so_far.read;
      gave = gave_more f so_far.rest next before now later so_far.gave gave;
      sends = one_more took k so_far.sent here old mid new so_far.count so_far.sends sends;
    }

-- all that were read were sent
pub all_so_far : {A K : Type 0} {G : Ghosts K} (took : K → List ℕ) (f : Format) (k : ℕ)
    (first here : Values) (before now : List ℕ) (old mid new : Sends A K G)
    (so_far : SoFar took f k first here before now old mid) → SendsNext took here k mid new
    → SendsMore took 0 (first ∷ so_far.rest) old new
all_so_far {A} {K} {G} took f k first here before now old mid new so_far sends =
    subst (λ (l : List Values). SendsMore took 0 l old new) (sym so_far.read)
    (one_more took k so_far.sent here old mid new so_far.count so_far.sends sends)

-- so a capture of them was written, from its front on
pub stream_sent : {A K : Type 0} {G : Ghosts K} (took : K → List ℕ) (wanted : Sending)
    (text : List ℕ) (f : Format) (first : Values) (rest : List Values) (start last_took : List ℕ)
    (count : ℕ) (opened : Writer K) (old last : Sends A K G)
    → opened.place ≡ record
    { paths = wanted.paths; text_len = length text; moment = 0; failed = false }
    → took opened.sink ≡ start ++ front_text Two text → old.writer ≡ opened
    → old.wanted ≡ wanted → old.next ≡ wanted.first → old.sent ≡ 0
    → SendsMore took 0 (first ∷ rest) old last → first.format ≡ f
    → last_took ≡ took last.writer.sink → count ≡ last.sent → IsSize wanted.max_octets f
    → IsPlanOf wanted.max_octets old.plan
    → TakesStream wanted text f (first ∷ rest) start last_took count
stream_sent {A} {K} {G} took wanted text f first rest start last_took count opened old last place
    front writer is next none sends same at counts limits planned =
    let begun : HasSent took wanted text start [] old =
    none_sent took wanted text start old is next
    (ap (λ (w : Writer K). w.place.paths) writer ∙ ap (λ (q : WriterPlace). q.paths) place)
    (ap (λ (w : Writer K). w.place.moment) writer ∙ ap (λ (q : WriterPlace). q.moment) place)
    none
    (subst (λ (w : Writer K). took w.sink ≡ start ++ front_text Two text) (sym writer)
    front) planned in
    let has : HasSent took wanted text start (first ∷ rest) last =
    sends.sent wanted text start [] refl begun in
    let by : first.format ≡ last.plan.format = has.sent.format in
    record {
      limits = limits;
      datagrams = has.datagrams;
      sent =
          subst (λ (x : Format). SendsFrom (run_sender x wanted) 0 (first ∷ rest) wanted.first
          has.datagrams) (sym by ∙ same)
          (sends_from last.plan (run_sender last.plan.format wanted) 0 wanted.first last.next
          (first ∷ rest) has.datagrams has.sent);
      planned = has_planned took wanted text start (first ∷ rest) f last has (sym same ∙ by);
      taken = at ∙ has.taken;
      count_is = counts ∙ has.count;
    }
