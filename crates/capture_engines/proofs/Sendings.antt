-- Pictures sent one after the other into a capture.
use Rattle.std.proofs.Common.{◌≡◌, ℕ, zero, suc, ◌+◌, ◌-◌, ◌^◌, ◌<◌, ◌≤◌, List, [], ◌∷◌}
use Rattle.std.proofs.Common.{false, drop, Option, Result, Ok, Err, refl, sym, ap}
use Rattle.std.proofs.Common.{◌++◌, length, subst, ◌∙◌, arith, inl, inr}
use Rattle.std.proofs.Common.{append_assoc, append-nil, length-append, length-drop, take}
use Rattle.std.proofs.Math.Seq.{take-add}
use Rattle.std.proofs.lemmas.Bool.{cases_lt}
use Rattle.std.proofs.lemmas.List.{drop-append-le, length-take-le, take_all}
use Rattle.std.specs.Borrow.{GName}
use Rattle.std.specs.List.{zip}
use Rattle.std.specs.Prelude.{IfOk, OnOk}
use Rattle.st_format.specs.Device.{CountsOne, Failed, capped}
use Rattle.st_format.specs.Picture.{Values}
use Rattle.st_format.specs.declared.device.ByteSink.{Ghosts}
use Rattle.st_format.specs.declared.format.Format.{Format}
use Rattle.media_file.proofs.Putting.{each_written, fails_once}
use Rattle.media_file.proofs.Written.{records_append, took_both}
use Rattle.media_file.specs.Fronts.{front_text}
use Rattle.media_file.specs.Records.{Entry, records_text}
use Rattle.media_file.specs.Writer.{FailsDatagram, TakesDatagram, Writer, WriterPlace}
use Rattle.media_file.specs.Writer.{entries_from, entries_of, moment_after, moment_behind}
use Rattle.media_file.specs.Writer.{written_text}
use Rattle.media_file.specs.declared.front.Version.TheVariants.{Two}
use Rattle.media_file.specs.declared.paths.Paths.{Paths}
use Rattle.packet_plan.specs.Plan.{IsSize, RasterPlan}
use Rattle.packet_plan.specs.Sending.{PutsPart, PutsPicture}
use Rattle.packet_plan.specs.Sender.{SendsFrom, Sender, stamp_of}
use Rattle.packet_plan.specs.Sent.{AreSent, IsSentPicture}
use Rattle.packet_plan.specs.declared.run.PacketRun.{PacketRun}
use Rattle.packet_plan.specs.declared.stamp.Stamp.{Stamp}
use Rattle.capture_engines.specs.Sent.{FirstIs}
use Rattle.run_outcome.specs.Pictures.{SaysPicture}
use Rattle.capture_engines.specs.Sending.{ArePlanned, HasSent, IsPlanOf, SayPictures}
use Rattle.capture_engines.specs.Sending.{SendsFirstAndRest, SendsMore}
use Rattle.capture_engines.specs.Sending.{SendsNext, SendsPictures, SendsRest, SendsTo}
use Rattle.capture_engines.specs.Sending.{number_behind, run_sender}
use Rattle.capture_engines.proofs.OneOf.{first_again}
use Rattle.capture_engines.specs.Writing.{WritesPicture}
use Rattle.capture_engines.specs.declared.sender.Sender.{Sender as Sends}
use Rattle.capture_engines.specs.declared.sender.Sending.{Sending}

-- ---- records

entries-append : (paths : Paths) (m : ℕ) (ds es : List (List ℕ))
    → entries_from paths m (ds ++ es)
    ≡ entries_from paths m ds ++ entries_from paths (moment_after paths m ds) es
entries-append paths m [] es = refl
entries-append paths m (d ∷ ds) es =
    ap (λ (l : List Entry). entries_of paths m d ++ l)
    (entries-append paths (moment_behind paths m) ds es)
    ∙ sym (append_assoc (entries_of paths m d) (entries_from paths (moment_behind paths m) ds)
    (entries_from paths (moment_after paths (moment_behind paths m) ds) es))

moment-append : (paths : Paths) (m : ℕ) (ds es : List (List ℕ))
    → moment_after paths m (ds ++ es) ≡ moment_after paths (moment_after paths m ds) es
moment-append paths m [] es = refl
moment-append paths m (d ∷ ds) es = moment-append paths (moment_behind paths m) ds es

pub records-append : (paths : Paths) (m : ℕ) (ds es : List (List ℕ))
    → records_text (entries_from paths m ds)
    ++ records_text (entries_from paths (moment_after paths m ds) es)
    ≡ records_text (entries_from paths m (ds ++ es))
records-append paths m ds es =
    sym (records_append (entries_from paths m ds)
    (entries_from paths (moment_after paths m ds) es))
    ∙ ap records_text (sym (entries-append paths m ds es))

moment_both : (p q : Paths) (t u v : ℕ) (ds es : List (List ℕ)) → q ≡ p → u ≡ moment_after p t ds
    → v ≡ moment_after q u es → v ≡ moment_after p t (ds ++ es)
moment_both p q t u v ds es same at then =
    then ∙ ap (λ (x : Paths). moment_after x u es) same
    ∙ ap (λ (w : ℕ). moment_after p w es) at ∙ sym (moment-append p t ds es)

-- ---- a picture's datagrams put into a writer

-- all of them: it wrote their records
pub writes_picture : {K : Type 0} (held : K → Option (List ℕ)) (took : K → List ℕ)
    (failures : K → ℕ) (names : K → List GName) (p : Values) (stamp : Stamp) (plan : RasterPlan)
    (old new : Writer K)
    → PutsPicture (TakesDatagram held took failures names) p stamp plan old new
    → WritesPicture took p stamp plan old new
writes_picture held took failures names p stamp plan old new puts = record {
  datagrams = puts.datagrams;
  sent = puts.sent;
  written = each_written held took failures names old puts.datagrams new puts.taken;
}

-- a failure that was counted
pub counted_once : (old new : ℕ) → CountsOne old new → Failed old new
counted_once old new one = elim (cases_lt old (2 ^ 64 - 1)) [
  | inl lt ↦ inl (omega (arith, one, lt))
  | inr le ↦ inr (omega (arith, le))
]

-- not all of them: its sink failed
pub fails_picture : {K : Type 0} (held : K → Option (List ℕ)) (took : K → List ℕ)
    (failures : K → ℕ) (names : K → List GName) (p : Values) (stamp : Stamp) (plan : RasterPlan)
    (count : ℕ)
    (old new : Writer K) → old.place.failed ≡ false
    → PutsPart (TakesDatagram held took failures names) (FailsDatagram held took failures names)
    p stamp plan count old new
    → Failed (failures old.sink) (failures new.sink)
fails_picture held took failures names p stamp plan count old new stands puts =
    counted_once (failures old.sink) (failures new.sink)
    (fails_once held took failures names old puts.datagrams count new stands puts.failed)

-- ---- datagrams of pictures

-- one picture more
pub sends_more : (plan : RasterPlan) (s : Sender) (k first next : ℕ) (ps : List Values)
    (ds : List (List ℕ)) (p : Values) (mine : List (List ℕ))
    → SendsTo plan s k ps first ds next → p.format ≡ s.format
    → IsSentPicture mine p (stamp_of s (k + length ps) next) plan.max_octets plan.packets
    → SendsTo plan s k (ps ++ p ∷ []) first (ds ++ mine) (number_behind next plan)
sends_more plan s k first next [] ds p mine to format sent =
    let at : k + zero ≡ k = omega arith in
    record {
      mine = mine;
      others = [];
      format = format;
      picture = subst (λ (n : ℕ). IsSentPicture mine p (stamp_of s k n) plan.max_octets
          plan.packets) to.1
          (subst (λ (i : ℕ). IsSentPicture mine p (stamp_of s i next) plan.max_octets
          plan.packets) at sent);
      rest = (refl, ap (λ (n : ℕ). number_behind n plan) to.1);
      whole = ap (λ (l : List (List ℕ)). l ++ mine) to.0 ∙ sym (append-nil mine);
    }
sends_more plan s k first next (q ∷ qs) ds p mine to format sent =
    let at : k + suc (length qs) ≡ (k + 1) + length qs = omega arith in
    record {
      mine = to.mine;
      others = to.others ++ mine;
      format = to.format;
      picture = to.picture;
      rest = sends_more plan s (k + 1) (number_behind first plan) next qs to.others p mine to.rest
          format
          (subst (λ (i : ℕ). IsSentPicture mine p (stamp_of s i next) plan.max_octets
          plan.packets) at sent);
      whole = ap (λ (l : List (List ℕ)). l ++ mine) to.whole
          ∙ append_assoc to.mine to.others mine;
    }

-- whatever number is next, they are sent
pub sends_from : (plan : RasterPlan) (s : Sender) (k first next : ℕ) (ps : List Values)
    (ds : List (List ℕ)) → SendsTo plan s k ps first ds next → SendsFrom s k ps first ds
sends_from plan s k first next [] ds to = to.0
sends_from plan s k first next (p ∷ ps) ds to = record {
  size = plan.max_octets;
  packets = plan.packets;
  mine = to.mine;
  others = to.others;
  format = to.format;
  picture = to.picture;
  rest = sends_from plan s (k + 1) (number_behind first plan) next ps to.others to.rest;
  whole = to.whole;
}

-- ---- a sender

-- it has begun
pub none_sent : {A K : Type 0} {G : Ghosts K} (took : K → List ℕ) (wanted : Sending)
    (text start : List ℕ) (s : Sends A K G) → s.wanted ≡ wanted → s.next ≡ wanted.first
    → s.writer.place.paths ≡ wanted.paths → s.writer.place.moment ≡ 0
    → s.sent ≡ 0 → took s.writer.sink ≡ start ++ front_text Two text
    → IsPlanOf wanted.max_octets s.plan → HasSent took wanted text start [] s
none_sent took wanted text start s is next paths moment none front plan = record {
  datagrams = [];
  wanted_is = is;
  paths = paths;
  moment = moment;
  plan = plan;
  sent = (refl, next);
  count = none;
  taken = front ∙ ap (λ (l : List ℕ). start ++ l) (sym (append-nil (front_text Two text)));
}

-- a datagram for each packet
all_sent : (p : Values) (stamp : Stamp) (i : ℕ) (ds : List (List ℕ))
    (packets : List (List PacketRun)) → AreSent ds p stamp i packets → length ds ≡ length packets
all_sent p stamp i [] [] sent = refl
all_sent p stamp i (d ∷ ds) [] sent = absurd sent
all_sent p stamp i [] (q ∷ qs) sent = absurd sent
all_sent p stamp i (d ∷ ds) (q ∷ qs) sent =
    ap (λ (n : ℕ). suc n) (all_sent p stamp (i + 1) ds qs sent.1)

count_more : (old packets new : ℕ) (ds es : List (List ℕ)) → old ≡ capped (length ds)
    → length es ≡ packets → new ≡ capped (old + packets) → new ≡ capped (length (ds ++ es))
count_more old packets new ds es is long more =
    let both : length (ds ++ es) ≡ length ds + length es = length-append ds es in
    omega (arith, is, long, more, both)

-- one picture more
pub has_more : {A K : Type 0} {G : Ghosts K} (took : K → List ℕ) (wanted : Sending)
    (text start : List ℕ) (ps : List Values) (p : Values) (k : ℕ) (old new : Sends A K G)
    → length ps ≡ k → HasSent took wanted text start ps old → SendsNext took p k old new
    → HasSent took wanted text start (ps ++ p ∷ []) new
has_more took wanted text start ps p k old new count has sends =
    let w : WritesPicture took p (stamp_of (run_sender old.plan.format old.wanted) k old.next)
    old.plan old.writer new.writer = sends.written in
    let by : Sender = run_sender old.plan.format wanted in
    let at : k ≡ 0 + length ps = omega arith in
    let picture : IsSentPicture w.datagrams p (stamp_of by (0 + length ps) old.next)
    old.plan.max_octets old.plan.packets =
    subst (λ (i : ℕ). IsSentPicture w.datagrams p (stamp_of by i old.next) old.plan.max_octets
    old.plan.packets) at
    (subst (λ (v : Sending). IsSentPicture w.datagrams p
    (stamp_of (run_sender old.plan.format v) k old.next) old.plan.max_octets old.plan.packets)
    has.wanted_is w.sent) in
    record {
      datagrams = has.datagrams ++ w.datagrams;
      wanted_is = sends.wanted ∙ has.wanted_is;
      paths = w.written.paths ∙ has.paths;
      moment = moment_both wanted.paths old.writer.place.paths 0 old.writer.place.moment
          new.writer.place.moment has.datagrams w.datagrams has.paths has.moment w.written.moment;
      plan = subst (λ (x : RasterPlan). IsPlanOf wanted.max_octets x) (sym sends.plan) has.plan;
      sent =
          subst (λ (x : RasterPlan). SendsTo x (run_sender x.format wanted) 0 (ps ++ p ∷ [])
          wanted.first (has.datagrams ++ w.datagrams) new.next) (sym sends.plan)
          (subst (λ (n : ℕ). SendsTo old.plan by 0 (ps ++ p ∷ []) wanted.first
          (has.datagrams ++ w.datagrams) n) (sym sends.next)
          (sends_more old.plan by 0 wanted.first old.next ps has.datagrams p w.datagrams has.sent
          sends.format picture));
      count = count_more old.sent (length old.plan.packets) new.sent has.datagrams w.datagrams
          has.count (all_sent p (stamp_of (run_sender old.plan.format old.wanted) k old.next) 0
          w.datagrams old.plan.packets w.sent.sent) sends.count;
      taken = text_more (took old.writer.sink) (took new.writer.sink) old.writer.place.paths
          old.writer.place.moment has.datagrams w.datagrams has.paths has.moment has.taken
          w.written.taken;
    }
  where
    text_more : (m n : List ℕ) (q : Paths) (u : ℕ) (ds es : List (List ℕ))
        → q ≡ wanted.paths → u ≡ moment_after wanted.paths 0 ds
        → m ≡ start ++ written_text wanted.paths text ds
        → n ≡ m ++ records_text (entries_from q u es)
        → n ≡ start ++ written_text wanted.paths text (ds ++ es)
    text_more m n q u ds es same at first then =
        let p : Paths = wanted.paths in
        let behind : n ≡ m ++ records_text (entries_from p (moment_after p 0 ds) es) =
        subst (λ (v : ℕ). n ≡ m ++ records_text (entries_from p v es)) at
        (subst (λ (x : Paths). n ≡ m ++ records_text (entries_from x u es)) same then) in
        took_both start m n (written_text p text ds)
        (records_text (entries_from p (moment_after p 0 ds) es)) first behind
        ∙ ap (λ (l : List ℕ). start ++ l)
        (append_assoc (front_text Two text) (records_text (entries_from p 0 ds))
        (records_text (entries_from p (moment_after p 0 ds) es))
        ∙ ap (λ (l : List ℕ). front_text Two text ++ l) (records-append p 0 ds es))

-- the first picture was sent into a capture that was begun
pub first_sent : {A K : Type 0} {G : Ghosts K} (took : K → List ℕ) (wanted : Sending)
    (text start : List ℕ) (p : Values) (opened : Writer K)
    (old new : Sends A K G)
    → opened.place ≡ record
    { paths = wanted.paths; text_len = length text; moment = 0; failed = false }
    → took opened.sink ≡ start ++ front_text Two text → old.writer ≡ opened
    → old.wanted ≡ wanted → old.next ≡ wanted.first → old.sent ≡ 0
    → IsPlanOf wanted.max_octets old.plan → SendsNext took p 0 old new
    → HasSent took wanted text start (p ∷ []) new
first_sent {A} {K} {G} took wanted text start p opened old new place front writer is next none
    plan sends =
    has_more took wanted text start [] p 0 old new refl
    (none_sent took wanted text start old is next
    (ap (λ (w : Writer K). w.place.paths) writer ∙ ap (λ (q : WriterPlace). q.paths) place)
    (ap (λ (w : Writer K). w.place.moment) writer ∙ ap (λ (q : WriterPlace). q.moment) place)
    none
    (subst (λ (w : Writer K). took w.sink ≡ start ++ front_text Two text) (sym writer)
    front) plan) sends

-- what was sent is planned
pub has_planned : {A K : Type 0} {G : Ghosts K} (took : K → List ℕ) (wanted : Sending)
    (text start : List ℕ) (ps : List Values) (f : Format) (s : Sends A K G)
    (has : HasSent took wanted text start ps s) → f ≡ s.plan.format
    → ArePlanned wanted f ps has.datagrams
has_planned took wanted text start ps f s has same = record {
  plan = s.plan;
  plan_is = has.plan;
  format_is = sym same;
  next = s.next;
  sent =
      subst (λ (x : Format). SendsTo s.plan (run_sender x wanted) 0 ps wanted.first has.datagrams
      s.next) (sym same) has.sent;
}

-- ---- pictures behind the first

-- Of the sources behind the first, so many but one gave their pictures, which were sent: what the
-- sources were, and are here.
pub record SoFar {S A K : Type 0} {G : Ghosts K} (told : S × S → List ℕ → Type 0)
    (took : K → List ℕ) (k : ℕ) (start here : List S) (old now : Sends A K G) : Type 0 where
  pub pictures : List Values
  pub count : length pictures + 1 ≡ k
  pub say : SayPictures told (drop 1 (take k start)) (drop 1 (take k here)) pictures
  pub sent : SendsMore took 1 pictures old now

pub none_said : {S : Type 0} (told : S × S → List ℕ → Type 0) (xs : List S)
    → SayPictures told (drop 1 (take 1 xs)) (drop 1 (take 1 xs)) []
none_said told [] = tt
none_said told (x ∷ xs) = tt

pub none_so_far : {S A K : Type 0} {G : Ghosts K} (told : S × S → List ℕ → Type 0)
    (took : K → List ℕ) (start : List S) (s : Sends A K G) → SoFar told took 1 start start s s
none_so_far told took start s = record {
  pictures = [];
  count = refl;
  say = none_said told start;
  sent = record {
    sent = λ wanted text from ps count has.
        subst (λ (l : List Values). HasSent took wanted text from l s) (sym (append-nil ps)) has;
  };
}

-- the first of some sources, and those behind it
first_said : {S : Type 0} (told : S × S → List ℕ → Type 0) (xs ys : List S) (p : Values)
    (rest : List Values) → FirstIs (λ s. SaysPicture (told s) p) (zip xs ys)
    → SayPictures told (drop 1 xs) (drop 1 ys) rest → SayPictures told xs ys (p ∷ rest)
first_said told [] ys p rest first say = absurd first
first_said told (x ∷ xs) [] p rest first say = absurd first
first_said told (x ∷ xs) (y ∷ ys) p rest first say = (first, say)

-- one more behind them
said_more : {S : Type 0} (told : S × S → List ℕ → Type 0) (xs ys : List S) (ps : List Values)
    (x y : S) (p : Values) → SayPictures told xs ys ps → SaysPicture (told (x, y)) p
    → SayPictures told (xs ++ x ∷ []) (ys ++ y ∷ []) (ps ++ p ∷ [])
said_more told [] [] [] x y p say one = (one, tt)
said_more told [] [] (q ∷ qs) x y p say one = absurd say
said_more told [] (b ∷ vs) ps x y p say one = absurd say
said_more told (a ∷ us) [] ps x y p say one = absurd say
said_more told (a ∷ us) (b ∷ vs) [] x y p say one = absurd say
said_more told (a ∷ us) (b ∷ vs) (q ∷ qs) x y p say one =
    (say.0, said_more told us vs qs x y p say.1 one)

pub said_long : {S : Type 0} (told : S × S → List ℕ → Type 0) (xs ys : List S) (ps : List Values)
    → SayPictures told xs ys ps → length ps ≡ length xs
said_long told [] [] [] say = refl
said_long told [] [] (q ∷ qs) say = absurd say
said_long told [] (b ∷ vs) ps say = absurd say
said_long told (a ∷ us) [] ps say = absurd say
said_long told (a ∷ us) (b ∷ vs) [] say = absurd say
said_long told (a ∷ us) (b ∷ vs) (q ∷ qs) say =
    ap (λ (n : ℕ). suc n) (said_long told us vs qs say.1)

-- the items behind the first, up to one more
taken_more : {S : Type 0} (xs : List S) (k : ℕ) (x : S) (rest : List S) → 0 < k
    → x ∷ rest ≡ drop k xs → drop 1 (take (k + 1) xs) ≡ drop 1 (take k xs) ++ x ∷ []
taken_more {S} xs k x rest some at =
    let left : length (drop k xs) ≡ suc (length rest) = ap length (sym at) in
    let long : length (take k xs) ≡ k =
    length-take-le k xs (omega (arith, left, length-drop k xs)) in
    ap (drop 1)
    (take-add k 1 xs ∙ ap (λ (l : List S). take k xs ++ take 1 l) (sym at))
    ∙ drop-append-le 1 (take k xs) (x ∷ []) (omega (arith, long, some))

-- the picture that was read of the next source, behind those of the sources before
pub said_next : {S : Type 0} (told : S × S → List ℕ → Type 0) (k : ℕ) (start now here : List S)
    (ps : List Values) (p : Values) → 0 < k → drop k now ≡ drop k start
    → take k here ≡ take k now → FirstIs (λ s. SaysPicture (told s) p) (zip (drop k now) (drop k here))
    → SayPictures told (drop 1 (take k start)) (drop 1 (take k now)) ps
    → SayPictures told (drop 1 (take (k + 1) start)) (drop 1 (take (k + 1) here)) (ps ++ p ∷ [])
said_next {S} told k start now here ps p some behind before first say =
    at (drop k start) (drop k here) refl refl
    (subst (λ (l : List S). FirstIs (λ s. SaysPicture (told s) p) (zip l (drop k here))) behind
    first)
  where
    at : (us vs : List S) → us ≡ drop k start → vs ≡ drop k here
        → FirstIs (λ s. SaysPicture (told s) p) (zip us vs)
        → SayPictures told (drop 1 (take (k + 1) start)) (drop 1 (take (k + 1) here)) (ps ++ p ∷ [])
    at [] vs is same one = absurd one
    at (a ∷ us) [] is same one = absurd one
    at (a ∷ us) (b ∷ vs) is same one =
        subst (λ (l : List S). SayPictures told l (drop 1 (take (k + 1) here)) (ps ++ p ∷ []))
        (sym (taken_more start k a us some is))
        (subst (λ (l : List S). SayPictures told (drop 1 (take k start) ++ a ∷ []) l (ps ++ p ∷ []))
        (sym (taken_more here k b vs some same))
        (said_more told (drop 1 (take k start)) (drop 1 (take k here)) ps a b p
        (subst (λ (l : List S). SayPictures told (drop 1 (take k start)) (drop 1 l) ps)
        (sym before) say) one))

pub more_so_far : {S A K : Type 0} {G : Ghosts K} (told : S × S → List ℕ → Type 0)
    (took : K → List ℕ) (k : ℕ) (start now here : List S) (p : Values) (old mid new : Sends A K G)
    → SoFar told took k start now old mid → drop k now ≡ drop k start → take k here ≡ take k now
    → FirstIs (λ s. SaysPicture (told s) p) (zip (drop k now) (drop k here))
    → SendsNext took p k mid new → SoFar told took (k + 1) start here old new
more_so_far {S} {A} {K} {G} told took k start now here p old mid new so_far behind before first
    sends = record {
      pictures = so_far.pictures ++ p ∷ [];
      count = omega (arith, so_far.count, length-append so_far.pictures (p ∷ []));
      say = said_next told k start now here so_far.pictures p (omega (arith, so_far.count)) behind
          before first so_far.say;
      sent = record {
        sent = λ wanted text from ps count has.
            let sent : HasSent took wanted text from (ps ++ so_far.pictures) mid =
            so_far.sent.sent wanted text from ps count has in
            subst (λ (l : List Values). HasSent took wanted text from l new)
            (append_assoc ps so_far.pictures (p ∷ []))
            (has_more took wanted text from (ps ++ so_far.pictures) p k mid new
            (omega (arith, count, so_far.count, length-append ps so_far.pictures)) sent sends);
      };
    }

pub rest_sent : {S A K : Type 0} {G : Ghosts K} (told : S × S → List ℕ → Type 0)
    (took : K → List ℕ) (k : ℕ) (start here : List S) (old now : Sends A K G)
    → SoFar told took k start here old now → length start ≤ k → length here ≤ k
    → SendsRest told took (drop 1 start) (drop 1 here) old now
rest_sent {S} told took k start here old now so_far all whole = record {
  pictures = so_far.pictures;
  say =
      subst (λ (l : List S). SayPictures told (drop 1 l) (drop 1 here) so_far.pictures)
      (take_all k start all)
      (subst (λ (l : List S). SayPictures told (drop 1 (take k start)) (drop 1 l)
      so_far.pictures) (take_all k here whole) so_far.say);
  sent = so_far.sent;
}

-- ---- a run

-- the first picture, and those behind it
pub first_and_rest_sent : {S A K : Type 0} {G : Ghosts K} (told : S × S → List ℕ → Type 0)
    (took : K → List ℕ) (wanted : Sending) (text : List ℕ) (p : Values)
    (sources later : List S) (start last_took : List ℕ) (count : ℕ) (first last : Sends A K G)
    → length sources < 10000 → IsSize wanted.max_octets p.format
    → HasSent took wanted text start (p ∷ []) first
    → SendsRest told took sources later first last → last_took ≡ took last.writer.sink
    → count ≡ last.sent
    → SendsFirstAndRest told wanted text p sources later start last_took count
first_and_rest_sent {S} {A} {K} {G} told took wanted text p sources later start last_took count
    first last few limits begun rest same counts =
    let ps : List Values = p ∷ rest.pictures in
    let has : HasSent took wanted text start ps last =
    rest.sent.sent wanted text start (p ∷ []) refl begun in
    let format : p.format ≡ last.plan.format = has.sent.format in
    let long : length rest.pictures ≡ length sources =
    said_long told sources later rest.pictures rest.say in
    record {
      rest = rest.pictures;
      say = rest.say;
      taken = record {
        limits = limits;
        datagrams = has.datagrams;
        sent = record {
          few = omega (arith, few, long);
          sent =
              subst (λ (x : Format). SendsFrom (run_sender x wanted) 0 ps wanted.first
              has.datagrams) (sym format)
              (sends_from last.plan (run_sender last.plan.format wanted) 0 wanted.first last.next
              ps has.datagrams has.sent);
        };
        planned = has_planned took wanted text start ps p.format last has format;
        taken = same ∙ has.taken;
        count_is = counts ∙ has.count;
      };
    }

-- those of all sources
pub pictures_sent : {S : Type 0} (told : S × S → List ℕ → Type 0) (wanted : Sending)
    (text : List ℕ) (p : Values) (sources mid later : List S) (old new : List ℕ) (count : ℕ)
    → FirstIs (λ s. SaysPicture (told s) p) (zip sources mid) → drop 1 mid ≡ drop 1 sources
    → take 1 later ≡ take 1 mid
    → SendsFirstAndRest told wanted text p (drop 1 mid) (drop 1 later) old new count
    → SendsPictures told wanted text sources later old new count
pictures_sent {S} told wanted text p sources mid later old new count first behind front sends =
    record {
      pictures = p ∷ sends.rest;
      say =
          first_said told sources later p sends.rest
          (first_again (λ s. SaysPicture (told s) p) sources mid later front first)
          (subst (λ (l : List S). SayPictures told l (drop 1 later) sends.rest) behind sends.say);
      taken = sends.taken;
    }

-- ---- ends

-- no picture
pub no_pictures : {S : Type 0} (told : S × S → List ℕ → Type 0) (wanted : Sending)
    (text : List ℕ) (sources : List S) (took : List ℕ) → length sources ≡ 0
    → SendsPictures told wanted text sources sources took took 0
no_pictures told wanted text [] took none =
    record { pictures = []; say = tt; taken = (refl, refl) }
no_pictures told wanted text (x ∷ xs) took none = absurd (omega arith)

-- of a run that came to its end
pub if_ok_both : {V E : Type 0} (r : Result V E) (P : Type 0) (Q R : V → Type 0)
    → ((v : V) → P → Q v → R v) → OnOk r P → IfOk r Q → IfOk r R
if_ok_both (Ok v) P Q R then p q = then v p q
if_ok_both (Err e) P Q R then p q = tt

pub on_any : {V E : Type 0} (r : Result V E) (P : Type 0) → P → OnOk r P
on_any (Ok v) P p = p
on_any (Err e) P p = tt
