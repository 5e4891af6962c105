-- What was read is a stream, or has a first fault.
use Rattle.std.proofs.Common.{◌≡◌, ℕ, inl, inr, refl, List, [], ◌++◌, Result, Ok, Err, append_assoc}
use Rattle.std.proofs.Common.{append-nil, sym, ap, subst, ◌∙◌, arith}
use Rattle.std.proofs.lemmas.List.{length-append}
use Rattle.std.specs.Prelude.{IfErr, IfOk, OnErr, OnOk}
use Rattle.st_format.specs.declared.format.Format.{Format}
use Rattle.st_format.specs.Fields.{fields_of}
use Rattle.st_format.specs.Given.{GavePart, GaveValue}
use Rattle.st_format.specs.History.{IsRead}
use Rattle.st_format.specs.Picture.{Values}
use Rattle.picture_forms.specs.declared.fault.FormFault.{FormFault}
use Rattle.picture_forms.specs.declared.fault.FormFault.TheVariants as form
use Rattle.picture_forms.specs.Heads.{HasY4mHead, head_walk}
use Rattle.picture_forms.specs.Walks.{GaveFault}
use Rattle.picture_forms.proofs.Begun.{no_frame}
use Rattle.picture_forms.proofs.HeadIs.{head_found}
use Rattle.run_outcome.proofs.Refusals.{if_err_map, of_refusal_map}
use Rattle.run_outcome.specs.Refusing.{OfRefusal}
use Rattle.run_outcome.specs.declared.fault.Fault.{Fault}
use Rattle.run_outcome.specs.declared.refusal.Refusal.{Refusal}
use Rattle.run_outcome.specs.declared.refusal.Refusal.TheVariants as refusal
use Rattle.capture_engines.specs.declared.sender.Sending.{Sending}
use Rattle.convert_engine.specs.Converting.{form_fault}
use Rattle.convert_engine.proofs.Saying.{one_part, two_parts}
use Rattle.stream_sending.specs.Reading.{GaveFrameFault, GaveFrames, GaveMany, IsOpenedRefusal}
use Rattle.stream_sending.specs.Reading.{SendsOpened, SendsOpenedSome}
use Rattle.stream_sending.specs.Sent.{IsFramesRefusal, IsSentStreamFault, SendsFrames}
use Rattle.stream_sending.specs.SentPart.{SendsFirstFrames, SendsStreamUpTo}
use Rattle.stream_sending.specs.Streams.{BeginsFrames, BeginsStream, GaveStream, IsStreamOf}
use Rattle.stream_sending.proofs.FramesRead.{more}
use Rattle.stream_sending.proofs.SentParts.{all_given, whole_taken}

-- the head of what was read, and what is behind it
head_of : (f : Format) (a b c next octets : List ℕ) (ended : Type 0)
    → GaveValue head_walk a b (fields_of f) → c ≡ b ++ next → (q : IsRead a c ended octets)
    → HasY4mHead octets (next ++ q.behind) (fields_of f)
head_of f a b c next octets ended h grown q =
    head_found octets (next ++ q.behind) (fields_of f)
    (ap head_walk (two_parts a b c h.part next octets ended h.grown grown q)
    ∙ h.says (next ++ q.behind))

-- ---- a stream to its end

stream_read : (f : Format) (ps : List Values) (a b c : List ℕ) (ended : Type 0)
    → GaveValue head_walk a b (fields_of f) → GaveFrames f ps b c → ended
    → (octets : List ℕ) → IsRead a c ended octets → IsStreamOf octets f ps
stream_read f ps a b c ended h g over octets q = record {
  frames = g.part ++ q.behind;
  head = head_of f a b c g.part octets ended h g.grown q;
  are =
      subst (λ (l : List ℕ). BeginsFrames f ps l (g.part ++ q.behind)) (q.all over)
      (g.says q.behind);
}

pub frames_sent : (wanted : Sending) (text : List ℕ) (f : Format) (a b c : List ℕ)
    (ended : Type 0) (old new : List ℕ) (count : ℕ) → GaveValue head_walk a b (fields_of f)
    → SendsOpened wanted text f b c ended old new count
    → SendsFrames (IsRead a c ended) wanted text old new count
frames_sent wanted text f a b c ended old new count h sends = record {
  format = f;
  limits = sends.limits;
  pictures = sends.pictures;
  few = sends.few;
  says = stream_read f sends.pictures a b c ended h sends.gave sends.over;
  taken = sends.taken;
}

-- ---- a fault

-- of the head
head_fault : (most : ℕ) (a b : List ℕ) (ended : Type 0) (e : FormFault) (part : List ℕ)
    → b ≡ a ++ part
    → ((behind : List ℕ) → (ended → behind ≡ []) → head_walk (part ++ behind) ≡ Err e)
    → (octets : List ℕ) → IsRead a b ended octets → IsSentStreamFault most octets e
head_fault most a b ended e part grown says octets q =
    inl (ap head_walk (one_part a b part octets ended grown q) ∙ says q.behind q.all)

pub head_refused : (most : ℕ) (a b : List ℕ) (ended : Type 0) (e : FormFault)
    → GaveFault head_walk a b ended e
    → OfRefusal (form_fault e) (IsFramesRefusal most (IsRead a b ended))
head_refused most a b ended form.NoMemory g = tt
head_refused most a b ended form.Device g = tt
head_refused most a b ended form.BadMagic g =
    head_fault most a b ended form.BadMagic g.part g.grown g.says
head_refused most a b ended form.BadHeader g =
    head_fault most a b ended form.BadHeader g.part g.grown g.says
head_refused most a b ended form.UnsupportedForm g =
    head_fault most a b ended form.UnsupportedForm g.part g.grown g.says
head_refused most a b ended form.BadFormat g =
    head_fault most a b ended form.BadFormat g.part g.grown g.says
head_refused most a b ended form.Truncated g =
    head_fault most a b ended form.Truncated g.part g.grown g.says
head_refused most a b ended form.ValueTooLarge g =
    head_fault most a b ended form.ValueTooLarge g.part g.grown g.says

begun : (f : Format) (ps : List Values) (a b c d next octets : List ℕ) (ended : Type 0)
    → GaveValue head_walk a b (fields_of f) → (g : GaveFrames f ps b c) → d ≡ c ++ next
    → (q : IsRead a d ended octets) → BeginsStream octets f ps (next ++ q.behind)
begun f ps a b c d next octets ended h g grown q = record {
  frames = (g.part ++ next) ++ q.behind;
  head = head_of f a b d (g.part ++ next) octets ended h
      (more b c d g.part next g.grown grown) q;
  are =
      subst (λ (l : List ℕ). BeginsFrames f ps (next ++ q.behind) l)
      (sym (append_assoc g.part next q.behind)) (g.says (next ++ q.behind));
}

-- behind the head
opened_refused : (most : ℕ) (f : Format) (a b c : List ℕ) (ended : Type 0)
    → GaveValue head_walk a b (fields_of f) → (r : Refusal) → IsOpenedRefusal most f b c ended r
    → IsFramesRefusal most (IsRead a c ended) r
opened_refused most f a b c ended h (refusal.Form e) wrong =
    let gave : GaveFrameFault f b c ended e = wrong.1.0 in
    λ octets q. inr (
      record {
        format = f;
        before = gave.pictures;
        rest = gave.fault.part ++ q.behind;
        begins = begun f gave.pictures a b gave.between c gave.fault.part octets ended h gave.gave
            gave.fault.grown q;
        some = omega (arith, gave.fault.some, length-append gave.fault.part q.behind);
        fault = gave.fault.says q.behind q.all;
      },
      wrong.0,
      wrong.1.1,
    )
opened_refused most f a b c ended h (refusal.Plan e) wrong = (
  f,
  (λ octets q. (
    q.behind,
    head_of f a b c [] octets ended h (wrong.0 ∙ sym (append-nil b)) q,
  )),
  wrong.1,
)
opened_refused most f a b c ended h refusal.SendPictures wrong =
    let gave : GaveMany 4294967296 f b c = wrong.1 in
    λ octets q. (
      record {
        format = f;
        pictures = gave.pictures;
        rest = q.behind;
        begins = begun f gave.pictures a b c c [] octets ended h gave.gave (sym (append-nil c)) q;
        many = gave.many;
      },
      wrong.0,
    )
opened_refused most f a b c ended h r wrong = absurd wrong.1

pub frames_refused : {V : Type 0} (most : ℕ) (f : Format) (r : Result V Fault) (a b c : List ℕ)
    (ended : Type 0) → GaveValue head_walk a b (fields_of f)
    → IfErr r (λ e. OfRefusal e (IsOpenedRefusal most f b c ended))
    → IfErr r (λ e. OfRefusal e (IsFramesRefusal most (IsRead a c ended)))
frames_refused most f r a b c ended h wrong =
    if_err_map r (λ e is. of_refusal_map e (opened_refused most f a b c ended h) is) wrong

-- ---- what was sent before a fault

-- a head, and frames behind it
stream_given : (f : Format) (ps : List Values) (a b c : List ℕ)
    → GaveValue head_walk a b (fields_of f) → GaveFrames f ps b c → GaveStream f ps a c
stream_given f ps a b c h g = record {
  part = h.part ++ g.part;
  grown = more a b c h.part g.part h.grown g.grown;
  says = λ behind. record {
    frames = g.part ++ behind;
    head =
        head_found ((h.part ++ g.part) ++ behind) (g.part ++ behind) (fields_of f)
        (ap head_walk (append_assoc h.part g.part behind) ∙ h.says (g.part ++ behind));
    are = g.says behind;
  };
}

frames_some : (Fails : Type 0) (wanted : Sending) (text : List ℕ) (f : Format)
    (a b c old new : List ℕ) → GaveValue head_walk a b (fields_of f)
    → SendsOpenedSome Fails wanted text f b c old new
    → SendsFirstFrames Fails wanted text a c old new
frames_some Fails wanted text f a b c old new h some = record {
  format = f;
  pictures = some.pictures;
  unsent = some.unsent;
  unsent_is = some.unsent_is;
  between = some.gave.between;
  gave = stream_given f (some.pictures ++ some.unsent) a b some.gave.between h some.gave.gave;
  left = some.gave.left;
  taken = some.taken;
}

-- all of it, where what is behind failed
frames_all : (Fails : Type 0) (wanted : Sending) (text : List ℕ) (f : Format) (a b : List ℕ)
    (ended : Type 0) (old new : List ℕ) (count : ℕ)
    → SendsOpened wanted text f a b ended old new count
    → SendsOpenedSome Fails wanted text f a b old new
frames_all Fails wanted text f a b ended old new count sends = record {
  pictures = sends.pictures;
  unsent = [];
  unsent_is = inl (refl, omega (arith, sends.few));
  gave = all_given f sends.pictures a b b sends.gave (no_frame f b);
  taken = whole_taken Fails wanted text f sends.pictures old new count sends.taken;
}

-- ---- of a device that was lent, and came back as it then was

module _ {T : Type 0} (gave : T → List ℕ) (ended : T → Type 0) (old last new : T) where
  pub head_back : (most : ℕ) (e : FormFault) (f : Fault) → f ≡ form_fault e → new ≡ last
      → GaveFault head_walk (gave old) (gave last) (ended last) e
      → OfRefusal f (IsFramesRefusal most (IsRead (gave old) (gave new) (ended new)))
  head_back most e f is same g =
      subst (λ (t : T). OfRefusal f (IsFramesRefusal most (IsRead (gave old) (gave t) (ended t))))
      (sym same)
      (subst
      (λ (h : Fault). OfRefusal h (IsFramesRefusal most (IsRead (gave old) (gave last) (ended last))))
      (sym is) (head_refused most (gave old) (gave last) (ended last) e g))

  pub sent_back : (mid : T) (wanted : Sending) (text : List ℕ) (f : Format)
      (took took' : List ℕ) (r : Result ℕ Fault) → new ≡ last
      → GaveValue head_walk (gave old) (gave mid) (fields_of f)
      → IfOk r (λ n. SendsOpened wanted text f (gave mid) (gave last) (ended last) took took' n)
      → IfOk r (λ n. SendsFrames (IsRead (gave old) (gave new) (ended new)) wanted text took took'
      n)
  sent_back mid wanted text f took took' (Ok n) same h sends =
      subst
      (λ (t : T). SendsFrames (IsRead (gave old) (gave t) (ended t)) wanted text took took' n)
      (sym same)
      (frames_sent wanted text f (gave old) (gave mid) (gave last) (ended last) took took' n h
      sends)
  sent_back mid wanted text f took took' (Err e) same h sends = tt

  pub refused_back : (mid : T) (most : ℕ) (f : Format) (r : Result ℕ Fault) → new ≡ last
      → GaveValue head_walk (gave old) (gave mid) (fields_of f)
      → IfErr r (λ e. OfRefusal e (IsOpenedRefusal most f (gave mid) (gave last) (ended last)))
      → IfErr r (λ e. OfRefusal e
      (IsFramesRefusal most (IsRead (gave old) (gave new) (ended new))))
  refused_back mid most f r same h wrong =
      subst
      (λ (t : T). IfErr r (λ e. OfRefusal e
      (IsFramesRefusal most (IsRead (gave old) (gave t) (ended t))))) (sym same)
      (frames_refused most f r (gave old) (gave mid) (gave last) (ended last) h wrong)

  pub ended_back : {V : Type 0} {P : V → Type 0} (r : Result V Fault) → new ≡ last
      → ((v : V) → P v → ended last) → IfOk r P → OnOk r (ended new)
  ended_back (Ok v) same then p = subst (λ (t : T). ended t) (sym same) (then v p)
  ended_back (Err e) same then p = tt

  pub head_left : (Fails : Type 0) (wanted : Sending) (text took : List ℕ) → new ≡ last
      → GavePart head_walk (gave old) (gave last)
      → SendsStreamUpTo Fails wanted text (gave old) (gave new) took took
  head_left Fails wanted text took same left =
      inl (refl, subst (λ (t : T). GavePart head_walk (gave old) (gave t)) (sym same) left)

  pub part_back : (mid : T) (Fails : Type 0) (wanted : Sending) (text : List ℕ) (f : Format)
      (took took' : List ℕ) (r : Result ℕ Fault) → new ≡ last
      → GaveValue head_walk (gave old) (gave mid) (fields_of f)
      → IfOk r (λ n. SendsOpened wanted text f (gave mid) (gave last) (ended last) took took' n)
      → OnErr r (SendsOpenedSome Fails wanted text f (gave mid) (gave last) took took')
      → SendsStreamUpTo Fails wanted text (gave old) (gave new) took took'
  part_back mid Fails wanted text f took took' r same h sends some =
      inr (subst
      (λ (t : T). SendsFirstFrames Fails wanted text (gave old) (gave t) took took') (sym same)
      (frames_some Fails wanted text f (gave old) (gave mid) (gave last) took took' h
      (by r sends some)))
    where
      by : (r : Result ℕ Fault)
          → IfOk r (λ n. SendsOpened wanted text f (gave mid) (gave last) (ended last) took took' n)
          → OnErr r (SendsOpenedSome Fails wanted text f (gave mid) (gave last) took took')
          → SendsOpenedSome Fails wanted text f (gave mid) (gave last) took took'
      by (Ok n) sends some =
          frames_all Fails wanted text f (gave mid) (gave last) (ended last) took took' n sends
      by (Err e) sends some = some
