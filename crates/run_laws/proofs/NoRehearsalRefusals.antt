-- Against a script that was rehearsed to its end no refusal speaks.
use Rattle.std.proofs.Common.{◌≡◌, ℕ, suc, ◌<◌, ◌≤◌, ◌+◌, ◌*◌, ◌%◌, ◌^◌, Bool, true, false, List}
use Rattle.std.proofs.Common.{[], ◌∷◌, ◌++◌, codes, length, take, All, inl, inr}
use Rattle.std.proofs.Common.{sym, ap, ◌∙◌, subst, arith, length-append}
use Rattle.std.proofs.lemmas.Option.{slice_get_within}
use Rattle.st_format.specs.Member.{IsMember}
use Rattle.st_format.specs.Picture.{Values}
use Rattle.st_format.specs.declared.format.Format.{Format}
use Rattle.st_format.specs.Fields.{fields_of}
use Rattle.packet_plan.specs.declared.plan.PlanFault.{PlanFault}
use Rattle.packet_plan.specs.declared.plan.PlanFault.TheVariants as plan
use Rattle.packet_plan.specs.declared.run.PacketRun.{PacketRun}
use Rattle.packet_plan.specs.Plan.{IsFullPlan, IsSize, RasterPlan}
use Rattle.packet_plan.specs.Sender.{Sender, stamp_of}
use Rattle.packet_plan.specs.Text.{datagram_texts}
use Rattle.packet_plan.proofs.Taken.{length-texts}
use Rattle.path_merge.specs.Admitted.{AreAdmittedTo, IsAdmitted, IsFirstBad, send_count}
use Rattle.path_merge.specs.Played.{ArePictures, IsReceiverCount}
use Rattle.path_merge.specs.Reached.{Scene}
use Rattle.path_merge.specs.Sent.{sender_of, texts_from}
use Rattle.path_merge.specs.Stays.{window_after}
use Rattle.path_merge.specs.declared.schedule.event.Event.{Event}
use Rattle.path_merge.specs.declared.schedule.event.Event.TheVariants.{Send, Arrive, Slide, Merge}
use Rattle.path_merge.specs.declared.schedule.played.Played.{Played}
use Rattle.path_receiver.specs.Opening.{IsWindow}
use Rattle.path_receiver.specs.declared.play_fault.PlayFault.{PlayFault}
use Rattle.path_receiver.specs.declared.play_fault.PlayFault.TheVariants as play
use Rattle.run_outcome.specs.declared.fault.Fault.{Fault}
use Rattle.run_outcome.specs.declared.fault.Fault.TheVariants as fault
use Rattle.run_outcome.specs.declared.refusal.Refusal.{Refusal}
use Rattle.run_outcome.specs.declared.refusal.Refusal.TheVariants as why
use Rattle.run_outcome.specs.declared.script_line.LineFault.TheVariants as line
use Rattle.script_engines.specs.FirstLines.{IsFaultyNext, ReadsOne}
use Rattle.script_engines.specs.Reading.{DoesScript, IsRefusedFor}
use Rattle.script_engines.specs.Rehearsal.{Heading, IsFaultyBody, IsFaultyFrom}
use Rattle.script_engines.specs.Rehearsal.{IsFaultyFromMax, IsFaultyFromStamp, IsFaultyFromWindow}
use Rattle.script_engines.specs.Rehearsal.{IsFaultyHead, IsFaultyRehearsal, IsMaxLine, ReadsHead}
use Rattle.script_engines.specs.Rehearsal.{Said, SaysCount, SaysMax, SaysRehearsal, SaysStamp}
use Rattle.script_engines.specs.Rehearsal.{SaysWindow}
use Rattle.script_engines.specs.RehearsalForms.{IsCountLine, IsStampLine, IsWindowLine}
use Rattle.script_engines.specs.Rehearsed.{IsRefusedScript, IsRehearsalPlan, IsUnplanned}
use Rattle.script_engines.specs.Rehearsed.{IsUnplayed, IsUnplayedBy, PlaysSaid, Rehearses, scene_by}
use Rattle.script_engines.specs.Script.{line_behind, numbered_lines}
use Rattle.script_engines.proofs.LinesOnce.{one_format}
use Rattle.run_laws.proofs.RehearsedOnce.{all_of_format, not_faulty_body, one_body}
use Rattle.run_laws.proofs.RehearsedOnce.{one_count_line, one_number_line, one_window_line}
use Rattle.run_laws.proofs.ScriptOnce.{Numbered, not_format, not_one, one_script, same_next}

-- ---- the head

-- a line that says something of a form is of the form
says_some : {X : Type 0} (Is : List ℕ → X → Type 0) (x : X) (lines behind : Numbered)
    → ReadsOne (λ text. Is text x) lines behind
    → ReadsOne (λ text. (y : X) × Is text y) lines behind
says_some Is x lines behind r =
    record { number = r.number; text = r.text; next = r.next; is = (x, r.is) }

one_left : (form other : List ℕ → Type 0) (lines behind left : Numbered)
    → ReadsOne form lines behind → ReadsOne other lines left → left ≡ behind
one_left form other lines behind left p q =
    (same_next lines left behind q.number p.number q.text p.text q.next p.next).1

not_from : (form : List ℕ → Type 0) (Later : Numbered → ℕ → Fault → Type 0)
    (lines behind : Numbered) (end : ℕ) (e : Fault) → ReadsOne form lines behind
    → (Later behind end e → ⊥) → IsFaultyFrom form Later lines end e → ⊥
not_from form Later lines behind end e r none (inl bad) = not_one form lines behind end e r bad
not_from form Later lines behind end e r none (inr bad) =
    none (subst (λ (l : Numbered). Later l end e)
    (one_left form form lines behind bad.0 r bad.1) bad.2)

module _ (lines behind : Numbered) (h : Heading) (head : ReadsHead lines behind h) (end : ℕ)
    (e : Fault)
  where
    not_count : IsFaultyNext SaysCount head.from_count end e → ⊥
    not_count =
        not_one SaysCount head.from_count behind end e
        (says_some IsCountLine h.receivers head.from_count behind head.receivers)

    not_window : IsFaultyFromWindow head.from_window end e → ⊥
    not_window =
        not_from SaysWindow (IsFaultyNext SaysCount) head.from_window head.from_count end e
        (says_some IsWindowLine h.window head.from_window head.from_count head.window) not_count

    not_max : IsFaultyFromMax head.from_max end e → ⊥
    not_max =
        not_from SaysMax IsFaultyFromWindow head.from_max head.from_window end e
        (says_some IsMaxLine h.max_octets head.from_max head.from_window head.max_octets) not_window

    not_stamp : IsFaultyFromStamp head.from_stamp end e → ⊥
    not_stamp =
        not_from SaysStamp IsFaultyFromMax head.from_stamp head.from_max end e
        (says_some IsStampLine h.stamp head.from_stamp head.from_max head.stamp) not_max

    not_head : IsFaultyHead lines end e → ⊥
    not_head (inl bad) =
        not_format lines head.from_stamp (fields_of h.format) end e head.format bad
    not_head (inr bad) =
        let read = bad.2 in
        let left =
        same_next lines bad.0 head.from_stamp read.number head.format.number read.text
        head.format.text read.next head.format.next in
        not_stamp (subst (λ (l : Numbered). IsFaultyFromStamp l end e) left.1 bad.3)

-- What two headings of the same lines have in common, as far as it is asked for.
record ShareHead (lines behind others : Numbered) (h g : Heading) : Type 0 where
  format : h.format ≡ g.format
  max_octets : h.max_octets ≡ g.max_octets
  window : h.window ≡ g.window
  receivers : h.receivers ≡ g.receivers
  left : behind ≡ others

-- the next line and the rest of lines that are the same
same_one : (form other : List ℕ → Type 0) (lines behind also left : Numbered)
    (p : ReadsOne form lines behind) (q : ReadsOne other also left) → lines ≡ also
    → (p.text ≡ q.text) × (behind ≡ left)
same_one form other lines behind also left p q same =
    same_next lines behind left p.number q.number p.text q.text p.next (same ∙ q.next)

heads_alike : (lines behind others : Numbered) (h g : Heading) → ReadsHead lines behind h
    → ReadsHead lines others g → ShareHead lines behind others h g
heads_alike lines behind others h g p q =
    let a = p.format in
    let b = q.format in
    let formats = same_next lines p.from_stamp q.from_stamp a.number b.number a.text b.text a.next
    b.next in
    let stamps = same_one (λ text. IsStampLine text h.stamp) (λ text. IsStampLine text g.stamp)
    p.from_stamp p.from_max q.from_stamp q.from_max p.stamp q.stamp formats.1 in
    let sizes = same_one (λ text. IsMaxLine text h.max_octets) (λ text. IsMaxLine text g.max_octets)
    p.from_max p.from_window q.from_max q.from_window p.max_octets q.max_octets stamps.1 in
    let windows = same_one (λ text. IsWindowLine text h.window) (λ text. IsWindowLine text g.window)
    p.from_window p.from_count q.from_window q.from_count p.window q.window sizes.1 in
    let counts =
    same_one (λ text. IsCountLine text h.receivers) (λ text. IsCountLine text g.receivers)
    p.from_count behind q.from_count others p.receivers q.receivers windows.1 in
    record {
      format = one_format lines p.from_stamp lines q.from_stamp h.format g.format a b formats.0;
      max_octets =
          one_number_line (codes "max ") p.max_octets.text q.max_octets.text h.max_octets
          g.max_octets sizes.0 p.max_octets.is q.max_octets.is;
      window =
          one_window_line p.window.text q.window.text h.window g.window windows.0 p.window.is
          q.window.is;
      receivers =
          one_count_line p.receivers.text q.receivers.text h.receivers g.receivers counts.0
          p.receivers.is q.receivers.is;
      left = counts.1;
    }

-- ---- the scene

-- how many datagrams pictures have by packets
texts_length : (s : Sender) (packets : List (List PacketRun)) (k first : ℕ) (ps : List Values)
    → length (texts_from s packets k first ps) ≡ length ps * length packets
texts_length s packets k first [] =
    let none : 0 ≡ 0 * length packets = omega arith in none
texts_length s packets k first (p ∷ ps) =
    let next : ℕ = (first + length packets) % 2 ^ 32 in
    let mine : List (List ℕ) = datagram_texts p (stamp_of s k first) 0 packets in
    let others : List (List ℕ) = texts_from s packets (k + 1) next ps in
    let here : length mine ≡ length packets = length-texts p (stamp_of s k first) 0 packets in
    let rest : length others ≡ length ps * length packets =
    texts_length s packets (k + 1) next ps in
    let both : length (mine ++ others) ≡ length mine + length others =
    length-append mine others in
    let sum : length mine + length others ≡ suc (length ps) * length packets =
    omega (arith, here, rest) in
    both ∙ sum

-- full plans of one format and one greatest size have as many packets
as_many : (p q : List (List PacketRun)) (f g : Format) (m n : ℕ) → f ≡ g → m ≡ n
    → IsFullPlan p f m → IsFullPlan q g n → length p ≡ length q
as_many p q f g m n formats sizes a b =
    let c : IsFullPlan q f m =
    subst (λ (k : ℕ). IsFullPlan q f k) (sym sizes)
    (subst (λ (x : Format). IsFullPlan q x n) (sym formats) b) in
    let forth : length p ≤ length q = a.fewest q c.plan in
    let back : length q ≤ length p = c.fewest p a.plan in
    omega (arith, forth, back)

-- scenes in which the same events are admitted
record AdmitTheSame (s t : Scene) : Type 0 where
  window : s.opening.window ≡ t.opening.window
  receivers : s.receivers ≡ t.receivers
  sent : length s.sent ≡ length t.sent

admitted_too : (event : Event) (s t : Scene) (before : List Event) → AdmitTheSame s t
    → IsAdmitted event s before → IsAdmitted event t before
admitted_too Send s t before same is =
    subst (λ (n : ℕ). send_count before < n) same.sent is
admitted_too (Arrive to path number) s t before same is = record {
  receiver = subst (λ (n : ℕ). to < n) same.receivers is.receiver;
  sent = is.sent;
}
admitted_too (Slide at next) s t before same is = record {
  receiver = subst (λ (n : ℕ). at < n) same.receivers is.receiver;
  new = λ there. is.new (subst (λ (w : List ℕ). IsMember next (window_after w at before))
      (sym same.window) there);
}
admitted_too (Merge into from) s t before same is = record {
  receiver = subst (λ (n : ℕ). into < n) same.receivers is.receiver;
  other = subst (λ (n : ℕ). from < n) same.receivers is.other;
  two = is.two;
  alike = subst (λ (w : List ℕ). window_after w into before ≡ window_after w from before)
      same.window is.alike;
}

none_bad : (place : ℕ) (s t : Scene) (events : List Event) → AdmitTheSame s t
    → AreAdmittedTo events s (length events) → IsFirstBad place t events → ⊥
none_bad place s t events same all bad =
    bad.bad (admitted_too bad.event s t (take place events) same
    (all place bad.event (slice_get_within events place bad.event bad.there) bad.there))

-- ---- what is played

module _ {A : Type 0} (lines : Numbered) (said : Said) (says : SaysRehearsal lines said)
    (played : Played A) (plays : PlaysSaid played said) (other : Said)
    (also : SaysRehearsal lines other)
  where
    alike : ShareHead lines says.behind also.behind said.heading other.heading
    alike = heads_alike lines says.behind also.behind said.heading other.heading says.head also.head

    bodies : (length said.pictures ≡ length other.pictures) × (said.events ≡ other.events)
    bodies =
        one_body said.heading.format other.heading.format says.body.of_pictures
        says.body.of_events also.body.of_pictures also.body.of_events said.pictures other.pictures
        said.events other.events (sym says.body.whole ∙ alike.left ∙ also.body.whole)
        says.body.pictures_are says.body.events_are also.body.pictures_are also.body.events_are

    limits : IsSize other.heading.max_octets other.heading.format
    limits =
        subst (λ (n : ℕ). IsSize n other.heading.format)
        (plays.plan_is.max_is ∙ alike.max_octets)
        (subst (λ (f : Format). IsSize plays.plan.max_octets f)
        (plays.plan_is.format_is ∙ alike.format) plays.plan_is.full.limits)

    not_unplanned : (why : PlanFault) → IsUnplanned why other.heading → ⊥
    not_unplanned plan.NoMemory wrong = absurd wrong
    not_unplanned plan.BadPacketSize (inl few) = absurd (omega (arith, limits.least, few))
    not_unplanned plan.BadPacketSize (inr many) = absurd (omega (arith, limits.most, many))

    window : IsWindow other.heading.window
    window = subst (λ (w : List ℕ). IsWindow w) alike.window plays.window

    receivers : IsReceiverCount other.heading.receivers
    receivers = subst (λ (n : ℕ). IsReceiverCount n) alike.receivers plays.receivers

    module _ (by : RasterPlan) (by_is : IsRehearsalPlan by other.heading) where
      pictures : ArePictures other.pictures by.format
      pictures = record {
        few = subst (λ (n : ℕ). n ≤ 10000) bodies.0 plays.pictures.few;
        of_format = subst (λ (f : Format). All (λ (p : Values). p.format ≡ f) other.pictures)
            (sym by_is.format_is)
            (all_of_format other.heading.format also.body.of_pictures other.pictures
            also.body.pictures_are);
      }

      packets : length plays.plan.packets ≡ length by.packets
      packets =
          as_many plays.plan.packets by.packets plays.plan.format by.format plays.plan.max_octets
          by.max_octets (plays.plan_is.format_is ∙ alike.format ∙ sym by_is.format_is)
          (plays.plan_is.max_is ∙ alike.max_octets ∙ sym by_is.max_is) plays.plan_is.full by_is.full

      sent : length (scene_by plays.plan said).sent ≡ length (scene_by by other).sent
      sent =
          texts_length (sender_of plays.plan said.heading.stamp) plays.plan.packets 0
          said.heading.stamp.first said.pictures
          ∙ ap (λ (n : ℕ). n * length plays.plan.packets) bodies.0
          ∙ ap (λ (n : ℕ). length other.pictures * n) packets
          ∙ sym (texts_length (sender_of by other.heading.stamp) by.packets 0
          other.heading.stamp.first other.pictures)

      admit : AdmitTheSame (scene_by plays.plan said) (scene_by by other)
      admit = record { window = alike.window; receivers = alike.receivers; sent = sent }

      not_unplayed_by : (why : PlayFault) → IsUnplayedBy why by other → ⊥
      not_unplayed_by play.NoMemory wrong = absurd wrong
      not_unplayed_by (play.BadEvent place) wrong =
          none_bad place (scene_by plays.plan said) (scene_by by other) other.events admit
          (subst (λ (l : List Event). AreAdmittedTo l (scene_by plays.plan said) (length l))
          bodies.1 plays.played_is.admitted) wrong
      not_unplayed_by play.BadWindow wrong = wrong window.size
      not_unplayed_by play.DoubleTimestamp wrong = wrong.1 window.different
      not_unplayed_by play.BadPictures wrong = wrong.1 pictures
      not_unplayed_by play.BadReceivers wrong = wrong.2 receivers

    not_unplayed : (r : Refusal) → IsUnplayed (fault.Refused r) other → ⊥
    not_unplayed (why.Script number (line.Plan f)) wrong = not_unplanned f wrong
    not_unplayed (why.Script number (line.Play f)) wrong = not_unplayed_by wrong.0 wrong.1 f wrong.2
    not_unplayed r wrong = absurd wrong

-- ---- a whole script

not_rehearsal : (lines : Numbered) (said : Said) (end : ℕ) (e : Fault) → SaysRehearsal lines said
    → IsFaultyRehearsal lines false end e → ⊥
not_rehearsal lines said end e says (inl bad) =
    not_head lines says.behind said.heading says.head end e bad
not_rehearsal lines said end e says (inr (inl bad)) =
    let same =
    heads_alike lines says.behind bad.behind said.heading bad.heading says.head bad.head in
    not_faulty_body said.heading.format says.behind said.pictures said.events e says.body
    (subst (λ (l : Numbered). IsFaultyBody said.heading.format l e) (sym same.left)
    (subst (λ (f : Format). IsFaultyBody f bad.behind e) (sym same.format) bad.body))
not_rehearsal lines said end e says (inr (inr bad)) =
    let clash : false ≡ true = bad.cut in absurd cc

not_refused : {A : Type 0} (script old new : List ℕ) (r : Refusal) → Rehearses A script old new
    → IsRefusedScript script false (fault.Refused r) → ⊥
not_refused script old new r is (inl bad) =
    not_rehearsal (numbered_lines 0 script) is.said (line_behind 0 script) (fault.Refused r) is.says
    bad
not_refused script old new r is (inr bad) =
    not_unplayed (numbered_lines 0 script) is.said is.says is.played is.plays bad.said bad.says r
    bad.unplayed

pub rehearse_not : (A : Type 0) {S : Type 0} (gave : S → List ℕ) (ended : S → Type 0) (source later : S)
    (old new : List ℕ) (r : Refusal)
    → DoesScript (Rehearses A) (gave source) (gave later) (ended later) old new
    → IsRefusedFor IsRefusedScript (gave source) (gave later) (ended later) r → ⊥
rehearse_not A gave ended source later old new r does wrong =
    let one =
    one_script (gave source) (gave later) (ended later) does.0 wrong.0 wrong.1 does.1 wrong.2 in
    not_refused does.0 old new r does.2
    (subst (λ (script : List ℕ). IsRefusedScript script false (fault.Refused r)) one.1
    (subst (λ (is_cut : Bool). IsRefusedScript wrong.0 is_cut (fault.Refused r)) one.0 wrong.3))
