-- Against what a run of `process` read that ended well no refusal speaks.
use Rattle.std.proofs.Common.{◌≡◌, ℕ, ◌<◌, zero, suc, Bool, true, false, List, [], ◌∷◌}
use Rattle.std.proofs.Common.{length, map, drop, get_or, Option, None, Some, inl, inr}
use Rattle.std.proofs.Common.{refl, sym, ap, ◌∙◌, subst, arith}
use Rattle.std.specs.Prelude.{if◌then◌else◌, ◌==◌}
use Rattle.std.proofs.lemmas.Bool.{eqb-true}
use Rattle.st_format.specs.Device.{AreOctets}
use Rattle.st_format.specs.Member.{IsMember}
use Rattle.st_format.specs.Picture.{Values}
use Rattle.st_format.specs.Raster.{Raster}
use Rattle.st_format.specs.declared.format.Format.{Format}
use Rattle.st_format.proofs.Histories.{since_is}
use Rattle.key_mix.specs.Sending.{IsSendable}
use Rattle.key_mix.specs.declared.Job.{Job}
use Rattle.packet_plan.specs.Plan.{IsSize}
use Rattle.packet_plan.specs.declared.plan.PlanFault.TheVariants as plan
use Rattle.path_receiver.specs.Frames.{State, frame_at}
use Rattle.path_receiver.specs.Opening.{Opening}
use Rattle.media_file.specs.declared.fault.FileFault.{FileFault}
use Rattle.receiver_file.specs.Saved.{IsReceiverFile, kept_of}
use Rattle.receiver_file.specs.StateReading.{state_walk}
use Rattle.receiver_file.proofs.Again.{kept_in, state_again}
use Rattle.receiver_file.proofs.Savable.{writable_saved}
use Rattle.receiver_file.proofs.SameKept.{same_held, same_opening}
use Rattle.run_outcome.specs.Moments.{WasRead}
use Rattle.run_outcome.specs.TextRefusals.{IsCaptureText, IsSdpRefusal, IsTextOfRun, IsTextRefusal}
use Rattle.run_outcome.specs.TextRefusals.{SaysText}
use Rattle.run_outcome.specs.declared.refusal.Refusal.{Refusal}
use Rattle.run_outcome.specs.declared.refusal.Refusal.TheVariants as why
use Rattle.receiver_engines.specs.Inputs.{AreFramesAt, IsFill, IsHeldFor, raster_formats}
use Rattle.receiver_engines.specs.JobText.{IsJobText}
use Rattle.receiver_engines.specs.Merging.{IsAgain, SaysReceiver}
use Rattle.receiver_engines.specs.Processing.{SendsSaidFiles}
use Rattle.receiver_engines.specs.Reading.{SayReceivers, SaysHeld}
use Rattle.receiver_engines.specs.Refused.{IsHeldRefusal, IsJobOrPlanRefusal, IsJobRefusal}
use Rattle.receiver_engines.specs.Refused.{IsReceiversRefusal, IsRefusalOfRead, IsRunRefusal}
use Rattle.receiver_engines.specs.Refused.{IsSaidRunRefusal, LacksFrame}
use Rattle.receiver_engines.specs.declared.processing.Processing.{Processing}
use Rattle.run_laws.specs.Received.{read_of}
use Rattle.run_laws.proofs.NoRefusals.{no_picture_fault, not_state, one_format}
use Rattle.run_laws.proofs.NoTextFault.{no_text_fault}
use Rattle.run_laws.proofs.OneJob.{one_job, one_job_format}
use Rattle.run_laws.proofs.Receiving.{was_read}

-- ---- the frames of files

-- a file is that of one receiver, refusals aside
pub one_receiver : (octets : List ℕ) (r s : State) → IsReceiverFile octets r → IsReceiverFile octets s
    → IsAgain r s
one_receiver octets r s a b =
    let kept : kept_of s ≡ kept_of r =
    ap (kept_in (kept_of r))
    (sym (state_again (kept_of s) (writable_saved s b.writable))
    ∙ ap state_walk (sym b.whole ∙ a.whole)
    ∙ state_again (kept_of r) (writable_saved r a.writable)) in
    record {
      opening = same_opening s r b.writable.receiver a.writable.receiver kept;
      frames = same_held s r b.writable.receiver a.writable.receiver kept;
    }

-- a receiver's frame of a timestamp, where its window has it
abbrev pub frame_for : ℕ → State → Option Raster
frame_for ts r = frame_at r.opening.window r.frames ts

pub same_frame : (ts : ℕ) (r s : State) → IsAgain r s → frame_for ts s ≡ frame_for ts r
same_frame ts r s again =
    ap (λ (o : Opening). frame_at o.window s.frames ts) again.opening
    ∙ ap (λ (qs : List Raster). frame_at r.opening.window qs ts) again.frames

no_frame : (q : Raster) → (let none : Option Raster = None in none ≡ Some q) → ⊥
no_frame q e = absurd cc

abbrev chosen : Raster → Option Raster → Bool → Option Raster
chosen r rest b = if b then Some r else rest

frame_by : (t ts : ℕ) (w : List ℕ) (r q : Raster) (rest : Option Raster) (b : Bool)
    → (ts == t) ≡ b → chosen r rest b ≡ Some q → (rest ≡ Some q → IsMember ts w)
    → IsMember ts (t ∷ w)
frame_by t ts w r q rest true same e later = inl (eqb-true ts t same)
frame_by t ts w r q rest false same e later = inr (later e)

-- where there is a frame of a timestamp, the window has it
pub frame_inside : (ts : ℕ) (w : List ℕ) (rs : List Raster) (q : Raster) → frame_at w rs ts ≡ Some q
    → IsMember ts w
frame_inside ts [] rs q e = absurd (no_frame q e)
frame_inside ts (t ∷ w) [] q e = absurd (no_frame q e)
frame_inside ts (t ∷ w) (r ∷ rs) q e =
    frame_by t ts w r q (frame_at w rs ts) (ts == t) refl e
    (λ f. frame_inside ts w rs q f)

abbrev Found : Type 0
Found = Option Raster

abbrev pub found : Raster → Found
found q = Some q

abbrev first_of : List Found → Found
first_of fs = get_or fs 0 None

pub same_raster : (q p : Raster) → found q ≡ found p → q ≡ p
same_raster q p h = cc

-- Lists of frames that are the same where they are found are the same.
pub same_found : (qs ps : List Raster) → map found qs ≡ map found ps → qs ≡ ps
same_found [] [] e = refl
same_found [] (p ∷ ps) e =
    let n : 0 ≡ suc (length (map found ps)) = ap (λ (l : List Found). length l) e in
    absurd (omega (arith, n))
same_found (q ∷ qs) [] e =
    let n : suc (length (map found qs)) ≡ 0 = ap (λ (l : List Found). length l) e in
    absurd (omega (arith, n))
same_found (q ∷ qs) (p ∷ ps) e =
    let first : found q ≡ found p = ap first_of e in
    let same : q ≡ p = same_raster q p first in
    ap (λ (r : Raster). r ∷ qs) same
    ∙ ap (λ (rs : List Raster). p ∷ rs)
    (same_found qs ps (ap (λ (l : List Found). drop 1 l) e))

-- each receiver of some that have frames has one
has_frame : (ts : ℕ) (rs : List State) (qs : List Raster) (r : State)
    → map (frame_for ts) rs ≡ map found qs → IsMember r rs
    → (q : Raster) × (frame_for ts r ≡ found q)
has_frame ts [] qs r e there = absurd there
has_frame ts (s ∷ rs) [] r e there =
    let n : suc (length (map (frame_for ts) rs)) ≡ 0 = ap (λ (l : List Found). length l) e in
    absurd (omega (arith, n))
has_frame ts (s ∷ rs) (q ∷ qs) r e (inl same) =
    let first : frame_for ts s ≡ found q = ap first_of e in
    (q, ap (frame_for ts) same ∙ first)
has_frame ts (s ∷ rs) (q ∷ qs) r e (inr there) =
    has_frame ts rs qs r (ap (λ (l : List Found). drop 1 l) e) there

-- ---- the job

-- nothing speaks against a job that can be sent, nor against its packets' size
not_sendable : (r : Refusal) (j : Job) (size : ℕ) (fs : List Format) → IsSendable j fs size
    → IsJobOrPlanRefusal j size r fs → ⊥
not_sendable (why.Job e) j size fs is wrong = is.sound e wrong.is
not_sendable (why.Plan plan.BadPacketSize) j size fs is wrong =
    wrong.none (subst (IsSize size) (one_job_format is.format wrong.format j fs is.is wrong.is)
    is.fits)
not_sendable r j size fs is wrong = absurd wrong

-- ---- a run

-- the receiver of the file at a place
record ReadAt {S : Type 0} (told : S → List ℕ → Type 0) (states : List S) (at : S) : Type 0 where
  receiver : State
  says : SaysReceiver (told at) receiver
  there : IsMember at states

read_at : {S : Type 0} (told : S → List ℕ → Type 0) (states : List S) (rs : List State) (place : ℕ)
    (at : S) → SayReceivers told states rs → place < length states → get_or states place at ≡ at
    → ReadAt told states at
read_at {S} told [] rs place at say within is = absurd (omega (arith, within))
read_at {S} told (s ∷ ss) [] place at say within is = absurd say
read_at {S} told (s ∷ ss) (r ∷ rs) zero at say within is =
    record {
      receiver = r;
      says = λ octets given. say.0 octets (subst (λ (x : S). told x octets) (sym is) given);
      there = inl (sym is);
    }
read_at {S} told (s ∷ ss) (r ∷ rs) (suc place) at say within is =
    let later = read_at told ss rs place at say.1 (omega (arith, within)) is in
    record { receiver = later.receiver; says = later.says; there = inr later.there }

module _ {S : Type 0} (gave : S → List ℕ) (ended : S → Type 0) where
  -- files are those of receivers in one way, as far as their frames are asked for
  same_frames : (ts : ℕ) (states : List (S × S)) (rs qs : List State)
      → SayReceivers (WasRead gave ended) states rs
      → SayReceivers (WasRead gave ended) states qs
      → map (frame_for ts) qs ≡ map (frame_for ts) rs
  same_frames ts [] [] [] a b = refl
  same_frames ts [] [] (q ∷ qs) a b = absurd b
  same_frames ts [] (r ∷ rs) qs a b = absurd a
  same_frames ts (s ∷ ss) [] qs a b = absurd a
  same_frames ts (s ∷ ss) (r ∷ rs) [] a b = absurd b
  same_frames ts (s ∷ ss) (r ∷ rs) (q ∷ qs) a b =
      let there = was_read gave ended s in
      let octets : List ℕ = read_of gave s in
      let one : frame_for ts q ≡ frame_for ts r =
      same_frame ts r q (one_receiver octets r q (a.0 octets there) (b.0 octets there)) in
      ap (λ (f : Found). f ∷ map (frame_for ts) qs) one
      ∙ ap (λ (fs : List Found). frame_for ts r ∷ fs) (same_frames ts ss rs qs a.1 b.1)

  -- and a held picture's file is that of a picture of one format
  pub same_held_for : (hold : Option (S × S)) (held other : Option Values) (qs : List Raster)
      → SaysHeld (WasRead gave ended) hold held → SaysHeld (WasRead gave ended) hold other
      → IsHeldFor held qs → IsHeldFor other qs
  same_held_for None None None qs a b is = tt
  same_held_for None None (Some q) qs a b is = absurd b
  same_held_for None (Some p) other qs a b is = absurd a
  same_held_for (Some s) None other qs a b is = absurd a
  same_held_for (Some s) (Some p) None qs a b is = absurd b
  same_held_for (Some s) (Some p) (Some q) [] a b is = tt
  same_held_for (Some s) (Some p) (Some q) (r ∷ rs) a b is =
      let there = was_read gave ended s in
      let octets : List ℕ = read_of gave s in
      one_format octets q p (b octets there) (a octets there) ∙ is

module _ {S : Type 0} (gave : S → List ℕ) (ended : S → Type 0) (wanted : Processing)
    (states : List (S × S)) (hold : Option (S × S)) (text old new : List ℕ) (count : ℕ)
    (run : SendsSaidFiles text (WasRead gave ended) states hold wanted.job.now wanted.timestamp
    wanted.fill.now wanted.max_octets wanted.stamp old new count)
    (bytes : (s : S × S) → IsMember s states → AreOctets (read_of gave s))
    (held_bytes : (s : S × S) → hold ≡ Some s → AreOctets (read_of gave s))
  where
    receivers_not : (r : Refusal) → IsReceiversRefusal (WasRead gave ended) states r → ⊥
    receivers_not r wrong =
        let at : S × S = wrong.refused.source in
        let one : ReadAt (WasRead gave ended) states at =
        read_at (WasRead gave ended) states run.receivers wrong.place at run.receivers_are
        wrong.within (wrong.refused.at at) in
        not_state (WasRead gave ended at) (read_of gave at) one.receiver r
        (was_read gave ended at) (bytes at one.there) one.says wrong.refused.refused

    held_not : (kept : Option (S × S)) (held : Option Values) (f : FileFault) → hold ≡ kept
        → SaysHeld (WasRead gave ended) kept held
        → IsHeldRefusal (WasRead gave ended) kept (why.Picture f) → ⊥
    held_not None held f same says wrong = absurd wrong
    held_not (Some s) None f same says wrong = absurd says
    held_not (Some s) (Some p) f same says wrong =
        let there = was_read gave ended s in
        let octets : List ℕ = read_of gave s in
        let bytes_here : AreOctets octets = held_bytes s same in
        no_picture_fault octets p f bytes_here (says octets there) (wrong octets there bytes_here)

    module _ (job : Job) (receivers : List State) (held : Option Values)
        (job_is : IsJobText wanted.job.now job)
        (say : SayReceivers (WasRead gave ended) states receivers)
        (says_held : SaysHeld (WasRead gave ended) hold held)
      where
        frames_are : map (frame_for wanted.timestamp) receivers ≡ map found run.sends.frames
        frames_are =
            same_frames gave ended wanted.timestamp states run.receivers receivers
            run.receivers_are say
            ∙ run.sends.are

        one_frames : (qs : List Raster) → AreFramesAt qs receivers wanted.timestamp
            → run.sends.frames ≡ qs
        one_frames qs are = same_found run.sends.frames qs (sym frames_are ∙ are)

        lacks_not : LacksFrame wanted.timestamp receivers → ⊥
        lacks_not wrong =
            let frame =
            has_frame wanted.timestamp receivers run.sends.frames wrong.receiver frames_are
            wrong.is in
            wrong.lacks
            (frame_inside wanted.timestamp wrong.receiver.opening.window wrong.receiver.frames
            frame.0 frame.1)

        held_is : (qs : List Raster) → run.sends.frames ≡ qs → IsHeldFor held qs
        held_is qs same =
            subst (λ (l : List Raster). IsHeldFor held l) same
            (same_held_for gave ended hold run.held held run.sends.frames run.held_is says_held
            run.sends.held_is)

        sendable : (qs : List Raster) → run.sends.frames ≡ qs
            → IsSendable job (raster_formats qs) wanted.max_octets
        sendable qs same =
            subst (λ (l : List Raster). IsSendable job (raster_formats l) wanted.max_octets) same
            (subst
            (λ (j : Job). IsSendable j (raster_formats run.sends.frames) wanted.max_octets)
            (one_job wanted.job.now run.job job run.job_is job_is) run.sends.sendable)

        job_not : (r : Refusal) → IsJobRefusal job wanted receivers held r → ⊥
        job_not why.ProcessFrame wrong = lacks_not wrong
        job_not why.ProcessFill wrong =
            wrong.holds run.sends.fill
            (subst (λ (l : List Raster). IsFill run.sends.fill wanted.fill.now l)
            (one_frames wrong.frames wrong.are) run.sends.fill_is)
        job_not why.ProcessHold wrong =
            wrong.holds.differs (held_is wrong.frames (one_frames wrong.frames wrong.are))
        job_not r wrong =
            not_sendable r job wanted.max_octets (raster_formats wrong.frames)
            (sendable wrong.frames (one_frames wrong.frames wrong.are)) wrong.holds.holds

    read_not : (r : Refusal) → IsRefusalOfRead (WasRead gave ended) states hold wanted r → ⊥
    read_not r wrong =
        job_not wrong.job wrong.receivers wrong.held wrong.job_is wrong.receivers_are
        wrong.held_is r wrong.refused

    run_not : (r : Refusal) → IsRunRefusal (WasRead gave ended) states hold wanted r → ⊥
    run_not why.ProcessJob wrong = wrong run.job run.job_is
    run_not (why.State f) wrong = receivers_not (why.State f) wrong.1
    run_not (why.Picture f) wrong = held_not hold run.held f refl run.held_is wrong.2
    run_not r wrong = read_not r wrong

-- ---- the text of the capture

not_sdp : (told : List ℕ → Type 0) (text : List ℕ) (r : Refusal) → told text → IsCaptureText text
    → IsSdpRefusal told r → ⊥
not_sdp told text (why.Sdp at) there is wrong =
    no_text_fault text is.description at.fault is.described (wrong text there)
not_sdp told text r there is wrong = absurd wrong

pub not_text : (too_long : Refusal) (told : List ℕ → Type 0) (text : List ℕ) (r : Refusal)
    → told text → IsCaptureText text → IsTextRefusal too_long told r → ⊥
not_text too_long told text r there is (inl long) =
    absurd (omega (arith, long.1 text there, is.few))
not_text too_long told text r there is (inr wrong) = not_sdp told text r there is wrong.1

module _ {S : Type 0} (gave : S → List ℕ) (ended : S → Type 0) where
  abbrev given : S → Option S
  given s = Some s

  same_given : (s t : S) → given s ≡ given t → s ≡ t
  same_given s t e = cc

  none_given : (s : S) → (let none : Option S = None in none ≡ given s) → ⊥
  none_given s e = absurd cc

  pub text_not : (sdp later : Option S) (text : List ℕ) (r : Refusal)
      → SaysText gave ended sdp later text → IsTextOfRun (WasRead gave ended) sdp later r → ⊥
  text_not None later text r says wrong = none_given wrong.0 wrong.2
  text_not (Some s) None text r says wrong = absurd says
  text_not (Some s) (Some t) text r says wrong =
      let told : IsTextRefusal why.SendSdp (WasRead gave ended (s, t)) r =
      subst (λ (x : S). IsTextRefusal why.SendSdp (WasRead gave ended (x, t)) r)
      (sym (same_given s wrong.0 wrong.2))
      (subst (λ (x : S). IsTextRefusal why.SendSdp (WasRead gave ended (wrong.0, x)) r)
      (sym (same_given t wrong.1 wrong.3)) wrong.4) in
      let whole : read_of gave (s, t) ≡ text = since_is (gave s) (gave t) text says.0 in
      let there : WasRead gave ended (s, t) text =
      subst (WasRead gave ended (s, t)) whole (was_read gave ended (s, t)) in
      not_text why.SendSdp (WasRead gave ended (s, t)) text r there says.2 told

pub process_not : {S : Type 0} (gave : S → List ℕ) (ended : S → Type 0) (wanted : Processing)
    (sdp later : Option S) (states : List (S × S)) (hold : Option (S × S)) (text old new : List ℕ)
    (count : ℕ) (r : Refusal) → SaysText gave ended sdp later text
    → SendsSaidFiles text (WasRead gave ended) states hold wanted.job.now wanted.timestamp
    wanted.fill.now wanted.max_octets wanted.stamp old new count
    → ((s : S × S) → IsMember s states → AreOctets (read_of gave s))
    → ((s : S × S) → hold ≡ Some s → AreOctets (read_of gave s))
    → IsSaidRunRefusal (WasRead gave ended) sdp later states hold wanted r → ⊥
process_not gave ended wanted sdp later states hold text old new count r says run bytes held_bytes
    (inl wrong) = wrong.1 run.job run.job_is
process_not gave ended wanted sdp later states hold text old new count r says run bytes held_bytes
    (inr (job, inl wrong)) = text_not gave ended sdp later text r says wrong
process_not gave ended wanted sdp later states hold text old new count r says run bytes held_bytes
    (inr (job, inr wrong)) = run_not gave ended wanted states hold text old new count run bytes
    held_bytes r wrong.1
