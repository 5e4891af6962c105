-- Against what a run of `send` of a stream read that ended well no refusal speaks.
use Rattle.std.proofs.Common.{◌≡◌, ◌∙◌, ℕ, ◌<◌, ◌≤◌, Bool, true, false, List, [], ◌∷◌, length}
use Rattle.std.proofs.Common.{Option, Result, Ok, Err, inl, inr, ap, arith, subst, sym}
use Rattle.st_format.specs.Fields.{Fields, fields_of}
use Rattle.st_format.specs.Given.{field_by}
use Rattle.st_format.specs.Picture.{Values}
use Rattle.st_format.specs.declared.format.Format.{Format}
use Rattle.packet_plan.specs.Plan.{IsSize}
use Rattle.picture_forms.specs.Frames.{frame_line_at, frame_walk}
use Rattle.picture_forms.specs.Heads.{head_walk}
use Rattle.picture_forms.specs.Layouts.{planes_text}
use Rattle.picture_forms.specs.declared.fault.FormFault.{FormFault}
use Rattle.picture_forms.specs.declared.fault.FormFault.TheVariants.{Truncated}
use Rattle.picture_forms.proofs.HeadIs.{head_says}
use Rattle.picture_forms.proofs.Walked.{same_value}
use Rattle.run_outcome.specs.Moments.{WasRead}
use Rattle.run_outcome.specs.declared.refusal.Refusal.{Refusal}
use Rattle.run_outcome.specs.declared.refusal.Refusal.TheVariants as why
use Rattle.capture_engines.specs.declared.sender.Sending.{Sending}
use Rattle.capture_engines.specs.Typed.{IsSentBy}
use Rattle.stream_sending.specs.Sent.{IsFramesRefusal, IsSentStreamFault}
use Rattle.stream_sending.specs.Sent.{IsSentStreamRefusal, SendsStream}
use Rattle.stream_sending.specs.Streams.{BeginsFrames, HasFrames, HasStreamFrameFault, IsStreamOf}
use Rattle.run_laws.specs.Received.{read_of}
use Rattle.run_laws.proofs.NoConvertRefusals.{apart, one_head}
use Rattle.run_laws.proofs.NoProcessRefusals.{text_not}
use Rattle.run_laws.proofs.NoRefusals.{no_plan_fault}
use Rattle.run_laws.proofs.Receiving.{was_read}

-- ---- frames

abbrev Frame : Type 0
Frame = Result (List ℕ × List ℕ) FormFault

abbrev frame : List ℕ → List ℕ → Frame
frame planes rest = Ok (planes, rest)

abbrev cut : Frame
cut = Err Truncated

-- nothing begins with a frame
no_frame : (f : Format) (planes rest octets : List ℕ) → octets ≡ []
    → frame_walk f octets ≡ frame planes rest → ⊥
unfolding frame_walk frame_line_at field_by
no_frame f planes rest octets none e =
    let bad : cut ≡ frame planes rest = ap (frame_walk f) (sym none) ∙ e in absurd cc

-- where octets are frames and no more, no fault is behind some of them
no_frame_fault : (f : Format) (ps before : List Values) (rest octets : List ℕ) (e : FormFault)
    → BeginsFrames f ps [] octets → BeginsFrames f before rest octets → 0 < length rest
    → frame_walk f rest ≡ Err e → ⊥
no_frame_fault f [] [] rest octets e all begins some wrong =
    absurd (omega (arith, some, ap (λ (l : List ℕ). length l) (sym begins ∙ all)))
no_frame_fault f [] (v ∷ vs) rest octets e all begins some wrong =
    no_frame f (planes_text v) begins.rest octets all begins.frame
no_frame_fault f (p ∷ ps) [] rest octets e all begins some wrong =
    let pair : List ℕ × List ℕ = (planes_text p, all.rest) in
    apart (frame_walk f octets) pair e all.frame (ap (frame_walk f) begins ∙ wrong)
no_frame_fault f (p ∷ ps) (v ∷ vs) rest octets e all begins some wrong =
    let same =
    same_value (frame_walk f octets) (planes_text p) (planes_text v) all.rest begins.rest
    all.frame begins.frame in
    no_frame_fault f ps vs rest all.rest e all.behind
    (subst (λ (l : List ℕ). BeginsFrames f vs rest l) same.1 begins.behind) some wrong

-- nor are there more of them
no_more_frames : (f : Format) (ps qs : List Values) (rest octets : List ℕ)
    → BeginsFrames f ps [] octets → BeginsFrames f qs rest octets → length qs ≤ length ps
no_more_frames f [] [] rest octets all begins = omega arith
no_more_frames f [] (q ∷ qs) rest octets all begins =
    absurd (no_frame f (planes_text q) begins.rest octets all begins.frame)
no_more_frames f (p ∷ ps) [] rest octets all begins = omega arith
no_more_frames f (p ∷ ps) (q ∷ qs) rest octets all begins =
    let same =
    same_value (frame_walk f octets) (planes_text p) (planes_text q) all.rest begins.rest
    all.frame begins.frame in
    let later : length qs ≤ length ps =
    no_more_frames f ps qs rest all.rest all.behind
    (subst (λ (l : List ℕ). BeginsFrames f qs rest l) same.1 begins.behind) in
    omega (arith, later)

-- ---- a stream

no_stream_fault : (most : ℕ) (octets : List ℕ) (f : Format) (ps : List Values) (e : FormFault)
    → IsStreamOf octets f ps → IsSentStreamFault most octets e → ⊥
no_stream_fault most octets f ps e is (inl wrong) =
    let pair : Fields × List ℕ = (fields_of f, is.frames) in
    apart (head_walk octets) pair e (head_says octets is.frames (fields_of f) is.head) wrong
no_stream_fault most octets f ps e is (inr wrong) =
    let fault : HasStreamFrameFault octets e = wrong.0 in
    let same =
    one_head octets is.frames fault.begins.frames f fault.format is.head fault.begins.head in
    no_frame_fault f ps fault.before fault.rest is.frames e is.are
    (subst (λ (l : List ℕ). BeginsFrames f fault.before fault.rest l) (sym same.1)
    (subst (λ (g : Format). BeginsFrames g fault.before fault.rest fault.begins.frames)
    (sym same.0) fault.begins.are)) fault.some
    (ap (λ (g : Format). frame_walk g fault.rest) same.0 ∙ fault.fault)

no_more : (octets : List ℕ) (f : Format) (ps : List Values) (count : ℕ) → IsStreamOf octets f ps
    → HasFrames count octets → count ≤ length ps
no_more octets f ps count is has =
    let same =
    one_head octets is.frames has.begins.frames f has.format is.head has.begins.head in
    let few : length has.pictures ≤ length ps =
    no_more_frames f ps has.pictures has.rest is.frames is.are
    (subst (λ (l : List ℕ). BeginsFrames f has.pictures has.rest l) (sym same.1)
    (subst (λ (g : Format). BeginsFrames g has.pictures has.rest has.begins.frames)
    (sym same.0) has.begins.are)) in
    omega (arith, few, has.many)

frames_not : (most : ℕ) (read : List ℕ → Type 0) (octets : List ℕ) (f : Format)
    (ps : List Values) (r : Refusal) → read octets → IsStreamOf octets f ps → IsSize most f
    → length ps < 4294967296 → IsFramesRefusal most read r → ⊥
frames_not most read octets f ps (why.Form e) there is size few wrong =
    no_stream_fault most octets f ps e is (wrong octets there)
frames_not most read octets f ps (why.Plan e) there is size few wrong =
    let head = wrong.1 octets there in
    let same = one_head octets is.frames head.0 f wrong.0 is.head head.1 in
    no_plan_fault most wrong.0 e (subst (λ (g : Format). IsSize most g) same.0 size) wrong.2
frames_not most read octets f ps why.SendPictures there is size few wrong =
    let has = wrong octets there in
    let many : 4294967296 ≤ length ps = no_more octets f ps 4294967296 is has.0 in
    absurd (omega (arith, many, few))
frames_not most read octets f ps r there is size few wrong = absurd wrong

-- ---- a run

-- what is sent by the words has their size of packets
size_is : (by_sdp : Bool) (wanted sending : Sending) (text : List ℕ)
    → IsSentBy by_sdp wanted text sending → sending.max_octets ≡ wanted.max_octets
size_is true wanted sending text is =
    ap (λ (w : Sending). w.max_octets) is.typed_is
size_is false wanted sending text is = ap (λ (w : Sending). w.max_octets) is

pub stream_not : {S : Type 0} (gave : S → List ℕ) (ended : S → Type 0) (by_sdp : Bool)
    (wanted : Sending) (sdp sdp_later : Option S) (stream later : S)
    (old new shown printed : List ℕ) (r : Refusal)
    (run : SendsStream gave ended by_sdp wanted sdp sdp_later (WasRead gave ended (stream, later))
    old new shown printed)
    → IsSentStreamRefusal wanted.max_octets sdp sdp_later (WasRead gave ended)
    (WasRead gave ended (stream, later)) r → ⊥
stream_not gave ended by_sdp wanted sdp sdp_later stream later old new shown printed r run
    (inl wrong) = text_not gave ended sdp sdp_later run.text r run.says wrong
stream_not gave ended by_sdp wanted sdp sdp_later stream later old new shown printed r run
    (inr wrong) =
    let f : Format = run.frames.format in
    let octets : List ℕ = read_of gave (stream, later) in
    let there = was_read gave ended (stream, later) in
    let limits : IsSize wanted.max_octets f =
    subst (λ (most : ℕ). IsSize most f) (size_is by_sdp wanted run.sending run.text run.sending_is)
    run.frames.limits in
    frames_not wanted.max_octets (WasRead gave ended (stream, later)) octets f run.frames.pictures
    r there (run.frames.says octets there) limits run.frames.few wrong.1
