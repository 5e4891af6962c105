-- Against what a run of `picture` read that ended well no refusal speaks.
use Rattle.std.proofs.Common.{◌≡◌, ℕ, List, [], ◌∷◌, Option, None, Some, inl, inr}
use Rattle.std.proofs.Common.{refl, sym, ap, ◌∙◌, subst}
use Rattle.std.specs.Borrow.{Bor}
use Rattle.st_format.specs.Device.{AreOctets}
use Rattle.st_format.specs.Fields.{Fields}
use Rattle.st_format.specs.Picture.{Values}
use Rattle.st_format.specs.Raster.{Raster}
use Rattle.st_format.specs.declared.format.Format.{Format}
use Rattle.st_format.specs.declared.sampling.Sampling.{Sampling}
use Rattle.st_format.specs.declared.sampling.Sampling.TheVariants.{Rgb}
use Rattle.media_file.specs.declared.fault.FileFault.{FileFault}
use Rattle.path_receiver.specs.Frames.{State}
use Rattle.form_files.specs.Form.{HoldsSampling}
use Rattle.form_files.specs.declared.form.Form.{Form}
use Rattle.run_outcome.specs.Moments.{WasRead}
use Rattle.run_outcome.specs.declared.refusal.Refusal.{Refusal}
use Rattle.run_outcome.specs.declared.refusal.Refusal.TheVariants as why
use Rattle.receiver_engines.specs.Merging.{SaysReceiver}
use Rattle.receiver_engines.specs.Reading.{SaysHeld}
use Rattle.receiver_engines.specs.Refused.{IsHeldRefusal}
use Rattle.picture_engine.specs.Refused.{IsFrameRefusal, IsMarkingRefusal, IsSettlingRefusal}
use Rattle.picture_engine.specs.Refused.{IsMarkedRefusal, IsSettledRefusal, IsShowRefusal}
use Rattle.picture_engine.specs.Refused.{IsViewRefusal}
use Rattle.picture_engine.specs.Shown.{IsViewOf, OfFrame, ShowsFrame}
use Rattle.picture_engine.specs.Views.{IsFillOf, IsMarkedView, SaysNoFill, SettlesFrame}
use Rattle.picture_engine.specs.declared.asked.PictureAsked.{PictureAsked}
use Rattle.picture_engine.specs.declared.asked.View.{View}
use Rattle.picture_engine.specs.declared.asked.View.TheVariants.{Settled, Marked}
use Rattle.picture_engine.proofs.Settled.{settled_format}
use Rattle.run_laws.specs.Received.{read_of}
use Rattle.run_laws.proofs.NoProcessRefusals.{found, frame_for, frame_inside, one_receiver}
use Rattle.run_laws.proofs.NoProcessRefusals.{same_frame, same_held_for, same_raster}
use Rattle.run_laws.proofs.NoRefusals.{no_picture_fault, not_state}
use Rattle.run_laws.proofs.Receiving.{was_read}

-- ---- the frame of a timestamp

-- What was read is the file of a receiver that has such a frame.
module _ (read : List ℕ → Type 0) (octets : List ℕ) (there : read octets) (ts : ℕ) (r : State)
    (says : SaysReceiver read r) (q : Raster) (q_is : frame_for ts r ≡ found q)
  where
    frame_again : (s : State) → SaysReceiver read s → frame_for ts s ≡ found q
    frame_again s other =
        same_frame ts r s (one_receiver octets r s (says octets there) (other octets there)) ∙ q_is

    -- nothing speaks against that of any receiver with this file, where nothing does against it
    frame_not : (Is : Refusal → Raster → Type 0) → ((e : Refusal) → Is e q → ⊥) → (s : State)
        → SaysReceiver read s → (e : Refusal) → IsFrameRefusal ts Is s e → ⊥
    frame_not Is none s other why.FrameTimestamp wrong =
        wrong (frame_inside ts s.opening.window s.frames q (frame_again s other))
    frame_not Is none s other e wrong =
        none e
        (subst (λ (p : Raster). Is e p)
        (same_raster wrong.frame q (sym wrong.is ∙ frame_again s other)) wrong.holds)

-- ---- a frame with marks

marking_not : (form : Form) (q : Raster) (v : Values) → IsMarkedView q v
    → HoldsSampling form v.format.sampling → (e : Refusal) → IsMarkingRefusal form e q → ⊥
marking_not form q v is holds why.FrameForm wrong =
    let rgb : v.format.sampling ≡ Rgb = ap (λ (f : Fields). f.sampling) is.format in
    wrong (subst (λ (s : Sampling). HoldsSampling form s) rgb holds)
marking_not form q v is holds e wrong = absurd wrong

-- ---- a frame that is settled

-- a text that says a fill says one
said_not : (text : Option (Bor (List ℕ))) (fill : List ℕ) (q : Raster) → IsFillOf text fill q
    → SaysNoFill text → ⊥
said_not None fill q is wrong = absurd wrong
said_not (Some t) fill q is wrong =
    wrong fill (record { is = is.is; values = is.values; fits = tt })

module _ {S : Type 0} (gave : S → List ℕ) (ended : S → Type 0) where
  settling_not : (hold : Option (S × S)) (held other : Option Values)
      (text : Option (Bor (List ℕ))) (form : Form) (q : Raster) (v : Values)
      → SaysHeld (WasRead gave ended) hold held → SaysHeld (WasRead gave ended) hold other
      → SettlesFrame text held q v → HoldsSampling form v.format.sampling
      → (e : Refusal) → IsSettlingRefusal text form other e q → ⊥
  settling_not hold held other text form q v a b is holds why.FrameFill wrong =
      wrong is.fill is.fill_is
  settling_not hold held other text form q v a b is holds why.FrameHold wrong =
      wrong.1 (same_held_for gave ended hold held other (q ∷ []) a b is.held_is)
  settling_not hold held other text form q v a b is holds why.FrameForm wrong =
      let format : v.format ≡ q.format =
      ap (λ (w : Values). w.format) is.settled ∙ settled_format held is.fill q in
      wrong.2 (subst (λ (f : Format). HoldsSampling form f.sampling) format holds)
  settling_not hold held other text form q v a b is holds e wrong = absurd wrong

  -- the file of the picture that is held is one
  held_not : (hold : Option (S × S)) (held : Option Values) (f : FileFault)
      → ((s : S × S) → hold ≡ Some s → AreOctets (read_of gave s))
      → SaysHeld (WasRead gave ended) hold held
      → IsHeldRefusal (WasRead gave ended) hold (why.Picture f) → ⊥
  held_not None held f bytes says wrong = absurd wrong
  held_not (Some s) None f bytes says wrong = absurd says
  held_not (Some s) (Some p) f bytes says wrong =
      let there = was_read gave ended s in
      let octets : List ℕ = read_of gave s in
      let here : AreOctets octets = bytes s refl in
      no_picture_fault octets p f here (says octets there) (wrong octets there here)

-- ---- a run

module _ {S : Type 0} (gave : S → List ℕ) (ended : S → Type 0) (read : List ℕ → Type 0)
    (octets : List ℕ) (there : read octets) (bytes : AreOctets octets) (hold : Option (S × S))
    (held_bytes : (s : S × S) → hold ≡ Some s → AreOctets (read_of gave s))
    (ts : ℕ) (form : Form) (v : Values) (holds : HoldsSampling form v.format.sampling)
  where
    marked_not : OfFrame read ts IsMarkedView v → (e : Refusal) → IsMarkedRefusal read ts form e
        → ⊥
    marked_not is (why.State f) wrong =
        not_state read octets is.receiver (why.State f) there bytes is.says wrong
    marked_not is e wrong =
        frame_not read octets there ts is.receiver is.says is.frame is.frame_is
        (IsMarkingRefusal form) (marking_not form is.frame v is.is holds) wrong.0 wrong.1 e wrong.2

    module _ (text : Option (Bor (List ℕ)))
        (is : OfFrame read ts (IsViewOf (WasRead gave ended) hold (Settled text)) v)
      where
        -- of what the text and the files say
        said_refusal_not : (e : Refusal) (s : State) (other : Option Values)
            → SaysReceiver read s → SaysHeld (WasRead gave ended) hold other
            → IsFrameRefusal ts (IsSettlingRefusal text form other) s e → ⊥
        said_refusal_not e s other says says_held wrong =
            frame_not read octets there ts is.receiver is.says is.frame is.frame_is
            (IsSettlingRefusal text form other)
            (settling_not gave ended hold is.is.0 other text form is.frame v is.is.1 says_held
            is.is.2 holds) s says e wrong

        settled_not : (e : Refusal)
            → IsSettledRefusal read (WasRead gave ended) hold text ts form e → ⊥
        settled_not (why.State f) wrong =
            not_state read octets is.receiver (why.State f) there bytes is.says wrong.1
        settled_not (why.Picture f) wrong =
            held_not gave ended hold is.is.0 f held_bytes is.is.1 wrong.1.2
        settled_not why.FrameFill (inl none) =
            said_not text is.is.2.fill is.frame is.is.2.fill_is none
        settled_not why.FrameFill (inr wrong) =
            said_refusal_not why.FrameFill wrong.receiver wrong.held wrong.receiver_is
            wrong.held_is wrong.holds
        settled_not e wrong =
            said_refusal_not e wrong.receiver wrong.held wrong.receiver_is wrong.held_is
            wrong.holds

    view_not : (view : View) (e : Refusal)
        → OfFrame read ts (IsViewOf (WasRead gave ended) hold view) v
        → IsViewRefusal read (WasRead gave ended) hold view ts form e → ⊥
    view_not (Settled text) e is wrong = settled_not text is e wrong
    view_not Marked e is wrong = marked_not is e wrong

pub picture_not : {S : Type 0} (gave : S → List ℕ) (ended : S → Type 0) (asked : PictureAsked)
    (state later : S) (hold : Option (S × S)) (old new : List ℕ) (r : Refusal)
    → ShowsFrame (WasRead gave ended (state, later)) (WasRead gave ended) hold asked old new
    → AreOctets (read_of gave (state, later))
    → ((s : S × S) → hold ≡ Some s → AreOctets (read_of gave s))
    → IsShowRefusal (WasRead gave ended (state, later)) (WasRead gave ended) hold asked r → ⊥
picture_not gave ended asked state later hold old new r run bytes held_bytes =
    view_not gave ended (WasRead gave ended (state, later)) (read_of gave (state, later))
    (was_read gave ended (state, later)) bytes hold held_bytes asked.timestamp asked.form
    run.shown run.holds asked.view r run.is
