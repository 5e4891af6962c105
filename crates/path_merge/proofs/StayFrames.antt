-- The frames of a receiver after one event more.
use Rattle.std.proofs.Common.{◌≡◌, ℕ, zero, suc, ◌+◌, ◌<◌, ◌≤◌, Bool, cond, List, [], ◌∷◌, ◌++◌}
use Rattle.std.proofs.Common.{length, drop, map, Some, refl, sym, ap, ◌∙◌, subst, arith}
use Rattle.std.proofs.Common.{length-append, append_assoc}
use Rattle.std.specs.Prelude.{slice_get}
use Rattle.std.specs.List.{flat_map}
use Rattle.std.proofs.Common.{eq-eqb, ne_eqb}
use Rattle.std.proofs.lemmas.List.{append-nil, length-drop, drop-append-le}
use Rattle.std.proofs.lemmas.List.Concat.{flat_map-append}
use Rattle.st_format.specs.declared.path.Path.{Path}
use Rattle.st_format.specs.Member.{IsMember}
use Rattle.st_format.specs.Raster.{Raster, blank, raster_of}
use Rattle.st_format.specs.Device.{AreOctets}
use Rattle.path_receiver.specs.Frames.{State, Holds, frames_of, joined_frames}
use Rattle.path_receiver.specs.Offers.{offers}
use Rattle.path_receiver.specs.Opening.{Opening, AreDifferent}
use Rattle.path_receiver.specs.Sliding.{with_window, slid_state}
use Rattle.path_receiver.proofs.Windows.{member_get}
use Rattle.path_merge.specs.declared.schedule.event.Event.{Event}
use Rattle.path_merge.specs.declared.schedule.event.Event.TheVariants.{Send, Arrive, Slide, Merge}
use Rattle.path_merge.specs.Stays.{Stay, Lasts, slide_timestamp, slide_timestamps, window_after}
use Rattle.path_merge.specs.Reached.{Scene, Reaches, IsFrameOf, AreFrames, IsAt, Spares}
use Rattle.path_merge.proofs.Chains.{chain_below}
use Rattle.path_merge.proofs.Places.{drop_get, drop_next}
use Rattle.path_merge.proofs.Reaching.{Newly, frame_kept, frame_taken, frame_merged, frame_new}
use Rattle.path_merge.proofs.Reaching.{LeavesFrames, none_by_other}

abbrev pub stay_at : ℕ → ℕ → ℕ → Stay
stay_at r n t = record { receiver = r; number = n; timestamp = t }

-- ---- lists of frames

-- frames that stay
pub frames_kept : (s : Scene) (es : List Event) (e : Event) (r n : ℕ) (w : List ℕ)
    (fs : List Raster)
    → ((stay : Stay) → stay.receiver ≡ r → (octets : List ℕ) → Newly s es e octets stay → ⊥)
    → AreFrames s es r n w fs → AreFrames s (es ++ e ∷ []) r n w fs
frames_kept s es e r n [] [] none are = tt
frames_kept s es e r n [] (q ∷ fs) none are = are
frames_kept s es e r n (t ∷ w) [] none are = are
frames_kept s es e r n (t ∷ w) (q ∷ fs) none are = (
  frame_kept s es e (stay_at r n t) q (none (stay_at r n t) refl) are.0,
  frames_kept s es e r (suc n) w fs none are.1,
)

-- a datagram that arrives is joined to each
pub frames_taken : (s : Scene) (es : List Event) (r k n : ℕ) (path : Path) (octets : List ℕ)
    (w : List ℕ) (fs : List Raster) → slice_get s.sent k ≡ Some octets → AreOctets octets
    → length (slide_timestamps r es) ≤ n → drop n (s.opening.window ++ slide_timestamps r es) ≡ w
    → AreFrames s es r n w fs
    → AreFrames s (es ++ Arrive r path k ∷ []) r n w
    (joined_frames fs
    (map (raster_of s.opening.format (flat_map (offers s.opening) (octets ∷ []))) w))
frames_taken s es r k n path octets [] [] sent fit le at are = tt
frames_taken s es r k n path octets [] (q ∷ fs) sent fit le at are = absurd are
frames_taken s es r k n path octets (t ∷ w) [] sent fit le at are = absurd are
frames_taken s es r k n path octets (t ∷ w) (q ∷ fs) sent fit le at are =
    let all : List ℕ = s.opening.window ++ slide_timestamps r es in (
      frame_taken s es r k path octets (stay_at r n t) q sent fit refl
          (record { begun = drop_get all w n t at; not_ended = le }) are.0,
      frames_taken s es r k (suc n) path octets w fs sent fit (omega (arith, le))
          (drop_next all w n t at) are.1,
    )

one_place : (t i j n : ℕ) (xs : List ℕ) → AreDifferent (drop n xs) → n ≤ i → n ≤ j
    → slice_get xs i ≡ Some t → slice_get xs j ≡ Some t → i ≡ j
one_place t i j n [] different le lf g h = absurd cc
one_place t zero zero zero (x ∷ xs) different le lf g h = refl
one_place t zero (suc j) zero (x ∷ xs) different le lf g h =
    absurd (different.0 (subst (λ (y : ℕ). IsMember y xs) (sym (first_is g)) (member_get t j xs h)))
  where
    first_is : Some x ≡ Some t → x ≡ t
    first_is e = cc
one_place t (suc i) zero zero (x ∷ xs) different le lf g h =
    absurd (different.0 (subst (λ (y : ℕ). IsMember y xs) (sym (first_is h)) (member_get t i xs g)))
  where
    first_is : Some x ≡ Some t → x ≡ t
    first_is e = cc
one_place t (suc i) (suc j) zero (x ∷ xs) different le lf g h =
    ap suc (one_place t i j zero xs different.1 (omega arith) (omega arith) g h)
one_place t zero j (suc n) (x ∷ xs) different le lf g h = absurd (omega (arith, le))
one_place t (suc i) zero (suc n) (x ∷ xs) different le lf g h = absurd (omega (arith, lf))
one_place t (suc i) (suc j) (suc n) (x ∷ xs) different le lf g h =
    ap suc (one_place t i j n xs different (omega (arith, le)) (omega (arith, lf)) g h)

rebuilt : (r n t : ℕ) (x : Stay) → x.receiver ≡ r → x.number ≡ n → x.timestamp ≡ t
    → x ≡ stay_at r n t
rebuilt r n t x e f g =
    ap (λ (y : ℕ). stay_at y x.number x.timestamp) e ∙ ap (λ (y : ℕ). stay_at r y x.timestamp) f
    ∙ ap (λ (y : ℕ). stay_at r n y) g

lasts_here : (w : List ℕ) (es : List Event) (r n t : ℕ) (x : Stay) → x.receiver ≡ r → Lasts x w es
    → x.timestamp ≡ t
    → (slice_get (w ++ slide_timestamps r es) x.number ≡ Some t)
    × (length (slide_timestamps r es) ≤ x.number)
lasts_here w es r n t x at lasts same = (
  ap (λ (y : ℕ). slice_get (w ++ slide_timestamps y es) x.number) (sym at) ∙ lasts.begun
      ∙ ap Some same,
  subst (λ (y : ℕ). length (slide_timestamps y es) ≤ x.number) at lasts.not_ended,
)

-- the frames of another receiver of the same window are joined to each
pub frames_merged : (s : Scene) (es : List Event) (r o n m : ℕ) (w : List ℕ) (fs gs : List Raster)
    → AreDifferent (window_after s.opening.window o es)
    → length (slide_timestamps r es) ≤ n → drop n (s.opening.window ++ slide_timestamps r es) ≡ w
    → length (slide_timestamps o es) ≤ m → drop m (s.opening.window ++ slide_timestamps o es) ≡ w
    → AreFrames s es r n w fs → AreFrames s es o m w gs
    → AreFrames s (es ++ Merge r o ∷ []) r n w (joined_frames fs gs)
frames_merged s es r o n m [] [] gs different le at lf bt are its = tt
frames_merged s es r o n m [] (q ∷ fs) gs different le at lf bt are its = absurd are
frames_merged s es r o n m (t ∷ w) [] gs different le at lf bt are its = absurd are
frames_merged s es r o n m (t ∷ w) (q ∷ fs) [] different le at lf bt are its = absurd its
frames_merged s es r o n m (t ∷ w) (q ∷ fs) (p ∷ gs) different le at lf bt are its =
    let all : List ℕ = s.opening.window ++ slide_timestamps r es in
    let others : List ℕ = s.opening.window ++ slide_timestamps o es in
    let there : slice_get others m ≡ Some t = drop_get others w m t bt in (
      frame_merged s es r o (stay_at o m t) (stay_at r n t) q p refl refl
          (record { begun = there; not_ended = lf })
          (record { begun = drop_get all w n t at; not_ended = le }) refl
          (λ x is lasts same. let h = lasts_here s.opening.window es o m t x is lasts same in
          rebuilt o m t x is
          (one_place t x.number m
          (length (slide_timestamps o es)) others different h.1 lf h.0 there) same)
          are.0 its.0,
      frames_merged s es r o (suc n) (suc m) w fs gs different (omega (arith, le))
          (drop_next all w n t at) (omega (arith, lf)) (drop_next others w m t bt) are.1 its.1,
    )

-- one frame more at the end
pub frames_snoc : (s : Scene) (es : List Event) (r n : ℕ) (w : List ℕ) (t k : ℕ) (fs : List Raster)
    (q : Raster) → AreFrames s es r n w fs → n + length w ≡ k → IsFrameOf q (stay_at r k t) s es
    → AreFrames s es r n (w ++ t ∷ []) (fs ++ q ∷ [])
frames_snoc s es r n [] t k [] q are at is = let z : k ≡ n =
    omega (arith, at) in (subst (λ (x : ℕ). IsFrameOf q (stay_at r x t) s es) z is, tt)
frames_snoc s es r n [] t k (p ∷ fs) q are at is = absurd are
frames_snoc s es r n (u ∷ w) t k [] q are at is = absurd are
frames_snoc s es r n (u ∷ w) t k (p ∷ fs) q are at is =
    (are.0, frames_snoc s es r (suc n) w t k fs q are.1 (omega (arith, at)) is)

-- frames of stays that nothing reached
pub frames_none : (s : Scene) (es : List Event) (r n : ℕ) (w : List ℕ)
    → ((stay : Stay) (octets : List ℕ) → Reaches octets stay s es → ⊥)
    → AreFrames s es r n w (map (raster_of s.opening.format []) w)
frames_none s es r n [] none = tt
frames_none s es r n (t ∷ w) none = (
  record {
    reached = [];
    each =
        λ octets. (λ m. absurd m, λ h. absurd (none (stay_at r n t) octets h));
    frame_is = refl;
  },
  frames_none s es r (suc n) w none,
)

-- ---- receivers

-- what one event more brings
pub brought_more : (r : ℕ) (es : List Event) (e : Event)
    → slide_timestamps r (es ++ e ∷ []) ≡ slide_timestamps r es ++ slide_timestamp r e
brought_more r es e =
    flat_map-append (slide_timestamp r) es (e ∷ [])
    ∙ ap (λ (xs : List ℕ). slide_timestamps r es ++ xs) (append-nil (slide_timestamp r e))

brought_same : (r : ℕ) (es : List Event) (e : Event) → slide_timestamp r e ≡ []
    → slide_timestamps r (es ++ e ∷ []) ≡ slide_timestamps r es
brought_same r es e none =
    brought_more r es e ∙ ap (λ (xs : List ℕ). slide_timestamps r es ++ xs) none
    ∙ append-nil (slide_timestamps r es)

pub brings_here : (r next : ℕ) → slide_timestamp r (Slide r next) ≡ next ∷ []
brings_here r next = ap (λ (b : Bool). cond b (next ∷ []) []) (eq-eqb r r refl)

abbrev at_window : Scene → List Event → ℕ → List ℕ → State → Type 0
at_window s es r xs state =
    (state.opening ≡ with_window s.opening (drop (length xs) (s.opening.window ++ xs)))
    × AreFrames s es r (length xs) (drop (length xs) (s.opening.window ++ xs)) state.frames

-- where the event brings nothing to the receiver
at_same : (s : Scene) (es : List Event) (e : Event) (r : ℕ) (state : State)
    → slide_timestamp r e ≡ []
    → state.opening ≡ with_window s.opening (window_after s.opening.window r es)
    → AreFrames s (es ++ e ∷ []) r (length (slide_timestamps r es))
    (window_after s.opening.window r es) state.frames → IsAt state r s (es ++ e ∷ [])
at_same s es e r state none opening frames =
    let h : at_window s (es ++ e ∷ []) r (slide_timestamps r (es ++ e ∷ [])) state =
    subst (λ (xs : List ℕ). at_window s (es ++ e ∷ []) r xs state) (sym (brought_same r es e none))
    (opening, frames) in
    record { opening = h.0; frames = h.1 }

left_frames : (e : Event) (r : ℕ) → Spares e r → LeavesFrames e r
left_frames Send r other = tt
left_frames (Arrive to path number) r other = other
left_frames (Slide at next) r other = tt
left_frames (Merge into from) r other = other

left_window : (e : Event) (r : ℕ) → Spares e r → slide_timestamp r e ≡ []
left_window Send r other = refl
left_window (Arrive to path number) r other = refl
left_window (Slide at next) r other = ap (λ (b : Bool). cond b (next ∷ []) []) (ne_eqb at r other)
left_window (Merge into from) r other = refl

pub at_left : (s : Scene) (es : List Event) (e : Event) (r : ℕ) (state : State) → Spares e r
    → IsAt state r s es → IsAt state r s (es ++ e ∷ [])
at_left s es e r state other is =
    at_same s es e r state (left_window e r other) is.opening
    (frames_kept s es e r (length (slide_timestamps r es))
    (window_after s.opening.window r es) state.frames
    (λ stay same. none_by_other s es e stay
    (subst (LeavesFrames e) (sym same) (left_frames e r other))) is.frames)

-- What the clause on `take` says of an Arrive
pub at_taken : (s : Scene) (es : List Event) (r k : ℕ) (path : Path) (octets : List ℕ)
    (state new : State) → slice_get s.sent k ≡ Some octets → AreOctets octets
    → IsAt state r s es → new.opening ≡ state.opening
    → new.frames ≡ joined_frames state.frames (frames_of state.opening (octets ∷ []))
    → IsAt new r s (es ++ Arrive r path k ∷ [])
at_taken s es r k path octets state new sent fit is opening frames =
    let e : Event = Arrive r path k in
    let w : List ℕ = window_after s.opening.window r es in
    let now : new.frames
    ≡ joined_frames state.frames (frames_of (with_window s.opening w) (octets ∷ [])) =
    frames ∙ ap
    (λ (o : Opening). joined_frames state.frames (frames_of o (octets ∷ []))) is.opening in
    at_same s es e r new refl (opening ∙ is.opening)
    (subst (AreFrames s (es ++ e ∷ []) r (length (slide_timestamps r es)) w) (sym now)
    (frames_taken s es r k (length (slide_timestamps r es)) path octets w state.frames sent fit
    (omega arith) refl is.frames))

-- and on `merge` of a Merge
pub at_merged : (s : Scene) (es : List Event) (r q : ℕ) (state other new : State)
    → IsAt state r s es → IsAt other q s es → state.opening ≡ other.opening
    → AreDifferent state.opening.window
    → new.opening ≡ state.opening → new.frames ≡ joined_frames state.frames other.frames
    → IsAt new r s (es ++ Merge r q ∷ [])
at_merged s es r q state other new is its same different opening frames =
    let e : Event = Merge r q in
    let w : List ℕ = window_after s.opening.window r es in
    let v : List ℕ = window_after s.opening.window q es in
    let windows : v ≡ w =
    ap (λ (o : Opening). o.window) (sym its.opening ∙ sym same ∙ is.opening) in
    let wide : AreDifferent w =
    subst (λ (o : Opening). AreDifferent o.window) is.opening different in
    at_same s es e r new refl (opening ∙ is.opening)
    (subst (AreFrames s (es ++ e ∷ []) r (length (slide_timestamps r es)) w) (sym frames)
    (frames_merged s es r q (length (slide_timestamps r es))
    (length (slide_timestamps q es)) w state.frames other.frames
    (subst AreDifferent (sym windows) wide)
    (omega arith) refl (omega arith) windows is.frames
    (subst (λ (xs : List ℕ). AreFrames s es q
    (length (slide_timestamps q es)) xs other.frames) windows its.frames)))

-- and on `slide` of a Slide
slid_frames : (s : Scene) (es : List Event) (r n next k : ℕ) (w : List ℕ) (fs : List Raster)
    (q : Raster) → AreFrames s es r n w fs → 0 < length w → n + length w ≡ k
    → IsFrameOf q (stay_at r k next) s es
    → AreFrames s es r (suc n) (drop 1 w ++ next ∷ []) (drop 1 fs ++ q ∷ [])
slid_frames s es r n next k [] fs q are some at is = absurd (omega (arith, some))
slid_frames s es r n next k (t ∷ w) [] q are some at is = absurd are
slid_frames s es r n next k (t ∷ w) (p ∷ fs) q are some at is =
    frames_snoc s es r (suc n) w next k fs q are.1 (omega (arith, at)) is

drop_one : (n : ℕ) (ys : List ℕ) → drop (suc n) ys ≡ drop 1 (drop n ys)
drop_one zero ys = refl
drop_one (suc n) [] = refl
drop_one (suc n) (y ∷ ys) = drop_one n ys

slid_window : (w xs : List ℕ) (next : ℕ) → 0 < length w
    → drop (length (xs ++ next ∷ [])) (w ++ (xs ++ next ∷ []))
    ≡ drop 1 (drop (length xs) (w ++ xs)) ++ next ∷ []
slid_window w xs next some =
    let one : length (xs ++ next ∷ []) ≡ suc (length xs) =
    omega (arith, length-append xs (next ∷ [])) in
    let le : suc (length xs) ≤ length (w ++ xs) = omega (arith, length-append w xs) in
    ap (λ (n : ℕ). drop n (w ++ (xs ++ next ∷ []))) one
    ∙ ap (drop (suc (length xs))) (sym (append_assoc w xs (next ∷ [])))
    ∙ drop-append-le (suc (length xs)) (w ++ xs) (next ∷ []) le
    ∙ ap (λ (ys : List ℕ). ys ++ next ∷ []) (drop_one (length xs) (w ++ xs))

pub at_slid : (s : Scene) (es : List Event) (r next : ℕ) (state : State)
    → 0 < length s.opening.window → IsAt state r s es
    → IsAt (slid_state state next) r s (es ++ Slide r next ∷ [])
at_slid s es r next state some is =
    let e : Event = Slide r next in
    let xs : List ℕ = slide_timestamps r es in
    let w : List ℕ = window_after s.opening.window r es in
    let more : slide_timestamps r (es ++ e ∷ []) ≡ xs ++ next ∷ [] =
    brought_more r es e ∙ ap (λ (ys : List ℕ). xs ++ ys) (brings_here r next) in
    let long : length w ≡ length s.opening.window =
    omega (
      arith,
      length-drop (length xs) (s.opening.window ++ xs),
      length-append s.opening.window xs,
    ) in
    let kept : AreFrames s (es ++ e ∷ []) r (length xs) w state.frames =
    frames_kept s es e r (length xs) w state.frames
    (λ stay same. none_by_other s es e stay tt) is.frames in
    let new : IsFrameOf (blank s.opening.format) (stay_at r (length xs + length w) next) s
    (es ++ e ∷ []) =
    frame_new s es r next (stay_at r (length xs + length w) next) (omega (arith, long)) in
    let frames : AreFrames s (es ++ e ∷ []) r (suc (length xs)) (drop 1 w ++ next ∷ [])
    (drop 1 state.frames ++ blank s.opening.format ∷ []) =
    slid_frames s (es ++ e ∷ []) r (length xs) next (length xs + length w) w state.frames
    (blank s.opening.format) kept (omega (arith, long, some)) refl new in
    let one : suc (length xs) ≡ length (xs ++ next ∷ []) =
    omega (arith, length-append xs (next ∷ [])) in
    let window : drop 1 w ++ next ∷ []
    ≡ drop (length (xs ++ next ∷ [])) (s.opening.window ++ (xs ++ next ∷ [])) =
    sym (slid_window s.opening.window xs next some) in
    let blanks : blank s.opening.format ≡ blank state.opening.format =
    ap (λ (o : Opening). blank o.format) (sym is.opening) in
    let opening : (slid_state state next).opening ≡ with_window s.opening (drop 1 w ++ next ∷ []) =
    ap (λ (o : Opening). with_window o (drop 1 o.window ++ next ∷ [])) is.opening in
    let h : at_window s (es ++ e ∷ []) r (xs ++ next ∷ []) (slid_state state next) = (
      opening ∙ ap (with_window s.opening) window,
      subst (λ (n : ℕ). AreFrames s (es ++ e ∷ []) r n
          (drop (length (xs ++ next ∷ [])) (s.opening.window ++ (xs ++ next ∷ [])))
          (slid_state state next).frames) one
          (subst (λ (v : List ℕ). AreFrames s (es ++ e ∷ []) r (suc (length xs)) v
          (slid_state state next).frames) window
          (subst (λ (b : Raster). AreFrames s (es ++ e ∷ []) r (suc (length xs))
          (drop 1 w ++ next ∷ []) (drop 1 state.frames ++ b ∷ [])) blanks frames)),
    ) in
    let g : at_window s (es ++ e ∷ []) r (slide_timestamps r (es ++ e ∷ []))
    (slid_state state next) =
    subst (λ (ys : List ℕ). at_window s (es ++ e ∷ []) r ys (slid_state state next)) (sym more) h in
    record { opening = g.0; frames = g.1 }

-- A receiver that was just opened
pub at_opening : (s : Scene) (r : ℕ) (state : State) → state.opening ≡ s.opening → Holds state []
    → IsAt state r s []
at_opening s r state opening holds = record {
  opening = opening ∙ ap (with_window s.opening) (sym (append-nil s.opening.window));
  frames =
      subst (λ (w : List ℕ). AreFrames s [] r 0 w state.frames) (sym (append-nil s.opening.window))
      (subst (AreFrames s [] r 0 s.opening.window)
      (sym (holds ∙ ap (λ (o : Opening). frames_of o []) opening))
      (frames_none s [] r 0 s.opening.window
      (λ stay octets h. let lt =
      chain_below s.opening.window [] h.number stay h.place h.chain in absurd
      (omega (arith, lt)))));
}

-- The stay that leaves next, and its frame
pub at_first : (s : Scene) (es : List Event) (r t : ℕ) (state : State) (q : Raster)
    → IsAt state r s es → slice_get state.opening.window 0 ≡ Some t
    → slice_get state.frames 0 ≡ Some q
    → IsFrameOf q (stay_at r (length (slide_timestamps r es)) t) s es
at_first s es r t state q is window frame =
    first_of (length (slide_timestamps r es)) (window_after s.opening.window r es) state.frames
    (ap (λ (o : Opening). slice_get o.window 0) (sym is.opening) ∙ window) frame is.frames
  where
    same_of : {X : Type 0} (x y : X) → Some x ≡ Some y → x ≡ y
    same_of x y e = cc

    first_of : (n : ℕ) (w : List ℕ) (fs : List Raster) → slice_get w 0 ≡ Some t
        → slice_get fs 0 ≡ Some q → AreFrames s es r n w fs → IsFrameOf q (stay_at r n t) s es
    first_of n [] fs g h are = absurd cc
    first_of n (u ∷ w) [] g h are = absurd are
    first_of n (u ∷ w) (p ∷ fs) g h are =
        subst (λ (x : Raster). IsFrameOf x (stay_at r n t) s es) (same_of p q h)
        (subst (λ (x : ℕ). IsFrameOf p (stay_at r n x) s es) (same_of u t g) are.0)
