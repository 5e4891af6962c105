-- One event more, on the stage.
use Rattle.std.proofs.Common.{◌≡◌, ◌≢◌, ℕ, zero, suc, ◌+◌, ◌<◌, ◌⊎◌, inl, inr, List, [], ◌∷◌, ◌++◌}
use Rattle.std.proofs.Common.{length, map, get_or, set, drop, Some, Vec, refl, sym, ap, ◌∙◌, subst}
use Rattle.std.proofs.Common.{arith, length-append, append_assoc}
use Rattle.std.specs.Prelude.{slice_get, OnErr, OnOk, Result, Ok, Err}
use Rattle.std.specs.List.{AllZip}
use Rattle.std.proofs.lemmas.List.{append-nil, length-map}
use Rattle.std.proofs.lemmas.Option.{get_or_from_slice_get}
use Rattle.st_format.specs.declared.path.Path.{Path}
use Rattle.st_format.specs.Member.{IsMember}
use Rattle.st_format.specs.Picture.{Values}
use Rattle.packet_plan.specs.declared.stamp.Stamp.{Stamp}
use Rattle.packet_plan.specs.Plan.{RasterPlan}
use Rattle.path_receiver.specs.Frames.{State}
use Rattle.path_receiver.specs.Opening.{Opening, AreDifferent}
use Rattle.path_receiver.specs.Sliding.{with_window, slid_state}
use Rattle.path_merge.specs.declared.schedule.event.Event.{Event}
use Rattle.path_merge.specs.declared.schedule.event.Event.TheVariants.{Send, Arrive, Slide, Merge}
use Rattle.path_merge.specs.declared.schedule.played.Handed.{Handed}
use Rattle.path_merge.specs.declared.schedule.sending.Next.{Next}
use Rattle.path_merge.specs.declared.schedule.stage.Stage.{Stage}
use Rattle.path_merge.specs.Stays.{Stay, Lasts, HasLeft, slide_timestamp, slide_timestamps}
use Rattle.path_merge.specs.Reached.{Scene, IsAt, IsFrameOf, Spares}
use Rattle.path_merge.specs.Admitted.{send_count}
use Rattle.path_merge.specs.Played.{IsHanded, ended_stays, stays_ended_by, stays_ended_behind}
use Rattle.path_merge.specs.Stage.{IsFollowedBy, HandsOut, NeverFits, SendsOne}
use Rattle.st_format.specs.Memory.{octets_of}
use Rattle.path_merge.specs.Steps.{Arrives, MergesInto, to_come}
use Rattle.path_merge.proofs.Places.{get_below, get_left}
use Rattle.path_merge.proofs.Reaching.{frame_kept, none_by_other, none_when_over}
use Rattle.path_merge.proofs.StayFrames.{at_left, at_taken, at_merged, at_slid, at_first}
use Rattle.path_merge.proofs.StayFrames.{brings_here, brought_more, stay_at}

-- ---- what has ended

ended_snoc : (w : List ℕ) (before es : List Event) (e : Event)
    → stays_ended_behind w before (es ++ e ∷ [])
    ≡ stays_ended_behind w before es ++ stays_ended_by w (before ++ es) e
ended_snoc w before [] e =
    append-nil (stays_ended_by w before e)
    ∙ ap (λ (b : List Event). stays_ended_by w b e) (sym (append-nil before))
ended_snoc w before (f ∷ es) e =
    ap (λ (xs : List Stay). stays_ended_by w before f ++ xs)
    (ended_snoc w (before ++ f ∷ []) es e
    ∙ ap
    (λ (b : List Event). stays_ended_behind w (before ++ f ∷ []) es ++ stays_ended_by w b e)
    (append_assoc before (f ∷ []) es))
    ∙ sym
    (append_assoc (stays_ended_by w before f) (stays_ended_behind w (before ++ f ∷ []) es)
    (stays_ended_by w (before ++ f ∷ es) e))

pub ended_more : (w : List ℕ) (es : List Event) (e : Event)
    → ended_stays w (es ++ e ∷ []) ≡ ended_stays w es ++ stays_ended_by w es e
ended_more w es e = ended_snoc w [] es e

-- what has ended stays so
still_over : (es : List Event) (e : Event) (stay : Stay) → HasLeft stay es
    → HasLeft stay (es ++ e ∷ [])
still_over es e stay over =
    omega (
      arith,
      over,
      ap length (brought_more stay.receiver es e),
      length-append (slide_timestamps stay.receiver es) (slide_timestamp stay.receiver e),
    )

not_lasting : (w : List ℕ) (es : List Event) (stay : Stay) → HasLeft stay es → Lasts stay w es → ⊥
not_lasting w es stay over lasts = absurd (omega (arith, over, lasts.not_ended))

handed_still : {A : Type 0} (s : Scene) (es : List Event) (e : Event) (stay : Stay) (h : Handed A)
    → IsHanded s es stay h → IsHanded s (es ++ e ∷ []) stay h
handed_still s es e stay h is = record {
  receiver = is.receiver;
  timestamp = is.timestamp;
  over = still_over es e stay is.over;
  frame =
      frame_kept s es e stay h.frame
      (none_when_over s es e stay (not_lasting s.opening.window es stay is.over)) is.frame;
}

zip_more : {A : Type 0} (s : Scene) (es : List Event) (e : Event) (stays : List Stay)
    (hs : List (Handed A)) (more : List Stay) (gs : List (Handed A))
    → AllZip (IsHanded s es) stays hs → AllZip (IsHanded s (es ++ e ∷ [])) more gs
    → AllZip (IsHanded s (es ++ e ∷ [])) (stays ++ more) (hs ++ gs)
zip_more s es e [] [] more gs all one = one
zip_more s es e [] (h ∷ hs) more gs all one = absurd all
zip_more s es e (t ∷ stays) [] more gs all one = absurd all
zip_more s es e (t ∷ stays) (h ∷ hs) more gs all one =
    (handed_still s es e t h all.0, zip_more s es e stays hs more gs all.1 one)

-- one frame more was handed out, or none
kept_handed : {A : Type 0} (s : Scene) (es : List Event) (e : Event) (hs : List (Handed A))
    → stays_ended_by s.opening.window es e ≡ []
    → AllZip (IsHanded s es) (ended_stays s.opening.window es) hs
    → AllZip (IsHanded s (es ++ e ∷ [])) (ended_stays s.opening.window (es ++ e ∷ [])) hs
kept_handed s es e hs none all =
    let w : List ℕ = s.opening.window in
    let same : ended_stays w es ++ [] ≡ ended_stays w (es ++ e ∷ []) =
    ap (λ (xs : List Stay). ended_stays w es ++ xs) (sym none) ∙ sym (ended_more w es e) in
    subst (λ (xs : List Stay). AllZip (IsHanded s (es ++ e ∷ [])) xs hs) same
    (subst (λ (gs : List _). AllZip (IsHanded s (es ++ e ∷ [])) (ended_stays w es ++ []) gs)
    (append-nil hs) (zip_more s es e (ended_stays w es) hs [] [] all tt))

more_handed : {A : Type 0} (s : Scene) (es : List Event) (e : Event) (hs : List (Handed A))
    (stay : Stay) (h : Handed A) → stays_ended_by s.opening.window es e ≡ stay ∷ []
    → AllZip (IsHanded s es) (ended_stays s.opening.window es) hs
    → IsHanded s (es ++ e ∷ []) stay h
    → AllZip (IsHanded s (es ++ e ∷ [])) (ended_stays s.opening.window (es ++ e ∷ []))
    (hs ++ h ∷ [])
more_handed s es e hs stay h one all is =
    let w : List ℕ = s.opening.window in
    let same : ended_stays w es ++ stay ∷ [] ≡ ended_stays w (es ++ e ∷ []) =
    ap (λ (xs : List Stay). ended_stays w es ++ xs) (sym one) ∙ sym (ended_more w es e) in
    subst (λ (xs : List Stay). AllZip (IsHanded s (es ++ e ∷ [])) xs (hs ++ h ∷ [])) same
    (zip_more s es e (ended_stays w es) hs (stay ∷ []) (h ∷ []) all (is, tt))

-- ---- one receiver is replaced

replaced : (xs : List State) (i r : ℕ) (x y : State) → slice_get (set xs i x) r ≡ Some y
    → ((r ≡ i) × (x ≡ y)) ⊎ ((i ≢ r) × (slice_get xs r ≡ Some y))
replaced [] i r x y h = absurd cc
replaced (z ∷ xs) zero zero x y h = inl (refl, cc)
replaced (z ∷ xs) zero (suc r) x y h = inr ((λ e. absurd (omega arith)), h)
replaced (z ∷ xs) (suc i) zero x y h = inr ((λ e. absurd (omega arith)), h)
replaced (z ∷ xs) (suc i) (suc r) x y h = elim (replaced xs i r x y h) [
  | inl a ↦ inl (ap suc a.0, a.1)
  | inr b ↦ inr ((λ e. b.0 (omega (arith, e))), b.1)
]

each_receiver : (s : Scene) (es : List Event) (e : Event) (old : List State) (i : ℕ)
    (after : State) → ((r : ℕ) → i ≢ r → Spares e r)
    → ((r : ℕ) (state : State) → slice_get old r ≡ Some state → IsAt state r s es)
    → IsAt after i s (es ++ e ∷ [])
    → (r : ℕ) (state : State) → slice_get (set old i after) r ≡ Some state
    → IsAt state r s (es ++ e ∷ [])
each_receiver s es e old i after others all now r state there =
    elim (replaced old i r after state there) [
      | inl a ↦ subst (λ (x : State). IsAt x r s (es ++ e ∷ [])) a.1
          (subst (λ (n : ℕ). IsAt after n s (es ++ e ∷ [])) (sym a.0) now)
      | inr b ↦ at_left s es e r state (others r b.0) (all r state b.1)
    ]

length-set_state : (xs : List State) (i : ℕ) (x : State) → length (set xs i x) ≡ length xs
length-set_state [] i x = refl
length-set_state (z ∷ xs) zero x = refl
length-set_state (z ∷ xs) (suc i) x = ap suc (length-set_state xs i x)

pub sends_more : (es : List Event) (e : Event) (k : ℕ) → send_count (e ∷ []) ≡ k
    → send_count (es ++ e ∷ []) ≡ send_count es + k
sends_more [] e k h = omega (arith, h)
sends_more (Send ∷ es) e k h = let r = sends_more es e k h in omega (arith, r)
sends_more (Arrive to path number ∷ es) e k h = sends_more es e k h
sends_more (Slide at next ∷ es) e k h = sends_more es e k h
sends_more (Merge into from ∷ es) e k h = sends_more es e k h

same_vec : {A : Type 0} (x y : Vec ℕ A) → Some x ≡ Some y → x ≡ y
same_vec x y e = cc

map_snoc : {A : Type 0} (vs : List (Vec ℕ A)) (v : Vec ℕ A)
    → map octets_of (vs ++ v ∷ []) ≡ map octets_of vs ++ v.items ∷ []
map_snoc [] v = refl
map_snoc (x ∷ vs) v = ap (λ (xs : List (List ℕ)). x.items ∷ xs) (map_snoc vs v)

map_get : {A : Type 0} (vs : List (Vec ℕ A)) (i : ℕ) (v : Vec ℕ A) → slice_get vs i ≡ Some v
    → slice_get (map octets_of vs) i ≡ Some v.items
map_get [] i v h = absurd cc
map_get (x ∷ vs) zero v h = ap Some (ap octets_of (same_vec x v h))
map_get (x ∷ vs) (suc i) v h = map_get vs i v h

drop_first : (n : ℕ) (xs : List ℕ) (t : ℕ) → slice_get (drop n xs) 0 ≡ Some t
    → slice_get xs n ≡ Some t
drop_first zero xs t h = h
drop_first (suc n) [] t h = absurd cc
drop_first (suc n) (x ∷ xs) t h = drop_first n xs t h

-- ---- the four events

pub follows_send : {A : Type 0} (plan : RasterPlan) (stamp : Stamp) (pictures : List Values)
    (old new : Stage A) → SendsOne plan stamp pictures old new
    → IsFollowedBy plan stamp pictures Send old new
follows_send plan stamp pictures old new h s es some is = record {
  admitted =
      omega (
        arith,
        is.sends,
        ap length is.sent,
        ap length h.is_next,
        length-append (map octets_of old.sent.items) (to_come plan stamp pictures old.next),
        length-map old.sent.items octets_of,
      );
  stage = record {
    count = ap length h.receivers ∙ is.count;
    receivers =
        λ r state there. at_left s es Send r state tt
        (is.receivers r state (ap (λ (xs : List State). slice_get xs r) (sym h.receivers) ∙ there));
    handed =
        subst (λ (hs : List (Handed _)). AllZip (IsHanded s (es ++ Send ∷ []))
        (ended_stays s.opening.window (es ++ Send ∷ [])) hs) (sym h.handed)
        (kept_handed s es Send old.handed.items refl is.handed);
    sent =
        ap (λ
        (vs : List (Vec ℕ _)). map octets_of vs ++ to_come plan stamp pictures new.next) h.sent
        ∙ ap (λ (xs : List (List ℕ)). xs ++ to_come plan stamp pictures new.next)
        (map_snoc old.sent.items h.datagram)
        ∙ append_assoc (map octets_of old.sent.items) (h.datagram.items ∷ [])
        (to_come plan stamp pictures new.next)
        ∙ ap (λ (xs : List (List ℕ)). map octets_of old.sent.items ++ xs) (sym h.is_next)
        ∙ is.sent;
    sends =
        omega (
          arith,
          ap length h.sent,
          length-append old.sent.items (h.datagram ∷ []),
          is.sends,
          sends_more es Send 1 refl,
        );
  };
}

pub follows_arrive : {A : Type 0} (plan : RasterPlan) (stamp : Stamp) (pictures : List Values)
    (to number : ℕ) (path : Path) (old new : Stage A)
    → Arrives to number old.sent.items old.receivers.items new.receivers.items
    → new.sent.items ≡ old.sent.items → new.handed.items ≡ old.handed.items → new.next ≡ old.next
    → IsFollowedBy plan stamp pictures (Arrive to path number) old new
follows_arrive plan stamp pictures to number path old new h sent handed next s es some is =
    let e : Event = Arrive to path number in
    let below : to < length old.receivers.items =
    get_below old.receivers.items to h.before h.there in
    let within : number < length old.sent.items =
    get_below old.sent.items number h.datagram h.sent_is in
    let datagram : slice_get s.sent number ≡ Some h.datagram.items =
    ap (λ (xs : List (List ℕ)). slice_get xs number) (sym is.sent)
    ∙ get_left (map octets_of old.sent.items)
    (to_come plan stamp pictures old.next) number h.datagram.items
    (map_get old.sent.items number h.datagram h.sent_is) in
    record {
      admitted =
          record {
            receiver = omega (arith, below, is.count);
            sent =
                omega (arith, within, is.sends);
          };
      stage = record {
        count = ap length h.all ∙ length-set_state old.receivers.items to h.after ∙ is.count;
        receivers =
            λ r state there. each_receiver s es e old.receivers.items to h.after
            (λ q other. other) is.receivers
            (at_taken s es to number path h.datagram.items h.before h.after datagram h.octets
            (is.receivers to h.before h.there) h.opening h.frames) r state
            (ap (λ (xs : List State). slice_get xs r) (sym h.all) ∙ there);
        handed =
            subst (λ (hs : List (Handed _)). AllZip (IsHanded s (es ++ e ∷ []))
            (ended_stays s.opening.window (es ++ e ∷ [])) hs) (sym handed)
            (kept_handed s es e old.handed.items refl is.handed);
        sent =
            ap (λ
            (vs : List (Vec ℕ _)). map octets_of vs ++ to_come plan stamp pictures new.next) sent
            ∙ ap (λ (n : Next). map octets_of old.sent.items ++ to_come plan stamp pictures n) next
            ∙ is.sent;
        sends = omega (arith, ap length sent, is.sends, sends_more es e 0 refl);
      };
    }

-- the timestamp of the stay that ends
first_timestamp : (s : Scene) (es : List Event) (at t : ℕ) (state : State) → IsAt state at s es
    → slice_get state.opening.window 0 ≡ Some t
    → get_or (s.opening.window ++ slide_timestamps at es) (length (slide_timestamps at es)) 0 ≡ t
first_timestamp s es at t state is first =
    get_or_from_slice_get (s.opening.window ++ slide_timestamps at es)
    (length (slide_timestamps at es)) t 0
    (drop_first (length (slide_timestamps at es)) (s.opening.window ++ slide_timestamps at es) t
    (ap (λ (o : Opening). slice_get o.window 0) (sym is.opening) ∙ first))

pub follows_slide : {A : Type 0} (plan : RasterPlan) (stamp : Stamp) (pictures : List Values)
    (at next : ℕ) (old new : Stage A) → HandsOut at next old new
    → new.next ≡ old.next → IsFollowedBy plan stamp pictures (Slide at next) old new
follows_slide plan stamp pictures at next old new out same s es some is =
    let e : Event = Slide at next in
    let h = out.slides in
    let w : List ℕ = s.opening.window in
    let k : ℕ = length (slide_timestamps at es) in
    let here : IsAt h.before at s es = is.receivers at h.before h.there in
    let below : at < length old.receivers.items =
    get_below old.receivers.items at h.before h.there in
    let time : get_or (w ++ slide_timestamps at es) k 0 ≡ out.out.timestamp =
    first_timestamp s es at out.out.timestamp h.before here h.first in
    let stay : Stay = stay_at at k (get_or (w ++ slide_timestamps at es) k 0) in
    let frame : IsFrameOf out.out.frame stay s es =
    subst (λ (t : ℕ). IsFrameOf out.out.frame (stay_at at k t) s es) (sym time)
    (at_first s es at out.out.timestamp h.before out.out.frame here h.first h.frame) in
    let more : length (slide_timestamps at (es ++ e ∷ []))
    ≡ length (slide_timestamps at es ++ slide_timestamp at e) =
    ap length (brought_more at es e) in
    let handed : IsHanded s (es ++ e ∷ []) stay out.out = record {
      receiver = h.handed;
      timestamp = sym time;
      over =
          omega (
            arith,
            more,
            length-append (slide_timestamps at es) (slide_timestamp at e),
            ap length (brings_here at next),
          );
      frame = frame_kept s es e stay out.out.frame (none_by_other s es e stay tt) frame;
    } in
    record {
      admitted =
          record {
            receiver = omega (arith, below, is.count);
            new =
                λ m. h.fresh (subst (λ (o : Opening). IsMember next o.window) (sym here.opening) m);
          };
      stage = record {
        count =
            ap length h.all ∙ length-set_state old.receivers.items at (slid_state h.before next)
            ∙ is.count;
        receivers =
            λ r state there. each_receiver s es e old.receivers.items at (slid_state h.before next)
            (λ q other. other) is.receivers
            (at_slid s es at next h.before some here) r state
            (ap (λ (xs : List State). slice_get xs r) (sym h.all) ∙ there);
        handed =
            subst (λ (hs : List (Handed _)). AllZip (IsHanded s (es ++ e ∷ []))
            (ended_stays w (es ++ e ∷ [])) hs) (sym out.handed)
            (more_handed s es e old.handed.items stay out.out refl is.handed handed);
        sent =
            ap (λ
            (vs : List (Vec ℕ _)). map octets_of vs
            ++ to_come plan stamp pictures new.next) out.sent
            ∙ ap (λ (n : Next). map octets_of old.sent.items ++ to_come plan stamp pictures n) same
            ∙ is.sent;
        sends = omega (arith, ap length out.sent, is.sends, sends_more es e 0 refl);
      };
    }

pub follows_merge : {A : Type 0} (plan : RasterPlan) (stamp : Stamp) (pictures : List Values)
    (into from : ℕ) (old new : Stage A) → MergesInto into from old.receivers.items
    new.receivers.items
    → new.sent.items ≡ old.sent.items → new.handed.items ≡ old.handed.items → new.next ≡ old.next
    → IsFollowedBy plan stamp pictures (Merge into from) old new
follows_merge plan stamp pictures into from old new h sent handed next s es some is =
    let e : Event = Merge into from in
    let here : IsAt h.before into s es = is.receivers into h.before h.there in
    let there : IsAt h.other from s es = is.receivers from h.other h.there_too in
    let below : into < length old.receivers.items =
    get_below old.receivers.items into h.before h.there in
    let below_too : from < length old.receivers.items =
    get_below old.receivers.items from h.other h.there_too in
    record {
      admitted = record {
        receiver = omega (arith, below, is.count);
        other = omega (arith, below_too, is.count);
        two = h.two;
        alike = ap (λ (o : Opening). o.window) (sym here.opening ∙ h.alike ∙ there.opening);
      };
      stage = record {
        count = ap length h.all ∙ length-set_state old.receivers.items into h.after ∙ is.count;
        receivers =
            λ r state at. each_receiver s es e old.receivers.items into h.after
            (λ q other. other) is.receivers
            (at_merged s es into from h.before h.other h.after here there h.alike
            (subst (λ
            (o : Opening). AreDifferent o.window) h.opening h.receiver.window.different)
            h.opening h.frames) r state
            (ap (λ (xs : List State). slice_get xs r) (sym h.all) ∙ at);
        handed =
            subst (λ (hs : List (Handed _)). AllZip (IsHanded s (es ++ e ∷ []))
            (ended_stays s.opening.window (es ++ e ∷ [])) hs) (sym handed)
            (kept_handed s es e old.handed.items refl is.handed);
        sent =
            ap (λ
            (vs : List (Vec ℕ _)). map octets_of vs ++ to_come plan stamp pictures new.next) sent
            ∙ ap (λ (n : Next). map octets_of old.sent.items ++ to_come plan stamp pictures n) next
            ∙ is.sent;
        sends = omega (arith, ap length sent, is.sends, sends_more es e 0 refl);
      };
    }

-- ---- events that are not admitted

pub unfit_send : {A : Type 0} (plan : RasterPlan) (stamp : Stamp) (pictures : List Values)
    (old : Stage A) → to_come plan stamp pictures old.next ≡ []
    → NeverFits plan stamp pictures Send old
unfit_send plan stamp pictures old none s es is fits =
    absurd (omega (
      arith,
      fits,
      is.sends,
      ap length is.sent,
      ap length none,
      length-append (map octets_of old.sent.items) (to_come plan stamp pictures old.next),
      length-map old.sent.items octets_of,
    ))

pub unfit_arrive : {A : Type 0} (plan : RasterPlan) (stamp : Stamp) (pictures : List Values)
    (to number : ℕ) (path : Path) (old : Stage A)
    → (to < length old.receivers.items → number < length old.sent.items → ⊥)
    → NeverFits plan stamp pictures (Arrive to path number) old
unfit_arrive plan stamp pictures to number path old never s es is fits =
    never (omega (arith, fits.receiver, is.count)) (omega (arith, fits.sent, is.sends))

some_state : (xs : List State) (i n : ℕ) → length xs ≡ n → i < n
    → (state : State) × (slice_get xs i ≡ Some state)
some_state [] i n e lt = absurd (omega (arith, lt, e))
some_state (x ∷ xs) zero n e lt = (x, refl)
some_state (x ∷ xs) (suc i) zero e lt = absurd (omega (arith, lt))
some_state (x ∷ xs) (suc i) (suc n) e lt = some_state xs i n (omega (arith, e)) (omega (arith, lt))

pub unfit_slide : {A : Type 0} (plan : RasterPlan) (stamp : Stamp) (pictures : List Values)
    (at next : ℕ) (old : Stage A)
    → ((state : State) → slice_get old.receivers.items at ≡ Some state
    → IsMember next state.opening.window)
    → NeverFits plan stamp pictures (Slide at next) old
unfit_slide plan stamp pictures at next old never s es is fits =
    let x = some_state old.receivers.items at s.receivers is.count fits.receiver in
    fits.new (subst (λ (o : Opening). IsMember next o.window) (is.receivers at x.0 x.1).opening
    (never x.0 x.1))

pub unfit_merge : {A : Type 0} (plan : RasterPlan) (stamp : Stamp) (pictures : List Values)
    (into from : ℕ) (old : Stage A)
    → ((a b : State) → slice_get old.receivers.items into ≡ Some a
    → slice_get old.receivers.items from ≡ Some b → into ≢ from → a.opening ≢ b.opening)
    → NeverFits plan stamp pictures (Merge into from) old
unfit_merge plan stamp pictures into from old never s es is fits =
    let x = some_state old.receivers.items into s.receivers is.count fits.receiver in
    let y = some_state old.receivers.items from s.receivers is.count fits.other in
    never x.0 y.0 x.1 y.1 fits.two
    ((is.receivers into x.0 x.1).opening ∙ ap (with_window s.opening) fits.alike
    ∙ sym (is.receivers from y.0 y.1).opening)

-- ---- what a call answers

pub on_ok_map : {T E : Type 0} {P Q : Type 0} (r : Result T E) → (P → Q) → OnOk r P → OnOk r Q
on_ok_map (Ok x) f h = f h
on_ok_map (Err e) f h = tt

pub follows_of : {A : Type 0} (plan : RasterPlan) (stamp : Stamp) (pictures : List Values)
    (e f : Event) (old new : Stage A) → f ≡ e → IsFollowedBy plan stamp pictures e old new
    → IsFollowedBy plan stamp pictures f old new
follows_of plan stamp pictures e f old new same h =
    subst (λ (x : Event). IsFollowedBy plan stamp pictures x old new) (sym same) h

pub never_of : {A : Type 0} (plan : RasterPlan) (stamp : Stamp) (pictures : List Values)
    (e f : Event) (old : Stage A) → f ≡ e → NeverFits plan stamp pictures e old
    → NeverFits plan stamp pictures f old
never_of plan stamp pictures e f old same h =
    subst (λ (x : Event). NeverFits plan stamp pictures x old) (sym same) h

pub on_err : {T E : Type 0} {P : Type 0} (r : Result T E) (e : E) → r ≡ Err e → OnErr r P → P
on_err (Ok x) e is h = absurd cc
on_err (Err x) e is h = h
