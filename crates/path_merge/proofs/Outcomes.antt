-- Every admitted schedule has an outcome.
use Rattle.std.proofs.Common.{◌≡◌, ℕ, zero, suc, ◌+◌, ◌<◌, ◌≤◌, inl, inr, List, [], ◌∷◌, ◌++◌}
use Rattle.std.proofs.Common.{length, take, drop, map, get_or, Some, refl, sym, ap, ◌∙◌, subst}
use Rattle.std.proofs.Common.{arith}
use Rattle.std.specs.Prelude.{slice_get}
use Rattle.std.proofs.lemmas.Bool.Decides.{eqb_tells}
use Rattle.std.proofs.lemmas.List.{take_all}
use Rattle.std.proofs.lemmas.Option.{slice_get-get_or}
use Rattle.st_format.specs.Member.{IsMember}
use Rattle.st_format.specs.Raster.{raster_of}
use Rattle.st_format.proofs.Members.{member_cases}
use Rattle.st_format.specs.Device.{AreOctets}
use Rattle.path_receiver.specs.Frames.{State, frames_of, joined_frames}
use Rattle.path_receiver.specs.Opening.{Opening, AreDifferent}
use Rattle.path_receiver.specs.Sliding.{slid_state, with_window}
use Rattle.path_merge.specs.declared.schedule.event.Event.{Event}
use Rattle.path_merge.specs.declared.schedule.event.Event.TheVariants.{Send, Arrive, Slide, Merge}
use Rattle.path_merge.specs.Admitted.{AreAdmittedTo, CanSlide, IsAdmitted, send_count}
use Rattle.path_merge.specs.Reached.{Scene, IsAt, Spares}
use Rattle.path_merge.proofs.PlayLemmas.{take_more}
use Rattle.path_merge.proofs.StageLemmas.{sends_more}
use Rattle.path_merge.proofs.StayFrames.{at_left, at_merged, at_opening, at_slid, at_taken}

different_snoc : (n : ℕ) (w : List ℕ) → AreDifferent w → (IsMember n w → ⊥)
    → AreDifferent (w ++ n ∷ [])
different_snoc n [] different out = ((λ m. m), tt)
different_snoc n (t ∷ w) different out = (
  (λ m. elim
      (member_cases t w
      (n ∷ []) m) [
        | inl a ↦ different.0 a
        | inr b ↦ elim b [
          | inl e ↦ out
              (inl (sym e))
          | inr z ↦ absurd z
        ]
      ]),
  different_snoc n w different.1 (λ m. out (inr m)),
)

different_moved : (n : ℕ) (w : List ℕ) → AreDifferent w → (IsMember n w → ⊥)
    → AreDifferent (drop 1 w ++ n ∷ [])
different_moved n [] different out = ((λ m. m), tt)
different_moved n (t ∷ w) different out = different_snoc n w different.1 (λ m. out (inr m))

-- a receiver after some events, in a window without doubles
pub record Outcome (s : Scene) (events : List Event) (r : ℕ) : Type 0 where
  pub state : State
  pub is_at : IsAt state r s events
  pub different : AreDifferent state.opening.window

left_one : (s : Scene) (es : List Event) (e : Event) (r : ℕ) → Spares e r → Outcome s es r
    → Outcome s (es ++ e ∷ []) r
left_one s es e r leaves o =
    record {
      state = o.state;
      is_at = at_left s es e r o.state leaves o.is_at;
      different =
          o.different;
    }

outcome_more : (s : Scene) (es : List Event) (e : Event) (r : ℕ) → 0 < length s.opening.window
    → ((n : ℕ) (octets : List ℕ) → slice_get s.sent n ≡ Some octets → AreOctets octets)
    → send_count es ≤ length s.sent
    → IsAdmitted e s es → ((q : ℕ) → Outcome s es q) → Outcome s (es ++ e ∷ []) r
outcome_more s es Send r some octets most admitted all = left_one s es Send r tt (all r)
outcome_more s es (Arrive to path n) r some octets most admitted all = elim (eqb_tells to r) [
  | inr other ↦ left_one s es (Arrive to path n) r other.1 (all r)
  | inl same ↦
      let o = all r in
      let there : slice_get s.sent n ≡ Some (get_or s.sent n []) =
      slice_get-get_or s.sent n [] (omega (arith, admitted.sent, most)) in
      let new : State =
      record {
        opening = o.state.opening;
        frames =
            joined_frames o.state.frames (frames_of o.state.opening (get_or s.sent n [] ∷ []));
        refusals = o.state.refusals;
      } in
      record {
        state = new;
        is_at =
            subst (λ (x : ℕ). IsAt new r s (es ++ Arrive x path n ∷ [])) (sym same.1)
            (at_taken s es r n path (get_or s.sent n []) o.state new there
            (octets n (get_or s.sent n []) there) o.is_at refl refl);
        different = o.different;
      }
]
outcome_more s es (Slide at next) r some octets most admitted all = elim (eqb_tells at r) [
  | inr other ↦ left_one s es (Slide at next) r other.1 (all r)
  | inl same ↦
      let o = all r in
      record {
        state = slid_state o.state next;
        is_at =
            subst (λ (x : ℕ). IsAt (slid_state o.state next) r s (es ++ Slide x next ∷ []))
            (sym same.1)
            (at_slid s es r next o.state some o.is_at);
        different = different_moved next o.state.opening.window o.different
            (λ m. CanSlide.new (subst (λ (x : ℕ). CanSlide s es x next) same.1 admitted)
            (subst (λ (y : Opening). IsMember next y.window) o.is_at.opening m));
      }
]
outcome_more s es (Merge into from) r some octets most admitted all = elim (eqb_tells into r) [
  | inr other ↦ left_one s es (Merge into from) r other.1 (all r)
  | inl same ↦
      let o = all into in
      let q = all from in
      let alike : o.state.opening ≡ q.state.opening =
      o.is_at.opening ∙ ap (with_window s.opening) admitted.alike ∙ sym q.is_at.opening in
      let new : State =
      record {
        opening = o.state.opening;
        frames =
            joined_frames o.state.frames q.state.frames;
        refusals = o.state.refusals;
      } in
      record {
        state = new;
        is_at =
            subst (λ (x : ℕ). IsAt new x s (es ++ Merge into from ∷ [])) same.1
            (at_merged s es into from o.state q.state new o.is_at q.is_at alike o.different refl
            refl);
        different = o.different;
      }
]

sends_within : (s : Scene) (es : List Event) (e : Event) → send_count es ≤ length s.sent
    → IsAdmitted e s es → send_count (es ++ e ∷ []) ≤ length s.sent
sends_within s es Send most admitted = omega (arith, admitted, sends_more es Send 1 refl)
sends_within s es (Arrive to path n) most admitted =
    omega (arith, most, sends_more es (Arrive to path n) 0 refl)
sends_within s es (Slide at next) most admitted =
    omega (arith, most, sends_more es (Slide at next) 0 refl)
sends_within s es (Merge into from) most admitted =
    omega (arith, most, sends_more es (Merge into from) 0 refl)

outcomes_to : (s : Scene) (events : List Event) (k : ℕ) → 0 < length s.opening.window
    → AreDifferent s.opening.window
    → ((n : ℕ) (octets : List ℕ) → slice_get s.sent n ≡ Some octets → AreOctets octets)
    → AreAdmittedTo events s k → k ≤ length events
    → ((r : ℕ) → Outcome s (take k events) r) × (send_count (take k events) ≤ length s.sent)
outcomes_to s events zero some different octets admitted le =
    let start : State =
    record {
      opening = s.opening;
      frames =
          map (raster_of s.opening.format []) s.opening.window;
      refusals = [];
    } in (
      (λ r. record {
        state = start;
        is_at = at_opening s r start refl refl;
        different =
            different;
      }),
      omega arith,
    )
outcomes_to s events (suc k) some different octets admitted le =
    let before =
    outcomes_to s events k some different octets (λ p e lt. admitted p e (omega (arith, lt)))
    (omega (arith, le)) in
    let e : Event = get_or events k Send in
    let there : slice_get events k ≡ Some e = slice_get-get_or events k Send (omega (arith, le)) in
    let one : take (suc k) events ≡ take k events ++ e ∷ [] =
    (let z : suc k ≡ k + 1 =
    omega arith in ap (λ (n : ℕ). take n events) z ∙ take_more events k e there) in
    let is : IsAdmitted e s (take k events) = admitted k e (omega arith) there in (
      (λ r. subst (λ (es : List Event). Outcome s es r) (sym one)
          (outcome_more s (take k events) e r some octets before.1 is before.0)),
      subst (λ (es : List Event). send_count es ≤ length s.sent) (sym one)
          (sends_within s (take k events) e before.1 is),
    )

pub outcomes : (s : Scene) (events : List Event) → 0 < length s.opening.window
    → AreDifferent s.opening.window
    → ((n : ℕ) (octets : List ℕ) → slice_get s.sent n ≡ Some octets → AreOctets octets)
    → AreAdmittedTo events s (length events) → (r : ℕ) → (state : State) × IsAt state r s events
outcomes s events some different octets admitted r =
    let o : Outcome s events r =
    subst (λ (es : List Event). Outcome s es r) (take_all (length events) events (omega arith))
    ((outcomes_to s events (length events) some different octets admitted (omega arith)).0 r) in
    (o.state, o.is_at)
