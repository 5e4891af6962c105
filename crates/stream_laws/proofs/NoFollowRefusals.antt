-- Against what a run of `follow` read that ended well no refusal speaks.
use Rattle.std.proofs.Common.{◌≡◌, ◌∙◌, ℕ, zero, suc, Bool, true, false, inl, inr, List, [], ◌∷◌}
use Rattle.std.proofs.Common.{Option, None, Some, Result, length, refl, sym, ap, subst, arith, ◌<◌}
use Rattle.std.specs.Prelude.{IsSome, MatchOption, ⊤}
use Rattle.std.specs.List.{AllByRecursion, AllZip}
use Rattle.flow.specs.declared.flows.Flows.{Flows}
use Rattle.media_file.specs.Records.{Entry}
use Rattle.path_receiver.specs.Opening.{Opening}
use Rattle.path_receiver.specs.declared.fault.OpenFault.TheVariants as open_fault
use Rattle.recording_engines.specs.Imported.{AreOver}
use Rattle.recording_engines.specs.Joining.{Strand}
use Rattle.recording_engines.specs.Strands.{fault_of_file}
use Rattle.recording_reader.proofs.Files.{front_first}
use Rattle.recording_reader.specs.Files.{text_of_file}
use Rattle.recording_reader.specs.Kinds.{is_recording}
use Rattle.recording_reader.specs.declared.fault.ReadingFault.TheVariants.{Capture, Recording}
use Rattle.run_outcome.specs.TextRefusals.{IsDescriptionRefusal}
use Rattle.run_outcome.specs.declared.refusal.Refusal.{Refusal}
use Rattle.run_outcome.specs.declared.refusal.Refusal.TheVariants as why
use Rattle.capture_engines.specs.Files.{first_way, flows_in, other_ways}
use Rattle.capture_engines.specs.Received.{IsCaptureBy, IsUntakenRefusal, OneFileIs, StopsFront}
use Rattle.capture_engines.specs.Taking.{AnnouncesStream}
use Rattle.capture_engines.specs.declared.way.Way.{Way}
use Rattle.capture_engines.specs.declared.way.Way.TheVariants as way
use Rattle.side_by_side.specs.InOrder.{record_count}
use Rattle.side_by_side.specs.Strands.{Goes, GoesWhole, TakesAt}
use Rattle.side_by_side.specs.declared.steering.Steering.{Steering}
use Rattle.following.specs.Following.{Handed}
use Rattle.follow_engine.specs.Followed.{FollowsWhole}
use Rattle.follow_engine.specs.Fronts.{StopsFirstFront}
use Rattle.follow_engine.specs.Order.{AreTakenBy, GoesToMost, most_datagrams, strands_by}
use Rattle.follow_engine.specs.Refused.{FirstRefuses, IsFileRefusal, IsFirstRefusal}
use Rattle.follow_engine.specs.Refused.{IsFollowRefusal, IsFollowWordRefusal}
use Rattle.follow_engine.specs.Running.{steering_of}
use Rattle.follow_engine.specs.declared.opening.FollowAsked.{FollowAsked}
use Rattle.follow_engine.specs.declared.telling.FollowTotals.{FollowTotals}
use Rattle.follow_engine.proofs.Counted.{goes_count, whole_count}
use Rattle.run_laws.proofs.NoTextFault.{no_text_fault}
use Rattle.run_laws.proofs.WholeFiles.{fault_never, no_flows}

-- ---- files that go to their ends have no fault

abbrev HaveNoFault : List Strand → Type 0
HaveNoFault ss = AllByRecursion (λ s. s.fault ≡ None) ss

takes_none : (place : ℕ) (ss left : List Strand) (e : Entry) → TakesAt place ss e left
    → HaveNoFault left → HaveNoFault ss
takes_none place [] left e takes none = tt
takes_none place (s ∷ ss) [] e takes none = absurd takes
takes_none zero (s ∷ ss) (l ∷ ls) e takes none = (
  ap (λ (x : Strand). x.fault) takes.0 ∙ none.0,
  subst (λ (x : List Strand). HaveNoFault x) takes.1 none.1,
)
takes_none (suc place) (s ∷ ss) (l ∷ ls) e takes none = (
  ap (λ (x : Strand). x.fault) (sym takes.0) ∙ none.0,
  takes_none place ss ls e takes.1 none.1,
)

goes_none : (st : Steering) (ss : List Strand) (es : List Entry) (left : List Strand)
    → Goes st ss es left → HaveNoFault left → HaveNoFault ss
goes_none st ss [] left goes none = subst (λ (x : List Strand). HaveNoFault x) goes none
goes_none st ss (e ∷ es) left goes none =
    takes_none goes.1.place ss goes.0 e goes.1.takes (goes_none st goes.0 es left goes.2 none)

over_none : (ss : List Strand) → AreOver ss → HaveNoFault ss
over_none [] over = tt
over_none (s ∷ ss) over = (ap (λ (x : Strand). x.fault) over.0, over_none ss over.1)

whole_none : (st : Steering) (ss : List Strand) (es : List Entry) → GoesWhole st ss es
    → HaveNoFault ss
whole_none st ss es goes = goes_none st ss es goes.left goes.goes (over_none goes.left goes.over)

-- Octets are a file that is taken so, without a fault.
record HasNone (w : Way) (octets : List ℕ) : Type 0 where
  pub none : fault_of_file octets ≡ None
  pub by_flows : is_recording octets ≡ true → IsSome (flows_in w)

-- so each is
abbrev HaveNone : List (Result Flows Refusal) → List (List ℕ) → Type 0
HaveNone ways [] = ⊤
HaveNone ways (octets ∷ files) =
    HasNone (first_way ways) octets × HaveNone (other_ways ways) files

have_none : (ways : List (Result Flows Refusal)) (octets : List (List ℕ))
    → HaveNoFault (strands_by ways octets) → AreTakenBy ways octets → HaveNone ways octets
have_none ways [] none by = tt
have_none ways (o ∷ os) none by =
    (record { none = none.0; by_flows = by.0 }, have_none (other_ways ways) os none.1 by.1)

-- ---- so nothing stops one at its front

no_kind : (b : Bool) → (b ≡ true → ⊥) → b ≡ false
no_kind true never = absurd (never refl)
no_kind false never = refl

is_capture : (w : Way) (octets : List ℕ) → (is_recording octets ≡ true → IsSome (flows_in w))
    → IsCaptureBy w octets → is_recording octets ≡ false
is_capture way.Capture octets by capture =
    no_kind (is_recording octets) (λ kind. no_flows (by kind))
is_capture (way.Flows flows) octets by capture = capture
is_capture (way.Refused r) octets by capture = capture

untaken_not : (w : Way) (told : List ℕ → Type 0) (octets : List ℕ) (r : Refusal) → told octets
    → (is_recording octets ≡ true → IsSome (flows_in w)) → IsUntakenRefusal w told r → ⊥
untaken_not (way.Refused e) told octets r there by wrong = no_flows (by (wrong.1 octets there))
untaken_not (way.Flows flows) told octets r there by wrong = absurd wrong
untaken_not way.Capture told octets r there by wrong = absurd wrong

front_not : (w : Way) (told : List ℕ → Type 0) (octets : List ℕ) (r : Refusal) → told octets
    → HasNone w octets → StopsFront w told r → ⊥
front_not w told octets (why.Capture f) there is (inl wrong) =
    fault_never octets (Capture f) is.none (
      is_capture w octets is.by_flows (wrong.1 octets there),
      inl (wrong.0 octets there),
    )
front_not w told octets r there is (inl wrong) = absurd wrong.0
front_not w told octets (why.Recording f) there is (inr (inl wrong)) =
    let at = wrong.1 octets there in
    fault_never octets (Recording f) is.none (at.0, front_first octets f at.1)
front_not w told octets r there is (inr (inl wrong)) = absurd wrong
front_not w told octets r there is (inr (inr wrong)) =
    untaken_not w told octets r there is.by_flows wrong

module _ {F : Type 0} (told : F → List ℕ → Type 0) where
  stop_not : (ways : List (Result Flows Refusal)) (files : List F) (octets : List (List ℕ))
      (r : Refusal) → AllZip told files octets → HaveNone ways octets
      → StopsFirstFront ways told files r → ⊥
  stop_not ways [] octets r read are wrong = wrong
  stop_not ways (s ∷ ss) [] r read are wrong = absurd read
  stop_not ways (s ∷ ss) (o ∷ os) r read are (inl wrong) =
      front_not (first_way ways) (told s) o r read.0 are.0 wrong
  stop_not ways (s ∷ ss) (o ∷ os) r read are (inr wrong) =
      stop_not (other_ways ways) ss os r read.1 are.1 wrong.1

  fault_not : (ways : List (Result Flows Refusal)) (files : List F) (octets : List (List ℕ))
      (r : Refusal) → AllZip told files octets → HaveNone ways octets
      → OneFileIs (λ w s. IsFileRefusal (told s) r) ways files → ⊥
  fault_not ways [] octets r read are wrong = wrong
  fault_not ways (s ∷ ss) [] r read are wrong = absurd read
  fault_not ways (s ∷ ss) (o ∷ os) r read are (inl wrong) =
      fault_never o wrong.0 are.0.none (wrong.2 o read.0)
  fault_not ways (s ∷ ss) (o ∷ os) r read are (inr wrong) =
      fault_not (other_ways ways) ss os r read.1 are.1 wrong

-- ---- the text

text_not : (o : Opening) (text : List ℕ) (r : Refusal) → AnnouncesStream text o
    → IsDescriptionRefusal text r → ⊥
text_not o text (why.Sdp at) says wrong =
    no_text_fault text says.description at.fault says.described wrong
text_not o text r says wrong = absurd wrong

first_text_not : (o : Opening) (text : List ℕ) (r : Refusal) → AnnouncesStream text o
    → IsFirstRefusal text r → ⊥
first_text_not o text r says (inl wrong) =
    let announced : AnnouncesStream [] o =
    subst (λ (t : List ℕ). AnnouncesStream t o) wrong.1 says in
    absurd announced.described
first_text_not o text r says (inr wrong) = text_not o text r says wrong.1

-- ---- how many go

-- files that go whole in fewer records than are counted have no more
too_many : (strands : List Strand) (entries first : List Entry) (st : Steering)
    → record_count strands ≡ length entries → length entries < most_datagrams
    → GoesToMost st strands first → ⊥
too_many strands entries first st count few most =
    omega (
      arith,
      count,
      few,
      most.most,
      goes_count st strands first most.goes.left most.goes.goes,
    )

-- ---- the run

module _ {F K : Type 0} (told : F → List ℕ → Type 0) (w : FollowAsked)
    (ways : List (Result Flows Refusal)) (takes : K → Handed → K → Type 0) (old new : K)
    (took took' : List ℕ) (totals : FollowTotals)
  where
    abbrev Run : Option (List ℕ) → List F → Type 0
    Run sdp files = FollowsWhole w sdp ways told files takes old new took took' totals

    word_not : (sdp : Option (List ℕ)) (files : List F) (r : Refusal) → Run sdp files
        → IsFollowWordRefusal w.frames w.ssrc.now r → ⊥
    word_not sdp files (why.Open open_fault.BadWindow) run wrong = wrong run.size
    word_not sdp files why.ReceiveSource run wrong = wrong run.opening.ssrc run.source_is
    word_not sdp files r run wrong = absurd wrong

    given_not : (sdp : Option (List ℕ)) (files : List F) (octets : List (List ℕ)) (r : Refusal)
        → Run sdp files → AllZip told files octets
        → MatchOption sdp ⊥ (λ text. IsDescriptionRefusal text r) → ⊥
    given_not None files octets r run read wrong = wrong
    given_not (Some text) files octets r run read wrong =
        text_not run.opening text r (run.announced octets text read refl) wrong

    first_not : (sdp : Option (List ℕ)) (files : List F) (octets : List (List ℕ)) (r : Refusal)
        → Run sdp files → AllZip told files octets
        → MatchOption sdp (FirstRefuses told files r) (λ _. ⊥) → ⊥
    first_not (Some text) files octets r run read wrong = wrong
    first_not None [] octets r run read wrong = run.has_text refl refl
    first_not None (s ∷ ss) [] r run read wrong = absurd read
    first_not None (s ∷ ss) (o ∷ os) r run read wrong =
        first_text_not run.opening (text_of_file o) r
        (run.announced (o ∷ os) (text_of_file o) read refl) (wrong o read.0)

    pub follow_not : (sdp : Option (List ℕ)) (files : List F) (octets : List (List ℕ))
        (r : Refusal) → Run sdp files → AllZip told files octets
        → IsFollowRefusal w.frames w.ssrc.now sdp ways told files r → ⊥
    follow_not sdp files octets r run read wrong =
        let goes = run.goes octets read in
        let strands : List Strand = strands_by ways octets in
        let st : Steering = steering_of run.opening in
        let are : HaveNone ways octets =
        have_none ways octets (whole_none st strands run.entries goes)
        (run.by_flows octets read) in
        by are (whole_count st strands run.entries goes) wrong
      where
        by : HaveNone ways octets → record_count (strands_by ways octets) ≡ length run.entries
            → IsFollowRefusal w.frames w.ssrc.now sdp ways told files r → ⊥
        by are count (inl word) = word_not sdp files r run word.0
        by are count (inr (words, inl given)) = given_not sdp files octets r run read given
        by are count (inr (words, inr (said, inl stop))) =
            stop_not told ways files octets r read are stop
        by are count (inr (words, inr (said, inr (fronts, inl first)))) =
            first_not sdp files octets r run read first
        by are count (inr (words, inr (said, inr (fronts, inr (text, inl fault))))) =
            fault_not told ways files octets r read are fault.0
        by are count (inr (words, inr (said, inr (fronts, inr (text, inr many))))) =
            let most = many.1.goes octets read in
            too_many (strands_by ways octets) run.entries many.1.entries
            (steering_of many.1.opening) count run.few most
