-- Of what a run of `follow` read one refusal is told; of an SDP text's fault it may be one or the
-- other.
use Rattle.std.proofs.Common.{◌≡◌, ◌∙◌, ℕ, ◌⊎◌, inl, inr, List, [], ◌∷◌, Option}
use Rattle.std.proofs.Common.{None, Some, Result, refl, sym, ap, subst, arith}
use Rattle.std.specs.Prelude.{MatchOption, ⊤}
use Rattle.std.specs.List.{AllZip}
use Rattle.flow.specs.declared.flows.Flows.{Flows}
use Rattle.media_file.specs.Records.{Entry}
use Rattle.path_receiver.specs.Opening.{IsWindowSize}
use Rattle.path_receiver.specs.declared.fault.OpenFault.TheVariants as open_fault
use Rattle.recording_engines.specs.Joining.{Strand}
use Rattle.recording_reader.specs.Files.{text_of_file}
use Rattle.run_outcome.specs.LowerFaults.{reading_fault}
use Rattle.run_outcome.specs.Sources.{IsSourceText}
use Rattle.run_outcome.specs.TextRefusals.{IsDescriptionRefusal, IsSdp}
use Rattle.run_outcome.specs.declared.fault.Fault.TheVariants.{Refused}
use Rattle.run_outcome.specs.declared.refusal.Refusal.{Refusal}
use Rattle.run_outcome.specs.declared.refusal.Refusal.TheVariants as why
use Rattle.capture_engines.specs.Files.{first_way, other_ways}
use Rattle.capture_engines.specs.Taking.{said_behind}
use Rattle.side_by_side.specs.declared.steering.Steering.{Steering}
use Rattle.follow_engine.specs.Fronts.{HaveSoundFronts, StopsFirstFront}
use Rattle.follow_engine.specs.Order.{GoesToFault, GoesToMost, strands_by}
use Rattle.follow_engine.specs.Refused.{AreTooMany, AskForFrames, FirstDescribes, FirstRefuses}
use Rattle.follow_engine.specs.Refused.{GoesSoFar, IsFirstOfWords, IsFirstRefusal, IsFollowRefusal}
use Rattle.follow_engine.specs.Refused.{IsFollowedRefusal, IsInTurnFault, IsRecordsRefusal}
use Rattle.follow_engine.specs.Running.{steering_of}
use Rattle.follow_engine.proofs.OneFault.{no_more_go, one_in_turn}
use Rattle.run_laws.proofs.OneFileRefusal.{no_front, one_file}
use Rattle.run_laws.proofs.OneTextRefusal.{One, described_none, none_said, one_described}
use Rattle.run_laws.proofs.Opened.{one_payload_type, one_source}

abbrev steering : ℕ → Option ℕ → Steering
steering p ssrc = record { payload_type = p; ssrc = ssrc }

same_refusal : (r q : Refusal) → Refused r ≡ Refused q → r ≡ q
same_refusal r q is = cc

-- ---- the words

abbrev OfFrames : ℕ → Refusal → Type 0
OfFrames frames r = (r ≡ why.Open open_fault.BadWindow) × (IsWindowSize frames → ⊥)

abbrev OfSource : ℕ → List ℕ → Refusal → Type 0
OfSource frames ssrc r = (r ≡ why.ReceiveSource)
    × ((pin : Option ℕ) → IsSourceText ssrc pin → ⊥) × IsWindowSize frames

word_of : (frames : ℕ) (ssrc : List ℕ) (r : Refusal) → IsFirstOfWords frames ssrc r
    → OfFrames frames r ⊎ OfSource frames ssrc r
word_of frames ssrc (why.Open open_fault.BadWindow) is = inl (refl, is.0)
word_of frames ssrc why.ReceiveSource is = inr (refl, is.0, is.1)
word_of frames ssrc r is = absurd is.0

one_word : (frames : ℕ) (ssrc : List ℕ) (r q : Refusal) → IsFirstOfWords frames ssrc r
    → IsFirstOfWords frames ssrc q → One r q
one_word frames ssrc r q is other = by (word_of frames ssrc r is) (word_of frames ssrc q other)
  where
    by : OfFrames frames r ⊎ OfSource frames ssrc r → OfFrames frames q ⊎ OfSource frames ssrc q
        → One r q
    by (inl a) (inl b) = inl (a.0 ∙ sym b.0)
    by (inl a) (inr b) = absurd (a.1 b.2)
    by (inr a) (inl b) = absurd (b.1 a.2)
    by (inr a) (inr b) = inl (a.0 ∙ sym b.0)

word_none : (frames : ℕ) (ssrc : List ℕ) (r : Refusal) → AskForFrames frames ssrc
    → IsFirstOfWords frames ssrc r → ⊥
word_none frames ssrc r ask is = by (word_of frames ssrc r is)
  where
    by : OfFrames frames r ⊎ OfSource frames ssrc r → ⊥
    by (inl a) = a.1 ask.0
    by (inr b) = b.1 ask.1.0 ask.1.1

-- ---- the SDP text

one_given : (sdp : Option (List ℕ)) (r q : Refusal)
    → MatchOption sdp ⊥ (λ text. IsDescriptionRefusal text r)
    → MatchOption sdp ⊥ (λ text. IsDescriptionRefusal text q) → One r q
one_given None r q is other = absurd is
one_given (Some text) r q is other = one_described text r q is other

given_none : (sdp : Option (List ℕ)) (r : Refusal) → MatchOption sdp ⊤ (λ text. IsSdp text)
    → MatchOption sdp ⊥ (λ text. IsDescriptionRefusal text r) → ⊥
given_none None r said is = is
given_none (Some text) r said is = described_none text r said is

one_text : (text : List ℕ) (r q : Refusal) → IsFirstRefusal text r → IsFirstRefusal text q
    → One r q
one_text text r q (inl a) (inl b) = inl (a.0 ∙ sym b.0)
one_text text r q (inl a) (inr b) = absurd (b.0 a.1)
one_text text r q (inr a) (inl b) = absurd (a.0 b.1)
one_text text r q (inr a) (inr b) = one_described text r q a.1 b.1

text_none : (text : List ℕ) (r : Refusal) → IsSdp text → IsFirstRefusal text r → ⊥
text_none text r said (inl a) = none_said (subst (λ (t : List ℕ). IsSdp t) a.1 said)
text_none text r said (inr a) = described_none text r said a.1

-- ---- files

module _ {F : Type 0} (told : F → List ℕ → Type 0) where
  one_stop : (ways : List (Result Flows Refusal)) (files : List F) (octets : List (List ℕ))
      (r q : Refusal) → AllZip told files octets → StopsFirstFront ways told files r
      → StopsFirstFront ways told files q → One r q
  one_stop ways [] octets r q read is other = absurd is
  one_stop ways (s ∷ ss) [] r q read is other = absurd read
  one_stop ways (s ∷ ss) (o ∷ os) r q read (inl a) (inl b) =
      one_file [] (first_way ways) ⊥ (told s) o r q read.0 (inl a) (inl b)
  one_stop ways (s ∷ ss) (o ∷ os) r q read (inl a) (inr b) =
      let text = b.0 o read.0 in
      absurd (no_front (first_way ways) (told s) o text.0 r read.0 text.1 a)
  one_stop ways (s ∷ ss) (o ∷ os) r q read (inr a) (inl b) =
      let text = a.0 o read.0 in
      absurd (no_front (first_way ways) (told s) o text.0 q read.0 text.1 b)
  one_stop ways (s ∷ ss) (o ∷ os) r q read (inr a) (inr b) =
      one_stop (other_ways ways) ss os r q read.1 a.1 b.1

  stop_none : (ways : List (Result Flows Refusal)) (files : List F) (octets : List (List ℕ))
      (r : Refusal) → AllZip told files octets → HaveSoundFronts ways told files
      → StopsFirstFront ways told files r → ⊥
  stop_none ways [] octets r read sound is = is
  stop_none ways (s ∷ ss) [] r read sound is = absurd read
  stop_none ways (s ∷ ss) (o ∷ os) r read sound (inl a) =
      let text = sound.0 o read.0 in
      no_front (first_way ways) (told s) o text.0 r read.0 text.1 a
  stop_none ways (s ∷ ss) (o ∷ os) r read sound (inr a) =
      stop_none (other_ways ways) ss os r read.1 sound.1 a.1

  one_first : (sdp : Option (List ℕ)) (files : List F) (octets : List (List ℕ)) (r q : Refusal)
      → AllZip told files octets → MatchOption sdp (FirstRefuses told files r) (λ _. ⊥)
      → MatchOption sdp (FirstRefuses told files q) (λ _. ⊥) → One r q
  one_first (Some text) files octets r q read is other = absurd is
  one_first None [] octets r q read is other = inl (is ∙ sym other)
  one_first None (s ∷ ss) [] r q read is other = absurd read
  one_first None (s ∷ ss) (o ∷ os) r q read is other =
      one_text (text_of_file o) r q (is o read.0) (other o read.0)

  first_none : (sdp : Option (List ℕ)) (files : List F) (octets : List (List ℕ)) (r : Refusal)
      → AllZip told files octets → MatchOption sdp (FirstDescribes told files) (λ _. ⊤)
      → MatchOption sdp (FirstRefuses told files r) (λ _. ⊥) → ⊥
  first_none (Some text) files octets r read says is = is
  first_none None [] octets r read says is = says
  first_none None (s ∷ ss) [] r read says is = absurd read
  first_none None (s ∷ ss) (o ∷ os) r read says is =
      text_none (text_of_file o) r (says o read.0) (is o read.0)

  -- the text by which the stream is opened
  has_text : (sdp : Option (List ℕ)) (files : List F) (octets : List (List ℕ))
      → AllZip told files octets → MatchOption sdp (FirstDescribes told files) (λ _. ⊤)
      → (text : List ℕ) × (said_behind sdp octets ≡ Some text)
  has_text (Some text) files octets read says = (text, refl)
  has_text None [] octets read says = absurd says
  has_text None (s ∷ ss) [] read says = absurd read
  has_text None (s ∷ ss) (o ∷ os) read says = (text_of_file o, refl)

  -- ---- their records

  module _ (ssrc : List ℕ) (sdp : Option (List ℕ)) (ways : List (Result Flows Refusal))
      (files : List F) (octets : List (List ℕ)) (read : AllZip told files octets)
    where
      one_steering : (Is Other : Steering → List Strand → List Entry → Type 0)
          → MatchOption sdp (FirstDescribes told files) (λ _. ⊤)
          → (a : GoesSoFar ssrc sdp ways told files Is)
          → (b : GoesSoFar ssrc sdp ways told files Other)
          → steering_of a.opening ≡ steering_of b.opening
      one_steering Is Other says a b =
          let text = has_text sdp files octets read says in
          let type =
          one_payload_type text.0 a.opening b.opening (a.announced octets text.0 read text.1)
          (b.announced octets text.0 read text.1) in
          ap (λ (n : ℕ). steering n a.opening.ssrc) type
          ∙ ap (λ (x : Option ℕ). steering b.opening.payload_type x)
          (one_source ssrc a.opening.ssrc b.opening.ssrc a.source_is b.source_is)

      one_turn : (r q : Refusal) → MatchOption sdp (FirstDescribes told files) (λ _. ⊤)
          → IsInTurnFault ssrc sdp ways told files r → IsInTurnFault ssrc sdp ways told files q
          → r ≡ q
      one_turn r q says (f, is, a) (g, other, b) =
          let st : Steering = steering_of a.opening in
          let ss : List Strand = strands_by ways octets in
          let same = one_steering (GoesToFault f) (GoesToFault g) says a b in
          let first : GoesToFault f st ss a.entries = a.goes octets read in
          let second : GoesToFault g st ss b.entries =
          subst (λ (x : Steering). GoesToFault g x ss b.entries) (sym same)
          (b.goes octets read) in
          let one = one_in_turn st ss a.entries b.entries f g first second in
          same_refusal r q (sym is ∙ ap reading_fault one.0 ∙ other)

      -- where one comes to its fault there are no more
      turn_not_many : (r : Refusal) → MatchOption sdp (FirstDescribes told files) (λ _. ⊤)
          → IsInTurnFault ssrc sdp ways told files r → AreTooMany ssrc sdp ways told files → ⊥
      turn_not_many r says (f, is, a) many =
          let st : Steering = steering_of many.opening in
          let ss : List Strand = strands_by ways octets in
          let same = one_steering (GoesToFault f) GoesToMost says a many in
          let turn : GoesToFault f st ss a.entries =
          subst (λ (x : Steering). GoesToFault f x ss a.entries) same (a.goes octets read) in
          let most : GoesToMost st ss many.entries = many.goes octets read in
          omega (
            arith,
            turn.few,
            most.most,
            no_more_go st f ss turn.left most.goes.left a.entries many.entries turn.goes turn.at
                most.goes.goes,
          )

      one_of_records : (r q : Refusal) → MatchOption sdp (FirstDescribes told files) (λ _. ⊤)
          → IsRecordsRefusal ssrc sdp ways told files r
          → IsRecordsRefusal ssrc sdp ways told files q → One r q
      one_of_records r q says (inl a) (inl b) = inl (one_turn r q says a.1 b.1)
      one_of_records r q says (inl a) (inr b) = absurd (turn_not_many r says a.1 b.1)
      one_of_records r q says (inr a) (inl b) = absurd (turn_not_many q says b.1 a.1)
      one_of_records r q says (inr a) (inr b) = inl (a.0 ∙ sym b.0)

      -- ---- all of it

      one_of_files : (r q : Refusal) → IsFollowedRefusal ssrc sdp ways told files r
          → IsFollowedRefusal ssrc sdp ways told files q → One r q
      one_of_files r q (inl a) (inl b) = one_stop ways files octets r q read a b
      one_of_files r q (inl a) (inr b) = absurd (stop_none ways files octets r read b.0 a)
      one_of_files r q (inr a) (inl b) = absurd (stop_none ways files octets q read a.0 b)
      one_of_files r q (inr (sound, inl a)) (inr (so, inl b)) =
          one_first sdp files octets r q read a b
      one_of_files r q (inr (sound, inl a)) (inr (so, inr b)) =
          absurd (first_none sdp files octets r read b.0 a)
      one_of_files r q (inr (sound, inr a)) (inr (so, inl b)) =
          absurd (first_none sdp files octets q read a.0 b)
      one_of_files r q (inr (sound, inr a)) (inr (so, inr b)) =
          one_of_records r q a.0 a.1 b.1

      pub one_refusal : (frames : ℕ) (r q : Refusal)
          → IsFollowRefusal frames ssrc sdp ways told files r
          → IsFollowRefusal frames ssrc sdp ways told files q → One r q
      one_refusal frames r q (inl a) (inl b) = one_word frames ssrc r q a b
      one_refusal frames r q (inl a) (inr b) = absurd (word_none frames ssrc r b.0 a)
      one_refusal frames r q (inr a) (inl b) = absurd (word_none frames ssrc q a.0 b)
      one_refusal frames r q (inr (ask, inl a)) (inr (so, inl b)) = one_given sdp r q a b
      one_refusal frames r q (inr (ask, inl a)) (inr (so, inr b)) =
          absurd (given_none sdp r b.0 a)
      one_refusal frames r q (inr (ask, inr a)) (inr (so, inl b)) =
          absurd (given_none sdp q a.0 b)
      one_refusal frames r q (inr (ask, inr a)) (inr (so, inr b)) = one_of_files r q a.1 b.1
