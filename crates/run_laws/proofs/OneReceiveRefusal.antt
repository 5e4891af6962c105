-- Of what a run of `receive` read one refusal is told; of an SDP text's fault it may be one or the
-- other.
use Rattle.std.proofs.Common.{◌≡◌, ◌∙◌, ℕ, ◌⊎◌, inl, inr, List, [], ◌∷◌, ◌++◌, Option, None, Some}
use Rattle.std.proofs.Common.{Result, length, refl, sym, subst, arith}
use Rattle.flow.specs.declared.flows.Flows.{Flows}
use Rattle.run_outcome.specs.Moments.{WasRead}
use Rattle.run_outcome.specs.Sources.{IsSourceText}
use Rattle.run_outcome.specs.TextRefusals.{GivesAbove}
use Rattle.run_outcome.specs.Timestamps.{AreTimestamps}
use Rattle.run_outcome.specs.declared.refusal.Refusal.{Refusal}
use Rattle.run_outcome.specs.declared.refusal.Refusal.TheVariants as why
use Rattle.capture_engines.specs.Files.{AreReadWhole, IsReadWhole, first_way, other_ways, way_at}
use Rattle.capture_engines.specs.Received.{AskFor, FileOpens, GivenOpens, IfFirst}
use Rattle.capture_engines.specs.Received.{IsFirstFilesRefusal, IsFirstWordRefusal}
use Rattle.capture_engines.specs.Received.{IsGivenCapturesRefusal, IsGivenFilesRefusal}
use Rattle.capture_engines.specs.Received.{IsGivenRefusal, IsOpeningRefusal, IsReceiveRefusal}
use Rattle.capture_engines.specs.Received.{IsReceivingRefusal, IsTurnRefusal}
use Rattle.capture_engines.specs.Taking.{IsShortText}
use Rattle.capture_engines.proofs.FirstRefused.{turn_map}
use Rattle.run_laws.specs.Received.{read_of}
use Rattle.run_laws.proofs.OneFileRefusal.{file_not, one_file}
use Rattle.run_laws.proofs.OneTextRefusal.{One, one_opening, opening_none}
use Rattle.run_laws.proofs.Opened.{one_window}
use Rattle.run_laws.proofs.Receiving.{was_read}

-- ---- files

not_empty : {X : Type 0} (front behind : List X) (at : X) → front ++ at ∷ behind ≡ [] → ⊥
not_empty [] behind at is = cc
not_empty (x ∷ xs) behind at is = cc

module _ {S : Type 0} (gave : S → List ℕ) (ended : S → Type 0) where
  abbrev told : S × S → List ℕ → Type 0
  told = WasRead gave ended

  -- one is refused, and those before it were taken to their ends
  abbrev Refuses : List ℕ → Type 0 → List (Result Flows Refusal) → List (S × S) → Refusal → Type 0
  Refuses window U ways [] r = ⊥
  Refuses window U ways (s ∷ ss) r = IsTurnRefusal window (first_way ways) U (told s) r
      ⊎ (IsReadWhole (first_way ways) (told s)
      × (U → FileOpens window (first_way ways) (told s))
      × Refuses window ⊥ (other_ways ways) ss r)

  refuses : (window : List ℕ) (U : Type 0) (ways : List (Result Flows Refusal))
      (front behind : List (S × S)) (at : S × S) (r : Refusal) → AreReadWhole ways told front
      → (U → IfFirst (λ s. FileOpens window (first_way ways) (told s)) front)
      → IsTurnRefusal window (way_at ways (length front)) (U × (front ≡ [])) (told at) r
      → Refuses window U ways (front ++ at ∷ behind) r
  refuses window U ways [] behind at r whole opened is =
      inl (turn_map window (first_way ways) (U × (none ≡ none)) U (told at) r (λ both. both.0)
      (λ one. (one, refl)) is)
    where
      none : List (S × S)
      none = []
  refuses window U ways (s ∷ ss) behind at r whole opened is =
      inr (
        whole.0,
        opened,
        refuses window ⊥ (other_ways ways) ss behind at r whole.1 (λ never. absurd never)
            (turn_map window (way_at (other_ways ways) (length ss)) (U × (s ∷ ss ≡ []))
            (⊥ × (ss ≡ [])) (told at) r (λ both. absurd (not_empty [] ss s both.1))
            (λ both. absurd both.0) is),
      )

  one_refused : (window : List ℕ) (U : Type 0) (ways : List (Result Flows Refusal))
      (xs : List (S × S)) (r q : Refusal) → Refuses window U ways xs r
      → Refuses window U ways xs q → One r q
  one_refused window U ways [] r q is other = absurd is
  one_refused window U ways (s ∷ ss) r q (inl is) (inl other) =
      one_file window (first_way ways) U (told s) (read_of gave s) r q (was_read gave ended s) is
      other
  one_refused window U ways (s ∷ ss) r q (inl is) (inr other) =
      absurd (file_not window (first_way ways) U (told s) (read_of gave s) r
      (was_read gave ended s) other.0 other.1 is)
  one_refused window U ways (s ∷ ss) r q (inr is) (inl other) =
      absurd (file_not window (first_way ways) U (told s) (read_of gave s) q
      (was_read gave ended s) is.0 is.1 other)
  one_refused window U ways (s ∷ ss) r q (inr is) (inr other) =
      one_refused window ⊥ (other_ways ways) ss r q is.2 other.2

  one_of_files : {X : Type 0} (window : List ℕ) (sdp : Option X)
      (ways : List (Result Flows Refusal)) (xs : List (S × S)) (r q : Refusal)
      → IsFirstFilesRefusal window sdp ways told xs r
      → IsFirstFilesRefusal window sdp ways told xs q → One r q
  one_of_files window sdp ways xs r q (inl a) (inl b) = inl (a.2 ∙ sym b.2)
  one_of_files window sdp ways xs r q (inl a) (inr b) =
      absurd (not_empty b.front b.behind b.at (sym b.parts ∙ a.1))
  one_of_files window sdp ways xs r q (inr a) (inl b) =
      absurd (not_empty a.front a.behind a.at (sym a.parts ∙ b.1))
  one_of_files window sdp ways xs r q (inr a) (inr b) =
      one_refused window (sdp ≡ None) ways xs r q
      (subst (λ (l : List (S × S)). Refuses window (sdp ≡ None) ways l r) (sym a.parts)
      (refuses window (sdp ≡ None) ways a.front a.behind a.at r a.whole a.opened a.refused))
      (subst (λ (l : List (S × S)). Refuses window (sdp ≡ None) ways l q) (sym b.parts)
      (refuses window (sdp ≡ None) ways b.front b.behind b.at q b.whole b.opened b.refused))

  -- ---- files behind an SDP text that is given itself

  one_of_given : (window : List ℕ) (sdp : Option (List ℕ)) (ways : List (Result Flows Refusal))
      (xs : List (S × S)) (r q : Refusal) → IsGivenFilesRefusal window sdp ways told xs r
      → IsGivenFilesRefusal window sdp ways told xs q → One r q
  one_of_given window None ways xs r q (inl is) other = absurd is
  one_of_given window None ways xs r q (inr is) (inl other) = absurd other
  one_of_given window None ways xs r q (inr is) (inr other) =
      one_of_files {X = List ℕ} window None ways xs r q is.1 other.1
  one_of_given window (Some text) ways xs r q (inl is) (inl other) =
      one_opening window text r q is other
  one_of_given window (Some text) ways xs r q (inl is) (inr other) =
      absurd (opening_none window text r other.0 is)
  one_of_given window (Some text) ways xs r q (inr is) (inl other) =
      absurd (opening_none window text q is.0 other)
  one_of_given window (Some text) ways xs r q (inr is) (inr other) =
      one_of_files window (Some text) ways xs r q is.1 other.1

  -- ---- the SDP text

  given_of : (window : List ℕ) (s : S × S) (r : Refusal) → IsGivenRefusal window (told s) r
      → ((r ≡ why.ReceiveSdp) × GivesAbove 16777216 (told s))
      ⊎ (IsShortText (told s)
      × ((octets : List ℕ) → told s octets → IsOpeningRefusal window octets r))
  given_of window s why.ReceiveSdp is = inl (refl, is)
  given_of window s r is = inr is

  one_given : (window : List ℕ) (s : S × S) (r q : Refusal) → IsGivenRefusal window (told s) r
      → IsGivenRefusal window (told s) q → One r q
  one_given window s r q is other = by (given_of window s r is) (given_of window s q other)
    where
      octets : List ℕ
      octets = read_of gave s

      by : ((r ≡ why.ReceiveSdp) × GivesAbove 16777216 (told s))
          ⊎ (IsShortText (told s)
          × ((l : List ℕ) → told s l → IsOpeningRefusal window l r))
          → ((q ≡ why.ReceiveSdp) × GivesAbove 16777216 (told s))
          ⊎ (IsShortText (told s)
          × ((l : List ℕ) → told s l → IsOpeningRefusal window l q)) → One r q
      by (inl a) (inl b) = inl (a.0 ∙ sym b.0)
      by (inl a) (inr b) =
          absurd (omega (
            arith,
            a.1 (read_of gave s) (was_read gave ended s),
            b.0 (read_of gave s) (was_read gave ended s),
          ))
      by (inr a) (inl b) =
          absurd (omega (
            arith,
            b.1 (read_of gave s) (was_read gave ended s),
            a.0 (read_of gave s) (was_read gave ended s),
          ))
      by (inr a) (inr b) =
          one_opening window (read_of gave s) r q
          (a.1 (read_of gave s) (was_read gave ended s))
          (b.1 (read_of gave s) (was_read gave ended s))

  given_none : (window : List ℕ) (s : S × S) (r : Refusal) → GivenOpens window (told s)
      → IsGivenRefusal window (told s) r → ⊥
  given_none window s r opens is = by (given_of window s r is)
    where
      by : ((r ≡ why.ReceiveSdp) × GivesAbove 16777216 (told s))
          ⊎ (IsShortText (told s)
          × ((l : List ℕ) → told s l → IsOpeningRefusal window l r)) → ⊥
      by (inl a) =
          omega (
            arith,
            a.1 (read_of gave s) (was_read gave ended s),
            opens.0 (read_of gave s) (was_read gave ended s),
          )
      by (inr b) =
          opening_none window (read_of gave s) r
          (opens.1 (read_of gave s) (was_read gave ended s))
          (b.1 (read_of gave s) (was_read gave ended s))

  one_of_captures : (window : List ℕ) (sdp : Option (S × S)) (xs : List (S × S)) (r q : Refusal)
      → IsGivenCapturesRefusal window sdp told xs r
      → IsGivenCapturesRefusal window sdp told xs q → One r q
  one_of_captures window None xs r q (inl is) other = absurd is
  one_of_captures window None xs r q (inr is) (inl other) = absurd other
  one_of_captures window None xs r q (inr is) (inr other) =
      one_of_files {X = S × S} window None [] xs r q is.1 other.1
  one_of_captures window (Some s) xs r q (inl is) (inl other) = one_given window s r q is other
  one_of_captures window (Some s) xs r q (inl is) (inr other) =
      absurd (given_none window s r other.0 is)
  one_of_captures window (Some s) xs r q (inr is) (inl other) =
      absurd (given_none window s q is.0 other)
  one_of_captures window (Some s) xs r q (inr is) (inr other) =
      one_of_files window (Some s) [] xs r q is.1 other.1

-- ---- the words

word_of : (window ssrc : List ℕ) (r : Refusal) → IsFirstWordRefusal window ssrc r
    → ((r ≡ why.ReceiveWindow) × ((ts : List ℕ) → AreTimestamps window ts → ⊥))
    ⊎ ((r ≡ why.ReceiveSource) × ((pin : Option ℕ) → IsSourceText ssrc pin → ⊥)
    × ((ts : List ℕ) × AreTimestamps window ts))
word_of window ssrc why.ReceiveWindow is = inl (refl, is.0)
word_of window ssrc why.ReceiveSource is = inr (refl, is.0, is.1)
word_of window ssrc r is = absurd is.0

one_word : (window ssrc : List ℕ) (r q : Refusal) → IsFirstWordRefusal window ssrc r
    → IsFirstWordRefusal window ssrc q → One r q
one_word window ssrc r q is other =
    by (word_of window ssrc r is) (word_of window ssrc q other)
  where
    by : ((r ≡ why.ReceiveWindow) × ((ts : List ℕ) → AreTimestamps window ts → ⊥))
        ⊎ ((r ≡ why.ReceiveSource) × ((pin : Option ℕ) → IsSourceText ssrc pin → ⊥)
        × ((ts : List ℕ) × AreTimestamps window ts))
        → ((q ≡ why.ReceiveWindow) × ((ts : List ℕ) → AreTimestamps window ts → ⊥))
        ⊎ ((q ≡ why.ReceiveSource) × ((pin : Option ℕ) → IsSourceText ssrc pin → ⊥)
        × ((ts : List ℕ) × AreTimestamps window ts)) → One r q
    by (inl a) (inl b) = inl (a.0 ∙ sym b.0)
    by (inl a) (inr b) = absurd (a.1 b.2.0 b.2.1)
    by (inr a) (inl b) = absurd (b.1 a.2.0 a.2.1)
    by (inr a) (inr b) = inl (a.0 ∙ sym b.0)

word_none : (window ssrc ts : List ℕ) (r : Refusal) → AskFor window ssrc ts
    → IsFirstWordRefusal window ssrc r → ⊥
word_none window ssrc ts r ask is = by (word_of window ssrc r is)
  where
    by : ((r ≡ why.ReceiveWindow) × ((us : List ℕ) → AreTimestamps window us → ⊥))
        ⊎ ((r ≡ why.ReceiveSource) × ((pin : Option ℕ) → IsSourceText ssrc pin → ⊥)
        × ((us : List ℕ) × AreTimestamps window us)) → ⊥
    by (inl a) = a.1 ts ask.0
    by (inr b) = b.1 ask.1.0 ask.1.1

pub one_refusal : {S : Type 0} (gave : S → List ℕ) (ended : S → Type 0)
    (window ssrc : List ℕ) (sdp : Option (S × S)) (captures : List (S × S)) (r q : Refusal)
    → IsReceiveRefusal window ssrc sdp (WasRead gave ended) captures r
    → IsReceiveRefusal window ssrc sdp (WasRead gave ended) captures q → One r q
one_refusal gave ended window ssrc sdp captures r q (inl is) (inl other) =
    one_word window ssrc r q is other
one_refusal gave ended window ssrc sdp captures r q (inl is) (inr other) =
    absurd (word_none window ssrc other.0 r other.1 is)
one_refusal gave ended window ssrc sdp captures r q (inr is) (inl other) =
    absurd (word_none window ssrc is.0 q is.1 other)
one_refusal gave ended window ssrc sdp captures r q (inr is) (inr other) =
    one_of_captures gave ended is.0 sdp captures r q is.2
    (subst (λ (ts : List ℕ). IsGivenCapturesRefusal ts sdp (WasRead gave ended) captures q)
    (one_window window other.0 is.0 other.1.0 is.1.0) other.2)

-- so of files, each taken so, where the SDP text is given itself
pub one_of_received : {S : Type 0} (gave : S → List ℕ) (ended : S → Type 0)
    (window ssrc : List ℕ) (sdp : Option (List ℕ)) (ways : List (Result Flows Refusal))
    (files : List (S × S)) (r q : Refusal)
    → IsReceivingRefusal window ssrc sdp ways (WasRead gave ended) files r
    → IsReceivingRefusal window ssrc sdp ways (WasRead gave ended) files q → One r q
one_of_received gave ended window ssrc sdp ways files r q (inl is) (inl other) =
    one_word window ssrc r q is other
one_of_received gave ended window ssrc sdp ways files r q (inl is) (inr other) =
    absurd (word_none window ssrc other.0 r other.1 is)
one_of_received gave ended window ssrc sdp ways files r q (inr is) (inl other) =
    absurd (word_none window ssrc is.0 q is.1 other)
one_of_received gave ended window ssrc sdp ways files r q (inr is) (inr other) =
    one_of_given gave ended is.0 sdp ways files r q is.2
    (subst (λ (ts : List ℕ). IsGivenFilesRefusal ts sdp ways (WasRead gave ended) files q)
    (one_window window other.0 is.0 other.1.0 is.1.0) other.2)
