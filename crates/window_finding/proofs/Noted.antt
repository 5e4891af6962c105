-- The first timestamps of datagrams, and of more of them.
use Rattle.std.proofs.Common.{◌≡◌, ℕ, ◌≤◌, List, [], ◌∷◌, ◌++◌, length, take, Option, None}
use Rattle.std.proofs.Common.{Some, sym, ap, ◌∙◌, append-nil}
use Rattle.std.proofs.lemmas.Grind.{flat_map-append}
use Rattle.std.specs.List.{cons_option}
use Rattle.window_finding.specs.First.{distinct, first_timestamps, timestamp_in, timestamps_in}
use Rattle.window_finding.proofs.Distinct.{full_stays}

timestamps_on : (payload_type : ℕ) (ssrc : Option ℕ) (ds more : List (List ℕ))
    → timestamps_in payload_type ssrc (ds ++ more)
    ≡ timestamps_in payload_type ssrc ds ++ timestamps_in payload_type ssrc more
timestamps_on payload_type ssrc ds more = flat_map-append (timestamp_in payload_type ssrc) ds more

-- where so many are found, datagrams behind them change nothing
pub first_full : (n payload_type : ℕ) (ssrc : Option ℕ) (ds more : List (List ℕ)) (w : List ℕ)
    → w ≡ first_timestamps n payload_type ssrc ds → n ≤ length w
    → w ≡ first_timestamps n payload_type ssrc (ds ++ more)
first_full n payload_type ssrc ds more w is full =
    full_stays n w (timestamps_in payload_type ssrc ds) (timestamps_in payload_type ssrc more) is
    full
    ∙ ap (λ (ts : List ℕ). take n (distinct ts)) (sym (timestamps_on payload_type ssrc ds more))

-- one datagram more
one_on : (payload_type : ℕ) (ssrc : Option ℕ) (ds : List (List ℕ)) (d : List ℕ) (t : Option ℕ)
    → timestamp_in payload_type ssrc d ≡ cons_option t []
    → timestamps_in payload_type ssrc (ds ++ d ∷ [])
    ≡ timestamps_in payload_type ssrc ds ++ cons_option t []
one_on payload_type ssrc ds d t is =
    timestamps_on payload_type ssrc ds (d ∷ [])
    ∙ ap (λ (ts : List ℕ). timestamps_in payload_type ssrc ds ++ ts)
    (append-nil (timestamp_in payload_type ssrc d) ∙ is)

-- that does not come
pub first_same : (n payload_type : ℕ) (ssrc : Option ℕ) (ds : List (List ℕ)) (d w : List ℕ)
    → timestamp_in payload_type ssrc d ≡ [] → w ≡ first_timestamps n payload_type ssrc ds
    → w ≡ first_timestamps n payload_type ssrc (ds ++ d ∷ [])
first_same n payload_type ssrc ds d w none is =
    is
    ∙ ap (λ (ts : List ℕ). take n (distinct ts))
    (sym (one_on payload_type ssrc ds d None none
    ∙ append-nil (timestamps_in payload_type ssrc ds)))

-- that comes with a timestamp
pub first_more : (n payload_type : ℕ) (ssrc : Option ℕ) (ds : List (List ℕ)) (d w w' : List ℕ)
    (t : ℕ) → timestamp_in payload_type ssrc d ≡ t ∷ []
    → ((ts : List ℕ) → w ≡ take n (distinct ts) → w' ≡ take n (distinct (ts ++ t ∷ [])))
    → w ≡ first_timestamps n payload_type ssrc ds
    → w' ≡ first_timestamps n payload_type ssrc (ds ++ d ∷ [])
first_more n payload_type ssrc ds d w w' t one added is =
    added (timestamps_in payload_type ssrc ds) is
    ∙ ap (λ (ts : List ℕ). take n (distinct ts))
    (sym (one_on payload_type ssrc ds d (Some t) one))
