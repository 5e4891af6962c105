-- Datagrams that are taken in parts.
use Rattle.std.proofs.Common.{◌≡◌, ℕ, Bool, List, [], ◌∷◌, ◌++◌, refl, sym, ap, ◌∙◌, append_assoc}
use Rattle.std.proofs.Common.{append-nil}
use Rattle.follow_engine.specs.Events.{Event, Running, behind, behind_all, events_at, events_in}

pub behind_append : (eager : Bool) (r : Running) (first rest : List (List ℕ))
    → behind_all eager r (first ++ rest) ≡ behind_all eager (behind_all eager r first) rest
behind_append eager r [] rest = refl
behind_append eager r (octets ∷ ds) rest = behind_append eager (behind eager r octets) ds rest

pub events_append : (eager : Bool) (r : Running) (first rest : List (List ℕ))
    → events_in eager r (first ++ rest)
    ≡ events_in eager r first ++ events_in eager (behind_all eager r first) rest
events_append eager r [] rest = refl
events_append eager r (octets ∷ ds) rest =
    ap (λ (es : List Event). events_at eager r octets ++ es)
    (events_append eager (behind eager r octets) ds rest)
    ∙ sym (append_assoc (events_at eager r octets) (events_in eager (behind eager r octets) ds)
    (events_in eager (behind_all eager (behind eager r octets) ds) rest))

-- one datagram more
pub behind_more : (eager : Bool) (r : Running) (ds : List (List ℕ)) (octets : List ℕ)
    → behind_all eager r (ds ++ octets ∷ []) ≡ behind eager (behind_all eager r ds) octets
behind_more eager r ds octets = behind_append eager r ds (octets ∷ [])

pub events_more : (eager : Bool) (r : Running) (ds : List (List ℕ)) (octets : List ℕ)
    → events_in eager r (ds ++ octets ∷ [])
    ≡ events_in eager r ds ++ events_at eager (behind_all eager r ds) octets
events_more eager r ds octets =
    events_append eager r ds (octets ∷ [])
    ∙ ap (λ (es : List Event). events_in eager r ds ++ es)
    (append-nil (events_at eager (behind_all eager r ds) octets))
