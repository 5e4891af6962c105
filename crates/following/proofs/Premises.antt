-- The premises on times, in the words of the grammar, and within half a round.
use Rattle.std.proofs.Common.{◌≡◌, ◌↔◌, ℕ, ◌<◌, inl, inr, List, ◌∷◌, ◌++◌, length}
use Rattle.std.proofs.Common.{Result, Ok, Err, refl, sym, subst, arith}
use Rattle.st_format.specs.Device.{AreOctets}
use Rattle.st_format.specs.Member.{IsMember}
use Rattle.st_format.proofs.Members.{member-flat_map, member_left, member_right}
use Rattle.path_receiver.specs.declared.answer.Refusal.{Refusal}
use Rattle.path_receiver.specs.Grammar.{Datagram}
use Rattle.path_receiver.specs.Opening.{Opening}
use Rattle.path_receiver.proofs.Offered.{admitted_for, admitted_takes}
use Rattle.following.specs.Acts.{AreNearby}
use Rattle.following.specs.Follower.{reading_of}
use Rattle.following.specs.Times.{AreInHalf, AreOfTimes, AreTimed, AreWithin, HasTime, IsInHalf, IsNear}
use Rattle.following.specs.Times.{IsOrderly, Timed, newer_than, time_if, time_of, times_of}
use Rattle.following.proofs.WholeList.{times_has}

pub timed_grammar : (o : Opening) (xs : List Timed)
    → ((x : Timed) → IsMember x xs → AreOctets x.octets) → AreOfTimes o xs → AreTimed o xs
timed_grammar o xs fit of_times x d m read =
    of_times x d m (admitted_takes o x.octets d (fit x m) read)

has_from : (o : Opening) (xs : List Timed) (u : ℕ) (x : Timed) (r : Result Datagram Refusal)
    → IsMember x xs → AreOctets x.octets → reading_of o x.octets ≡ r
    → IsMember u (time_if x.time r) → HasTime o xs u
has_from o xs u x (Ok d) m fit read (inl e) = record {
  timed = x;
  inside = m;
  datagram = d;
  is_for = admitted_takes o x.octets d fit read;
  time = sym e;
}
has_from o xs u x (Ok d) m fit read (inr k) = absurd k
has_from o xs u x (Err e) m fit read k = absurd k

-- The times of a list are those of its datagrams for the receiver.
pub times_grammar : (o : Opening) (xs : List Timed)
    → ((x : Timed) → IsMember x xs → AreOctets x.octets) → (u : ℕ)
    → IsMember u (times_of o xs) ↔ HasTime o xs u
times_grammar o xs fit u = (
  λ m. let k = member-flat_map (time_of o) u xs m in
      has_from o xs u k.0 (reading_of o k.0.octets) k.1 (fit k.0 k.1) refl k.2,
  λ h. subst (λ (v : ℕ). IsMember v (times_of o xs)) h.time
      (times_has o h.timed h.datagram xs h.inside
      (admitted_for o h.timed.octets h.datagram h.is_for)),
)

near_in : (base u v : ℕ) → IsInHalf base u → IsInHalf base v → IsNear u v
near_in base u v a b =
    record { forth = omega (arith, a.below, b.from); back = omega (arith, b.below, a.from) }

-- Within half a round all times are near.
pub nearby_half : (size base : ℕ) (us : List ℕ) → AreInHalf base us → AreNearby size us
nearby_half size base us half before after u v e m few =
    near_in base u v
    (half u
    (subst (λ (xs : List ℕ). IsMember u xs) (sym e)
    (member_right u before (u ∷ after) (inl refl))))
    (half v
    (subst (λ (xs : List ℕ). IsMember v xs) (sym e) (member_left v before (u ∷ after) m)))

-- So those that come in time are orderly.
pub orderly_half : (size ahead base : ℕ) (us : List ℕ) → AreInHalf base us
    → ((before after : List ℕ) (u : ℕ) → us ≡ before ++ u ∷ after
    → length (newer_than u before) < size)
    → AreWithin ahead us → IsOrderly size ahead us
orderly_half size ahead base us half in_time within = record {
  in_time = in_time;
  within = within;
  near = nearby_half size base us half;
}
