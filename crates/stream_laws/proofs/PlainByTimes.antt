-- A prompt stream of which no datagram is more than ten seconds older than one before it isn't
-- followed anew.
use Rattle.std.proofs.Common.{◌≡◌, ◌∙◌, ◌⊎◌, ℕ, ◌+◌, ◌<◌, ◌≤◌, Bool, true, false, cond, not, eqb}
use Rattle.std.proofs.Common.{List, [], ◌∷◌, ◌++◌, Option, None, Some, Result, Ok, Err, ap, zero}
use Rattle.std.proofs.Common.{suc}
use Rattle.std.proofs.Common.{append_assoc, arith, drop, inl, inr, length, length-drop, map, refl}
use Rattle.std.proofs.Common.{subst, sym}
use Rattle.std.specs.List.{insert}
use Rattle.std.proofs.lemmas.Bool.{false≢true}
use Rattle.follow_engine.specs.Events.{Running, anew, anew_with, behind, datagram_time, header_time}
use Rattle.follow_engine.specs.Events.{is_anew, running_from, since_with, turn_taken}
use Rattle.follow_engine.specs.Order.{datagrams_in}
use Rattle.follow_engine.specs.Plain.{NoneAnew}
use Rattle.follow_engine.specs.declared.opening.FollowAsked.{FollowAsked}
use Rattle.follow_engine.proofs.Without.{follower_behind}
use Rattle.following.specs.Follower.{Following, followed_at, opened, read_in, reading_of}
use Rattle.following.specs.Follower.{standing_of, state_after, taken_in, without_oldest}
use Rattle.following.specs.Following.{is_due, is_waiting, ready_for, waits_for}
use Rattle.following.specs.Pictures.{BroughtAll, timed_from, times_from}
use Rattle.following.specs.Prompt.{AreAgreed, IsPrompt}
use Rattle.following.specs.Restarts.{first_lost, is_restart, since_behind}
use Rattle.following.specs.Serial.{wrapped}
use Rattle.following.specs.Standing.{is_beyond}
use Rattle.following.specs.Times.{AreTimed, IsNear, Timed, octets_of, times_of}
use Rattle.following.specs.Turned.{answer_in, early_count, is_lost, state_behind, state_taken}
use Rattle.following.specs.Turned.{turned, without_first}
use Rattle.following.specs.declared.answer.Followed.{Followed}
use Rattle.following.specs.declared.standing.Standing.{Standing}
use Rattle.following.specs.declared.standing.Standing.TheVariants.{Beyond, Inside, New, Nowhere}
use Rattle.following.specs.declared.standing.Standing.TheVariants.{Waits}
use Rattle.following.proofs.Lost.{HasRoom, room_after, room_turned, waits_is}
use Rattle.following.proofs.Newest.{time_within}
use Rattle.following.proofs.PromptPictures.{senders_agree}
use Rattle.following.proofs.Streams.{times_at, times_refused}
use Rattle.following.proofs.Taken.{answer-for, new_back, waits_new}
use Rattle.following.proofs.Turning.{answer-on}
use Rattle.following.proofs.Pictures.{timed-octets}
use Rattle.media_file.specs.Records.{Entry}
use Rattle.packet_plan.specs.Sender.{Sender}
use Rattle.path_receiver.specs.Admission.{by_header, by_payload, datagram_walk, datagram_with}
use Rattle.path_receiver.specs.Admission.{header_for, is_other}
use Rattle.path_receiver.specs.Grammar.{Datagram}
use Rattle.path_receiver.specs.Opening.{IsWindowSize, Opening}
use Rattle.path_receiver.specs.Sliding.{with_window}
use Rattle.path_receiver.specs.declared.answer.Refusal.{Refusal}
use Rattle.path_receiver.specs.declared.answer.Refusal.TheVariants.{WrongPayloadType, WrongSource}
use Rattle.path_receiver.proofs.Offered.{by_rtp}
use Rattle.payload_header.specs.Reading.{payload_walk}
use Rattle.payload_header.specs.declared.payload.PayloadFault.{PayloadFault}
use Rattle.rtp_header.specs.Grammar.{Rtp}
use Rattle.rtp_header.specs.Reading.{rtp_walk}
use Rattle.rtp_header.specs.declared.header.RtpFault.{RtpFault}
use Rattle.st_format.specs.Member.{IsMember}
use Rattle.st_format.specs.Picture.{Values}
use Rattle.st_format.specs.Raster.{Segment}
use Rattle.st_format.specs.Reading.{◌>>=◌}
use Rattle.st_format.proofs.Members.{member-map, member_cases, member_left, member_right}
use Rattle.stream_laws.specs.Brought.{AreRecent}
use Rattle.stream_laws.proofs.LostRepeats.{lost_came}
use Rattle.stream_laws.proofs.NoneLate.{not_anew}
use Rattle.stream_laws.proofs.SenderTimes.{are_timed, near_one, same_reading}

-- ---- the timestamp of a datagram that is read

abbrev read_rest : Opening → Rtp → Result Datagram Refusal
read_rest o r = by_payload (payload_walk o.format r.payload) >>= by_rtp r

time_paid : (r : Rtp) (p : Result (ℕ × List Segment) PayloadFault) (d : Datagram)
    → (by_payload p >>= by_rtp r) ≡ Ok d → r.timestamp ≡ d.timestamp
time_paid r (Ok x) d e =
    ap (λ (g : Datagram). g.timestamp) (same_reading (datagram_with r x) d e)
time_paid r (Err f) d e = absurd cc

time_checked : (o : Opening) (r : Rtp) (t s : Bool) (d : Datagram)
    → (cond (not t) (Err WrongPayloadType) (cond s (Err WrongSource) (Ok r)) >>= read_rest o)
    ≡ Ok d → r.timestamp ≡ d.timestamp
time_checked o r false s d e = absurd cc
time_checked o r true true d e = absurd cc
time_checked o r true false d e = time_paid r (payload_walk o.format r.payload) d e

time_walked : (o : Opening) (x : Result Rtp RtpFault) (d : Datagram)
    → (by_header x >>= λ q. header_for o.payload_type o.ssrc q >>= read_rest o) ≡ Ok d
    → header_time x ≡ Some d.timestamp
time_walked o (Err f) d e = absurd cc
time_walked o (Ok r) d e =
    ap (λ (t : ℕ). Some t)
    (time_checked o r (eqb r.payload_type o.payload_type) (is_other o.ssrc r.ssrc) d e)

time_read : (o : Opening) (octets : List ℕ) (d : Datagram) → reading_of o octets ≡ Ok d
    → datagram_time octets ≡ Some d.timestamp
unfolding datagram_walk
time_read o octets d read = time_walked o (rtp_walk octets) d read

-- ---- what turns keep of a follower

record KeepsOpening (o : Opening) (ahead : ℕ) (s : Following) : Type 0 where
  opening : s.opening ≡ with_window o s.opening.window
  most : s.most_ahead ≡ ahead

keeps_taken : (o : Opening) (ahead : ℕ) (s : Following) (octets : List ℕ) (ts : ℕ) (x : Standing)
    → KeepsOpening o ahead s → KeepsOpening o ahead (taken_in s octets ts x)
keeps_taken o ahead s octets ts (Inside p) h = record { opening = h.opening; most = h.most }
keeps_taken o ahead s octets ts (New p) h = record {
  opening =
      ap (λ (q : Opening). with_window q (insert s.opening.window p ts)) h.opening;
  most = h.most;
}
keeps_taken o ahead s octets ts Waits h = h
keeps_taken o ahead s octets ts Nowhere h = h
keeps_taken o ahead s octets ts Beyond h = h

keeps_read : (o : Opening) (ahead : ℕ) (s : Following) (octets : List ℕ)
    (r : Result Datagram Refusal) → KeepsOpening o ahead s
    → KeepsOpening o ahead (read_in s octets r)
keeps_read o ahead s octets (Ok d) h =
    keeps_taken o ahead s octets d.timestamp (standing_of s d.timestamp) h
keeps_read o ahead s octets (Err e) h = h

keeps_oldest : (o : Opening) (ahead : ℕ) (s : Following) → KeepsOpening o ahead s
    → KeepsOpening o ahead (without_oldest s)
keeps_oldest o ahead s h = record {
  opening = ap (λ (q : Opening). with_window q (drop 1 s.opening.window)) h.opening;
  most = h.most;
}

keeps_early : (o : Opening) (ahead : ℕ) (n : ℕ) (s : Following) → KeepsOpening o ahead s
    → KeepsOpening o ahead (without_first n s)
keeps_early o ahead zero s h = h
keeps_early o ahead (suc n) s h =
    keeps_early o ahead n (without_oldest s) (keeps_oldest o ahead s h)

keeps_after : (o : Opening) (ahead : ℕ) (s : Following) (octets : List ℕ) → KeepsOpening o ahead s
    → KeepsOpening o ahead (state_after s octets)
keeps_after o ahead s octets h = keeps_read o ahead s octets (reading_of s.opening octets) h

keeps_due : (o : Opening) (ahead : ℕ) (b : Bool) (s : Following) → KeepsOpening o ahead s
    → KeepsOpening o ahead (cond b (without_oldest s) s)
keeps_due o ahead true s h = keeps_oldest o ahead s h
keeps_due o ahead false s h = h

keeps_turned : (o : Opening) (ahead : ℕ) (eager : Bool) (s : Following) (octets : List ℕ)
    → KeepsOpening o ahead s → KeepsOpening o ahead (turned eager s octets)
unfolding turned
keeps_turned o ahead eager s octets h =
    let t : Following = state_taken s octets in
    keeps_early o ahead (early_count eager t) t
    (keeps_after o ahead (ready_for s octets) octets (keeps_due o ahead (is_due s octets) s h))

behind_more : (eager : Bool) (s : Following) (xs : List Timed) (x : Timed)
    → state_behind eager s (octets_of (xs ++ x ∷ []))
    ≡ turned eager (state_behind eager s (octets_of xs)) x.octets
behind_more eager s [] x = refl
behind_more eager s (y ∷ xs) x = behind_more eager (turned eager s y.octets) xs x

-- ---- what a turn answers

read_same : (o : Opening) (ahead : ℕ) (s : Following) (octets : List ℕ)
    (r : Result Datagram Refusal) → KeepsOpening o ahead s → reading_of o octets ≡ r
    → reading_of s.opening octets ≡ r
read_same o ahead s octets r h read =
    ap (λ (p : Opening). reading_of p octets) h.opening ∙ read

answer_refused : (o : Opening) (ahead : ℕ) (s : Following) (octets : List ℕ) (e : Refusal)
    → KeepsOpening o ahead s → reading_of o octets ≡ Err e → answer_in s octets ≡ Err e
answer_refused o ahead s octets e h read =
    let same : reading_of s.opening octets ≡ Err e = read_same o ahead s octets (Err e) h read in
    answer-on s octets (ap (waits_for s) same)
    ∙ ap (λ (r : Result Datagram Refusal). r >>= λ d. Ok (followed_at d.number
    (standing_of s d.timestamp))) same

answer_read : (o : Opening) (ahead : ℕ) (s : Following) (octets : List ℕ) (d : Datagram)
    → KeepsOpening o ahead s → reading_of o octets ≡ Ok d
    → answer_in s octets
    ≡ Ok (followed_at d.number (standing_of (ready_for s octets) d.timestamp))
answer_read o ahead s octets d h read =
    answer-for (ready_for s octets) octets d
    (read_same o ahead (ready_for s octets) octets (Ok d)
    (keeps_due o ahead (is_due s octets) s h) read)

new_waits : (p : ℕ) → New p ≡ Waits → ⊥
new_waits p e = cc

-- it never waits: where it did, the oldest went first
never_waits : (s : Following) (octets : List ℕ) (d : Datagram) (b : Bool) → HasRoom s
    → reading_of s.opening octets ≡ Ok d → is_due s octets ≡ b
    → standing_of (cond b (without_oldest s) s) d.timestamp ≡ Waits → ⊥
never_waits s octets d true h read due at =
    let waits : standing_of s d.timestamp ≡ Waits =
    waits_is (standing_of s d.timestamp) (sym (ap (waits_for s) read) ∙ due) in
    let short : length (drop 1 s.opening.window) < s.size =
    room_after (length s.opening.window) s.size (length (drop 1 s.opening.window)) h.some
    h.stands.room (length-drop 1 s.opening.window) in
    let k =
    new_back (without_oldest s) d.timestamp
    (waits_new s d.timestamp h.stands.rising short waits) in
    new_waits k.0 (sym k.1 ∙ at)
never_waits s octets d false h read due at =
    false≢true (sym due ∙ ap (waits_for s) read ∙ ap is_waiting at)

-- ---- since when only lost ones came

-- A datagram of this timestamp came, and none that is newer than it by more than ten seconds.
record LostFrom (us : List ℕ) (timestamp : ℕ) : Type 0 where
  time : ℕ
  inside : IsMember time us
  stamp : timestamp ≡ wrapped time
  all : (w : ℕ) → IsMember w us → w ≤ time + 900000

abbrev IsSince : List ℕ → Option ℕ → Type 0
IsSince us None = Unit {0}
IsSince us (Some timestamp) = LostFrom us timestamp

-- a time that came before, than which none is newer by more than ten seconds
record CameBefore (us : List ℕ) (u : ℕ) : Type 0 where
  inside : IsMember u us
  all : (w : ℕ) → IsMember w us → w ≤ u + 900000
  near : (w : ℕ) → IsMember w us → IsNear u w

since_first : (us : List ℕ) (before : Option ℕ) (u : ℕ) → CameBefore us u → IsSince us before
    → IsSince us (first_lost before (wrapped u))
since_first us None u again is =
    record { time = u; inside = again.inside; stamp = refl; all = again.all }
since_first us (Some timestamp) u again is = is

since_near : (us : List ℕ) (before : Option ℕ) (u : ℕ) → CameBefore us u → IsSince us before
    → is_beyond before 900000 (wrapped u) ≡ false
since_near us None u again is = refl
since_near us (Some timestamp) u again is =
    ap (λ (t : ℕ). is_beyond (Some t) 900000 (wrapped u)) is.stamp
    ∙ time_within u is.time 900000 (again.near is.time is.inside) (is.all u again.inside)

again_in : (us : List ℕ) (u w : ℕ) → IsMember u us → IsMember w us ⊎ IsMember w (u ∷ [])
    → IsMember w us
again_in us u w m (inl k) = k
again_in us u w m (inr (inl e)) = subst (λ (y : ℕ). IsMember y us) (sym e) m
again_in us u w m (inr (inr k)) = absurd k

since_more : (us : List ℕ) (before : Option ℕ) (u : ℕ) → IsMember u us → IsSince us before
    → IsSince (us ++ u ∷ []) before
since_more us None u m is = tt
since_more us (Some timestamp) u m is = record {
  time = is.time;
  inside = member_left is.time us (u ∷ []) is.inside;
  stamp = is.stamp;
  all = λ w k. is.all w (again_in us u w m (member_cases w us (u ∷ []) k));
}

-- the stream isn't followed anew at this answer, and what is noted behind it
record StaysPlain (us : List ℕ) (before : Option ℕ) (u : ℕ) (a : Result Followed Refusal) : Type 0
  where
    plain : is_restart 900000 before (wrapped u) a ≡ false
    next : IsSince (us ++ u ∷ []) (since_behind 900000 before (wrapped u) a)

lost_plain : (us : List ℕ) (before : Option ℕ) (u : ℕ) → CameBefore us u → IsSince us before
    → (is_beyond (first_lost before (wrapped u)) 900000 (wrapped u) ≡ false)
    × IsSince (us ++ u ∷ [])
    (cond (is_beyond (first_lost before (wrapped u)) 900000 (wrapped u)) None
    (first_lost before (wrapped u)))
lost_plain us before u again is =
    let lost : Option ℕ = first_lost before (wrapped u) in
    let first : IsSince us lost = since_first us before u again is in
    let near : is_beyond lost 900000 (wrapped u) ≡ false = since_near us lost u again first in (
      near,
      subst (λ (t : Option ℕ). IsSince (us ++ u ∷ []) t)
          (sym (ap (λ (b : Bool). cond b None lost) near))
          (since_more us lost u again.inside first),
    )

plain_at : (us : List ℕ) (before : Option ℕ) (u number : ℕ) (x : Standing) → (x ≡ Waits → ⊥)
    → (is_lost (Ok (followed_at number x)) ≡ true → CameBefore us u) → IsSince us before
    → StaysPlain us before u (Ok (followed_at number x))
plain_at us before u number (Inside p) none again is = record { plain = refl; next = tt }
plain_at us before u number (New p) none again is = record { plain = refl; next = tt }
plain_at us before u number Waits none again is = absurd (none refl)
plain_at us before u number Nowhere none again is =
    let k = lost_plain us before u (again refl) is in record { plain = k.0; next = k.1 }
plain_at us before u number Beyond none again is =
    let k = lost_plain us before u (again refl) is in record { plain = k.0; next = k.1 }

-- ---- what is noted behind a datagram

since_either : (b : Bool) (r : Running) → (cond b (anew r) r).since ≡ r.since
since_either true r = refl
since_either false r = refl

since_noted : (eager : Bool) (r : Running) (octets : List ℕ)
    → (behind eager r octets).since
    ≡ since_with r.follower.most_ahead r.since (datagram_time octets)
    (answer_in r.follower octets)
unfolding behind
since_noted eager r octets = since_either (is_anew r octets) (turn_taken eager r octets)

since_refused : (bound : ℕ) (before time : Option ℕ) (e : Refusal)
    → since_with bound before time (Err e) ≡ before
since_refused bound before None e = refl
since_refused bound before (Some t) e = refl

by_answer : (bound : ℕ) (before time : Option ℕ) (a b : Result Followed Refusal) (t : ℕ)
    → bound ≡ 900000 → time ≡ Some t → a ≡ b
    → (anew_with bound before time a ≡ is_restart 900000 before t b)
    × (since_with bound before time a ≡ since_behind 900000 before t b)
by_answer bound before time a b t most is answer = (
  ap (λ (n : ℕ). anew_with n before time a) most
      ∙ ap (λ (x : Option ℕ). anew_with 900000 before x a) is
      ∙ ap (λ (x : Result Followed Refusal). is_restart 900000 before t x) answer,
  ap (λ (n : ℕ). since_with n before time a) most
      ∙ ap (λ (x : Option ℕ). since_with 900000 before x a) is
      ∙ ap (λ (x : Result Followed Refusal). since_behind 900000 before t x) answer,
)

-- ---- a stream

-- what is noted of a stream behind these
record IsNotedBehind (eager : Bool) (o : Opening) (size : ℕ) (xs : List Timed) (r : Running)
    : Type 0 where
  follower : r.follower ≡ state_behind eager (opened o size 900000) (octets_of xs)
  room : HasRoom r.follower
  keeps : KeepsOpening o 900000 r.follower
  since : IsSince (times_of o xs) r.since

room_first : (o : Opening) (size ahead : ℕ) → 0 < size → HasRoom (opened o size ahead)
room_first o size ahead some = record {
  stands = record { rising = tt; one_each = refl; room = omega arith };
  some = some;
}

module _ (eager : Bool) (o : Opening) (size : ℕ) (zs : List Timed) (some : 0 < size)
    (timed : AreTimed o zs)
    (near : (u v : ℕ) → IsMember u (times_of o zs) → IsMember v (times_of o zs) → IsNear u v)
    (prompt : IsPrompt eager o size 900000 zs)
    (agreed : (ps ys : List Timed) → zs ≡ ps ++ ys → AreAgreed o ps)
    (recent : AreRecent 900000 (times_of o zs))
  where
    abbrev f : Following
    f = opened o size 900000

    abbrev Steps : List Timed → Timed → Running → Type 0
    Steps xs x r =
        (is_anew r x.octets ≡ false)
        × IsNotedBehind eager o size (xs ++ x ∷ []) (behind eager r x.octets)

    step_on : (xs : List Timed) (x : Timed) (r : Running) → IsNotedBehind eager o size xs r
        → is_anew r x.octets ≡ false
        → IsSince (times_of o (xs ++ x ∷ []))
        (since_with r.follower.most_ahead r.since (datagram_time x.octets)
        (answer_in r.follower x.octets))
        → Steps xs x r
    step_on xs x r at plain is =
        let follows : (behind eager r x.octets).follower ≡ turned eager r.follower x.octets =
        follower_behind eager r x.octets plain in (
          plain,
          record {
            follower =
                follows ∙ ap (λ (s : Following). turned eager s x.octets) at.follower
                ∙ sym (behind_more eager f xs x);
            room =
                subst (λ (s : Following). HasRoom s) (sym follows)
                (room_turned eager r.follower x.octets at.room);
            keeps =
                subst (λ (s : Following). KeepsOpening o 900000 s) (sym follows)
                (keeps_turned o 900000 eager r.follower x.octets at.keeps);
            since =
                subst (λ (t : Option ℕ). IsSince (times_of o (xs ++ x ∷ [])) t)
                (sym (since_noted eager r x.octets)) is;
          },
        )

    step_refused : (xs : List Timed) (x : Timed) (e : Refusal) (r : Running)
        → reading_of o x.octets ≡ Err e → IsNotedBehind eager o size xs r → Steps xs x r
    step_refused xs x e r read at =
        let answer : answer_in r.follower x.octets ≡ Err e =
        answer_refused o 900000 r.follower x.octets e at.keeps read in
        step_on xs x r at
        (not_anew r.follower.most_ahead r.since (datagram_time x.octets)
        (answer_in r.follower x.octets) (ap is_lost answer))
        (subst (λ (t : Option ℕ). IsSince (times_of o (xs ++ x ∷ [])) t)
        (sym (ap (λ (a : Result Followed Refusal).
        since_with r.follower.most_ahead r.since (datagram_time x.octets) a) answer
        ∙ since_refused r.follower.most_ahead r.since (datagram_time x.octets) e))
        (subst (λ (us : List ℕ). IsSince us r.since) (sym (times_refused o xs x e read))
        at.since))

    -- where it is lost its time came before
    again_at : (xs ys : List Timed) (x : Timed) (d : Datagram) (r : Running) → zs ≡ xs ++ x ∷ ys
        → reading_of o x.octets ≡ Ok d → IsNotedBehind eager o size xs r
        → is_lost (answer_in r.follower x.octets) ≡ true → CameBefore (times_of o xs) x.time
    again_at xs ys x d r e read at lost =
        let u : ℕ = x.time in
        let us : List ℕ = times_of o xs in
        let later : List ℕ = times_of o ys in
        let split : times_of o zs ≡ us ++ u ∷ later =
        ap (times_of o) e ∙ times_at o xs ys x d read in
        record {
          inside =
              lost_came eager o size 900000 zs some timed near prompt agreed xs ys x d e read
              (subst (λ (s : Following). is_lost (answer_in s x.octets) ≡ true) at.follower lost);
          all = λ w m. recent us later u w split m;
          near = λ w m.
              near u w
              (subst (λ (l : List ℕ). IsMember u l) (sym split)
              (member_right u us (u ∷ later) (inl refl)))
              (subst (λ (l : List ℕ). IsMember w l) (sym split)
              (member_left w us (u ∷ later) m));
        }

    step_read : (xs ys : List Timed) (x : Timed) (d : Datagram) (r : Running)
        → zs ≡ xs ++ x ∷ ys → reading_of o x.octets ≡ Ok d → IsNotedBehind eager o size xs r
        → Steps xs x r
    step_read xs ys x d r e read at =
        let u : ℕ = x.time in
        let us : List ℕ = times_of o xs in
        let s : Following = r.follower in
        let stands : Standing = standing_of (ready_for s x.octets) d.timestamp in
        let a : Result Followed Refusal = Ok (followed_at d.number stands) in
        let answer : answer_in s x.octets ≡ a =
        answer_read o 900000 s x.octets d at.keeps read in
        let stamp : d.timestamp ≡ wrapped u =
        timed x d
        (subst (λ (l : List Timed). IsMember x l) (sym e) (member_right x xs (x ∷ ys) (inl refl)))
        read in
        let is : StaysPlain us r.since u a =
        plain_at us r.since u d.number stands
        (never_waits s x.octets d (is_due s x.octets) at.room
        (read_same o 900000 s x.octets (Ok d) at.keeps read) refl)
        (λ lost. again_at xs ys x d r e read at (ap is_lost answer ∙ lost)) at.since in
        let paths =
        by_answer s.most_ahead r.since (datagram_time x.octets) (answer_in s x.octets) a
        (wrapped u) at.keeps.most
        (time_read o x.octets d read ∙ ap (λ (t : ℕ). Some t) stamp) answer in
        step_on xs x r at (paths.0 ∙ is.plain)
        (subst (λ (t : Option ℕ). IsSince (times_of o (xs ++ x ∷ [])) t) (sym paths.1)
        (subst (λ (vs : List ℕ). IsSince vs (since_behind 900000 r.since (wrapped u) a))
        (sym (times_at o xs [] x d read)) is.next))

    step : (xs ys : List Timed) (x : Timed) (r : Running) (reading : Result Datagram Refusal)
        → reading_of o x.octets ≡ reading → zs ≡ xs ++ x ∷ ys → IsNotedBehind eager o size xs r
        → Steps xs x r
    step xs ys x r (Ok d) read e at = step_read xs ys x d r e read at
    step xs ys x r (Err g) read e at = step_refused xs x g r read at

    none_anew : (ys xs : List Timed) (r : Running) → zs ≡ xs ++ ys → IsNotedBehind eager o size xs r
        → NoneAnew eager r (octets_of ys)
    none_anew [] xs r e at = tt
    none_anew (y ∷ ys) xs r e at =
        let k = step xs ys y r (reading_of o y.octets) refl e at in (
          k.0,
          none_anew ys (xs ++ y ∷ []) (behind eager r y.octets)
              (e ∙ sym (append_assoc xs (y ∷ []) ys)) k.1,
        )

    pub plain_stream : NoneAnew eager (running_from f) (octets_of zs)
    plain_stream =
        none_anew zs [] (running_from f) refl
        (record {
          follower = refl;
          room = room_first o size 900000 some;
          keeps = record { opening = refl; most = refl };
          since = tt;
        })

-- ---- a sender's

-- No two of the datagrams of a first part give a sample different values.
agreed_part : (o : Opening) (s : Sender) (pictures : List Values) (ds : List (List ℕ))
    (ps ys : List Timed) → BroughtAll o s pictures ds
    → map (timed_from o s.base) ds ≡ ps ++ ys → AreAgreed o ps
agreed_part o s pictures ds ps ys brought e =
    senders_agree o s pictures ps
    (record {
      first = brought.first;
      sent = brought.sent;
      list = brought.list;
      format = brought.opened.format;
      among = λ octets m. brought.same.forth octets (given octets m);
    })
  where
    given : (octets : List ℕ) → IsMember octets (octets_of ps) → IsMember octets ds
    given octets m =
        let r = member-map (λ (x : Timed). x.octets) octets ps m in
        let q =
        member-map (timed_from o s.base) r.0 ds
        (subst (λ (l : List Timed). IsMember r.0 l) (sym e) (member_left r.0 ps ys r.1)) in
        subst (λ (y : List ℕ). IsMember y ds)
        (sym (r.2 ∙ ap (λ (x : Timed). x.octets) q.2)) q.1

pub plain_by_times : (w : FollowAsked) (o : Opening) (s : Sender) (pictures : List Values)
    (entries : List Entry) → BroughtAll o s pictures (datagrams_in entries)
    → IsWindowSize w.frames
    → IsPrompt w.is_eager o w.frames 900000
    (map (timed_from o s.base) (datagrams_in entries))
    → AreRecent 900000 (times_from o s.base (datagrams_in entries))
    → NoneAnew w.is_eager (running_from (opened o w.frames 900000)) (datagrams_in entries)
plain_by_times w o s pictures entries brought size prompt recent =
    let ds : List (List ℕ) = datagrams_in entries in
    subst (λ (es : List (List ℕ)).
    NoneAnew w.is_eager (running_from (opened o w.frames 900000)) es)
    (timed-octets o s.base ds)
    (plain_stream w.is_eager o w.frames (map (timed_from o s.base) ds) size.some
    (are_timed o s pictures ds brought) (near_one o s pictures ds brought) prompt
    (λ ps ys e. agreed_part o s pictures ds ps ys brought e) recent)
