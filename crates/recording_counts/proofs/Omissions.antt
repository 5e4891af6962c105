-- Counts of reasons, where more packets are left out, and in all.
use Rattle.std.proofs.Common.{◌≡◌, ◌∙◌, ℕ, ◌+◌, ◌-◌, ◌^◌, min, Bool, true, false, cond, List, [], ◌∷◌}
use Rattle.std.proofs.Common.{◌++◌, count_by, length, ap, sym, refl, arith, zero-add}
use Rattle.std.proofs.lemmas.List.Sums.{sum_by-append, sum_by-cons}
use Rattle.pcap_file.specs.declared.datagram.NoDatagram.TheVariants.{NotIp, CutShort, BadIpHeader}
use Rattle.pcap_file.specs.declared.datagram.NoDatagram.TheVariants.{NotUdp, Fragment, BadUdpLength}
use Rattle.st_format.specs.Device.{capped}
use Rattle.recording_counts.specs.LeftOut.{is_omission, left_out_of, sum_of, times}
use Rattle.recording_counts.specs.declared.left_out.LeftOut.{LeftOut}
use Rattle.recording_counts.specs.declared.omission.Omission.{Omission}
use Rattle.recording_counts.specs.declared.omission.Omission.TheVariants.{NoDatagram, OtherFlow}

one_more : {X : Type 0} (p : X → Bool) (xs : List X) (x : X)
    → count_by p (xs ++ x ∷ []) ≡ count_by p xs + cond (p x) 1 0
one_more p xs x =
    sum_by-append (λ y. cond (p y) 1 0) xs (x ∷ [])
    ∙ ap (λ (n : ℕ). count_by p xs + n) (zero-add (cond (p x) 1 0))

capped_by : (b : Bool) (n : ℕ)
    → cond b (min (capped n + 1) (2 ^ 64 - 1)) (capped n) ≡ capped (n + cond b 1 0)
capped_by true n = omega arith
capped_by false n = omega arith

pub times_more : (v w : Omission) (omissions : List Omission) (n m : ℕ) → n ≡ times v omissions
    → m ≡ cond (is_omission v w) (min (n + 1) (2 ^ 64 - 1)) n
    → m ≡ times v (omissions ++ w ∷ [])
times_more v w omissions n m e f =
    f ∙ ap (λ (k : ℕ). cond (is_omission v w) (min (k + 1) (2 ^ 64 - 1)) k) e
    ∙ capped_by (is_omission v w) (count_by (is_omission v) omissions)
    ∙ ap capped (sym (one_more (is_omission v) omissions w))

pub times_both : (v : Omission) (some more : List Omission) (n k m : ℕ) → n ≡ times v some
    → k ≡ times v more → m ≡ min (n + k) (2 ^ 64 - 1) → m ≡ times v (some ++ more)
times_both v some more n k m e f g =
    omega (
      arith,
      e,
      f,
      g,
      sum_by-append (λ (w : Omission). cond (is_omission v w) 1 0) some more,
    )

pub seven_are : (omissions : List Omission) (a b c d e f g : ℕ)
    → a ≡ times (NoDatagram CutShort) omissions → b ≡ times (NoDatagram NotIp) omissions
    → c ≡ times (NoDatagram BadIpHeader) omissions → d ≡ times (NoDatagram NotUdp) omissions
    → e ≡ times (NoDatagram Fragment) omissions → f ≡ times (NoDatagram BadUdpLength) omissions
    → g ≡ times OtherFlow omissions
    → ◌≡◌ {A = LeftOut}
    (record {
      cut_short = a;
      not_ip = b;
      bad_ip_header = c;
      not_udp = d;
      fragment = e;
      bad_udp_length = f;
      other_flow = g;
    })
    (left_out_of omissions)
seven_are omissions a b c d e f g p q r s t u v = cc

-- ---- in all

abbrev often : Omission → List Omission → ℕ
often v omissions = count_by (is_omission v) omissions

cons_often : (v w : Omission) (omissions : List Omission)
    → often v (w ∷ omissions) ≡ cond (is_omission v w) 1 0 + often v omissions
cons_often v w omissions = sum_by-cons (λ (x : Omission). cond (is_omission v x) 1 0) w omissions

abbrev all_often : List Omission → ℕ
all_often ws =
    often (NoDatagram CutShort) ws + often (NoDatagram NotIp) ws
    + often (NoDatagram BadIpHeader) ws + often (NoDatagram NotUdp) ws
    + often (NoDatagram Fragment) ws + often (NoDatagram BadUdpLength) ws + often OtherFlow ws

abbrev once : Omission → ℕ
once w =
    cond (is_omission (NoDatagram CutShort) w) 1 0 + cond (is_omission (NoDatagram NotIp) w) 1 0
    + cond (is_omission (NoDatagram BadIpHeader) w) 1 0
    + cond (is_omission (NoDatagram NotUdp) w) 1 0
    + cond (is_omission (NoDatagram Fragment) w) 1 0
    + cond (is_omission (NoDatagram BadUdpLength) w) 1 0 + cond (is_omission OtherFlow w) 1 0

is_once : (w : Omission) → once w ≡ 1
is_once (NoDatagram CutShort) = refl
is_once (NoDatagram NotIp) = refl
is_once (NoDatagram BadIpHeader) = refl
is_once (NoDatagram NotUdp) = refl
is_once (NoDatagram Fragment) = refl
is_once (NoDatagram BadUdpLength) = refl
is_once OtherFlow = refl

all_are : (ws : List Omission) → all_often ws ≡ length ws
all_are [] = refl
all_are (w ∷ ws) =
    omega (
      arith,
      all_are ws,
      is_once w,
      cons_often (NoDatagram CutShort) w ws,
      cons_often (NoDatagram NotIp) w ws,
      cons_often (NoDatagram BadIpHeader) w ws,
      cons_often (NoDatagram NotUdp) w ws,
      cons_often (NoDatagram Fragment) w ws,
      cons_often (NoDatagram BadUdpLength) w ws,
      cons_often OtherFlow w ws,
    )

pub sum_is : (l : LeftOut) (ws : List Omission) → l ≡ left_out_of ws
    → capped (sum_of l) ≡ capped (length ws)
sum_is l ws is = ap (λ (x : LeftOut). capped (sum_of x)) is ∙ omega (arith, all_are ws)
