-- Datagrams put into a sink one after another.
use Rattle.std.proofs.Common.{◌≡◌, ℕ, zero, suc, ◌+◌, ◌<◌, ◌≤◌, inl, inr, eqb, Bool, List, [], ◌∷◌}
use Rattle.std.proofs.Common.{◌++◌, length, take, drop, get_or, append_assoc, refl, sym, ap, ◌∙◌}
use Rattle.std.proofs.Common.{arith, subst, Option, None, Some}
use Rattle.std.proofs.lemmas.Bool.{eq-eqb, ne_eqb}
use Rattle.std.proofs.lemmas.Bool.Decides.{eqb_tells}
use Rattle.std.proofs.lemmas.List.{append-nil, take_all}
use Rattle.std.proofs.lemmas.List.Elements.{All-from_recursion}
use Rattle.std.proofs.lemmas.Grind.{take_at_read}
use Rattle.std.proofs.Math.Seq.{drop-cons}
use Rattle.st_format.specs.Device.{KeepsAll, TakesAll, TakesOne}
use Rattle.st_format.specs.Picture.{Values, IsPicture}
use Rattle.st_format.specs.declared.format.Format.{Format}
use Rattle.packet_plan.specs.declared.run.PacketRun.{PacketRun}
use Rattle.packet_plan.specs.declared.stamp.Stamp.{Stamp}
use Rattle.packet_plan.specs.Plan.{IsFullPlan, IsPacket, IsRasterPlan, RasterPlan, packet_at}
use Rattle.packet_plan.specs.Plan.{packet_octets}
use Rattle.packet_plan.specs.Sending.{EachHasRoom}
use Rattle.packet_plan.specs.Sent.{IsSentPicture, is_empty}
use Rattle.packet_plan.specs.Text.{IsStamp, datagram_text, datagram_texts}
use Rattle.packet_plan.proofs.Texts.{picture_sent}

pub takes_none : (a : Option (List (List ℕ))) → TakesAll a a []
takes_none None = tt
takes_none (Some xs) = sym (append-nil xs)

pub takes_more : (a b c : Option (List (List ℕ))) (xs ys : List (List ℕ)) (d : List ℕ)
    → TakesAll a b xs → TakesOne b c d → ys ≡ xs ++ d ∷ [] → TakesAll a c ys
takes_more None b c xs ys d all one e = tt
takes_more (Some a) None c xs ys d all one e = absurd all
takes_more (Some a) (Some b) None xs ys d all one e = absurd one
takes_more (Some a) (Some b) (Some c) xs ys d all one e =
    one ∙ ap (λ (zs : List (List ℕ)). zs ++ d ∷ []) all ∙ append_assoc a xs (d ∷ [])
    ∙ ap (λ (zs : List (List ℕ)). a ++ zs) (sym e)

pub takes_kept : (a b c : Option (List (List ℕ))) (xs : List (List ℕ)) → TakesAll a b xs
    → KeepsAll b c → TakesAll a c xs
takes_kept None b c xs all kept = tt
takes_kept (Some a) None c xs all kept = absurd all
takes_kept (Some a) (Some b) None xs all kept = absurd kept
takes_kept (Some a) (Some b) (Some c) xs all kept = kept ∙ all

-- ---- the texts of packets

pub length-texts : (p : Values) (stamp : Stamp) (i : ℕ) (qs : List (List PacketRun))
    → length (datagram_texts p stamp i qs) ≡ length qs
length-texts p stamp i [] = refl
length-texts p stamp i (q ∷ qs) = ap suc (length-texts p stamp (i + 1) qs)

same_test : (a b c d : ℕ) → (a ≡ b → c ≡ d) → (c ≡ d → a ≡ b) → eqb a b ≡ eqb c d
same_test a b c d to from = elim (eqb_tells a b) [
  | inl h ↦ h.0 ∙ sym (eq-eqb c d (to h.1))
  | inr h ↦ h.0 ∙ sym (ne_eqb c d (λ e. h.1 (from e)))
]

last_at : (qs : List (List PacketRun)) → is_empty qs ≡ eqb (zero + 1) (suc (length qs))
last_at [] = sym (eq-eqb (zero + 1) (suc zero) (omega arith))
last_at (q ∷ qs) = sym (ne_eqb (zero + 1) (suc (suc (length qs))) (λ e. absurd (omega arith)))

-- the text of the i-th packet, where the first is the j-th
pub text_get : (p : Values) (stamp : Stamp) (j i k : ℕ) (qs : List (List PacketRun))
    → i < length qs → j + i ≡ k
    → get_or (datagram_texts p stamp j qs) i []
    ≡ datagram_text p stamp k (eqb (i + 1) (length qs)) (get_or qs i [])
text_get p stamp j i k [] lt e = absurd (omega arith)
text_get p stamp j zero k (q ∷ qs) lt e =
    let here : j ≡ k = omega arith in
    ap (λ (m : ℕ). datagram_text p stamp m (is_empty qs) q) here
    ∙ ap (λ (l : Bool). datagram_text p stamp k l q) (last_at qs)
text_get p stamp j (suc i) k (q ∷ qs) lt e =
    let up : eqb (i + 1) (length qs) ≡ eqb (suc i + 1) (suc (length qs)) =
    same_test (i + 1) (length qs) (suc i + 1) (suc (length qs)) (λ h. omega arith)
    (λ h. omega arith) in
    text_get p stamp (j + 1) i k qs (omega arith) (omega arith)
    ∙ ap (λ (l : Bool). datagram_text p stamp k l (get_or qs i [])) up

-- one datagram more
pub texts_more : (p : Values) (stamp : Stamp) (qs : List (List PacketRun)) (i : ℕ) (d : List ℕ)
    → i < length qs → d ≡ datagram_text p stamp i (eqb (i + 1) (length qs)) (get_or qs i [])
    → take (i + 1) (datagram_texts p stamp 0 qs) ≡ take i (datagram_texts p stamp 0 qs) ++ d ∷ []
texts_more p stamp qs i d lt is =
    let ds : List (List ℕ) = datagram_texts p stamp 0 qs in
    let inside : i < length ds = omega (arith, length-texts p stamp 0 qs) in
    (take_at_read ds i [] inside).1
    ∙ ap (λ (x : List ℕ). take i ds ++ x ∷ []) (text_get p stamp 0 i i qs lt (omega arith) ∙ sym is)

-- the datagrams from the i-th on
pub texts_behind : (p : Values) (stamp : Stamp) (qs : List (List PacketRun)) (i : ℕ) (d : List ℕ)
    → i < length qs → d ≡ datagram_text p stamp i (eqb (i + 1) (length qs)) (get_or qs i [])
    → drop i (datagram_texts p stamp 0 qs) ≡ d ∷ drop (i + 1) (datagram_texts p stamp 0 qs)
texts_behind p stamp qs i d lt is =
    let ds : List (List ℕ) = datagram_texts p stamp 0 qs in
    let inside : i < length ds = omega (arith, length-texts p stamp 0 qs) in
    let one : i + 1 ≡ suc i = omega arith in
    drop-cons ds i [] inside
    ∙ ap (λ (x : List ℕ). x ∷ drop (suc i) ds) (text_get p stamp 0 i i qs lt (omega arith) ∙ sym is)
    ∙ ap (λ (n : ℕ). d ∷ drop n ds) (sym one)

-- ---- a plan that is sent

pub packet_fits : (plan : RasterPlan) (i : ℕ) → IsFullPlan plan.packets plan.format plan.max_octets
    → i < length plan.packets → packet_octets plan.format (packet_at plan i) ≤ 9000
packet_fits plan i full lt =
    let is : IsPacket plan.format plan.max_octets (packet_at plan i) =
    All-from_recursion (IsPacket plan.format plan.max_octets) plan.packets full.plan.each i []
    lt in
    omega (arith, is.fits, full.limits.most)

pub packet_room : (plan : RasterPlan) (i n : ℕ) → EachHasRoom plan n → i < length plan.packets
    → packet_octets plan.format (packet_at plan i) ≤ n
packet_room plan i n room lt =
    All-from_recursion (λ packet. packet_octets plan.format packet ≤ n) plan.packets room i [] lt

-- what is known once a datagram was written
pub record Known (p : Values) (stamp : Stamp) : Type 0 where
  pub is_picture : IsPicture p
  pub is_stamp : IsStamp stamp

-- the datagrams of a plan, where something is known once there is one
texts_sent : (p : Values) (stamp : Stamp) (size : ℕ) (qs : List (List PacketRun)) → size ≤ 9000
    → IsRasterPlan qs p.format size → (0 < length qs → Known p stamp)
    → IsSentPicture (datagram_texts p stamp 0 qs) p stamp size qs
texts_sent p stamp size [] most plan known = record { plan = plan; sent = tt }
texts_sent p stamp size (q ∷ qs) most plan known =
    let some : 0 < length (q ∷ qs) = omega arith in
    picture_sent p stamp size (q ∷ qs) most plan (known some).is_picture (known some).is_stamp

pub plan_sent : (p : Values) (stamp : Stamp) (plan : RasterPlan) → p.format ≡ plan.format
    → IsFullPlan plan.packets plan.format plan.max_octets
    → (0 < length plan.packets → Known p stamp)
    → IsSentPicture (datagram_texts p stamp 0 plan.packets) p stamp plan.max_octets plan.packets
plan_sent p stamp plan same full known =
    texts_sent p stamp plan.max_octets plan.packets full.limits.most
    (subst (λ (f : Format). IsRasterPlan plan.packets f plan.max_octets) (sym same) full.plan) known

pub all_texts : (p : Values) (stamp : Stamp) (qs : List (List PacketRun)) (n : ℕ) → length qs ≤ n
    → take n (datagram_texts p stamp 0 qs) ≡ datagram_texts p stamp 0 qs
all_texts p stamp qs n le =
    take_all n (datagram_texts p stamp 0 qs) (omega (arith, length-texts p stamp 0 qs))
