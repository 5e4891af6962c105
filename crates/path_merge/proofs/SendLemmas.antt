-- The next datagram of those that are to come.
use Rattle.std.proofs.Common.{◌≡◌, ℕ, zero, suc, ◌+◌, ◌%◌, ◌^◌, ◌<◌, ◌≤◌, inl, inr, Bool, true}
use Rattle.std.proofs.Common.{false, cond, eqb, List, [], ◌∷◌, ◌++◌, length, drop, get_or, refl}
use Rattle.std.proofs.Common.{Vec, sym, subst, ap, ◌∙◌, arith}
use Rattle.std.proofs.Common.{Fits, w32}
use Rattle.std.proofs.lemmas.Bool.{eqb-true}
use Rattle.std.proofs.lemmas.List.Elements.{All-from_recursion}
use Rattle.std.proofs.lemmas.Bool.Decides.{eqb_tells}
use Rattle.st_format.specs.Picture.{Values}
use Rattle.packet_plan.specs.declared.run.PacketRun.{PacketRun}
use Rattle.packet_plan.specs.declared.stamp.Stamp.{Stamp}
use Rattle.packet_plan.specs.Plan.{RasterPlan, packet_at, packet_octets}
use Rattle.packet_plan.specs.Sender.{stamp_of}
use Rattle.packet_plan.specs.Sending.{EachHasRoom}
use Rattle.packet_plan.specs.Sent.{is_empty}
use Rattle.packet_plan.specs.Text.{datagram_text, datagram_texts}
use Rattle.path_merge.specs.declared.schedule.sending.Next.{Next}
use Rattle.path_merge.specs.Sent.{sender_of, texts_from}
use Rattle.path_merge.specs.Steps.{after_packet, datagram_at, texts_behind, to_come}

drop_at : {X : Type 0} (xs : List X) (i : ℕ) (d : X) → i < length xs
    → drop i xs ≡ get_or xs i d ∷ drop (suc i) xs
drop_at [] i d lt = absurd (omega (arith, lt))
drop_at (x ∷ xs) zero d lt = refl
drop_at (x ∷ xs) (suc i) d lt = drop_at xs i d (omega (arith, lt))

pub drop_here : {X : Type 0} (xs : List X) (i : ℕ) (d : X) → i < length xs
    → drop i xs ≡ get_or xs i d ∷ drop (i + 1) xs
drop_here xs i d lt = let one : suc i ≡ i + 1 =
    omega arith in drop_at xs i d lt ∙ ap (λ (n : ℕ). get_or xs i d ∷ drop n xs) one

pub drop_past : {X : Type 0} (xs : List X) (i : ℕ) → length xs ≤ i → drop i xs ≡ []
drop_past [] zero le = refl
drop_past [] (suc i) le = refl
drop_past (x ∷ xs) zero le = absurd (omega (arith, le))
drop_past (x ∷ xs) (suc i) le = drop_past xs i (omega (arith, le))

-- whether nothing is left
none_left : (xs : List (List PacketRun)) (i : ℕ) → i ≤ length xs
    → is_empty (drop i xs) ≡ eqb i (length xs)
none_left xs i le = elim (eqb_tells i (length xs)) [
  | inl h ↦ ap is_empty (drop_past xs i (omega (arith, h.1))) ∙ sym h.0
  | inr h ↦ ap is_empty (drop_here xs i [] (omega (arith, le, h.1))) ∙ sym h.0
]

pub behind_first : (plan : RasterPlan) (stamp : Stamp) (k first : ℕ) (ps : List Values)
    → texts_from (sender_of plan stamp) plan.packets k first ps
    ≡ texts_behind plan stamp k 0 first ps
behind_first plan stamp k first [] = refl
behind_first plan stamp k first (p ∷ ps) = refl

-- what is left behind a packet
left_behind : (plan : RasterPlan) (stamp : Stamp) (pictures : List Values) (next : Next)
    (p : Values) (b : Bool) → eqb (next.index + 1) (length plan.packets) ≡ b
    → drop next.picture pictures ≡ p ∷ drop (next.picture + 1) pictures
    → datagram_texts p (stamp_of (sender_of plan stamp) next.picture next.first) (next.index + 1)
    (drop (next.index + 1) plan.packets)
    ++ texts_from (sender_of plan stamp) plan.packets (next.picture + 1)
    ((next.first + length plan.packets) % 2 ^ 32) (drop (next.picture + 1) pictures)
    ≡ to_come plan stamp pictures
    (cond b
    (record {
      picture = next.picture + 1;
      index = 0;
      first =
          (next.first + length plan.packets) % 2 ^ 32;
    })
    (record { picture = next.picture; index = next.index + 1; first = next.first }))
left_behind plan stamp pictures next p true e here =
    ap (λ (qs : List (List PacketRun)). datagram_texts p
    (stamp_of (sender_of plan stamp) next.picture next.first) (next.index + 1) qs
    ++ texts_from (sender_of plan stamp) plan.packets (next.picture + 1)
    ((next.first + length plan.packets) % 2 ^ 32) (drop (next.picture + 1) pictures))
    (drop_past plan.packets (next.index + 1)
    (omega (arith, eqb-true (next.index + 1) (length plan.packets) e)))
    ∙ behind_first plan stamp (next.picture + 1) ((next.first + length plan.packets) % 2 ^ 32)
    (drop (next.picture + 1) pictures)
left_behind plan stamp pictures next p false e here =
    ap (texts_behind plan stamp next.picture (next.index + 1) next.first) (sym here)

pub next_made : (plan : RasterPlan) (stamp own : Stamp) (pictures : List Values) (next new : Next)
    (d : Values) (octets : List ℕ)
    → next.picture < length pictures → next.index < length plan.packets
    → own ≡ stamp_of (sender_of plan stamp) next.picture next.first
    → octets ≡ datagram_at plan (get_or pictures next.picture d) own next.index
    → new ≡ after_packet (length plan.packets) next
    → to_come plan stamp pictures next ≡ octets ∷ to_come plan stamp pictures new
unfolding datagram_at
next_made plan stamp own pictures next new d octets lt below is_own text moved =
    let p : Values = get_or pictures next.picture d in
    let here : drop next.picture pictures ≡ p ∷ drop (next.picture + 1) pictures =
    drop_here pictures next.picture d lt in
    let its : Stamp = stamp_of (sender_of plan stamp) next.picture next.first in
    let behind : List (List ℕ) =
    texts_from (sender_of plan stamp) plan.packets (next.picture + 1)
    ((next.first + length plan.packets) % 2 ^ 32) (drop (next.picture + 1) pictures) in
    let last : Bool = eqb (next.index + 1) (length plan.packets) in
    ap (texts_behind plan stamp next.picture next.index next.first) here
    ∙ ap (λ (qs : List (List PacketRun)). datagram_texts p its next.index qs ++ behind)
    (drop_here plan.packets next.index [] below)
    ∙ ap
    (λ (b : Bool). datagram_text p its next.index b (packet_at plan next.index) ∷
    (datagram_texts p its (next.index + 1) (drop (next.index + 1) plan.packets) ++ behind))
    (none_left plan.packets (next.index + 1) (omega (arith, below)))
    ∙ ap
    (λ (s : Stamp). datagram_text p s next.index last (packet_at plan next.index) ∷
    (datagram_texts p its (next.index + 1) (drop (next.index + 1) plan.packets) ++ behind))
    (sym is_own)
    ∙ ap
    (λ (x : List ℕ). x ∷
    (datagram_texts p its (next.index + 1) (drop (next.index + 1) plan.packets) ++ behind))
    (sym text)
    ∙ ap (λ (ds : List (List ℕ)). octets ∷ ds)
    (left_behind plan stamp pictures next p last refl here)
    ∙ ap (λ (n : Next). octets ∷ to_come plan stamp pictures n) (sym moved)

-- Room for each datagram is left where a slice of the room was written.
pub room_kept : {A : Type 0} (plan : RasterPlan) (buf : Vec ℕ A) (lent new kept : List ℕ)
    → lent ≡ buf.items → length new ≡ length lent → kept ≡ new
    → EachHasRoom plan (length buf.items) → EachHasRoom plan (length kept)
room_kept plan buf lent new kept of_buf long is room =
    subst (λ (n : ℕ). EachHasRoom plan n)
    (sym (ap (λ (xs : List ℕ). length xs) is ∙ long ∙ ap (λ (xs : List ℕ). length xs) of_buf)) room

pub upto : (n m : ℕ) → n < m → n ≤ m
upto n m lt = omega (arith, lt)

pub below_all : (n m most : ℕ) → n < m → m ≤ most → n < most
below_all n m most lt le = omega (arith, lt, le)

-- past the last picture nothing is to come
pub to_come_past : (plan : RasterPlan) (stamp : Stamp) (pictures : List Values) (next : Next)
    → length pictures ≤ next.picture → to_come plan stamp pictures next ≡ []
to_come_past plan stamp pictures next le =
    ap (texts_behind plan stamp next.picture next.index next.first)
    (drop_past pictures next.picture le)

abbrev moved : Bool → ℕ → Next → Next
moved b count next =
    cond b
    (record { picture = next.picture + 1; index = 0; first = (next.first + count) % 2 ^ 32 })
    (record { picture = next.picture; index = next.index + 1; first = next.first })

-- a packet moves on to another of so many
pub index_after : (count : ℕ) (next : Next) → next.index < count
    → (after_packet count next).index < count
index_after count next lt = elim (eqb_tells (next.index + 1) count) [
  | inl h ↦ subst (λ (b : Bool). (moved b count next).index < count) (sym h.0)
      (omega (arith, lt))
  | inr h ↦ subst (λ (b : Bool). (moved b count next).index < count) (sym h.0)
      (omega (arith, lt, h.1))
]

pub fits_below : (n m : ℕ) → n < m → m ≤ 10000 → Fits w32 n
fits_below n m lt le = omega (arith, lt, le)

-- each packet of a plan has room
pub room_at : (plan : RasterPlan) (octets i : ℕ) → EachHasRoom plan octets
    → i < length plan.packets → packet_octets plan.format (packet_at plan i) ≤ octets
room_at plan octets i room lt =
    All-from_recursion (λ (packet : List PacketRun). packet_octets plan.format packet ≤ octets)
    plan.packets room i [] lt

-- the octets of a packet lie within what was lent
pub octets_within : (count octets lent left : ℕ) → count ≡ octets → octets ≤ lent → left ≡ lent
    → count ≤ left
octets_within count octets lent left is le kept = omega (arith, is, le, kept)
