-- Frames of the datagrams of a time are those of the whole list, where all times are in one round.
use Rattle.std.proofs.Common.{◌≡◌, ℕ, ◌+◌, ◌%◌, ◌^◌, ◌<◌, ◌≤◌, inl, inr, Bool, true, false, cond}
use Rattle.std.proofs.Common.{eqb, List, [], ◌∷◌, ◌++◌, map, Result, Ok, Err, refl, sym, ap, ◌∙◌}
use Rattle.std.proofs.Common.{subst, arith}
use Rattle.std.specs.List.{filter, flat_map}
use Rattle.std.proofs.lemmas.Bool.{eqb-false}
use Rattle.st_format.specs.declared.cell.Cell.{Cell}
use Rattle.st_format.specs.declared.format.Format.{Format}
use Rattle.st_format.specs.Member.{IsMember}
use Rattle.st_format.specs.Offer.{Offer}
use Rattle.st_format.specs.Raster.{Raster, cells_of, joined_cells, joined_rasters, raster_of}
use Rattle.st_format.proofs.Rasters.{cells_of-append}
use Rattle.st_format.proofs.Members.{member_left, member_right}
use Rattle.path_receiver.specs.declared.answer.Refusal.{Refusal}
use Rattle.path_receiver.specs.Grammar.{Datagram}
use Rattle.path_receiver.specs.Offers.{offers, offers_of}
use Rattle.path_receiver.specs.Opening.{Opening}
use Rattle.path_receiver.proofs.Frames.{cells_kept}
use Rattle.following.specs.Serial.{wrapped}
use Rattle.following.specs.Follower.{opened, reading_of}
use Rattle.following.specs.Following.{Handed, handed_out}
use Rattle.following.specs.Times.{AreInRound, AreTimed, IsInRound, IsOrderly, Timed, datagrams_at}
use Rattle.following.specs.Times.{frame_of, handed_at, handed_of, in_order, octets_of, time_if}
use Rattle.following.specs.Times.{times_of}
use Rattle.following.proofs.FrameLemmas.{frame_both}
use Rattle.following.proofs.Orders.{order_members}
use Rattle.following.proofs.Streams.{whole_stream}

abbrev with_cells : Format → List Cell → Raster
with_cells f cells = record { format = f; cells = cells }

-- offers that give no cell at a timestamp join nothing before others
none_before : (f : Format) (xs ys : List Offer) (ts : ℕ) → cells_of f xs ts ≡ cells_of f [] ts
    → raster_of f (xs ++ ys) ts ≡ raster_of f ys ts
none_before f xs ys ts none =
    ap (with_cells f)
    (cells_of-append f xs ys ts
    ∙ ap (λ (cs : List Cell). joined_cells cs (cells_of f ys ts)) none
    ∙ sym (cells_of-append f [] ys ts))

-- whether a datagram is of a time, or of another timestamp, or none
abbrev IsOtherwise : Opening → ℕ → List ℕ → Result Datagram Refusal → Type 0
IsOtherwise o ts octets (Ok d) = d.timestamp ≡ ts → ⊥
IsOtherwise o ts octets (Err e) = Unit {0}

nothing_at : (o : Opening) (ts : ℕ) (octets : List ℕ) (r : Result Datagram Refusal)
    → reading_of o octets ≡ r → IsOtherwise o ts octets r
    → cells_of o.format (offers o octets) ts ≡ cells_of o.format [] ts
nothing_at o ts octets (Ok d) read other =
    ap (λ (x : Result Datagram Refusal). cells_of o.format (offers_of o.format x) ts) read
    ∙ cells_kept o.format [] ts d.timestamp d.segments other
nothing_at o ts octets (Err e) read other =
    ap (λ (x : Result Datagram Refusal). cells_of o.format (offers_of o.format x) ts) read

-- two times of a round of one timestamp are one
one_in_round : (base u v : ℕ) → IsInRound base u → IsInRound base v → wrapped u ≡ wrapped v → u ≡ v
one_in_round base u v a b e = same base u v a.from a.below b.from b.below e
  where
    same : (base u v : ℕ) → base ≤ u → u < base + 2 ^ 32 → base ≤ v → v < base + 2 ^ 32
        → u % 2 ^ 32 ≡ v % 2 ^ 32 → u ≡ v
    same base u v a b c d e = omega arith

abbrev at_time : ℕ → Timed → List Timed → Bool → List (List ℕ)
at_time v z zs b =
    octets_of (cond b (z ∷ filter (λ x. eqb x.time v) zs) (filter (λ x. eqb x.time v) zs))

abbrev AreOthers : Opening → ℕ → List Timed → Type 0
AreOthers o u xs = (x : Timed) → IsMember x xs → (eqb x.time u ≡ false)
    → IsOtherwise o (wrapped u) x.octets (reading_of o x.octets)

whole_at : (o : Opening) (u : ℕ) (x : Timed) (xs : List Timed) (b : Bool) → eqb x.time u ≡ b
    → (eqb x.time u ≡ false → IsOtherwise o (wrapped u) x.octets (reading_of o x.octets))
    → frame_of o (datagrams_at u xs) (wrapped u) ≡ frame_of o (octets_of xs) (wrapped u)
    → frame_of o (at_time u x xs b) (wrapped u) ≡ frame_of o (x.octets ∷ octets_of xs) (wrapped u)
whole_at o u x xs true e other rest =
    frame_both o (x.octets ∷ []) (datagrams_at u xs) (wrapped u)
    ∙ ap (λ (r : Raster). joined_rasters (frame_of o (x.octets ∷ []) (wrapped u)) r) rest
    ∙ sym (frame_both o (x.octets ∷ []) (octets_of xs) (wrapped u))
whole_at o u x xs false e other rest =
    rest
    ∙ sym
    (none_before o.format (offers o x.octets) (flat_map (offers o) (octets_of xs)) (wrapped u)
    (nothing_at o (wrapped u) x.octets (reading_of o x.octets) refl (other e)))

-- The frame of a time is that of the whole list.
whole_frame : (o : Opening) (u : ℕ) (xs : List Timed) → AreOthers o u xs
    → frame_of o (datagrams_at u xs) (wrapped u) ≡ frame_of o (octets_of xs) (wrapped u)
whole_frame o u [] others = refl
whole_frame o u (x ∷ xs) others =
    whole_at o u x xs (eqb x.time u) refl (others x (inl refl))
    (whole_frame o u xs (λ y m. others y (inr m)))

-- ---- all times are in one round

pub times_has : (o : Opening) (x : Timed) (d : Datagram) (xs : List Timed) → IsMember x xs
    → reading_of o x.octets ≡ Ok d → IsMember x.time (times_of o xs)
times_has o x d [] m read = absurd m
times_has o x d (y ∷ xs) (inl e) read =
    member_left x.time (time_if y.time (reading_of o y.octets)) (times_of o xs)
    (subst (λ (z : Timed). IsMember x.time (time_if z.time (reading_of o z.octets))) e
    (subst (λ (r : Result Datagram Refusal). IsMember x.time (time_if x.time r)) (sym read)
    (inl refl)))
times_has o x d (y ∷ xs) (inr m) read =
    member_right x.time (time_if y.time (reading_of o y.octets)) (times_of o xs)
    (times_has o x d xs m read)

otherwise : (o : Opening) (base u : ℕ) (x : Timed) (r : Result Datagram Refusal)
    → reading_of o x.octets ≡ r
    → ((d : Datagram) → r ≡ Ok d → (d.timestamp ≡ wrapped x.time) × IsInRound base x.time)
    → IsInRound base u → eqb x.time u ≡ false → IsOtherwise o (wrapped u) x.octets r
otherwise o base u x (Ok d) read told round e =
    let k = told d refl in
    λ same. eqb-false x.time u e (one_in_round base x.time u k.1 round (sym k.0 ∙ same))
otherwise o base u x (Err f) read told round e = tt

others_in : (o : Opening) (base u : ℕ) (xs : List Timed) → AreTimed o xs
    → AreInRound base (times_of o xs) → IsInRound base u → AreOthers o u xs
others_in o base u xs timed rounds round x m e =
    otherwise o base u x (reading_of o x.octets) refl
    (λ d read. (timed x d m read, rounds x.time (times_has o x d xs m read))) round e

pub map_members : {X Y : Type 0} (f g : X → Y) (xs : List X)
    → ((x : X) → IsMember x xs → f x ≡ g x) → map f xs ≡ map g xs
map_members {X} {Y} f g [] h = refl
map_members {X} {Y} f g (x ∷ xs) h =
    ap (λ (y : Y). y ∷ map f xs) (h x (inl refl))
    ∙ ap (λ (ys : List Y). g x ∷ ys) (map_members f g xs (λ z m. h z (inr m)))

abbrev handed : ℕ → Raster → Handed
handed u frame = record { timestamp = wrapped u; frame = frame }

-- The frame of each time is the Frames of the whole list at its timestamp.
pub map_whole : (o : Opening) (base : ℕ) (xs : List Timed) → AreTimed o xs
    → AreInRound base (times_of o xs)
    → map (handed_at o xs) (in_order (times_of o xs))
    ≡ map (handed_of o (octets_of xs)) (in_order (times_of o xs))
map_whole o base xs timed rounds =
    map_members (handed_at o xs) (handed_of o (octets_of xs)) (in_order (times_of o xs))
    (λ u m. ap (handed u)
    (whole_frame o u xs
    (others_in o base u xs timed rounds
    (rounds u ((order_members (times_of o xs)).back u m)))))

-- What is handed out is the Frames of the whole list, at each of its timestamps.
pub whole_list : (o : Opening) (size ahead base : ℕ) (xs : List Timed) → 0 < size → AreTimed o xs
    → IsOrderly size ahead (times_of o xs) → AreInRound base (times_of o xs)
    → handed_out (opened o size ahead) (octets_of xs)
    ≡ map (handed_of o (octets_of xs)) (in_order (times_of o xs))
whole_list o size ahead base xs some timed orderly rounds =
    whole_stream o size ahead xs some timed orderly ∙ map_whole o base xs timed rounds
