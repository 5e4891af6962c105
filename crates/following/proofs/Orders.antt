-- Lists in order, and lists with the same members.
use Rattle.std.proofs.Common.{◌≡◌, ℕ, zero, suc, ◌+◌, ◌<◌, inl, inr, List}
use Rattle.std.proofs.Common.{eqb, [], ◌∷◌, map, refl, sym, ap, ◌∙◌, subst, arith}
use Rattle.std.specs.Prelude.{slice_index}
use Rattle.std.specs.List.{AllByRecursion, filter, flat_map}
use Rattle.std.specs.List.Sorted.{IsStrictlyIncreasing}
use Rattle.st_format.specs.Member.{IsMember, SameMembers}
use Rattle.st_format.proofs.Members.{SameMembers-flat_map, SameMembers-filter, SameMembers-map}
use Rattle.st_format.proofs.Rasters.{cells_of-same}
use Rattle.st_format.specs.declared.cell.Cell.{Cell}
use Rattle.path_receiver.specs.Offers.{offers}
use Rattle.path_receiver.specs.Opening.{Opening}
use Rattle.following.specs.Serial.{wrapped}
use Rattle.following.specs.Following.{Handed, handed_out}
use Rattle.following.specs.Follower.{opened}
use Rattle.following.specs.Times.{AreTimed, IsOrderly, Timed, datagrams_at, handed_at}
use Rattle.following.specs.Times.{in_order, octets_of, time_of, times_of}
use Rattle.following.proofs.Ordered.{Rises, order_from, order_keeps, rises_behind}
use Rattle.following.proofs.Rising.{all_member}
use Rattle.following.proofs.Streams.{whole_stream}

-- ---- rising

pub increasing : (xs : List ℕ) → Rises xs → IsStrictlyIncreasing xs
increasing [] h k lt = absurd (omega (arith, lt))
increasing (x ∷ []) h k lt = absurd (omega (arith, lt))
increasing (x ∷ y ∷ xs) h zero lt = h.0.0
increasing (x ∷ y ∷ xs) h (suc k) lt =
    subst (λ (j : ℕ). slice_index (y ∷ xs) k < slice_index (x ∷ y ∷ xs) j) (next k)
    (increasing (y ∷ xs) h.1 k (omega (arith, lt)))
  where
    next : (k : ℕ) → suc (k + 1) ≡ suc k + 1
    next k = omega arith

pub order_rises : (us : List ℕ) → IsStrictlyIncreasing (in_order us)
order_rises us = increasing (in_order us) (rises_behind [] us tt)

pub order_members : (us : List ℕ) → SameMembers us (in_order us)
order_members us = record {
  forth = λ u m. order_keeps u [] us (inr m);
  back = λ u m. elim (order_from u [] us m) [ inl k ↦ absurd k | inr k ↦ k ];
}

-- ---- the same members

below_all : (x : ℕ) (ys : List ℕ) → AllByRecursion (λ u. x < u) ys → IsMember x ys → ⊥
below_all x ys h m =
    let lt : x < x = all_member (λ u. x < u) x ys h m in absurd (omega (arith, lt))

-- the least of each is the least of the other
same_first : (x y : ℕ) (xs ys : List ℕ) → Rises (x ∷ xs) → Rises (y ∷ ys)
    → SameMembers (x ∷ xs) (y ∷ ys) → x ≡ y
same_first x y xs ys h k same = at (same.forth x (inl refl)) (same.back y (inl refl))
  where
    at : IsMember x (y ∷ ys) → IsMember y (x ∷ xs) → x ≡ y
    at (inl e) n = e
    at (inr m) (inl e) = sym e
    at (inr m) (inr n) =
        let gt : y < x = all_member (λ u. y < u) x ys k.0 m in
        let lt : x < y = all_member (λ u. x < u) y xs h.0 n in absurd (omega (arith, gt, lt))

rest_forth : (x y : ℕ) (xs ys : List ℕ) → Rises (x ∷ xs) → x ≡ y
    → ((u : ℕ) → IsMember u (x ∷ xs) → IsMember u (y ∷ ys)) → (u : ℕ) → IsMember u xs
    → IsMember u ys
rest_forth x y xs ys h e forth u m = at (forth u (inr m))
  where
    at : IsMember u (y ∷ ys) → IsMember u ys
    at (inl s) = absurd (below_all x xs h.0 (subst (λ (v : ℕ). IsMember v xs) (s ∙ sym e) m))
    at (inr k) = k

pub same_rising : (xs ys : List ℕ) → Rises xs → Rises ys → SameMembers xs ys → xs ≡ ys
same_rising [] [] h k same = refl
same_rising [] (y ∷ ys) h k same = absurd (same.back y (inl refl))
same_rising (x ∷ xs) [] h k same = absurd (same.forth x (inl refl))
same_rising (x ∷ xs) (y ∷ ys) h k same =
    let e : x ≡ y = same_first x y xs ys h k same in
    let rest : xs ≡ ys =
    same_rising xs ys h.1 k.1
    (record {
      forth = rest_forth x y xs ys h e same.forth;
      back = rest_forth y x ys xs k (sym e) same.back;
    }) in
    ap (λ (z : ℕ). z ∷ xs) e ∙ ap (λ (zs : List ℕ). y ∷ zs) rest

pub in_order-same : (us vs : List ℕ) → SameMembers us vs → in_order us ≡ in_order vs
in_order-same us vs same =
    same_rising (in_order us) (in_order vs) (rises_behind [] us tt) (rises_behind [] vs tt)
    (record {
      forth = λ u m. (order_members vs).forth u (same.forth u ((order_members us).back u m));
      back = λ u m. (order_members us).forth u (same.back u ((order_members vs).back u m));
    })

-- ---- the same datagrams

abbrev handed : Opening → ℕ → List Cell → Handed
handed o u cells =
    record { timestamp = wrapped u; frame = record { format = o.format; cells = cells } }

pub handed_at-same : (o : Opening) (xs ys : List Timed) → SameMembers xs ys → (u : ℕ)
    → handed_at o xs u ≡ handed_at o ys u
handed_at-same o xs ys same u =
    ap (handed o u)
    (cells_of-same o.format (flat_map (offers o) (datagrams_at u xs))
    (flat_map (offers o) (datagrams_at u ys)) (wrapped u)
    (SameMembers-flat_map (offers o) (datagrams_at u xs) (datagrams_at u ys)
    (SameMembers-map (λ (x : Timed). x.octets) (filter (λ x. eqb x.time u) xs)
    (filter (λ x. eqb x.time u) ys)
    (SameMembers-filter (λ (x : Timed). eqb x.time u) xs ys same))))

map_same : {X Y : Type 0} (f g : X → Y) (xs : List X) → ((x : X) → f x ≡ g x) → map f xs ≡ map g xs
map_same {X} {Y} f g [] h = refl
map_same {X} {Y} f g (x ∷ xs) h =
    ap (λ (y : Y). y ∷ map f xs) (h x) ∙ ap (λ (ys : List Y). g x ∷ ys) (map_same f g xs h)

-- Orderly lists with the same members hand out the same.
pub any_order : (o : Opening) (size ahead : ℕ) (xs ys : List Timed) → 0 < size → SameMembers xs ys
    → AreTimed o xs → IsOrderly size ahead (times_of o xs) → IsOrderly size ahead (times_of o ys)
    → handed_out (opened o size ahead) (octets_of xs) ≡ handed_out (opened o size ahead) (octets_of ys)
any_order o size ahead xs ys some same timed orderly also =
    whole_stream o size ahead xs some timed orderly
    ∙ ap (λ (us : List ℕ). map (handed_at o xs) us)
    (in_order-same (times_of o xs) (times_of o ys) (SameMembers-flat_map (time_of o) xs ys same))
    ∙ map_same (handed_at o xs) (handed_at o ys) (in_order (times_of o ys))
    (handed_at-same o xs ys same)
    ∙ sym
    (whole_stream o size ahead ys some (λ x d m read. timed x d (same.back x m) read) also)
