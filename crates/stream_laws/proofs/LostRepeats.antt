-- What is lost of a prompt stream is of a time that came before.
use Rattle.std.proofs.Common.{◌≡◌, ◌∙◌, ℕ, ◌<◌, Bool, true, false, List, [], ◌∷◌, ◌++◌, Ok, ap}
use Rattle.std.proofs.Common.{append_assoc, inl, inr, map, refl, subst, sym}
use Rattle.std.proofs.lemmas.List.Concat.{flat_map-append}
use Rattle.following.specs.Acts.{AreNearby}
use Rattle.following.specs.Follower.{Following, opened, reading_of}
use Rattle.following.specs.Following.{Handed}
use Rattle.following.specs.Prompt.{AreAgreed, IsPrompt}
use Rattle.following.specs.Times.{AreTimed, IsNear, Timed, handed_at, in_order, octets_of, time_of}
use Rattle.following.specs.Times.{times_of}
use Rattle.following.specs.Turned.{answer_in, is_lost, kept_of, state_behind, turned, with_kept}
use Rattle.following.proofs.Lost.{kept_stream}
use Rattle.following.proofs.Near.{same_time}
use Rattle.following.proofs.Ordered.{order_keeps}
use Rattle.following.proofs.Prompt.{prompt_stream}
use Rattle.following.proofs.Streams.{came, times_at}
use Rattle.path_receiver.specs.Grammar.{Datagram}
use Rattle.path_receiver.specs.Opening.{Opening}
use Rattle.st_format.specs.Member.{IsMember}
use Rattle.st_format.proofs.Members.{member-flat_map, member-map, member_left, member_of_flat_map}
use Rattle.st_format.proofs.Members.{member_of_map, member_right}

-- ---- a first part of a list

part_of : {X : Type 0} (zs ps ys before after : List X) (x : X) → zs ≡ ps ++ ys
    → ps ≡ before ++ x ∷ after → zs ≡ before ++ x ∷ (after ++ ys)
part_of zs ps ys before after x e k =
    e ∙ ap (λ (l : List _). l ++ ys) k ∙ append_assoc before (x ∷ after) ys

part_times : (o : Opening) (zs ps ys : List Timed) → zs ≡ ps ++ ys
    → times_of o zs ≡ times_of o ps ++ times_of o ys
part_times o zs ps ys e = ap (times_of o) e ∙ flat_map-append (time_of o) ps ys

-- A first part of a prompt stream is prompt.
prompt_part : (eager : Bool) (o : Opening) (size ahead : ℕ) (zs ps ys : List Timed)
    → IsPrompt eager o size ahead zs → zs ≡ ps ++ ys → IsPrompt eager o size ahead ps
prompt_part eager o size ahead zs ps ys prompt e = record {
  repeats = λ before after x d k read many.
      prompt.repeats before (after ++ ys) x d (part_of zs ps ys before after x e k) read many;
  within = λ before after u v k greatest.
      prompt.within before (after ++ times_of o ys) u v
      (part_of (times_of o zs) (times_of o ps) (times_of o ys) before after u
      (part_times o zs ps ys e) k) greatest;
  firsts = λ is before after x d v k read m lt full.
      prompt.firsts is before (after ++ ys) x d v (part_of zs ps ys before after x e k) read m lt
      full;
}

-- ---- those that are kept

one_kept : (b : Bool) (x y : Timed) (ks xs : List Timed) → (IsMember y ks → IsMember y xs)
    → IsMember y (with_kept b x ks) → IsMember y (x ∷ xs)
one_kept true x y ks xs on m = inr (on m)
one_kept false x y ks xs on (inl e) = inl e
one_kept false x y ks xs on (inr m) = inr (on m)

kept_among : (eager : Bool) (s : Following) (xs : List Timed) (y : Timed)
    → IsMember y (kept_of eager s xs) → IsMember y xs
kept_among eager s [] y m = m
kept_among eager s (x ∷ xs) y m =
    let t : Following = turned eager s x.octets in
    one_kept (is_lost (answer_in s x.octets)) x y (kept_of eager t xs) xs
    (λ k. kept_among eager t xs y k) m

-- where the last is lost they are all before it
kept_before : (eager : Bool) (s : Following) (xs : List Timed) (x y : Timed)
    → is_lost (answer_in (state_behind eager s (octets_of xs)) x.octets) ≡ true
    → IsMember y (kept_of eager s (xs ++ x ∷ [])) → IsMember y xs
kept_before eager s [] x y lost m =
    absurd (subst (λ (b : Bool). IsMember y (with_kept b x [])) lost m)
kept_before eager s (z ∷ xs) x y lost m =
    let t : Following = turned eager s z.octets in
    one_kept (is_lost (answer_in s z.octets)) z y (kept_of eager t (xs ++ x ∷ [])) xs
    (λ k. kept_before eager t xs x y lost k) m

-- the times of some are among those of all
times_among : (o : Opening) (ks xs : List Timed)
    → ((y : Timed) → IsMember y ks → IsMember y xs) → (u : ℕ) → IsMember u (times_of o ks)
    → IsMember u (times_of o xs)
times_among o ks xs among u m =
    let r = member-flat_map (time_of o) u ks m in
    member_of_flat_map (time_of o) r.0 u xs (among r.0 r.1) r.2

-- ---- a stream

module _ (eager : Bool) (o : Opening) (size ahead : ℕ) (zs : List Timed) (some : 0 < size)
    (timed : AreTimed o zs)
    (near : (u v : ℕ) → IsMember u (times_of o zs) → IsMember v (times_of o zs) → IsNear u v)
    (prompt : IsPrompt eager o size ahead zs)
    (agreed : (ps ys : List Timed) → zs ≡ ps ++ ys → AreAgreed o ps)
  where
    abbrev f : Following
    f = opened o size ahead

    in_whole : (ps ys : List Timed) → zs ≡ ps ++ ys → (y : Timed) → IsMember y ps
        → IsMember y zs
    in_whole ps ys e y m =
        subst (λ (l : List Timed). IsMember y l) (sym e) (member_left y ps ys m)

    nearby : (ks : List Timed) → ((y : Timed) → IsMember y ks → IsMember y zs)
        → AreNearby size (times_of o ks)
    nearby ks among before after u v e m few =
        near u v
        (times_among o ks zs among u
        (subst (λ (l : List ℕ). IsMember u l) (sym e)
        (member_right u before (u ∷ after) (inl refl))))
        (times_among o ks zs among v
        (subst (λ (l : List ℕ). IsMember v l) (sym e) (member_left v before (u ∷ after) m)))

    -- a first part hands out what those of it do that are kept
    same_handed : (ps ys : List Timed) → zs ≡ ps ++ ys
        → map (handed_at o ps) (in_order (times_of o ps))
        ≡ map (handed_at o (kept_of eager f ps)) (in_order (times_of o (kept_of eager f ps)))
    same_handed ps ys e =
        let ks : List Timed = kept_of eager f ps in
        let among : (y : Timed) → IsMember y ks → IsMember y zs =
        λ y m. in_whole ps ys e y (kept_among eager f ps y m) in
        sym (prompt_stream eager o size ahead ps some
        (λ x d m read. timed x d (in_whole ps ys e x m) read)
        (nearby ps (in_whole ps ys e))
        (prompt_part eager o size ahead zs ps ys prompt e) (λ is. agreed ps ys e))
        ∙ kept_stream eager o size ahead ps some
        (λ x d m read. timed x d (among x m) read) (nearby ks among)

    -- The time of one that is lost came before it.
    pub lost_came : (xs ys : List Timed) (x : Timed) (d : Datagram) → zs ≡ xs ++ x ∷ ys
        → reading_of o x.octets ≡ Ok d
        → is_lost (answer_in (state_behind eager f (octets_of xs)) x.octets) ≡ true
        → IsMember x.time (times_of o xs)
    lost_came xs ys x d e read lost =
        let u : ℕ = x.time in
        let ps : List Timed = xs ++ x ∷ [] in
        let ks : List Timed = kept_of eager f ps in
        let parts : zs ≡ ps ++ ys = e ∙ sym (append_assoc xs (x ∷ []) ys) in
        let first : IsMember u (times_of o ps) =
        subst (λ (l : List ℕ). IsMember u l) (sym (times_at o xs [] x d read))
        (member_right u (times_of o xs) (u ∷ []) (inl refl)) in
        let h =
        member-map (handed_at o ks) (handed_at o ps u) (in_order (times_of o ks))
        (subst (λ (hs : List Handed). IsMember (handed_at o ps u) hs) (same_handed ps ys parts)
        (member_of_map (handed_at o ps) u (in_order (times_of o ps))
        (order_keeps u [] (times_of o ps) (inr first)))) in
        let again : IsMember h.0 (times_of o xs) =
        times_among o ks xs (λ y m. kept_before eager f xs x y lost m) h.0
        (came h.0 (times_of o ks) (in_order (times_of o ks)) refl h.1) in
        let same : u ≡ h.0 =
        same_time u h.0
        (near u h.0 (times_among o ps zs (in_whole ps ys parts) u first)
        (times_among o xs zs (in_whole xs (x ∷ ys) e) h.0 again))
        (ap (λ (y : Handed). y.timestamp) h.2) in
        subst (λ (y : ℕ). IsMember y (times_of o xs)) (sym same) again
