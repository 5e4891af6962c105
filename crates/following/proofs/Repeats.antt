-- What comes of a time whose frame went adds nothing to it.
use Rattle.std.proofs.Common.{◌≡◌, ℕ, ◌≤◌, ◌⊎◌, inl, inr, Bool, true, false, cond, eqb}
use Rattle.std.proofs.Common.{List, [], ◌∷◌, ◌++◌, length}
use Rattle.std.proofs.Common.{Result, Ok, Err, refl, sym, ap, ◌∙◌, subst, arith, append_assoc}
use Rattle.std.proofs.Common.{append-nil}
use Rattle.std.specs.Prelude.{count_by}
use Rattle.std.specs.List.{filter, flat_map}
use Rattle.std.proofs.lemmas.Bool.{cases_eq, eq-eqb, eqb-true, false≢true}
use Rattle.std.proofs.lemmas.List.Sums.{length-filter}
use Rattle.std.proofs.lemmas.List.Concat.{flat_map-append}
use Rattle.st_format.specs.declared.cell.Cell.{Cell}
use Rattle.st_format.specs.declared.cell.Cell.TheVariants.{Missing, Value, Contested}
use Rattle.st_format.specs.Cell.{is_missing, join}
use Rattle.st_format.specs.Member.{IsMember, SameMembers}
use Rattle.st_format.specs.Offer.{cell_of}
use Rattle.st_format.specs.Position.{IsPosition, Position, places}
use Rattle.st_format.specs.Raster.{Raster, cell_at, joined_cells}
use Rattle.st_format.proofs.Members.{member_cases, member_left}
use Rattle.st_format.proofs.Places.{member-places}
use Rattle.st_format.proofs.Rasters.{cell_at-raster_of}
use Rattle.path_receiver.specs.declared.answer.Refusal.{Refusal}
use Rattle.path_receiver.specs.Grammar.{Datagram}
use Rattle.path_receiver.specs.Offers.{offers}
use Rattle.path_receiver.specs.Opening.{Opening}
use Rattle.following.specs.Serial.{wrapped}
use Rattle.following.specs.Follower.{reading_of}
use Rattle.following.specs.Following.{Handed}
use Rattle.following.specs.Prompt.{AreAgreed, AreRepeats}
use Rattle.following.specs.Times.{Timed, datagrams_at, frame_of, handed_at, in_order}
use Rattle.following.specs.Times.{in_order_behind, newer_than, time_of, times_of}
use Rattle.following.specs.Turned.{is_complete}
use Rattle.following.proofs.Complete.{no_more}
use Rattle.following.proofs.Early.{after_refused, kept_whole, one_more}
use Rattle.following.proofs.FrameLemmas.{datagrams_at-append, frame_both}
use Rattle.following.proofs.Ordered.{grown, in_order-append, later}
use Rattle.following.proofs.Orders.{handed_at-same}
use Rattle.following.proofs.WholeList.{map_members}

-- ---- after so many newer times

there_twice : (y : Timed) (xs : List Timed) → IsMember y xs → SameMembers xs (xs ++ y ∷ [])
there_twice y xs m = record {
  forth = λ x k. member_left x xs (y ∷ []) k;
  back = λ x k. at x (member_cases x xs (y ∷ []) k);
}
  where
    at : (x : Timed) → IsMember x xs ⊎ IsMember x (y ∷ []) → IsMember x xs
    at x (inl k) = k
    at x (inr (inl e)) = subst (λ (z : Timed). IsMember z xs) (sym e) m
    at x (inr (inr k)) = absurd k

-- No fewer are newer after one more has come.
pub still_newer : (o : Opening) (size v : ℕ) (xs : List Timed) (y : Timed)
    → size ≤ length (newer_than v (times_of o xs))
    → size ≤ length (newer_than v (times_of o (xs ++ y ∷ [])))
still_newer o size v xs y many =
    let us : List ℕ = times_of o xs in
    let ws : List ℕ = times_of o (y ∷ []) in
    let more : length (filter (later v) (in_order us))
    ≤ length (filter (later v) (in_order_behind (in_order us) ws)) = grown v (in_order us) ws in
    subst (λ (vs : List ℕ). size ≤ length (filter (later v) vs))
    (sym (ap in_order (flat_map-append (time_of o) xs (y ∷ [])) ∙ in_order-append [] us ws))
    (omega (arith, many, more))

repeat_one : (o : Opening) (size v : ℕ) (xs ys : List Timed) (y : Timed)
    (r : Result Datagram Refusal) → reading_of o y.octets ≡ r → AreRepeats o size (xs ++ y ∷ ys)
    → size ≤ length (newer_than v (times_of o xs))
    → handed_at o xs v ≡ handed_at o (xs ++ y ∷ []) v
repeat_one o size v xs ys y (Err e) read repeats many =
    kept_whole o v xs (y ∷ [])
    (λ m. after_refused v y.time (reading_of o y.octets) e [] read (λ k. k) m)
repeat_one o size v xs ys y (Ok d) read repeats many = at (cases_eq v y.time)
  where
    at : (v ≡ y.time) ⊎ (v ≡ y.time → ⊥) → handed_at o xs v ≡ handed_at o (xs ++ y ∷ []) v
    at (inl same) =
        handed_at-same o xs (xs ++ y ∷ [])
        (there_twice y xs
        (repeats xs ys y d refl read
        (subst (λ (t : ℕ). size ≤ length (newer_than t (times_of o xs))) same many))) v
    at (inr ne) =
        kept_whole o v xs (y ∷ [])
        (λ m. one_more v y.time (reading_of o y.octets) [] ne (λ k. k) m)

-- After so many newer times only repeats come, which leave the frame.
pub repeated : (o : Opening) (size v : ℕ) (ys xs : List Timed) → AreRepeats o size (xs ++ ys)
    → size ≤ length (newer_than v (times_of o xs)) → handed_at o xs v ≡ handed_at o (xs ++ ys) v
repeated o size v [] xs repeats many =
    ap (λ (zs : List Timed). handed_at o zs v) (sym (append-nil xs))
repeated o size v (y ∷ ys) xs repeats many =
    let whole : (xs ++ y ∷ []) ++ ys ≡ xs ++ y ∷ ys = append_assoc xs (y ∷ []) ys in
    repeat_one o size v xs ys y (reading_of o y.octets) refl repeats many
    ∙ repeated o size v ys (xs ++ y ∷ []) (subst (AreRepeats o size) (sym whole) repeats)
    (still_newer o size v xs y many)
    ∙ ap (λ (zs : List Timed). handed_at o zs v) whole

-- ---- after a frame is complete

-- a cell of which something is known stays known
join_known : (c d : Cell) → is_missing c ≡ false → is_missing (join c d) ≡ false
join_known Missing d known = absurd (false≢true (sym known))
join_known (Value v) Missing known = refl
join_known (Value v) (Value w) known = at (eqb v w)
  where
    at : (b : Bool) → is_missing (cond b (Value v) Contested) ≡ false
    at true = refl
    at false = refl
join_known (Value v) Contested known = refl
join_known Contested d known = refl

one_fewer : (c : Cell) (cs : List Cell) → length (filter is_missing (c ∷ cs)) ≡ 0
    → (is_missing c ≡ false) × (length (filter is_missing cs) ≡ 0)
one_fewer Missing cs none = absurd (omega (arith, none))
one_fewer (Value v) cs none = (refl, none)
one_fewer Contested cs none = (refl, none)

still_none : (cs ds : List Cell) → length (filter is_missing cs) ≡ 0
    → length (filter is_missing (joined_cells cs ds)) ≡ 0
still_none [] ds none = refl
still_none (c ∷ cs) [] none = refl
still_none (c ∷ cs) (d ∷ ds) none =
    let k = one_fewer c cs none in
    ap (λ (b : Bool). length (cond b (join c d ∷ filter is_missing (joined_cells cs ds))
    (filter is_missing (joined_cells cs ds)))) (join_known c d k.0)
    ∙ still_none cs ds k.1

-- A complete frame is complete after more has come.
pub still_complete : (o : Opening) (v : ℕ) (xs ys : List Timed)
    → is_complete (frame_of o (datagrams_at v xs) (wrapped v)) ≡ true
    → is_complete (frame_of o (datagrams_at v (xs ++ ys)) (wrapped v)) ≡ true
still_complete o v xs ys full =
    let r : Raster = frame_of o (datagrams_at v xs) (wrapped v) in
    let q : Raster = frame_of o (datagrams_at v ys) (wrapped v) in
    let cells : List Cell = joined_cells r.cells q.cells in
    let none : count_by is_missing cells ≡ 0 =
    sym (length-filter is_missing cells)
    ∙ still_none r.cells q.cells
    (length-filter is_missing r.cells ∙ eqb-true (count_by is_missing r.cells) 0 full) in
    ap is_complete
    (ap (λ (ds : List (List ℕ)). frame_of o ds (wrapped v)) (datagrams_at-append v xs ys)
    ∙ frame_both o (datagrams_at v xs) (datagrams_at v ys) (wrapped v))
    ∙ eq-eqb (count_by is_missing cells) 0 none

abbrev handed : Opening → ℕ → List Cell → Handed
handed o u cells =
    record { timestamp = wrapped u; frame = record { format = o.format; cells = cells } }

-- where none is contested, each cell stays
same_cell : (o : Opening) (ds es : List (List ℕ)) (ts : ℕ) (at : Position)
    → is_complete (frame_of o ds ts) ≡ true → IsPosition at o.format
    → (cell_at (frame_of o (ds ++ es) ts) at ≡ Contested → ⊥)
    → cell_at (frame_of o (ds ++ es) ts) at ≡ cell_at (frame_of o ds ts) at
same_cell o ds es ts at full is agreed = by_cases (no_more o ds es ts at full is)
  where
    by_cases : (cell_at (frame_of o (ds ++ es) ts) at ≡ cell_at (frame_of o ds ts) at)
        ⊎ (cell_at (frame_of o (ds ++ es) ts) at ≡ Contested)
        → cell_at (frame_of o (ds ++ es) ts) at ≡ cell_at (frame_of o ds ts) at
    by_cases (inl e) = e
    by_cases (inr e) = absurd (agreed e)

-- the offers of two lists of datagrams make the same cell
same_offered : (o : Opening) (ds es : List (List ℕ)) (ts : ℕ) (at : Position)
    → is_complete (frame_of o ds ts) ≡ true
    → (IsPosition at o.format → cell_at (frame_of o (ds ++ es) ts) at ≡ Contested → ⊥)
    → IsPosition at o.format
    → cell_of (flat_map (offers o) ds) ts at ≡ cell_of (flat_map (offers o) (ds ++ es)) ts at
same_offered o ds es ts at full agreed is =
    sym (cell_at-raster_of o.format (flat_map (offers o) ds) ts at is)
    ∙ sym (same_cell o ds es ts at full is (agreed is))
    ∙ cell_at-raster_of o.format (flat_map (offers o) (ds ++ es)) ts at is

-- Where no two give a sample different values, more leave a complete frame.
pub completed : (o : Opening) (v : ℕ) (xs ys : List Timed) → AreAgreed o (xs ++ ys)
    → is_complete (frame_of o (datagrams_at v xs) (wrapped v)) ≡ true
    → handed_at o xs v ≡ handed_at o (xs ++ ys) v
completed o v xs ys agreed full =
    let ds : List (List ℕ) = datagrams_at v xs in
    let es : List (List ℕ) = datagrams_at v ys in
    let both : datagrams_at v (xs ++ ys) ≡ ds ++ es = datagrams_at-append v xs ys in
    let also : (at : Position) → IsPosition at o.format
    → cell_at (frame_of o (ds ++ es) (wrapped v)) at ≡ Contested → ⊥ =
    subst (λ (l : List (List ℕ)). (at : Position) → IsPosition at o.format
    → cell_at (frame_of o l (wrapped v)) at ≡ Contested → ⊥) both (agreed v) in
    ap (handed o v)
    (map_members (cell_of (flat_map (offers o) ds) (wrapped v))
    (cell_of (flat_map (offers o) (ds ++ es)) (wrapped v)) (places o.format)
    (λ at m. same_offered o ds es (wrapped v) at full (also at)
    ((member-places o.format at).0 m)))
    ∙ ap (λ (l : List (List ℕ)). record {
      timestamp = wrapped v;
      frame = frame_of o l (wrapped v);
    }) (sym both)
