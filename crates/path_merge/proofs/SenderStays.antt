-- The frames of stays, where every datagram is a sender's.
use Rattle.std.proofs.Common.{◌≡◌, ◌↔◌, ℕ, zero, suc, inl, inr, Bool, true, cond, List, [], ◌∷◌}
use Rattle.std.proofs.Common.{Some, None, refl, sym, ap, ◌∙◌, subst, eq-eqb}
use Rattle.std.specs.Prelude.{slice_get}
use Rattle.std.specs.List.{flat_map, filter}
use Rattle.st_format.specs.declared.cell.Cell.{Cell}
use Rattle.st_format.specs.declared.cell.Cell.TheVariants.{Missing, Value, Contested}
use Rattle.st_format.specs.declared.format.Format.{Format}
use Rattle.st_format.specs.Cell.{IsCellOf}
use Rattle.st_format.specs.Member.{IsMember, SameMembers}
use Rattle.st_format.specs.Offer.{Offer, is_for, values_for, cell_of}
use Rattle.st_format.specs.Picture.{Values}
use Rattle.st_format.specs.Position.{Position, IsPosition, same_place}
use Rattle.st_format.specs.Raster.{Raster, raster_of, cell_at}
use Rattle.st_format.proofs.Cells.{is_cell, is_for-true}
use Rattle.st_format.proofs.Members.{member-map, member_of_map, member-filter, member_of_filter}
use Rattle.st_format.proofs.Members.{member-flat_map, member_of_flat_map, SameMembers-flat_map}
use Rattle.st_format.proofs.Rasters.{cell_at-raster_of, cells_of-same}
use Rattle.packet_plan.specs.Sender.{Sender}
use Rattle.path_receiver.specs.Frames.{cell_if}
use Rattle.path_receiver.specs.Offers.{offers, Carries}
use Rattle.path_receiver.specs.Opening.{Opening}
use Rattle.path_receiver.specs.Sender.{AreAmong, IsSendersCell}
use Rattle.path_receiver.specs.Sliding.{with_window}
use Rattle.path_receiver.proofs.Carried.{carried_by, none_carried, offered_here}
use Rattle.path_receiver.proofs.SenderCells.{cells-senders, frame_cell}
use Rattle.path_merge.specs.declared.schedule.event.Event.{Event}
use Rattle.path_merge.specs.Stays.{Stay}
use Rattle.path_merge.specs.Reached.{Scene, Reaches, IsFrameOf}
use Rattle.path_merge.specs.Sent.{IsOfSender, IsSendersFrame}

-- ---- one frame

abbrev with_cells : Format → List Cell → Raster
with_cells f cs = record { format = f; cells = cs }

-- A stay has one frame.
pub one_frame : (s : Scene) (es : List Event) (stay : Stay) (q p : Raster) → IsFrameOf q stay s es
    → IsFrameOf p stay s es → q ≡ p
one_frame s es stay q p is its =
    let o : Opening = s.opening in
    let same : SameMembers is.reached its.reached = record {
      forth = λ d m. (its.each d).1 ((is.each d).0 m);
      back = λ d m. (is.each d).1 ((its.each d).0 m);
    } in
    is.frame_is
    ∙ ap (λ (cs : List Cell). with_cells o.format cs)
    (cells_of-same o.format (flat_map (offers o) is.reached)
    (flat_map (offers o) its.reached) stay.timestamp
    (SameMembers-flat_map (offers o) is.reached its.reached same))
    ∙ sym its.frame_is

-- ---- a sender's

in_window : (o : Opening) (xs : List (List ℕ)) (ts : ℕ) (at : Position)
    → frame_cell (with_window o (ts ∷ [])) xs ts at
    ≡ cell_at (raster_of o.format (flat_map (offers o) xs) ts) at
in_window o xs ts at =
    ap (λ (b : Bool). cell_if
    (cond b (Some (raster_of o.format (flat_map (offers o) xs) ts)) None) at) (eq-eqb ts ts refl)

slice_member : {X : Type 0} (xs : List X) (i : ℕ) (x : X) → slice_get xs i ≡ Some x → IsMember x xs
slice_member [] i x h = absurd cc
slice_member (y ∷ xs) zero x h = inl (same_some h)
  where
    same_some : Some y ≡ Some x → x ≡ y
    same_some e = cc
slice_member (y ∷ xs) (suc i) x h = inr (slice_member xs i x h)

reached_among : (s : Scene) (es : List Event) (stay : Stay) (q : Raster) (ds : List (List ℕ))
    → AreAmong s.sent ds → (is : IsFrameOf q stay s es) → AreAmong is.reached ds
reached_among s es stay q ds among is d m = let r =
    (is.each d).0 m in among d (slice_member s.sent r.number d r.sent)

missing_iff : (s : Scene) (es : List Event) (stay : Stay) (q : Raster) → IsFrameOf q stay s es
    → (at : Position) → IsPosition at s.opening.format
    → (cell_at q at ≡ Missing)
    ↔ ((octets : List ℕ) → Reaches octets stay s es → Carries octets s.opening stay.timestamp at
    → ⊥)
missing_iff s es stay q is at there = (forth, back)
  where
    forth : cell_at q at ≡ Missing → (octets : List ℕ) → Reaches octets stay s es
        → Carries octets s.opening stay.timestamp at → ⊥
    forth e octets r c =
        let ts : ℕ = stay.timestamp in
        let os : List Offer = flat_map (offers s.opening) is.reached in
        let none : IsCellOf (values_for os ts at) Missing =
        subst (IsCellOf (values_for os ts at))
        (sym (cell_at-raster_of s.opening.format os ts at there)
        ∙ ap (λ (x : Raster). cell_at x at) (sym is.frame_is) ∙ e)
        (is_cell (values_for os ts at)) in
        none c.value (offered_here s.opening is.reached ts at octets c ((is.each octets).1 r))

    back :
        ((octets : List ℕ) → Reaches octets stay s es → Carries octets s.opening stay.timestamp at
        → ⊥) → cell_at q at ≡ Missing
    back none =
        let ts : ℕ = stay.timestamp in
        let os : List Offer = flat_map (offers s.opening) is.reached in
        ap (λ (x : Raster). cell_at x at) is.frame_is
        ∙ cell_at-raster_of s.opening.format os ts at there
        ∙ none_carried (values_for os ts at) (cell_of os ts at) (is_cell (values_for os ts at))
        (λ v m. let d =
        carried_by s.opening is.reached ts at v m in none d.0 ((is.each d.0).0 d.1) d.2)

-- Each cell of a stay's frame is the sender's value or missing.
pub senders_frame : (s : Scene) (snd : Sender) (ps : List Values) (es : List Event) (stay : Stay)
    (q : Raster) → IsOfSender s snd ps → IsFrameOf q stay s es → IsSendersFrame q stay snd ps s es
senders_frame s snd ps es stay q of is = record {
  cells = λ at.
      let ts : ℕ = stay.timestamp in
      let o : Opening = with_window s.opening (ts ∷ []) in
      let at_cell : frame_cell o is.reached ts at ≡ cell_at q at =
      in_window s.opening is.reached ts at ∙ ap (λ (x : Raster). cell_at x at) (sym is.frame_is) in
      subst (λ (c : Cell). IsSendersCell c snd ps ts at) at_cell
      (cells-senders o snd of.first ps of.datagrams is.reached of.list of.format
      (reached_among s es stay q of.datagrams of.among is) ts at);
  missing = missing_iff s es stay q is;
}
