-- What is so of a receiver that holds the Frames of some list, however it came to it.
use Rattle.std.proofs.Common.{◌≡◌, ◌↔◌, ℕ, List, Option, Some, sym, ap, ◌∙◌, subst}
use Rattle.std.specs.Prelude.{slice_get}
use Rattle.std.specs.List.{flat_map}
use Rattle.st_format.specs.declared.cell.Cell.{Cell}
use Rattle.st_format.specs.declared.cell.Cell.TheVariants.{Missing, Value, Contested}
use Rattle.st_format.specs.Cell.{IsCellOf}
use Rattle.st_format.specs.Member.{SameDatagrams}
use Rattle.st_format.specs.Offer.{cell_of, values_for}
use Rattle.st_format.specs.Picture.{Values, timestamp_of, value_at}
use Rattle.st_format.specs.Position.{Position}
use Rattle.st_format.specs.Raster.{Raster}
use Rattle.st_format.proofs.Cells.{is_cell}
use Rattle.st_format.proofs.Rasters.{cell_at-raster_of}
use Rattle.packet_plan.specs.declared.stamp.Stamp.{Stamp}
use Rattle.packet_plan.specs.Sender.{Sender}
use Rattle.path_receiver.specs.Opening.{Opening}
use Rattle.path_receiver.specs.Offers.{offers, NoneCarries}
use Rattle.path_receiver.specs.Frames.{State, Holds, HoldTheSame, IsPlaceOf, Misses, MissTheSame}
use Rattle.path_receiver.specs.Frames.{frames_of, frame_at, cell_if, cell_in}
use Rattle.path_receiver.specs.Sender.{AreAmong, AreAmongAt, IsSendersCell, IsSentAmong}
use Rattle.path_receiver.specs.Sender.{picture_raster}
use Rattle.path_receiver.specs.TookSent.{AreOnlyAt, Awaits, TookOfSender, TookPicture}
use Rattle.path_receiver.proofs.Frames.{frames_of-same}
use Rattle.path_receiver.proofs.SenderCells.{cells-senders, never-contested, values-senders}
use Rattle.path_receiver.proofs.SenderCells.{frame-senders, frame-all, frame_cell}
use Rattle.path_receiver.proofs.Carried.{offered_here, carried_by, none_carried}
use Rattle.path_receiver.proofs.WholeFrames.{frame-raster, frame-whole, frame-grammar}

-- ---- the same datagrams

-- Frames of a list are those of every list with the same datagrams.
pub held_same : (s : State) (xs ys : List (List ℕ)) → Holds s xs → SameDatagrams xs ys → Holds s ys
held_same s xs ys holds same = holds ∙ frames_of-same s.opening xs ys same

pub frames_same : (s t : State) (xs ys : List (List ℕ)) → HoldTheSame s t xs ys
    → s.frames ≡ t.frames
frames_same s t xs ys h =
    h.left ∙ frames_of-same s.opening xs ys h.same
    ∙ ap (λ (o : Opening). frames_of o ys) h.opening ∙ sym h.right

cells_same : (s t : State) (ts : ℕ) (p : Position) → s.opening ≡ t.opening → s.frames ≡ t.frames
    → cell_in s ts p ≡ cell_in t ts p
cells_same s t ts p opening frames =
    ap (λ (o : Opening). cell_if (frame_at o.window s.frames ts) p) opening
    ∙ ap (λ (rs : List Raster). cell_if (frame_at t.opening.window rs ts) p) frames

misses_too : (s t : State) (ts : ℕ) (p : Position) → s.opening ≡ t.opening → s.frames ≡ t.frames
    → Misses s ts p → Misses t ts p
misses_too s t ts p opening frames m = record {
  place = subst (λ (o : Opening). IsPlaceOf ts p o) opening m.place;
  missing = sym (cells_same s t ts p opening frames) ∙ m.missing;
}

pub missing_same : (s t : State) (xs ys : List (List ℕ)) → HoldTheSame s t xs ys → MissTheSame s t
missing_same s t xs ys h =
    let frames : s.frames ≡ t.frames = frames_same s t xs ys h in
    λ ts p. (
      misses_too s t ts p h.opening frames,
      misses_too t s ts p (sym h.opening) (sym frames),
    )

-- ---- each cell

cell_held : (s : State) (xs : List (List ℕ)) (ts : ℕ) (p : Position) → Holds s xs
    → IsPlaceOf ts p s.opening → cell_in s ts p ≡ cell_of (flat_map (offers s.opening) xs) ts p
cell_held s xs ts p holds there =
    let o : Opening = s.opening in
    ap (λ (rs : List Raster). cell_if (frame_at o.window rs ts) p) holds
    ∙ ap (λ (r : Option Raster). cell_if r p) (frame-raster o xs ts there.inside)
    ∙ cell_at-raster_of o.format (flat_map (offers o) xs) ts p there.position

-- A cell is that of all offers.
pub cell_is : (s : State) (xs : List (List ℕ)) (ts : ℕ) (p : Position) → Holds s xs
    → IsPlaceOf ts p s.opening
    → IsCellOf (values_for (flat_map (offers s.opening) xs) ts p) (cell_in s ts p)
cell_is s xs ts p holds there =
    let vs : List ℕ = values_for (flat_map (offers s.opening) xs) ts p in
    subst (IsCellOf vs) (sym (cell_held s xs ts p holds there)) (is_cell vs)

-- It is missing exactly where no datagram carries it.
pub missing_is : (s : State) (xs : List (List ℕ)) (ts : ℕ) (p : Position) → Holds s xs
    → IsPlaceOf ts p s.opening → Misses s ts p ↔ NoneCarries xs s.opening ts p
missing_is s xs ts p holds there = (forth, back)
  where
    vs : List ℕ
    vs = values_for (flat_map (offers s.opening) xs) ts p

    forth : Misses s ts p → NoneCarries xs s.opening ts p
    forth m octets member carries =
        let none : IsCellOf vs Missing =
        subst (IsCellOf vs) m.missing (cell_is s xs ts p holds there) in
        none carries.value (offered_here s.opening xs ts p octets carries member)

    back : NoneCarries xs s.opening ts p → Misses s ts p
    back none = record {
      place = there;
      missing = none_carried vs (cell_in s ts p) (cell_is s xs ts p holds there)
          (λ v m. let d = carried_by s.opening xs ts p v m in none d.0 d.1 d.2);
    }

-- ---- a sender's datagrams

in_frames : (r : State) (taken : List (List ℕ)) (ts : ℕ) (at : Position) → Holds r taken
    → cell_in r ts at ≡ frame_cell r.opening taken ts at
in_frames r taken ts at holds =
    ap (λ (rs : List Raster). cell_if (frame_at r.opening.window rs ts) at) holds

frame_in : (r : State) (taken : List (List ℕ)) (ts : ℕ) → Holds r taken
    → frame_at r.opening.window r.frames ts
    ≡ frame_at r.opening.window (frames_of r.opening taken) ts
frame_in r taken ts holds = ap (λ (rs : List Raster). frame_at r.opening.window rs ts) holds

pub cells_of_sender : (r : State) (s : Sender) (ps : List Values) → TookOfSender r s ps
    → (ts : ℕ) (at : Position) → IsSendersCell (cell_in r ts at) s ps ts at
cells_of_sender r s ps k ts at =
    subst (λ (c : Cell). IsSendersCell c s ps ts at) (sym (in_frames r k.taken ts at k.holds))
    (cells-senders r.opening s k.first ps k.sent k.taken k.list k.format k.among ts at)

pub none_contested : (r : State) (s : Sender) (ps : List Values) → TookOfSender r s ps
    → (ts : ℕ) (at : Position) → cell_in r ts at ≡ Contested → ⊥
none_contested r s ps k ts at is =
    never-contested r.opening s k.first ps k.sent k.taken k.list k.format k.among ts at
    (sym (in_frames r k.taken ts at k.holds) ∙ is)

pub values_of_sender : (r : State) (s : Sender) (ps : List Values) → TookOfSender r s ps
    → (k : ℕ) (p : Values) (at : Position) (v : ℕ) → slice_get ps k ≡ Some p
    → cell_in r (timestamp_of s.format s.base k) at ≡ Value v → v ≡ value_at p at
values_of_sender r s ps t k p at v there is =
    values-senders r.opening s t.first ps t.sent t.taken t.list t.format t.among k p at v there
    (sym (in_frames r t.taken (timestamp_of s.format s.base k) at t.holds) ∙ is)

pub picture_of_sender : (r : State) (s : Sender) (ps : List Values) (k : ℕ) (p : Values)
    (t : TookOfSender r s ps) → Awaits r s ps k p → IsSentAmong p s k t.taken
    → frame_at r.opening.window r.frames (timestamp_of s.format s.base k) ≡ Some (picture_raster p)
picture_of_sender r s ps k p t w h =
    frame_in r t.taken (timestamp_of s.format s.base k) t.holds
    ∙ frame-senders r.opening s t.first ps t.sent t.taken t.list w.opened t.among k p w.there
    w.whole w.inside h.first h.size h.packets h.mine h.picture h.among

pub all_of_sender : (r : State) (s : Sender) (ps : List Values) (k : ℕ) (p : Values)
    (t : TookOfSender r s ps) → Awaits r s ps k p → AreAmong t.sent t.taken
    → frame_at r.opening.window r.frames (timestamp_of s.format s.base k) ≡ Some (picture_raster p)
all_of_sender r s ps k p t w all =
    frame_in r t.taken (timestamp_of s.format s.base k) t.holds
    ∙ frame-all r.opening s t.first ps t.sent t.taken t.list w.opened
    (record { forth = t.among; back = all }) k p w.there w.whole w.inside

-- ---- a picture's datagrams

pub whole_by_others : (r : State) (p : Values) (stamp : Stamp) (t : TookPicture r p stamp)
    → AreAmongAt t.taken t.sent r.opening stamp.timestamp
    → frame_at r.opening.window r.frames stamp.timestamp ≡ Some (picture_raster p)
whole_by_others r p stamp t others =
    frame_in r t.taken stamp.timestamp t.holds
    ∙ frame-whole r.opening p stamp t.size t.packets t.sent t.taken t.opened t.inside t.whole
    t.picture t.all others

pub whole_by_grammar : (r : State) (p : Values) (stamp : Stamp) (t : TookPicture r p stamp)
    → AreOnlyAt t.taken t.sent r.opening stamp.timestamp
    → frame_at r.opening.window r.frames stamp.timestamp ≡ Some (picture_raster p)
whole_by_grammar r p stamp t only =
    frame_in r t.taken stamp.timestamp t.holds
    ∙ frame-grammar r.opening p stamp t.size t.packets t.sent t.taken t.opened t.inside t.whole
    t.picture t.all only.octets only.only
