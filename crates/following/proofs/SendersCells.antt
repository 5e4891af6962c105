-- The cells that are handed out of a sender's datagrams, whatever was lost.
use Rattle.std.proofs.Common.{◌≡◌, ℕ, Bool, cond, eqb, List, [], ◌∷◌, None}
use Rattle.std.proofs.Common.{Some, refl, sym, subst, ◌<◌}
use Rattle.std.specs.List.{filter}
use Rattle.std.proofs.lemmas.Bool.{eq-eqb}
use Rattle.st_format.specs.Member.{IsMember}
use Rattle.st_format.specs.Picture.{Values}
use Rattle.st_format.specs.Position.{Position}
use Rattle.st_format.specs.Raster.{cell_at}
use Rattle.st_format.proofs.Members.{member-filter, member-map, member_of_map}
use Rattle.packet_plan.specs.Sender.{IsSenderList, Sender}
use Rattle.path_receiver.specs.Frames.{cell_if}
use Rattle.path_receiver.specs.Opening.{Opening}
use Rattle.path_receiver.specs.Sender.{AreAmong, IsSendersCell}
use Rattle.path_receiver.specs.Sliding.{with_window}
use Rattle.path_receiver.proofs.SenderCells.{cells-senders}
use Rattle.following.specs.Serial.{wrapped}
use Rattle.following.specs.Follower.{opened}
use Rattle.following.specs.Following.{Handed, handed_out}
use Rattle.following.specs.Pictures.{BroughtSome, ShowsSender}
use Rattle.following.specs.Times.{AreTimed, IsOrderly, Timed, datagrams_at, frame_of, handed_at}
use Rattle.following.specs.Times.{in_order, octets_of, times_of}
use Rattle.following.proofs.Streams.{whole_stream}

-- the datagrams of a time are among all
pub at_time_among : (u : ℕ) (xs : List Timed) (sent : List (List ℕ)) → AreAmong (octets_of xs) sent
    → AreAmong (datagrams_at u xs) sent
at_time_among u xs sent among octets m =
    let r = member-map (λ (x : Timed). x.octets) octets (filter (λ x. eqb x.time u) xs) m in
    let q = member-filter (λ (x : Timed). eqb x.time u) r.0 xs r.1 in
    subst (λ (d : List ℕ). IsMember d sent) (sym r.2)
    (among r.0.octets (member_of_map (λ (x : Timed). x.octets) r.0 xs q.0))

pub frame_cells : (o : Opening) (s : Sender) (first : ℕ) (ps : List Values) (sent ds : List (List ℕ))
    (ts : ℕ) (at : Position) → IsSenderList sent s first ps → s.format ≡ o.format
    → AreAmong ds sent → IsSendersCell (cell_at (frame_of o ds ts) at) s ps ts at
frame_cells o s first ps sent ds ts at list format among =
    subst (λ (b : Bool). IsSendersCell (cell_if (cond b (Some (frame_of o ds ts)) None) at) s ps ts at)
    (eq-eqb ts ts refl)
    (cells-senders (with_window o (ts ∷ [])) s first ps sent ds list format among ts at)

pub shows_sender : (o : Opening) (size ahead : ℕ) (s : Sender) (ps : List Values) (xs : List Timed)
    → 0 < size → AreTimed o xs → IsOrderly size ahead (times_of o xs)
    → BroughtSome o s ps (octets_of xs) → (h : Handed)
    → IsMember h (handed_out (opened o size ahead) (octets_of xs)) → ShowsSender h s ps
shows_sender o size ahead s ps xs some timed orderly brought h m at =
    let r =
    member-map (handed_at o xs) h (in_order (times_of o xs))
    (subst (λ (hs : List Handed). IsMember h hs) (whole_stream o size ahead xs some timed orderly) m) in
    subst (λ (x : Handed). IsSendersCell (cell_at x.frame at) s ps x.timestamp at) (sym r.2)
    (frame_cells o s brought.first ps brought.sent (datagrams_at r.0 xs) (wrapped r.0) at
    brought.list brought.format (at_time_among r.0 xs brought.sent brought.among))
