use Rattle.std.proofs.Common.{◌≡◌, ℕ, ◌<◌, List, length, set, Option, Some, Ok, Err, sym, ap}
use Rattle.std.proofs.Common.{◌∙◌, subst, arith, vec_capacity, length-set}
use Rattle.std.specs.Prelude.{slice_get}
use Rattle.st_format.specs.declared.format.Format.{Format}
use Rattle.st_format.specs.Raster.{Raster}
use Rattle.path_receiver.specs.Grammar.{Datagram}
use Rattle.path_receiver.proofs.Windows.{below_get}
use Rattle.path_receiver.specs.Admission.{datagram_of}
use Rattle.following.specs.Follower.{Following, IsFollower, joined, reading_of, standing_of}
use Rattle.following.proofs.Kept.{follower_set, format_again, joined_set, joined_taken, left_state}
use Rattle.following.proofs.Kept.{read_again, refused_state, spare_kept}
use Rattle.following.proofs.Since.{since_more}
use Rattle.following.proofs.follower.Follower.join.Goals as goal

abbrev fields : Format → ℕ → Option ℕ → ℕ → ℕ → Option ℕ → List ℕ → List Raster
    → Following
fields format payload_type ssrc size ahead gone window frames = record {
  opening = record {
    format = format;
    payload_type = payload_type;
    ssrc = ssrc;
    window = window;
  };
  frames = frames;
  size = size;
  most_ahead = ahead;
  gone = gone;
}

abbrev Reads : List ℕ → Datagram → Following → Type 0
Reads octets d s = reading_of s.opening octets ≡ Ok d

abbrev StandsAt : ℕ → ℕ → Following → Type 0
StandsAt ts place s = slice_get s.opening.window place ≡ Some ts

pub returns-in-Ok-clause-state : goal.returns-in-Ok-clause-state
returns-in-Ok-clause-state g c =
    let i = c.self-2.inside in
    let d = datagram_of c.in_ok-datagram.datagram in
    let s : Following =
    fields i.format i.payload_type i.ssrc i.size i.most_ahead i.gone i.window.items i.frames.items in
    let octets = c.args.octets.now in
    let read =
    subst (Reads octets d) c.self.view_is c.in_ok-datagram.ensures.exact in
    let read_on =
    subst (Reads octets d) (sym c.self-2.view_is)
    (read_again c.args.self.now c.reach.new.self octets d.timestamp d
    (standing_of c.args.self.now d.timestamp) c.in-Ok.ensures.state read) in
    let there =
    subst (StandsAt d.timestamp c.in-Ok.place) (sym c.self-2.view_is) c.in-Ok.ensures.there in
    joined_set s octets d c.in-Ok.place c.put.new.self c.index_mut.result.now
    c.self-2.invariant.0 read_on there c.index_mut.ensures.value c.put.ensures.format
    c.put.ensures.cells
    ∙ ap (λ (t : Following). joined t octets) c.self-2.view_is
    ∙ joined_taken c.args.self.now c.reach.new.self octets d c.in-Ok.place read
    c.in-Ok.ensures.state (sym c.in-Ok.ensures.place)

pub returns-in-Ok-clause-follower : goal.returns-in-Ok-clause-follower
returns-in-Ok-clause-follower g c =
    let i = c.self-2.inside in
    let d = datagram_of c.in_ok-datagram.datagram in
    let s : Following =
    fields i.format i.payload_type i.ssrc i.size i.most_ahead i.gone i.window.items i.frames.items in
    let there =
    subst (StandsAt d.timestamp c.in-Ok.place) (sym c.self-2.view_is) c.in-Ok.ensures.there in
    let lt : c.in-Ok.place < length i.window.items =
    below_get d.timestamp c.in-Ok.place i.window.items there in
    follower_set s c.in-Ok.place d.timestamp c.put.new.self c.self-2.invariant.0 there
    (c.put.ensures.format ∙ ap (λ (r : Raster). r.format) c.index_mut.ensures.value
    ∙ c.self-2.invariant.0.of_format c.in-Ok.place c.index_mut.result.now
    (omega (arith, lt, c.self-2.invariant.0.one_each)))
    c.put.ensures.whole

pub invariant_of-self : goal.invariant_of-self
invariant_of-self g c =
    let i = c.self-2.inside in (
      returns-in-Ok-clause-follower g c,
      spare_kept i.format i.size c.in-Ok.place i.frames.items i.spare.items c.put.new.self
          (vec_capacity i.frames) (vec_capacity i.spare) c.self-2.invariant.1
          (length-set i.frames.items c.in-Ok.place c.put.new.self),
    )

pub index_mut-requires : goal.index_mut-requires
index_mut-requires g c =
    let i = c.self-2.inside in
    let ts = c.in_ok-datagram.datagram.header.timestamp in
    let there = subst (StandsAt ts c.in-Ok.place) (sym c.self-2.view_is) c.in-Ok.ensures.there in
    let lt : c.in-Ok.place < length i.window.items =
    below_get ts c.in-Ok.place i.window.items there in
    omega (arith, lt, c.self-2.invariant.0.one_each)

pub put-requires : goal.put-requires
put-requires g c =
    let i = c.self-2.inside in
    let ts = c.in_ok-datagram.datagram.header.timestamp in
    let there = subst (StandsAt ts c.in-Ok.place) (sym c.self-2.view_is) c.in-Ok.ensures.there in
    let lt : c.in-Ok.place < length i.window.items =
    below_get ts c.in-Ok.place i.window.items there in
    c.in_ok-datagram.ensures.format
    ∙ ap (λ (s : Following). s.opening.format) c.self.view_is
    ∙ sym
    (ap (λ (r : Raster). r.format) c.index_mut.ensures.value
    ∙ c.self-2.invariant.0.of_format c.in-Ok.place c.index_mut.result.now
    (omega (arith, lt, c.self-2.invariant.0.one_each))
    ∙ ap (λ (s : Following). s.opening.format) c.self-2.view_is
    ∙ format_again c.args.self.now c.reach.new.self ts (standing_of c.args.self.now ts)
    c.in-Ok.ensures.state)

pub returns-in_err-datagram-clause-since : goal.returns-in_err-datagram-clause-since
returns-in_err-datagram-clause-since g c =
    let s = c.args.self.now in
    let octets = c.args.octets.now in
    let e = c.in_err-datagram.field-0.0 in
    let read : reading_of s.opening octets ≡ Err e =
    subst (λ (t : Following). reading_of t.opening octets ≡ Err e) c.self.view_is
    c.in_err-datagram.ensures.exact in
    since_more s s octets (subst IsFollower c.self.view_is c.self.invariant.0)
    (refused_state s octets e read)

pub returns-in-Err-clause-since : goal.returns-in-Err-clause-since
returns-in-Err-clause-since g c =
    let s = c.args.self.now in
    let octets = c.args.octets.now in
    let d = datagram_of c.in_ok-datagram.datagram in
    let read = subst (Reads octets d) c.self.view_is c.in_ok-datagram.ensures.exact in
    since_more s c.reach.new.self octets c.in-Err.ensures.old
    (left_state s c.reach.new.self octets d c.in-Err.followed read c.in-Err.ensures.state
    (sym c.in-Err.ensures.place))

pub returns-in-Ok-clause-since : goal.returns-in-Ok-clause-since
returns-in-Ok-clause-since g c =
    let i = c.self-2.inside in
    since_more c.args.self.now
    (fields i.format i.payload_type i.ssrc i.size i.most_ahead i.gone i.window.items
    (set i.frames.items c.in-Ok.place c.put.new.self))
    c.args.octets.now c.in-Ok.ensures.old (returns-in-Ok-clause-state g c)

pub returns-in-Err-clause-state : goal.returns-in-Err-clause-state
returns-in-Err-clause-state g c =
    let s = c.args.self.now in
    let octets = c.args.octets.now in
    let d = datagram_of c.in_ok-datagram.datagram in
    let read = subst (Reads octets d) c.self.view_is c.in_ok-datagram.ensures.exact in
    left_state s c.reach.new.self octets d c.in-Err.followed read c.in-Err.ensures.state
    (sym c.in-Err.ensures.place)
