use Rattle.std.proofs.Common.{◌≡◌, ℕ, List, Some}
use Rattle.std.proofs.Common.{is_ok, Option, sym, ap, ◌∙◌, subst, arith}
use Rattle.std.proofs.Common.{vec_capacity}
use Rattle.std.specs.Prelude.{slice_get}
use Rattle.st_format.specs.declared.format.Format.{Format}
use Rattle.st_format.specs.Raster.{Raster, blank}
use Rattle.following.specs.declared.standing.Standing.TheVariants.{New}
use Rattle.following.specs.Follower.{Following, IsFollower, brought_in, standing_of}
use Rattle.following.proofs.Kept.{brought_is, follower_brought, frames_brought, spare_taken}
use Rattle.following.proofs.Kept.{within_window}
use Rattle.following.proofs.Newest.{comes_near}
use Rattle.following.proofs.Rising.{get-insert}
use Rattle.following.proofs.follower.Follower.bring_in.Goals as goal

abbrev Stands : ℕ → ℕ → Following → Type 0
Stands ts place s = standing_of s ts ≡ New place

pub insert-requires : goal.insert-requires
insert-requires g c =
    let w : List ℕ = c.self.inside.window.items in
    let k =
    comes_near c.self.inside.most_ahead w c.self.inside.gone c.self.inside.size c.args.timestamp c.args.place
    (subst (Stands c.args.timestamp c.args.place) (sym c.self.view_is) c.requires) in
    let le =
    within_window w c.self.inside.gone c.self.inside.size c.args.timestamp c.args.place k in
    (omega arith, (le, omega (arith, k.room, c.self.invariant.0.size.most)))

pub insert-requires-2 : goal.insert-requires-2
insert-requires-2 g c =
    let w : List ℕ = c.self.inside.window.items in
    let k =
    comes_near c.self.inside.most_ahead w c.self.inside.gone c.self.inside.size c.args.timestamp c.args.place
    (subst (Stands c.args.timestamp c.args.place) (sym c.self.view_is) c.requires) in
    let le =
    within_window w c.self.inside.gone c.self.inside.size c.args.timestamp c.args.place k in
    omega (arith, le, c.self.invariant.0.one_each, c.self.inside.frames.ok.0)

pub returns-clause-there : goal.returns-clause-there
returns-clause-there g c =
    let w : List ℕ = c.self.inside.window.items in
    let k =
    comes_near c.self.inside.most_ahead w c.self.inside.gone c.self.inside.size c.args.timestamp c.args.place
    (subst (Stands c.args.timestamp c.args.place) (sym c.self.view_is) c.requires) in
    let le =
    within_window w c.self.inside.gone c.self.inside.size c.args.timestamp c.args.place k in
    subst (λ (x : List ℕ). slice_get x c.args.place ≡ Some c.args.timestamp)
    (sym c.insert.ensures.items)
    (get-insert w c.args.place c.args.timestamp le)

abbrev fields : Format → ℕ → Option ℕ → ℕ → ℕ → Option ℕ → List ℕ → List Raster
    → Following
fields format payload_type ssrc size ahead gone window frames = record {
  opening = record {
    format = format;
    payload_type = payload_type;
    ssrc = ssrc;
    window = window;
  };
  frames = frames;
  size = size;
  most_ahead = ahead;
  gone = gone;
}

pub spare_frame-frame-requires-clause-some : goal.spare_frame-frame-requires-clause-some
spare_frame-frame-requires-clause-some g c =
    let k =
    comes_near c.self.inside.most_ahead c.self.inside.window.items c.self.inside.gone c.self.inside.size c.args.timestamp
    c.args.place (subst (Stands c.args.timestamp c.args.place) (sym c.self.view_is) c.requires) in
    omega (arith, k.room, c.self.invariant.0.one_each, c.self.invariant.1.count)

pub returns-clause-state : goal.returns-clause-state
returns-clause-state g c =
    let i = c.self.inside in
    let s : Following =
    fields i.format i.payload_type i.ssrc i.size i.most_ahead i.gone i.window.items i.frames.items in
    brought_is s c.args.self.now c.args.place c.args.timestamp c.insert.new.self.items
    c.insert-2.new.self.items c.self.view_is c.insert.ensures.items
    (frames_brought i.frames.items c.insert-2.new.self.items c.spare_frame-frame.result
    (blank i.format) c.args.place (is_ok c.insert-2.result) c.spare_frame-frame.ensures.blank
    (ap is_ok c.unwrap.ensures) c.insert-2.ensures.items)

pub returns-clause-follower : goal.returns-clause-follower
returns-clause-follower g c =
    let i = c.self.inside in
    let s : Following =
    fields i.format i.payload_type i.ssrc i.size i.most_ahead i.gone i.window.items i.frames.items in
    subst IsFollower
    (sym (returns-clause-state g c
    ∙ ap (λ (t : Following). brought_in t c.args.place c.args.timestamp) (sym c.self.view_is)))
    (follower_brought s c.args.place c.args.timestamp c.self.invariant.0
    (subst (Stands c.args.timestamp c.args.place) (sym c.self.view_is) c.requires))

pub invariant_of-self : goal.invariant_of-self
invariant_of-self g c =
    let i = c.self.inside in
    let w : List ℕ = i.window.items in
    let k =
    comes_near i.most_ahead w i.gone i.size c.args.timestamp c.args.place
    (subst (Stands c.args.timestamp c.args.place) (sym c.self.view_is) c.requires) in
    let le = within_window w i.gone i.size c.args.timestamp c.args.place k in
    let more =
    frames_brought i.frames.items c.insert-2.new.self.items c.spare_frame-frame.result
    (blank i.format) c.args.place (is_ok c.insert-2.result) c.spare_frame-frame.ensures.blank
    (ap is_ok c.unwrap.ensures) c.insert-2.ensures.items in (
      returns-clause-follower g c,
      spare_taken i.format i.size c.args.place i.frames.items c.insert-2.new.self.items
          c.spare_frame-frame.new.spare.items i.spare.items (blank i.format)
          (vec_capacity i.frames) (vec_capacity i.spare) (vec_capacity c.insert-2.new.self)
          (vec_capacity c.spare_frame-frame.new.spare) c.self.invariant.1 more
          (omega (arith, le, c.self.invariant.0.one_each)) c.spare_frame-frame.ensures.count
          c.spare_frame-frame.ensures.of_format c.insert-2.ensures.capacity
          c.spare_frame-frame.ensures.room,
    )
