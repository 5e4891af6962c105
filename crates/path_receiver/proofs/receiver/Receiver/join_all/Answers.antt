use Rattle.std.proofs.Common.{List, drop, length, ap, sym, ◌∙◌, subst, refl, arith, take_at}
use Rattle.st_format.specs.Raster.{Raster}
use Rattle.path_receiver.specs.Frames.{State, SameFormats, joined_frames}
use Rattle.path_receiver.specs.Frames.{IsReceiver}
use Rattle.path_receiver.proofs.Joined.{alike, receiver_joined}
use Rattle.path_receiver.proofs.Lives.{in_frames}
use Rattle.path_receiver.proofs.receiver.Receiver.join_all.Goals as goal

pub join_frames-requires : goal.join_frames-requires
join_frames-requires g c =
    let same =
    ap (λ (q : State). q.opening) c.self.view_is ∙ c.requires
    ∙ sym (ap (λ (q : State). q.opening) c.other.view_is) in
    subst (λ (xs : List Raster). SameFormats xs c.as_slice.result.now)
    (sym c.as_mut_slice.ensures.value)
    (subst (λ (xs : List Raster). SameFormats c.self.inside.frames.items xs)
    (sym c.as_slice.ensures.value)
    (alike _ _ same c.self.invariant.0 c.other.invariant.0))

pub invariant_of-self : goal.invariant_of-self
invariant_of-self g c =
    let same =
    ap (λ (q : State). q.opening) c.self.view_is ∙ c.requires
    ∙ sym (ap (λ (q : State). q.opening) c.other.view_is) in (
      receiver_joined _ _ _ same c.self.invariant.0 c.other.invariant.0 refl refl
          (take_at c.join_frames.new.frames
          (drop (length c.join_frames.new.frames) c.self.inside.frames.items)
          c.self.inside.frames.len (omega arith)
          ∙ c.join_frames.ensures
          ∙ ap
          (λ (xs : List Raster). joined_frames xs c.as_slice.result.now)
          c.as_mut_slice.ensures.value
          ∙ ap
          (λ (xs : List Raster). joined_frames c.self.inside.frames.items xs)
          c.as_slice.ensures.value),
      c.self.invariant.1,
    )

pub returns-clause-receiver : goal.returns-clause-receiver
returns-clause-receiver g c = (invariant_of-self g c).0

pub as_mut_slice-requires : goal.as_mut_slice-requires
as_mut_slice-requires g c κs within = (in_frames _ _ within.0, within.1)

pub as_slice-requires : goal.as_slice-requires
as_slice-requires g c κs within = (in_frames _ _ within.0, within.1)

pub returns-clause-opening : goal.returns-clause-opening
returns-clause-opening g c = ap (λ (s : State). s.opening) c.self.view_is

pub returns-clause-refusals : goal.returns-clause-refusals
returns-clause-refusals g c = ap (λ (s : State). s.refusals) c.self.view_is

pub returns-clause-frames : goal.returns-clause-frames
returns-clause-frames g c =
    take_at c.join_frames.new.frames
    (drop (length c.join_frames.new.frames) c.self.inside.frames.items) c.self.inside.frames.len
    (omega arith)
    ∙ c.join_frames.ensures
    ∙ ap
    (λ (xs : List Raster). joined_frames xs c.as_slice.result.now)
    (c.as_mut_slice.ensures.value ∙ ap (λ (s : State). s.frames) c.self.view_is)
    ∙ ap
    (λ (xs : List Raster). joined_frames c.args.self.now.frames xs)
    (c.as_slice.ensures.value ∙ ap (λ (s : State). s.frames) c.other.view_is)

pub returns-clause-old : goal.returns-clause-old
returns-clause-old g c = subst IsReceiver c.self.view_is c.self.invariant.0

pub returns-clause-other : goal.returns-clause-other
returns-clause-other g c = subst IsReceiver c.other.view_is c.other.invariant.0
