use Rattle.std.proofs.Common.{List, ℕ, Option, Some, ap, sym, ◌∙◌, subst, arith, ◌≡◌, ◌<◌, length}
use Rattle.std.proofs.Common.{refl}
use Rattle.std.specs.Prelude.{slice_get}
use Rattle.st_format.specs.Member.{IsMember}
use Rattle.st_format.specs.Raster.{Raster}
use Rattle.path_receiver.specs.Frames.{State, frame_at}
use Rattle.path_receiver.proofs.Windows.{below_get, frame_found, frame_none, get_some, member_get}
use Rattle.path_receiver.proofs.Windows.{not_member}
use Rattle.path_receiver.proofs.receiver.Receiver.frame.Goals as goal

abbrev some_raster : Raster → Option Raster
some_raster r = Some r

pub returns-in-None-clause-frame : goal.returns-in-None-clause-frame
returns-in-None-clause-frame g c =
    let out =
    subst (λ (w : List ℕ). IsMember c.args.timestamp w → ⊥) c.as_slice.ensures.value
    (not_member c.args.timestamp c.as_slice.result.now c.in-None.ensures.none) in
    sym (frame_none c.args.timestamp c.self.inside.window.items c.self.inside.frames.items out)
    ∙ ap (λ (s : State). frame_at s.opening.window s.frames c.args.timestamp) c.self.view_is

pub returns-in-None-clause-within : goal.returns-in-None-clause-within
returns-in-None-clause-within g c =
    let out =
    subst (λ (w : List ℕ). IsMember c.args.timestamp w → ⊥) c.as_slice.ensures.value
    (not_member c.args.timestamp c.as_slice.result.now c.in-None.ensures.none) in (
      λ e. absurd cc,
      λ m. absurd
          (out (subst (λ (s : State). IsMember c.args.timestamp s.opening.window)
          (sym c.self.view_is) m)),
    )

pub index-requires : goal.index-requires
index-requires g c =
    let at =
    subst (λ (w : List ℕ). slice_get w c.in-Some.place
    ≡ Some c.args.timestamp) c.as_slice.ensures.value c.in-Some.ensures.found in
    let lt : c.in-Some.place < length c.self.inside.window.items =
    below_get c.args.timestamp c.in-Some.place c.self.inside.window.items at in
    omega (arith, lt, c.self.invariant.0.one_each)

pub returns-in-Some-clause-frame : goal.returns-in-Some-clause-frame
returns-in-Some-clause-frame g c =
    let at =
    subst (λ (w : List ℕ). slice_get w c.in-Some.place
    ≡ Some c.args.timestamp) c.as_slice.ensures.value c.in-Some.ensures.found in
    let lt : c.in-Some.place < length c.self.inside.window.items =
    below_get c.args.timestamp c.in-Some.place c.self.inside.window.items at in
    ap (λ (r : Raster). some_raster r) c.index.ensures
    ∙ sym
    (get_some c.in-Some.place c.self.inside.frames.items c.index.result.now
    (omega (arith, lt, c.self.invariant.0.one_each)))
    ∙ sym
    (frame_found c.args.timestamp c.in-Some.place c.self.inside.window.items
    c.self.inside.frames.items c.self.invariant.0.window.different at
    c.self.invariant.0.one_each)
    ∙ ap (λ (s : State). frame_at s.opening.window s.frames c.args.timestamp) c.self.view_is

pub returns-in-Some-clause-within : goal.returns-in-Some-clause-within
returns-in-Some-clause-within g c =
    let at =
    subst (λ (w : List ℕ). slice_get w c.in-Some.place
    ≡ Some c.args.timestamp) c.as_slice.ensures.value c.in-Some.ensures.found in (
      λ e. subst (λ (s : State). IsMember c.args.timestamp s.opening.window) c.self.view_is
          (member_get c.args.timestamp c.in-Some.place c.self.inside.window.items at),
      λ m. refl,
    )
