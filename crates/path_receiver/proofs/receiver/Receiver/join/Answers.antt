use Rattle.std.proofs.Common.{List, ℕ, Some, length, ap, sym, ◌∙◌, subst, arith, ◌≡◌, ◌<◌, ◌∷◌, []}
use Rattle.std.proofs.Common.{Ok, Result}
use Rattle.st_format.specs.Raster.{Raster}
use Rattle.std.specs.Prelude.{slice_get}
use Rattle.st_format.specs.Member.{IsMember}
use Rattle.path_receiver.specs.declared.answer.Refusal.{Refusal}
use Rattle.path_receiver.specs.declared.answer.Taken.{Taken}
use Rattle.path_receiver.specs.declared.answer.Taken.TheVariants.{Kept}
use Rattle.path_receiver.specs.Admission.{datagram_of}
use Rattle.path_receiver.specs.Answers.{taken_at}
use Rattle.path_receiver.specs.Frames.{State, frames_of, joined_frames}
use Rattle.path_receiver.proofs.Answered.{taken_inside, taken_outside}
use Rattle.path_receiver.proofs.Joined.{frames_kept, frames_outside, receiver_set}
use Rattle.path_receiver.proofs.Windows.{below_get, member_get, not_member}
use Rattle.path_receiver.proofs.receiver.Receiver.join.Goals as goal

abbrev Joins : List ℕ → State → Type 0
Joins octets s = s.frames ≡ joined_frames s.frames (frames_of s.opening (octets ∷ []))

pub returns-in-None-clause-answer : goal.returns-in-None-clause-answer
returns-in-None-clause-answer g c =
    let d = datagram_of c.in_ok-datagram.datagram in
    let out =
    subst (λ (w : List ℕ). IsMember d.timestamp w → ⊥) c.as_slice.ensures.value
    (not_member d.timestamp c.as_slice.result.now c.in-None.ensures.none) in
    sym (taken_outside _ c.args.octets.now d c.in_ok-datagram.ensures.exact out)
    ∙ ap (λ (s : State). taken_at s.opening c.args.octets.now) c.self.view_is

pub returns-in-None-clause-frames : goal.returns-in-None-clause-frames
returns-in-None-clause-frames g c =
    let d = datagram_of c.in_ok-datagram.datagram in
    let out =
    subst (λ (w : List ℕ). IsMember d.timestamp w → ⊥) c.as_slice.ensures.value
    (not_member d.timestamp c.as_slice.result.now c.in-None.ensures.none) in
    subst (Joins c.args.octets.now) c.self.view_is
    (frames_outside _ c.args.octets.now d c.self.invariant.0 c.in_ok-datagram.ensures.exact out)

pub returns-in-Some-clause-answer : goal.returns-in-Some-clause-answer
returns-in-Some-clause-answer g c =
    let d = datagram_of c.in_ok-datagram.datagram in
    let at =
    subst (λ (w : List ℕ). slice_get w c.in-Some.place
    ≡ Some d.timestamp) c.as_slice.ensures.value c.in-Some.ensures.found in
    ap (λ (n : ℕ). kept n) c.packet_number.ensures
    ∙ sym
    (taken_inside _ c.args.octets.now d c.in_ok-datagram.ensures.exact
    (member_get d.timestamp c.in-Some.place c.self.inside.window.items at))
    ∙ ap (λ (s : State). taken_at s.opening c.args.octets.now) c.self.view_is
  where
    kept : ℕ → Result Taken Refusal
    kept n = Ok (Kept n)

pub returns-in-Some-clause-frames : goal.returns-in-Some-clause-frames
returns-in-Some-clause-frames g c =
    let d = datagram_of c.in_ok-datagram.datagram in
    let at =
    subst (λ (w : List ℕ). slice_get w c.in-Some.place
    ≡ Some d.timestamp) c.as_slice.ensures.value c.in-Some.ensures.found in
    frames_kept _ c.args.octets.now d c.in-Some.place c.put.new.self c.index_mut.result.now
    c.self.invariant.0 c.in_ok-datagram.ensures.exact at c.index_mut.ensures.value
    c.put.ensures.format c.put.ensures.cells
    ∙ ap
    (λ (s : State). joined_frames s.frames
    (frames_of s.opening (c.args.octets.now ∷ []))) c.self.view_is

pub index_mut-requires : goal.index_mut-requires
index_mut-requires g c =
    let ts = c.in_ok-datagram.datagram.header.timestamp in
    let at =
    subst (λ (w : List ℕ). slice_get w c.in-Some.place
    ≡ Some ts) c.as_slice.ensures.value c.in-Some.ensures.found in
    let lt : c.in-Some.place < length c.self.inside.window.items =
    below_get ts c.in-Some.place c.self.inside.window.items at in
    omega (arith, lt, c.self.invariant.0.one_each)

pub put-requires : goal.put-requires
put-requires g c =
    let ts = c.in_ok-datagram.datagram.header.timestamp in
    let at =
    subst (λ (w : List ℕ). slice_get w c.in-Some.place
    ≡ Some ts) c.as_slice.ensures.value c.in-Some.ensures.found in
    let lt : c.in-Some.place < length c.self.inside.window.items =
    below_get ts c.in-Some.place c.self.inside.window.items at in
    c.in_ok-datagram.ensures.format
    ∙ sym
    (ap (λ (r : Raster). r.format) c.index_mut.ensures.value
    ∙ c.self.invariant.0.of_format c.in-Some.place c.index_mut.result.now
    (omega (arith, lt, c.self.invariant.0.one_each)))

pub invariant_of-self : goal.invariant_of-self
invariant_of-self g c =
    let ts = c.in_ok-datagram.datagram.header.timestamp in
    let at =
    subst (λ (w : List ℕ). slice_get w c.in-Some.place
    ≡ Some ts) c.as_slice.ensures.value c.in-Some.ensures.found in
    let lt : c.in-Some.place < length c.self.inside.window.items =
    below_get ts c.in-Some.place c.self.inside.window.items at in
    let of_format =
    ap (λ (r : Raster). r.format) c.index_mut.ensures.value
    ∙ c.self.invariant.0.of_format c.in-Some.place c.index_mut.result.now
    (omega (arith, lt, c.self.invariant.0.one_each)) in (
      receiver_set _ c.in-Some.place c.put.new.self c.self.invariant.0
          (c.put.ensures.format ∙ of_format) c.put.ensures.whole,
      c.self.invariant.1,
    )
