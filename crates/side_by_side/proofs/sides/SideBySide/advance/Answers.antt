use Rattle.std.proofs.Common.{◌∙◌, List, ap, length, subst, sym}
use Rattle.side_by_side.specs.Sides.{AllSound, Sides, begun_each}
use Rattle.side_by_side.specs.declared.side.Side.{Side}
use Rattle.side_by_side.proofs.Sound.{lends_next, lent_back, sound_next, sound_stopped, stops_sides}
use Rattle.side_by_side.proofs.sides.SideBySide.advance.Goals as goal

pub give_next-requires : goal.give_next-requires
give_next-requires g c =
    let was = c.self.inside in
    record {
      sound =
          subst (λ (ss : List (Side _ _)). AllSound was.steering ss)
          (sym c.as_mut_slice.ensures.value) c.self.invariant.sound;
    }

pub invariant_of-self : goal.invariant_of-self
invariant_of-self g c =
    let was = c.self.inside in
    let news = c.give_next.new.sides in
    let same = c.as_mut_slice.ensures.value in
    rw (lent_back was.sides.len was.sides.items news
    (sym c.as_mut_slice.ensures.len ∙ ap length same) (c.give_next.ensures.len ∙ ap length same))
    (sound_next was.steering c.in-Ok.at was.sides.items news was.delivered
    c.delivered_with-self-inside.result was.failures was.fault c.self.invariant
    (rw same at c.in-Ok.ensures.given) (rw same at c.in-Ok.ensures.were))

pub returns-in-Ok-clause-begun : goal.returns-in-Ok-clause-begun
returns-in-Ok-clause-begun g c =
    let was = c.self.inside in
    let same = c.as_mut_slice.ensures.value in
    rw (lent_back was.sides.len was.sides.items c.give_next.new.sides
    (sym c.as_mut_slice.ensures.len ∙ ap length same) (c.give_next.ensures.len ∙ ap length same))
    (c.give_next.ensures.begun
    ∙ ap (λ (ss : List (Side _ _)). begun_each ss)
    (same ∙ ap (λ (s : Sides _ _). s.sides) c.self.view_is))

pub returns-in-Ok-clause-lent : goal.returns-in-Ok-clause-lent
returns-in-Ok-clause-lent g c =
    let was = c.self.inside in
    let news = c.give_next.new.sides in
    let same = c.as_mut_slice.ensures.value in
    rw (
      lent_back was.sides.len was.sides.items news
          (sym c.as_mut_slice.ensures.len ∙ ap length same)
          (c.give_next.ensures.len ∙ ap length same),
      ← c.self.view_is,
    )
    (lends_next was.steering c.in-Ok.at was.sides.items news was.delivered
    c.delivered_with-self-inside.result was.failures was.fault c.self.invariant
    (rw same at c.in-Ok.ensures.given) c.in-Ok.ensures.unfailed
    c.delivered_with-self-inside.ensures)

pub returns-in-Ok-clause-device : goal.returns-in-Ok-clause-device
returns-in-Ok-clause-device g c =
    let was = c.self.inside in
    let same = c.as_mut_slice.ensures.value in
    let olds = same ∙ ap (λ (s : Sides _ _). s.sides) c.self.view_is in
    rw (lent_back was.sides.len was.sides.items c.give_next.new.sides
    (sym c.as_mut_slice.ensures.len ∙ ap length same) (c.give_next.ensures.len ∙ ap length same))
    (rw olds at c.in-Ok.ensures.device)

pub invariant_of-self-in-Err : goal.invariant_of-self-in-Err
invariant_of-self-in-Err g c =
    let was = c.self.inside in
    let news = c.give_next.new.sides in
    let same = c.as_mut_slice.ensures.value in
    rw (lent_back was.sides.len was.sides.items news
    (sym c.as_mut_slice.ensures.len ∙ ap length same) (c.give_next.ensures.len ∙ ap length same))
    (sound_stopped was.steering c.in-Err.fault was.sides.items news was.delivered was.failures
    c.saturating_add-self-inside.result was.fault c.self.invariant
    (rw same at c.in-Err.ensures.fault))

pub returns-in-Err-clause-begun : goal.returns-in-Err-clause-begun
returns-in-Err-clause-begun g c =
    let was = c.self.inside in
    let same = c.as_mut_slice.ensures.value in
    rw (lent_back was.sides.len was.sides.items c.give_next.new.sides
    (sym c.as_mut_slice.ensures.len ∙ ap length same) (c.give_next.ensures.len ∙ ap length same))
    (c.give_next.ensures.begun
    ∙ ap (λ (ss : List (Side _ _)). begun_each ss)
    (same ∙ ap (λ (s : Sides _ _). s.sides) c.self.view_is))

pub returns-in-Err-clause-fault : goal.returns-in-Err-clause-fault
returns-in-Err-clause-fault g c =
    let was = c.self.inside in
    let news = c.give_next.new.sides in
    let same = c.as_mut_slice.ensures.value in
    rw (
      lent_back was.sides.len was.sides.items news
          (sym c.as_mut_slice.ensures.len ∙ ap length same)
          (c.give_next.ensures.len ∙ ap length same),
      ← c.self.view_is,
    )
    (stops_sides was.steering c.in-Err.fault was.sides.items news was.delivered was.failures
    c.saturating_add-self-inside.result was.fault c.self.invariant
    (rw same at c.in-Err.ensures.fault) c.saturating_add-self-inside.ensures)

pub returns-in-Err-clause-device : goal.returns-in-Err-clause-device
returns-in-Err-clause-device g c =
    let was = c.self.inside in
    let same = c.as_mut_slice.ensures.value in
    let olds = same ∙ ap (λ (s : Sides _ _). s.sides) c.self.view_is in
    rw (lent_back was.sides.len was.sides.items c.give_next.new.sides
    (sym c.as_mut_slice.ensures.len ∙ ap length same) (c.give_next.ensures.len ∙ ap length same))
    (rw olds at c.in-Err.ensures.device)
