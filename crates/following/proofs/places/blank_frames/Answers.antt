use Rattle.std.proofs.Common.{ℕ, ◌≡◌, ◌≤◌, List, ◌∷◌, [], ◌++◌, replicate, ap, ◌∙◌, arith}
use Rattle.std.proofs.lemmas.List.{replicate_more}
use Rattle.st_format.specs.Raster.{Raster, blank}
use Rattle.following.proofs.places.blank_frames.Goals as goal

reached : (i n : ℕ) → i ≤ n → n ≤ i → i ≡ n
reached i n le ge = omega (arith, le, ge)

pub loop-init : goal.loop-init
loop-init g c = (c.in_ok-frames.ensures.items, c.in_ok-frames.ensures.capacity)

pub loop-preserved : goal.loop-preserved
loop-preserved g c = (
  c.in_ok-push.ensures.items
      ∙ ap (λ (xs : List Raster). xs ++ c.in_ok-new.field-0 ∷ []) c.loop.invariant.0
      ∙ ap
      (λ (r : Raster). replicate c.loop.counter (blank c.args.format) ++ r ∷ [])
      c.in_ok-new.ensures.blank
      ∙ replicate_more c.loop.counter (blank c.args.format),
  omega (arith, c.loop.invariant.1, c.in_ok-push.ensures.capacity),
)

pub returns-clause-blank : goal.returns-clause-blank
returns-clause-blank g c =
    c.loop.invariant.0
    ∙ ap
    (λ (n : ℕ). replicate n (blank c.args.format))
    (reached c.loop.counter c.args.count c.loop.auto.counter-end c.loop-test.false)

pub returns-clause-room : goal.returns-clause-room
returns-clause-room g c = c.loop.invariant.1
