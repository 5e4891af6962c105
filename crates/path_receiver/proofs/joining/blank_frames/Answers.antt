use Rattle.std.proofs.Common.{ℕ, ◌≡◌, ◌+◌, ◌-◌, ◌<◌, ◌≤◌, List, [], ◌∷◌, ◌++◌, replicate, ap, ◌∙◌}
use Rattle.std.proofs.Common.{arith}
use Rattle.std.proofs.lemmas.List.{replicate_more}
use Rattle.std.proofs.lemmas.Result.{err_from_is_err_and}
use Rattle.st_format.specs.Raster.{Raster, blank}
use Rattle.path_receiver.proofs.Failed.{err_known, none_ok}
use Rattle.path_receiver.proofs.Lives.{in_frames, in_result, in_static}
use Rattle.path_receiver.proofs.joining.blank_frames.Goals as goal

smaller : (n i : ℕ) → i < n → n - (i + 1) < n - i
smaller n i lt = omega (arith, lt)

reached : (i n : ℕ) → i ≤ n → n ≤ i → i ≡ n
reached i n le ge = omega (arith, le, ge)

pub with_capacity-requires : goal.with_capacity-requires
with_capacity-requires g c κs within = (in_frames _ _ within.0, within.1)

pub branch-frames-requires : goal.branch-frames-requires
branch-frames-requires g c κs within = (in_result _ _ within, in_static _)

pub from_residual-requires : goal.from_residual-requires
from_residual-requires g c κs within = (in_result _ _ within, (in_static _, in_static _))

pub new-requires : goal.new-requires
new-requires g c κs within = within

pub branch-new-requires : goal.branch-new-requires
branch-new-requires g c κs within = (in_frames _ _ within, in_static _)

pub from_residual-requires-in_err-new : goal.from_residual-requires-in_err-new
from_residual-requires-in_err-new g c κs within = (in_result _ _ within, (in_static _, in_static _))

pub drop-frames-requires : goal.drop-frames-requires
drop-frames-requires g c κs within = (in_frames _ _ within.0, within.1)

pub push-requires : goal.push-requires
push-requires g c κs within = (in_frames _ _ within.0, within.1)

pub drop-frames-requires-in_err-push : goal.drop-frames-requires-in_err-push
drop-frames-requires-in_err-push g c κs within = (in_frames _ _ within.0, within.1)

pub returns-in_err-frames-clause-blank : goal.returns-in_err-frames-clause-blank
returns-in_err-frames-clause-blank g c =
    let p = err_from_is_err_and c.from_residual.result c.from_residual.ensures.1 in
    none_ok c.from_residual.result p.0 _ p.1

pub returns-in_err-frames-clause-memory : goal.returns-in_err-frames-clause-memory
returns-in_err-frames-clause-memory g c =
    let p = err_from_is_err_and c.from_residual.result c.from_residual.ensures.1 in
    err_known c.from_residual.result p.0 _ p.1 p.2

pub returns-in_err-new-clause-blank : goal.returns-in_err-new-clause-blank
returns-in_err-new-clause-blank g c =
    let p =
    err_from_is_err_and c.from_residual-in_err-new.result
    c.from_residual-in_err-new.ensures.1 in
    none_ok c.from_residual-in_err-new.result p.0 _ p.1

pub returns-in_err-new-clause-memory : goal.returns-in_err-new-clause-memory
returns-in_err-new-clause-memory g c =
    let p =
    err_from_is_err_and c.from_residual-in_err-new.result
    c.from_residual-in_err-new.ensures.1 in
    err_known c.from_residual-in_err-new.result p.0 _ p.1 p.2

pub returns-in_err-push-clause-blank : goal.returns-in_err-push-clause-blank
returns-in_err-push-clause-blank g c =
    let p =
    err_from_is_err_and c.from_residual-in_err-push.result
    c.from_residual-in_err-push.ensures.1 in
    none_ok c.from_residual-in_err-push.result p.0 _ p.1

pub returns-in_err-push-clause-memory : goal.returns-in_err-push-clause-memory
returns-in_err-push-clause-memory g c =
    let p =
    err_from_is_err_and c.from_residual-in_err-push.result
    c.from_residual-in_err-push.ensures.1 in
    err_known c.from_residual-in_err-push.result p.0 _ p.1 p.2

pub loop-init : goal.loop-init
loop-init g c = c.in_ok-frames.ensures.items

pub loop-smaller : goal.loop-smaller
loop-smaller g c = smaller c.args.count c.loop.counter c.loop-test.true

pub loop-preserved : goal.loop-preserved
loop-preserved g c =
    c.in_ok-push.ensures.items
    ∙ ap (λ (xs : List Raster). xs ++ c.in_ok-new.field-0 ∷ []) c.loop.invariant
    ∙ ap
    (λ (r : Raster). replicate c.loop.counter (blank c.args.format) ++ r ∷ [])
    c.in_ok-new.ensures.blank
    ∙ replicate_more c.loop.counter (blank c.args.format)

pub returns-clause-blank : goal.returns-clause-blank
returns-clause-blank g c =
    c.loop.invariant
    ∙ ap
    (λ (n : ℕ). replicate n (blank c.args.format))
    (reached c.loop.counter c.args.count c.loop.auto.counter-end c.loop-test.false)

pub returns-clause-memory : goal.returns-clause-memory
returns-clause-memory g c = tt
