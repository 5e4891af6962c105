use Rattle.std.proofs.Common.{◌≡◌, ◌≤◌, ◌<◌, ◌*◌, ◌∙◌, ℕ, List, length, drop, refl, arith, ap}
use Rattle.std.proofs.Common.{subst}
use Rattle.std.proofs.lemmas.List.{length-append, length-drop, length-take-le, take_at}
use Rattle.std.proofs.lemmas.Result.{err_from_is_err_and}
use Rattle.picture_forms.specs.Walks.{IsCut}
use Rattle.picture_forms.proofs.Filled.{keeps_none}
use Rattle.picture_forms.proofs.Given.{keeps_join, none_given, piece_fails, piece_given}
use Rattle.picture_forms.proofs.plane_reading.read_pieces.Goals as goal

pub loop-done-init : goal.loop-done-init
loop-done-init g c = record {
  within = omega arith;
  given =
      none_given (g.S.ByteSource.to_give c.args.source.now) (g.S.ByteSource.gave c.args.source.now)
      c.args.spelling c.args.samples.now
      c.args.stride.first c.args.stride.step;
  others = keeps_none c.args.samples.now c.args.stride.first c.args.stride.step 0;
  failures = refl;
  names = refl;
  room = c.requires.room;
}

pub returns-in_err-read_field-clause-fault : goal.returns-in_err-read_field-clause-fault
returns-in_err-read_field-clause-fault g c =
    let p = err_from_is_err_and c.from_residual.result c.from_residual.ensures.1 in
    let n : ℕ = c.min-n.result in
    let size : ℕ = c.size.result * n in
    let piece : List ℕ = c.loop-done.piece in
    let few : n ≤ 2048 = omega (arith, c.min-n.ensures) in
    let fits : size ≤ length piece =
    grind (arith, c.loop-done.invariant.room, c.size.ensures.few) in
    let long = length-take-le size piece fits
    ∙ ap (λ (k : ℕ). k * n) c.size.ensures.value in
    rw (p.1, p.2)
    (piece_fails c.in_err-read_field.field-0.0 _ _ _ _ _ _ _ c.args.spelling c.loop-done.samples
    c.args.stride.first c.args.stride.step c.loop-done.done n c.args.count
    (omega (arith, c.min-n.ensures)) c.loop-done.invariant.given
    (subst (λ (k : ℕ). IsCut c.in_err-read_field.field-0.0 k
    (g.S.ByteSource.to_give c.loop-done.source) (g.S.ByteSource.to_give c.read_field.new.source)
    (g.S.ByteSource.gave c.loop-done.source) (g.S.ByteSource.gave c.read_field.new.source)
    (g.S.ByteSource.ended c.read_field.new.source)) long c.in_err-read_field.ensures.fault))

pub loop-done-preserved : goal.loop-done-preserved
loop-done-preserved g c =
    let r = c.in_ok-read_field.ensures in
    let i = c.loop-done.invariant in
    let size : ℕ = c.size.result * c.min-n.result in
    let piece : List ℕ = c.loop-done.piece in
    let n : ℕ = c.min-n.result in
    let few : n ≤ 2048 = omega (arith, c.min-n.ensures) in
    let fits : size ≤ length piece =
    grind (arith, i.room, c.size.ensures.few) in
    let long : length c.read_field.new.buf ≡ size = r.room ∙ length-take-le size piece fits in
    let low : c.args.stride.first < c.args.stride.step = c.requires.inside.low in
    record {
      within = omega (arith, c.min-n.ensures);
      given =
          piece_given _ _ _ _ _ _ c.args.spelling c.loop-done.samples c.put_piece.new.samples _
          c.args.stride.first c.args.stride.step c.loop-done.done n low
          c.put_piece.ensures.others i.given r.given
          (c.put_piece.ensures.put ∙ take_at c.read_field.new.buf (drop size piece) size long);
      others =
          keeps_join c.args.samples.now c.loop-done.samples c.put_piece.new.samples
          c.args.stride.first c.args.stride.step c.loop-done.done n i.others
          c.put_piece.ensures.others;
      failures = r.counted ∙ i.failures;
      names = r.names ∙ i.names;
      room =
          omega (
            arith,
            i.room,
            r.room,
            length-append c.read_field.new.buf (drop size piece),
            length-drop size piece,
            length-take-le size piece fits,
          );
    }
