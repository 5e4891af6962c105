use Rattle.std.proofs.Common.{◌≤◌, ◌*◌, ◌∙◌, ℕ, List, length, drop, refl, arith}
use Rattle.std.proofs.lemmas.List.{length-append, length-drop, length-take-le}
use Rattle.std.proofs.lemmas.Result.{err_from_is_err_and}
use Rattle.picture_forms.proofs.Written.{none_written, piece_cut, piece_written}
use Rattle.picture_forms.proofs.planes.write_pieces.Goals as goal

pub loop-done-init : goal.loop-done-init
loop-done-init g c = record {
  within = omega arith;
  written =
      none_written (g.K.ByteSink.held c.args.sink.now) (g.K.ByteSink.took c.args.sink.now)
      c.args.spelling c.args.samples.now
      c.args.stride.first c.args.stride.step;
  failures = refl;
  names = refl;
  room = c.requires.room;
}

pub returns-in_err-write_piece-clause-fault : goal.returns-in_err-write_piece-clause-fault
returns-in_err-write_piece-clause-fault g c =
    let p = err_from_is_err_and c.from_residual.result c.from_residual.ensures.1 in
    rw (p.1)
    (piece_cut _ _ _ _ _ _ c.args.spelling c.args.samples.now c.args.stride.first c.args.stride.step
    c.loop-done.done c.min-n.result c.args.count (omega (arith, c.min-n.ensures))
    c.loop-done.invariant.written c.in_err-write_piece.ensures.fault)

pub loop-done-preserved : goal.loop-done-preserved
loop-done-preserved g c =
    let r = c.in_ok-write_piece.ensures in
    let size : ℕ = c.size.result * c.min-n.result in
    let piece : List ℕ = c.loop-done.piece in
    let n : ℕ = c.min-n.result in
    let few : n ≤ 2048 = omega (arith, c.min-n.ensures) in
    let fits : size ≤ length piece =
    grind (arith, c.loop-done.invariant.room, c.size.ensures.few) in
    record {
      within = omega (arith, c.min-n.ensures);
      written =
          piece_written _ _ _ _ _ _ c.args.spelling c.args.samples.now c.args.stride.first
          c.args.stride.step c.loop-done.done c.min-n.result c.loop-done.invariant.written r.ok;
      failures = r.counted ∙ c.loop-done.invariant.failures;
      names = r.names ∙ c.loop-done.invariant.names;
      room =
          omega (
            arith,
            c.loop-done.invariant.room,
            r.room,
            length-append c.write_piece.new.octets (drop size piece),
            length-drop size piece,
            length-take-le size piece fits,
          );
    }
