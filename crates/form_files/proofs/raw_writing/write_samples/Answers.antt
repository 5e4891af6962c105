use Rattle.std.proofs.Common.{◌≡◌, ◌≤◌, ◌+◌, ◌-◌, ◌*◌, ◌∙◌, ℕ, List, ◌++◌, length, take, drop}
use Rattle.std.proofs.Common.{Some, ap, subst, sym, refl, arith}
use Rattle.std.proofs.lemmas.List.{length-append, length-drop, length-take-le, take_all}
use Rattle.std.proofs.lemmas.Result.{err_from_is_err_and}
use Rattle.st_format.specs.Device.{CountsOne}
use Rattle.st_format.specs.Pgroup.{bits_of}
use Rattle.st_format.specs.Samples.{octets_in}
use Rattle.media_file.proofs.Spelt.{none_written, piece_cut, piece_whole}
use Rattle.media_file.proofs.Written.{held_part, part_held}
use Rattle.form_files.proofs.raw_writing.write_samples.Goals as goal

pub loop-done-init : goal.loop-done-init
loop-done-init g c = record {
  within = omega arith;
  whole = omega arith;
  taken =
      none_written (bits_of c.args.format.now.depth) (Some (g.K.ByteSink.took c.args.sink.now));
  failures = refl;
  room = c.requires.room;
}

pub loop-done-preserved : goal.loop-done-preserved
loop-done-preserved g c =
    let i = c.loop-done.invariant in
    let e = c.piece_samples-n.ensures in
    let r = c.in_ok-write_piece.ensures in
    let size : ℕ = c.piece_octets-size.result in
    let piece : List ℕ = c.loop-done.piece in
    let few : size ≤ 3600 = c.piece_octets-size.ensures.few in
    let fits : size ≤ length piece = omega (arith, i.room) in
    record {
      within = e.within;
      whole = e.next;
      taken =
          piece_whole (bits_of c.args.format.now.depth) c.loop-done.done c.piece_samples-n.result
          c.args.samples.now (Some _) (Some _) (Some _) e.within i.whole e.whole i.taken r.took;
      failures = r.counted ∙ i.failures;
      room =
          omega (
            arith,
            i.room,
            r.room,
            length-append c.write_piece.new.octets (drop size piece),
            length-drop size piece,
            length-take-le size piece fits,
          );
    }

pub piece_samples-n-requires-clause-left : goal.piece_samples-n-requires-clause-left
piece_samples-n-requires-clause-left g c = c.loop-done-test.true

pub piece_samples-n-requires-clause-done : goal.piece_samples-n-requires-clause-done
piece_samples-n-requires-clause-done g c = c.loop-done.invariant.whole

pub piece_samples-n-requires-clause-count : goal.piece_samples-n-requires-clause-count
piece_samples-n-requires-clause-count g c = c.requires.whole

pub piece_octets-size-requires-clause-few : goal.piece_octets-size-requires-clause-few
piece_octets-size-requires-clause-few g c = c.piece_samples-n.ensures.few

pub piece_octets-size-requires-clause-whole : goal.piece_octets-size-requires-clause-whole
piece_octets-size-requires-clause-whole g c = c.piece_samples-n.ensures.whole

pub slice_bounds-write_piece-end-in-loop-done : goal.slice_bounds-write_piece-end-in-loop-done
slice_bounds-write_piece-end-in-loop-done g c =
    omega (arith, c.piece_octets-size.ensures.few, c.loop-done.invariant.room)

pub slice_bounds-write_piece-end-in-loop-done-2 : goal.slice_bounds-write_piece-end-in-loop-done-2
slice_bounds-write_piece-end-in-loop-done-2 g c =
    sym (length-take-le c.piece_octets-size.result c.loop-done.piece
    (omega (arith, c.piece_octets-size.ensures.few, c.loop-done.invariant.room)))

pub write_piece-requires-clause-lengths : goal.write_piece-requires-clause-lengths
write_piece-requires-clause-lengths g c =
    let i : ℕ = c.loop-done.done in
    let n : ℕ = c.piece_samples-n.result in
    let xs : List ℕ = c.args.samples.now in
    let some : length (take (i + n - i) (drop i xs)) ≡ n =
    omega (
      arith,
      length-take-le (i + n - i) (drop i xs)
          (omega (arith, length-drop i xs, c.piece_samples-n.ensures.within)),
    ) in
    ap (λ (k : ℕ). 8 * k)
    (length-take-le c.piece_octets-size.result c.loop-done.piece
    (omega (arith, c.piece_octets-size.ensures.few, c.loop-done.invariant.room)))
    ∙ c.piece_octets-size.ensures.exact
    ∙ ap (λ (k : ℕ). bits_of c.args.format.now.depth * k) (sym some)

pub returns-in_err-write_piece-clause-counted : goal.returns-in_err-write_piece-clause-counted
returns-in_err-write_piece-clause-counted g c =
    let p =
    err_from_is_err_and c.from_residual.result c.from_residual.ensures.1 in
    rw (p.1)
    (subst (λ (n : ℕ). CountsOne n (g.K.ByteSink.failures c.write_piece.new.sink))
    c.loop-done.invariant.failures c.in_err-write_piece.ensures.counted)

pub returns-in_err-write_piece-clause-part : goal.returns-in_err-write_piece-clause-part
returns-in_err-write_piece-clause-part g c =
    let p = err_from_is_err_and c.from_residual.result c.from_residual.ensures.1 in
    let i = c.loop-done.invariant in
    let e = c.piece_samples-n.ensures in
    rw (p.1)
    (held_part _ _ _
    (piece_cut (bits_of c.args.format.now.depth) c.loop-done.done c.piece_samples-n.result
    c.args.samples.now (Some _) (Some _) (Some _) e.within i.whole e.whole e.next
    c.requires.whole i.taken (part_held _ _ _ c.in_err-write_piece.ensures.part)))

pub returns-in_err-write_piece-clause-took : goal.returns-in_err-write_piece-clause-took
returns-in_err-write_piece-clause-took g c =
    let p =
    err_from_is_err_and c.from_residual.result c.from_residual.ensures.1 in
    rw (p.1) tt

pub returns-clause-counted : goal.returns-clause-counted
returns-clause-counted g c = c.loop-done.invariant.failures

pub returns-clause-took : goal.returns-clause-took
returns-clause-took g c =
    subst
    (λ (xs : List ℕ). g.K.ByteSink.took c.loop-done.sink
    ≡ g.K.ByteSink.took c.args.sink.now ++ octets_in (bits_of c.args.format.now.depth) xs)
    (take_all c.loop-done.done c.args.samples.now c.loop-done-test.false)
    c.loop-done.invariant.taken
