use Rattle.std.proofs.Common.{ℕ, ◌*◌, ◌∙◌, Some, ap, length, subst, sym}
use Rattle.std.proofs.lemmas.List.{length-drop, length-take-le}
use Rattle.st_format.specs.Device.{CountsFaults, CountsOne}
use Rattle.std.proofs.Common.{arith, refl}
use Rattle.std.proofs.lemmas.Result.{err_from_is_err_and, on_err_weaker, on_ok_weaker}
use Rattle.receiver_file.proofs.Growing.{held_part, took_part}
use Rattle.receiver_file.proofs.MarkedRows.{passes_done, passes_groups, passes_start, passes_stop}
use Rattle.receiver_file.proofs.MarkedRows.{slice_rest}
use Rattle.receiver_file.proofs.Placed.{groups_sized}
use Rattle.receiver_file.proofs.rows.write_marked.Goals as goal

pub loop-group-init : goal.loop-group-init
loop-group-init g c = record {
  passed = passes_start _ _ _;
  took = passes_start _ _ (Some _);
  groups = omega arith;
  filled = omega arith;
  failures = refl;
}

pub returns-in_err-at-clause-fault : goal.returns-in_err-at-clause-fault
returns-in_err-at-clause-fault g c =
    let p = err_from_is_err_and c.from_residual.result c.from_residual.ensures.1 in
    rw (p.1)
    (passes_stop c.args.size c.loop-group.group c.args.marks.now c.args.octets.now _ _ _ _
    c.loop-group.invariant.passed c.in_err-at.ensures.fault)

pub loop-group-preserved : goal.loop-group-preserved
loop-group-preserved g c = record {
  passed =
      passes_groups c.args.size c.loop-group.group c.put_groups-count.result.0 c.args.marks.now
      c.args.octets.now _ c.loop-group.room c.in_ok-at.at c.put_groups-count.result.1 _ _ _
      c.loop-group.invariant.passed c.in_ok-at.ensures.passed
      c.put_groups-count.new.room c.put_groups-count.ensures.put;
  took =
      passes_groups c.args.size c.loop-group.group c.put_groups-count.result.0 c.args.marks.now
      c.args.octets.now _ c.loop-group.room c.in_ok-at.at c.put_groups-count.result.1 (Some _)
      (Some _) (Some _)
      c.loop-group.invariant.took c.in_ok-at.ensures.took_first
      c.put_groups-count.new.room c.put_groups-count.ensures.put;
  groups =
      omega (
        arith,
        c.put_groups-count.ensures.count,
        c.loop-group.invariant.groups,
        ap length (slice_rest c.loop-group.group c.args.marks.now),
        length-drop c.loop-group.group c.args.marks.now,
      );
  filled =
      omega (arith, c.put_groups-count.ensures.within, c.put_groups-count.ensures.length);
  failures = c.in_ok-at.ensures.counted ∙ c.loop-group.invariant.failures;
}

pub put_groups-count-requires-clause-octets : goal.put_groups-count-requires-clause-octets
put_groups-count-requires-clause-octets g c =
    groups_sized c.args.size c.loop-group.group (c.args.size * c.loop-group.group) c.args.marks.now
    c.args.octets.now refl c.loop-group.invariant.groups c.requires.octets

pub returns-clause-ok : goal.returns-clause-ok
returns-clause-ok g c =
    on_ok_weaker c.write_whole.result
    (λ q. passes_done c.args.size c.loop-group.group c.args.marks.now c.args.octets.now _ _ _ _
    (omega arith) c.loop-group.invariant.passed q) c.write_whole.ensures.ok

pub returns-clause-fault : goal.returns-clause-fault
returns-clause-fault g c =
    on_err_weaker c.write_whole.result
    (λ q. passes_stop c.args.size c.loop-group.group c.args.marks.now c.args.octets.now _ _ _ _
    c.loop-group.invariant.passed q) c.write_whole.ensures.fault

pub make_room-requires-clause-filled : goal.make_room-requires-clause-filled
make_room-requires-clause-filled g c = c.loop-group.invariant.filled

pub make_room-requires-clause-room : goal.make_room-requires-clause-room
make_room-requires-clause-room g c = c.loop-group.auto.room ∙ c.requires.room

pub returns-in_err-at-clause-ok : goal.returns-in_err-at-clause-ok
returns-in_err-at-clause-ok g c =
    let p = err_from_is_err_and c.from_residual.result c.from_residual.ensures.1 in
    rw (p.1) tt

pub returns-in_err-at-clause-counted : goal.returns-in_err-at-clause-counted
returns-in_err-at-clause-counted g c =
    let p = err_from_is_err_and c.from_residual.result c.from_residual.ensures.1 in
    rw (p.1)
    (subst (λ (n : ℕ). CountsOne n (g.K.ByteSink.failures c.make_room.new.sink))
    c.loop-group.invariant.failures c.in_err-at.ensures.counted)

pub slice_bounds-write_whole-end : goal.slice_bounds-write_whole-end
slice_bounds-write_whole-end g c = c.loop-group.invariant.filled

pub slice_bounds-write_whole-end-2 : goal.slice_bounds-write_whole-end-2
slice_bounds-write_whole-end-2 g c =
    sym (length-take-le c.loop-group.filled c.loop-group.room c.loop-group.invariant.filled)

pub returns-clause-counted : goal.returns-clause-counted
returns-clause-counted g c =
    subst
    (λ (n : ℕ). CountsFaults n (g.K.ByteSink.failures c.write_whole.new.sink)
    c.write_whole.result)
    c.loop-group.invariant.failures c.write_whole.ensures.counted

pub returns-in_err-at-clause-took_part : goal.returns-in_err-at-clause-took_part
returns-in_err-at-clause-took_part g c =
    let p = err_from_is_err_and c.from_residual.result c.from_residual.ensures.1 in
    rw (p.1)
    (took_part _ _ _ (passes_stop c.args.size c.loop-group.group c.args.marks.now c.args.octets.now
    _ (Some _) (Some _) (Some _)
    c.loop-group.invariant.took (held_part _ _ _ c.in_err-at.ensures.took_part)))

pub returns-clause-took : goal.returns-clause-took
returns-clause-took g c =
    on_ok_weaker c.write_whole.result
    (λ q. passes_done c.args.size c.loop-group.group c.args.marks.now c.args.octets.now _ (Some _)
    (Some _) (Some _)
    (omega arith) c.loop-group.invariant.took q) c.write_whole.ensures.took

pub returns-clause-took_part : goal.returns-clause-took_part
returns-clause-took_part g c =
    on_err_weaker c.write_whole.result
    (λ q. took_part _ _ _ (passes_stop c.args.size c.loop-group.group c.args.marks.now
    c.args.octets.now _ (Some _) (Some _) (Some _)
    c.loop-group.invariant.took (held_part _ _ _ q))) c.write_whole.ensures.part
