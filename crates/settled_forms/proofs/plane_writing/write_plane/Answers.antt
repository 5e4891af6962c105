use Rattle.std.proofs.Common.{◌≡◌, ◌∙◌, ap, arith, refl}
use Rattle.std.proofs.lemmas.Result.{err_from_is_err_and}
use Rattle.frame_assembly.specs.Settled.{settled_picture}
use Rattle.st_format.specs.declared.format.Format.{Format}
use Rattle.st_format.specs.Picture.{Values}
use Rattle.settled_forms.proofs.Groups.{part_is, plane_all, plane_cut, plane_more}
use Rattle.settled_forms.proofs.Groups.{plane_none, writes_is}
use Rattle.settled_forms.specs.Pieces.{rows_text}
use Rattle.settled_forms.proofs.plane_writing.write_plane.Goals as goal

pub loop-row-init : goal.loop-row-init
loop-row-init g c =
    let v : Values = settled_picture c.args.source.now.frame.now c.args.source.now.base in
    record {
      within = omega arith;
      written =
          plane_none v c.args.component (g.K.ByteSink.held c.args.sink.now)
          (g.K.ByteSink.took c.args.sink.now);
      failures = refl;
      names = refl;
    }

pub loop-row-preserved : goal.loop-row-preserved
loop-row-preserved g c =
    let v : Values = settled_picture c.args.source.now.frame.now c.args.source.now.base in
    let r = c.in_ok-write_all.ensures in
    let held = g.K.ByteSink.held in
    let took = g.K.ByteSink.took in
    let mid = c.loop-row.sink in
    let new = c.write_all.new.sink in
    record {
      within = omega (arith, c.min-some.ensures);
      written =
          plane_more v c.args.component c.loop-row.row c.min-some.result
          (held c.args.sink.now) (held mid) (held new) (took c.args.sink.now) (took mid) (took new)
          c.loop-row.invariant.written
          (writes_is (held mid) (held new) (took mid) (took new) c.spell_rows.new.octets
          (rows_text v c.args.component c.loop-row.row c.min-some.result)
          c.spell_rows.ensures r.ok);
      failures = r.counted ∙ c.loop-row.invariant.failures;
      names = r.names ∙ c.loop-row.invariant.names;
    }

pub returns-in_err-write_all-clause-fault : goal.returns-in_err-write_all-clause-fault
returns-in_err-write_all-clause-fault g c =
    let v : Values = settled_picture c.args.source.now.frame.now c.args.source.now.base in
    let high : c.height-height.result ≡ v.format.height =
    c.height-height.ensures ∙ ap (λ (x : Format). x.height) c.format-format.ensures.format in
    let p = err_from_is_err_and c.from_residual.result c.from_residual.ensures.1 in
    let held = g.K.ByteSink.held in
    let took = g.K.ByteSink.took in
    let mid = c.loop-row.sink in
    let new = c.write_all.new.sink in
    rw (p.1)
    (plane_cut v c.args.component c.loop-row.row c.min-some.result (held c.args.sink.now)
    (held mid) (held new) (took c.args.sink.now) (took mid) (took new) c.requires.ycc
    c.requires.component (omega (arith, high, c.min-some.ensures)) c.loop-row.invariant.written
    (part_is (held mid) (held new) (took mid) (took new) c.spell_rows.new.octets
    (rows_text v c.args.component c.loop-row.row c.min-some.result)
    c.spell_rows.ensures c.in_err-write_all.ensures.fault))

pub returns-clause-ok : goal.returns-clause-ok
returns-clause-ok g c =
    let v : Values = settled_picture c.args.source.now.frame.now c.args.source.now.base in
    let high : c.height-height.result ≡ v.format.height =
    c.height-height.ensures ∙ ap (λ (x : Format). x.height) c.format-format.ensures.format in
    let done : c.loop-row.row ≡ v.format.height =
    omega (arith, high, c.loop-row.invariant.within, c.loop-row-test.false) in
    plane_all v c.args.component c.loop-row.row _ _ _ _ done c.requires.ycc
    c.requires.component c.loop-row.invariant.written
