use Rattle.std.proofs.Common.{◌≡◌, ◌≤◌, length, get_or, arith}
use Rattle.std.proofs.lemmas.List.{take_all}
use Rattle.st_format.specs.Device.{CountsOne}
use Rattle.media_file.specs.declared.record.Record.{Record}
use Rattle.std.proofs.Common.{◌+◌, ◌++◌, ◌∙◌, sym, subst, ℕ, List, map, take, drop}
use Rattle.std.proofs.KnownBytes.{Appends-trans}
use Rattle.std.proofs.lemmas.Result.{err_from_is_err_and}
use Rattle.std.specs.Io.KnownBytes.{Appends}
use Rattle.st_format.specs.Device.{AppendsPrefix, GrowsPart}
use Rattle.media_file.specs.Capture.{entry_seen}
use Rattle.media_file.specs.Records.{record_text, records_text}
use Rattle.media_file.proofs.Written.{part_first, part_then, prefix_first, prefix_then, texts_all}
use Rattle.media_file.proofs.Written.{texts_more, took_both}
use Rattle.media_file.proofs.writing.write_records.Goals as goal

pub returns-in_err-write_record-clause-fault : goal.returns-in_err-write_record-clause-fault
returns-in_err-write_record-clause-fault g c =
    let p = err_from_is_err_and c.from_residual.result c.from_residual.ensures.1 in
    let i : ℕ = c.loop-record.record-index in
    let front : List ℕ = records_text (map entry_seen (take i c.args.records.now)) in
    let one : List ℕ = record_text (entry_seen c.record-item.result) in
    let rest : List ℕ = records_text (map entry_seen (drop (i + 1) c.args.records.now)) in
    rw (p.1)
    (subst (AppendsPrefix (g.K.ByteSink.held c.args.sink.now)
    (g.K.ByteSink.held c.write_record.new.sink))
    (texts_all c.args.records.now i c.record-item.result c.loop-record-test.true
    c.record-item.is)
    (prefix_first _ _ (front ++ one) rest
    (prefix_then _ _ _ front one c.loop-record.invariant.written
    (rw c.deref.ensures.value at c.in_err-write_record.ensures.fault))))

pub loop-record-preserved : goal.loop-record-preserved
loop-record-preserved g c =
    let i : ℕ = c.loop-record.record-index in
    let front : List ℕ = records_text (map entry_seen (take i c.args.records.now)) in
    let one : List ℕ = record_text (entry_seen c.record-item.result) in
    record {
      written =
          subst (Appends (g.K.ByteSink.held c.args.sink.now)
          (g.K.ByteSink.held c.write_record.new.sink))
          (sym (texts_more c.args.records.now i c.record-item.result c.loop-record-test.true
          c.record-item.is))
          (Appends-trans _ _ _ front one c.loop-record.invariant.written
          (rw c.deref.ensures.value at c.in_ok-write_record.ensures.ok));
      taken =
          subst (λ (t : List ℕ). g.K.ByteSink.took c.write_record.new.sink
          ≡ g.K.ByteSink.took c.args.sink.now ++ t)
          (sym (texts_more c.args.records.now i c.record-item.result c.loop-record-test.true
          c.record-item.is))
          (took_both _ _ _ front one c.loop-record.invariant.taken
          (rw c.deref.ensures.value at c.in_ok-write_record.ensures.took));
      failures = c.in_ok-write_record.ensures.counted ∙ c.loop-record.invariant.failures;
    }

pub offset_bounds-records-record-index : goal.offset_bounds-records-record-index
offset_bounds-records-record-index g c = omega (arith, c.loop-record-test.true)

pub write_record-requires : goal.write_record-requires
write_record-requires g c =
    let i : ℕ = c.loop-record.record-index in
    let short : length (get_or c.args.records.now i c.record-item.result).octets.items ≤ 65535 =
    c.requires i c.record-item.result c.loop-record-test.true in
    rw (c.deref.ensures.value)
    (subst (λ (r : Record g.row.A.Denot). length r.octets.items ≤ 65535) (sym c.record-item.is)
    short)

pub returns-in_err-write_record-clause-ok : goal.returns-in_err-write_record-clause-ok
returns-in_err-write_record-clause-ok g c =
    let p =
    err_from_is_err_and c.from_residual.result c.from_residual.ensures.1 in
    rw (p.1) tt

pub returns-in_err-write_record-clause-counted : goal.returns-in_err-write_record-clause-counted
returns-in_err-write_record-clause-counted g c =
    let p =
    err_from_is_err_and c.from_residual.result c.from_residual.ensures.1 in
    rw (p.1)
    (subst (λ (n : ℕ). CountsOne n (g.K.ByteSink.failures c.write_record.new.sink))
    c.loop-record.invariant.failures c.in_err-write_record.ensures.counted)

pub returns-clause-ok : goal.returns-clause-ok
returns-clause-ok g c =
    subst
    (λ (rs : List (Record g.row.A.Denot)). Appends (g.K.ByteSink.held c.args.sink.now)
    (g.K.ByteSink.held c.loop-record.sink) (records_text (map entry_seen rs)))
    (take_all c.loop-record.record-index c.args.records.now c.loop-record-test.false)
    c.loop-record.invariant.written

pub returns-clause-counted : goal.returns-clause-counted
returns-clause-counted g c = c.loop-record.invariant.failures

pub returns-in_err-write_record-clause-part : goal.returns-in_err-write_record-clause-part
returns-in_err-write_record-clause-part g c =
    let p = err_from_is_err_and c.from_residual.result c.from_residual.ensures.1 in
    let i : ℕ = c.loop-record.record-index in
    let front : List ℕ = records_text (map entry_seen (take i c.args.records.now)) in
    let one : List ℕ = record_text (entry_seen c.record-item.result) in
    let rest : List ℕ = records_text (map entry_seen (drop (i + 1) c.args.records.now)) in
    rw (p.1)
    (subst (GrowsPart (g.K.ByteSink.took c.args.sink.now)
    (g.K.ByteSink.took c.write_record.new.sink))
    (texts_all c.args.records.now i c.record-item.result c.loop-record-test.true
    c.record-item.is)
    (part_first _ _ (front ++ one) rest
    (part_then _ _ _ front one c.loop-record.invariant.taken
    (rw c.deref.ensures.value at c.in_err-write_record.ensures.part))))

pub returns-in_err-write_record-clause-took : goal.returns-in_err-write_record-clause-took
returns-in_err-write_record-clause-took g c =
    let p =
    err_from_is_err_and c.from_residual.result c.from_residual.ensures.1 in
    rw (p.1) tt

pub returns-clause-took : goal.returns-clause-took
returns-clause-took g c =
    subst
    (λ (rs : List (Record g.row.A.Denot)). g.K.ByteSink.took c.loop-record.sink
    ≡ g.K.ByteSink.took c.args.sink.now ++ records_text (map entry_seen rs))
    (take_all c.loop-record.record-index c.args.records.now c.loop-record-test.false)
    c.loop-record.invariant.taken
