use Rattle.std.proofs.lemmas.Result.{err_from_is_err_and, IfOk-weaker}
use Rattle.media_file.specs.Migrated.{new_text, old_at}
use Rattle.media_file.specs.declared.fault.FileFault.TheVariants.{Device}
use Rattle.media_file.proofs.Moved.{front_named, migrates, old_cut, old_fails_all, old_newer}
use Rattle.media_file.proofs.Moved.{stops_all, stops_front, stops_kind, stops_newer}
use Rattle.media_file.proofs.MovedGave.{device_wrong, front_stops, kind_stops, kind_wrong}
use Rattle.media_file.proofs.MovedGave.{migrates_all, newer_stops, newer_wrong}
use Rattle.media_file.proofs.MovedGave.{records_stop_all, records_wrong}
use Rattle.media_file.proofs.migrating.migrate_capture.Goals as goal

pub returns-in_err-read_kind-clause-fault : goal.returns-in_err-read_kind-clause-fault
returns-in_err-read_kind-clause-fault g c =
    let p = err_from_is_err_and c.from_residual.result c.from_residual.ensures.1 in
    rw (p.1, p.2)
    (old_cut c.args.limit _ c.in_err-read_kind.field-0.0 c.in_err-read_kind.ensures.fault)

pub returns-in_err-read_kind-clause-named : goal.returns-in_err-read_kind-clause-named
returns-in_err-read_kind-clause-named g c =
    let p = err_from_is_err_and c.from_residual.result c.from_residual.ensures.1 in
    rw (p.1, p.2) (front_named c.in_err-read_kind.field-0.0 c.in_err-read_kind.ensures.named)

pub returns-in_err-read_kind-clause-stopped : goal.returns-in_err-read_kind-clause-stopped
returns-in_err-read_kind-clause-stopped g c =
    let p = err_from_is_err_and c.from_residual.result c.from_residual.ensures.1 in
    let e = c.in_err-read_kind.ensures in
    rw (p.1, p.2)
    (stops_kind c.args.limit c.args.text.now _ _ _ _ _ _ c.in_err-read_kind.field-0.0 e.named
    e.fault e.part e.counted)

pub returns-in-Two-clause-fault : goal.returns-in-Two-clause-fault
returns-in-Two-clause-fault g c =
    old_newer c.args.limit _ _ (rw c.in-Two.is at c.in_ok-read_kind.ensures.read)

pub returns-in-Two-clause-stopped : goal.returns-in-Two-clause-stopped
returns-in-Two-clause-stopped g c =
    stops_newer c.args.limit c.args.text.now _ _ _ _ _ _ _
    (rw c.in-Two.is at c.in_ok-read_kind.ensures.read)

pub returns-in_err-write_front-clause-stopped : goal.returns-in_err-write_front-clause-stopped
returns-in_err-write_front-clause-stopped g c =
    let p =
    err_from_is_err_and c.from_residual-in_err-write_front.result
    c.from_residual-in_err-write_front.ensures.1 in
    rw (p.1, p.2)
    (stops_front c.args.limit c.args.text.now _ _ _ _ _ _ _ _
    (rw c.in-One.is at c.in_ok-read_kind.ensures.read) c.in_err-write_front.ensures.fault
    c.in_ok-read_kind.ensures.counted c.in_err-write_front.ensures.counted)

pub returns-clause-migrated : goal.returns-clause-migrated
returns-clause-migrated g c =
    IfOk-weaker c.move_records.result _ _
    (λ n m. migrates c.args.limit n c.args.text.now _ _ _ _ _ _
    (rw c.in-One.is at c.in_ok-read_kind.ensures.read) c.in_ok-write_front.ensures.ok m)
    c.move_records.ensures.moved

pub returns-clause-fault : goal.returns-clause-fault
returns-clause-fault g c =
    old_fails_all c.args.limit _ _ c.move_records.result
    (rw c.in-One.is at c.in_ok-read_kind.ensures.read) c.move_records.ensures.fault

pub returns-clause-stopped : goal.returns-clause-stopped
returns-clause-stopped g c =
    stops_all c.args.limit c.args.text.now _ _ _ _ _ _ _ _ _ _ _ _ c.move_records.result
    (rw c.in-One.is at c.in_ok-read_kind.ensures.read) c.in_ok-write_front.ensures.ok
    c.in_ok-read_kind.ensures.counted c.in_ok-write_front.ensures.counted
    c.move_records.ensures.stopped

pub returns-in_err-read_kind-clause-gave_wrong : goal.returns-in_err-read_kind-clause-gave_wrong
returns-in_err-read_kind-clause-gave_wrong g c =
    let p = err_from_is_err_and c.from_residual.result c.from_residual.ensures.1 in
    rw (p.1, p.2)
    (kind_wrong c.args.limit _ _ _ c.in_err-read_kind.field-0.0
    c.in_err-read_kind.ensures.gave_wrong)

pub returns-in_err-read_kind-clause-stopped_read : goal.returns-in_err-read_kind-clause-stopped_read
returns-in_err-read_kind-clause-stopped_read g c =
    let p = err_from_is_err_and c.from_residual.result c.from_residual.ensures.1 in
    let e = c.in_err-read_kind.ensures in
    rw (p.1, p.2)
    (kind_stops c.args.limit c.args.text.now _ _ _ _ _ _ _ c.in_err-read_kind.field-0.0 e.named
    e.gave_wrong e.gave_part e.counted)

pub returns-in-Two-clause-gave_wrong : goal.returns-in-Two-clause-gave_wrong
returns-in-Two-clause-gave_wrong g c =
    newer_wrong c.args.limit _ _ _ (rw c.in-Two.is at c.in_ok-read_kind.ensures.gave)

pub returns-in-Two-clause-stopped_read : goal.returns-in-Two-clause-stopped_read
returns-in-Two-clause-stopped_read g c =
    newer_stops c.args.limit c.args.text.now _ _ _ _ _ _ _
    (rw c.in-Two.is at c.in_ok-read_kind.ensures.gave)

pub returns-in_err-write_front-clause-stopped_read :
    goal.returns-in_err-write_front-clause-stopped_read
returns-in_err-write_front-clause-stopped_read g c =
    let p =
    err_from_is_err_and c.from_residual-in_err-write_front.result
    c.from_residual-in_err-write_front.ensures.1 in
    rw (p.1, p.2)
    (front_stops c.args.limit c.args.text.now _ _ _ _ _ _ _ _ _
    (rw c.in-One.is at c.in_ok-read_kind.ensures.gave) c.in_err-write_front.ensures.part
    c.in_ok-read_kind.ensures.counted c.in_err-write_front.ensures.counted)

pub returns-clause-migrated_read : goal.returns-clause-migrated_read
returns-clause-migrated_read g c =
    migrates_all c.args.limit c.args.text.now _ _ _ _ _ _ _ c.move_records.result
    (rw c.in-One.is at c.in_ok-read_kind.ensures.gave) c.in_ok-write_front.ensures.took
    c.move_records.ensures.moved_read

pub returns-clause-gave_wrong : goal.returns-clause-gave_wrong
returns-clause-gave_wrong g c =
    records_wrong c.args.limit _ _ _ _ c.move_records.result
    (rw c.in-One.is at c.in_ok-read_kind.ensures.gave) c.move_records.ensures.gave_wrong

pub returns-clause-stopped_read : goal.returns-clause-stopped_read
returns-clause-stopped_read g c =
    records_stop_all c.args.limit c.args.text.now _ _ _ _ _ _ _ _ _ _ _ _ _ c.move_records.result
    (rw c.in-One.is at c.in_ok-read_kind.ensures.gave) c.in_ok-write_front.ensures.took
    c.in_ok-read_kind.ensures.counted c.in_ok-write_front.ensures.counted
    c.move_records.ensures.stopped_read

pub returns-in_err-write_front-clause-gave_wrong : goal.returns-in_err-write_front-clause-gave_wrong
returns-in_err-write_front-clause-gave_wrong g c =
    let p =
    err_from_is_err_and c.from_residual-in_err-write_front.result
    c.from_residual-in_err-write_front.ensures.1 in
    rw (p.1, p.2)
    (device_wrong (old_at c.args.limit) (new_text c.args.limit c.args.text.now) _ _ _ _ _ _ _ _ _
    Device tt
    (front_stops c.args.limit c.args.text.now _ _ _ _ _ _ _ _ _
    (rw c.in-One.is at c.in_ok-read_kind.ensures.gave) c.in_err-write_front.ensures.part
    c.in_ok-read_kind.ensures.counted c.in_err-write_front.ensures.counted))
