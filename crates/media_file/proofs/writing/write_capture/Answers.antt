use Rattle.std.proofs.Common.{ℕ, ◌∙◌, subst}
use Rattle.std.proofs.KnownBytes.{Appends-trans}
use Rattle.st_format.specs.Device.{CountsOne}
use Rattle.std.proofs.Common.{map}
use Rattle.std.proofs.lemmas.Result.{err_from_is_err_and}
use Rattle.media_file.specs.Capture.{entry_seen}
use Rattle.media_file.specs.declared.front.Version.TheVariants.{Two}
use Rattle.media_file.specs.Fronts.{front_text}
use Rattle.media_file.specs.Records.{records_text}
use Rattle.media_file.proofs.Written.{part_first, part_then, prefix_first, prefix_then, took_both}
use Rattle.media_file.proofs.writing.write_capture.Goals as goal

pub returns-in_err-write_front-clause-fault : goal.returns-in_err-write_front-clause-fault
returns-in_err-write_front-clause-fault g c =
    let p = err_from_is_err_and c.from_residual.result c.from_residual.ensures.1 in
    rw (p.1, p.2) (
      tt,
      prefix_first _ _ (front_text Two c.args.text.now)
          (records_text (map entry_seen c.args.records.now)) c.in_err-write_front.ensures.fault,
    )

pub returns-in_err-write_records-clause-fault : goal.returns-in_err-write_records-clause-fault
returns-in_err-write_records-clause-fault g c =
    let p =
    err_from_is_err_and c.from_residual-in_err-write_records.result
    c.from_residual-in_err-write_records.ensures.1 in
    rw (p.1, p.2) (
      tt,
      prefix_then _ _ _ (front_text Two c.args.text.now)
          (records_text (map entry_seen c.args.records.now)) c.in_ok-write_front.ensures.ok
          c.in_err-write_records.ensures.fault,
    )

pub write_front-requires : goal.write_front-requires
write_front-requires g c = c.requires.text

pub write_records-requires : goal.write_records-requires
write_records-requires g c = c.requires.records

pub returns-in_err-write_front-clause-ok : goal.returns-in_err-write_front-clause-ok
returns-in_err-write_front-clause-ok g c =
    let p =
    err_from_is_err_and c.from_residual.result c.from_residual.ensures.1 in
    rw (p.1) tt

pub returns-in_err-write_records-clause-ok : goal.returns-in_err-write_records-clause-ok
returns-in_err-write_records-clause-ok g c =
    let p =
    err_from_is_err_and c.from_residual-in_err-write_records.result
    c.from_residual-in_err-write_records.ensures.1 in
    rw (p.1) tt

pub returns-in_err-write_front-clause-counted : goal.returns-in_err-write_front-clause-counted
returns-in_err-write_front-clause-counted g c =
    let p =
    err_from_is_err_and c.from_residual.result c.from_residual.ensures.1 in
    rw (p.1, p.2) c.in_err-write_front.ensures.counted

pub returns-in_err-write_records-clause-counted : goal.returns-in_err-write_records-clause-counted
returns-in_err-write_records-clause-counted g c =
    let p =
    err_from_is_err_and c.from_residual-in_err-write_records.result
    c.from_residual-in_err-write_records.ensures.1 in
    rw (p.1, p.2)
    (subst (λ (n : ℕ). CountsOne n (g.K.ByteSink.failures c.write_records.new.sink))
    c.in_ok-write_front.ensures.counted c.in_err-write_records.ensures.counted)

pub returns-clause-ok : goal.returns-clause-ok
returns-clause-ok g c =
    Appends-trans _ _ _ (front_text Two c.args.text.now)
    (records_text (map entry_seen c.args.records.now)) c.in_ok-write_front.ensures.ok
    c.in_ok-write_records.ensures.ok

pub returns-clause-counted : goal.returns-clause-counted
returns-clause-counted g c =
    c.in_ok-write_records.ensures.counted ∙ c.in_ok-write_front.ensures.counted

pub returns-in_err-write_front-clause-part : goal.returns-in_err-write_front-clause-part
returns-in_err-write_front-clause-part g c =
    let p = err_from_is_err_and c.from_residual.result c.from_residual.ensures.1 in
    rw (p.1)
    (part_first _ _ (front_text Two c.args.text.now)
    (records_text (map entry_seen c.args.records.now)) c.in_err-write_front.ensures.part)

pub returns-in_err-write_records-clause-part : goal.returns-in_err-write_records-clause-part
returns-in_err-write_records-clause-part g c =
    let p =
    err_from_is_err_and c.from_residual-in_err-write_records.result
    c.from_residual-in_err-write_records.ensures.1 in
    rw (p.1)
    (part_then _ _ _ (front_text Two c.args.text.now)
    (records_text (map entry_seen c.args.records.now)) c.in_ok-write_front.ensures.took
    c.in_err-write_records.ensures.part)

pub returns-clause-took : goal.returns-clause-took
returns-clause-took g c =
    took_both _ _ _ (front_text Two c.args.text.now)
    (records_text (map entry_seen c.args.records.now)) c.in_ok-write_front.ensures.took
    c.in_ok-write_records.ensures.took
