use Rattle.std.proofs.Common.{ap, subst, sym}
use Rattle.side_by_side.specs.Side.{ReadsReader}
use Rattle.side_by_side.specs.declared.going.Going.{Going}
use Rattle.side_by_side.proofs.Reading.{found, found_fault, not_ended, unfailed_cases}
use Rattle.side_by_side.proofs.side.read_reader.Goals as goal
use Rattle.run_outcome.proofs.Blaming.{reading_blames}

pub returns-in-Ok-clause-read : goal.returns-in-Ok-clause-read
returns-in-Ok-clause-read g c =
    let old = c.args.reader.now in
    let new = c.advance.new.self in
    let is = c.in-Ok.ensures in
    subst (λ (w : Going). ReadsReader c.args.steering w old new) (sym c.going_found.ensures)
    (found c.args.steering c.in-Ok.is_one c.octets.result.now old new (record {
      ended = λ at. (is.ended at).0;
      failed = λ f at. (is.failed f at).0;
    }) is.found c.octets.ensures)

pub returns-in-Ok-clause-device : goal.returns-in-Ok-clause-device
returns-in-Ok-clause-device g c =
    λ none.
    unfailed_cases c.args.reader.now.standing none c.in-Ok.ensures.device
    (λ at. ap g.S.ByteSource.failures (c.in-Ok.ensures.ended at).1)

pub returns-in-Err-clause-fault : goal.returns-in-Err-clause-fault
returns-in-Err-clause-fault g c =
    let is = c.in-Err.ensures in
    found_fault c.in-Err.fault c.args.reader.now c.advance.new.self (record {
      ended = λ at. (is.ended at).0;
      failed = λ f at. (is.failed f at).0;
    }) is.fault

pub returns-in-Err-clause-device : goal.returns-in-Err-clause-device
returns-in-Err-clause-device g c =
    λ none.
    let is = c.in-Err.ensures in
    let failures = g.S.ByteSource.failures in
    let old = c.args.reader.now in
    unfailed_cases old.standing none
    (λ at. reading_blames c.in-Err.fault (failures old.source)
    (failures c.advance.new.self.source) (is.device at))
    (λ at. absurd (not_ended c.in-Err.fault old (record {
      ended = λ now. (is.ended now).0;
      failed = λ f now. (is.failed f now).0;
    }) at))
