use Rattle.std.proofs.lemmas.List.{length-take-le}
use Rattle.media_file.specs.Faults.{CountsFault}
use Rattle.std.proofs.lemmas.List.{map-append}
use Rattle.std.proofs.Common.{ℕ, ◌-◌, ◌≡◌, ◌∙◌, ap, sym, subst, List, ◌++◌, ◌∷◌, [], map, arith}
use Rattle.std.proofs.lemmas.Result.{err_from_is_err_and}
use Rattle.media_file.specs.Capture.{entry_seen}
use Rattle.media_file.specs.Records.{Entry, entry_of, rest_text}
use Rattle.std.specs.Prelude.{option_to_list}
use Rattle.media_file.proofs.Gave.{fault_device}
use Rattle.media_file.proofs.GaveLoops.{GoesGave, fails_device, fails_memory, gave_end, no_record}
use Rattle.media_file.proofs.GaveLoops.{gave_many, gave_record}
use Rattle.media_file.proofs.GaveLoops.{gave_wrong}
use Rattle.media_file.proofs.Loops.{GoesOn, goes_on_end, goes_on_fault, goes_on_many}
use Rattle.media_file.proofs.Loops.{goes_on_more, none_left, one_less}
use Rattle.media_file.proofs.capture.read_records.Goals as goal

pub returns-then-left-eq0-clause-fault : goal.returns-then-left-eq0-clause-fault
returns-then-left-eq0-clause-fault g c =
    let l = c.loop-records in
    goes_on_many c.args.limit _ _ _ (map entry_seen l.records.items) c.in-Some.first
    (rw c.if-left-eq0.true at l.invariant.goes) (rw c.in-Some.is at c.in_ok-first.ensures.given)

pub returns-in_err-head-clause-fault : goal.returns-in_err-head-clause-fault
returns-in_err-head-clause-fault g c =
    let l = c.loop-records in
    let p =
    err_from_is_err_and c.from_residual-in_err-head.result
    c.from_residual-in_err-head.ensures.1 in
    rw (p.1, p.2)
    (goes_on_fault c.args.limit _ _ _ _
    (map entry_seen l.records.items) c.in-Some.first c.in_err-head.field-0.0
    (one_less c.args.limit _ _ _ _ c.if-left-eq0.false l.invariant.goes)
    (rw c.in-Some.is at c.in_ok-first.ensures.given) c.in_err-head.ensures.fault)

pub loop-records-preserved : goal.loop-records-preserved
loop-records-preserved g c =
    let e : Entry = entry_of c.in_ok-head.head c.record_rest.new.buf in
    let first : List Entry = map entry_seen c.loop-records.records.items in
    let pushed : map entry_seen c.push.new.self.items ≡ first ++ e ∷ [] =
    ap (map entry_seen) c.in_ok-push.ensures.items
    ∙ map-append entry_seen c.loop-records.records.items _
    ∙ ap
    (λ (xs : List ℕ). let r : Entry =
    record { path = e.path; moment = e.moment; octets = xs } in first ++ r
    ∷ []) c.in_ok-octets.ensures.items in
    record {
      goes =
          subst (λ (es : List Entry). GoesOn c.args.limit
          (g.S.ByteSource.to_give c.args.source.now) (c.loop-records.left - 1) es
          (g.S.ByteSource.to_give c.record_rest.new.source)) (sym pushed)
          (goes_on_more c.args.limit _ _ _ _ _ first c.in-Some.first e
          (one_less c.args.limit _ _ _ _ c.if-left-eq0.false c.loop-records.invariant.goes)
          (rw c.in-Some.is at c.in_ok-first.ensures.given) c.in_ok-head.ensures.read);
      gave =
          subst (λ (es : List Entry). GoesGave c.args.limit
          (g.S.ByteSource.gave c.args.source.now) (c.loop-records.left - 1) es
          (g.S.ByteSource.gave c.record_rest.new.source)) (sym pushed)
          (gave_record c.args.limit c.loop-records.left _ _ _ _ first c.in-Some.first e
          c.if-left-eq0.false c.loop-records.invariant.gave
          (rw c.in-Some.is at c.in_ok-first.ensures.gave) c.in_ok-head.ensures.gave
          c.in_ok-head.ensures.read.fits c.in_ok-head.ensures.read.first_is);
      failures =
          c.in_ok-head.ensures.counted ∙ c.in_ok-first.ensures.counted
          ∙ c.loop-records.invariant.failures;
      room = omega (arith, c.in_ok-head.ensures.room, c.loop-records.invariant.room);
    }

pub returns-clause-read : goal.returns-clause-read
returns-clause-read g c =
    let none = none_left c.in_ok-first.field-0 c.in_default.not-Some in
    goes_on_end c.args.limit _ _ _ _
    (map entry_seen c.loop-records.records.items) c.loop-records.invariant.goes
    (rw none at c.in_ok-first.ensures.given) (c.in_ok-first.ensures.end none)

pub returns-in_err-first-clause-counted : goal.returns-in_err-first-clause-counted
returns-in_err-first-clause-counted g c =
    let p =
    err_from_is_err_and c.from_residual.result c.from_residual.ensures.1 in
    rw (p.1, p.2)
    (subst
    (λ (n : ℕ). CountsFault c.in_err-first.field-0.0 n
    (g.S.ByteSource.failures c.record_begins.new.source))
    c.loop-records.invariant.failures c.in_err-first.ensures.counted)

pub returns-then-left-eq0-clause-counted : goal.returns-then-left-eq0-clause-counted
returns-then-left-eq0-clause-counted g c =
    c.in_ok-first.ensures.counted ∙ c.loop-records.invariant.failures

pub record_rest-requires : goal.record_rest-requires
record_rest-requires g c = c.loop-records.invariant.room

pub returns-in_err-head-clause-counted : goal.returns-in_err-head-clause-counted
returns-in_err-head-clause-counted g c =
    let p =
    err_from_is_err_and c.from_residual-in_err-head.result c.from_residual-in_err-head.ensures.1 in
    rw (p.1, p.2)
    (subst
    (λ (n : ℕ). CountsFault c.in_err-head.field-0.0 n
    (g.S.ByteSource.failures c.record_rest.new.source))
    (c.in_ok-first.ensures.counted ∙ c.loop-records.invariant.failures)
    c.in_err-head.ensures.counted)

pub slice_bounds-from_slice-end : goal.slice_bounds-from_slice-end
slice_bounds-from_slice-end g c =
    omega (
      arith,
      c.in_ok-head.ensures.within,
      c.record_rest.ensures.room,
      c.loop-records.invariant.room,
    )

pub slice_bounds-from_slice-end-in-Some : goal.slice_bounds-from_slice-end-in-Some
slice_bounds-from_slice-end-in-Some g c =
    sym (length-take-le c.in_ok-head.head.length c.record_rest.new.buf
    (omega (
      arith,
      c.in_ok-head.ensures.within,
      c.record_rest.ensures.room,
      c.loop-records.invariant.room,
    )))

pub returns-clause-counted : goal.returns-clause-counted
returns-clause-counted g c = c.in_ok-first.ensures.counted ∙ c.loop-records.invariant.failures

pub returns-then-left-eq0-clause-gave_wrong : goal.returns-then-left-eq0-clause-gave_wrong
returns-then-left-eq0-clause-gave_wrong g c =
    let l = c.loop-records in
    gave_many c.args.limit _ _ _ (map entry_seen l.records.items) c.in-Some.first _
    (rw c.if-left-eq0.true at l.invariant.gave) (rw c.in-Some.is at c.in_ok-first.ensures.gave)

pub returns-in_err-head-clause-gave_wrong : goal.returns-in_err-head-clause-gave_wrong
returns-in_err-head-clause-gave_wrong g c =
    let l = c.loop-records in
    let e = c.in_err-head.ensures in
    let p =
    err_from_is_err_and c.from_residual-in_err-head.result
    c.from_residual-in_err-head.ensures.1 in
    rw (p.1, p.2)
    (gave_wrong c.args.limit l.left _ _ _ _ (map entry_seen l.records.items) c.in-Some.first
    c.in_err-head.field-0.0 _ _ _ c.if-left-eq0.false l.invariant.gave
    (rw c.in-Some.is at c.in_ok-first.ensures.gave) e.fault.named e.wrong e.cut)

pub returns-clause-gave : goal.returns-clause-gave
returns-clause-gave g c =
    let none = none_left c.in_ok-first.field-0 c.in_default.not-Some in
    gave_end c.args.limit c.loop-records.left _ _ _
    (map entry_seen c.loop-records.records.items) _ c.loop-records.invariant.gave
    (rw none at c.in_ok-first.ensures.gave) (c.in_ok-first.ensures.ended none)

-- the device failed before a record

pub returns-in_err-first-clause-read : goal.returns-in_err-first-clause-read
returns-in_err-first-clause-read g c =
    let p = err_from_is_err_and c.from_residual.result c.from_residual.ensures.1 in
    rw p.1 tt

pub returns-in_err-first-clause-gave : goal.returns-in_err-first-clause-gave
returns-in_err-first-clause-gave g c =
    let p = err_from_is_err_and c.from_residual.result c.from_residual.ensures.1 in
    rw p.1 tt

pub returns-in_err-first-clause-fault : goal.returns-in_err-first-clause-fault
returns-in_err-first-clause-fault g c =
    let p = err_from_is_err_and c.from_residual.result c.from_residual.ensures.1 in
    rw (p.1, p.2) (fails_device _ _ c.in_err-first.field-0.0 c.in_err-first.ensures.fault.0)

pub returns-in_err-first-clause-gave_wrong : goal.returns-in_err-first-clause-gave_wrong
returns-in_err-first-clause-gave_wrong g c =
    let p = err_from_is_err_and c.from_residual.result c.from_residual.ensures.1 in
    let so_far = c.loop-records.invariant.gave in
    rw (p.1, p.2)
    (fault_device _ _ _ so_far.part _ c.in_err-first.field-0.0 c.in_err-first.ensures.fault.0
    (c.in_err-first.ensures.kept ∙ so_far.grown))

-- a record is at fault

pub returns-in_err-head-clause-read : goal.returns-in_err-head-clause-read
returns-in_err-head-clause-read g c =
    let p =
    err_from_is_err_and c.from_residual-in_err-head.result
    c.from_residual-in_err-head.ensures.1 in
    rw p.1 tt

pub returns-in_err-head-clause-gave : goal.returns-in_err-head-clause-gave
returns-in_err-head-clause-gave g c =
    let p =
    err_from_is_err_and c.from_residual-in_err-head.result
    c.from_residual-in_err-head.ensures.1 in
    rw p.1 tt

-- the memory was refused

pub returns-in_err-octets-clause-read : goal.returns-in_err-octets-clause-read
returns-in_err-octets-clause-read g c =
    let p =
    err_from_is_err_and c.from_residual-in_err-octets.result
    c.from_residual-in_err-octets.ensures.1 in
    rw p.1 tt

pub returns-in_err-octets-clause-gave : goal.returns-in_err-octets-clause-gave
returns-in_err-octets-clause-gave g c =
    let p =
    err_from_is_err_and c.from_residual-in_err-octets.result
    c.from_residual-in_err-octets.ensures.1 in
    rw p.1 tt

pub returns-in_err-octets-clause-fault : goal.returns-in_err-octets-clause-fault
returns-in_err-octets-clause-fault g c =
    let p =
    err_from_is_err_and c.from_residual-in_err-octets.result
    c.from_residual-in_err-octets.ensures.1 in
    rw (p.1, p.2) (fails_memory _ _)

pub returns-in_err-octets-clause-gave_wrong : goal.returns-in_err-octets-clause-gave_wrong
returns-in_err-octets-clause-gave_wrong g c =
    let p =
    err_from_is_err_and c.from_residual-in_err-octets.result
    c.from_residual-in_err-octets.ensures.1 in
    rw (p.1, p.2)
    (no_record c.args.limit c.loop-records.left _ _ _ _ (map entry_seen c.loop-records.records.items)
    (option_to_list c.in_ok-first.field-0)
    (rest_text (entry_of c.in_ok-head.head c.record_rest.new.buf)) _
    c.loop-records.invariant.gave c.in_ok-first.ensures.gave c.in_ok-head.ensures.gave)

pub returns-in_err-octets-clause-counted : goal.returns-in_err-octets-clause-counted
returns-in_err-octets-clause-counted g c =
    let p =
    err_from_is_err_and c.from_residual-in_err-octets.result
    c.from_residual-in_err-octets.ensures.1 in
    rw (p.1, p.2)
    (c.in_ok-head.ensures.counted ∙ c.in_ok-first.ensures.counted
    ∙ c.loop-records.invariant.failures)

-- the memory was refused

pub returns-in_err-push-clause-read : goal.returns-in_err-push-clause-read
returns-in_err-push-clause-read g c =
    let p =
    err_from_is_err_and c.from_residual-in_err-push.result
    c.from_residual-in_err-push.ensures.1 in
    rw p.1 tt

pub returns-in_err-push-clause-gave : goal.returns-in_err-push-clause-gave
returns-in_err-push-clause-gave g c =
    let p =
    err_from_is_err_and c.from_residual-in_err-push.result
    c.from_residual-in_err-push.ensures.1 in
    rw p.1 tt

pub returns-in_err-push-clause-fault : goal.returns-in_err-push-clause-fault
returns-in_err-push-clause-fault g c =
    let p =
    err_from_is_err_and c.from_residual-in_err-push.result
    c.from_residual-in_err-push.ensures.1 in
    rw (p.1, p.2) (fails_memory _ _)

pub returns-in_err-push-clause-gave_wrong : goal.returns-in_err-push-clause-gave_wrong
returns-in_err-push-clause-gave_wrong g c =
    let p =
    err_from_is_err_and c.from_residual-in_err-push.result
    c.from_residual-in_err-push.ensures.1 in
    rw (p.1, p.2)
    (no_record c.args.limit c.loop-records.left _ _ _ _ (map entry_seen c.loop-records.records.items)
    (option_to_list c.in_ok-first.field-0)
    (rest_text (entry_of c.in_ok-head.head c.record_rest.new.buf)) _
    c.loop-records.invariant.gave c.in_ok-first.ensures.gave c.in_ok-head.ensures.gave)

pub returns-in_err-push-clause-counted : goal.returns-in_err-push-clause-counted
returns-in_err-push-clause-counted g c =
    let p =
    err_from_is_err_and c.from_residual-in_err-push.result
    c.from_residual-in_err-push.ensures.1 in
    rw (p.1, p.2)
    (c.in_ok-head.ensures.counted ∙ c.in_ok-first.ensures.counted
    ∙ c.loop-records.invariant.failures)
