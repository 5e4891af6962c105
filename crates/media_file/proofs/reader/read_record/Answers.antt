use Rattle.std.proofs.Common.{ℕ, [], ◌∷◌, ◌++◌, ap, ◌∙◌}
use Rattle.std.proofs.lemmas.Result.{err_from_is_err_and}
use Rattle.media_file.specs.Records.{Entry, entry_of, rest_text}
use Rattle.media_file.proofs.Givings.{none_behind, none_first}
use Rattle.media_file.proofs.Rests.{fails_from}
use Rattle.media_file.proofs.reader.read_record.Goals as goal
use Rattle.st_format.proofs.Gave.{grew_twice}

pub returns-in_err-record_rest-clause-fault : goal.returns-in_err-record_rest-clause-fault
returns-in_err-record_rest-clause-fault g c =
    let p =
    err_from_is_err_and c.from_residual-in_err-record_rest.result
    c.from_residual-in_err-record_rest.ensures.1 in
    rw (p.1, p.2)
    (fails_from c.in_err-record_rest.field-0.0 _ _ _
    (rw c.in-Some.is at c.in_ok-first.ensures.given) c.in_err-record_rest.ensures.fault)

pub returns-in_err-record_rest-clause-wrong : goal.returns-in_err-record_rest-clause-wrong
returns-in_err-record_rest-clause-wrong g c =
    let p =
    err_from_is_err_and c.from_residual-in_err-record_rest.result
    c.from_residual-in_err-record_rest.ensures.1 in
    rw (p.1, p.2)
    (none_behind c.in_err-record_rest.field-0.0 _ _ _ _ _ _ _
    (rw c.in-Some.is at c.in_ok-first.ensures.given)
    (rw c.in-Some.is at c.in_ok-first.ensures.gave) c.in_err-record_rest.ensures.wrong)

pub returns-in_err-first-clause-wrong : goal.returns-in_err-first-clause-wrong
returns-in_err-first-clause-wrong g c =
    let p = err_from_is_err_and c.from_residual.result c.from_residual.ensures.1 in
    let fault = c.in_err-first.ensures.fault in
    rw (p.1, p.2)
    (none_first c.in_err-first.field-0.0 _ _ _ _ fault.0 fault.1 c.in_err-first.ensures.kept)

pub returns-clause-gave : goal.returns-clause-gave
returns-clause-gave g c =
    let told = g.S.ByteSource in
    let e : Entry = entry_of c.in_ok-record_rest.field-0 c.record_rest.new.buf in
    grew_twice (told.gave c.args.source.now) (told.gave c.record_begins.new.source)
    (told.gave c.record_rest.new.source) (c.in-Some.first ∷ []) (rest_text e)
    (rw c.in-Some.is at c.in_ok-first.ensures.gave) c.in_ok-record_rest.ensures.gave
    ∙ ap (λ (k : ℕ). told.gave c.args.source.now ++ k ∷ rest_text e)
    c.in_ok-record_rest.ensures.read.first_is
