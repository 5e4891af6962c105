use Rattle.std.proofs.Common.{◌≡◌, ◌∙◌, ℕ, List, ap, arith, length, rules}
use Rattle.std.proofs.lemmas.Result.{err_from_is_err_and}
use Rattle.run_outcome.specs.Text.{GivesText}
use Rattle.st_format.proofs.Histories.{since_is}
use Rattle.st_format.specs.History.{IsRead}
use Rattle.capture_engines.proofs.CaptureRuns.{read_all}
use Rattle.capture_engines.proofs.receiving.read_given.Goals as goal

pub returns-in-Some-clause-said : goal.returns-in-Some-clause-said
returns-in-Some-clause-said g c =
    let told = g.S.ByteSource in
    let said = c.in-Some.text.items in
    let old = told.gave c.args.source.now in
    let new = told.gave c.read_text.new.source in
    let over = told.ended c.read_text.new.source in
    let gives : GivesText 16777216 old new over said = search rules in
    let is : (octets : List ℕ) → IsRead old new over octets → octets ≡ said =
    λ octets read. read_all old new octets over read gives.ended
    ∙ since_is old new said gives.given in
    (is, λ octets read. omega (arith, ap length (is octets read), gives.few))

pub returns-in_err-text-clause-memory : goal.returns-in_err-text-clause-memory
returns-in_err-text-clause-memory g c =
    let p = err_from_is_err_and c.from_residual.result c.from_residual.ensures.1 in
    rw (p.1, p.2) c.in_err-text.ensures.memory
