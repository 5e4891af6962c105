use Rattle.std.proofs.Common.{◌∙◌, sym, subst, arith}
use Rattle.st_format.specs.Reading.{Gives}
use Rattle.pcap_file.proofs.Chains.{code_bad, code_last, code_more}
use Rattle.pcap_file.proofs.ip.carried.Goals as goal

pub returns-then-rest-lt2 : goal.returns-then-rest-lt2
returns-then-rest-lt2 c =
    let l = c.loop-rest in
    sym l.invariant
    ∙ code_bad l.next l.rest.now (sym c.is_passed.ensures ∙ c.loop-rest-test.true)
    (omega (arith, c.if-rest-lt2.true))

pub returns-then-rest-count : goal.returns-then-rest-count
returns-then-rest-count c =
    let l = c.loop-rest in
    sym l.invariant
    ∙ code_bad l.next l.rest.now (sym c.is_passed.ensures ∙ c.loop-rest-test.true)
    (omega (arith, c.if-rest-count.true))

pub loop-rest-preserved : goal.loop-rest-preserved
loop-rest-preserved c =
    let l = c.loop-rest in
    code_more l.next l.rest.now c.split_at.result.1.now
    (sym c.is_passed.ensures ∙ c.loop-rest-test.true) (omega (arith, c.if-rest-count.false))
    c.split_at.ensures.back
    ∙ l.invariant

pub returns : goal.returns
returns c =
    let l = c.loop-rest in
    subst (Gives (λ x. x.now) c.ending.result)
    (sym (code_last l.next l.rest.now (sym c.is_passed.ensures ∙ c.loop-rest-test.false))
    ∙ l.invariant) c.ending.ensures
