use Rattle.std.proofs.Common.{◌≡◌, ℕ, List, length, take, drop, Option, Some, Result, Ok, sym}
use Rattle.std.proofs.Common.{ap, ◌∙◌, arith}
use Rattle.std.proofs.lemmas.Bool.{eqb-false, eqb-true}
use Rattle.pcap_file.specs.Blocks.{option_octets}
use Rattle.pcap_file.specs.Orders.{short_at}
use Rattle.pcap_file.specs.declared.fault.RecordingFault.{RecordingFault}
use Rattle.pcap_file.proofs.Options.{at_cut, at_end, at_found, at_none, at_other, at_short}
use Rattle.pcap_file.proofs.Options.{value_in}
use Rattle.pcap_file.proofs.blocks.option_of.Goals as goal

pub returns-then-rest-lt4-clause-exact : goal.returns-then-rest-lt4-clause-exact
returns-then-rest-lt4-clause-exact c =
    let l = c.loop-rest in
    let some : length l.rest.now ≡ 0 → ⊥ =
    eqb-false (length l.rest.now) 0 (sym c.is_empty.ensures ∙ c.loop-rest-test.true) in
    sym l.invariant
    ∙ at_short c.args.order c.args.code l.rest.now (omega arith) (omega (arith, c.if-rest-lt4.true))

pub returns-then-found-eq0-clause-exact : goal.returns-then-found-eq0-clause-exact
returns-then-found-eq0-clause-exact c =
    let l = c.loop-rest in
    sym l.invariant
    ∙ at_end c.args.order c.args.code l.rest.now (omega (arith, c.if-rest-lt4.false))
    (sym c.short_at-found.ensures ∙ c.if-found-eq0.true)

pub returns-then-rest-whole-clause-exact : goal.returns-then-rest-whole-clause-exact
returns-then-rest-whole-clause-exact c =
    let l = c.loop-rest in
    sym l.invariant
    ∙ at_cut c.args.order c.args.code l.rest.now (omega (arith, c.if-rest-lt4.false))
    (λ e. c.if-found-eq0.false (c.short_at-found.ensures ∙ e))
    (omega (arith, c.if-rest-whole.true, ap option_octets c.short_at-count.ensures))

pub returns-then-found-code-clause-exact : goal.returns-then-found-code-clause-exact
returns-then-found-code-clause-exact c =
    let l = c.loop-rest in
    let n : ℕ = short_at c.args.order 2 l.rest.now in
    let value : take n (drop 4 l.rest.now) ≡ c.split_at-then-found-code-2.result.0.now =
    sym (value_in l.rest.now n)
    ∙ ap (λ (k : ℕ). take k (drop 4 (take (option_octets k) l.rest.now)))
    (sym c.short_at-count.ensures)
    ∙ ap (λ (x : List ℕ). take c.short_at-count.result (drop 4 x)) (sym c.split_at.ensures.front)
    ∙ ap (λ (x : List ℕ). take c.short_at-count.result x)
    (sym c.split_at-then-found-code.ensures.back)
    ∙ sym c.split_at-then-found-code-2.ensures.front in
    sym l.invariant
    ∙ at_found c.args.order c.args.code l.rest.now (omega (arith, c.if-rest-lt4.false))
    (λ e. c.if-found-eq0.false (c.short_at-found.ensures ∙ e))
    (omega (arith, c.if-rest-whole.false, ap option_octets c.short_at-count.ensures))
    (sym c.short_at-found.ensures ∙ c.if-found-code.true)
    ∙ ap (λ (x : List ℕ). let r : Result (Option (List ℕ)) RecordingFault = Ok (Some x) in r) value

pub loop-rest-preserved : goal.loop-rest-preserved
loop-rest-preserved c =
    let l = c.loop-rest in
    at_other c.args.order c.args.code l.rest.now c.split_at.result.1.now
    (omega (arith, c.if-rest-lt4.false))
    (λ e. c.if-found-eq0.false (c.short_at-found.ensures ∙ e))
    (omega (arith, c.if-rest-whole.false, ap option_octets c.short_at-count.ensures))
    (λ e. c.if-found-code.false (c.short_at-found.ensures ∙ e))
    (c.split_at.ensures.back
    ∙ ap (λ (k : ℕ). drop (option_octets k) l.rest.now) c.short_at-count.ensures)
    ∙ l.invariant

pub returns-clause-exact : goal.returns-clause-exact
returns-clause-exact c =
    let l = c.loop-rest in
    sym l.invariant
    ∙ at_none c.args.order c.args.code l.rest.now
    (eqb-true (length l.rest.now) 0 (sym c.is_empty.ensures ∙ c.loop-rest-test.false))
