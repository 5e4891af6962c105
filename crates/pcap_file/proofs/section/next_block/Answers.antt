use Rattle.std.proofs.Common.{Bool, length, sym, ◌∙◌, subst}
use Rattle.std.proofs.lemmas.Result.{err_from_is_err_and}
use Rattle.st_format.specs.Given.{GaveNext, Takes}
use Rattle.pcap_file.specs.NgReading.{front_at, front_in}
use Rattle.pcap_file.specs.NgSteps.{known}
use Rattle.pcap_file.proofs.Steps.{step_cut, step_end, step_other, step_other_fails, step_section}
use Rattle.pcap_file.proofs.Steps.{step_section_fails}
use Rattle.std.proofs.Common.{None, Some, Ok, Err}
use Rattle.pcap_file.specs.NgSteps.{other_step, section_step, step_at, step_seen}
use Rattle.pcap_file.proofs.Gave.{fault_tail, gave_tail, whole_one}
use Rattle.pcap_file.proofs.Steps.{gave_goes_on}
use Rattle.pcap_file.proofs.section.next_block.Goals as goal
use Rattle.st_format.proofs.Gave.{fault_one}
use Rattle.pcap_file.specs.Fields.{recording_fault_origin}

pub returns-in_err-read_front-clause-fault : goal.returns-in_err-read_front-clause-fault
returns-in_err-read_front-clause-fault g c =
    let p = err_from_is_err_and c.from_residual.result c.from_residual.ensures.1 in
    rw (p.1, p.2)
    (step_cut (length c.args.buf.now) (known c.args.section.now) _ c.in_err-read_front.field-0.0
    c.in_err-read_front.ensures.fault)

pub returns-then-not-branch-clause-read : goal.returns-then-not-branch-clause-read
returns-then-not-branch-clause-read g c =
    step_end (length c.args.buf.now) (known c.args.section.now) _ _
    (subst (λ (b : Bool). Takes front_at (g.S.ByteSource.to_give c.args.source.now)
    (g.S.ByteSource.to_give c.read_front.new.source) (front_in b c.read_front.new.front))
    c.if-not-branch.true c.in_ok-read_front.ensures.read)

pub returns-then-long_at-eq-SECTION-clause-read : goal.returns-then-long_at-eq-SECTION-clause-read
returns-then-long_at-eq-SECTION-clause-read g c =
    step_section (length c.args.buf.now) (known c.args.section.now) c.read_front.new.front _ _ _
    c.next_section.new.buf (known c.next_section.new.section) c.next_section.result
    (sym c.long_at.ensures ∙ c.if-long_at-eq-SECTION.true)
    (subst (λ (b : Bool). Takes front_at (g.S.ByteSource.to_give c.args.source.now)
    (g.S.ByteSource.to_give c.read_front.new.source) (front_in b c.read_front.new.front))
    c.if-not-branch.false c.in_ok-read_front.ensures.read) c.next_section.ensures.read

pub returns-then-long_at-eq-SECTION-clause-fault : goal.returns-then-long_at-eq-SECTION-clause-fault
returns-then-long_at-eq-SECTION-clause-fault g c =
    step_section_fails (length c.args.buf.now) (known c.args.section.now) c.read_front.new.front _
    _ c.next_section.result (sym c.long_at.ensures ∙ c.if-long_at-eq-SECTION.true)
    (subst (λ (b : Bool). Takes front_at (g.S.ByteSource.to_give c.args.source.now)
    (g.S.ByteSource.to_give c.read_front.new.source) (front_in b c.read_front.new.front))
    c.if-not-branch.false c.in_ok-read_front.ensures.read) c.next_section.ensures.fault

pub returns-clause-read : goal.returns-clause-read
returns-clause-read g c =
    step_other (length c.args.buf.now) (known c.args.section.now) c.read_front.new.front _ _ _
    c.next_other.new.buf (known c.next_other.new.section) c.next_other.result
    (λ e. c.if-long_at-eq-SECTION.false (c.long_at.ensures ∙ e))
    (subst (λ (b : Bool). Takes front_at (g.S.ByteSource.to_give c.args.source.now)
    (g.S.ByteSource.to_give c.read_front.new.source) (front_in b c.read_front.new.front))
    c.if-not-branch.false c.in_ok-read_front.ensures.read) c.next_other.ensures.read

pub returns-clause-fault : goal.returns-clause-fault
returns-clause-fault g c =
    step_other_fails (length c.args.buf.now) (known c.args.section.now) c.read_front.new.front _ _
    c.next_other.result (λ e. c.if-long_at-eq-SECTION.false (c.long_at.ensures ∙ e))
    (subst (λ (b : Bool). Takes front_at (g.S.ByteSource.to_give c.args.source.now)
    (g.S.ByteSource.to_give c.read_front.new.source) (front_in b c.read_front.new.front))
    c.if-not-branch.false c.in_ok-read_front.ensures.read) c.next_other.ensures.fault

pub returns-in_err-read_front-clause-gave_wrong : goal.returns-in_err-read_front-clause-gave_wrong
returns-in_err-read_front-clause-gave_wrong g c =
    let p = err_from_is_err_and c.from_residual.result c.from_residual.ensures.1 in
    rw (p.1, p.2)
    (fault_one recording_fault_origin front_at
    (step_at (length c.args.buf.now) (known c.args.section.now)) _ _ _
    c.in_err-read_front.field-0.0
    (λ was q. step_cut (length c.args.buf.now) (known c.args.section.now) was
    c.in_err-read_front.field-0.0 q) c.in_err-read_front.ensures.gave_wrong)

pub returns-then-not-branch-clause-gave : goal.returns-then-not-branch-clause-gave
returns-then-not-branch-clause-gave g c =
    whole_one front_at (step_at (length c.args.buf.now) (known c.args.section.now)) None
    (known c.args.section.now, None) _ _ _
    (λ was left q. step_end (length c.args.buf.now) (known c.args.section.now) was left q)
    (subst (λ (b : Bool). GaveNext front_at (g.S.ByteSource.gave c.args.source.now)
    (g.S.ByteSource.gave c.read_front.new.source) (g.S.ByteSource.ended c.read_front.new.source)
    (front_in b c.read_front.new.front)) c.if-not-branch.true c.in_ok-read_front.ensures.gave)

pub returns-then-long_at-eq-SECTION-clause-gave : goal.returns-then-long_at-eq-SECTION-clause-gave
returns-then-long_at-eq-SECTION-clause-gave g c =
    let k = known c.next_section.new.section in
    let buf = c.next_section.new.buf in
    let front = c.read_front.new.front in
    let is = sym c.long_at.ensures ∙ c.if-long_at-eq-SECTION.true in
    gave_goes_on (step_at (length c.args.buf.now) (known c.args.section.now)) k _ _ _ buf
    c.next_section.result c.next_section.ensures.goes_on
    (gave_tail front_at (section_step front) (step_at (length c.args.buf.now)
    (known c.args.section.now))
    (Some front) (λ s. (k, step_seen s buf)) (λ s. (k, step_seen s buf)) _ _ _
    c.next_section.result
    (λ s was mid left p q. step_section (length c.args.buf.now) (known c.args.section.now) front
    was mid left buf k (Ok s) is p q)
    (subst (λ (b : Bool). GaveNext front_at (g.S.ByteSource.gave c.args.source.now)
    (g.S.ByteSource.gave c.read_front.new.source) (g.S.ByteSource.ended c.read_front.new.source)
    (front_in b c.read_front.new.front)) c.if-not-branch.false c.in_ok-read_front.ensures.gave)
    c.next_section.ensures.gave)

pub returns-then-long_at-eq-SECTION-clause-gave_wrong :
    goal.returns-then-long_at-eq-SECTION-clause-gave_wrong
returns-then-long_at-eq-SECTION-clause-gave_wrong g c =
    let front = c.read_front.new.front in
    let is = sym c.long_at.ensures ∙ c.if-long_at-eq-SECTION.true in
    fault_tail front_at (section_step front) (step_at (length c.args.buf.now)
    (known c.args.section.now))
    (Some front) _ _ _ _ c.next_section.result
    (λ f was mid p q. step_section_fails (length c.args.buf.now) (known c.args.section.now) front
    was mid (Err f) is p q)
    (subst (λ (b : Bool). GaveNext front_at (g.S.ByteSource.gave c.args.source.now)
    (g.S.ByteSource.gave c.read_front.new.source) (g.S.ByteSource.ended c.read_front.new.source)
    (front_in b c.read_front.new.front)) c.if-not-branch.false c.in_ok-read_front.ensures.gave)
    c.next_section.ensures.gave_wrong

pub returns-clause-gave : goal.returns-clause-gave
returns-clause-gave g c =
    let k = known c.next_other.new.section in
    let buf = c.next_other.new.buf in
    let front = c.read_front.new.front in
    gave_goes_on (step_at (length c.args.buf.now) (known c.args.section.now)) k _ _ _ buf
    c.next_other.result
    c.next_other.ensures.goes_on
    (gave_tail front_at
    (other_step (length c.args.buf.now) (known c.args.section.now) front)
    (step_at (length c.args.buf.now) (known c.args.section.now))
    (Some front) (λ s. (k, step_seen s buf)) (λ s. (k, step_seen s buf)) _ _ _
    c.next_other.result
    (λ s was mid left p q. step_other (length c.args.buf.now) (known c.args.section.now) front was
    mid left buf k (Ok s) (λ e. c.if-long_at-eq-SECTION.false (c.long_at.ensures ∙ e)) p q)
    (subst (λ (b : Bool). GaveNext front_at (g.S.ByteSource.gave c.args.source.now)
    (g.S.ByteSource.gave c.read_front.new.source) (g.S.ByteSource.ended c.read_front.new.source)
    (front_in b c.read_front.new.front)) c.if-not-branch.false c.in_ok-read_front.ensures.gave)
    c.next_other.ensures.gave)

pub returns-clause-gave_wrong : goal.returns-clause-gave_wrong
returns-clause-gave_wrong g c =
    let front = c.read_front.new.front in
    fault_tail front_at (other_step (length c.args.buf.now) (known c.args.section.now) front)
    (step_at (length c.args.buf.now) (known c.args.section.now)) (Some front) _ _ _ _
    c.next_other.result
    (λ f was mid p q. step_other_fails (length c.args.buf.now) (known c.args.section.now) front was
    mid (Err f) (λ e. c.if-long_at-eq-SECTION.false (c.long_at.ensures ∙ e)) p q)
    (subst (λ (b : Bool). GaveNext front_at (g.S.ByteSource.gave c.args.source.now)
    (g.S.ByteSource.gave c.read_front.new.source) (g.S.ByteSource.ended c.read_front.new.source)
    (front_in b c.read_front.new.front)) c.if-not-branch.false c.in_ok-read_front.ensures.gave)
    c.next_other.ensures.gave_wrong
