use Rattle.std.proofs.Common.{◌∙◌, ℕ, List}
use Rattle.std.proofs.lemmas.Result.{err_from_is_err_and}
use Rattle.script_engines.specs.FirstLines.{end_of, lines_left}
use Rattle.script_engines.specs.Rehearsal.{heading_of, said_by}
use Rattle.script_engines.specs.Script.{line_behind, numbered_lines}
use Rattle.script_engines.proofs.RehearsalReading.{fault_at_body, fault_at_end, fault_at_head}
use Rattle.script_engines.proofs.RehearsalReading.{from_start, says_all}
use Rattle.script_engines.proofs.rehearsal.read_rehearsal.Goals as goal

pub returns-in_err-head-clause-fault : goal.returns-in_err-head-clause-fault
returns-in_err-head-clause-fault g c =
    let p = err_from_is_err_and c.from_residual.result c.from_residual.ensures.1 in
    let octets : List ℕ = c.args.script.now.octets.items in
    let start = from_start c.new-lines.result.passed c.new-lines.result.rest.now octets
    c.new-lines.ensures.passed (c.new-lines.ensures.rest ∙ c.deref.ensures.value) in
    rw (p.1)
    (fault_at_head (lines_left c.new-lines.result) (numbered_lines 0 octets)
    c.args.script.now.is_cut (end_of c.new-lines.result) (line_behind 0 octets)
    c.in_err-head.field-0.0 p.0 start.0 start.1 p.2 c.in_err-head.ensures.fault)

pub returns-in_err-rehearsal-clause-fault : goal.returns-in_err-rehearsal-clause-fault
returns-in_err-rehearsal-clause-fault g c =
    let p = err_from_is_err_and c.from_residual-in_err-rehearsal.result
    c.from_residual-in_err-rehearsal.ensures.1 in
    let octets : List ℕ = c.args.script.now.octets.items in
    let start = from_start c.new-lines.result.passed c.new-lines.result.rest.now octets
    c.new-lines.ensures.passed (c.new-lines.ensures.rest ∙ c.deref.ensures.value) in
    rw (p.1)
    (fault_at_body (lines_left c.new-lines.result) (numbered_lines 0 octets)
    (lines_left c.read_head.new.lines) c.args.script.now.is_cut (line_behind 0 octets)
    c.in_err-rehearsal.field-0.0 p.0 (heading_of c.in_ok-head.head) start.0 p.2
    c.in_ok-head.ensures.says c.in_err-rehearsal.ensures.fault)

pub returns-then-script-clause-fault : goal.returns-then-script-clause-fault
returns-then-script-clause-fault g c =
    let octets : List ℕ = c.args.script.now.octets.items in
    let start = from_start c.new-lines.result.passed c.new-lines.result.rest.now octets
    c.new-lines.ensures.passed (c.new-lines.ensures.rest ∙ c.deref.ensures.value) in
    fault_at_end (numbered_lines 0 octets) c.args.script.now.is_cut c.following.result
    (line_behind 0 octets) c.refused_at.result (said_by c.in_ok-rehearsal.rehearsal)
    (says_all (lines_left c.new-lines.result) (numbered_lines 0 octets)
    (lines_left c.read_head.new.lines) c.in_ok-head.head c.in_ok-rehearsal.rehearsal start.0
    c.in_ok-rehearsal.ensures.head c.in_ok-head.ensures.says c.in_ok-rehearsal.ensures.says)
    c.if-script.true c.refused_at.ensures
    (c.following.ensures ∙ c.in_ok-rehearsal.ensures.end ∙ c.in_ok-head.ensures.end ∙ start.1)

pub returns-clause-says : goal.returns-clause-says
returns-clause-says g c =
    let octets : List ℕ = c.args.script.now.octets.items in
    let start = from_start c.new-lines.result.passed c.new-lines.result.rest.now octets
    c.new-lines.ensures.passed (c.new-lines.ensures.rest ∙ c.deref.ensures.value) in
    says_all (lines_left c.new-lines.result) (numbered_lines 0 octets)
    (lines_left c.read_head.new.lines) c.in_ok-head.head c.in_ok-rehearsal.rehearsal start.0
    c.in_ok-rehearsal.ensures.head c.in_ok-head.ensures.says c.in_ok-rehearsal.ensures.says
