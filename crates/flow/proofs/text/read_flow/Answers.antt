use Rattle.std.proofs.Common.{subst, sym}
use Rattle.interface_name.specs.Name.{IsName}
use Rattle.flow.specs.FlowText.{Finds, IsFlowText, SpellsEnds}
use Rattle.flow.proofs.FlowTexts.{ends_alone, interface_found, no_ends_alone, no_ends_found}
use Rattle.flow.proofs.FlowTexts.{no_interface_found}
use Rattle.flow.proofs.text.read_flow.Goals as goal

pub returns-in_err-interface-in-Some : goal.returns-in_err-interface-in-Some
returns-in_err-interface-in-Some c =
    let text = c.args.text.now in
    let name = c.in-Some.name.now in
    let split = c.in-Some.ensures in
    subst (Finds IsFlowText text) (sym c.from_residual.ensures)
    (no_interface_found text name c.in-Some.rest.now split.0 split.1
    (subst (Finds IsName name) c.in_err-interface-in-Some.was c.read.ensures.words))

pub returns-in_err-ends-in-Some : goal.returns-in_err-ends-in-Some
returns-in_err-ends-in-Some c =
    let text = c.args.text.now in
    let rest = c.in-Some.rest.now in
    let split = c.in-Some.ensures in
    subst (Finds IsFlowText text) (sym c.from_residual-in_err-ends-in-Some.ensures)
    (no_ends_found text c.in-Some.name.now rest split.0 split.1
    (subst (Finds SpellsEnds rest) c.in_err-ends-in-Some.was c.read_ends.ensures))

pub returns-in_err-ends-in-None : goal.returns-in_err-ends-in-None
returns-in_err-ends-in-None c =
    let text = c.args.text.now in
    subst (Finds IsFlowText text) (sym c.from_residual-in_err-ends-in-None.ensures)
    (no_ends_alone text c.in-None.ensures
    (subst (Finds SpellsEnds text) c.in_err-ends-in-None.was c.read_ends-in-None.ensures))

pub returns-in_ok-ends-in-Some : goal.returns-in_ok-ends-in-Some
returns-in_ok-ends-in-Some c =
    let name = c.in-Some.name.now in
    let rest = c.in-Some.rest.now in
    let split = c.in-Some.ensures in
    interface_found c.args.text.now name rest split.0 split.1 c.in_ok-interface-in-Some.interface
    c.in_ok-ends-in-Some.ends
    (subst (Finds IsName name) c.in_ok-interface-in-Some.was c.read.ensures.words)
    (subst (Finds SpellsEnds rest) c.in_ok-ends-in-Some.was c.read_ends.ensures)

pub returns-in_ok-ends-in-None : goal.returns-in_ok-ends-in-None
returns-in_ok-ends-in-None c =
    let text = c.args.text.now in
    ends_alone text c.in_ok-ends-in-None.ends
    (subst (Finds SpellsEnds text) c.in_ok-ends-in-None.was c.read_ends-in-None.ensures)
