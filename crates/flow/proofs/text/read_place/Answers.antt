use Rattle.std.proofs.Common.{subst, sym}
use Rattle.flow.specs.FlowText.{Finds, SpellsPlace, IsHost, IsPort}
use Rattle.flow.proofs.FlowTexts.{both_found, no_host_found, no_port_alone, no_port_found}
use Rattle.flow.proofs.FlowTexts.{port_alone}
use Rattle.flow.proofs.text.read_place.Goals as goal

pub returns-in_err-address-in-Some : goal.returns-in_err-address-in-Some
returns-in_err-address-in-Some c =
    let text = c.args.text.now in
    let host = c.in-Some.host.now in
    let split = c.in-Some.ensures in
    subst (Finds SpellsPlace text) (sym c.from_residual.ensures)
    (no_host_found text host c.in-Some.port.now split.0 split.1
    (subst (Finds IsHost host) c.in_err-address-in-Some.was c.read_host.ensures))

pub returns-in_err-port-in-Some : goal.returns-in_err-port-in-Some
returns-in_err-port-in-Some c =
    let text = c.args.text.now in
    let port = c.in-Some.port.now in
    let split = c.in-Some.ensures in
    subst (Finds SpellsPlace text) (sym c.from_residual-in_err-port-in-Some.ensures)
    (no_port_found text c.in-Some.host.now port split.0 split.1
    (subst (Finds IsPort port) c.in_err-port-in-Some.was c.read_port.ensures))

pub returns-in_err-port-in-None : goal.returns-in_err-port-in-None
returns-in_err-port-in-None c =
    let text = c.args.text.now in
    subst (Finds SpellsPlace text) (sym c.from_residual-in_err-port-in-None.ensures)
    (no_port_alone text c.in-None.ensures
    (subst (Finds IsPort text) c.in_err-port-in-None.was c.read_port-in-None.ensures))

pub returns-in_ok-port-in-Some : goal.returns-in_ok-port-in-Some
returns-in_ok-port-in-Some c =
    let host = c.in-Some.host.now in
    let port = c.in-Some.port.now in
    let split = c.in-Some.ensures in
    both_found c.args.text.now host port split.0 split.1 c.in_ok-address-in-Some.address
    c.in_ok-port-in-Some.port
    (subst (Finds IsHost host) c.in_ok-address-in-Some.was c.read_host.ensures)
    (subst (Finds IsPort port) c.in_ok-port-in-Some.was c.read_port.ensures)

pub returns-in_ok-port-in-None : goal.returns-in_ok-port-in-None
returns-in_ok-port-in-None c =
    let text = c.args.text.now in
    port_alone text c.in_ok-port-in-None.port
    (subst (Finds IsPort text) c.in_ok-port-in-None.was c.read_port-in-None.ensures)
