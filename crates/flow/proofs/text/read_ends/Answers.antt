use Rattle.std.proofs.Common.{subst, sym}
use Rattle.flow.specs.FlowText.{Finds, IsHost, SpellsEnds, SpellsPlace}
use Rattle.flow.proofs.FlowTexts.{no_place_alone, no_place_found, no_source_found, place_alone}
use Rattle.flow.proofs.FlowTexts.{source_found}
use Rattle.flow.proofs.text.read_ends.Goals as goal

pub returns-in_err-source-in-Some : goal.returns-in_err-source-in-Some
returns-in_err-source-in-Some c =
    let text = c.args.text.now in
    let host = c.in-Some.host.now in
    let split = c.in-Some.ensures in
    subst (Finds SpellsEnds text) (sym c.from_residual.ensures)
    (no_source_found text host c.in-Some.rest.now split.0 split.1
    (subst (Finds IsHost host) c.in_err-source-in-Some.was c.read_host.ensures))

pub returns-in_err-place-in-Some : goal.returns-in_err-place-in-Some
returns-in_err-place-in-Some c =
    let text = c.args.text.now in
    let rest = c.in-Some.rest.now in
    let split = c.in-Some.ensures in
    subst (Finds SpellsEnds text) (sym c.from_residual-in_err-place-in-Some.ensures)
    (no_place_found text c.in-Some.host.now rest split.0 split.1
    (subst (Finds SpellsPlace rest) c.in_err-place-in-Some.was c.read_place.ensures))

pub returns-in_err-place-in-None : goal.returns-in_err-place-in-None
returns-in_err-place-in-None c =
    let text = c.args.text.now in
    subst (Finds SpellsEnds text) (sym c.from_residual-in_err-place-in-None.ensures)
    (no_place_alone text c.in-None.ensures
    (subst (Finds SpellsPlace text) c.in_err-place-in-None.was c.read_place-in-None.ensures))

pub returns-in_ok-place-in-Some : goal.returns-in_ok-place-in-Some
returns-in_ok-place-in-Some c =
    let host = c.in-Some.host.now in
    let rest = c.in-Some.rest.now in
    let split = c.in-Some.ensures in
    source_found c.args.text.now host rest split.0 split.1 c.in_ok-source-in-Some.source
    c.in_ok-place-in-Some.place
    (subst (Finds IsHost host) c.in_ok-source-in-Some.was c.read_host.ensures)
    (subst (Finds SpellsPlace rest) c.in_ok-place-in-Some.was c.read_place.ensures)

pub returns-in_ok-place-in-None : goal.returns-in_ok-place-in-None
returns-in_ok-place-in-None c =
    let text = c.args.text.now in
    place_alone text c.in_ok-place-in-None.place
    (subst (Finds SpellsPlace text) c.in_ok-place-in-None.was c.read_place-in-None.ensures)
