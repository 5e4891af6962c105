use Rattle.std.proofs.Common.{◌∙◌, ap, subst, sym}
use Rattle.std.specs.Option.{option_copied}
use Rattle.flow.specs.FlowText.{Finds}
use Rattle.sdp_format.specs.Bytes.{lines}
use Rattle.sdp_format.specs.Destinations.{IsConnection}
use Rattle.sdp_format.specs.ReadLeg.{section_at}
use Rattle.sdp_format.proofs.Destined.{bad_connection, bad_media, nowhere, somewhere}
use Rattle.sdp_format.proofs.flows.flow_of.Goals as goal

pub returns-in_default-clause-flow : goal.returns-in_default-clause-flow
returns-in_default-clause-flow c =
    (bad_media (lines c.args.text.now) (section_at c.args.section)
    (sym c.media_of.ensures.value ∙ c.in_default.is)).0

pub returns-in_default-clause-fault : goal.returns-in_default-clause-fault
returns-in_default-clause-fault c =
    (bad_media (lines c.args.text.now) (section_at c.args.section)
    (sym c.media_of.ensures.value ∙ c.in_default.is)).1

pub returns-in_default-connection_of-clause-flow : goal.returns-in_default-connection_of-clause-flow
returns-in_default-connection_of-clause-flow c =
    (nowhere (lines c.args.text.now) (section_at c.args.section)
    (c.in-Some.port, c.in-Some.field-0-1) (sym c.media_of.ensures.value ∙ c.in-Some.is)
    (sym c.connection_of.ensures ∙ ap option_copied c.in_default-connection_of.is)).0

pub returns-in_default-connection_of-clause-fault :
    goal.returns-in_default-connection_of-clause-fault
returns-in_default-connection_of-clause-fault c =
    (nowhere (lines c.args.text.now) (section_at c.args.section)
    (c.in-Some.port, c.in-Some.field-0-1) (sym c.media_of.ensures.value ∙ c.in-Some.is)
    (sym c.connection_of.ensures ∙ ap option_copied c.in_default-connection_of.is)).1

pub returns-in-Some-read_connection-clause-flow : goal.returns-in-Some-read_connection-clause-flow
returns-in-Some-read_connection-clause-flow c =
    let line = c.in-Some-connection_of.line.now in
    (somewhere (lines c.args.text.now) (section_at c.args.section)
    (c.in-Some.port, c.in-Some.field-0-1) line c.in-Some-read_connection.address
    c.source_of.result
    (sym c.media_of.ensures.value ∙ c.in-Some.is)
    (sym c.connection_of.ensures ∙ ap option_copied c.in-Some-connection_of.is)
    (subst (Finds IsConnection line) c.in-Some-read_connection.is c.read_connection.ensures)
    c.source_of.ensures).0

pub returns-in-Some-read_connection-clause-fault :
    goal.returns-in-Some-read_connection-clause-fault
returns-in-Some-read_connection-clause-fault c =
    let line = c.in-Some-connection_of.line.now in
    (somewhere (lines c.args.text.now) (section_at c.args.section)
    (c.in-Some.port, c.in-Some.field-0-1) line c.in-Some-read_connection.address
    c.source_of.result
    (sym c.media_of.ensures.value ∙ c.in-Some.is)
    (sym c.connection_of.ensures ∙ ap option_copied c.in-Some-connection_of.is)
    (subst (Finds IsConnection line) c.in-Some-read_connection.is c.read_connection.ensures)
    c.source_of.ensures).1

pub returns-in-None-clause-flow : goal.returns-in-None-clause-flow
returns-in-None-clause-flow c =
    let line = c.in-Some-connection_of.line.now in
    (bad_connection (lines c.args.text.now) (section_at c.args.section)
    (c.in-Some.port, c.in-Some.field-0-1) line (sym c.media_of.ensures.value ∙ c.in-Some.is)
    (sym c.connection_of.ensures ∙ ap option_copied c.in-Some-connection_of.is)
    (subst (Finds IsConnection line) c.in-None.is c.read_connection.ensures)).0

pub returns-in-None-clause-fault : goal.returns-in-None-clause-fault
returns-in-None-clause-fault c =
    let line = c.in-Some-connection_of.line.now in
    (bad_connection (lines c.args.text.now) (section_at c.args.section)
    (c.in-Some.port, c.in-Some.field-0-1) line (sym c.media_of.ensures.value ∙ c.in-Some.is)
    (sym c.connection_of.ensures ∙ ap option_copied c.in-Some-connection_of.is)
    (subst (Finds IsConnection line) c.in-None.is c.read_connection.ensures)).1
