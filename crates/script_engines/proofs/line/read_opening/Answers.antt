use Rattle.std.proofs.Common.{sym}
use Rattle.script_engines.proofs.FormLemmas.{if_none, source_none, type_none}
use Rattle.script_engines.proofs.line.read_opening.Goals as goal

pub returns-in_err-read_payload_type-clause-none : goal.returns-in_err-read_payload_type-clause-none
returns-in_err-read_payload_type-clause-none c =
    if_none c.from_residual-in_err-read_payload_type.result
    c.from_residual-in_err-read_payload_type.ensures
    (type_none c.args.text.now c.in_ok-payload_type.payload_type.now c.in_ok-payload_type.rest.now
    (sym c.in_ok-payload_type.ensures.parts) c.in_err-read_payload_type.ensures.none)

pub returns-in_err-read_source-clause-none : goal.returns-in_err-read_source-clause-none
returns-in_err-read_source-clause-none c =
    if_none c.from_residual-in_err-read_source.result c.from_residual-in_err-read_source.ensures
    (source_none c.args.text.now c.in_ok-payload_type.payload_type.now c.in_ok-payload_type.rest.now
    c.in_ok-ssrc.ssrc.now c.in_ok-ssrc.window.now
    (sym c.in_ok-payload_type.ensures.parts)
    (sym c.in_ok-ssrc.ensures.parts) c.in_err-read_source.ensures.none)

pub returns-clause-is : goal.returns-clause-is
returns-clause-is c = record {
  number = c.in_ok-payload_type.payload_type.now;
  source = c.in_ok-ssrc.ssrc.now;
  behind = c.in_ok-payload_type.rest.now;
  parts = sym c.in_ok-payload_type.ensures.parts;
  parts_behind = sym c.in_ok-ssrc.ensures.parts;
  number_is = c.in_ok-read_payload_type.ensures.is;
  seven_bits = c.in_ok-read_payload_type.ensures.range;
  source_is = c.in_ok-read_source.ensures.is;
}
