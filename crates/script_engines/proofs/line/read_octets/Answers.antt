use Rattle.std.proofs.Common.{◌≡◌, ◌/◌, codes, length-take-le, length, refl, rules, arith}
use Rattle.script_engines.proofs.OctetLemmas.{said_decoded, said_long}
use Rattle.script_engines.proofs.line.read_octets.Goals.{then-n-eq0-via-then-n-eq0}
use Rattle.script_engines.proofs.line.read_octets.Goals.{then-n-eq0-via-else-n-eq0+then-n-octets}
use Rattle.script_engines.proofs.line.read_octets.Goals as goal

pub returns-then-n-eq0-clause-none : goal.returns-then-n-eq0-clause-none
returns-then-n-eq0-clause-none c = λ said short is.
    let other : c.args.text.now ≡ codes "-" → ⊥ = search rules in
    let long = said_long c.args.text.now said other is in
    elim c.then-n-eq0.branch [
      | then-n-eq0-via-then-n-eq0 w ↦ omega (arith, w.if-n-eq0.true, long.0, long.1)
      | then-n-eq0-via-else-n-eq0+then-n-octets w ↦ omega (arith, w.if-n-octets.true, long.0, short)
    ]

pub returns-else-decodes-clause-none : goal.returns-else-decodes-clause-none
returns-else-decodes-clause-none c = λ said short is.
    let other : c.args.text.now ≡ codes "-" → ⊥ = search rules in
    let long = said_long c.args.text.now said other is in
    c.if-decodes.ensures.none refl said
    (omega (
      arith,
      long.0,
      length-take-le (length c.args.text.now / 2) c.args.octets.now
          c.if-n-octets.false,
    )) (said_decoded c.args.text.now said other is)
