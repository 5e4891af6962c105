use Rattle.std.proofs.Common.{◌*◌, arith}
use Rattle.st_format.specs.Pgroup.{bits_of}
use Rattle.st_format.specs.Position.{sample_count}
use Rattle.script_engines.proofs.RehearsalLemmas.{digits_long}
use Rattle.script_engines.proofs.picture_text.read_picture.Goals as goal

pub returns-then-digits-count-clause-none : goal.returns-then-digits-count-clause-none
returns-then-digits-count-clause-none g c = λ octets whole is.
    let long = digits_long c.args.digits.now octets c.packed_octets-count.result
    (bits_of c.args.format.depth * sample_count c.args.format)
    c.packed_octets-count.ensures.agree whole is in
    omega (arith, long.0)
