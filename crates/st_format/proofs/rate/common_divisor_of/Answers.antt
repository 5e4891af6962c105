use Rattle.st_format.proofs.Divisors.{common_divisor-is, gcd_pos}
use Rattle.st_format.proofs.rate.common_divisor_of.Goals as goal

pub returns-clause-value : goal.returns-clause-value
returns-clause-value c =
    common_divisor-is c.args.n c.args.d c.euclid.result c.requires c.euclid.ensures

pub returns-clause-some : goal.returns-clause-some
returns-clause-some c = gcd_pos c.args.n c.args.d c.euclid.result c.requires c.euclid.ensures
