use Rattle.std.proofs.Common.{arith}
use Rattle.st_format.proofs.Divisors.{lowest_rest, rate_rest}
use Rattle.st_format.proofs.rate.Rate.new.Goals as goal

pub invariant_of-result : goal.invariant_of-result
invariant_of-result c =
    let divisor = c.common_divisor_of-divisor in record {
      sane =
          rate_rest c.args.n c.args.d divisor.result
          (record {
            some_n = omega arith;
            most_n = omega arith;
            some_d = omega arith;
            most_d =
                omega arith;
            at_least_one = omega arith;
            at_most_300 =
                omega arith;
          }) divisor.ensures.divides;
      lowest =
          lowest_rest c.args.n c.args.d divisor.result (omega arith) divisor.ensures.divides;
    }
