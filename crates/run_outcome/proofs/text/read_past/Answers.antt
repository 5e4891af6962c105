use Rattle.std.proofs.Common.{arith}
use Rattle.std.proofs.lemmas.Result.{err_from_is_err_and}
use Rattle.run_outcome.proofs.text.read_past.Goals as goal

pub returns-in_err-reserve-clause-memory : goal.returns-in_err-reserve-clause-memory
returns-in_err-reserve-clause-memory g c =
    let p = err_from_is_err_and c.from_residual.result c.from_residual.ensures.1 in
    rw (p.1) (λ memory. record {
      octets = c.pieces.octets.items;
      few = omega (arith, c.pieces-test.true);
      given = c.pieces.invariant.given;
    })
