use Rattle.std.proofs.Common.{◌<◌, get_or, arith, rules}
use Rattle.std.proofs.lemmas.Simd.{Each1-all, Each2-splat}
use Rattle.pgroup_pack.proofs.Blocks.{lanes_of, four_12}
use Rattle.pgroup_pack.proofs.twelve_bits.octets_of.Goals as goal

pub returns-clause-spelled : goal.returns-clause-spelled
returns-clause-spelled c =
    let b0 : get_or c.args.samples 0 0 < 4096 = c.requires 0 0 (omega (arith, c.fits-samples.0)) in
    let b1 : get_or c.args.samples 1 0 < 4096 = c.requires 1 0 (omega (arith, c.fits-samples.0)) in
    let b2 : get_or c.args.samples 2 0 < 4096 = c.requires 2 0 (omega (arith, c.fits-samples.0)) in
    let b3 : get_or c.args.samples 3 0 < 4096 = c.requires 3 0 (omega (arith, c.fits-samples.0)) in
    let b4 : get_or c.args.samples 4 0 < 4096 = c.requires 4 0 (omega (arith, c.fits-samples.0)) in
    let b5 : get_or c.args.samples 5 0 < 4096 = c.requires 5 0 (omega (arith, c.fits-samples.0)) in
    let b6 : get_or c.args.samples 6 0 < 4096 = c.requires 6 0 (omega (arith, c.fits-samples.0)) in
    let b7 : get_or c.args.samples 7 0 < 4096 = c.requires 7 0 (omega (arith, c.fits-samples.0)) in
    rw (lanes_of 8 c.args.samples c.fits-samples.0)
    (four_12 _ _ _ _ _ _ _ _ _ _ _ _ _ _ _ _ _ _ _ _ (omega arith) (omega arith) (omega arith)
    (omega arith) (omega arith) (omega arith) (omega arith) (omega arith) (omega arith)
    (omega arith) (omega arith) (omega arith) b0 b1 b2 b3 b4 b5 b6 b7 (omega arith)
    (omega arith) (omega arith) (omega arith))

pub nonzero_div-high : goal.nonzero_div-high
nonzero_div-high c = Each2-splat _ _ 8 256 (Each1-all _ (λ x. search rules) _)

pub nonzero_rem-low : goal.nonzero_rem-low
nonzero_rem-low c = Each2-splat _ _ 8 256 (Each1-all _ (λ x. search rules) _)

pub overflow_cast-high : goal.overflow_cast-high
overflow_cast-high c =
    rw (lanes_of 8 c.args.samples c.fits-samples.0) (
      record { fits = omega arith },
      (
        record { fits = omega arith },
        (
          record { fits = omega arith },
          (
            record { fits = omega arith },
            (
              record { fits = omega arith },
              (
                record { fits = omega arith },
                (record { fits = omega arith }, (record { fits = omega arith }, tt)),
              ),
            ),
          ),
        ),
      ),
    )

pub overflow_cast-low : goal.overflow_cast-low
overflow_cast-low c =
    rw (lanes_of 8 c.args.samples c.fits-samples.0) (
      record { fits = omega arith },
      (
        record { fits = omega arith },
        (
          record { fits = omega arith },
          (
            record { fits = omega arith },
            (
              record { fits = omega arith },
              (
                record { fits = omega arith },
                (record { fits = omega arith }, (record { fits = omega arith }, tt)),
              ),
            ),
          ),
        ),
      ),
    )
