use Rattle.std.proofs.Common.{◌≡◌, ◌%◌, ℕ, arith, subst}
use Rattle.st_format.proofs.format.Format.new.Goals as goal

pub invariant_of-result : goal.invariant_of-result
invariant_of-result c =
    let pixels = c.pgroup-pixels.ensures.pixels in
    record {
      whole_width =
          record {
            least = omega arith;
            most = omega arith;
            even = omega arith;
            whole_groups =
                subst (λ (m : ℕ). c.args.width % m ≡ 0) pixels (omega arith);
          };
      whole_height = record { least = omega arith; most = omega arith };
      sane_rate = search;
      lowest_rate = search;
    }
