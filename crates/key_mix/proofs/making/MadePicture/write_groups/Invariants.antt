use Rattle.std.proofs.Common.{◌≡◌, ℕ, ◌-◌, ◌*◌, ◌≤◌, length, take, drop}
use Rattle.st_format.specs.Pgroup.{bits_of, pixel_group}
use Rattle.st_format.specs.Samples.{Spells}
use Rattle.key_mix.proofs.making.MadePicture.write_groups.Given as goal

-- the octets of the groups so far spell their samples
abbrev pub invariant-loop-done : goal.invariant-loop-done
invariant-loop-done g l =
    let s : ℕ = (pixel_group l.fn.self.format.sampling l.fn.self.format.depth).samples in
    record {
      long : length l.octets ≡ length l.initial.octets;
      few : l.done ≤ l.count;
      spelled : Spells (bits_of l.fn.self.format.depth) (take (l.size * l.done) l.octets)
          (take (s * l.done) (drop (s * l.first) l.fn.self.samples));
    }

abbrev pub decreases-loop-done : goal.decreases-loop-done
decreases-loop-done g l = l.count - l.done
