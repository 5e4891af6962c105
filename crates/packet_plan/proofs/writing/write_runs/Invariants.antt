use Rattle.std.proofs.Common.{◌≡◌, ◌+◌, ◌++◌, length, take, drop}
use Rattle.std.specs.List.{AllByRecursion, flat_map}
use Rattle.packet_plan.specs.Text.{HasHead, run_octets}
use Rattle.packet_plan.proofs.writing.write_runs.Given as goal

pub record Written (so_far kept place size all : Type 0) : Type 0 where
  pub written : so_far
  pub behind : kept
  pub end : place
  pub long : size
  pub heads : all

abbrev pub invariant-loop-rest : goal.invariant-loop-rest
invariant-loop-rest g l = Written
    (take l.end l.buf ++ flat_map (run_octets (g.P.Raster.values l.picture)) l.rest
    ≡ take l.at l.initial.buf ++ flat_map (run_octets (g.P.Raster.values l.picture)) l.runs)
    (drop l.end l.buf ≡ drop l.end l.initial.buf)
    (l.end + length (flat_map (run_octets (g.P.Raster.values l.picture)) l.rest)
    ≡ l.at + length (flat_map (run_octets (g.P.Raster.values l.picture)) l.runs))
    (length l.buf ≡ length l.initial.buf)
    (AllByRecursion (HasHead (g.P.Raster.values l.picture).format) l.rest)

abbrev pub decreases-loop-rest : goal.decreases-loop-rest
decreases-loop-rest g l = length l.rest
