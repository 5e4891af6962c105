use Rattle.std.proofs.Common.{refl, ◌∙◌, arith}
use Rattle.packet_plan.specs.Text.{HasHead, run_octets}
use Rattle.packet_plan.proofs.Behind.{stays_later}
use Rattle.packet_plan.proofs.RunLemmas.{first_counted, first_fits, first_holds, first_written}
use Rattle.packet_plan.proofs.RunLemmas.{rest_holds}
use Rattle.packet_plan.proofs.writing.write_runs.Goals as goal

pub loop-rest-preserved : goal.loop-rest-preserved
loop-rest-preserved g c = record {
  written =
      first_written (run_octets (g.P.Raster.values c.args.picture.now)) c.loop-rest.rest.now _ _ _ _
      c.in-len1-up.len_at_least c.write_run-end.ensures.written c.loop-rest.invariant.written;
  behind = c.write_run-end.ensures.behind
      ∙ stays_later c.loop-rest.end c.write_run-end.result c.args.buf.now c.loop-rest.buf
      (omega (arith, c.write_run-end.ensures.value)) c.loop-rest.invariant.behind;
  end =
      first_counted (run_octets (g.P.Raster.values c.args.picture.now)) c.loop-rest.rest.now _
      c.loop-rest.end c.write_run-end.result _ c.in-len1-up.len_at_least
      c.write_run-end.ensures.value c.loop-rest.invariant.end;
  long = c.write_run-end.ensures.length ∙ c.loop-rest.invariant.long;
  heads =
      rest_holds (HasHead (g.P.Raster.values c.args.picture.now).format) c.loop-rest.rest.now
      c.in-len1-up.len_at_least c.loop-rest.invariant.heads;
}

pub loop-rest-init : goal.loop-rest-init
loop-rest-init g c =
    record {
      written = refl;
      behind = refl;
      end = refl;
      long = refl;
      heads = c.requires.heads;
    }

pub slice_bounds-more-count : goal.slice_bounds-more-count
slice_bounds-more-count g c = c.in-len1-up.len_at_least

pub bounds-rest-0 : goal.bounds-rest-0
bounds-rest-0 g c = omega arith

pub slice_bounds-more-start : goal.slice_bounds-more-start
slice_bounds-more-start g c = c.in-len1-up.len_at_least

pub write_run-end-requires-clause-room : goal.write_run-end-requires-clause-room
write_run-end-requires-clause-room g c =
    first_fits (run_octets (g.P.Raster.values c.args.picture.now)) c.loop-rest.rest.now _
    c.loop-rest.end _ c.in-len1-up.len_at_least
    (omega (arith, c.loop-rest.invariant.end, c.requires.room, c.loop-rest.invariant.long))

pub write_run-end-requires-clause-head : goal.write_run-end-requires-clause-head
write_run-end-requires-clause-head g c =
    first_holds (HasHead (g.P.Raster.values c.args.picture.now).format) c.loop-rest.rest.now _
    c.in-len1-up.len_at_least c.loop-rest.invariant.heads

pub returns-clause-length : goal.returns-clause-length
returns-clause-length g c = c.loop-rest.invariant.long

pub returns-clause-behind : goal.returns-clause-behind
returns-clause-behind g c = c.loop-rest.invariant.behind
