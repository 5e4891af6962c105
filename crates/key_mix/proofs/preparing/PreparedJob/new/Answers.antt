use Rattle.std.proofs.Common.{ℕ, length, arith, sym, subst}
use Rattle.st_format.specs.Picture.{Values}
use Rattle.st_format.specs.declared.format.Format.{Format}
use Rattle.packet_plan.specs.Plan.{IsFullPlan}
use Rattle.key_mix.specs.Preparing.{raster_picture}
use Rattle.key_mix.proofs.Prepared.{planned_format}
use Rattle.key_mix.proofs.preparing.PreparedJob.new.Goals as goal

pub invariant_of-result : goal.invariant_of-result
invariant_of-result g c = record {
  format =
      planned_format c.args.job.now c.args.inputs.now (raster_picture c.in_ok-raster.raster)
      c.in_ok-plan.plan.format c.in_ok-raster.ensures.made c.in_ok-plan.ensures.format;
  room =
      c.max_octets.ensures.room (length c.in_ok-buf.buf.items)
      (omega (arith, c.in_ok-buf.buf.ok.0, c.in_ok-buf.ensures.len));
}

pub returns-clause-prepared : goal.returns-clause-prepared
returns-clause-prepared g c =
    let plan = c.in_ok-plan.plan in
    let picture : Values = raster_picture c.in_ok-raster.raster in
    let same = planned_format c.args.job.now c.args.inputs.now picture plan.format
    c.in_ok-raster.ensures.made c.in_ok-plan.ensures.format in
    record {
      made = c.in_ok-raster.ensures.made;
      whole = c.in_ok-raster.ensures.whole;
      full =
          subst (λ (n : ℕ). IsFullPlan plan.packets picture.format n) c.in_ok-plan.ensures.octets
          (subst (λ (f : Format). IsFullPlan plan.packets f plan.max_octets) (sym same)
          c.facts.ensures.full);
      some = c.facts.ensures.some;
      size_is = c.in_ok-plan.ensures.octets;
    }
