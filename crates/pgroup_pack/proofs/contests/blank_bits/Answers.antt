use Rattle.pgroup_pack.proofs.Marking.{three_blanked}
use Rattle.pgroup_pack.proofs.contests.blank_bits.Goals as goal

pub returns : goal.returns
returns c =
    three_blanked c.args.bits c.args.samples.now c.blank_lanes.new.samples
    c.blank_lanes-2.new.samples c.blank_lanes-3.new.samples
    (record {
      inside = c.blank_lanes.ensures.inside;
      before =
          c.blank_lanes.ensures.before;
      behind = c.blank_lanes.ensures.behind;
    })
    (record {
      inside = c.blank_lanes-2.ensures.inside;
      before =
          c.blank_lanes-2.ensures.before;
      behind = c.blank_lanes-2.ensures.behind;
    })
    (record {
      inside = c.blank_lanes-3.ensures.inside;
      before =
          c.blank_lanes-3.ensures.before;
      behind = c.blank_lanes-3.ensures.behind;
    })
