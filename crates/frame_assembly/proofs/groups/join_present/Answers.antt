use Rattle.std.proofs.Common.{◌∙◌, arith}
use Rattle.frame_assembly.proofs.PackedLemmas.{sizes}
use Rattle.frame_assembly.proofs.Contested.{contested_joined}
use Rattle.frame_assembly.proofs.groups.join_present.Goals as goal

pub returns : goal.returns
returns c =
    contested_joined _ _ _ c.args.marks.now c.args.other_marks.now c.or_marks.new.into
    c.contest.new.marks c.args.octets.now c.args.others.now c.contest.new.octets
    (sizes c.args.format.now.sampling c.args.format.now.depth) (record {
      packed = c.requires.packed;
      other = c.requires.other;
      alike = c.requires.alike;
      both_long = c.or_marks.auto.into;
      new_long = c.contest.auto.marks ∙ c.or_marks.auto.into;
      octets_long = c.contest.auto.octets;
      ors = λ k lt. c.or_marks.ensures k (omega (arith, c.or_marks.auto.into));
      high = c.requires.present;
      high_other = c.requires.other_present;
      contested = c.contest.ensures;
    })
