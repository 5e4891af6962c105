use Rattle.std.proofs.Common.{◌≡◌, ◌↔◌, ◌∙◌, ℕ, List, ap, arith, subst, sym}
use Rattle.st_format.specs.Member.{IsMember}
use Rattle.frame_assembly.specs.ContestedSamples.{IsContestedSample, contested_spots}
use Rattle.st_format.specs.declared.format.Format.{Format}
use Rattle.st_format.specs.Pgroup.{pixel_group}
use Rattle.frame_assembly.proofs.MissingFlags.{groups_few}
use Rattle.frame_assembly.proofs.SpotMembers.{contested_each}
use Rattle.frame_assembly.proofs.Spots.{spots_are}
use Rattle.frame_assembly.proofs.frame.Frame.contested.Goals as goal

pub of_marks-requires : goal.of_marks-requires
of_marks-requires g c = record {
  size = c.pgroup.ensures.most.2;
  groups = omega (arith, c.marks.ensures.long, (groups_few c.args.self.now).1);
}

pub returns : goal.returns
returns g c =
    let r = c.args.self.now in
    let is : c.of_marks.result ≡ contested_spots r c.args.row =
    c.of_marks.ensures
    ∙ spots_are r c.args.row c.pgroup.result.samples c.sampling.result c.marks.result.now
    c.format-format.ensures.whole c.requires c.marks.ensures.long
    (c.sampling.ensures ∙ ap (λ (f : Format). f.sampling) c.format-format.ensures.format)
    (c.pgroup.ensures.samples
    ∙ ap (λ (f : Format). (pixel_group f.sampling f.depth).samples)
    c.format-format.ensures.format)
    c.marks.ensures.marks in
    record {
      each =
          λ column component.
          subst (λ (spots : List (ℕ × ℕ)). IsMember (column, component) spots
          ↔ IsContestedSample r c.args.row column component) (sym is)
          (contested_each r c.args.row c.requires column component);
      samples = is;
      whole = c.format-format.ensures.whole;
    }
