use Rattle.std.proofs.Common.{◌≡◌, ◌∙◌, ap, sym, subst, arith}
use Rattle.st_format.specs.declared.format.Format.{Format}
use Rattle.st_format.specs.Pgroup.{pixel_group}
use Rattle.frame_assembly.specs.Missing.{AreUnknownRuns, unknown_runs}
use Rattle.frame_assembly.proofs.MissingColumns.{are_unknown_runs}
use Rattle.frame_assembly.proofs.MissingFlags.{group_some, groups_few, row_is}
use Rattle.frame_assembly.proofs.frame.Frame.missing_runs.Goals as goal

pub of_marks-requires : goal.of_marks-requires
of_marks-requires g c = record {
  columns = (c.pgroup.ensures.some.1, c.pgroup.ensures.most.1);
  groups = omega (arith, c.marks.ensures.long, (groups_few c.args.self.now).1);
}

pub returns : goal.returns
returns g c =
    let r = c.args.self.now in
    let is : c.of_marks.result ≡ unknown_runs r c.args.row =
    c.of_marks.ensures
    ∙ row_is r c.args.row c.pgroup.result.pixels c.marks.result.now c.marks.ensures.long
    (omega (arith, c.marks.ensures.long, (groups_few r).1)) c.marks.ensures.states
    (λ group below. group_some r c.args.row group c.format.ensures.whole c.requires below)
    (c.pgroup.ensures.pixels
    ∙ ap (λ (f : Format). (pixel_group f.sampling f.depth).pixels) c.format.ensures.format) in
    record {
      maximal =
          subst (AreUnknownRuns r c.args.row) (sym is)
          (are_unknown_runs r c.args.row c.format.ensures.whole c.format.ensures.groups
          c.requires);
      runs = is;
      whole = c.format.ensures.whole;
    }
