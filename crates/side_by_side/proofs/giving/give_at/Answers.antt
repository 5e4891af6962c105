use Rattle.std.proofs.Common.{ap, refl, subst, sym}
use Rattle.recording_engines.specs.Files.{failures_by}
use Rattle.recording_engines.specs.declared.file.ImportFile.{ImportFile}
use Rattle.recording_engines.proofs.Taken.{map_set}
use Rattle.side_by_side.specs.Side.{IsUnfailed, IsUnfailedFile, begun_at}
use Rattle.side_by_side.specs.declared.side.Side.{Side}
use Rattle.side_by_side.proofs.Reading.{all_get, all_set, failures_same}
use Rattle.side_by_side.proofs.giving.give_at.Goals as goal

pub returns-clause-begun : goal.returns-clause-begun
returns-clause-begun g c =
    map_set (λ s. begun_at s.file) c.args.sides.now c.args.place c.index-sides-place.result
    c.give.new.self c.requires.place
    (ap (λ (f : ImportFile _ _). begun_at f) c.give.ensures.given.file)

pub returns-clause-given : goal.returns-clause-given
returns-clause-given g c = record {
  other = c.index-sides-place.result;
  given = c.give.new.self;
  is = c.give.ensures.given;
  now = refl;
}

pub returns-clause-unfailed : goal.returns-clause-unfailed
returns-clause-unfailed g c =
    λ unfailed.
    let sides = c.args.sides.now in
    all_set IsUnfailed sides c.args.place c.give.new.self unfailed
    (subst (λ (f : ImportFile _ _). IsUnfailedFile f) (sym c.give.ensures.given.file)
    (all_get IsUnfailed sides c.args.place c.index-sides-place.result c.requires.place unfailed))

pub returns-clause-failures : goal.returns-clause-failures
returns-clause-failures g c =
    let failures = failures_by g.S.ByteSource.failures in
    failures_same (λ (s : Side _ _). failures s.file) c.args.sides.now c.args.place
    c.index-sides-place.result c.give.new.self c.requires.place
    (ap (λ (f : ImportFile _ _). failures f) c.give.ensures.given.file)
