use Rattle.std.proofs.Common.{List, length, subst, sym}
use Rattle.recording_engines.specs.Files.{IsEarliest}
use Rattle.recording_engines.specs.declared.file.ImportFile.{ImportFile}
use Rattle.recording_engines.proofs.Earliest.{earliest_of, place_fits}
use Rattle.recording_engines.proofs.files.+earliest.Goals as goal

pub sooner-requires : goal.sooner-requires
sooner-requires g t c =
    let parts = c.in-Some.ensures.cases in
    place_fits c.in-Some.rest.now c.earliest.result (length c.args.files.now) c.earliest.ensures
    parts.1

pub returns : goal.returns
returns g t c =
    let parts = c.in-Some.ensures.cases in
    subst (λ (fs : List (ImportFile _ _)). IsEarliest fs c.sooner.result) (sym parts.0)
    (earliest_of c.in-Some.first.now c.in-Some.rest.now c.next_moment.result c.earliest.result
    c.sooner.result c.next_moment.ensures c.earliest.ensures c.sooner.ensures)
