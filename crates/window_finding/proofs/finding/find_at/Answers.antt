use Rattle.std.proofs.Common.{◌≡◌, [], ◌∷◌, None}
use Rattle.run_outcome.specs.Moments.{WasRead}
use Rattle.run_outcome.proofs.Printed.{on_ok}
use Rattle.run_outcome.proofs.Refusals.{if_err_map, of_refusal_map}
use Rattle.run_outcome.proofs.SetSums.{set_counted}
use Rattle.capture_engines.specs.Files.{IsReadWhole, way_at}
use Rattle.capture_engines.specs.Received.{FileOpens, IsTurnRefusal}
use Rattle.capture_engines.proofs.OneOf.{first_at}
use Rattle.window_finding.specs.Finding.{FindsFile}
use Rattle.window_finding.proofs.finding.find_at.Goals as goal

pub returns-clause-found : goal.returns-clause-found
returns-clause-found g c =
    let told = WasRead g.S.ByteSource.gave g.S.ByteSource.ended in
    on_ok c.find_one.result _ _
    (λ found. first_at
    (λ s. FindsFile c.args.sought (way_at c.args.ways.now c.args.place) (told s) c.args.begun.now c.find_one.new.begun)
    c.args.files.now c.args.place c.index-files-place.result c.find_one.new.file
    c.requires.place found)
    (rw c.at.ensures at c.find_one.ensures.found)

pub returns-clause-opens : goal.returns-clause-opens
returns-clause-opens g c =
    let told = WasRead g.S.ByteSource.gave g.S.ByteSource.ended in
    on_ok c.find_one.result _ _
    (λ opens none. first_at
    (λ s. FileOpens (0 ∷ []) (way_at c.args.ways.now c.args.place) (told s))
    c.args.files.now c.args.place c.index-files-place.result c.find_one.new.file
    c.requires.place (opens none))
    (rw c.at.ensures at c.find_one.ensures.opens)

pub returns-clause-whole : goal.returns-clause-whole
returns-clause-whole g c =
    let told = WasRead g.S.ByteSource.gave g.S.ByteSource.ended in
    on_ok c.find_one.result _ _
    (λ whole lacks. first_at
    (λ s. IsReadWhole (way_at c.args.ways.now c.args.place) (told s))
    c.args.files.now c.args.place c.index-files-place.result c.find_one.new.file
    c.requires.place (whole lacks))
    (rw c.at.ensures at c.find_one.ensures.whole)

pub returns-clause-refusal : goal.returns-clause-refusal
returns-clause-refusal g c =
    let told = WasRead g.S.ByteSource.gave g.S.ByteSource.ended in
    if_err_map c.find_one.result
    (λ f. of_refusal_map f
    (λ r is. first_at
    (λ s. IsTurnRefusal (0 ∷ []) (way_at c.args.ways.now c.args.place) (c.args.begun.now ≡ None)
    (told s) r)
    c.args.files.now c.args.place c.index-files-place.result c.find_one.new.file
    c.requires.place is))
    (rw c.at.ensures at c.find_one.ensures.refusal)

pub returns-clause-failures : goal.returns-clause-failures
returns-clause-failures g c =
    set_counted g.S.ByteSource.failures c.args.files.now c.args.place
    c.index-files-place.result c.find_one.new.file c.find_one.result c.requires.place
    c.find_one.ensures.failures
