use Rattle.std.proofs.Common.{◌≡◌, None}
use Rattle.run_outcome.specs.Moments.{WasRead}
use Rattle.run_outcome.proofs.Printed.{on_ok}
use Rattle.run_outcome.proofs.Refusals.{if_err_map, of_refusal_map}
use Rattle.run_outcome.proofs.SetSums.{set_counted}
use Rattle.capture_engines.specs.Files.{way_at}
use Rattle.capture_engines.specs.Received.{FileOpens, IsTurnRefusal}
use Rattle.capture_engines.specs.Rescued.{MayTake}
use Rattle.capture_engines.specs.Taking.{TakesFile}
use Rattle.capture_engines.proofs.OneOf.{first_at}
use Rattle.capture_engines.proofs.receiving.take_at.Goals as goal

pub returns-clause-taken : goal.returns-clause-taken
returns-clause-taken g c =
    let told = WasRead g.S.ByteSource.gave g.S.ByteSource.ended in
    on_ok c.take_one.result _ _
    (λ taken. first_at
    (λ s. TakesFile c.args.opening.now (way_at c.args.ways.now c.args.place) (told s)
    c.args.begun.now c.take_one.new.begun)
    c.args.files.now c.args.place c.index-files-place.result c.take_one.new.file
    c.requires.place taken)
    (rw c.at-way.ensures at c.take_one.ensures.taken)

pub returns-clause-opens : goal.returns-clause-opens
returns-clause-opens g c =
    let told = WasRead g.S.ByteSource.gave g.S.ByteSource.ended in
    on_ok c.take_one.result _ _
    (λ opens none. first_at
    (λ s. FileOpens c.args.opening.now.window.items (way_at c.args.ways.now c.args.place) (told s))
    c.args.files.now c.args.place c.index-files-place.result c.take_one.new.file
    c.requires.place (opens none))
    (rw c.at-way.ensures at c.take_one.ensures.opens)

pub returns-clause-refusal : goal.returns-clause-refusal
returns-clause-refusal g c =
    let told = WasRead g.S.ByteSource.gave g.S.ByteSource.ended in
    if_err_map c.take_one.result
    (λ f. of_refusal_map f
    (λ r is. first_at
    (λ s. IsTurnRefusal c.args.opening.now.window.items (way_at c.args.ways.now c.args.place)
    (c.args.begun.now ≡ None) (told s) r)
    c.args.files.now c.args.place c.index-files-place.result c.take_one.new.file
    c.requires.place is))
    (rw c.at-way.ensures at c.take_one.ensures.refusal)

pub returns-clause-failures : goal.returns-clause-failures
returns-clause-failures g c =
    set_counted g.S.ByteSource.failures c.args.files.now c.args.place
    c.index-files-place.result c.take_one.new.file c.take_one.result c.requires.place
    c.take_one.ensures.failures

pub returns-clause-sound : goal.returns-clause-sound
returns-clause-sound g c =
    let told = g.S.ByteSource in
    if_err_map c.take_one.result
    (λ f is. first_at
    (MayTake c.args.opening.now (way_at c.args.ways.now c.args.place) told.gave told.ended f
    c.args.begun.now c.take_one.new.begun) c.args.files.now c.args.place
    c.index-files-place.result c.take_one.new.file c.requires.place is)
    (rw c.at-way.ensures at c.take_one.ensures.sound)
