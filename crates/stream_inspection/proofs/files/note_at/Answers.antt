use Rattle.std.proofs.Common.{◌≡◌, None}
use Rattle.run_outcome.specs.Moments.{WasRead}
use Rattle.run_outcome.proofs.Refusals.{if_err_map, of_refusal_map}
use Rattle.run_outcome.proofs.SetSums.{set_counted}
use Rattle.capture_engines.specs.Files.{way_at}
use Rattle.capture_engines.proofs.OneOf.{first_at}
use Rattle.stream_inspection.specs.Read.{IsStartRefusal, NotesFile, end_outcome}
use Rattle.stream_inspection.proofs.Readings.{if_end, if_ok}
use Rattle.stream_inspection.proofs.files.note_at.Goals as goal

pub returns-clause-noted : goal.returns-clause-noted
returns-clause-noted g c =
    let told = WasRead g.S.ByteSource.gave g.S.ByteSource.ended in
    if_ok c.note_one.result
    (λ end. if_end end _ _
    (λ found. first_at
    (λ s. NotesFile (way_at c.args.ways.now c.args.place) (told s) end c.args.begun.now
    c.note_one.new.begun c.args.inspection.now c.note_one.new.inspection)
    c.args.files.now c.args.place c.index-files-place.result c.note_one.new.file
    c.requires.place found))
    (rw c.at-way.ensures at c.note_one.ensures.noted)

pub returns-clause-refusal : goal.returns-clause-refusal
returns-clause-refusal g c =
    let told = WasRead g.S.ByteSource.gave g.S.ByteSource.ended in
    if_err_map c.note_one.result
    (λ f. of_refusal_map f
    (λ r is. first_at
    (λ s. IsStartRefusal (way_at c.args.ways.now c.args.place) (c.args.begun.now ≡ None) (told s) r)
    c.args.files.now c.args.place c.index-files-place.result c.note_one.new.file
    c.requires.place is))
    (rw c.at-way.ensures at c.note_one.ensures.refusal)

pub returns-clause-failures : goal.returns-clause-failures
returns-clause-failures g c =
    set_counted g.S.ByteSource.failures c.args.files.now c.args.place
    c.index-files-place.result c.note_one.new.file (end_outcome c.note_one.result)
    c.requires.place c.note_one.ensures.failures
