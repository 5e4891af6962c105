use Rattle.std.proofs.Common.{[], ◌∷◌, subst, sym}
use Rattle.run_outcome.specs.Fault.{Blames, counts}
use Rattle.run_outcome.specs.Refusing.{OfRefusal}
use Rattle.run_outcome.specs.declared.fault.Fault.{Fault}
use Rattle.stream_sending.specs.Reading.{IsNextRefusal}
use Rattle.convert_engine.proofs.Refusals.{form_blames}
use Rattle.stream_sending.proofs.FramesRead.{next_given, next_reads, next_refused}
use Rattle.stream_sending.proofs.frames.next_picture.Goals as goal

pub returns-in-Ok-clause-reads : goal.returns-in-Ok-clause-reads
returns-in-Ok-clause-reads g c =
    next_reads _ _ (c.in-Ok.ensures.stands c.requires.reads)

pub returns-in-Ok-clause-gave : goal.returns-in-Ok-clause-gave
returns-in-Ok-clause-gave g c =
    next_given c.args.reader.now.format _ _ _ _ _ _ (c.in-Ok.ensures.found c.requires.reads)
    (c.in-Ok.ensures.gave c.requires.reads)

pub returns-in-Err-clause-refusal : goal.returns-in-Err-clause-refusal
returns-in-Err-clause-refusal g c =
    let told = g.S.ByteSource in
    let f = c.args.reader.now.format in
    subst (λ (fault : Fault). OfRefusal fault (IsNextRefusal f
    (told.gave c.args.reader.now.source) (told.gave c.next_picture.new.self.source)
    (told.ended c.next_picture.new.self.source))) (sym c.of_form.ensures)
    (next_refused f _ _ _ c.in-Err.fault (c.in-Err.ensures.gave_wrong c.requires.reads)
    (c.in-Err.ensures.begun c.requires.reads))

pub returns-in-Err-clause-failures : goal.returns-in-Err-clause-failures
returns-in-Err-clause-failures g c =
    let told = g.S.ByteSource in
    subst (λ (fault : Fault). Blames (counts (told.failures c.args.reader.now.source)
    (told.failures c.next_picture.new.self.source) ∷ []) fault) (sym c.of_form.ensures)
    (form_blames c.in-Err.fault _ _ (c.in-Err.ensures.counted c.requires.reads))

pub returns-in-Err-clause-gave_part : goal.returns-in-Err-clause-gave_part
returns-in-Err-clause-gave_part g c = c.in-Err.ensures.gave_part c.requires.reads
