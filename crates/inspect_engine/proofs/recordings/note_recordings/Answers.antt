use Rattle.std.proofs.Common.{◌≡◌, ◌∙◌, ◌<◌, ◌+◌, ◌||◌, Bool, Ok, ap, arith, drop, length, set, subst, sym, take}
use Rattle.std.proofs.Math.ListN.{length-set}
use Rattle.std.proofs.lemmas.List.{drop-drop, drop-set-lt}
use Rattle.std.proofs.lemmas.Result.{err_from_is_err_and}
use Rattle.std.specs.List.{zip}
use Rattle.run_outcome.specs.Moments.{WasRead}
use Rattle.run_outcome.proofs.SetSums.{set_counted}
use Rattle.run_outcome.proofs.Refusals.{of_refusal_map}
use Rattle.inspect_engine.specs.Inspected.{IsFaultOf, NotesAll, NotesOctets, end_of}
use Rattle.inspect_engine.proofs.Noting.{more_noted}
use Rattle.inspect_engine.proofs.Telling.{first_fault}
use Rattle.inspect_engine.proofs.recordings.note_recordings.Goals as goal
use Rattle.inspect_engine.proofs.recordings.note_recordings.Goals.{then-cut, else-cut}

pub loop-place-preserved : goal.loop-place-preserved
loop-place-preserved g c =
    let l = c.loop-place in
    let i = l.invariant in
    let told = WasRead g.S.ByteSource.gave g.S.ByteSource.ended in
    let d = c.index-recordings-place.result in
    let y = c.note_one.new.recording in
    let short : Bool = c.in_ok-short.short in
    let lt : l.place < length l.recordings = omega (arith, c.loop-place-test.true, i.len) in
    let one : l.place < l.place + 1 = omega arith in
    let both : (l.cut || short) ≡ c.if-cut.cut =
    elim c.if-cut.branch [
      | then-cut w ↦ ap (λ (b : Bool). b || short) w.if-cut.true ∙ sym w.if-cut.true ∙ sym w.cut-is
      | else-cut w ↦ ap (λ (b : Bool). b || short) w.if-cut.false ∙ sym w.cut-is
    ] in
    record {
      len = simp length-set i.len;
      behind = drop-set-lt (l.place + 1) l.recordings l.place y one
          ∙ sym (drop-drop 1 l.place l.recordings) ∙ ap (drop 1) i.behind
          ∙ drop-drop 1 l.place c.args.recordings.now;
      failures = set_counted g.S.ByteSource.failures l.recordings l.place d y (Ok short) lt
          c.in_ok-short.ensures.failures
          ∙ i.failures;
      noted = subst
          (λ (b : Bool). NotesAll (length c.args.buf.now) told
          (zip (take (l.place + 1) c.args.recordings.now)
          (take (l.place + 1) (set l.recordings l.place y))) b c.args.inspection.now
          c.note_one.new.inspection) both
          (more_noted (length c.args.buf.now) told c.args.recordings.now l.recordings l.place d y
          l.cut short c.args.inspection.now l.inspection c.note_one.new.inspection i.noted
          i.behind i.len lt c.index-recordings-place.is
          (subst
          (λ (n : _). NotesOctets n (told (d, y)) (end_of short) l.inspection
          c.note_one.new.inspection) l.auto.buf (subst
          (λ (s : _). NotesOctets (length l.buf) (told (s, y)) (end_of short) l.inspection
          c.note_one.new.inspection) (sym c.index-recordings-place.is)
          c.in_ok-short.ensures.noted)));
    }

pub returns-in_err-short-clause-refusal : goal.returns-in_err-short-clause-refusal
returns-in_err-short-clause-refusal g c =
    let l = c.loop-place in
    let i = l.invariant in
    let told = WasRead g.S.ByteSource.gave g.S.ByteSource.ended in
    let d = c.index-recordings-place.result in
    let y = c.note_one.new.recording in
    let lt : l.place < length l.recordings = omega (arith, c.loop-place-test.true, i.len) in
    let p = err_from_is_err_and c.from_residual.result c.from_residual.ensures.1 in
    rw (p.1, p.2)
    (of_refusal_map c.in_err-short.field-0.0
    (λ r is.
    first_fault (length c.args.buf.now) told c.args.recordings.now l.recordings l.place d y l.cut
    c.args.inspection.now l.inspection r i.noted i.behind i.len lt c.index-recordings-place.is
    (subst (λ (n : _). IsFaultOf n (told (d, y)) r) l.auto.buf
    (subst (λ (s : _). IsFaultOf (length l.buf) (told (s, y)) r)
    (sym c.index-recordings-place.is) is))) c.in_err-short.ensures.refusal)
