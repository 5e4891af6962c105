use Rattle.std.proofs.Common.{◌≡◌, [], ◌∷◌, ℕ, List, ap, arith, inl, inr, length, refl, sum_by, sym}
use Rattle.std.proofs.lemmas.Result.{err_from_is_err_and}
use Rattle.std.specs.List.{zip}
use Rattle.std.specs.Option.{option_copied}
use Rattle.run_outcome.specs.Moments.{WasRead}
use Rattle.run_outcome.proofs.Refusals.{if_err_map, of_refusal_map}
use Rattle.capture_engines.proofs.Taken.{none_begun}
use Rattle.stream_inspection.proofs.Told.{begun_none, front_aimed, no_files, streams_refused}
use Rattle.stream_inspection.proofs.Told.{told_if}
use Rattle.stream_inspection.proofs.inspecting.inspect_streams.Goals as goal

pub returns-in_err-end-clause-refusal : goal.returns-in_err-end-clause-refusal
returns-in_err-end-clause-refusal g c =
    let told = WasRead g.S.ByteSource.gave g.S.ByteSource.ended in
    let sdp = option_copied c.args.sdp in
    let p =
    err_from_is_err_and c.from_residual-in_err-end.result
    c.from_residual-in_err-end.ensures.1 in
    rw (p.1, p.2) (of_refusal_map c.in_err-end.field-0.0
    (λ r is. inl (
      refl,
      inr (inr (front_aimed c.args.wanted sdp c.in_ok-begun.begun c.args.ways.now told
          (zip c.args.files.now c.note_files.new.files) c.in_ok-begun.ensures.begun r is)),
    ))
    c.in_err-end.ensures.refusal)

pub returns-in_default-clause-refusal : goal.returns-in_default-clause-refusal
returns-in_default-clause-refusal g c =
    let sdp = option_copied c.args.sdp in
    let none = c.in_ok-end.ensures.none (none_begun c.note_files.new.begun c.in_default.not-Some) in
    inl (
      refl,
      inr (inl (
        begun_none c.args.wanted sdp c.in_ok-begun.begun c.in_ok-begun.ensures.begun none.0,
        no_files c.args.files.now c.note_files.new.files none.1,
        refl,
      )),
    )

-- sums over no files
no_sums : {S : Type 0} (f : S → ℕ) (old new : List S) → old ≡ [] → length new ≡ length old
    → sum_by f new ≡ sum_by f old
no_sums f old [] none len = ap (sum_by f) (sym none)
no_sums {S} f old (s ∷ new) none len =
    let n : length old ≡ 0 = ap (λ (l : List S). length l) none in absurd (omega arith)

pub returns-in_default-clause-failures : goal.returns-in_default-clause-failures
returns-in_default-clause-failures g c =
    let none = c.in_ok-end.ensures.none (none_begun c.note_files.new.begun c.in_default.not-Some) in (
      no_sums g.S.ByteSource.failures c.args.files.now c.note_files.new.files none.1
          c.in_ok-end.ensures.len,
      refl,
    )

pub returns-clause-told : goal.returns-clause-told
returns-clause-told g c =
    told_if c.args.wanted c.args.form (option_copied c.args.sdp) c.args.ways.now
    (WasRead g.S.ByteSource.gave g.S.ByteSource.ended)
    (zip c.args.files.now c.note_files.new.files) c.in_ok-end.end
    c.in_ok-begun.begun c.note_files.new.begun c.in-Some.target c.new-inspection.result
    c.note_files.new.inspection _ _ c.in_ok-begun.ensures.begun c.new-inspection.ensures
    c.in_ok-end.ensures.noted c.in-Some.is c.finish.result c.finish.ensures.whole
    c.finish.ensures.printed

pub returns-clause-refusal : goal.returns-clause-refusal
returns-clause-refusal g c =
    if_err_map c.finish.result
    (λ f. of_refusal_map f
    (streams_refused c.args.wanted c.args.form (option_copied c.args.sdp) c.args.ways.now
    (WasRead g.S.ByteSource.gave g.S.ByteSource.ended)
    (zip c.args.files.now c.note_files.new.files) c.in_ok-end.end
    c.in_ok-begun.begun c.note_files.new.begun c.in-Some.target c.new-inspection.result
    c.note_files.new.inspection _ _ c.in_ok-begun.ensures.begun c.new-inspection.ensures
    c.in_ok-end.ensures.noted c.in-Some.is))
    c.finish.ensures.refusal

pub returns-clause-failures : goal.returns-clause-failures
returns-clause-failures g c =
    c.finish.ensures.failures _ c.in_ok-end.ensures.failures
