use Rattle.std.proofs.Common.{◌≡◌, ◌∙◌, ℕ, Bool, length, subst, refl, inl, inr}
use Rattle.std.proofs.lemmas.Result.{err_from_is_err_and}
use Rattle.std.specs.List.{zip}
use Rattle.run_outcome.proofs.Refusals.{of_refusal_map}
use Rattle.run_outcome.specs.Moments.{WasRead}
use Rattle.pcap_file.specs.Runs.{most_packet}
use Rattle.inspect_engine.specs.Inspected.{IsFirstFailed, NotesAll}
use Rattle.inspect_engine.proofs.Telling.{tells_noted}
use Rattle.inspect_engine.proofs.inspecting.inspect.Goals as goal

pub returns-in_err-is_cut-clause-refusal : goal.returns-in_err-is_cut-clause-refusal
returns-in_err-is_cut-clause-refusal g c =
    let told = WasRead g.S.ByteSource.gave g.S.ByteSource.ended in
    let pairs = zip c.args.recordings.now c.note_recordings.new.recordings in
    let same : length c.deref_mut.result.now ≡ most_packet =
    c.deref_mut.ensures.len ∙ c.in_ok-buf.ensures in
    let p =
    err_from_is_err_and c.from_residual-in_err-is_cut.result
    c.from_residual-in_err-is_cut.ensures.1 in
    rw (p.1, p.2)
    (of_refusal_map c.in_err-is_cut.field-0.0
    (λ r is. inr (refl, subst (λ (n : ℕ). IsFirstFailed n told pairs r) same is))
    c.in_err-is_cut.ensures.refusal)

pub returns-then-is_cut-clause-refusal : goal.returns-then-is_cut-clause-refusal
returns-then-is_cut-clause-refusal g c =
    let told = WasRead g.S.ByteSource.gave g.S.ByteSource.ended in
    let pairs = zip c.args.recordings.now c.note_recordings.new.recordings in
    let same : length c.deref_mut.result.now ≡ most_packet =
    c.deref_mut.ensures.len ∙ c.in_ok-buf.ensures in
    let old = c.new-inspection.result in
    let new = c.note_recordings.new.inspection in
    inl (
      refl,
      tells_noted c.args.form told pairs _ old new _ _ c.new-inspection.ensures.flows
          c.new-inspection.ensures.left_out
          (subst (λ (b : Bool). NotesAll most_packet told pairs b old new) c.if-is_cut.true
          (subst (λ (n : ℕ). NotesAll n told pairs c.in_ok-is_cut.is_cut old new) same
          c.in_ok-is_cut.ensures.noted)) c.in_ok-print_inspection.ensures.printed,
    )

pub returns-clause-told : goal.returns-clause-told
returns-clause-told g c =
    let told = WasRead g.S.ByteSource.gave g.S.ByteSource.ended in
    let pairs = zip c.args.recordings.now c.note_recordings.new.recordings in
    let same : length c.deref_mut.result.now ≡ most_packet =
    c.deref_mut.ensures.len ∙ c.in_ok-buf.ensures in
    let old = c.new-inspection.result in
    let new = c.note_recordings.new.inspection in
    tells_noted c.args.form told pairs _ old new _ _ c.new-inspection.ensures.flows
    c.new-inspection.ensures.left_out
    (subst (λ (b : Bool). NotesAll most_packet told pairs b old new) c.if-is_cut.false
    (subst (λ (n : ℕ). NotesAll n told pairs c.in_ok-is_cut.is_cut old new) same
    c.in_ok-is_cut.ensures.noted)) c.in_ok-print_inspection.ensures.printed
