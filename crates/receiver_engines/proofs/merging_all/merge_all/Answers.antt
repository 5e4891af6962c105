use Rattle.std.proofs.Common.{◌≡◌, ◌++◌, inl, inr, refl}
use Rattle.std.specs.List.{zip}
use Rattle.media_file.specs.StateFile.{state_text}
use Rattle.receiver_engines.specs.MergedAll.{MergesAll, PrintsAll}
use Rattle.receiver_engines.specs.Merging.{Saves}
use Rattle.receiver_file.specs.Saved.{kept_of}
use Rattle.run_outcome.proofs.Printed.{on_err, on_ok, whenever}
use Rattle.run_outcome.proofs.Refusals.{device_alone}
use Rattle.run_outcome.specs.Moments.{WasRead}
use Rattle.st_format.specs.History.{IsRead}
use Rattle.receiver_engines.proofs.JoinedAll.{merges_all, prints_all}
use Rattle.receiver_engines.proofs.Merged.{lines_cut}
use Rattle.receiver_engines.proofs.merging_all.merge_all.Goals as goal

pub returns-clause-merged : goal.returns-clause-merged
returns-clause-merged g c =
    let now = c.join_all.new.first in
    let first =
    IsRead (g.S.ByteSource.gave c.args.first.now) (g.S.ByteSource.gave now)
    (g.S.ByteSource.ended now) in
    let told = WasRead g.S.ByteSource.gave g.S.ByteSource.ended in
    let others = zip c.args.others.now c.join_all.new.others in
    let old = g.K.ByteSink.took c.args.state.now in
    let new = g.K.ByteSink.took c.save_state.new.state in
    let m = c.in_ok-merged.merged in
    on_ok c.save_state.result (new ≡ old ++ state_text (kept_of m)) (MergesAll first told others old new)
    (merges_all first told others old new m c.in_ok-merged.ensures.joined) c.save_state.ensures.whole

pub returns-clause-printed : goal.returns-clause-printed
returns-clause-printed g c =
    let now = c.join_all.new.first in
    let first =
    IsRead (g.S.ByteSource.gave c.args.first.now) (g.S.ByteSource.gave now)
    (g.S.ByteSource.ended now) in
    let told = WasRead g.S.ByteSource.gave g.S.ByteSource.ended in
    let others = zip c.args.others.now c.join_all.new.others in
    let old = g.O.ByteSink.took c.args.output.now in
    let new = g.O.ByteSink.took c.print_frames.new.output in
    let m = c.in_ok-merged.merged in
    on_ok c.save_state.result
    (g.K.ByteSink.took c.save_state.new.state
    ≡ g.K.ByteSink.took c.args.state.now ++ state_text (kept_of m))
    (PrintsAll first told others old new)
    (λ saved. prints_all first told others old new m c.in_ok-merged.ensures.joined
    c.in_ok-print_frames.ensures.printed) c.save_state.ensures.whole

pub returns-clause-part : goal.returns-clause-part
returns-clause-part g c =
    let m = c.in_ok-merged.merged in
    on_err c.save_state.result _ _ (λ part. inr (m, c.in_ok-merged.ensures.joined, part))
    c.save_state.ensures.part

pub returns-clause-saved : goal.returns-clause-saved
returns-clause-saved g c =
    let old = g.K.ByteSink.took c.args.state.now in
    let new = g.K.ByteSink.took c.save_state.new.state in
    let m = c.in_ok-merged.merged in
    on_ok c.save_state.result (new ≡ old ++ state_text (kept_of m)) (Saves old new)
    (λ taken. record {
      receiver = m;
      writable = c.save_state.ensures.writable;
      taken = taken;
    }) c.save_state.ensures.whole

pub returns-clause-memory : goal.returns-clause-memory
returns-clause-memory g c = device_alone c.save_state.result _ c.save_state.ensures.device

pub returns-in_err-merged-clause-shown : goal.returns-in_err-merged-clause-shown
returns-in_err-merged-clause-shown g c = whenever c.from_residual.result _ (inl refl)

pub returns-in_err-print_frames-clause-shown : goal.returns-in_err-print_frames-clause-shown
returns-in_err-print_frames-clause-shown g c =
    let cut = c.in_err-print_frames.ensures in
    whenever c.from_residual-in_err-print_frames.result _
    (lines_cut g.O.ByteSink.took g.O.ByteSink.failures _ c.in_ok-merged.merged _ _
    c.in_err-print_frames.field-0.0 c.in_ok-merged.ensures.joined cut.device cut.failures cut.cut)

pub returns-clause-shown : goal.returns-clause-shown
returns-clause-shown g c =
    let m = c.in_ok-merged in
    whenever c.save_state.result _
    (inr (m.merged, m.ensures.joined, inl c.in_ok-print_frames.ensures.printed))
