use Rattle.std.proofs.Common.{List, ℕ, subst}
use Rattle.std.proofs.lemmas.Result.{err_from_is_err_and}
use Rattle.st_format.specs.Device.{AppendsPrefix, GrowsPart}
use Rattle.media_file.specs.StateFile.{Kept}
use Rattle.media_file.proofs.Written.{part_first, part_then, prefix_first, prefix_then}
use Rattle.receiver_file.specs.Saved.{kept_frames_text, kept_front_text, kept_of}
use Rattle.receiver_file.proofs.KeptRuns.{state_parts}
use Rattle.receiver_file.proofs.saving.save_receiver.Goals as goal

pub returns-in_err-write_start-clause-fault : goal.returns-in_err-write_start-clause-fault
returns-in_err-write_start-clause-fault g c =
    let p = err_from_is_err_and c.from_residual.result c.from_residual.ensures.1 in
    let k : Kept = kept_of c.args.receiver.now in
    rw (p.1, p.2) (
      tt,
      subst (λ (t : List ℕ). AppendsPrefix (g.K.ByteSink.held c.args.sink.now)
          (g.K.ByteSink.held c.write_start.new.sink) t) (state_parts k)
          (prefix_first _ _ (kept_front_text k)
          (kept_frames_text k) c.in_err-write_start.ensures.fault),
    )

pub returns-in_err-write_frames-clause-fault : goal.returns-in_err-write_frames-clause-fault
returns-in_err-write_frames-clause-fault g c =
    let p =
    err_from_is_err_and c.from_residual-in_err-write_frames.result
    c.from_residual-in_err-write_frames.ensures.1 in
    let k : Kept = kept_of c.args.receiver.now in
    rw (p.1, p.2) (
      tt,
      subst (λ (t : List ℕ). AppendsPrefix (g.K.ByteSink.held c.args.sink.now)
          (g.K.ByteSink.held c.write_frames.new.sink) t) (state_parts k)
          (prefix_then _ _ _ (kept_front_text k)
          (kept_frames_text k) c.in_ok-write_start.ensures.ok c.in_err-write_frames.ensures.fault),
    )

pub returns-in_err-write_start-clause-took_part : goal.returns-in_err-write_start-clause-took_part
returns-in_err-write_start-clause-took_part g c =
    let p = err_from_is_err_and c.from_residual.result c.from_residual.ensures.1 in
    let k : Kept = kept_of c.args.receiver.now in
    rw (p.1)
    (subst (GrowsPart (g.K.ByteSink.took c.args.sink.now)
    (g.K.ByteSink.took c.write_start.new.sink)) (state_parts k)
    (part_first _ _ (kept_front_text k)
    (kept_frames_text k) c.in_err-write_start.ensures.took_part))

pub returns-in_err-write_frames-clause-took_part : goal.returns-in_err-write_frames-clause-took_part
returns-in_err-write_frames-clause-took_part g c =
    let p =
    err_from_is_err_and c.from_residual-in_err-write_frames.result
    c.from_residual-in_err-write_frames.ensures.1 in
    let k : Kept = kept_of c.args.receiver.now in
    rw (p.1)
    (subst (GrowsPart (g.K.ByteSink.took c.args.sink.now)
    (g.K.ByteSink.took c.write_frames.new.sink)) (state_parts k)
    (part_then _ _ _ (kept_front_text k)
    (kept_frames_text k) c.in_ok-write_start.ensures.took
    c.in_err-write_frames.ensures.took_part))
