use Rattle.std.proofs.Common.{inl, refl}
use Rattle.std.proofs.lemmas.Result.{err_from_is_err_and}
use Rattle.run_outcome.proofs.Refusals.{if_err_map, of_refusal_map}
use Rattle.run_outcome.specs.Moments.{WasRead, pair}
use Rattle.st_format.specs.History.{IsRead}
use Rattle.picture_engine.proofs.Forms.{always_ok, part_map, writes_map}
use Rattle.picture_engine.proofs.Reasons.{settled_file, settled_held, settled_text}
use Rattle.picture_engine.proofs.Reasons.{settled_timestamp, settling_refused}
use Rattle.picture_engine.specs.Shown.{OfFrame, SettlesFiles}
use Rattle.picture_engine.specs.Views.{SettlesFrame}
use Rattle.picture_engine.proofs.picturing.picture_settled.Goals as goal

pub returns-clause-shown : goal.returns-clause-shown
returns-clause-shown g c =
    let gave = g.S.ByteSource.gave in
    let source = c.read_receiver.new.source in
    let read = IsRead (gave c.args.state.now) (gave source) (g.S.ByteSource.ended source) in
    let told = WasRead gave g.S.ByteSource.ended in
    let hold = pair c.args.hold.now c.read_held.new.hold in
    let held = c.in_ok-held.held in
    let q = c.in_ok-frame.frame.now in
    writes_map c.show_settled.result c.args.form (SettlesFrame c.args.text held q)
    (OfFrame read c.args.timestamp (SettlesFiles told hold c.args.text))
    (g.K.ByteSink.took c.args.sink.now) (g.K.ByteSink.took c.show_settled.new.sink)
    (λ v is. record {
      receiver = c.in_ok-receiver.receiver;
      says = c.in_ok-receiver.ensures.found;
      again = c.in_ok-receiver.ensures.same;
      frame = q;
      frame_is = c.in_ok-frame.ensures.is;
      is = (held, c.in_ok-held.ensures.says, is);
    }) c.show_settled.ensures.shown

pub returns-clause-part : goal.returns-clause-part
returns-clause-part g c =
    let gave = g.S.ByteSource.gave in
    let source = c.read_receiver.new.source in
    let read = IsRead (gave c.args.state.now) (gave source) (g.S.ByteSource.ended source) in
    let told = WasRead gave g.S.ByteSource.ended in
    let hold = pair c.args.hold.now c.read_held.new.hold in
    let held = c.in_ok-held.held in
    let q = c.in_ok-frame.frame.now in
    part_map c.show_settled.result c.args.form (SettlesFrame c.args.text held q)
    (OfFrame read c.args.timestamp (SettlesFiles told hold c.args.text))
    (g.K.ByteSink.took c.args.sink.now) (g.K.ByteSink.took c.show_settled.new.sink)
    (λ v is. record {
      receiver = c.in_ok-receiver.receiver;
      says = c.in_ok-receiver.ensures.found;
      again = c.in_ok-receiver.ensures.same;
      frame = q;
      frame_is = c.in_ok-frame.ensures.is;
      is = (held, c.in_ok-held.ensures.says, is);
    }) c.show_settled.ensures.part

pub returns-in_err-check_text-clause-part : goal.returns-in_err-check_text-clause-part
returns-in_err-check_text-clause-part g c =
    let p = err_from_is_err_and c.from_residual.result c.from_residual.ensures.1 in
    rw (p.1) (inl refl)

pub returns-in_err-receiver-clause-part : goal.returns-in_err-receiver-clause-part
returns-in_err-receiver-clause-part g c =
    let p =
    err_from_is_err_and c.from_residual-in_err-receiver.result
    c.from_residual-in_err-receiver.ensures.1 in
    rw (p.1) (inl refl)

pub returns-in_err-held-clause-part : goal.returns-in_err-held-clause-part
returns-in_err-held-clause-part g c =
    let p =
    err_from_is_err_and c.from_residual-in_err-held.result c.from_residual-in_err-held.ensures.1 in
    rw (p.1) (inl refl)

pub returns-in_err-frame-clause-part : goal.returns-in_err-frame-clause-part
returns-in_err-frame-clause-part g c =
    let p =
    err_from_is_err_and c.from_residual-in_err-frame.result
    c.from_residual-in_err-frame.ensures.1 in
    rw (p.1) (inl refl)

pub returns-clause-ended : goal.returns-clause-ended
returns-clause-ended g c =
    always_ok (g.S.ByteSource.ended c.read_receiver.new.source) c.show_settled.result
    c.in_ok-receiver.ensures.ended

pub returns-clause-refusal : goal.returns-clause-refusal
returns-clause-refusal g c =
    let gave = g.S.ByteSource.gave in
    let source = c.read_receiver.new.source in
    let read = IsRead (gave c.args.state.now) (gave source) (g.S.ByteSource.ended source) in
    let told = WasRead gave g.S.ByteSource.ended in
    let hold = pair c.args.hold.now c.read_held.new.hold in
    if_err_map c.show_settled.result (λ e is. of_refusal_map e (λ r refused.
    settling_refused read told hold c.args.text c.args.timestamp c.args.form
    c.in_ok-receiver.receiver c.in_ok-held.held c.in_ok-frame.frame.now r
    c.in_ok-check_text.ensures.says c.in_ok-receiver.ensures.found c.in_ok-held.ensures.says
    c.in_ok-frame.ensures.is refused) is) c.show_settled.ensures.refusal

pub returns-in_err-check_text-clause-refusal : goal.returns-in_err-check_text-clause-refusal
returns-in_err-check_text-clause-refusal g c =
    let gave = g.S.ByteSource.gave in
    let source = c.args.state.now in
    let read = IsRead (gave source) (gave source) (g.S.ByteSource.ended source) in
    let told = WasRead gave g.S.ByteSource.ended in
    let hold = pair c.args.hold.now c.args.hold.now in
    let p = err_from_is_err_and c.from_residual.result c.from_residual.ensures.1 in
    rw (p.1, p.2)
    (settled_text c.in_err-check_text.field-0.0 read told hold c.args.text c.args.timestamp
    c.args.form c.in_err-check_text.ensures.refused)

pub returns-in_err-receiver-clause-refusal : goal.returns-in_err-receiver-clause-refusal
returns-in_err-receiver-clause-refusal g c =
    let gave = g.S.ByteSource.gave in
    let source = c.read_receiver.new.source in
    let read = IsRead (gave c.args.state.now) (gave source) (g.S.ByteSource.ended source) in
    let told = WasRead gave g.S.ByteSource.ended in
    let hold = pair c.args.hold.now c.args.hold.now in
    let p =
    err_from_is_err_and c.from_residual-in_err-receiver.result
    c.from_residual-in_err-receiver.ensures.1 in
    rw (p.1, p.2)
    (of_refusal_map c.in_err-receiver.field-0.0 (λ r refused.
    settled_file read told hold c.args.text c.args.timestamp c.args.form r
    c.in_ok-check_text.ensures.says refused) c.in_err-receiver.ensures.refused)

pub returns-in_err-held-clause-refusal : goal.returns-in_err-held-clause-refusal
returns-in_err-held-clause-refusal g c =
    let gave = g.S.ByteSource.gave in
    let source = c.read_receiver.new.source in
    let read = IsRead (gave c.args.state.now) (gave source) (g.S.ByteSource.ended source) in
    let told = WasRead gave g.S.ByteSource.ended in
    let hold = pair c.args.hold.now c.read_held.new.hold in
    let p =
    err_from_is_err_and c.from_residual-in_err-held.result c.from_residual-in_err-held.ensures.1 in
    rw (p.1, p.2)
    (of_refusal_map c.in_err-held.field-0.0 (λ r refused.
    settled_held read told hold c.args.text c.args.timestamp c.args.form r
    c.in_ok-receiver.receiver c.in_ok-check_text.ensures.says c.in_ok-receiver.ensures.found
    refused) c.in_err-held.ensures.refused)

pub returns-in_err-frame-clause-refusal : goal.returns-in_err-frame-clause-refusal
returns-in_err-frame-clause-refusal g c =
    let gave = g.S.ByteSource.gave in
    let source = c.read_receiver.new.source in
    let read = IsRead (gave c.args.state.now) (gave source) (g.S.ByteSource.ended source) in
    let told = WasRead gave g.S.ByteSource.ended in
    let hold = pair c.args.hold.now c.read_held.new.hold in
    let p =
    err_from_is_err_and c.from_residual-in_err-frame.result
    c.from_residual-in_err-frame.ensures.1 in
    rw (p.1, p.2)
    (settled_timestamp c.in_err-frame.field-0.0 read told hold c.args.text c.args.timestamp
    c.args.form c.in_ok-receiver.receiver c.in_ok-held.held c.in_ok-check_text.ensures.says
    c.in_ok-receiver.ensures.found c.in_ok-held.ensures.says c.in_err-frame.ensures.refused)
