use Rattle.std.proofs.Common.{inl, refl}
use Rattle.std.proofs.lemmas.Result.{err_from_is_err_and}
use Rattle.run_outcome.proofs.Refusals.{if_err_map, of_refusal_map}
use Rattle.st_format.specs.History.{IsRead}
use Rattle.picture_engine.proofs.Forms.{always_ok, part_map, writes_map}
use Rattle.picture_engine.proofs.Reasons.{marked_file, marked_frame, marked_timestamp}
use Rattle.picture_engine.specs.Shown.{OfFrame}
use Rattle.picture_engine.specs.Views.{IsMarkedView}
use Rattle.picture_engine.proofs.picturing.picture_marked.Goals as goal

pub returns-clause-shown : goal.returns-clause-shown
returns-clause-shown g c =
    let gave = g.S.ByteSource.gave in
    let source = c.read_receiver.new.source in
    let read = IsRead (gave c.args.state.now) (gave source) (g.S.ByteSource.ended source) in
    let q = c.in_ok-frame.frame.now in
    writes_map c.show_marked.result c.args.form (IsMarkedView q)
    (OfFrame read c.args.timestamp IsMarkedView) (g.K.ByteSink.took c.args.sink.now)
    (g.K.ByteSink.took c.show_marked.new.sink) (λ v is. record {
      receiver = c.in_ok-receiver.receiver;
      says = c.in_ok-receiver.ensures.found;
      again = c.in_ok-receiver.ensures.same;
      frame = q;
      frame_is = c.in_ok-frame.ensures.is;
      is = is;
    }) c.show_marked.ensures.shown

pub returns-clause-part : goal.returns-clause-part
returns-clause-part g c =
    let gave = g.S.ByteSource.gave in
    let source = c.read_receiver.new.source in
    let read = IsRead (gave c.args.state.now) (gave source) (g.S.ByteSource.ended source) in
    let q = c.in_ok-frame.frame.now in
    part_map c.show_marked.result c.args.form (IsMarkedView q)
    (OfFrame read c.args.timestamp IsMarkedView) (g.K.ByteSink.took c.args.sink.now)
    (g.K.ByteSink.took c.show_marked.new.sink) (λ v is. record {
      receiver = c.in_ok-receiver.receiver;
      says = c.in_ok-receiver.ensures.found;
      again = c.in_ok-receiver.ensures.same;
      frame = q;
      frame_is = c.in_ok-frame.ensures.is;
      is = is;
    }) c.show_marked.ensures.part

pub returns-in_err-receiver-clause-part : goal.returns-in_err-receiver-clause-part
returns-in_err-receiver-clause-part g c =
    let p = err_from_is_err_and c.from_residual.result c.from_residual.ensures.1 in
    rw (p.1) (inl refl)

pub returns-in_err-frame-clause-part : goal.returns-in_err-frame-clause-part
returns-in_err-frame-clause-part g c =
    let p =
    err_from_is_err_and c.from_residual-in_err-frame.result
    c.from_residual-in_err-frame.ensures.1 in
    rw (p.1) (inl refl)

pub returns-clause-ended : goal.returns-clause-ended
returns-clause-ended g c =
    always_ok (g.S.ByteSource.ended c.read_receiver.new.source) c.show_marked.result
    c.in_ok-receiver.ensures.ended

pub returns-clause-refusal : goal.returns-clause-refusal
returns-clause-refusal g c =
    let gave = g.S.ByteSource.gave in
    let source = c.read_receiver.new.source in
    let read = IsRead (gave c.args.state.now) (gave source) (g.S.ByteSource.ended source) in
    if_err_map c.show_marked.result (λ e is. of_refusal_map e (λ r refused.
    marked_frame read c.args.timestamp c.args.form c.in_ok-receiver.receiver
    c.in_ok-frame.frame.now r c.in_ok-receiver.ensures.found c.in_ok-frame.ensures.is refused) is)
    c.show_marked.ensures.refusal

pub returns-in_err-receiver-clause-refusal : goal.returns-in_err-receiver-clause-refusal
returns-in_err-receiver-clause-refusal g c =
    let gave = g.S.ByteSource.gave in
    let source = c.read_receiver.new.source in
    let read = IsRead (gave c.args.state.now) (gave source) (g.S.ByteSource.ended source) in
    let p = err_from_is_err_and c.from_residual.result c.from_residual.ensures.1 in
    rw (p.1, p.2)
    (of_refusal_map c.in_err-receiver.field-0.0 (λ r refused.
    marked_file read c.args.timestamp c.args.form r refused) c.in_err-receiver.ensures.refused)

pub returns-in_err-frame-clause-refusal : goal.returns-in_err-frame-clause-refusal
returns-in_err-frame-clause-refusal g c =
    let gave = g.S.ByteSource.gave in
    let source = c.read_receiver.new.source in
    let read = IsRead (gave c.args.state.now) (gave source) (g.S.ByteSource.ended source) in
    let p =
    err_from_is_err_and c.from_residual-in_err-frame.result
    c.from_residual-in_err-frame.ensures.1 in
    rw (p.1, p.2)
    (marked_timestamp c.in_err-frame.field-0.0 read c.args.timestamp c.args.form
    c.in_ok-receiver.receiver c.in_ok-receiver.ensures.found c.in_err-frame.ensures.refused)
