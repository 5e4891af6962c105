use Rattle.run_outcome.specs.Moments.{WasRead, pair}
use Rattle.st_format.specs.History.{IsRead}
use Rattle.picture_engine.proofs.Forms.{marked_part, marked_shown, settled_part, settled_shown}
use Rattle.picture_engine.proofs.Reasons.{accounts_between, marked_refusal, settled_refusal}
use Rattle.picture_engine.proofs.picturing.picture.Goals as goal

pub returns-in-Settled-clause-shown : goal.returns-in-Settled-clause-shown
returns-in-Settled-clause-shown g c =
    let gave = g.S.ByteSource.gave in
    let new = c.picture_settled.new in
    settled_shown c.picture_settled.result
    (IsRead (gave c.args.state.now) (gave new.state) (g.S.ByteSource.ended new.state))
    (WasRead gave g.S.ByteSource.ended) (pair c.args.hold.now new.hold) c.args.asked
    c.in-Settled.text (g.K.ByteSink.took c.args.sink.now) (g.K.ByteSink.took new.sink)
    c.in-Settled.is c.picture_settled.ensures.shown

pub returns-in-Settled-clause-part : goal.returns-in-Settled-clause-part
returns-in-Settled-clause-part g c =
    let gave = g.S.ByteSource.gave in
    let new = c.picture_settled.new in
    settled_part c.picture_settled.result
    (IsRead (gave c.args.state.now) (gave new.state) (g.S.ByteSource.ended new.state))
    (WasRead gave g.S.ByteSource.ended) (pair c.args.hold.now new.hold) c.args.asked
    c.in-Settled.text (g.K.ByteSink.took c.args.sink.now) (g.K.ByteSink.took new.sink)
    c.in-Settled.is c.picture_settled.ensures.part

pub returns-in-Settled-clause-refusal : goal.returns-in-Settled-clause-refusal
returns-in-Settled-clause-refusal g c =
    let gave = g.S.ByteSource.gave in
    let new = c.picture_settled.new in
    settled_refusal c.picture_settled.result
    (IsRead (gave c.args.state.now) (gave new.state) (g.S.ByteSource.ended new.state))
    (WasRead gave g.S.ByteSource.ended) (pair c.args.hold.now new.hold) c.args.asked
    c.in-Settled.text c.in-Settled.is c.picture_settled.ensures.refusal

pub returns-in-Marked-clause-shown : goal.returns-in-Marked-clause-shown
returns-in-Marked-clause-shown g c =
    let gave = g.S.ByteSource.gave in
    let new = c.picture_marked.new in
    marked_shown c.picture_marked.result
    (IsRead (gave c.args.state.now) (gave new.state) (g.S.ByteSource.ended new.state))
    (WasRead gave g.S.ByteSource.ended) (pair c.args.hold.now c.args.hold.now) c.args.asked
    (g.K.ByteSink.took c.args.sink.now) (g.K.ByteSink.took new.sink)
    c.in-Marked.is c.picture_marked.ensures.shown

pub returns-in-Marked-clause-part : goal.returns-in-Marked-clause-part
returns-in-Marked-clause-part g c =
    let gave = g.S.ByteSource.gave in
    let new = c.picture_marked.new in
    marked_part c.picture_marked.result
    (IsRead (gave c.args.state.now) (gave new.state) (g.S.ByteSource.ended new.state))
    (WasRead gave g.S.ByteSource.ended) (pair c.args.hold.now c.args.hold.now) c.args.asked
    (g.K.ByteSink.took c.args.sink.now) (g.K.ByteSink.took new.sink)
    c.in-Marked.is c.picture_marked.ensures.part

pub returns-in-Marked-clause-refusal : goal.returns-in-Marked-clause-refusal
returns-in-Marked-clause-refusal g c =
    let gave = g.S.ByteSource.gave in
    let new = c.picture_marked.new in
    marked_refusal c.picture_marked.result
    (IsRead (gave c.args.state.now) (gave new.state) (g.S.ByteSource.ended new.state))
    (WasRead gave g.S.ByteSource.ended) (pair c.args.hold.now c.args.hold.now) c.args.asked
    c.in-Marked.is c.picture_marked.ensures.refusal

pub returns-in-Marked-clause-failures : goal.returns-in-Marked-clause-failures
returns-in-Marked-clause-failures g c =
    let reads = g.S.ByteSource.failures in
    let writes = g.K.ByteSink.failures in
    let new = c.picture_marked.new in
    accounts_between c.picture_marked.result (reads c.args.state.now) (reads new.state) _
    (writes c.args.sink.now) (writes new.sink) c.picture_marked.ensures.failures
