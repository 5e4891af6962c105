use Rattle.std.proofs.Common.{◌≡◌, List, ◌++◌, ℕ, subst}
use Rattle.std.specs.Prelude.{OnErr, OnOk}
use Rattle.std.specs.Io.KnownBytes.{Appends}
use Rattle.st_format.specs.Device.{AppendsPrefix, GrowsPart}
use Rattle.media_file.proofs.picture_writing.write_piece.Goals as goal

pub returns-clause-ok : goal.returns-clause-ok
returns-clause-ok g c =
    subst (λ (t : List ℕ). OnOk c.write_whole.result
    (Appends (g.K.ByteSink.held c.args.sink.now)
    (g.K.ByteSink.held c.write_whole.new.sink) t)) c.pack.ensures c.write_whole.ensures.ok

pub returns-clause-fault : goal.returns-clause-fault
returns-clause-fault g c =
    subst (λ (t : List ℕ). OnErr c.write_whole.result
    (AppendsPrefix (g.K.ByteSink.held c.args.sink.now)
    (g.K.ByteSink.held c.write_whole.new.sink) t)) c.pack.ensures c.write_whole.ensures.fault

pub returns-clause-took : goal.returns-clause-took
returns-clause-took g c =
    subst (λ (t : List ℕ). OnOk c.write_whole.result
    (g.K.ByteSink.took c.write_whole.new.sink ≡ g.K.ByteSink.took c.args.sink.now ++ t))
    c.pack.ensures c.write_whole.ensures.took

pub returns-clause-part : goal.returns-clause-part
returns-clause-part g c =
    subst (λ (t : List ℕ). OnErr c.write_whole.result
    (GrowsPart (g.K.ByteSink.took c.args.sink.now) (g.K.ByteSink.took c.write_whole.new.sink) t))
    c.pack.ensures c.write_whole.ensures.part
