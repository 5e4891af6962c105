use Rattle.std.proofs.Common.{◌≡◌, List, ℕ, ◌++◌, subst}
use Rattle.std.specs.Prelude.{OnErr, OnOk}
use Rattle.st_format.specs.Device.{GrowsPart}
use Rattle.form_files.proofs.raw_writing.write_piece.Goals as goal

pub returns-clause-took : goal.returns-clause-took
returns-clause-took g c =
    subst (λ (t : List ℕ). OnOk c.write_whole.result
    (g.K.ByteSink.took c.write_whole.new.sink ≡ g.K.ByteSink.took c.args.sink.now ++ t))
    c.pack.ensures c.write_whole.ensures.took

pub returns-clause-part : goal.returns-clause-part
returns-clause-part g c =
    subst (λ (t : List ℕ). OnErr c.write_whole.result
    (GrowsPart (g.K.ByteSink.took c.args.sink.now) (g.K.ByteSink.took c.write_whole.new.sink) t))
    c.pack.ensures c.write_whole.ensures.part
