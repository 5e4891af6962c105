use Rattle.export_engine.proofs.places.Envelopes.read.Goals as goal

pub returns-in_err-a : goal.returns-in_err-a
returns-in_err-a c =
    rw c.from_residual.ensures (λ es are. c.in_err-a.ensures es.a are.first)
