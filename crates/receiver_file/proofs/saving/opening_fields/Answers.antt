use Rattle.std.proofs.Common.{◌∙◌, ap, length, ℕ, List}
use Rattle.receiver_file.proofs.KeptRuns.{opening_same}
use Rattle.receiver_file.proofs.saving.opening_fields.Goals as goal

pub returns : goal.returns
returns g c =
    c.opening_of.ensures
    ∙ opening_same c.args.receiver.now _ _ _ c.window.ensures.receiver
    c.payload_type.ensures.payload_type c.ssrc.ensures.ssrc
    (ap (λ (w : List ℕ). length w) c.window.ensures.window)
