use Rattle.std.proofs.Common.{◌∙◌, ℕ, List, ap, length, sym}
use Rattle.frame_sinks.proofs.Written.{picture_format, picture_is, samples_back, values}
use Rattle.frame_sinks.specs.Pictures.{picture_of}
use Rattle.st_format.specs.Picture.{Values}
use Rattle.st_format.specs.Position.{sample_count}
use Rattle.std.specs.Prelude.{Option}
use Rattle.frame_sinks.proofs.settling.Settling.settle.Goals as goal

pub returns-clause-picture : goal.returns-clause-picture
returns-clause-picture g c =
    let room = c.take_room.new.self in
    let same = c.in_ok-samples.ensures in
    let format = c.format-format.ensures.format in
    let back =
    samples_back c.in_ok-samples.samples.len c.in_ok-samples.samples.items c.settle_next.new.samples
    (sym c.as_mut_slice.ensures.len ∙ ap length c.as_mut_slice.ensures.value)
    (c.settle_next.ensures.whole.whole ∙ sym (same.room ∙ ap sample_count format)) in
    c.from_samples.ensures.value
    ∙ ap (λ (s : List ℕ). values c.format-format.result s) back
    ∙ picture_is c.format-format.result c.settle_next.new.samples
    (picture_of room.fill room.held c.args.frame.now)
    (format ∙ sym (picture_format room.fill room.held c.args.frame.now)) c.settle_next.ensures.settled
    ∙ ap (λ (x : Option (List ℕ)). picture_of x room.held c.args.frame.now) same.fill
    ∙ ap (λ (x : Option Values). picture_of c.args.self.now.fill x c.args.frame.now) same.held
