use Rattle.std.proofs.Common.{◌≡◌, List, [], ℕ, ap, sym, ◌∙◌, map, rules}
use Rattle.st_format.specs.Raster.{raster_of}
use Rattle.path_receiver.proofs.Blank.{receiver_blank}
use Rattle.path_receiver.proofs.Frames.{holds_blank}
use Rattle.path_receiver.proofs.receiver.Receiver.of_window.Goals as goal

pub invariant_of-result : goal.invariant_of-result
invariant_of-result g c =
    let none : c.in_ok-refusals.refusals.items ≡ [] = search rules in (
      receiver_blank c.args.format c.args.payload_type c.args.ssrc c.args.window.now
          c.timestamps.result.items c.in_ok-frames.frames.items c.in_ok-refusals.refusals.items
          c.requires.payload_type c.requires.window c.timestamps.ensures
          c.in_ok-frames.ensures.blank none,
      search rules,
    )

pub returns-clause-receiver : goal.returns-clause-receiver
returns-clause-receiver g c = (invariant_of-result g c).0

pub returns-clause-holds : goal.returns-clause-holds
returns-clause-holds g c =
    c.in_ok-frames.ensures.blank ∙ holds_blank c.args.format c.args.window.now
    ∙ ap (λ (w : List ℕ). map (raster_of c.args.format []) w) (sym c.timestamps.ensures)
