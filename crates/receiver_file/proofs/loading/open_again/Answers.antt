use Rattle.std.proofs.Common.{◌≡◌, ◌∙◌, ℕ, All, List, length, ap, subst, sym}
use Rattle.st_format.specs.declared.format.Format.{Format}
use Rattle.st_format.specs.Raster.{Raster}
use Rattle.path_receiver.specs.Opening.{Opening}
use Rattle.receiver_file.proofs.loading.open_again.Goals as goal

pub open-opened-requires : goal.open-opened-requires
open-opened-requires g c = c.requires.payload_type

pub set_frames-requires-clause-receiver : goal.set_frames-requires-clause-receiver
set_frames-requires-clause-receiver g c = c.in-Ok.ensures.receiver

pub set_frames-requires-clause-one_each : goal.set_frames-requires-clause-one_each
set_frames-requires-clause-one_each g c =
    ap (λ (rs : List Raster). length rs) c.as_mut_slice.ensures.value ∙ c.requires.one_each
    ∙ sym (ap (λ (w : List ℕ). length w) c.as_slice.ensures.value)
    ∙ sym (ap (λ (o : Opening). length o.window) c.in-Ok.ensures.opening)

pub set_frames-requires-clause-of_format : goal.set_frames-requires-clause-of_format
set_frames-requires-clause-of_format g c =
    subst (λ (rs : List Raster). All (λ r. r.format ≡ c.in-Ok.receiver.opening.format) rs)
    (sym c.as_mut_slice.ensures.value)
    (subst (λ (f : Format). All (λ (r : Raster). r.format ≡ f) c.args.frames.frames.items)
    (sym (ap (λ (o : Opening). o.format) c.in-Ok.ensures.opening))
    c.requires.of_format)

pub returns-clause-receiver : goal.returns-clause-receiver
returns-clause-receiver g c = c.set_frames.ensures.receiver

pub returns-clause-opening : goal.returns-clause-opening
returns-clause-opening g c =
    let of : List ℕ → Opening =
    λ w. record {
      format = c.args.format;
      payload_type = c.args.head.payload_type;
      ssrc = c.args.head.ssrc;
      window = w;
    } in
    c.set_frames.ensures.opening ∙ c.in-Ok.ensures.opening ∙ ap of c.as_slice.ensures.value

pub returns-clause-frames : goal.returns-clause-frames
returns-clause-frames g c = c.set_frames.ensures.frames ∙ c.as_mut_slice.ensures.value

pub returns-clause-refusals : goal.returns-clause-refusals
returns-clause-refusals g c = c.set_frames.ensures.refusals ∙ c.in-Ok.ensures.refusals

pub returns-clause-writable : goal.returns-clause-writable
returns-clause-writable g c = c.tell_receiver.ensures.writable
