use Rattle.std.proofs.Common.{ℕ, sym, ap, ◌≡◌, ◌∙◌, length, map, get_or, drop}
use Rattle.std.specs.List.{range_with_len}
use Rattle.std.proofs.lemmas.List.{take_at}
use Rattle.st_format.specs.Position.{component_in_row, sample_count}
use Rattle.st_format.proofs.PictureLemmas.{filled-samples}
use Rattle.st_format.proofs.picture.filled_samples.Goals as goal

pub returns : goal.returns
returns g c =
    let f = c.args.format in
    let values = λ (k : ℕ). get_or c.args.fill (component_in_row f.sampling k) 0 in
    let new = c.fill_samples.new.samples in
    let n : length c.as_mut_slice.result.now ≡ sample_count f =
    c.as_mut_slice.ensures.len ∙ c.in_ok-samples.ensures.len ∙ c.sample_count.ensures.value in
    let is : new ≡ map values (range_with_len 0 (sample_count f)) =
    c.fill_samples.ensures ∙ ap (λ (k : ℕ). map values (range_with_len 0 k)) n in
    let long : length new ≡ c.in_ok-samples.samples.len =
    c.fill_samples.auto.samples ∙ c.as_mut_slice.ensures.len in
    take_at new (drop (length new) c.in_ok-samples.samples.items) c.in_ok-samples.samples.len long
    ∙ is
    ∙ sym (filled-samples f c.args.fill)
