use Rattle.std.proofs.Common.{ap, ◌∙◌, List, ℕ}
use Rattle.st_format.specs.Pgroup.{bits_of}
use Rattle.st_format.specs.Samples.{values_in}
use Rattle.pgroup_pack.specs.Groups.{blanked_samples}
use Rattle.receiver_file.proofs.Knowing.{zeroed_test}
use Rattle.receiver_file.proofs.known.is_blanked.Goals as goal

pub returns : goal.returns
returns c =
    let n : ℕ = bits_of c.args.format.now.depth in
    zeroed_test c.args.mask c.differing.result (values_in n c.args.octets.now)
    (values_in n c.blank.new.octets) c.differing.ensures
    (c.blank.ensures ∙ ap
    (λ (os : List ℕ). blanked_samples c.args.mask (values_in n os)) c.copy_from_slice.ensures.after)
