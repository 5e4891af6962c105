use Rattle.std.proofs.Common.{◌<◌, sym, arith}
use Rattle.std.specs.List.{AllByRecursion}
use Rattle.std.proofs.lemmas.List.{get_or_default}
use Rattle.std.proofs.lemmas.List.Elements.{recursion_from_All}
use Rattle.st_format.specs.Pgroup.{bits_of}
use Rattle.st_format.proofs.SpelledOctets.{octets_in-spelled}
use Rattle.form_files.proofs.raw_writing.pack.Goals as goal

pub returns : goal.returns
returns c =
    let octets = c.pack.new.octets in
    let small : AllByRecursion (λ v. v < 256) octets =
    recursion_from_All (λ v. v < 256) octets
    (λ k d lt. rw (get_or_default octets k d 0 lt) (omega (arith, c.type_inv.octets k))) in
    sym (octets_in-spelled
    (bits_of c.args.format.now.depth) octets c.args.samples.now small c.pack.ensures.spelled)
