use Rattle.std.proofs.Common.{◌≡◌, arith, codes, false, rules}
use Rattle.std.specs.Prelude.{◌↔◌, IsTrue, bytes_eq}
use Rattle.std.proofs.lemmas.Grind.{common_steps}
use Rattle.sdp_format.proofs.Sources.{destined}
use Rattle.sdp_format.proofs.source.is_destination.Goals as goal

pub returns-in-Ok : goal.returns-in-Ok
returns-in-Ok c =
    let other : bytes_eq c.args.text.now (codes "*") ≡ false = cc in
    let same : IsTrue c.eq.result ↔ (c.in-Ok.found ≡ c.args.address) =
    first_of (search rules, grind (arith, common_steps)) in
    destined c.args.text.now c.args.address c.in-Ok.found c.eq.result other c.in-Ok.ensures same
