use Rattle.std.proofs.Common.{◌≡◌, List, ℕ, Ok, length, inr}
use Rattle.hex.specs.Hex.{decode_of}
use Rattle.pgroup_pack.specs.Packing.{Agree}
use Rattle.st_format.specs.Picture.{IsPicture, Values}
use Rattle.st_format.specs.Position.{sample_count}
use Rattle.run_outcome.specs.declared.script_line.Form.TheVariants.{Picture}
use Rattle.script_engines.specs.RehearsalForms.{IsPictureText}
use Rattle.script_engines.proofs.RehearsalReading.{no_picture}
use Rattle.script_engines.proofs.RehearsedLemmas.{on_ok_map}
use Rattle.script_engines.proofs.rehearsal.add_picture.Goals as goal

pub returns-in-Some-clause-picture : goal.returns-in-Some-clause-picture
returns-in-Some-clause-picture g c =
    let p : Values = c.in-Some.picture in
    let text : IsPictureText c.args.digits.now p =
    rw c.in-Some.is at c.in_ok-picture.ensures.is in
    let format : p.format ≡ c.args.rehearsal.now.head.format =
    rw c.in-Some.is at c.in_ok-picture.ensures.format in
    let whole : IsPicture p = rw c.in-Some.is at c.in_ok-picture.ensures.whole in
    on_ok_map c.keep_picture.result
    (λ e. (p, record { digits_are = text; format_is = format; whole = whole }, e))
    c.keep_picture.ensures.pictures

pub returns-in-None-clause-fault : goal.returns-in-None-clause-fault
returns-in-None-clause-fault g c =
    let none : (octets : List ℕ)
    → Agree c.args.rehearsal.now.head.format (length octets)
    (sample_count c.args.rehearsal.now.head.format)
    → decode_of c.args.digits.now ≡ Ok octets → ⊥ =
    rw c.in-None.is at c.in_ok-picture.ensures.none in
    inr (
      (Picture, c.refused_at.ensures),
      no_picture c.args.rehearsal.now.head.format
          c.args.digits.now none,
    )
