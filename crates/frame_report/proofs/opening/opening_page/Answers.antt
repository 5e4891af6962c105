use Rattle.std.proofs.Common.{◌≡◌, ◌+◌, ◌∙◌, [], length, ap, arith, codes}
use Rattle.std.proofs.lemmas.List.{length-append}
use Rattle.frame_report.specs.Gathers.{numbered_word}
use Rattle.frame_report.specs.Opening.{raster_text, source_text}
use Rattle.frame_report.proofs.Gathering.{joined6}
use Rattle.frame_report.proofs.opening.opening_page.Goals as goal

pub add-requires : goal.add-requires
add-requires g c =
    let empty : length c.new-page.result ≡ 0 = ap length c.new-page.ensures in
    omega (arith, empty)

pub add_raster-requires : goal.add_raster-requires
add_raster-requires g c =
    let empty : length c.new-page.result ≡ 0 = ap length c.new-page.ensures in
    let first : length c.add.new.self ≡ length c.new-page.result + 9 =
    ap length c.add.ensures ∙ length-append c.new-page.result (codes "receiver ") in
    omega (arith, empty, first)

pub add_number-requires : goal.add_number-requires
add_number-requires g c =
    let empty : length c.new-page.result ≡ 0 = ap length c.new-page.ensures in
    let first : length c.add.new.self ≡ length c.new-page.result + 9 =
    ap length c.add.ensures ∙ length-append c.new-page.result (codes "receiver ") in
    omega (arith, empty, first, c.add_raster.ensures.short)

pub add-requires-2 : goal.add-requires-2
add-requires-2 g c =
    let empty : length c.new-page.result ≡ 0 = ap length c.new-page.ensures in
    let first : length c.add.new.self ≡ length c.new-page.result + 9 =
    ap length c.add.ensures ∙ length-append c.new-page.result (codes "receiver ") in
    omega (arith, empty, first, c.add_raster.ensures.short, c.add_number.ensures.short)

pub add_source-requires : goal.add_source-requires
add_source-requires g c =
    let empty : length c.new-page.result ≡ 0 = ap length c.new-page.ensures in
    let first : length c.add.new.self ≡ length c.new-page.result + 9 =
    ap length c.add.ensures ∙ length-append c.new-page.result (codes "receiver ") in
    let second : length c.add-2.new.self ≡ length c.add_number.new.self + 6 =
    ap length c.add-2.ensures ∙ length-append c.add_number.new.self (codes " ssrc ") in
    omega (arith, empty, first, second, c.add_raster.ensures.short, c.add_number.ensures.short)

pub add-requires-3 : goal.add-requires-3
add-requires-3 g c =
    let empty : length c.new-page.result ≡ 0 = ap length c.new-page.ensures in
    let first : length c.add.new.self ≡ length c.new-page.result + 9 =
    ap length c.add.ensures ∙ length-append c.new-page.result (codes "receiver ") in
    let second : length c.add-2.new.self ≡ length c.add_number.new.self + 6 =
    ap length c.add-2.ensures ∙ length-append c.add_number.new.self (codes " ssrc ") in
    omega (
      arith,
      empty,
      first,
      second,
      c.add_raster.ensures.short,
      c.add_number.ensures.short,
      c.add_source.ensures.short,
    )

pub returns : goal.returns
returns g c =
    let opening = c.args.receiver.now.opening in
    joined6 [] _ _ _ _ _ _ (codes "receiver ") (raster_text opening.format)
    (numbered_word (codes " pt ") opening.payload_type)
    (codes " ssrc ") (source_text opening.ssrc) (codes "\n")
    (rw c.new-page.ensures at c.add.ensures)
    (rw c.format.ensures.format at c.add_raster.ensures.text)
    (rw (c.from.ensures, c.payload_type.ensures.payload_type) at c.add_number.ensures.text)
    c.add-2.ensures (rw c.ssrc.ensures.ssrc at c.add_source.ensures.text) c.add-3.ensures
