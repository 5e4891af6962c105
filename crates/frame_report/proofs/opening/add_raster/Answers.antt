use Rattle.std.proofs.Common.{◌≡◌, ◌+◌, ◌∙◌, length, ap, arith, codes}
use Rattle.std.proofs.lemmas.List.{length-append}
use Rattle.st_format.specs.Pgroup.{bits_of}
use Rattle.st_format.specs.Words.{sampling_text}
use Rattle.frame_report.specs.Gathers.{numbered_word}
use Rattle.frame_report.proofs.Gathering.{joined6}
use Rattle.frame_report.proofs.opening.add_raster.Goals as goal

pub add-requires : goal.add-requires
add-requires c = omega (arith, c.requires, c.word.ensures.short)

pub add_number-requires : goal.add_number-requires
add_number-requires c =
    let first : length c.add.new.self ≡ length c.args.page.now + length c.word.result.now =
    ap length c.add.ensures ∙ length-append c.args.page.now c.word.result.now in
    omega (arith, first, c.requires, c.word.ensures.short)

pub add_number-requires-2 : goal.add_number-requires-2
add_number-requires-2 c =
    let first : length c.add.new.self ≡ length c.args.page.now + length c.word.result.now =
    ap length c.add.ensures ∙ length-append c.args.page.now c.word.result.now in
    omega (arith, first, c.requires, c.word.ensures.short, c.add_number.ensures.short)

pub add_number-requires-3 : goal.add_number-requires-3
add_number-requires-3 c =
    let first : length c.add.new.self ≡ length c.args.page.now + length c.word.result.now =
    ap length c.add.ensures ∙ length-append c.args.page.now c.word.result.now in
    omega (
      arith,
      first,
      c.requires,
      c.word.ensures.short,
      c.add_number.ensures.short,
      c.add_number-2.ensures.short,
    )

pub add_number-requires-4 : goal.add_number-requires-4
add_number-requires-4 c =
    let first : length c.add.new.self ≡ length c.args.page.now + length c.word.result.now =
    ap length c.add.ensures ∙ length-append c.args.page.now c.word.result.now in
    omega (
      arith,
      first,
      c.requires,
      c.word.ensures.short,
      c.add_number.ensures.short,
      c.add_number-2.ensures.short,
      c.add_number-3.ensures.short,
    )

pub add_number-requires-5 : goal.add_number-requires-5
add_number-requires-5 c =
    let first : length c.add.new.self ≡ length c.args.page.now + length c.word.result.now =
    ap length c.add.ensures ∙ length-append c.args.page.now c.word.result.now in
    omega (
      arith,
      first,
      c.requires,
      c.word.ensures.short,
      c.add_number.ensures.short,
      c.add_number-2.ensures.short,
      c.add_number-3.ensures.short,
      c.add_number-4.ensures.short,
    )

pub returns-clause-text : goal.returns-clause-text
returns-clause-text c =
    let f = c.args.format.now in
    joined6 _ _ _ _ _ _ _ (sampling_text f.sampling) (numbered_word (codes " ") (bits_of f.depth))
    (numbered_word (codes " ") f.width) (numbered_word (codes " ") f.height)
    (numbered_word (codes " ") f.n)
    (numbered_word (codes "/") f.d)
    (rw (c.word.ensures.text, c.sampling.ensures) at c.add.ensures)
    (rw (c.from.ensures, c.bits.ensures, c.depth.ensures) at c.add_number.ensures.text)
    (rw (c.from-2.ensures, c.width.ensures) at c.add_number-2.ensures.text)
    (rw (c.from-3.ensures, c.height.ensures) at c.add_number-3.ensures.text)
    (rw (c.from-4.ensures, c.n.ensures) at c.add_number-4.ensures.text)
    (rw (c.from-5.ensures, c.d.ensures) at c.add_number-5.ensures.text)

pub returns-clause-short : goal.returns-clause-short
returns-clause-short c =
    let first : length c.add.new.self ≡ length c.args.page.now + length c.word.result.now =
    ap length c.add.ensures ∙ length-append c.args.page.now c.word.result.now in
    omega (
      arith,
      first,
      c.word.ensures.short,
      c.add_number.ensures.short,
      c.add_number-2.ensures.short,
      c.add_number-3.ensures.short,
      c.add_number-4.ensures.short,
      c.add_number-5.ensures.short,
    )
