use Rattle.std.proofs.Common.{◌-◌, ◌^◌, [], codes}
use Rattle.st_format.specs.Pgroup.{bits_of}
use Rattle.picture_forms.specs.Layouts.{numbered_word, pixmap_head}
use Rattle.picture_forms.proofs.Texts.{joined4}
use Rattle.picture_forms.proofs.pixmap_writing.head_text.Goals as goal

pub returns : goal.returns
unfolding pixmap_head
returns c =
    let f = c.args.format.now in
    joined4 [] _ _ _ _ (numbered_word (codes "P6\n") f.width)
    (numbered_word (codes " ") f.height)
    (numbered_word (codes "\n") (2 ^ bits_of f.depth - 1)) (codes "\n")
    (rw (c.new-line.ensures, c.width.ensures) at c.add_number.ensures.text)
    (rw c.height.ensures at c.add_number-2.ensures.text)
    (rw (c.from.ensures, c.max_value.ensures) at c.add_number-3.ensures.text) c.add.ensures.text
