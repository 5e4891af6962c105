use Rattle.std.proofs.Common.{[], codes}
use Rattle.picture_forms.specs.Layouts.{depth_word, numbered_word, sampling_word, y4m_head}
use Rattle.picture_forms.proofs.Texts.{joined7}
use Rattle.picture_forms.proofs.y4m_writing.head_line.Goals as goal

pub returns : goal.returns
unfolding y4m_head
returns c =
    let f = c.args.format.now in
    joined7 [] _ _ _ _ _ _ _ (numbered_word (codes "YUV4MPEG2 W") f.width)
    (numbered_word (codes " H") f.height) (numbered_word (codes " F") f.n)
    (numbered_word (codes ":") f.d) (codes " Ip A1:1") (sampling_word f.sampling)
    (depth_word f.depth)
    (rw (c.new-line.ensures, c.width.ensures) at c.add_number.ensures.text)
    (rw c.height.ensures at c.add_number-2.ensures.text)
    (rw c.n.ensures at c.add_number-3.ensures.text)
    (rw c.d.ensures at c.add_number-4.ensures.text) c.add.ensures.text
    (rw (c.sampling_word_of.ensures.text, c.sampling.ensures) at c.add-2.ensures.text)
    (rw (c.depth_word_of.ensures.text, c.depth.ensures) at c.add-3.ensures.text)
