use Rattle.std.proofs.Common.{refl, sym, ap, ◌∙◌}
use Rattle.std.specs.Option.{option_copied}
use Rattle.picture_forms.specs.Heads.{told_last}
use Rattle.picture_forms.proofs.WordLists.{words_split, words_whole}
use Rattle.picture_forms.proofs.y4m_header.last_of.Goals as goal

pub loop-word-preserved : goal.loop-word-preserved
loop-word-preserved c =
    c.loop-word.invariant
    ∙ ap (told_last c.args.letter (option_copied c.loop-word.found))
    (words_split c.loop-word.rest.now c.in-Some.word.now c.in-Some.more.now
    (sym c.in-Some.ensures.parts))
    ∙ rw c.told-found.ensures refl

pub returns : goal.returns
returns c =
    c.told.ensures
    ∙ sym (c.loop-word.invariant
    ∙ ap (told_last c.args.letter (option_copied c.loop-word.found))
    (words_whole c.loop-word.rest.now c.in_default.ensures.parts))
