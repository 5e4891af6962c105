use Rattle.std.proofs.Common.{◌≡◌, None, length}
use Rattle.std.specs.Option.{option_copied}
use Rattle.picture_forms.specs.Heads.{told_last, words}
use Rattle.picture_forms.proofs.y4m_header.last_of.Given as goal

abbrev pub invariant-loop-word : goal.invariant-loop-word
invariant-loop-word l =
    told_last l.letter None (words l.text)
    ≡ told_last l.letter (option_copied l.found) (words l.rest)

abbrev pub decreases-loop-word : goal.decreases-loop-word
decreases-loop-word l = length l.rest
