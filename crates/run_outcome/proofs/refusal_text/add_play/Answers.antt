use Rattle.std.proofs.Common.{◌≡◌, ◌∙◌, ℕ, List, ◌++◌, ap, append_assoc, codes}
use Rattle.std.specs.Fmt.{decimal}
use Rattle.path_receiver.specs.PlayFault.{play_fault_name, play_fault_number}
use Rattle.run_outcome.specs.Telling.{numbered_name}
use Rattle.run_outcome.proofs.refusal_text.add_play.Goals as goal

-- a number and a name were added, and then the rest
named_then : (s t u word name is rest : List ℕ) (number n : ℕ)
    → t ≡ s ++ numbered_name word number name → number ≡ n → name ≡ is → u ≡ t ++ rest
    → u ≡ s ++ numbered_name word n (is ++ rest)
named_then s t u word name is rest number n one same named more =
    more ∙ ap (λ (l : List ℕ). l ++ rest)
    (one ∙ ap (λ (m : ℕ). s ++ numbered_name word m name) same
    ∙ ap (λ (l : List ℕ). s ++ numbered_name word n l) named)
    ∙ simp append_assoc

pub returns-clause-text : goal.returns-clause-text
returns-clause-text c =
    rw c.in-BadEvent.is
    (named_then _ _ _ (codes "play ") c.name.result.now (codes "BadEvent")
    (codes " " ++ decimal c.in-BadEvent.place) c.number.result 2 c.add_fault.ensures.text
    (c.number.ensures ∙ ap play_fault_number c.in-BadEvent.is)
    (c.name.ensures ∙ ap play_fault_name c.in-BadEvent.is) c.add_number.ensures.text)
