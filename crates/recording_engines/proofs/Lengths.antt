-- How many flows there are.
use Rattle.std.proofs.Common.{◌≡◌, ℕ, List, length, ap, sym, ◌∙◌, inl, inr, Option, None, Some}
use Rattle.std.proofs.lemmas.List.{length-replicate}
use Rattle.flow.specs.declared.flows.Flows.{Flows}
use Rattle.recording_engines.specs.Strands.{TakesBy}

-- the flows by which files are taken are as many as the files
pub taken_length : (flows : Flows) (n : ℕ) (each : List (Option Flows)) → TakesBy flows n each
    → length each ≡ n
taken_length flows n each (inl (none, is)) =
    ap (λ (l : List (Option Flows)). length l) is ∙ length-replicate n (Some flows)
taken_length flows n each (inr (inl (one, two, is))) =
    ap (λ (l : List (Option Flows)). length l) is ∙ sym two
taken_length flows n each (inr (inr (one, other, is))) =
    ap (λ (l : List (Option Flows)). length l) is
    ∙ length-replicate n (let none : Option Flows = None in none)
