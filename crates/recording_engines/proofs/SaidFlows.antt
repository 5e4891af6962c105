-- The flows of an SDP's sections, one for each.
use Rattle.std.proofs.Common.{◌≡◌, ℕ, List, [], ◌∷◌, Option, None, Some, ap, ◌∙◌}
use Rattle.std.specs.Prelude.{slice_get}
use Rattle.flow.specs.declared.flows.Flow.{Flow}
use Rattle.flow.specs.declared.flows.Flows.{Flows}
use Rattle.sdp_format.specs.Destinations.{SectionsFlows}
use Rattle.sdp_format.specs.Sections.{Section}
use Rattle.recording_engines.specs.Imported.{AreOf}

abbrev of_both : Option Flow → Option Flow → Flows
of_both a b = record { a = a; b = b }

both : (a b c d : Option Flow) → a ≡ c → b ≡ d → of_both a b ≡ of_both c d
both a b c d first second =
    ap (λ (x : Option Flow). of_both x b) first ∙ ap (λ (y : Option Flow). of_both c y) second

pub are_of : (lines : List (List ℕ)) (sections : List Section) (fs : List Flow)
    (a b : Option Flow) → SectionsFlows lines sections fs → a ≡ slice_get fs 0
    → b ≡ slice_get fs 1 → AreOf fs (of_both a b)
are_of lines [] [] a b is first second = absurd is
are_of lines [] (f ∷ fs) a b is first second = absurd is
are_of lines (s ∷ []) [] a b is first second = absurd is
are_of lines (s ∷ []) (f ∷ []) a b is first second = both a b (Some f) None first second
are_of lines (s ∷ []) (f ∷ g ∷ fs) a b is first second = absurd is
are_of lines (s ∷ t ∷ []) [] a b is first second = absurd is
are_of lines (s ∷ t ∷ []) (f ∷ []) a b is first second = absurd is
are_of lines (s ∷ t ∷ []) (f ∷ g ∷ []) a b is first second =
    both a b (Some f) (Some g) first second
are_of lines (s ∷ t ∷ []) (f ∷ g ∷ h ∷ fs) a b is first second = absurd is
are_of lines (s ∷ t ∷ u ∷ rest) [] a b is first second = absurd is
are_of lines (s ∷ t ∷ u ∷ rest) (f ∷ fs) a b is first second = absurd is
