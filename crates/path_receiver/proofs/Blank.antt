-- A receiver that has taken nothing is one.
use Rattle.std.proofs.Common.{◌≡◌, ℕ, ◌≤◌, List, [], length, replicate, Option, arith, rules, sym}
use Rattle.std.proofs.Common.{refl, subst}
use Rattle.std.proofs.lemmas.List.{length-replicate}
use Rattle.std.proofs.lemmas.List.Elements.{All-replicate}
use Rattle.st_format.specs.declared.cell.Cell.TheVariants.{Missing}
use Rattle.st_format.specs.declared.format.Format.{Format}
use Rattle.st_format.specs.declared.path.Path.{Path}
use Rattle.st_format.specs.Raster.{IsWhole, Raster, blank}
use Rattle.st_format.specs.Position.{sample_count}
use Rattle.path_receiver.specs.declared.answer.Refusal.{Refusal}
use Rattle.path_receiver.specs.Opening.{IsWindow}
use Rattle.path_receiver.specs.Frames.{State, IsReceiver}

abbrev state : Format → ℕ → Option ℕ → List ℕ → List Raster → List (Path × Refusal) → State
state format payload_type ssrc window frames refusals = record {
  opening =
      record { format = format; payload_type = payload_type; ssrc = ssrc; window = window };
  frames = frames;
  refusals = refusals;
}

blank_state : (f : Format) (p : ℕ) (s : Option ℕ) (w : List ℕ) → p ≤ 127 → IsWindow w
    → IsReceiver (state f p s w (replicate (length w) (blank f)) [])
blank_state f p s w few is = record {
  payload_type = omega (arith, few);
  window = is;
  one_each = length-replicate (length w) (blank f);
  of_format = All-replicate (λ (r : Raster). r.format ≡ f) (length w) (blank f) refl;
  whole =
      All-replicate IsWhole (length w) (blank f)
      (length-replicate (sample_count f) Missing);
  few_refusals = search rules;
}

pub receiver_blank : (f : Format) (p : ℕ) (s : Option ℕ) (w ts : List ℕ) (frames : List Raster)
    (refusals : List (Path × Refusal)) → p ≤ 127 → IsWindow w → ts ≡ w
    → frames ≡ replicate (length w) (blank f) → refusals ≡ []
    → IsReceiver (state f p s ts frames refusals)
receiver_blank f p s w ts frames refusals few is of_window are_blank none =
    subst (λ (v : List ℕ). IsReceiver (state f p s v frames refusals)) (sym of_window)
    (subst (λ (xs : List Raster). IsReceiver (state f p s w xs refusals)) (sym are_blank)
    (subst (λ (xs : List (Path × Refusal)). IsReceiver
    (state f p s w (replicate (length w) (blank f)) xs)) (sym none)
    (blank_state f p s w few is)))
