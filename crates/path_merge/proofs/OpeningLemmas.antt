-- Before the first event.
use Rattle.std.proofs.Common.{◌≡◌, ℕ, ◌<◌, List, [], ◌∷◌, ◌++◌, length, map, get_or, Some, Vec}
use Rattle.std.proofs.Common.{refl, sym, ap, ◌∙◌, subst}
use Rattle.std.specs.Prelude.{All}
use Rattle.std.specs.List.{AllByRecursion, AllZip}
use Rattle.std.proofs.lemmas.List.Elements.{recursion_from_All, All-from_recursion}
use Rattle.std.proofs.lemmas.Option.{get_or_from_slice_get, slice_get_read, slice_get_within}
use Rattle.st_format.specs.declared.format.Format.{Format}
use Rattle.st_format.specs.Picture.{Values}
use Rattle.packet_plan.specs.declared.stamp.Stamp.{Stamp}
use Rattle.packet_plan.specs.Plan.{RasterPlan}
use Rattle.path_receiver.specs.Frames.{Holds, State}
use Rattle.path_receiver.specs.Opening.{Opening}
use Rattle.path_merge.specs.declared.schedule.played.Handed.{Handed}
use Rattle.path_merge.specs.declared.schedule.stage.Stage.{Stage}
use Rattle.path_merge.specs.Played.{IsHanded}
use Rattle.path_merge.specs.Sent.{scene_of}
use Rattle.path_merge.specs.Stage.{IsOpened, IsStage}
use Rattle.st_format.specs.Memory.{octets_of}
use Rattle.path_merge.specs.Steps.{to_come}
use Rattle.path_merge.proofs.SendLemmas.{behind_first}
use Rattle.path_merge.proofs.StayFrames.{at_opening}

-- an element of a list by its place, whatever stands for what is past the end
pub of_item : (xs : List Values) (i : ℕ) (d x : Values) → i < length xs → x ≡ get_or xs i x
    → get_or xs i d ≡ x
of_item xs i d x lt is =
    get_or_from_slice_get xs i x d (slice_get_read xs (length xs) i x refl lt is)

abbrev pub opening_of : Format → Stamp → List ℕ → Opening
opening_of format stamp window =
    record {
      format = format;
      payload_type = stamp.payload_type;
      ssrc = Some stamp.ssrc;
      window =
          window;
    }

pub stage_opened : {A : Type 0} (plan : RasterPlan) (stamp : Stamp) (pictures : List Values)
    (window : List ℕ) (count : ℕ) (format : Format) (stage : Stage A) → format ≡ plan.format
    → length stage.receivers.items ≡ count
    → All (IsOpened (opening_of format stamp window)) stage.receivers.items
    → stage.handed.items ≡ [] → stage.sent.items ≡ []
    → stage.next ≡ record { picture = 0; index = 0; first = stamp.first }
    → IsStage plan stamp pictures (scene_of plan pictures stamp window count) [] stage
stage_opened plan stamp pictures window count format stage same long all none_handed none_sent
    next =
    let here : All (IsOpened (opening_of plan.format stamp window)) stage.receivers.items =
    subst (λ (f : Format). All
    (IsOpened (opening_of f stamp window)) stage.receivers.items) same all in
    record {
      count = long;
      receivers = λ r state there.
          let lt : r < length stage.receivers.items =
          slice_get_within stage.receivers.items r state there in
          let is : get_or stage.receivers.items r state ≡ state =
          get_or_from_slice_get stage.receivers.items r state state there in
          let opened : IsOpened (opening_of plan.format stamp window) state =
          subst (IsOpened (opening_of plan.format stamp window)) is (here r state lt) in
          at_opening (scene_of plan pictures stamp window count) r state opened.opening
          opened.blank;
      handed =
          subst (λ (hs : List (Handed _)). AllZip
          (IsHanded (scene_of plan pictures stamp window count) []) [] hs) (sym none_handed) tt;
      sent =
          ap (λ
          (vs : List (Vec ℕ _)). map octets_of vs
          ++ to_come plan stamp pictures stage.next) none_sent
          ∙ ap (to_come plan stamp pictures) next
          ∙ sym (behind_first plan stamp 0 stamp.first pictures);
      sends = ap length none_sent;
    }

snoc_opened : (o : Opening) (rs : List State) (r : State) → AllByRecursion (IsOpened o) rs
    → IsOpened o r → AllByRecursion (IsOpened o) (rs ++ r ∷ [])
snoc_opened o [] r all is = (is, tt)
snoc_opened o (x ∷ rs) r all is = (all.0, snoc_opened o rs r all.1 is)

pub opened_more : (o : Opening) (rs new : List State) (r : State) → new ≡ rs ++ r ∷ []
    → All (IsOpened o) rs → r.opening ≡ o → Holds r [] → All (IsOpened o) new
opened_more o rs new r e all opening blank =
    subst (All (IsOpened o)) (sym e)
    (All-from_recursion (IsOpened o) (rs ++ r ∷ [])
    (snoc_opened o rs r (recursion_from_All (IsOpened o) rs all)
    (record { opening = opening; blank = blank })))
