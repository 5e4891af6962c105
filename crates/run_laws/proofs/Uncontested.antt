-- In a rehearsal no sample is contested.
use Rattle.std.proofs.Common.{◌≡◌, ℕ, suc, ◌+◌, Bool, false, cond, List, [], ◌∷◌, Some}
use Rattle.std.proofs.Common.{refl, sym, ap, ◌∙◌, subst, inl, inr}
use Rattle.std.specs.Prelude.{count_by, slice_get}
use Rattle.std.specs.List.{AllZip, flat_map}
use Rattle.std.proofs.lemmas.List.Sums.{sum_by-cons}
use Rattle.st_format.specs.declared.cell.Cell.{Cell}
use Rattle.st_format.specs.declared.cell.Cell.TheVariants.{Missing, Value, Contested}
use Rattle.st_format.specs.Cell.{is_contested}
use Rattle.st_format.specs.Member.{IsMember}
use Rattle.st_format.specs.Picture.{Values}
use Rattle.st_format.specs.Position.{Position, places}
use Rattle.st_format.specs.Raster.{IsWhole, Raster, cell_at}
use Rattle.st_format.proofs.Rasters.{length-cells_of}
use Rattle.frame_assembly.specs.Kinds.{counts_of}
use Rattle.frame_assembly.proofs.Positions.{counts_of_positions}
use Rattle.packet_plan.specs.Sender.{Sender}
use Rattle.path_receiver.specs.Frames.{State}
use Rattle.path_receiver.specs.Offers.{offers}
use Rattle.path_merge.specs.Played.{IsHanded}
use Rattle.path_merge.specs.Reached.{AreFrames, IsFrameOf, Scene}
use Rattle.path_receiver.specs.Sender.{IsSendersCell}
use Rattle.path_merge.specs.Sent.{IsSendersFrame, sender_of}
use Rattle.path_merge.specs.Stays.{Stay}
use Rattle.path_merge.specs.declared.schedule.event.Event.{Event}
use Rattle.path_merge.specs.declared.schedule.played.Handed.{Handed}
use Rattle.path_merge.specs.declared.schedule.played.Played.{Played}
use Rattle.script_engines.specs.Rehearsal.{Said}
use Rattle.script_engines.specs.Rehearsed.{PlaysSaid, scene_by}

-- ---- a frame

-- no sample of a frame is contested
abbrev IsUncontested : Raster → Type 0
IsUncontested r = (counts_of r).contested ≡ 0

pub none_counted : (kind : Position → Bool) (ps : List Position) → ((p : Position) → kind p ≡ false)
    → count_by kind ps ≡ 0
none_counted kind [] none = refl
none_counted kind (p ∷ ps) none =
    sum_by-cons (λ x. cond (kind x) 1 0) p ps
    ∙ ap (λ (b : Bool). cond b 1 0 + count_by kind ps) (none p)
    ∙ ap (λ (n : ℕ). 0 + n) (none_counted kind ps none)

pub senders_cell : (c : Cell) (s : Sender) (ps : List Values) (ts : ℕ) (at : Position)
    → IsSendersCell c s ps ts at → is_contested c ≡ false
senders_cell Missing s ps ts at is = refl
senders_cell (Value v) s ps ts at is = refl
senders_cell Contested s ps ts at is = absurd is

whole_frame : (frame : Raster) (stay : Stay) (s : Scene) (events : List Event)
    → IsFrameOf frame stay s events → IsWhole frame
whole_frame frame stay s events is =
    subst (λ (r : Raster). IsWhole r) (sym is.frame_is)
    (length-cells_of s.opening.format (flat_map (offers s.opening) is.reached) stay.timestamp)

uncontested : (frame : Raster) (stay : Stay) (sender : Sender) (pictures : List Values) (s : Scene)
    (events : List Event) → IsFrameOf frame stay s events
    → IsSendersFrame frame stay sender pictures s events → IsUncontested frame
uncontested frame stay sender pictures s events is senders =
    (counts_of_positions frame (counts_of frame) (whole_frame frame stay s events is) refl refl
    refl).contested
    ∙ none_counted (λ p. is_contested (cell_at frame p)) (places frame.format)
    (λ p. senders_cell (cell_at frame p) sender pictures stay.timestamp p (senders.cells p))

-- ---- all frames of a rehearsal

abbrev AllFrames : Scene → List Event → Type 0
AllFrames s events = (stay : Stay) (frame : Raster) → IsFrameOf frame stay s events
    → IsUncontested frame

all_frames : {A : Type 0} (played : Played A) (said : Said) (p : PlaysSaid played said)
    → AllFrames (scene_by p.plan said) said.events
all_frames played said p stay frame is =
    uncontested frame stay (sender_of p.plan said.heading.stamp) said.pictures
    (scene_by p.plan said) said.events is (p.senders stay frame is)

each_handed : {A : Type 0} (s : Scene) (events : List Event) (stays : List Stay)
    (items : List (Handed A)) (h : Handed A) → AllFrames s events
    → AllZip (IsHanded s events) stays items → IsMember h items → IsUncontested h.frame
each_handed s events [] [] h all zip m = absurd m
each_handed s events [] (i ∷ is) h all zip m = absurd zip
each_handed s events (t ∷ ts) [] h all zip m = absurd m
each_handed s events (t ∷ ts) (i ∷ is) h all zip (inl same) =
    subst (λ x. IsUncontested x.frame) (sym same) (all t i.frame zip.0.frame)
each_handed s events (t ∷ ts) (i ∷ is) h all zip (inr m) =
    each_handed s events ts is h all zip.1 m

each_frame : (s : Scene) (events : List Event) (receiver number : ℕ) (window : List ℕ)
    (frames : List Raster) (r : Raster) → AllFrames s events
    → AreFrames s events receiver number window frames → IsMember r frames → IsUncontested r
each_frame s events receiver number [] [] r all are m = absurd m
each_frame s events receiver number [] (q ∷ qs) r all are m = absurd are
each_frame s events receiver number (t ∷ w) [] r all are m = absurd m
each_frame s events receiver number (t ∷ w) (q ∷ qs) r all are (inl same) =
    subst (λ (x : Raster). IsUncontested x) (sym same)
    (all (record { receiver = receiver; number = number; timestamp = t }) q are.0)
each_frame s events receiver number (t ∷ w) (q ∷ qs) r all are (inr m) =
    each_frame s events receiver (suc number) w qs r all are.1 m

pub handed_uncontested : {A : Type 0} (played : Played A) (said : Said) → PlaysSaid played said
    → (h : Handed A) → IsMember h played.handed.items → (counts_of h.frame).contested ≡ 0
handed_uncontested played said p h m =
    each_handed (scene_by p.plan said) said.events _ played.handed.items h
    (all_frames played said p) p.played_is.handed m

pub receivers_uncontested : {A : Type 0} (played : Played A) (said : Said) → PlaysSaid played said
    → (number : ℕ) (receiver : State) → slice_get played.receivers.items number ≡ Some receiver
    → (frame : Raster) → IsMember frame receiver.frames → (counts_of frame).contested ≡ 0
receivers_uncontested played said p number receiver there frame m =
    each_frame (scene_by p.plan said) said.events number _ _ receiver.frames frame
    (all_frames played said p) (p.played_is.receivers number receiver there).frames m
