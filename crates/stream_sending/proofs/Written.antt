-- Streams that are written, and streams as files.
use Rattle.std.proofs.Common.{◌≡◌, ℕ, ◌≤◌, List, [], ◌∷◌, ◌++◌, length, refl, sym, subst, Ok}
use Rattle.std.specs.List.{AllByRecursion, flat_map}
use Rattle.st_format.specs.declared.format.Format.{Format}
use Rattle.st_format.specs.Fields.{fields_of}
use Rattle.st_format.specs.Picture.{Values}
use Rattle.packet_plan.specs.Plan.{IsSize}
use Rattle.packet_plan.specs.Sender.{SendsFrom}
use Rattle.picture_forms.specs.Frames.{frame_walk}
use Rattle.picture_forms.specs.Layouts.{IsYcc, frame_text, planes_text, y4m_text}
use Rattle.picture_forms.specs.Streams.{IsOf}
use Rattle.picture_forms.proofs.FrameAgain.{frame_again}
use Rattle.picture_forms.proofs.HeadAgain.{head_again}
use Rattle.picture_forms.proofs.HeadIs.{head_found}
use Rattle.capture_engines.specs.Sending.{ArePlanned, SayPictures, SendsPictures, TakesPictures}
use Rattle.capture_engines.specs.Sending.{run_sender}
use Rattle.capture_engines.specs.declared.sender.Sending.{Sending}
use Rattle.stream_sending.specs.Sent.{TakesFrames}
use Rattle.stream_sending.specs.Streams.{BeginsFrames, IsStreamOf}

-- ---- what is written

frame_written : (f : Format) (v : Values) (behind : List ℕ) → IsYcc f.sampling → IsOf f v
    → frame_walk f (frame_text v ++ behind) ≡ Ok (planes_text v, behind)
frame_written f v behind is of =
    subst (λ (g : Format). IsYcc g.sampling
    → frame_walk g (frame_text v ++ behind) ≡ Ok (planes_text v, behind)) of.0
    (λ ycc. frame_again v behind ycc of.1) is

frames_written : (f : Format) (vs : List Values) → IsYcc f.sampling → AllByRecursion (IsOf f) vs
    → BeginsFrames f vs [] (flat_map frame_text vs)
frames_written f [] is all = refl
frames_written f (v ∷ vs) is all = record {
  rest = flat_map frame_text vs;
  format = all.0.0;
  picture = all.0.1;
  frame = frame_written f v (flat_map frame_text vs) is all.0;
  behind = frames_written f vs is all.1;
}

pub stream_written : (f : Format) (vs : List Values) → IsYcc f.sampling
    → AllByRecursion (IsOf f) vs → IsStreamOf (y4m_text f vs) f vs
stream_written f vs is all = record {
  frames = flat_map frame_text vs;
  head = head_found (y4m_text f vs) (flat_map frame_text vs) (fields_of f)
      (head_again f (flat_map frame_text vs) is);
  are = frames_written f vs is all;
}

-- ---- what is sent

pictures_taken : (wanted : Sending) (text : List ℕ) (f : Format) (ps : List Values)
    (old new : List ℕ) (count : ℕ) → length ps ≤ 10000 → TakesFrames wanted text f ps old new count
    → TakesPictures wanted text ps old new count
pictures_taken wanted text f [] old new count few takes = takes
pictures_taken wanted text f (p ∷ ps) old new count few takes =
    let same : p.format ≡ f = takes.sent.format in
    record {
      limits = subst (λ (x : Format). IsSize wanted.max_octets x) (sym same) takes.limits;
      datagrams = takes.datagrams;
      sent = record {
        few = few;
        sent =
            subst (λ (x : Format). SendsFrom (run_sender x wanted) 0 (p ∷ ps) wanted.first
            takes.datagrams) (sym same) takes.sent;
      };
      planned =
          subst (λ (x : Format). ArePlanned wanted x (p ∷ ps) takes.datagrams) (sym same)
          takes.planned;
      taken = takes.taken;
      count_is = takes.count_is;
    }

pub as_files : {S : Type 0} (told : S × S → List ℕ → Type 0) (wanted : Sending) (text : List ℕ)
    (f : Format) (ps : List Values) (sources later : List S) (old new : List ℕ) (count : ℕ)
    → length ps ≤ 10000 → SayPictures told sources later ps
    → TakesFrames wanted text f ps old new count
    → SendsPictures told wanted text sources later old new count
as_files told wanted text f ps sources later old new count few say takes = record {
  pictures = ps;
  say = say;
  taken = pictures_taken wanted text f ps old new count few takes;
}
