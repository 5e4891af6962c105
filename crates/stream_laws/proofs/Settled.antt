-- Frames of which nothing is missing, settled, are their pictures.
use Rattle.std.proofs.Common.{◌≡◌, ◌∙◌, ℕ, ◌+◌, ◌%◌, ◌^◌, List, [], ◌∷◌, Option, None, Some, ap}
use Rattle.std.proofs.Common.{inl, inr, length, refl, slice_index}
use Rattle.std.specs.List.{AllByRecursion}
use Rattle.following.specs.Following.{Handed}
use Rattle.following.specs.Pictures.{pictures_from}
use Rattle.frame_sinks.specs.Fills.{fill_of}
use Rattle.frame_sinks.specs.Pictures.{held_by, held_for, picture_of, pictures_of}
use Rattle.frame_sinks.specs.declared.filling.Filling.{Filling}
use Rattle.frame_sinks.proofs.Written.{picture_format}
use Rattle.packet_plan.specs.Sender.{Sender, SendsFrom}
use Rattle.path_receiver.specs.Sender.{picture_raster}
use Rattle.picture_engine.specs.Views.{settled_with}
use Rattle.run_laws.proofs.Settled.{settled_whole}
use Rattle.st_format.specs.declared.format.Format.{Format}
use Rattle.st_format.specs.Member.{IsMember}
use Rattle.st_format.specs.Picture.{Values, value_at}
use Rattle.st_format.specs.Position.{sample_count}
use Rattle.stream_laws.specs.Brought.{AreWhole}

-- ---- one frame

whole_over : (held : Option Values) (fill : List ℕ) (p : Values)
    → length p.samples ≡ sample_count p.format → settled_with held fill (picture_raster p) ≡ p
whole_over None fill p long = settled_whole (λ at. slice_index fill at.component) p long
whole_over (Some q) fill p long = settled_whole (value_at q) p long

picture_whole : (fill : Option (List ℕ)) (held : Option Values) (p : Values)
    → length p.samples ≡ sample_count p.format → picture_of fill held (picture_raster p) ≡ p
unfolding picture_of
picture_whole fill held p long =
    whole_over (held_for held p.format) (fill_of fill p.format) p long

-- ---- a sender's

pub pictures_whole : (filling : Filling) (fill : Option (List ℕ)) (held : Option Values)
    (s : Sender) (k : ℕ) (ps : List Values) → AreWhole ps
    → pictures_of filling fill held (pictures_from s k ps) ≡ ps
pictures_whole filling fill held s k [] whole = refl
pictures_whole filling fill held s k (p ∷ ps) whole =
    let q : Values = picture_of fill held (picture_raster p) in
    ap (λ (x : Values). x ∷ pictures_of filling fill (held_by filling q)
    (pictures_from s (k + 1) ps)) (picture_whole fill held p (whole p (inl refl)))
    ∙ ap (λ (qs : List Values). p ∷ qs)
    (pictures_whole filling fill (held_by filling q) s (k + 1) ps (λ x m. whole x (inr m)))

-- they have the sender's format
pub sender_formats : (s : Sender) (k : ℕ) (ps : List Values) (first : ℕ) (sent : List (List ℕ))
    → SendsFrom s k ps first sent → AllByRecursion (λ q. q.format ≡ s.format) ps
sender_formats s k [] first sent sends = tt
sender_formats s k (p ∷ ps) first sent sends = (
  sends.format,
  sender_formats s (k + 1) ps ((first + length sends.packets) % 2 ^ 32) sends.others sends.rest,
)

-- ---- of frames of one format

pub pictures_formats : (f : Format) (filling : Filling) (fill : Option (List ℕ))
    (held : Option Values) (hs : List Handed)
    → ((h : Handed) → IsMember h hs → h.frame.format ≡ f)
    → AllByRecursion (λ q. q.format ≡ f) (pictures_of filling fill held hs)
pictures_formats f filling fill held [] all = tt
pictures_formats f filling fill held (h ∷ hs) all = (
  picture_format fill held h.frame ∙ all h (inl refl),
  pictures_formats f filling fill (held_by filling (picture_of fill held h.frame)) hs
      (λ x m. all x (inr m)),
)
