-- What the source of a reader of a stream gave, call by call.
use Rattle.std.proofs.Common.{◌≡◌, ℕ, List, [], ◌∷◌, ◌++◌, append_assoc, append-nil, ap, refl, subst, Ok}
use Rattle.std.proofs.Common.{sym, ◌∙◌}
use Rattle.st_format.specs.declared.format.Format.{Format}
use Rattle.st_format.specs.Fields.{fields_of}
use Rattle.st_format.specs.Given.{GaveValue}
use Rattle.st_format.specs.History.{since}
use Rattle.st_format.specs.Picture.{IsPicture, Values}
use Rattle.st_format.proofs.Histories.{since_is}
use Rattle.picture_forms.specs.Frames.{frame_walk}
use Rattle.picture_forms.specs.Heads.{head_walk}
use Rattle.picture_forms.specs.Layouts.{planes_text}
use Rattle.picture_forms.proofs.HeadIs.{head_found}
use Rattle.stream_sending.specs.Streams.{BeginsStream, GaveStream, IsStreamOf}
use Rattle.stream_sending.proofs.FramesRead.{begins_more}

-- its head
pub stream_opened : (f : Format) (before now : List ℕ)
    → GaveValue head_walk before now (fields_of f) → GaveStream f [] before now
stream_opened f before now head = record {
  part = head.part;
  grown = head.grown;
  says = λ behind. record {
    frames = behind;
    head = head_found (head.part ++ behind) behind (fields_of f) (head.says behind);
    are = refl;
  };
}

-- a frame more
frame_behind : (f : Format) (ps : List Values) (p : Values) (first next behind : List ℕ)
    → BeginsStream (first ++ (next ++ behind)) f ps (next ++ behind) → p.format ≡ f → IsPicture p
    → frame_walk f (next ++ behind) ≡ Ok (planes_text p, behind)
    → BeginsStream ((first ++ next) ++ behind) f (ps ++ p ∷ []) behind
frame_behind f ps p first next behind b same whole walk =
    subst (λ (octets : List ℕ). BeginsStream octets f (ps ++ p ∷ []) behind)
    (sym (append_assoc first next behind))
    (record {
      frames = b.frames;
      head = b.head;
      are = begins_more f ps p (next ++ behind) behind b.frames b.are same whole walk;
    })

pub stream_more : (f : Format) (ps : List Values) (p : Values) (before now later : List ℕ)
    → GaveStream f ps before now → p.format ≡ f → IsPicture p
    → GaveValue (frame_walk f) now later (planes_text p) → GaveStream f (ps ++ p ∷ []) before later
stream_more f ps p before now later s same whole frame = record {
  part = s.part ++ frame.part;
  grown =
      frame.grown ∙ ap (λ (l : List ℕ). l ++ frame.part) s.grown
      ∙ append_assoc before s.part frame.part;
  says = λ behind.
      frame_behind f ps p s.part frame.part behind (s.says (frame.part ++ behind)) same whole
      (frame.says behind);
}

-- all that it gave
pub stream_so_far : (f : Format) (ps : List Values) (before now : List ℕ)
    → GaveStream f ps before now → IsStreamOf (since before now) f ps
stream_so_far f ps before now s =
    let b : BeginsStream (s.part ++ []) f ps [] = s.says [] in
    subst (λ (octets : List ℕ). IsStreamOf octets f ps)
    (append-nil s.part ∙ sym (since_is before now s.part s.grown))
    (record { frames = b.frames; head = b.head; are = b.are })
