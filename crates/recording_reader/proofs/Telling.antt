-- What a reader of a file tells as a source of datagrams.
use Rattle.std.proofs.Common.{◌≡◌, ℕ, ◌↔◌, List, [], ◌∷◌, ◌++◌}
use Rattle.std.proofs.Common.{append-nil, None, refl, sym, ap, ◌∙◌}
use Rattle.media_file.specs.Records.{Entry}
use Rattle.st_format.specs.Turns.{CountsTurn, IsEnd, IsWithin, TakesTurn, arrived}
use Rattle.st_format.specs.declared.device.Turn.{Turn}
use Rattle.st_format.specs.declared.device.Turn.TheVariants.{Datagram, Quiet, End}
use Rattle.st_format.specs.declared.path.Path.{Path}
use Rattle.recording_reader.specs.FileReader.{FileReader, FindsNone}
use Rattle.recording_reader.specs.FileReader.{TellsNext}
use Rattle.recording_reader.specs.FileReader.{TellsOne, TellsTurn}
use Rattle.recording_reader.specs.Files.{datagrams_of}
use Rattle.recording_reader.specs.declared.way.Standing.TheVariants.{Reads, Ended}

-- one record more is one datagram more
pub datagrams_more : (es : List Entry) (e : Entry)
    → datagrams_of (es ++ e ∷ []) ≡ datagrams_of es ++ (e.path, e.octets) ∷ []
datagrams_more [] e = refl
datagrams_more (x ∷ es) e =
    ap (λ (l : List (Path × List ℕ)). (x.path, x.octets) ∷ l) (datagrams_more es e)

-- what is told of the datagram at hand
pub record IsTold {S : Type 0} (old new : FileReader S) (t : Turn) (buf : List ℕ) : Type 0 where
  pub within : IsWithin t
  pub delivered : CountsTurn t old.delivered new.delivered
  pub came : datagrams_of new.records ≡ datagrams_of old.records ++ arrived t buf
  pub ended : (new.standing ≡ Ended) ↔ IsEnd t

told_one : {S : Type 0} (old new : FileReader S) (path : Path) (count : ℕ) (buf : List ℕ)
    → TellsOne path count buf old new → IsTold old new (Datagram path count) buf
told_one old new path count buf tells =
    let e = tells.entry in
    record {
      within = tells.few;
      delivered = tells.delivered;
      came =
          ap datagrams_of tells.records ∙ datagrams_more old.records e
          ∙ ap (λ (by : Path). datagrams_of old.records ++ (by, e.octets) ∷ []) (sym tells.by)
          ∙ ap (λ (o : List ℕ). datagrams_of old.records ++ (path, o) ∷ []) (sym tells.octets);
      ended = (λ over. let other : Reads ≡ Ended = sym tells.reads ∙ over in absurd cc, λ no. absurd no);
    }

pub told : {S : Type 0} (old new : FileReader S) (t : Turn) (buf : List ℕ)
    → TellsNext t buf old new → IsTold old new t buf
told old new (Datagram path count) buf tells = told_one old new path count buf tells
told old new Quiet buf tells = absurd tells
told old new End buf finds = record {
  within = tt;
  delivered = finds.delivered;
  came = ap datagrams_of finds.records ∙ sym (append-nil (datagrams_of old.records));
  ended = (λ _. tt, λ _. finds.ended);
}

tells_none : {S : Type 0} (old mid new : FileReader S) (t : Turn) (buf : List ℕ)
    → FindsNone old mid → TellsTurn None t buf
    → new.records ≡ mid.records → new.standing ≡ mid.standing → new.delivered ≡ mid.delivered
    → new.at_hand ≡ None → TellsNext t buf old new
tells_none old mid new (Datagram path count) buf finds turn records standing delivered none =
    absurd turn
tells_none old mid new Quiet buf finds turn records standing delivered none = absurd turn
tells_none old mid new End buf finds turn records standing delivered none =
    record {
      records = records ∙ finds.records;
      at_hand = none;
      ended = standing ∙ finds.ended;
      delivered = delivered ∙ finds.delivered;
    }

-- a source that tells no turns takes any
pub takes_any : (t : Turn) (buf : List ℕ) → TakesTurn None None t buf
takes_any (Datagram path count) buf = tt
takes_any Quiet buf = tt
takes_any End buf = (tt, tt, tt)
