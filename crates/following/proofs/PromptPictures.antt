-- A sender's pictures, handed out of a prompt stream.
use Rattle.std.proofs.Common.{◌≡◌, ℕ, ◌<◌, Bool, List, map, sym, ap, ◌∙◌, subst}
use Rattle.st_format.specs.declared.cell.Cell.{Cell}
use Rattle.st_format.specs.Picture.{Values}
use Rattle.packet_plan.specs.Sender.{Sender}
use Rattle.path_receiver.specs.Opening.{Opening}
use Rattle.path_receiver.specs.Sender.{IsSendersCell}
use Rattle.following.specs.Serial.{wrapped}
use Rattle.following.specs.Follower.{opened}
use Rattle.following.specs.Pictures.{BroughtAll, BroughtSome, pictures_from, timed_from, times_from}
use Rattle.following.specs.Prompt.{AreAgreed, IsPrompt}
use Rattle.following.specs.Times.{Timed, datagrams_at, octets_of}
use Rattle.following.specs.Turned.{handed_all}
use Rattle.following.proofs.Pictures.{pictures_are, pictures_half, pictures_timed, timed-octets}
use Rattle.following.proofs.Premises.{nearby_half}
use Rattle.following.proofs.Prompt.{prompt_stream}
use Rattle.following.proofs.SendersCells.{at_time_among, frame_cells}

-- No two of a sender's datagrams give a sample of a time different values.
pub senders_agree : (o : Opening) (s : Sender) (ps : List Values) (xs : List Timed)
    → BroughtSome o s ps (octets_of xs) → AreAgreed o xs
senders_agree o s ps xs brought u at is e =
    subst (λ (c : Cell). IsSendersCell c s ps (wrapped u) at) e
    (frame_cells o s brought.first ps brought.sent (datagrams_at u xs) (wrapped u) at
    brought.list brought.format (at_time_among u xs brought.sent brought.among))

brought_some : (o : Opening) (s : Sender) (ps : List Values) (ds : List (List ℕ))
    → BroughtAll o s ps ds → BroughtSome o s ps ds
brought_some o s ps ds all = record {
  first = all.first;
  sent = all.sent;
  list = all.list;
  format = all.opened.format;
  among = λ octets m. all.same.forth octets m;
}

-- The pictures of a sender are handed out, early or as they are due, all, in order, with nothing
-- missing.
pub prompt_pictures : (eager : Bool) (o : Opening) (size ahead : ℕ) (s : Sender) (ps : List Values)
    (ds : List (List ℕ)) → 0 < size → BroughtAll o s ps ds
    → IsPrompt eager o size ahead (map (timed_from o s.base) ds)
    → handed_all eager (opened o size ahead) ds ≡ pictures_from s 0 ps
prompt_pictures eager o size ahead s ps ds some all prompt =
    let xs : List Timed = map (timed_from o s.base) ds in
    let octets : octets_of xs ≡ ds = timed-octets o s.base ds in
    ap (λ (es : List (List ℕ)). handed_all eager (opened o size ahead) es) (sym octets)
    ∙ prompt_stream eager o size ahead xs some (pictures_timed o s ps ds all)
    (nearby_half size s.base (times_from o s.base ds) (pictures_half o s ps ds all)) prompt
    (λ is. senders_agree o s ps xs
    (subst (BroughtSome o s ps) (sym octets) (brought_some o s ps ds all)))
    ∙ pictures_are o s ps ds all
