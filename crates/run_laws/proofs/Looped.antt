-- Through a link that makes no datagram each sample is the picture's or missing.
use Rattle.std.proofs.Common.{◌≡◌, ℕ, ◌+◌, ◌*◌, ◌/◌, ◌%◌, ◌^◌, List, [], ◌∷◌, map}
use Rattle.std.proofs.Common.{Option, append-nil, refl, sym, ap, ◌∙◌, subst, arith}
use native.Mathlib.Nat.{zero-div}
use Rattle.st_format.specs.declared.cell.Cell.{Cell}
use Rattle.st_format.specs.declared.format.Format.{Format}
use Rattle.st_format.specs.declared.path.Path.{Path}
use Rattle.st_format.specs.Cell.{is_contested}
use Rattle.st_format.specs.Picture.{IsPicture, Values, timestamp_of}
use Rattle.st_format.specs.Position.{Position, places}
use Rattle.st_format.specs.Raster.{Raster, cell_at}
use Rattle.packet_plan.specs.declared.stamp.Stamp.{Stamp}
use Rattle.packet_plan.specs.Sender.{IsSenderList, Sender}
use Rattle.packet_plan.specs.Sent.{IsSentPicture}
use Rattle.packet_plan.specs.Text.{IsStamp, datagram_texts}
use Rattle.packet_plan.proofs.Texts.{picture_sent}
use Rattle.path_receiver.specs.Frames.{cell_if, cell_in}
use Rattle.path_receiver.specs.Opening.{Opening}
use Rattle.path_receiver.specs.Sender.{IsSendersCell}
use Rattle.path_receiver.specs.TookSent.{TookOfSender}
use Rattle.path_receiver.proofs.Held.{cells_of_sender}
use Rattle.run_outcome.specs.Moments.{WasRead}
use Rattle.capture_engines.specs.Looping.{Link, Loops, loop_stamp}
use Rattle.run_laws.specs.Received.{read_of}
use Rattle.run_laws.specs.Sent.{BringsOnly, loop_sender}
use Rattle.run_laws.proofs.Receiving.{was_read}
use Rattle.run_laws.proofs.Uncontested.{none_counted, senders_cell}

-- ---- the picture's datagrams are a sender's list

first_time : (f : Format) → timestamp_of f 0 0 ≡ 0
first_time f =
    let none : 0 * 90000 * f.d ≡ 0 = omega arith in
    ap (λ (n : ℕ). (0 + n / f.n) % 2 ^ 32) none
    ∙ ap (λ (n : ℕ). (0 + n) % 2 ^ 32) (zero-div f.n)

abbrev stamp_at : ℕ → Stamp
stamp_at timestamp = record { payload_type = 96; first = 0; timestamp = timestamp; ssrc = 1 }

is_stamp : IsStamp loop_stamp
is_stamp = record {
  payload_type = omega arith;
  timestamp = omega arith;
  ssrc = omega arith;
}

abbrev NONE : List (List ℕ)
NONE = []

module _ (max limit : ℕ) (told : List ℕ → Type 0) (before after : Link) (old new : List ℕ)
    (run : Loops max limit told before after old new) (is : IsPicture run.picture)
    (only : BringsOnly run.picture run.packets run.came.arrivals)
  where
    abbrev p : Values
    p = run.picture

    abbrev s : Sender
    s = loop_sender p

    abbrev texts : List (List ℕ)
    texts = datagram_texts p loop_stamp 0 run.packets

    sent : IsSentPicture texts p (stamp_at (timestamp_of p.format 0 0)) max run.packets
    sent =
        subst (λ (t : ℕ). IsSentPicture texts p (stamp_at t) max run.packets)
        (sym (first_time p.format))
        (picture_sent p loop_stamp max run.packets run.plan.limits.most run.plan.plan is is_stamp)

    list : IsSenderList texts s 0 (p ∷ [])
    list = record {
      few = omega arith;
      sent =
          record {
            size = max;
            packets = run.packets;
            mine = texts;
            others = NONE;
            format = refl;
            picture = sent;
            rest = refl;
            whole = sym (append-nil texts);
          };
    }

    took : TookOfSender run.receiver s (p ∷ [])
    took = record {
      first = 0;
      sent = texts;
      list = list;
      format = sym (ap (λ (o : Opening). o.format) run.opening);
      taken = map (λ (d : Path × List ℕ). d.1) run.came.arrivals;
      holds = run.came.holds;
      among = only;
    }

    cells : (at : Position) → IsSendersCell (cell_in run.receiver 0 at) s (p ∷ []) 0 at
    cells at = cells_of_sender run.receiver s (p ∷ []) took 0 at

    contested : run.printed.counts.contested ≡ 0
    contested =
        let frame : Raster = run.printed.frame in
        run.printed.counted.contested
        ∙ none_counted (λ at. is_contested (cell_at frame at)) (places frame.format)
        (λ at. senders_cell (cell_at frame at) s (p ∷ []) 0 at
        (subst (λ (c : Cell). IsSendersCell c s (p ∷ []) 0 at)
        (ap (λ (r : Option Raster). cell_if r at) run.printed.there) (cells at)))

-- of a run that read the picture of a source

module _ {S : Type 0} (gave : S → List ℕ) (ended : S → Type 0) (max limit : ℕ) (source later : S)
    (before after : Link) (old new : List ℕ)
    (run : Loops max limit (WasRead gave ended (source, later)) before after old new)
    (only : BringsOnly run.picture run.packets run.came.arrivals)
  where
    is : IsPicture run.picture
    is =
        (run.read (read_of gave (source, later)) (was_read gave ended (source, later))).picture

    pub cells_looped : (at : Position)
        → IsSendersCell (cell_in run.receiver 0 at) (loop_sender run.picture)
        (run.picture ∷ []) 0 at
    cells_looped =
        cells max limit (WasRead gave ended (source, later)) before after old new run is only

    pub counts_looped : run.printed.counts.contested ≡ 0
    counts_looped =
        contested max limit (WasRead gave ended (source, later)) before after old new run is only
