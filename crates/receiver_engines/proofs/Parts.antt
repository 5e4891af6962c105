-- What a capture was written of a job's picture, where a run fails.
use Rattle.std.proofs.Common.{◌≡◌, ℕ, List, [], ◌++◌, length, append-nil}
use Rattle.std.proofs.Common.{ap, arith, sym, ◌∙◌}
use Rattle.std.proofs.lemmas.List.{take_all}
use Rattle.key_mix.specs.Sending.{IsSentJob}
use Rattle.key_mix.specs.declared.Job.{Job}
use Rattle.media_file.specs.Writer.{written_text}
use Rattle.media_file.specs.declared.paths.Paths.TheVariants.{OnlyA}
use Rattle.packet_plan.specs.declared.stamp.Stamp.{Stamp}
use Rattle.st_format.specs.Picture.{Values}
use Rattle.st_format.specs.Device.{GrowsPart}
use Rattle.receiver_engines.specs.Processing.{SendsSaidPart, TakesSaid}

-- nothing
pub sends_none : (text : List ℕ) (job : Job) (size : ℕ) (stamp : Stamp) (old new : List ℕ)
    → new ≡ old → SendsSaidPart text size stamp old new
sends_none text job size stamp old new same = record {
  job = job;
  pictures = [];
  datagrams = [];
  count = 0;
  spell = λ some. absurd (omega (arith, some));
  written = same ∙ sym (append-nil old);
}

-- all of it
pub sends_all : (text : List ℕ) (job : Job) (pictures : List Values) (size : ℕ) (stamp : Stamp)
    (old new : List ℕ) (count : ℕ) → TakesSaid text job pictures size stamp old new count
    → SendsSaidPart text size stamp old new
sends_all text job pictures size stamp old new count takes = record {
  job = job;
  pictures = pictures;
  datagrams = takes.datagrams;
  count = length (written_text OnlyA text takes.datagrams);
  spell = λ some. takes.spell;
  written =
      takes.written
      ∙ ap (λ (l : List ℕ). old ++ l)
      (sym (take_all (length (written_text OnlyA text takes.datagrams)) (written_text OnlyA text takes.datagrams)
      (omega arith)));
}

-- a part, where the sink failed
pub sends_part : (text : List ℕ) (job : Job) (pictures : List Values) (size : ℕ) (stamp : Stamp)
    (old new : List ℕ) (datagrams : List (List ℕ)) → IsSentJob datagrams job pictures size stamp
    → GrowsPart old new (written_text OnlyA text datagrams)
    → SendsSaidPart text size stamp old new
sends_part text job pictures size stamp old new datagrams spell part = record {
  job = job;
  pictures = pictures;
  datagrams = datagrams;
  count = part.count;
  spell = λ some. spell;
  written = part.grown;
}
