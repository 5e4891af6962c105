use Rattle.std.proofs.Common.{◌≡◌, [], ◌∷◌, None, drop, length, take}
use Rattle.std.specs.List.{sum_by, zip}
use Rattle.run_outcome.specs.Moments.{WasRead}
use Rattle.capture_engines.specs.Files.{AreReadWhole, first_way}
use Rattle.capture_engines.specs.Received.{FileOpens, IfFirst}
use Rattle.capture_engines.proofs.FirstRefused.{HasBegun}
use Rattle.window_finding.specs.Finding.{FindsFiles, IsFull}
use Rattle.window_finding.proofs.finding.find_all.Given as goal

abbrev pub invariant-loop-place : goal.invariant-loop-place
invariant-loop-place g l = record {
  len : length l.files ≡ length l.initial.files;
  behind : drop l.place l.files ≡ drop l.place l.initial.files;
  failures : sum_by g.S.ByteSource.failures l.files ≡ sum_by g.S.ByteSource.failures
      l.initial.files;
  begun : HasBegun l.place l.initial.begun l.begun;
  opened : l.initial.begun ≡ None → IfFirst (λ s. FileOpens (0 ∷ []) (first_way l.fn.ways)
      (WasRead g.S.ByteSource.gave g.S.ByteSource.ended s))
      (zip (take l.place l.initial.files) (take l.place l.files));
  whole : (IsFull l.begun → ⊥) → AreReadWhole l.fn.ways
      (WasRead g.S.ByteSource.gave g.S.ByteSource.ended)
      (zip (take l.place l.initial.files) (take l.place l.files));
  found : FindsFiles l.fn.sought l.fn.ways (WasRead g.S.ByteSource.gave g.S.ByteSource.ended)
      (zip (take l.place l.initial.files) (take l.place l.files)) l.initial.begun l.begun;
}
