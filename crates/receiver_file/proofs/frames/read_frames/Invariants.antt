use Rattle.std.proofs.Common.{◌≡◌, [], All, length}
use Rattle.st_format.specs.Fields.{fields_of}
use Rattle.st_format.specs.Raster.{Raster}
use Rattle.path_receiver.specs.Opening.{AreDifferent}
use Rattle.st_format.specs.Given.{Takes}
use Rattle.receiver_file.specs.Giving.{GaveOf}
use Rattle.receiver_file.specs.Saved.{kept_frames}
use Rattle.receiver_file.specs.StateReading.{all_held_at}
use Rattle.receiver_file.proofs.frames.read_frames.Given as goal

pub record Reading (so_many each alike apart so_far given count : Type 0) : Type 0 where
  pub stamps : so_many
  pub one_each : each
  pub of_format : alike
  pub different : apart
  pub goes : so_far
  pub gave : given
  pub failures : count

abbrev pub invariant-loop : goal.invariant-loop
invariant-loop g l = Reading
    (length l.window.items ≡ l.counter)
    (length l.frames.items ≡ length l.window.items)
    (All (λ (r : Raster). r.format ≡ l.format) l.frames.items)
    (AreDifferent l.window.items)
    (Takes (all_held_at (fields_of l.format) l.counter [])
    (g.S.ByteSource.to_give l.initial.source) (g.S.ByteSource.to_give l.source)
    (kept_frames (fields_of l.format) l.window.items l.frames.items))
    (GaveOf (all_held_at (fields_of l.format) l.counter [])
    (g.S.ByteSource.gave l.initial.source) (g.S.ByteSource.gave l.source)
    (kept_frames (fields_of l.format) l.window.items l.frames.items))
    (g.S.ByteSource.failures l.source ≡ g.S.ByteSource.failures l.initial.source)
