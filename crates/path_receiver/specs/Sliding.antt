-- What the calls that exchange frames leave.
use Rattle.std.specs.Prelude.{ℕ, List, [], ◌∷◌, ◌++◌, drop, slice_set}
use Rattle.st_format.specs.Raster.{Raster, blank}
use Rattle.path_receiver.specs.Opening.{Opening}
use Rattle.path_receiver.specs.Frames.{State}

-- an opening with another window
abbrev pub with_window : Opening → List ℕ → Opening
with_window o window = record {
  format = o.format;
  payload_type = o.payload_type;
  ssrc = o.ssrc;
  window = window;
}

-- After a slide: the window's first timestamp is gone and the next stands last, its frame blank;
-- the other frames are as they were (own)
abbrev pub slid_state : State → ℕ → State
slid_state s next = record {
  opening = with_window s.opening (drop 1 s.opening.window ++ next ∷ []);
  frames = drop 1 s.frames ++ blank s.opening.format ∷ [];
  refusals = s.refusals;
}

-- one frame replaced (own)
abbrev pub with_frame : State → ℕ → Raster → State
with_frame s place frame = record {
  opening = s.opening;
  frames = slice_set s.frames place frame;
  refusals = s.refusals;
}
