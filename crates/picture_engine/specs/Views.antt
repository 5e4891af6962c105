-- What a frame is shown as: settled, or with marks (own). The text of a fill may be absent.
use Rattle.std.specs.Prelude.{◌≡◌, ℕ, ◌*◌, ◌-◌, ◌^◌, List, [], ◌∷◌, Option, None, Some, ⊤}
use Rattle.std.specs.Borrow.{Bor}
use Rattle.marked_view.specs.Marked.{pixels_seen, view_fields}
use Rattle.receiver_engines.specs.Inputs.{IsFill, IsHeldFor, settled_by_fill, settled_over}
use Rattle.receiver_engines.specs.Refused.{HasNoFill}
use Rattle.st_format.specs.declared.format.Format.{Format}
use Rattle.st_format.specs.declared.sampling.Sampling.{Sampling}
use Rattle.st_format.specs.declared.sampling.Sampling.TheVariants.{Ycc422, Ycc444, Rgb}
use Rattle.st_format.specs.Fields.{fields_of}
use Rattle.st_format.specs.Pgroup.{bits_of}
use Rattle.st_format.specs.Picture.{Values, value_at}
use Rattle.st_format.specs.Raster.{Raster}
use Rattle.picture_engine.specs.declared.asked.View.{View}
use Rattle.picture_engine.specs.declared.asked.View.TheVariants.{Settled, Marked}

-- Black of narrow range, where 1 of 8 bits is so much: Y at 16, Cb and Cr at 128, and R, G and B at
-- 16 of 8 bits (SMPTE ST 2110-20, RANGE)
abbrev pub black_by : Sampling → ℕ → List ℕ
black_by Ycc422 one = 16 * one ∷ 128 * one ∷ 128 * one ∷ []
black_by Ycc444 one = 16 * one ∷ 128 * one ∷ 128 * one ∷ []
black_by Rgb one = 16 * one ∷ 16 * one ∷ 16 * one ∷ []

-- black of a format: 1 of 8 bits is 2^(bits - 8) of its depth
abbrev pub black : Format → List ℕ
black f = black_by f.sampling (2 ^ (bits_of f.depth - 8))

-- a text, where there is one, says three values
abbrev pub SaysFill : Option (Bor (List ℕ)) → Type 0
SaysFill None = ⊤
SaysFill (Some text) = (fill : List ℕ) × IsFill fill text.now []

-- there is a text, which says none
abbrev pub SaysNoFill : Option (Bor (List ℕ)) → Type 0
SaysNoFill None = ⊥
SaysNoFill (Some text) = HasNoFill text.now []

-- so of how a frame is shown
abbrev pub SaysView : View → Type 0
SaysView (Settled text) = SaysFill text
SaysView Marked = ⊤

-- a frame is shown settled, by a text that says no three values
abbrev pub SaysNoView : View → Type 0
SaysNoView (Settled text) = SaysNoFill text
SaysNoView Marked = ⊥

-- the values that stand for what a frame lacks: those that the text says, which fit its depth, or
-- black where there is no text
abbrev pub IsFillOf : Option (Bor (List ℕ)) → List ℕ → Raster → Type 0
IsFillOf None fill q = fill ≡ black q.format
IsFillOf (Some text) fill q = IsFill fill text.now (q ∷ [])

-- a frame has such values
abbrev pub HasFill : Option (Bor (List ℕ)) → Raster → Type 0
HasFill text q = (fill : List ℕ) × IsFillOf text fill q

-- a frame has no such values
abbrev pub LacksFill : Option (Bor (List ℕ)) → Raster → Type 0
LacksFill text q = (fill : List ℕ) → IsFillOf text fill q → ⊥

-- a frame settled over what is held, or else by a fill
abbrev pub settled_with : Option Values → List ℕ → Raster → Values
settled_with None fill q = settled_by_fill fill q
settled_with (Some p) fill q = settled_over (value_at p) q

-- a picture is a frame settled: what is held has its format
pub record SettlesFrame (text : Option (Bor (List ℕ))) (held : Option Values) (q : Raster)
    (v : Values) : Type 0 where
  pub fill : List ℕ
  pub fill_is : IsFillOf text fill q
  pub held_is : IsHeldFor held (q ∷ [])
  pub settled : v ≡ settled_with held fill q

-- a picture is a frame with its marks
pub record IsMarkedView (q : Raster) (v : Values) : Type 0 where
  pub format : fields_of v.format ≡ view_fields q.format
  pub seen : v.samples ≡ pixels_seen q (q.format.width * q.format.height)
