-- Lines of `follow` (own).
use Rattle.std.specs.Prelude.{ℕ, List, [], ◌∷◌, ◌++◌, codes, Option, None, Some}
use Rattle.std.specs.Fmt.{decimal}
use Rattle.follow_engine.specs.declared.line.FollowLine.{FollowLine}
use Rattle.follow_engine.specs.declared.line.FollowLine.TheVariants.{Left, Anew, Totals, Wants}
use Rattle.follow_engine.specs.declared.line.FollowLine.TheVariants.{WantsMore}

-- what a line says, in ASCII, numbers in decimal digits (own)
abbrev pub line_text : FollowLine → List ℕ
line_text (Left timestamp counts late) =
    codes "frame " ++ (decimal timestamp ++ (codes " present " ++ (decimal counts.present
    ++ (codes " missing " ++ (decimal counts.missing ++ (codes " contested "
    ++ (decimal counts.contested ++ (codes " late " ++ decimal late))))))))
line_text (Anew timestamp) = codes "anew " ++ decimal timestamp
line_text (Totals t) =
    codes "frames " ++ (decimal t.frames ++ (codes " kept " ++ (decimal t.kept ++ (codes " late "
    ++ (decimal t.late ++ (codes " far " ++ (decimal t.far ++ (codes " refused "
    ++ decimal t.refused))))))))
line_text (Wants frames) = codes "late wants window " ++ decimal frames
line_text WantsMore = codes "late wants more than window 16"

-- a line, and LF behind it
abbrev pub ended_line : FollowLine → List ℕ
ended_line l = line_text l ++ 10 ∷ []

-- so of one that is told, if it is
abbrev pub ended_in : Option FollowLine → List ℕ
ended_in None = []
ended_in (Some l) = ended_line l
