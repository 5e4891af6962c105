-- How far files have gone side by side, whatever is still to come of them (own).
use Rattle.std.specs.Prelude.{◌≡◌, ℕ, zero, suc, ◌⊎◌, ⊤, List, [], ◌∷◌}
use Rattle.media_file.specs.Records.{Entry}
use Rattle.recording_engines.specs.Joining.{Strand}
use Rattle.recording_engines.specs.Steps.{Coming, ReadsMore, Standing, Unknown, lefts, wholes}
use Rattle.side_by_side.specs.Strands.{Goes}
use Rattle.side_by_side.specs.declared.steering.Steering.{Steering}

-- the records of files went in this order so far, whatever is still to come
pub record HasGone (steering : Steering) (ss : List Standing) (entries : List Entry) : Type 0 where
  pub goes : (rs : List Strand) → Goes steering (wholes ss rs) entries (lefts ss rs)

-- ---- reading on

-- a file is as it was, or what comes next of it was read
abbrev pub HasReadOn : Standing → Standing → Type 0
HasReadOn s s' =
    (s' ≡ s) ⊎ ((s.ahead ≡ Unknown) × ReadsMore s.entries s'.ahead s'.entries)

-- each file is as it was, or what comes next of it was read
abbrev pub HaveReadOn : List Standing → List Standing → Type 0
HaveReadOn [] [] = ⊤
HaveReadOn [] (s' ∷ ss') = ⊥
HaveReadOn (s ∷ ss) [] = ⊥
HaveReadOn (s ∷ ss) (s' ∷ ss') = HasReadOn s s' × HaveReadOn ss ss'

-- ---- giving

-- the record that comes next of the file of a place was given, and what comes behind it isn't read
abbrev pub GivesAt : ℕ → List Standing → Entry → List Standing → Type 0
GivesAt place [] e ss' = ⊥
GivesAt place (s ∷ ss) e [] = ⊥
GivesAt zero (s ∷ ss) e (s' ∷ ss') =
    (s.ahead ≡ Coming e) × (s' ≡ record { entries = s.entries; ahead = Unknown }) × (ss' ≡ ss)
GivesAt (suc place) (s ∷ ss) e (s' ∷ ss') = (s' ≡ s) × GivesAt place ss e ss'
