-- Files that go on side by side, a step at a time.
use Rattle.std.proofs.Common.{◌≡◌, ℕ, zero, suc, inl, inr, List, [], ◌∷◌, ◌++◌, map, Option, None}
use Rattle.std.proofs.Common.{Some, refl, sym, ap, subst, ◌∙◌, append_assoc, append-nil}
use Rattle.std.specs.List.{AllByRecursion}
use Rattle.media_file.specs.Records.{Entry}
use Rattle.recording_engines.proofs.Joined.{fresh_same}
use Rattle.recording_engines.specs.Joining.{ComesNoFault, Strand}
use Rattle.recording_engines.specs.Steps.{Ahead, AllFresh, Coming, Over, ReadsMore, Standing}
use Rattle.recording_engines.specs.Steps.{Unknown, left_by, left_of, lefts, nothing, whole}
use Rattle.recording_engines.specs.Steps.{whole_by, wholes}
use Rattle.recording_reader.specs.declared.fault.ReadingFault.{ReadingFault}
use Rattle.side_by_side.specs.Going.{first_place, going_by}
use Rattle.side_by_side.specs.Steering.{stamp_of}
use Rattle.side_by_side.specs.Steps.{GivesAt, HasGone, HasReadOn, HaveReadOn}
use Rattle.side_by_side.specs.Strands.{AllRunning, Goes, GoesNext, TakesAt, going_in, goings_in}
use Rattle.side_by_side.specs.declared.going.Going.{Going}
use Rattle.side_by_side.specs.declared.going.Going.TheVariants.{Unread, Never}
use Rattle.side_by_side.specs.declared.steering.Steering.{Steering}

abbrev strand : List Entry → Option ReadingFault → Strand
strand es f = record { entries = es; fault = f }

-- ---- reading on

-- what was to come of a file before what comes next was read
abbrev come : Ahead → Strand → Strand
come Unknown r = r
come (Coming e) r = record { entries = e ∷ r.entries; fault = r.fault }
come (Over f) r = record { entries = []; fault = f }

whole_more : (es es' : List Entry) (a : Ahead) (r : Strand) → ReadsMore es a es'
    → whole_by es' a r ≡ whole_by es Unknown (come a r)
whole_more es es' Unknown r more = absurd more
whole_more es es' (Coming e) r more =
    ap (λ (l : List Entry). strand l r.fault)
    (ap (λ (l : List Entry). l ++ r.entries) more ∙ append_assoc es (e ∷ []) r.entries)
whole_more es es' (Over f) r more =
    ap (λ (l : List Entry). strand l f) (more ∙ sym (append-nil es))

left_more : (a : Ahead) (r : Strand) → left_by a r ≡ come a r
left_more Unknown r = refl
left_more (Coming e) r = refl
left_more (Over f) r = refl

-- one file, and what was to come of it before it was read on
pub record CameOne (s s' : Standing) (r' : Strand) : Type 0 where
  pub r : Strand
  pub whole_is : whole s' r' ≡ whole s r
  pub left_is : left_of s' r' ≡ left_of s r

came_one : (s s' : Standing) (r' : Strand) → HasReadOn s s' → CameOne s s' r'
came_one s s' r' (inl same) = record {
  r = r';
  whole_is = ap (λ (t : Standing). whole t r') same;
  left_is = ap (λ (t : Standing). left_of t r') same;
}
came_one s s' r' (inr more) = record {
  r = come s'.ahead r';
  whole_is =
      whole_more s.entries s'.entries s'.ahead r' more.1
      ∙ ap (λ (a : Ahead). whole_by s.entries a (come s'.ahead r')) (sym more.0);
  left_is =
      left_more s'.ahead r' ∙ ap (λ (a : Ahead). left_by a (come s'.ahead r')) (sym more.0);
}

-- the same of files
pub record CameAll (ss ss' : List Standing) (rs' : List Strand) : Type 0 where
  pub rs : List Strand
  pub wholes_are : wholes ss' rs' ≡ wholes ss rs
  pub lefts_are : lefts ss' rs' ≡ lefts ss rs

cons : {x y : Strand} {xs ys : List Strand} → x ≡ y → xs ≡ ys → x ∷ xs ≡ y ∷ ys
cons one rest = cc

came_all : (ss ss' : List Standing) (rs' : List Strand) → HaveReadOn ss ss' → CameAll ss ss' rs'
came_all [] [] rs' on = record { rs = rs'; wholes_are = refl; lefts_are = refl }
came_all [] (s' ∷ ss') rs' on = absurd on
came_all (s ∷ ss) [] rs' on = absurd on
came_all (s ∷ ss) (s' ∷ ss') [] on =
    let one = came_one s s' nothing on.0 in
    let rest = came_all ss ss' [] on.1 in
    record {
      rs = one.r ∷ rest.rs;
      wholes_are = cons one.whole_is rest.wholes_are;
      lefts_are = cons one.left_is rest.lefts_are;
    }
came_all (s ∷ ss) (s' ∷ ss') (r' ∷ rs') on =
    let one = came_one s s' r' on.0 in
    let rest = came_all ss ss' rs' on.1 in
    record {
      rs = one.r ∷ rest.rs;
      wholes_are = cons one.whole_is rest.wholes_are;
      lefts_are = cons one.left_is rest.lefts_are;
    }

pub gone_on : (st : Steering) (ss ss' : List Standing) (es : List Entry) → HaveReadOn ss ss'
    → HasGone st ss es → HasGone st ss' es
gone_on st ss ss' es on gone = record {
  goes = λ rs'.
      let was = came_all ss ss' rs' on in
      subst (λ (l : List Strand). Goes st l es (lefts ss' rs')) (sym was.wholes_are)
      (subst (λ (l : List Strand). Goes st (wholes ss was.rs) es l) (sym was.lefts_are)
      (gone.goes was.rs));
}

-- what was read on twice was read on
more_stays : (es es' es'' : List Entry) (a : Ahead) (t : Standing) → ReadsMore es a es'
    → a ≡ Unknown → ReadsMore es t.ahead es''
more_stays es es' es'' Unknown t more is = absurd more
more_stays es es' es'' (Coming e) t more is = absurd cc
more_stays es es' es'' (Over f) t more is = absurd cc

goes_on_both : (s t u : Standing) → HasReadOn s t → HasReadOn t u → HasReadOn s u
goes_on_both s t u (inl same) (inl more) = inl (more ∙ same)
goes_on_both s t u (inl same) (inr more) =
    inr (subst (λ (x : Standing). (x.ahead ≡ Unknown) × ReadsMore x.entries u.ahead u.entries) same
    more)
goes_on_both s t u (inr first) (inl same) =
    inr (first.0, subst (λ (x : Standing). ReadsMore s.entries x.ahead x.entries) (sym same) first.1)
goes_on_both s t u (inr first) (inr more) =
    inr (first.0, more_stays s.entries t.entries u.entries t.ahead u first.1 more.0)

pub all_stay : (ss : List Standing) → HaveReadOn ss ss
all_stay [] = tt
all_stay (s ∷ ss) = (inl refl, all_stay ss)

pub all_on : (ss ts us : List Standing) → HaveReadOn ss ts → HaveReadOn ts us → HaveReadOn ss us
all_on [] [] [] first more = tt
all_on [] [] (u ∷ us) first more = absurd more
all_on [] (t ∷ ts) us first more = absurd first
all_on (s ∷ ss) [] us first more = absurd first
all_on (s ∷ ss) (t ∷ ts) [] first more = absurd more
all_on (s ∷ ss) (t ∷ ts) (u ∷ us) first more =
    (goes_on_both s t u first.0 more.0, all_on ss ts us first.1 more.1)

-- ---- giving

-- what comes next of a file is known, and is no fault
abbrev pub IsKnownAhead : Ahead → Type 0
IsKnownAhead Unknown = ⊥
IsKnownAhead (Coming e) = Unit {0}
IsKnownAhead (Over None) = Unit {0}
IsKnownAhead (Over (Some f)) = ⊥

abbrev pub AllKnownAhead : List Standing → Type 0
AllKnownAhead ss = AllByRecursion (λ s. IsKnownAhead s.ahead) ss

-- when it goes
abbrev pub going_ahead : Steering → Ahead → Going
going_ahead st Unknown = Unread
going_ahead st (Coming e) = going_by (stamp_of st e.octets)
going_ahead st (Over f) = Never

abbrev pub goings_ahead : Steering → List Standing → List Going
goings_ahead st ss = map (λ s. going_ahead st s.ahead) ss

going_left : (st : Steering) (a : Ahead) (r : Strand) → IsKnownAhead a
    → going_in st (left_by a r).entries ≡ going_ahead st a
going_left st Unknown r known = absurd known
going_left st (Coming e) r known = refl
going_left st (Over f) r known = refl

pub running_left : (a : Ahead) (r : Strand) → IsKnownAhead a
    → ComesNoFault (left_by a r).entries (left_by a r).fault
running_left Unknown r known = absurd known
running_left (Coming e) r known = tt
running_left (Over None) r known = tt
running_left (Over (Some f)) r known = absurd known

cons_going : {x y : Going} {xs ys : List Going} → x ≡ y → xs ≡ ys → x ∷ xs ≡ y ∷ ys
cons_going one rest = cc

goings_left : (st : Steering) (ss : List Standing) (rs : List Strand) → AllKnownAhead ss
    → goings_in st (lefts ss rs) ≡ goings_ahead st ss
goings_left st [] rs known = refl
goings_left st (s ∷ ss) [] known =
    cons_going (going_left st s.ahead nothing known.0) (goings_left st ss [] known.1)
goings_left st (s ∷ ss) (r ∷ rs) known =
    cons_going (going_left st s.ahead r known.0) (goings_left st ss rs known.1)

all_running : (ss : List Standing) (rs : List Strand) → AllKnownAhead ss
    → AllRunning (lefts ss rs)
all_running [] rs known = tt
all_running (s ∷ ss) [] known =
    (running_left s.ahead nothing known.0, all_running ss [] known.1)
all_running (s ∷ ss) (r ∷ rs) known = (running_left s.ahead r known.0, all_running ss rs known.1)

-- a file whose next record was given
whole_given : (s s' : Standing) (e : Entry) (r : Strand) → s.ahead ≡ Coming e
    → s' ≡ record { entries = s.entries; ahead = Unknown } → whole s' r ≡ whole s r
whole_given s s' e r coming is =
    ap (λ (t : Standing). whole t r) is
    ∙ sym (ap (λ (a : Ahead). whole_by s.entries a r) coming)

left_given : (s s' : Standing) (e : Entry) (r : Strand) → s.ahead ≡ Coming e
    → s' ≡ record { entries = s.entries; ahead = Unknown }
    → left_of s r ≡ record { entries = e ∷ (left_of s' r).entries; fault = (left_of s' r).fault }
left_given s s' e r coming is =
    ap (λ (a : Ahead). left_by a r) coming
    ∙ sym (ap (λ (t : Standing). strand (e ∷ (left_of t r).entries) (left_of t r).fault) is)

wholes_given : (k : ℕ) (ss ss' : List Standing) (e : Entry) (rs : List Strand)
    → GivesAt k ss e ss' → wholes ss' rs ≡ wholes ss rs
wholes_given k [] ss' e rs gives = absurd gives
wholes_given k (s ∷ ss) [] e rs gives = absurd gives
wholes_given zero (s ∷ ss) (s' ∷ ss') e [] gives =
    cons (whole_given s s' e nothing gives.0 gives.1)
    (ap (λ (l : List Standing). wholes l []) gives.2)
wholes_given zero (s ∷ ss) (s' ∷ ss') e (r ∷ rs) gives =
    cons (whole_given s s' e r gives.0 gives.1) (ap (λ (l : List Standing). wholes l rs) gives.2)
wholes_given (suc k) (s ∷ ss) (s' ∷ ss') e [] gives =
    cons (ap (λ (t : Standing). whole t nothing) gives.0) (wholes_given k ss ss' e [] gives.1)
wholes_given (suc k) (s ∷ ss) (s' ∷ ss') e (r ∷ rs) gives =
    cons (ap (λ (t : Standing). whole t r) gives.0) (wholes_given k ss ss' e rs gives.1)

takes_given : (k : ℕ) (ss ss' : List Standing) (e : Entry) (rs : List Strand)
    → GivesAt k ss e ss' → TakesAt k (lefts ss rs) e (lefts ss' rs)
takes_given k [] ss' e rs gives = absurd gives
takes_given k (s ∷ ss) [] e rs gives = absurd gives
takes_given zero (s ∷ ss) (s' ∷ ss') e [] gives =
    (left_given s s' e nothing gives.0 gives.1, ap (λ (l : List Standing). lefts l []) gives.2)
takes_given zero (s ∷ ss) (s' ∷ ss') e (r ∷ rs) gives =
    (left_given s s' e r gives.0 gives.1, ap (λ (l : List Standing). lefts l rs) gives.2)
takes_given (suc k) (s ∷ ss) (s' ∷ ss') e [] gives =
    (ap (λ (t : Standing). left_of t nothing) gives.0, takes_given k ss ss' e [] gives.1)
takes_given (suc k) (s ∷ ss) (s' ∷ ss') e (r ∷ rs) gives =
    (ap (λ (t : Standing). left_of t r) gives.0, takes_given k ss ss' e rs gives.1)

goes_more : (st : Steering) (strands left left' : List Strand) (es : List Entry) (e : Entry)
    → Goes st strands es left → GoesNext st left e left' → Goes st strands (es ++ e ∷ []) left'
goes_more st strands left left' [] e goes next =
    (left', subst (λ (l : List Strand). GoesNext st l e left') goes next, refl)
goes_more st strands left left' (x ∷ xs) e goes next =
    (goes.0, goes.1, goes_more st goes.0 left left' xs e goes.2 next)

pub gone_more : (st : Steering) (k : ℕ) (w : Going) (ss ss' : List Standing) (es : List Entry)
    (e : Entry) → AllKnownAhead ss → first_place (goings_ahead st ss) ≡ Some (k, w)
    → GivesAt k ss e ss' → HasGone st ss es → HasGone st ss' (es ++ e ∷ [])
gone_more st k w ss ss' es e known first gives gone = record {
  goes = λ rs.
      subst (λ (l : List Strand). Goes st l (es ++ e ∷ []) (lefts ss' rs))
      (sym (wholes_given k ss ss' e rs gives))
      (goes_more st (wholes ss rs) (lefts ss rs) (lefts ss' rs) es e (gone.goes rs) (record {
        place = k;
        going = w;
        first = ap first_place (goings_left st ss rs known) ∙ first;
        running = all_running ss rs known;
        takes = takes_given k ss ss' e rs gives;
      }));
}

-- ---- the beginning

pub gone_none : (st : Steering) (ss : List Standing) → AllFresh ss → HasGone st ss []
gone_none st ss fresh = record { goes = λ rs. fresh_same ss rs fresh }
