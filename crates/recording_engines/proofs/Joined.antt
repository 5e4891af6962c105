-- Joining files, a record at a time.
use Rattle.std.proofs.Common.{◌≡◌, ℕ, inl, inr, List, [], ◌∷◌, ◌++◌, Option, None}
use Rattle.std.proofs.Common.{Some, refl, sym, ap, subst, ◌∙◌, append_assoc, append-nil}
use Rattle.std.specs.List.{AllByRecursion}
use Rattle.media_file.specs.Records.{Entry}
use Rattle.recording_reader.specs.declared.fault.ReadingFault.{ReadingFault}
use Rattle.recording_engines.specs.Joining.{ComesLater, ComesNoSooner, IsJoinedNext, IsOver}
use Rattle.recording_engines.specs.Joining.{JoinsByMoment, Strand}
use Rattle.recording_engines.specs.Steps.{Ahead, AllFresh, Coming, HasJoined, IsLater, IsNoSooner}
use Rattle.recording_engines.specs.Steps.{Over, ReadsMore, Standing, TakesEarliest, Unknown}
use Rattle.recording_engines.specs.Steps.{left_by, left_of, lefts, nothing, whole, whole_by, wholes}

abbrev strand : List Entry → Option ReadingFault → Strand
strand es f = record { entries = es; fault = f }

-- ---- one file, which was read on

-- what was to come of it before
abbrev come : Ahead → Strand → Strand
come Unknown r = r
come (Coming e) r = record { entries = e ∷ r.entries; fault = r.fault }
come (Over f) r = record { entries = []; fault = f }

whole_more : (es es' : List Entry) (e : Entry) (a : Ahead) (r : Strand) → ReadsMore es a es'
    → whole_by es' a r ≡ whole_by es (Coming e) (come a r)
whole_more es es' e Unknown r more = absurd more
whole_more es es' e (Coming f) r more =
    ap (λ (l : List Entry). strand l r.fault)
    (ap (λ (l : List Entry). l ++ r.entries) more ∙ append_assoc es (f ∷ []) r.entries)
whole_more es es' e (Over f) r more =
    ap (λ (l : List Entry). strand l f) (more ∙ sym (append-nil es))

left_more : (e : Entry) (a : Ahead) (r : Strand)
    → left_by (Coming e) (come a r)
    ≡ record { entries = e ∷ (left_by a r).entries; fault = (left_by a r).fault }
left_more e Unknown r = refl
left_more e (Coming f) r = refl
left_more e (Over f) r = refl

-- ---- what comes next of the others

pub later : (moment : ℕ) (a : Ahead) (r : Strand) → IsLater moment a
    → ComesLater moment (left_by a r).entries (left_by a r).fault
later moment Unknown r is = absurd is
later moment (Coming e) r is = is
later moment (Over None) r is = tt
later moment (Over (Some f)) r is = absurd is

no_sooner : (moment : ℕ) (a : Ahead) (r : Strand) → IsNoSooner moment a
    → ComesNoSooner moment (left_by a r).entries (left_by a r).fault
no_sooner moment Unknown r is = absurd is
no_sooner moment (Coming e) r is = is
no_sooner moment (Over None) r is = tt
no_sooner moment (Over (Some f)) r is = absurd is

pub none_sooner : (moment : ℕ) (ss : List Standing) (rs : List Strand)
    → AllByRecursion (λ t. IsNoSooner moment t.ahead) ss
    → AllByRecursion (λ t. ComesNoSooner moment t.entries t.fault) (lefts ss rs)
none_sooner moment [] rs is = tt
none_sooner moment (s ∷ ss) [] is =
    (no_sooner moment s.ahead nothing is.0, none_sooner moment ss [] is.1)
none_sooner moment (s ∷ ss) (r ∷ rs) is =
    (no_sooner moment s.ahead r is.0, none_sooner moment ss rs is.1)

-- ---- a record more of all

-- what was to come of files before one was read on
pub record Came (ss ss' : List Standing) (e : Entry) (rs' : List Strand) : Type 0 where
  pub rs : List Strand
  pub same : wholes ss' rs' ≡ wholes ss rs
  pub next : IsJoinedNext (lefts ss rs) e (lefts ss' rs')

here : (s s' : Standing) (ss ss' : List Standing) (e : Entry) (r' : Strand) (rs : List Strand)
    → s.ahead ≡ Coming e → ReadsMore s.entries s'.ahead s'.entries → ss' ≡ ss
    → AllByRecursion (λ t. IsNoSooner e.moment t.ahead) ss
    → (whole s' r' ∷ wholes ss' rs ≡ whole s (come s'.ahead r') ∷ wholes ss rs)
    × IsJoinedNext (left_of s (come s'.ahead r') ∷ lefts ss rs) e (left_of s' r' ∷ lefts ss' rs)
here s s' ss ss' e r' rs coming more same all = (
  cons (whole_more s.entries s'.entries e s'.ahead r' more
      ∙ ap (λ (a : Ahead). whole_by s.entries a (come s'.ahead r')) (sym coming))
      (ap (λ (l : List Standing). wholes l rs) same),
  inl (
    ap (λ (a : Ahead). left_by a (come s'.ahead r')) coming ∙ left_more e s'.ahead r',
    ap (λ (l : List Standing). lefts l rs) same,
    none_sooner e.moment ss rs all,
  ),
)
  where
    cons : {x y : Strand} {xs ys : List Strand} → x ≡ y → xs ≡ ys → x ∷ xs ≡ y ∷ ys
    cons one rest = cc

there : (s s' : Standing) (ss ss' : List Standing) (e : Entry) (r : Strand) (rs' rs : List Strand)
    → s' ≡ s → IsLater e.moment s.ahead → wholes ss' rs' ≡ wholes ss rs
    → IsJoinedNext (lefts ss rs) e (lefts ss' rs')
    → (whole s' r ∷ wholes ss' rs' ≡ whole s r ∷ wholes ss rs)
    × IsJoinedNext (left_of s r ∷ lefts ss rs) e (left_of s' r ∷ lefts ss' rs')
there s s' ss ss' e r rs' rs same is wholes_same next = (
  cc,
  inr (
    ap (λ (t : Standing). left_of t r) same,
    later e.moment s.ahead r is,
    next,
  ),
)

pub came : (ss ss' : List Standing) (e : Entry) (rs' : List Strand) → TakesEarliest ss e ss'
    → Came ss ss' e rs'
came [] ss' e rs' takes = absurd takes
came (s ∷ ss) [] e rs' takes = absurd takes
came (s ∷ ss) (s' ∷ ss') e [] (inl takes) =
    let is = here s s' ss ss' e nothing [] takes.0 takes.1 takes.2 takes.3 in
    record { rs = come s'.ahead nothing ∷ []; same = is.0; next = is.1 }
came (s ∷ ss) (s' ∷ ss') e (r ∷ rs) (inl takes) =
    let is = here s s' ss ss' e r rs takes.0 takes.1 takes.2 takes.3 in
    record { rs = come s'.ahead r ∷ rs; same = is.0; next = is.1 }
came (s ∷ ss) (s' ∷ ss') e [] (inr takes) =
    let rest = came ss ss' e [] takes.2 in
    let is = there s s' ss ss' e nothing [] rest.rs takes.0 takes.1 rest.same rest.next in
    record { rs = nothing ∷ rest.rs; same = is.0; next = is.1 }
came (s ∷ ss) (s' ∷ ss') e (r ∷ rs) (inr takes) =
    let rest = came ss ss' e rs takes.2 in
    let is = there s s' ss ss' e r rs rest.rs takes.0 takes.1 rest.same rest.next in
    record { rs = r ∷ rest.rs; same = is.0; next = is.1 }

pub joins_more : (strands left left' : List Strand) (es : List Entry) (e : Entry)
    → JoinsByMoment strands es left → IsJoinedNext left e left'
    → JoinsByMoment strands (es ++ e ∷ []) left'
joins_more strands left left' [] e joins next =
    (left', subst (λ (l : List Strand). IsJoinedNext l e left') joins next, refl)
joins_more strands left left' (x ∷ xs) e joins next =
    (joins.0, joins.1, joins_more joins.0 left left' xs e joins.2 next)

pub joined_more : (ss ss' : List Standing) (es : List Entry) (e : Entry) → HasJoined ss es
    → TakesEarliest ss e ss' → HasJoined ss' (es ++ e ∷ [])
joined_more ss ss' es e joined takes = record {
  joins = λ rs'.
      let was = came ss ss' e rs' takes in
      subst (λ (l : List Strand). JoinsByMoment l (es ++ e ∷ []) (lefts ss' rs')) (sym was.same)
      (joins_more (wholes ss was.rs) (lefts ss was.rs) (lefts ss' rs') es e
      (joined.joins was.rs) was.next);
}

-- ---- the beginning and the end

pub fresh_same : (ss : List Standing) (rs : List Strand) → AllFresh ss → lefts ss rs ≡ wholes ss rs
fresh_same [] rs fresh = refl
fresh_same (s ∷ ss) [] fresh =
    let one = fresh.0 nothing in
    let rest = fresh_same ss [] fresh.1 in cc
fresh_same (s ∷ ss) (r ∷ rs) fresh =
    let one = fresh.0 r in
    let rest = fresh_same ss rs fresh.1 in cc

pub joined_none : (ss : List Standing) → AllFresh ss → HasJoined ss []
joined_none ss fresh = record { joins = λ rs. fresh_same ss rs fresh }

pub all_over : (ss : List Standing) (rs : List Strand)
    → AllByRecursion (λ s. s.ahead ≡ Over None) ss → AllByRecursion IsOver (lefts ss rs)
all_over [] rs over = tt
all_over (s ∷ ss) [] over =
    (ap (λ (a : Ahead). left_by a nothing) over.0, all_over ss [] over.1)
all_over (s ∷ ss) (r ∷ rs) over =
    (ap (λ (a : Ahead). left_by a r) over.0, all_over ss rs over.1)
