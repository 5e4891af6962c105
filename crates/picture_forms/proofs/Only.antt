-- What is written is read as what it is, unless the machine fails.
use Rattle.std.proofs.Common.{◌≡◌, ℕ, List, [], ◌++◌, length, Option, None, Some, Result, Ok, Err}
use Rattle.std.proofs.Common.{append-nil, refl, sym, ap, ◌∙◌, subst}
use Rattle.std.specs.Prelude.{IfErr, IfOk, MatchResult}
use Rattle.std.proofs.lemmas.List.{append_cancel_right}
use Rattle.st_format.specs.declared.format.Format.{Format}
use Rattle.st_format.specs.Fields.{fields_of}
use Rattle.st_format.specs.Given.{GaveValue, Takes}
use Rattle.st_format.specs.History.{IsRead, since}
use Rattle.st_format.specs.Picture.{IsPicture, Values}
use Rattle.st_format.specs.Position.{sample_count}
use Rattle.st_format.proofs.Histories.{since_is}
use Rattle.picture_forms.specs.declared.fault.FormFault.{FormFault}
use Rattle.picture_forms.specs.declared.fault.FormFault.TheVariants.{NoMemory, Device, BadMagic}
use Rattle.picture_forms.specs.declared.fault.FormFault.TheVariants.{BadHeader, UnsupportedForm}
use Rattle.picture_forms.specs.declared.fault.FormFault.TheVariants.{BadFormat, Truncated}
use Rattle.picture_forms.specs.declared.fault.FormFault.TheVariants.{ValueTooLarge}
use Rattle.picture_forms.specs.Faults.{IfContent, IsMachine}
use Rattle.picture_forms.specs.Frames.{GaveFrame, TakesFrame, frame_walk}
use Rattle.picture_forms.specs.Heads.{head_walk}
use Rattle.picture_forms.specs.Layouts.{IsYcc, frame_text, planes_text, y4m_head}
use Rattle.picture_forms.specs.Walks.{Fails, GaveFault}
use Rattle.picture_forms.proofs.FrameAgain.{frame_again}
use Rattle.picture_forms.proofs.HeadAgain.{head_again}
use Rattle.picture_forms.proofs.Once.{one_picture}
use Rattle.picture_forms.proofs.Walked.{Reading, same_value}

machine_only : (f : FormFault) (P : Type 0) → (P → ⊥) → IfContent f P → IsMachine f
machine_only NoMemory P none p = tt
machine_only Device P none p = tt
machine_only BadMagic P none p = none p
machine_only BadHeader P none p = none p
machine_only UnsupportedForm P none p = none p
machine_only BadFormat P none p = none p
machine_only Truncated P none p = none p
machine_only ValueTooLarge P none p = none p

-- ---- a reading that makes a value of octets finds no fault in them, and no other value

module _ {X : Type 0} (r : Reading X) (x : X) (octets left : List ℕ)
    (says : r octets ≡ Ok (x, left))
  where
    no_fault : (f : FormFault) → r octets ≡ Err f → ⊥
    no_fault f bad = absurd (by (r octets) says bad)
      where
        by : (q : Result (X × List ℕ) FormFault) → q ≡ Ok (x, left) → q ≡ Err f → ⊥
        by q a b = cc

    same : (y : X) (rest : List ℕ) → r octets ≡ Ok (y, rest) → (y ≡ x) × (rest ≡ left)
    same y rest e = same_value (r octets) x y left rest says e

    pub takes_same : (new : Option (List ℕ)) (y : X) → Takes r (Some octets) new y
        → (y ≡ x) × (new ≡ Some left)
    takes_same None y p = absurd p
    takes_same (Some rest) y p =
        let e = same y rest p in
        (e.0, ap (λ (l : List ℕ). let o : Option (List ℕ) = Some l in o) e.1)

    pub fails_machine : (f : FormFault) → Fails r (Some octets) f → IsMachine f
    fails_machine f p = machine_only f (r octets ≡ Err f) (no_fault f) p

    -- by what was given, where these octets are it and what is behind it
    pub gave_same : (a b : List ℕ) (ended : Type 0) (y : X) (text : List ℕ) → octets ≡ text ++ left
        → GaveValue r a b y → IsRead a b ended octets → (y ≡ x) × (b ≡ a ++ text)
    gave_same a b ended y text whole g q =
        let front : since a b ≡ g.part = since_is a b g.part g.grown in
        let all : octets ≡ g.part ++ q.behind =
        q.parts ∙ ap (λ (l : List ℕ). l ++ q.behind) front in
        let e = same y q.behind (ap r all ∙ g.says q.behind) in
        let part : g.part ≡ text =
        append_cancel_right g.part text left
        (ap (λ (l : List ℕ). g.part ++ l) (sym e.1) ∙ sym all ∙ whole) in
        (e.0, g.grown ∙ ap (λ (l : List ℕ). a ++ l) part)

    pub fault_machine : (a b : List ℕ) (ended : Type 0) (f : FormFault) → GaveFault r a b ended f
        → IsRead a b ended octets → IsMachine f
    fault_machine a b ended f g q =
        let front : since a b ≡ g.part = since_is a b g.part g.grown in
        let all : octets ≡ g.part ++ q.behind =
        q.parts ∙ ap (λ (l : List ℕ). l ++ q.behind) front in
        machine_only f (r (g.part ++ q.behind) ≡ Err f) (λ bad. no_fault f (ap r all ∙ bad))
        (g.says q.behind q.all)

-- ---- heads

pub head_only : (r : Result Format FormFault) (was new : Option (List ℕ))
    → IfOk r (λ f. Takes head_walk was new (fields_of f)) → IfErr r (λ e. Fails head_walk was e)
    → (g : Format) (behind : List ℕ) → IsYcc g.sampling → was ≡ Some (y4m_head g ++ behind)
    → MatchResult r (λ f. (fields_of f ≡ fields_of g) × (new ≡ Some behind)) IsMachine
head_only (Ok f) was new p q g behind is told =
    takes_same head_walk (fields_of g) (y4m_head g ++ behind) behind (head_again g behind is) new
    (fields_of f) (subst (λ (o : Option (List ℕ)). Takes head_walk o new (fields_of f)) told p)
head_only (Err e) was new p q g behind is told =
    fails_machine head_walk (fields_of g) (y4m_head g ++ behind) behind (head_again g behind is) e
    (subst (λ (o : Option (List ℕ)). Fails head_walk o e) told q)

pub head_gave_only : (r : Result Format FormFault) (a b : List ℕ) (ended : Type 0)
    → IfOk r (λ f. GaveValue head_walk a b (fields_of f))
    → IfErr r (λ e. GaveFault head_walk a b ended e)
    → (g : Format) (behind : List ℕ) → IsYcc g.sampling → IsRead a b ended (y4m_head g ++ behind)
    → MatchResult r (λ f. (fields_of f ≡ fields_of g) × (b ≡ a ++ y4m_head g)) IsMachine
head_gave_only (Ok f) a b ended p q g behind is read =
    gave_same head_walk (fields_of g) (y4m_head g ++ behind) behind (head_again g behind is) a b
    ended (fields_of f) (y4m_head g) refl p read
head_gave_only (Err e) a b ended p q g behind is read =
    fault_machine head_walk (fields_of g) (y4m_head g ++ behind) behind (head_again g behind is) a b
    ended e q read

-- ---- frames

-- a picture of the same planes is the same
same_picture : (v q : Values) → IsYcc v.format.sampling → IsPicture v → IsPicture q
    → q.format ≡ v.format → planes_text q ≡ planes_text v → q ≡ v
same_picture v q is whole_v whole_q same_format e =
    let w : Values = record { format = v.format; samples = q.samples } in
    let as_w : q ≡ w =
    ap (λ (g : Format). let u : Values = record { format = g; samples = q.samples } in u)
    same_format in
    let long : length q.samples ≡ sample_count v.format =
    whole_q.whole ∙ ap sample_count same_format in
    let samples : q.samples ≡ v.samples =
    one_picture v.format q.samples v.samples [] [] is long whole_v.whole
    (ap (λ (t : List ℕ). t ++ []) (sym (ap planes_text as_w) ∙ e)) in
    as_w
    ∙ ap (λ (xs : List ℕ). let u : Values = record { format = v.format; samples = xs } in u)
    samples

some_same : (q v : Values) → q ≡ v → (let x : Option Values = Some q in
    let y : Option Values = Some v in x ≡ y)
some_same q v e = cc

frame_there : (v : Values) (behind : List ℕ) → frame_text v ++ behind ≡ [] → ⊥
frame_there v behind e = cc

frame_only_at : (v : Values) (r : Result (Option Values) FormFault) (new : Option (List ℕ))
    (behind : List ℕ) → IsYcc v.format.sampling → IsPicture v
    → IfOk r (TakesFrame v.format (Some (frame_text v ++ behind)) new)
    → IfErr r (λ e. Fails (frame_walk v.format) (Some (frame_text v ++ behind)) e)
    → MatchResult r (λ o. (o ≡ Some v) × (new ≡ Some behind)) IsMachine
frame_only_at v (Ok (Some q)) new behind is whole p f =
    let e = takes_same (frame_walk v.format) (planes_text v) (frame_text v ++ behind) behind
    (frame_again v behind is whole) new (planes_text q) p.1.1 in
    (some_same q v (same_picture v q is whole p.1.0 p.0 e.0), e.1)
frame_only_at v (Ok None) None behind is whole p f = absurd p.0
frame_only_at v (Ok None) (Some rest) behind is whole p f =
    absurd (frame_there v behind (p.0 ∙ p.1))
frame_only_at v (Err e) new behind is whole p f =
    fails_machine (frame_walk v.format) (planes_text v) (frame_text v ++ behind) behind
    (frame_again v behind is whole) e f

pub frame_only : (g : Format) (r : Result (Option Values) FormFault) (was new : Option (List ℕ))
    → IsYcc g.sampling → IfOk r (TakesFrame g was new) → IfErr r (λ e. Fails (frame_walk g) was e)
    → (v : Values) (behind : List ℕ) → IsPicture v → v.format ≡ g
    → was ≡ Some (frame_text v ++ behind)
    → MatchResult r (λ o. (o ≡ Some v) × (new ≡ Some behind)) IsMachine
frame_only g r was new is p f v behind whole same told =
    subst (λ (h : Format). IsYcc h.sampling → IfOk r (TakesFrame h was new)
    → IfErr r (λ e. Fails (frame_walk h) was e)
    → MatchResult r (λ o. (o ≡ Some v) × (new ≡ Some behind)) IsMachine) same
    (λ is p f. frame_only_at v r new behind is whole
    (subst (λ (o : Option (List ℕ)). IfOk r (TakesFrame v.format o new)) told p)
    (subst (λ (o : Option (List ℕ)). IfErr r (λ e. Fails (frame_walk v.format) o e)) told f))
    is p f

none_given : (v : Values) (a b behind : List ℕ) (ended : Type 0) → b ≡ a → ended
    → IsRead a b ended (frame_text v ++ behind) → ⊥
none_given v a b behind ended same over q =
    let front : since a b ≡ [] = since_is a b [] (same ∙ sym (append-nil a)) in
    frame_there v behind
    (q.parts ∙ ap (λ (l : List ℕ). l ++ q.behind) front ∙ q.all over)

frame_gave_at : (v : Values) (r : Result (Option Values) FormFault) (was new : Option (List ℕ))
    (a b behind : List ℕ) (ended : Type 0) → IsYcc v.format.sampling → IsPicture v
    → IfOk r (TakesFrame v.format was new) → IfOk r (GaveFrame v.format a b ended)
    → IfErr r (λ e. GaveFault (frame_walk v.format) a b ended e)
    → IsRead a b ended (frame_text v ++ behind)
    → MatchResult r (λ o. (o ≡ Some v) × (b ≡ a ++ frame_text v)) IsMachine
frame_gave_at v (Ok (Some q)) was new a b behind ended is whole t p f read =
    let e = gave_same (frame_walk v.format) (planes_text v) (frame_text v ++ behind) behind
    (frame_again v behind is whole) a b ended (planes_text q) (frame_text v) refl p read in
    (some_same q v (same_picture v q is whole t.1.0 t.0 e.0), e.1)
frame_gave_at v (Ok None) was new a b behind ended is whole t p f read =
    absurd (none_given v a b behind ended p.0 p.1 read)
frame_gave_at v (Err e) was new a b behind ended is whole t p f read =
    fault_machine (frame_walk v.format) (planes_text v) (frame_text v ++ behind) behind
    (frame_again v behind is whole) a b ended e f read

pub frame_gave_only : (g : Format) (r : Result (Option Values) FormFault)
    (was new : Option (List ℕ)) (a b : List ℕ) (ended : Type 0) → IsYcc g.sampling
    → IfOk r (TakesFrame g was new) → IfOk r (GaveFrame g a b ended)
    → IfErr r (λ e. GaveFault (frame_walk g) a b ended e)
    → (v : Values) (behind : List ℕ) → IsPicture v → v.format ≡ g
    → IsRead a b ended (frame_text v ++ behind)
    → MatchResult r (λ o. (o ≡ Some v) × (b ≡ a ++ frame_text v)) IsMachine
frame_gave_only g r was new a b ended is t p f v behind whole same read =
    subst (λ (h : Format). IsYcc h.sampling → IfOk r (TakesFrame h was new)
    → IfOk r (GaveFrame h a b ended) → IfErr r (λ e. GaveFault (frame_walk h) a b ended e)
    → MatchResult r (λ o. (o ≡ Some v) × (b ≡ a ++ frame_text v)) IsMachine) same
    (λ is t p f. frame_gave_at v r was new a b behind ended is whole t p f read)
    is t p f
