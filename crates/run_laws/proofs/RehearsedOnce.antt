-- Lines say one rehearsal, as far as it is asked whether it can be played.
use Rattle.std.proofs.Common.{◌≡◌, ℕ, suc, false, List, [], ◌∷◌, ◌++◌, append_assoc, codes, drop}
use Rattle.std.proofs.Common.{get_or, length, map, All, Option, None, Some}
use Rattle.std.proofs.Common.{refl, sym, ap, ◌∙◌, subst}
use Rattle.std.specs.Prelude.{◌==◌, if◌then◌else◌}
use Rattle.std.specs.List.{AllZip}
use Rattle.std.specs.Str.Parse.{digits_value}
use Rattle.std.proofs.lemmas.Bool.{eqb-false}
use Rattle.std.proofs.lemmas.List.Elements.{All-cons, All-nil}
use Rattle.st_format.specs.declared.format.Format.{Format}
use Rattle.st_format.specs.declared.path.Path.{Path}
use Rattle.st_format.specs.declared.path.Path.TheVariants as path
use Rattle.st_format.specs.Forms.{path_text}
use Rattle.st_format.specs.Picture.{Values}
use Rattle.st_format.specs.Text.{parted}
use Rattle.path_merge.specs.declared.schedule.event.Event.{Event}
use Rattle.path_merge.specs.declared.schedule.event.Event.TheVariants.{Send, Arrive, Slide, Merge}
use Rattle.run_outcome.specs.declared.fault.Fault.{Fault}
use Rattle.script_engines.specs.Forms.{IsWindowText}
use Rattle.script_engines.specs.Rehearsal.{IsBody, IsFaultyBody, IsPictureLine}
use Rattle.script_engines.specs.RehearsalForms.{IsCountLine, IsEventLine, IsNumberLine}
use Rattle.script_engines.specs.RehearsalForms.{IsWindowLine}
use Rattle.script_engines.proofs.LinesOnce.{one_number}
use Rattle.run_laws.proofs.OneJob.{letter_at}
use Rattle.script_engines.proofs.FormLemmas.{same_rest}
use Rattle.run_laws.proofs.ScriptLines.{same_window}
use Rattle.run_laws.proofs.ScriptOnce.{Numbered, no_line}

-- ---- lines of the head

pub one_window_line : (text other : List ℕ) (ts us : List ℕ) → text ≡ other → IsWindowLine text ts
    → IsWindowLine other us → ts ≡ us
one_window_line text other ts us same p q =
    let rest = same_rest (codes "window ") p.rest q.rest (sym p.text_is ∙ same ∙ q.text_is) in
    same_window q.rest ts us (subst (λ (l : List ℕ). IsWindowText l ts) rest p.window_is)
    q.window_is

pub one_number_line : (word text other : List ℕ) (m n : ℕ) → text ≡ other
    → IsNumberLine text word m → IsNumberLine other word n → m ≡ n
one_number_line word text other m n same p q =
    one_number p.rest q.rest m n
    (same_rest word p.rest q.rest (sym p.text_is ∙ same ∙ q.text_is)) p.number_is q.number_is

pub one_count_line : (text other : List ℕ) (m n : ℕ) → text ≡ other → IsCountLine text m
    → IsCountLine other n → m ≡ n
one_count_line text other m n same p q =
    one_number_line (codes "receivers ") text other m n same p.line_is q.line_is

-- ---- an event's line

abbrev Part : Type 0
Part = Option (List ℕ × List ℕ)

abbrev value : List ℕ → ℕ
value digits = digits_value 10 digits

abbrev path_in : List ℕ → Path
path_in text = if letter_at 0 text == 65 then path.A else path.B

abbrev arrive_at : List ℕ → Part → Event
arrive_at receiver None = Send
arrive_at receiver (Some p) = Arrive (value receiver) (path_in p.0) (value p.1)

abbrev arrive_in : Part → Event
arrive_in None = Send
arrive_in (Some p) = arrive_at p.0 (parted 32 p.1)

abbrev slide_in : Part → Event
slide_in None = Send
slide_in (Some p) = Slide (value p.0) (value p.1)

abbrev merge_in : Part → Event
merge_in None = Send
merge_in (Some p) = Merge (value p.0) (value p.1)

-- the event that a text says, told by its second letter, where it says one
abbrev event_in : List ℕ → Event
event_in text =
    if letter_at 1 text == 114 then arrive_in (parted 32 (drop 7 text))
    else (if letter_at 1 text == 108 then slide_in (parted 32 (drop 6 text))
    else (if letter_at 0 text == 109 then merge_in (parted 32 (drop 6 text)) else Send))

path_back : (p : Path) → path_in (path_text p) ≡ p
path_back path.A = refl
path_back path.B = refl

event_again : (text : List ℕ) (e : Event) → IsEventLine text e → event_in text ≡ e
event_again text Send is = ap event_in is
event_again text (Arrive to by number) is =
    let a = is.2 in
    ap event_in is.1 ∙ ap arrive_in a.parts ∙ ap (arrive_at a.receiver) a.parts_behind
    ∙ ap (λ (n : ℕ). Arrive n (path_in (path_text by)) (value a.last)) (sym a.receiver_is.value)
    ∙ ap (λ (p : Path). Arrive to p (value a.last)) (path_back by)
    ∙ ap (λ (n : ℕ). Arrive to by n) (sym a.number_is.value)
event_again text (Slide at next) is =
    let two = is.2.both in
    ap event_in is.1 ∙ ap slide_in two.parts
    ∙ ap (λ (n : ℕ). Slide n (value two.second)) (sym two.first_is.value)
    ∙ ap (λ (n : ℕ). Slide at n) (sym two.second_is.value)
event_again text (Merge into from) is =
    let two = is.2.both in
    ap event_in is.1 ∙ ap merge_in two.parts
    ∙ ap (λ (n : ℕ). Merge n (value two.second)) (sym two.first_is.value)
    ∙ ap (λ (n : ℕ). Merge into n) (sym two.second_is.value)

-- ---- lines of pictures, and of events behind them

abbrev pub ArePictureLines : Format → Numbered → List Values → Type 0
ArePictureLines format lines ps = AllZip (λ line p. IsPictureLine format line.1 p) lines ps

abbrev pub AreEventLines : Numbered → List Event → Type 0
AreEventLines lines es = AllZip (λ line event. IsEventLine line.1 event) lines es

-- texts of different first letters differ
differ : (text word other : List ℕ) → (letter_at 0 word == letter_at 0 other) ≡ false
    → text ≡ word → text ≡ other → ⊥
differ text word other none p q =
    eqb-false (letter_at 0 word) (letter_at 0 other) none (ap (letter_at 0) (sym p ∙ q))

-- no line is both
pub not_both : (format : Format) (text : List ℕ) (p : Values) (e : Event)
    → IsPictureLine format text p → IsEventLine text e → ⊥
not_both format text p Send q is =
    differ text (codes "picture " ++ q.digits) (codes "send") refl q.text_is is
not_both format text p (Arrive to by number) q is =
    differ text (codes "picture " ++ q.digits) (codes "arrive " ++ is.0) refl q.text_is is.1
not_both format text p (Slide at next) q is =
    differ text (codes "picture " ++ q.digits) (codes "slide " ++ is.0) refl q.text_is is.1
not_both format text p (Merge into from) q is =
    differ text (codes "picture " ++ q.digits) (codes "merge " ++ is.0) refl q.text_is is.1

events_read : (lines : Numbered) (es : List Event) → AreEventLines lines es
    → map (λ (line : ℕ × List ℕ). event_in line.1) lines ≡ es
events_read [] [] all = refl
events_read [] (e ∷ es) all = absurd all
events_read (line ∷ lines) [] all = absurd all
events_read (line ∷ lines) (e ∷ es) all =
    ap (λ (x : Event). x ∷ map (λ (l : ℕ × List ℕ). event_in l.1) lines)
    (event_again line.1 e all.0)
    ∙ ap (λ (xs : List Event). e ∷ xs) (events_read lines es all.1)

-- the line at a place says something
zip_at : {X : Type 0} (R : ℕ × List ℕ → X → Type 0) (front : Numbered) (line : ℕ × List ℕ)
    (behind : Numbered) (xs : List X) → AllZip R (front ++ line ∷ behind) xs
    → (x : X) × R line x
zip_at R [] line behind [] all = absurd all
zip_at R [] line behind (x ∷ xs) all = (x, all.0)
zip_at R (y ∷ front) line behind [] all = absurd all
zip_at R (y ∷ front) line behind (x ∷ xs) all = zip_at R front line behind xs all.1

-- lines say as many pictures, and the same events, in one way
pub one_body : (f g : Format) (xs ys us vs : Numbered) (ps qs : List Values) (es fs : List Event)
    → xs ++ ys ≡ us ++ vs → ArePictureLines f xs ps → AreEventLines ys es
    → ArePictureLines g us qs → AreEventLines vs fs → (length ps ≡ length qs) × (es ≡ fs)
one_body f g [] ys [] vs [] [] es fs same a b c d = (
  refl,
  sym (events_read ys es b) ∙ ap (λ (l : Numbered). map (λ (x : ℕ × List ℕ). event_in x.1) l) same
      ∙ events_read vs fs d,
)
one_body f g [] ys [] vs [] (q ∷ qs) es fs same a b c d = absurd c
one_body f g [] ys [] vs (p ∷ ps) qs es fs same a b c d = absurd a
one_body f g [] ys (line ∷ us) vs ps [] es fs same a b c d = absurd c
one_body f g [] ys (line ∷ us) vs ps (q ∷ qs) es fs same a b c d =
    let both =
    zip_at (λ x e. IsEventLine x.1 e) [] line (us ++ vs) es
    (subst (λ (l : Numbered). AreEventLines l es) same b) in
    absurd (not_both g line.1 q both.0 c.0 both.1)
one_body f g (line ∷ xs) ys us vs [] qs es fs same a b c d = absurd a
one_body f g (line ∷ xs) ys [] vs (p ∷ ps) qs es fs same a b c d =
    let both =
    zip_at (λ x e. IsEventLine x.1 e) [] line (xs ++ ys) fs
    (subst (λ (l : Numbered). AreEventLines l fs) (sym same) d) in
    absurd (not_both f line.1 p both.0 a.0 both.1)
one_body f g (line ∷ xs) ys (other ∷ us) vs (p ∷ ps) [] es fs same a b c d = absurd c
one_body f g (line ∷ xs) ys (other ∷ us) vs (p ∷ ps) (q ∷ qs) es fs same a b c d =
    let more =
    one_body f g xs ys us vs ps qs es fs (ap (λ (l : Numbered). drop 1 l) same) a.1 b c.1 d in
    (ap suc more.0, more.1)

-- pictures of lines are of their format
pub all_of_format : (f : Format) (lines : Numbered) (ps : List Values) → ArePictureLines f lines ps
    → All (λ (p : Values). p.format ≡ f) ps
all_of_format f [] [] all = All-nil (λ (p : Values). p.format ≡ f)
all_of_format f [] (p ∷ ps) all = absurd all
all_of_format f (line ∷ lines) [] all = absurd all
all_of_format f (line ∷ lines) (p ∷ ps) all =
    All-cons (λ (q : Values). q.format ≡ f) p ps all.0.picture_is.format_is
    (all_of_format f lines ps all.1)

-- ---- a line at fault

-- a line of two lists is one of the first, behind the same lines, or of the second
data Placed (xs ys before : Numbered) (line : ℕ × List ℕ) : Type 0 where
  In_first : (rest : Numbered) → xs ≡ before ++ line ∷ rest → Placed xs ys before line
  In_second : (front rest : Numbered) → ys ≡ front ++ line ∷ rest → Placed xs ys before line

placed_behind : (x y : ℕ × List ℕ) (xs ys before : Numbered) (line : ℕ × List ℕ) → x ≡ y
    → Placed xs ys before line → Placed (x ∷ xs) ys (y ∷ before) line
placed_behind x y xs ys before line same (In_first rest e) =
    In_first rest
    (ap (λ (z : ℕ × List ℕ). z ∷ xs) same ∙ ap (λ (l : Numbered). y ∷ l) e)
placed_behind x y xs ys before line same (In_second front rest e) = In_second front rest e

abbrev head_of : Numbered → ℕ × List ℕ
head_of l = get_or l 0 no_line

placed : (xs ys before : Numbered) (line : ℕ × List ℕ) (behind : Numbered)
    → xs ++ ys ≡ before ++ line ∷ behind → Placed xs ys before line
placed [] ys before line behind e = In_second before behind e
placed (x ∷ xs) ys [] line behind e =
    In_first xs (ap (λ (z : ℕ × List ℕ). z ∷ xs) (ap head_of e))
placed (x ∷ xs) ys (y ∷ before) line behind e =
    placed_behind x y xs ys before line (ap head_of e)
    (placed xs ys before line behind (ap (λ (l : Numbered). drop 1 l) e))

-- before a line of a picture no line is an event's
no_events : (f : Format) (front events : Numbered) (es : List Event) (line : ℕ × List ℕ)
    (rest xs : Numbered) (ps : List Values) → AreEventLines events es
    → xs ≡ (front ++ events) ++ line ∷ rest → ArePictureLines f xs ps → es ≡ []
no_events f front [] [] line rest xs ps are e all = refl
no_events f front [] (d ∷ es) line rest xs ps are e all = absurd are
no_events f front (x ∷ events) [] line rest xs ps are e all = absurd are
no_events f front (x ∷ events) (d ∷ es) line rest xs ps are e all =
    let there : xs ≡ front ++ x ∷ (events ++ line ∷ rest) =
    e ∙ append_assoc front (x ∷ events) (line ∷ rest) in
    let both =
    zip_at (λ y p. IsPictureLine f y.1 p) front x (events ++ line ∷ rest) ps
    (subst (λ (l : Numbered). ArePictureLines f l ps) there all) in
    absurd (not_both f x.1 both.0 d both.1 are.0)

by_place : (f : Format) (lines : Numbered) (ps : List Values) (es : List Event) (fault : Fault)
    (b : IsBody f lines ps es) (bad : IsFaultyBody f lines fault)
    → Placed b.of_pictures b.of_events bad.before (bad.number, bad.text) → ⊥
by_place f lines ps es fault b bad (In_first rest e) =
    let line : ℕ × List ℕ = (bad.number, bad.text) in
    let both =
    zip_at (λ y p. IsPictureLine f y.1 p) bad.before line rest ps
    (subst (λ (l : Numbered). ArePictureLines f l ps) e b.pictures_are) in
    let there : b.of_pictures ≡ (bad.fine.of_pictures ++ bad.fine.of_events) ++ line ∷ rest =
    e ∙ ap (λ (l : Numbered). l ++ line ∷ rest) bad.fine.whole in
    bad.unfit.no_picture both.0
    (no_events f bad.fine.of_pictures bad.fine.of_events bad.events line rest b.of_pictures ps
    bad.fine.events_are there b.pictures_are) both.1
by_place f lines ps es fault b bad (In_second front rest e) =
    let line : ℕ × List ℕ = (bad.number, bad.text) in
    let both =
    zip_at (λ y d. IsEventLine y.1 d) front line rest es
    (subst (λ (l : Numbered). AreEventLines l es) e b.events_are) in
    bad.unfit.no_event both.0 both.1

-- lines of pictures and of events have none at fault
pub not_faulty_body : (f : Format) (lines : Numbered) (ps : List Values) (es : List Event)
    (fault : Fault) → IsBody f lines ps es → IsFaultyBody f lines fault → ⊥
not_faulty_body f lines ps es fault b bad =
    let line : ℕ × List ℕ = (bad.number, bad.text) in
    by_place f lines ps es fault b bad
    (placed b.of_pictures b.of_events bad.before line bad.behind (sym b.whole ∙ bad.whole))
