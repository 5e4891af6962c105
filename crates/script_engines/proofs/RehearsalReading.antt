-- Lines of a rehearsal that are read one by one.
use Rattle.std.proofs.Common.{◌≡◌, ◌⊎◌, inl, inr, Bool, true, ℕ, ◌*◌, List, [], ◌∷◌, ◌++◌}
use Rattle.std.proofs.Common.{length, refl}
use Rattle.std.proofs.Common.{Ok, ap, sym, subst, ◌∙◌, append_assoc, append-nil}
use Rattle.std.specs.List.{AllZip}
use Rattle.hex.specs.Hex.{decode_of}
use Rattle.packet_plan.specs.declared.stamp.Stamp.{Stamp}
use Rattle.path_merge.specs.declared.schedule.event.Event.{Event}
use Rattle.pgroup_pack.specs.Packing.{Agree}
use Rattle.st_format.specs.declared.format.Format.{Format}
use Rattle.st_format.specs.Fields.{Fields}
use Rattle.st_format.specs.Pgroup.{bits_of}
use Rattle.st_format.specs.Picture.{Values}
use Rattle.st_format.specs.Position.{sample_count}
use Rattle.st_format.specs.Samples.{Spells}
use Rattle.st_format.proofs.Spelled.{joined_length}
use Rattle.run_outcome.specs.declared.fault.Fault.{Fault}
use Rattle.run_outcome.specs.declared.script_line.Form.TheVariants.{End}
use Rattle.run_outcome.specs.LowerFaults.{IsMisformed, of_script}
use Rattle.run_outcome.specs.declared.fault.Fault.TheVariants.{Memory}
use Rattle.script_engines.specs.declared.rehearsal.Head.{Head}
use Rattle.script_engines.specs.declared.rehearsal.Rehearsal.{Rehearsal}
use Rattle.script_engines.specs.FirstLines.{IsFaultyNext, ReadsFormat, ReadsOne}
use Rattle.script_engines.specs.Rehearsal.{AddsLine, IsBody, IsFaultyBody, IsFaultyHead, IsMaxLine}
use Rattle.script_engines.specs.Rehearsal.{IsPictureLine, IsPictureOf, SaysCount}
use Rattle.script_engines.specs.Rehearsal.{SaysMax, SaysWindow}
use Rattle.script_engines.specs.Rehearsal.{Heading, IsFaultyRehearsal, ReadsHead, Said}
use Rattle.script_engines.specs.Rehearsal.{SaysRehearsal}
use Rattle.script_engines.specs.Rehearsal.{heading_of, said_by}
use Rattle.script_engines.specs.RehearsalForms.{IsEventLine, IsStampLine, IsWindowLine}
use Rattle.script_engines.specs.Script.{line_behind, numbered_lines}

-- lines, each with its number
abbrev pub Numbered : Type 0
Numbered = List (ℕ × List ℕ)

-- ---- the next line

pub faulty_line : (form : List ℕ → Type 0) (lines behind : Numbered) (number : ℕ) (text : List ℕ)
    (end : ℕ) (f : Fault) → lines ≡ (number, text) ∷ behind → (form text → ⊥)
    → IsMisformed number f
    → IsFaultyNext form lines end f
faulty_line form lines behind number text end f next none is =
    subst (λ (l : Numbered). IsFaultyNext form l end f) (sym next) (is, none)

-- a line that says something of a form is of the form
pub reads_some : {X : Type 0} (P : List ℕ → X → Type 0) (x : X) (lines behind : Numbered)
    → ReadsOne (λ text. P text x) lines behind
    → ReadsOne (λ text. (y : X) × P text y) lines behind
reads_some P x lines behind r = record {
  number = r.number;
  text = r.text;
  next = r.next;
  is = (x, r.is);
}

-- ---- the lines of a body

zip_push : {A B : Type 0} (R : A → B → Type 0) (xs : List A) (ys : List B) (x : A) (y : B)
    → AllZip R xs ys → R x y → AllZip R (xs ++ x ∷ []) (ys ++ y ∷ [])
zip_push R [] [] x y all r = (r, tt)
zip_push R [] (w ∷ ys) x y all r = absurd all
zip_push R (v ∷ xs) [] x y all r = absurd all
zip_push R (v ∷ xs) (w ∷ ys) x y all r = (all.0, zip_push R xs ys x y all.1 r)

zip_none : {A B : Type 0} (R : A → B → Type 0) (xs : List A) (ys : List B)
    → AllZip R xs ys → ys ≡ [] → xs ≡ []
zip_none R [] ys all none = refl
zip_none R (v ∷ xs) [] all none = absurd all
zip_none R (v ∷ xs) (w ∷ ys) all none = absurd cc

abbrev ArePictureLines : Format → Numbered → List Values → Type 0
ArePictureLines format lines pictures =
    AllZip (λ line p. IsPictureLine format line.1 p) lines pictures

abbrev AreEventLines : Numbered → List Event → Type 0
AreEventLines lines events = AllZip (λ line event. IsEventLine line.1 event) lines events

pub body_adds : (format : Format) (before : Numbered) (number : ℕ) (text : List ℕ)
    (pictures : List Values) (events : List Event) (pictures' : List Values) (events' : List Event)
    → IsBody format before pictures events
    → AddsLine format text pictures events pictures' events'
    → IsBody format (before ++ (number, text) ∷ []) pictures' events'
body_adds format before number text pictures events pictures' events' b (inl q) =
    let line : ℕ × List ℕ = (number, text) in
    let none : b.of_events ≡ [] =
    zip_none (λ line event. IsEventLine line.1 event) b.of_events events b.events_are q.2 in
    let only : before ≡ b.of_pictures =
    b.whole ∙ ap (λ (l : Numbered). b.of_pictures ++ l) none ∙ append-nil b.of_pictures in
    record {
      of_pictures = b.of_pictures ++ line ∷ [];
      of_events = [];
      whole = ap (λ (l : Numbered). l ++ line ∷ []) only
          ∙ sym (append-nil (b.of_pictures ++ line ∷ []));
      pictures_are = subst (λ (ps : List Values). ArePictureLines format
          (b.of_pictures ++ line ∷ []) ps) (sym q.4)
          (zip_push (λ line p. IsPictureLine format line.1 p) b.of_pictures pictures line q.0
          b.pictures_are q.1);
      events_are = subst (λ (es : List Event). AreEventLines [] es) (sym q.3) tt;
    }
body_adds format before number text pictures events pictures' events' b (inr q) =
    let line : ℕ × List ℕ = (number, text) in
    record {
      of_pictures = b.of_pictures;
      of_events = b.of_events ++ line ∷ [];
      whole = ap (λ (l : Numbered). l ++ line ∷ []) b.whole
          ∙ append_assoc b.of_pictures b.of_events (line ∷ []);
      pictures_are = subst (λ (ps : List Values). ArePictureLines format b.of_pictures ps)
          (sym q.3) b.pictures_are;
      events_are = subst (λ (es : List Event). AreEventLines (b.of_events ++ line ∷ []) es)
          (sym q.2)
          (zip_push (λ line event. IsEventLine line.1 event) b.of_events events line q.0
          b.events_are q.1);
    }

-- of all lines some are left, and those before them are a body
pub record SoFar (format : Format) (all left : Numbered) (pictures : List Values)
    (events : List Event) : Type 0 where
  pub before : Numbered
  pub whole : all ≡ before ++ left
  pub body : IsBody format before pictures events

pub so_far_more : (format : Format) (all left left' : Numbered) (number : ℕ) (text : List ℕ)
    (pictures : List Values) (events : List Event) (pictures' : List Values) (events' : List Event)
    → SoFar format all left pictures events → left ≡ (number, text) ∷ left'
    → AddsLine format text pictures events pictures' events'
    → SoFar format all left' pictures' events'
so_far_more format all left left' number text pictures events pictures' events' s next adds =
    let line : ℕ × List ℕ = (number, text) in
    record {
      before = s.before ++ line ∷ [];
      whole = s.whole ∙ ap (λ (l : Numbered). s.before ++ l) next
          ∙ sym (append_assoc s.before (line ∷ []) left');
      body = body_adds format s.before number text pictures events pictures' events' s.body adds;
    }

-- ---- what is no line of a body

bits_agree : (n : ℕ) (octets samples : List ℕ) → Spells n octets samples
    → 8 * length octets ≡ n * length samples
bits_agree n octets samples spells =
    sym (joined_length 8 octets) ∙ ap length spells.same_bits ∙ joined_length n samples

-- a picture's octets are as many as its format has
pub octets_agree : (format : Format) (digits : List ℕ) (p : Values)
    → (of : IsPictureOf format digits p)
    → Agree format (length of.digits_are.octets) (sample_count format)
octets_agree format digits p of =
    let octets : List ℕ = of.digits_are.octets in
    let same : 8 * length octets ≡ bits_of p.format.depth * length p.samples =
    bits_agree (bits_of p.format.depth) octets p.samples of.digits_are.spells in
    subst (λ (f : Format). 8 * length octets ≡ bits_of f.depth * sample_count f) of.format_is
    (same ∙ ap (λ (n : ℕ). bits_of p.format.depth * n) of.whole.whole)

pub no_picture : (format : Format) (digits : List ℕ)
    → ((octets : List ℕ) → Agree format (length octets) (sample_count format)
    → decode_of digits ≡ Ok octets → ⊥) → (p : Values) → IsPictureOf format digits p → ⊥
no_picture format digits none p of =
    none of.digits_are.octets (octets_agree format digits p of) of.digits_are.digits

-- ---- the line of a head at which a script is at fault

same_end : (form : List ℕ → Type 0) (lines : Numbered) (end last : ℕ) (f : Fault)
    → IsFaultyNext form lines last f → last ≡ end → IsFaultyNext form lines end f
same_end form lines end last f bad is =
    subst (λ (e : ℕ). IsFaultyNext form lines e f) is bad

pub head_at_max : (l0 l1 l2 : Numbered) (made : Fields) (stamp : Stamp) (end last : ℕ) (f : Fault)
    → ReadsFormat l0 l1 (Ok made) → ReadsOne (λ text. IsStampLine text stamp) l1 l2
    → IsFaultyNext SaysMax l2 last f → last ≡ end → IsFaultyHead l0 end f
head_at_max l0 l1 l2 made stamp end last f format stamped bad is =
    inr (
      l1,
      made,
      format,
      inr (
        l2,
        reads_some IsStampLine stamp l1 l2 stamped,
        inl (same_end SaysMax l2 end last f bad is),
      ),
    )

pub head_at_window : (l0 l1 l2 l3 : Numbered) (made : Fields) (stamp : Stamp) (max end last : ℕ)
    (f : Fault) → ReadsFormat l0 l1 (Ok made) → ReadsOne (λ text. IsStampLine text stamp) l1 l2
    → ReadsOne (λ text. IsMaxLine text max) l2 l3
    → IsFaultyNext SaysWindow l3 last f → last ≡ end → IsFaultyHead l0 end f
head_at_window l0 l1 l2 l3 made stamp max end last f format stamped most bad is =
    inr (
      l1,
      made,
      format,
      inr (
        l2,
        reads_some IsStampLine stamp l1 l2 stamped,
        inr (
          l3,
          reads_some IsMaxLine max l2 l3 most,
          inl (same_end SaysWindow l3 end last f bad is),
        ),
      ),
    )

pub head_at_count : (l0 l1 l2 l3 l4 : Numbered) (made : Fields) (stamp : Stamp) (max : ℕ)
    (window : List ℕ) (end last : ℕ) (f : Fault) → ReadsFormat l0 l1 (Ok made)
    → ReadsOne (λ text. IsStampLine text stamp) l1 l2 → ReadsOne (λ text. IsMaxLine text max) l2 l3
    → ReadsOne (λ text. IsWindowLine text window) l3 l4
    → IsFaultyNext SaysCount l4 last f → last ≡ end → IsFaultyHead l0 end f
head_at_count l0 l1 l2 l3 l4 made stamp max window end last f format stamped most windowed bad is =
    inr (
      l1,
      made,
      format,
      inr (
        l2,
        reads_some IsStampLine stamp l1 l2 stamped,
        inr (
          l3,
          reads_some IsMaxLine max l2 l3 most,
          inr (
            l4,
            reads_some IsWindowLine window l3 l4 windowed,
            same_end SaysCount l4 end last f bad is,
          ),
        ),
      ),
    )

-- a line adds the same to a rehearsal of the same head
pub adds_like : {A : Type 0} (now head : Head A) (text : List ℕ) (pictures : List Values)
    (events : List Event) (pictures' : List Values) (events' : List Event) → now ≡ head
    → AddsLine now.format text pictures events pictures' events'
    → AddsLine head.format text pictures events pictures' events'
adds_like now head text pictures events pictures' events' same adds =
    subst (λ (h : Head _). AddsLine h.format text pictures events pictures' events') same adds

-- ---- a whole rehearsal

pub from_start : (passed : ℕ) (rest text : List ℕ) → passed ≡ 0 → rest ≡ text
    → (numbered_lines passed rest ≡ numbered_lines 0 text)
    × (line_behind passed rest ≡ line_behind 0 text)
from_start passed rest text none same = (
  ap (λ (n : ℕ). numbered_lines n rest) none ∙ ap (λ (t : List ℕ). numbered_lines 0 t) same,
  ap (λ (n : ℕ). line_behind n rest) none ∙ ap (λ (t : List ℕ). line_behind 0 t) same,
)

pub fault_at_head : (l lines : Numbered) (is_cut : Bool) (e end : ℕ) (f y : Fault) → l ≡ lines
    → e ≡ end → y ≡ f → ((f ≡ Memory) ⊎ IsFaultyHead l e f)
    → ((y ≡ Memory) ⊎ IsFaultyRehearsal lines is_cut end y)
fault_at_head l lines is_cut e end f y same last is (inl memory) = inl (is ∙ memory)
fault_at_head l lines is_cut e end f y same last is (inr bad) =
    let here : IsFaultyHead lines end f =
    subst (λ (n : ℕ). IsFaultyHead lines n f) last
    (subst (λ (ls : Numbered). IsFaultyHead ls e f) same bad) in
    inr (inl (subst (λ (g : Fault). IsFaultyHead lines end g) (sym is) here))

pub fault_at_body : (l lines behind : Numbered) (is_cut : Bool) (end : ℕ) (f y : Fault)
    (h : Heading) → l ≡ lines → y ≡ f → ReadsHead l behind h
    → ((f ≡ Memory) ⊎ IsFaultyBody h.format behind f)
    → ((y ≡ Memory) ⊎ IsFaultyRehearsal lines is_cut end y)
fault_at_body l lines behind is_cut end f y h same is head (inl memory) = inl (is ∙ memory)
fault_at_body l lines behind is_cut end f y h same is head (inr bad) =
    inr (inr (inl (record {
      behind = behind;
      heading = h;
      head = subst (λ (ls : Numbered). ReadsHead ls behind h) same head;
      body = subst (λ (g : Fault). IsFaultyBody h.format behind g) (sym is) bad;
    })))

pub fault_at_end : (lines : Numbered) (is_cut : Bool) (n end : ℕ) (f : Fault) (said : Said)
    → SaysRehearsal lines said → is_cut ≡ true → f ≡ of_script n End → n ≡ end
    → ((f ≡ Memory) ⊎ IsFaultyRehearsal lines is_cut end f)
fault_at_end lines is_cut n end f said says cut is last =
    inr (inr (inr (record {
      said = said;
      fine = says;
      cut = cut;
      fault_is = is ∙ ap (λ (k : ℕ). of_script k End) last;
    })))

pub says_all : {A : Type 0} (l lines behind : Numbered) (head : Head A) (r : Rehearsal A)
    → l ≡ lines → r.head ≡ head → ReadsHead l behind (heading_of head)
    → IsBody head.format behind r.pictures.items r.events.items
    → SaysRehearsal lines (said_by r)
says_all l lines behind head r same is reads body = record {
  behind = behind;
  head =
      subst (λ (h : Head _). ReadsHead lines behind (heading_of h)) (sym is)
      (subst (λ (ls : Numbered). ReadsHead ls behind (heading_of head)) same reads);
  body =
      subst (λ (h : Head _). IsBody h.format behind r.pictures.items r.events.items) (sym is)
      body;
}
