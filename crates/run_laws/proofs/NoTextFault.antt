-- Against a text whose line was printed no refusal speaks.
use Rattle.std.proofs.Common.{◌≡◌, ℕ, Bool, true, false, List, ◌++◌, length, Result, Ok, Err}
use Rattle.std.proofs.Common.{sym, ap, ◌∙◌, subst, arith}
use Rattle.st_format.proofs.Histories.{since_is}
use Rattle.sdp_format.specs.Bytes.{lines}
use Rattle.sdp_format.specs.Grammar.{IsDescribed, IsTextFault}
use Rattle.sdp_format.specs.Sections.{Description, video_sections}
use Rattle.sdp_format.specs.Reading.{text_walk}
use Rattle.sdp_format.specs.declared.fault.SdpFault.{SdpFault}
use Rattle.sdp_format.specs.declared.place.Located.{Located}
use Rattle.sdp_format.proofs.TextFaults.{text_fault, text_said}
use Rattle.run_outcome.specs.declared.fault.Fault.TheVariants.{Refused}
use Rattle.run_outcome.specs.declared.refusal.Refusal.{Refusal}
use Rattle.run_outcome.specs.declared.refusal.Refusal.TheVariants as why
use Rattle.script_engines.specs.Described.{DescribesVideo, IsUndescribed}
use Rattle.script_engines.specs.Reading.{DoesScript, IsRefusedFor}
use Rattle.script_engines.specs.Script.{IsReadFrom}
use Rattle.run_laws.specs.Told.{AreOfOneFault}

abbrev Walked : Type 0
Walked = Result Description SdpFault

abbrev said : Description → Walked
said d = Ok d

abbrev failed : SdpFault → Walked
failed f = Err f

pub no_text_fault : (text : List ℕ) (d : Description) (f : SdpFault)
    → IsDescribed (video_sections (lines text)) d → IsTextFault (video_sections (lines text)) f → ⊥
no_text_fault text d f is wrong =
    let reads : text_walk text ≡ said d = (text_said text d).1 is in
    let fails : text_walk text ≡ failed f = (text_fault text f).1 wrong in
    let bad : said d ≡ failed f = sym reads ∙ fails in
    absurd cc

-- of a text one fault is told
pub one_text_fault : (text : List ℕ) (f g : SdpFault) → IsTextFault (video_sections (lines text)) f
    → IsTextFault (video_sections (lines text)) g → f ≡ g
one_text_fault text f g is other =
    let fails : text_walk text ≡ failed f = (text_fault text f).1 is in
    let so : text_walk text ≡ failed g = (text_fault text g).1 other in
    let same : failed f ≡ failed g = sym fails ∙ so in
    cc

-- so two refusals that are of faults of one text
pub of_one_fault : (r q : Refusal) (at other : Located) → r ≡ why.Sdp at → q ≡ why.Sdp other
    → at.fault ≡ other.fault → AreOfOneFault r q
of_one_fault r q at other is so same =
    subst (λ (x : Refusal). AreOfOneFault x q) (sym is)
    (subst (λ (x : Refusal). AreOfOneFault (why.Sdp at) x) (sym so) same)

module _ (before now : List ℕ) (ended : Type 0) (old new : List ℕ)
    (does : DoesScript DescribesVideo before now ended old new)
  where
    -- what was given is the script
    same : (given : List ℕ) → now ≡ before ++ given → given ≡ does.0
    same given is =
        sym (since_is before now given is) ∙ since_is before now does.1.0 does.1.1
        ∙ sym does.1.2.0

    by_cut : (r : Refusal) (other : List ℕ) (is_cut : Bool)
        → IsReadFrom before now ended other is_cut → IsUndescribed other is_cut (Refused r) → ⊥
    by_cut r other true read wrong =
        let given : read.0 ≡ does.1.0 = same read.0 read.1 ∙ does.1.2.0 in
        absurd
        (omega (arith, read.2.0, ap (λ (l : List ℕ). length l) given, does.1.2.1))
    by_cut (why.Sdp at) other false read wrong =
        let script : other ≡ does.0 = read.2.0 ∙ same read.0 read.1 in
        no_text_fault does.0 does.2.is.described at.fault does.2.is.is_described
        (subst (λ (t : List ℕ). IsTextFault (video_sections (lines t)) at.fault) script wrong.0)
    by_cut r other false read wrong = absurd wrong

pub sdp_not : {S : Type 0} (gave : S → List ℕ) (ended : S → Type 0) (source later : S)
    (old new : List ℕ) (r : Refusal)
    → DoesScript DescribesVideo (gave source) (gave later) (ended later) old new
    → IsRefusedFor IsUndescribed (gave source) (gave later) (ended later) r → ⊥
sdp_not gave ended source later old new r does wrong =
    by_cut (gave source) (gave later) (ended later) old new does r wrong.0 wrong.1 wrong.2 wrong.3
