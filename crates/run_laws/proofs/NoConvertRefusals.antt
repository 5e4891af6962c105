-- Against what a run of `convert` read that ended well no refusal speaks.
use Rattle.std.proofs.Common.{◌≡◌, ℕ, List, Result, Ok, Err, inl, inr, sym, ap, ◌∙◌, subst}
use Rattle.st_format.specs.Device.{AreOctets}
use Rattle.st_format.specs.Fields.{Fields, fields_of}
use Rattle.st_format.specs.Picture.{Values}
use Rattle.st_format.specs.declared.format.Format.{Format}
use Rattle.st_format.proofs.SameFields.{same_format}
use Rattle.picture_forms.specs.Heads.{HasY4mHead, head_walk}
use Rattle.picture_forms.specs.Layouts.{pixels_text, planes_text}
use Rattle.picture_forms.specs.Pixmaps.{HasPixmapHead, pixels_walk, pixmap_head_walk}
use Rattle.picture_forms.specs.declared.fault.FormFault.{FormFault}
use Rattle.picture_forms.proofs.HeadIs.{head_says}
use Rattle.picture_forms.proofs.PixmapAgain.{head_says as pixmap_says}
use Rattle.picture_forms.proofs.Walked.{same_value}
use Rattle.form_files.specs.Form.{HoldsSampling}
use Rattle.run_outcome.specs.Moments.{WasRead}
use Rattle.run_outcome.specs.declared.refusal.Refusal.{Refusal}
use Rattle.run_outcome.specs.declared.refusal.Refusal.TheVariants as why
use Rattle.convert_engine.specs.Converting.{Converts, IsConvertRefusal, IsInputRefusal, SaysInput}
use Rattle.convert_engine.specs.Inputs.{IsInPixmap, IsInStream, IsPixmapFault, IsStreamFault}
use Rattle.convert_engine.specs.Inputs.{frame_at_place}
use Rattle.convert_engine.specs.declared.converting.Conversion.{Conversion}
use Rattle.convert_engine.specs.declared.converting.InputForm.{InputForm}
use Rattle.convert_engine.specs.declared.converting.InputForm.TheVariants.{Picture, Y4m, Pixmap}
use Rattle.run_laws.specs.Received.{read_of}
use Rattle.run_laws.proofs.NoRefusals.{no_picture_fault, one_format}
use Rattle.run_laws.proofs.Receiving.{was_read}

abbrev whole : {X : Type 0} → X → Result X FormFault
whole x = Ok x

abbrev failed : (X : Type 0) → FormFault → Result X FormFault
failed X f = Err f

pub apart : {X : Type 0} (r : Result X FormFault) (x : X) (f : FormFault) → r ≡ whole x
    → r ≡ failed X f → ⊥
apart {X} r x f reads fails = let bad : whole x ≡ failed X f = sym reads ∙ fails in absurd cc

-- ---- a stream

-- octets have one head
pub one_head : (octets a b : List ℕ) (f g : Format) → HasY4mHead octets a (fields_of f)
    → HasY4mHead octets b (fields_of g) → (f ≡ g) × (a ≡ b)
one_head octets a b f g one other =
    let same =
    same_value (head_walk octets) (fields_of f) (fields_of g) a b
    (head_says octets a (fields_of f) one) (head_says octets b (fields_of g) other) in
    (same_format f g (sym same.0), sym same.1)

no_stream_fault : (place : ℕ) (octets : List ℕ) (v : Values) (f : FormFault)
    → IsInStream place octets v → IsStreamFault place octets f → ⊥
no_stream_fault place octets v f is (inl wrong) =
    let pair : Fields × List ℕ = (fields_of v.format, is.rest) in
    apart (head_walk octets) pair f (head_says octets is.rest (fields_of v.format) is.head) wrong
no_stream_fault place octets v f is (inr wrong) =
    let same = one_head octets is.rest wrong.rest v.format wrong.format is.head wrong.head in
    let pair : List ℕ × List ℕ = (planes_text v, is.behind) in
    apart (frame_at_place wrong.format place wrong.rest) pair f
    (ap (λ (x : Format). frame_at_place x place wrong.rest) (sym same.0)
    ∙ ap (λ (o : List ℕ). frame_at_place v.format place o) (sym same.1) ∙ is.frame) wrong.fault

-- ---- a pixmap

pixmap_walked : (n d : ℕ) (octets rest : List ℕ) (f : Fields) → HasPixmapHead n d octets rest f
    → (let pair : Fields × List ℕ = (f, rest) in pixmap_head_walk n d octets ≡ whole pair)
pixmap_walked n d octets rest f is =
    ap (pixmap_head_walk n d) is.whole ∙ pixmap_says n d is.head rest f is.is

one_pixmap_head : (n d : ℕ) (octets a b : List ℕ) (f g : Format)
    → HasPixmapHead n d octets a (fields_of f) → HasPixmapHead n d octets b (fields_of g)
    → (f ≡ g) × (a ≡ b)
one_pixmap_head n d octets a b f g one other =
    let same =
    same_value (pixmap_head_walk n d octets) (fields_of f) (fields_of g) a b
    (pixmap_walked n d octets a (fields_of f) one)
    (pixmap_walked n d octets b (fields_of g) other) in
    (same_format f g (sym same.0), sym same.1)

no_pixmap_fault : (n d : ℕ) (octets : List ℕ) (v : Values) (f : FormFault)
    → IsInPixmap n d octets v → IsPixmapFault n d octets f → ⊥
no_pixmap_fault n d octets v f is (inl wrong) =
    let pair : Fields × List ℕ = (fields_of v.format, is.rest) in
    apart (pixmap_head_walk n d octets) pair f
    (pixmap_walked n d octets is.rest (fields_of v.format) is.head) wrong
no_pixmap_fault n d octets v f is (inr wrong) =
    let same =
    one_pixmap_head n d octets is.rest wrong.rest v.format wrong.format is.head wrong.head in
    let pair : List ℕ × List ℕ = (pixels_text v, is.behind) in
    apart (pixels_walk wrong.format wrong.rest) pair f
    (ap (λ (x : Format). pixels_walk x wrong.rest) (sym same.0)
    ∙ ap (λ (o : List ℕ). pixels_walk v.format o) (sym same.1) ∙ is.samples) wrong.fault

-- ---- a run

-- what was read says pictures of one format
one_input : (input : InputForm) (read : List ℕ → Type 0) (octets : List ℕ) (p q : Values)
    → read octets → SaysInput input read p → SaysInput input read q → p.format ≡ q.format
one_input Picture read octets p q there a b =
    one_format octets p q (a octets there) (b octets there)
one_input (Y4m place) read octets p q there a b =
    let x = a octets there in
    let y = b octets there in
    (one_head octets x.rest y.rest p.format q.format x.head y.head).0
one_input (Pixmap rate) read octets p q there a b =
    let x = a octets there in
    let y = b octets there in
    (one_pixmap_head rate.n rate.d octets x.rest y.rest p.format q.format x.head y.head).0

input_not : (input : InputForm) (read : List ℕ → Type 0) (octets : List ℕ) (p : Values)
    (r : Refusal) → read octets → AreOctets octets → SaysInput input read p
    → IsInputRefusal input read r → ⊥
input_not Picture read octets p (why.Picture f) there bytes says wrong =
    no_picture_fault octets p f bytes (says octets there) (wrong octets there bytes)
input_not Picture read octets p r there bytes says wrong = absurd wrong
input_not (Y4m place) read octets p (why.Form f) there bytes says wrong =
    no_stream_fault place octets p f (says octets there) (wrong octets there)
input_not (Y4m place) read octets p r there bytes says wrong = absurd wrong
input_not (Pixmap rate) read octets p (why.Form f) there bytes says wrong =
    no_pixmap_fault rate.n rate.d octets p f (says octets there) (wrong octets there)
input_not (Pixmap rate) read octets p r there bytes says wrong = absurd wrong

pub convert_not : {S : Type 0} (gave : S → List ℕ) (ended : S → Type 0) (asked : Conversion)
    (source later : S) (old new : List ℕ) (r : Refusal)
    → Converts asked (WasRead gave ended (source, later)) old new
    → AreOctets (read_of gave (source, later))
    → IsConvertRefusal asked (WasRead gave ended (source, later)) r → ⊥
convert_not gave ended asked source later old new r run bytes (inl wrong) =
    input_not asked.input (WasRead gave ended (source, later)) (read_of gave (source, later))
    run.picture r (was_read gave ended (source, later)) bytes run.says wrong
convert_not gave ended asked source later old new r run bytes (inr wrong) =
    let same =
    one_input asked.input (WasRead gave ended (source, later)) (read_of gave (source, later))
    run.picture wrong.1.picture (was_read gave ended (source, later)) run.says wrong.1.says in
    wrong.1.lacks (subst (λ (f : Format). HoldsSampling asked.form f.sampling) same run.holds)
