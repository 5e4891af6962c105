-- Which refusal ends a run.
use Rattle.std.proofs.Common.{◌≡◌, ℕ, ◌<◌, zero, suc, inl, inr, List, [], ◌∷◌, length}
use Rattle.std.proofs.Common.{get_or, Option, None, Some, Result, Ok, Err, IfOk}
use Rattle.std.proofs.Common.{refl, ap, arith, subst, sym, ◌∙◌, ◌↔◌, IfErr, IsSome, OnOk}
use Rattle.std.proofs.lemmas.Bool.{false≢true}
use Rattle.std.specs.List.{AllByRecursion}
use Rattle.std.specs.Borrow.{Bor}
use Rattle.std.specs.Str.Parse.{digits_value}
use Rattle.run_outcome.specs.Fault.{Blames, IfRefused, counts}
use Rattle.run_outcome.specs.Refusing.{OfRefusal}
use Rattle.run_outcome.specs.declared.fault.Fault.{Fault}
use Rattle.run_outcome.specs.declared.fault.Fault.TheVariants.{Refused, Device, Memory}
use Rattle.run_outcome.specs.declared.refusal.Refusal.{Refusal}
use Rattle.run_outcome.specs.declared.refusal.Refusal.TheVariants as why
use Rattle.run_outcome.proofs.Refusals.{either, if_err_map}
use Rattle.key_mix.specs.Sending.{IsEarly, IsSendFault}
use Rattle.key_mix.specs.declared.Job.{Job}
use Rattle.key_mix.specs.declared.faults.JobFault.TheVariants as job_fault
use Rattle.key_mix.specs.declared.faults.SendJobFault.{SendJobFault}
use Rattle.key_mix.specs.declared.faults.SendJobFault.TheVariants as sending
use Rattle.path_receiver.specs.Frames.{State}
use Rattle.st_format.specs.declared.format.Format.{Format}
use Rattle.st_format.specs.Member.{IsMember}
use Rattle.st_format.specs.Picture.{FitsDepth, Values}
use Rattle.st_format.specs.Raster.{Raster}
use Rattle.st_format.specs.Text.{parted}
use Rattle.receiver_engines.specs.declared.processing.Processing.{Processing}
use Rattle.receiver_engines.specs.FillText.{IsFillText}
use Rattle.receiver_engines.specs.Inputs.{AreFramesAt, AreValues, FitsFrames, IsFill, IsHeldFor}
use Rattle.receiver_engines.specs.Inputs.{frames_lent}
use Rattle.receiver_engines.specs.Processing.{of_send_job}
use Rattle.receiver_engines.specs.Refused.{AreReceivers, HasNoFill, IsHeldRefusal, IsJobRefusal}
use Rattle.receiver_engines.specs.Refused.{IsRefusalOfRead, IsRunRefusal}
use Rattle.receiver_engines.specs.Refused.{IsJobOrPlanRefusal, OfFormats, OfFrames, SaysJob}

-- ---- what holds of a refusal

pub if_ok_both : {X E : Type 0} {P R : X → Type 0} {Q : Type 0} (r : Result X E)
    → ((x : X) → P x → Q → R x) → IfOk r P → OnOk r Q → IfOk r R
if_ok_both (Ok x) f p q = f x p q
if_ok_both (Err e) f p q = p

pub member_at : {X : Type 0} (xs : List X) (k : ℕ) (d : X) → k < length xs
    → IsMember (get_or xs k d) xs
member_at [] k d some = absurd (omega (arith, some))
member_at (x ∷ xs) zero d some = inl refl
member_at (x ∷ xs) (suc k) d some = inr (member_at xs k d (omega (arith, some)))

-- a window of which no frame was found hasn't the timestamp
pub window_lacks : {X : Type 0} (found : Option X) (Has : Type 0)
    → ((x : X) → found ≡ Some x → ⊥) → (IsSome found ↔ Has) → Has → ⊥
window_lacks None Has none within has = absurd (false≢true (within.1 has))
window_lacks (Some x) Has none within has = absurd (none x refl)

-- ---- the fill

value_below : (fill : List ℕ) (k : ℕ) → AllByRecursion (λ v. v < 65536) fill
    → get_or fill k 0 < 65536
value_below [] k fit = omega arith
value_below (x ∷ xs) zero fit = fit.0
value_below (x ∷ xs) (suc k) fit = value_below xs k fit.1

-- a text that says no values says no fill
pub unread_fill : (text : List ℕ) (qs : List Raster)
    → ((a b c : ℕ) → a < 65536 → b < 65536 → c < 65536 → IsFillText text a b c → ⊥)
    → HasNoFill text qs
unread_fill text qs none = λ fill is.
    none (get_or fill 0 0) (get_or fill 1 0) (get_or fill 2 0)
    (value_below fill 0 is.values.fit) (value_below fill 1 is.values.fit)
    (value_below fill 2 is.values.fit) is.is

parts_of : Option (List ℕ × List ℕ) → List ℕ × List ℕ
parts_of None = ([], [])
parts_of (Some p) = p

same_front : (o : Option (List ℕ × List ℕ)) (a b c d : List ℕ) → o ≡ Some (a, b)
    → o ≡ Some (c, d) → a ≡ c
unfolding parts_of
same_front o a b c d one two =
    ap (λ (p : Option (List ℕ × List ℕ)). (parts_of p).0) (sym one ∙ two)

same_back : (o : Option (List ℕ × List ℕ)) (a b c d : List ℕ) → o ≡ Some (a, b)
    → o ≡ Some (c, d) → b ≡ d
unfolding parts_of
same_back o a b c d one two =
    ap (λ (p : Option (List ℕ × List ℕ)). (parts_of p).1) (sym one ∙ two)

of_three : (xs : List ℕ) → length xs ≡ 3
    → xs ≡ get_or xs 0 0 ∷ get_or xs 1 0 ∷ get_or xs 2 0 ∷ []
of_three [] three = absurd (omega (arith, three))
of_three (x ∷ []) three = absurd (omega (arith, three))
of_three (x ∷ y ∷ []) three = absurd (omega (arith, three))
of_three (x ∷ y ∷ z ∷ []) three = refl
of_three (x ∷ y ∷ z ∷ w ∷ ws) three = absurd (omega (arith, three))

-- a text says one fill
one_fill : (text f g : List ℕ) → length f ≡ 3 → length g ≡ 3
    → IsFillText text (get_or f 0 0) (get_or f 1 0) (get_or f 2 0)
    → IsFillText text (get_or g 0 0) (get_or g 1 0) (get_or g 2 0) → f ≡ g
one_fill text f g f_three g_three p q =
    let firsts : p.first ≡ q.first =
    same_front (parted 44 text) p.first p.rest q.first q.rest p.parts q.parts in
    let rests : p.rest ≡ q.rest =
    same_back (parted 44 text) p.first p.rest q.first q.rest p.parts q.parts in
    let also : parted 44 p.rest ≡ Some (q.second, q.third) =
    ap (parted 44) rests ∙ q.parts_rest in
    let seconds : p.second ≡ q.second =
    same_front (parted 44 p.rest) p.second p.third q.second q.third p.parts_rest also in
    let thirds : p.third ≡ q.third =
    same_back (parted 44 p.rest) p.second p.third q.second q.third p.parts_rest also in
    let a : get_or f 0 0 ≡ get_or g 0 0 =
    p.first_is.value ∙ ap (digits_value 10) firsts ∙ sym q.first_is.value in
    let b : get_or f 1 0 ≡ get_or g 1 0 =
    p.second_is.value ∙ ap (digits_value 10) seconds ∙ sym q.second_is.value in
    let c : get_or f 2 0 ≡ get_or g 2 0 =
    p.third_is.value ∙ ap (digits_value 10) thirds ∙ sym q.third_is.value in
    of_three f f_three
    ∙ ap (λ (x : ℕ). x ∷ get_or f 1 0 ∷ get_or f 2 0 ∷ []) a
    ∙ ap (λ (x : ℕ). get_or g 0 0 ∷ x ∷ get_or f 2 0 ∷ []) b
    ∙ ap (λ (x : ℕ). get_or g 0 0 ∷ get_or g 1 0 ∷ x ∷ []) c
    ∙ sym (of_three g g_three)

fits_at : (fill : List ℕ) (fs : List (Bor Raster)) (k : ℕ) (d : Bor Raster) → k < length fs
    → FitsFrames fill (frames_lent fs)
    → AllByRecursion (FitsDepth (get_or fs k d).now.format) fill
fits_at fill [] k d some fits = absurd (omega (arith, some))
fits_at fill (f ∷ fs) zero d some fits = fits.0
fits_at fill (f ∷ fs) (suc k) d some fits = fits_at fill fs k d (omega (arith, some)) fits.1

-- where the fill that a text says doesn't fit one of the frames, no fill does
pub unfit_fill : (text fill : List ℕ) (fs : List (Bor Raster)) (k : ℕ) (d : Bor Raster)
    → k < length fs → IsFillText text (get_or fill 0 0) (get_or fill 1 0) (get_or fill 2 0)
    → AreValues fill
    → (AllByRecursion (FitsDepth (get_or fs k d).now.format) fill → ⊥)
    → HasNoFill text (frames_lent fs)
unfit_fill text fill fs k d some is values unfit = λ other other_is.
    unfit (subst (λ (l : List ℕ). AllByRecursion (FitsDepth (get_or fs k d).now.format) l)
    (one_fill text other fill other_is.values.three values.three other_is.is is)
    (fits_at other fs k d some other_is.fits))

-- ---- the job

pub send_refused : (e : SendJobFault) (j : Job) (fs : List Format) (size : ℕ)
    → IsSendFault e j fs size → OfRefusal (of_send_job e) (λ r. IsJobOrPlanRefusal j size r fs)
send_refused (sending.Job job_fault.NoMemory) j fs size is = tt
send_refused (sending.Job job_fault.FormatsDiffer) j fs size is =
    either (λ no. let e : job_fault.FormatsDiffer ≡ job_fault.NoMemory = no.0 in cc) is
send_refused (sending.Job job_fault.KeyNotYcc) j fs size is =
    either (λ no. let e : job_fault.KeyNotYcc ≡ job_fault.NoMemory = no.0 in cc) is
send_refused (sending.Job job_fault.BadWipe) j fs size is =
    either (λ no. let e : job_fault.BadWipe ≡ job_fault.NoMemory = no.0 in cc) is
send_refused (sending.Job job_fault.NotRgb) j fs size is =
    either (λ no. let e : job_fault.NotRgb ≡ job_fault.NoMemory = no.0 in cc) is
send_refused (sending.Job job_fault.NotYcc444) j fs size is =
    either (λ no. let e : job_fault.NotYcc444 ≡ job_fault.NoMemory = no.0 in cc) is
send_refused (sending.Job job_fault.WrongInputCount) j fs size is =
    either (λ no. let e : job_fault.WrongInputCount ≡ job_fault.NoMemory = no.0 in cc) is
send_refused (sending.Job job_fault.BadGain) j fs size is =
    either (λ no. let e : job_fault.BadGain ≡ job_fault.NoMemory = no.0 in cc) is
send_refused sending.BadPacketSize j fs size is = is
send_refused (sending.Sink sent) j fs size is = tt

-- where no fill fits the frames, that is the refusal
pub fill_refused : (f : Fault) (j : Job) (w : Processing) (rs : List State) (held : Option Values)
    (qs : List Raster) → AreFramesAt qs rs w.timestamp
    → (f ≡ Refused why.ProcessFill) × HasNoFill w.fill.now qs
    → OfRefusal f (IsJobRefusal j w rs held)
fill_refused f j w rs held qs are is =
    subst (λ (g : Fault). OfRefusal g (IsJobRefusal j w rs held)) (sym is.0)
    (record { frames = qs; are = are; holds = is.1 })

-- where what is held has another format, that is the refusal
pub hold_refused : (f : Fault) (j : Job) (w : Processing) (rs : List State) (held : Option Values)
    (qs : List Raster) (fill : List ℕ) → AreFramesAt qs rs w.timestamp → IsFill fill w.fill.now qs
    → (f ≡ Refused why.ProcessHold) × (IsHeldFor held qs → ⊥)
    → OfRefusal f (IsJobRefusal j w rs held)
hold_refused f j w rs held qs fill are fill_is is =
    subst (λ (g : Fault). OfRefusal g (IsJobRefusal j w rs held)) (sym is.0) (record {
      frames = qs;
      are = are;
      holds = record { fill = fill; fill_is = fill_is; differs = is.1 };
    })

-- a refusal of the job or the size, as one of the job of receivers
pub sent_refusal : (j : Job) (w : Processing) (rs : List State) (held : Option Values)
    (r : Refusal) → OfFrames w rs (OfFormats w held (IsJobOrPlanRefusal j w.max_octets r))
    → IsJobRefusal j w rs held r
sent_refusal j w rs held why.ProcessFrame has = absurd has.holds.holds
sent_refusal j w rs held why.ProcessFill has = absurd has.holds.holds
sent_refusal j w rs held why.ProcessHold has = absurd has.holds.holds
sent_refusal j w rs held r has = has

-- ---- the run

pub held_refused : {S : Type 0} (told : S → List ℕ → Type 0) (states : List S)
    (hold : Option S) (w : Processing) (r : Refusal) → SaysJob w → AreReceivers told states
    → IsHeldRefusal told hold r → IsRunRefusal told states hold w r
held_refused told states hold w (why.Picture f) says are is = (says, are, is)
held_refused told states None w r says are is = absurd is
held_refused told states (Some s) w r says are is = absurd is

pub read_refused : {S : Type 0} (told : S → List ℕ → Type 0) (states : List S)
    (hold : Option S) (w : Processing) (r : Refusal)
    → IsRefusalOfRead told states hold w r → IsRunRefusal told states hold w r
read_refused told states hold w why.ProcessJob is = absurd is.refused.holds.holds
read_refused told states hold w (why.State f) is = absurd is.refused.holds.holds
read_refused told states hold w (why.Picture f) is = absurd is.refused.holds.holds
read_refused told states hold w r is = is

-- ---- what the sending leaves

-- where nothing was touched it holds of a refusal too
pub if_refused : (f : Fault) (P : Type 0) → P → IfRefused f P
if_refused (Refused r) P is = is
if_refused Device P is = tt
if_refused Memory P is = tt

-- what fails by the device alone is refused nothing
pub device_alone_refused : {V : Type 0} (r : Result V Fault) (P : Type 0)
    → IfErr r (λ f. f ≡ Device) → IfErr r (λ f. IfRefused f P)
device_alone_refused r P device =
    if_err_map r (λ f is. subst (λ (g : Fault). IfRefused g P) (sym is) tt) device

pub device_alone_refusal : {V : Type 0} (r : Result V Fault) (Is : Refusal → Type 0)
    → IfErr r (λ f. f ≡ Device) → IfErr r (λ f. OfRefusal f Is)
device_alone_refusal r Is device =
    if_err_map r (λ f is. subst (λ (g : Fault). OfRefusal g Is) (sym is) tt) device

-- before the sink was asked it had not failed
pub early_blames : (e : SendJobFault) (n : ℕ) → IsEarly e
    → Blames (counts n n ∷ []) (of_send_job e)
early_blames (sending.Job job_fault.NoMemory) n early = refl
early_blames (sending.Job job_fault.FormatsDiffer) n early = refl
early_blames (sending.Job job_fault.KeyNotYcc) n early = refl
early_blames (sending.Job job_fault.BadWipe) n early = refl
early_blames (sending.Job job_fault.NotRgb) n early = refl
early_blames (sending.Job job_fault.NotYcc444) n early = refl
early_blames (sending.Job job_fault.WrongInputCount) n early = refl
early_blames (sending.Job job_fault.BadGain) n early = refl
early_blames sending.BadPacketSize n early = refl
early_blames (sending.Sink sent) n early = absurd early
