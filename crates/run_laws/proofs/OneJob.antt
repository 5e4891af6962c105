-- A text says one job, and a job has one format of its inputs'.
use Rattle.std.proofs.Common.{◌≡◌, ℕ, List, [], ◌∷◌, ◌++◌, drop, get_or, Option, None, Some}
use Rattle.std.proofs.Common.{sym, ap, ◌∙◌}
use Rattle.std.specs.Prelude.{◌==◌, if◌then◌else◌}
use Rattle.std.specs.Str.Parse.{digits_value}
use Rattle.st_format.specs.declared.format.Format.{Format}
use Rattle.st_format.specs.declared.sampling.Sampling.{Sampling}
use Rattle.st_format.specs.declared.sampling.Sampling.TheVariants.{Ycc422, Ycc444}
use Rattle.st_format.specs.declared.sampling.Depth.{Depth}
use Rattle.st_format.specs.Fields.{Fields}
use Rattle.st_format.specs.Text.{parted}
use Rattle.st_format.proofs.SameFields.{same_format}
use Rattle.bt709_fixed.specs.Operations.{IsResampled}
use Rattle.bt709_fixed.specs.declared.changes.RangeKind.TheVariants.{Nominal, VideoData}
use Rattle.key_mix.specs.Jobs.{IsJobFormat}
use Rattle.key_mix.specs.declared.Axis.{Axis}
use Rattle.key_mix.specs.declared.Axis.TheVariants.{Columns, Rows}
use Rattle.key_mix.specs.declared.Job.{Job}
use Rattle.key_mix.specs.declared.Job.TheVariants.{Limit, Gain, ToYcc444, ToYcc422, Wipe, Key}
use Rattle.receiver_engines.specs.JobText.{IsJobText, axis_word}

-- ---- the job of a text

-- the letter at a place
abbrev pub letter_at : ℕ → List ℕ → ℕ
letter_at n text = get_or text n 0

abbrev wipe_of : Axis → ℕ → ℕ → Job
wipe_of axis position soft =
    Wipe (record { axis = axis; position = position; soft = soft })

-- the wipe whose two numbers stand in a text that was parted
abbrev wipe_in : Axis → Option (List ℕ × List ℕ) → Job
wipe_in axis None = Key
wipe_in axis (Some p) = wipe_of axis (digits_value 10 p.0) (digits_value 10 p.1)

-- by the sixth octet of `wipe:columns:` or `wipe:rows:`
abbrev wipe_said : List ℕ → Job
wipe_said text =
    if letter_at 5 text == 99 then wipe_in Columns (parted 58 (drop 13 text))
    else wipe_in Rows (parted 58 (drop 10 text))

-- the job that a text says, told by its first octet and one more, where it says one
abbrev job_in : List ℕ → Job
job_in text =
    if letter_at 0 text == 108
    then (if letter_at 6 text == 110 then Limit Nominal else Limit VideoData)
    else (if letter_at 0 text == 103 then Gain (digits_value 10 (drop 5 text))
    else (if letter_at 0 text == 121
    then (if letter_at 4 text == 52 then ToYcc444 else ToYcc422)
    else (if letter_at 0 text == 119 then wipe_said text else Key)))

wipe_again : (axis : Axis) (text rest : List ℕ) → text ≡ axis_word axis ++ rest
    → job_in text ≡ wipe_in axis (parted 58 rest)
wipe_again Columns text rest e = ap job_in e
wipe_again Rows text rest e = ap job_in e

job_again : (text : List ℕ) (j : Job) → IsJobText text j → job_in text ≡ j
job_again text (Limit Nominal) is = ap job_in is
job_again text (Limit VideoData) is = ap job_in is
job_again text (Gain g) is = ap job_in is.text_is ∙ ap (λ (n : ℕ). Gain n) (sym is.is.value)
job_again text ToYcc444 is = ap job_in is
job_again text ToYcc422 is = ap job_in is
job_again text (Wipe w) is =
    wipe_again w.axis text is.rest is.text_is ∙ ap (wipe_in w.axis) is.parts
    ∙ ap (λ (n : ℕ). wipe_of w.axis n (digits_value 10 is.soft)) (sym is.position_is.value)
    ∙ ap (wipe_of w.axis w.position) (sym is.soft_is.value)
job_again text Key is = ap job_in is

pub one_job : (text : List ℕ) (j k : Job) → IsJobText text j → IsJobText text k → j ≡ k
one_job text j k p q = sym (job_again text j p) ∙ job_again text k q

-- ---- the format of its picture

abbrev fields_by : Sampling → Depth → ℕ → ℕ → ℕ → ℕ → Fields
fields_by s b w h n d =
    record { sampling = s; depth = b; width = w; height = h; n = n; d = d }

pub one_resampled : (f g h : Format) (s : Sampling) → IsResampled f h s → IsResampled g h s → f ≡ g
one_resampled f g h s p q =
    same_format f g
    (ap (λ (x : Sampling). fields_by x f.depth f.width f.height f.n f.d)
    (p.sampling ∙ sym q.sampling)
    ∙ ap (λ (x : Depth). fields_by g.sampling x f.width f.height f.n f.d) (p.depth ∙ sym q.depth)
    ∙ ap (λ (x : ℕ). fields_by g.sampling g.depth x f.height f.n f.d) (p.width ∙ sym q.width)
    ∙ ap (λ (x : ℕ). fields_by g.sampling g.depth g.width x f.n f.d) (p.height ∙ sym q.height)
    ∙ ap (λ (x : ℕ). fields_by g.sampling g.depth g.width g.height x f.d) (p.n ∙ sym q.n)
    ∙ ap (λ (x : ℕ). fields_by g.sampling g.depth g.width g.height g.n x) (p.d ∙ sym q.d))

pub one_job_format : (f g : Format) (j : Job) (fs : List Format) → IsJobFormat f j fs
    → IsJobFormat g j fs → f ≡ g
one_job_format f g j [] p q = absurd p
one_job_format f g (Limit range) (h ∷ hs) p q = p ∙ sym q
one_job_format f g (Gain gain) (h ∷ hs) p q = p ∙ sym q
one_job_format f g ToYcc444 (h ∷ hs) p q = one_resampled f g h Ycc444 p q
one_job_format f g ToYcc422 (h ∷ hs) p q = one_resampled f g h Ycc422 p q
one_job_format f g (Wipe w) (h ∷ hs) p q = p ∙ sym q
one_job_format f g Key (h ∷ hs) p q = p ∙ sym q
