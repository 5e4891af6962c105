-- Frames that sinks take one after the other.
use Rattle.std.proofs.Common.{◌≡◌, ◌∙◌, ◌+◌, ℕ, inl, inr, List, [], ◌∷◌, ◌++◌, Result, Ok, Err}
use Rattle.std.proofs.Common.{ap, append-nil, append_assoc, arith, subst, sym}
use Rattle.std.proofs.lemmas.Grind.{flat_map-append}
use Rattle.follow_engine.proofs.Grows.{grows_first, grows_then}
use Rattle.follow_engine.specs.Shown.{GrowsSome, TakesEachFrame}
use Rattle.following.specs.Following.{Handed}
use Rattle.frame_sinks.specs.Sinks.{FailsLines, TakesBoth, TakesLines, frames_report, lines_of}
use Rattle.frame_sinks.specs.declared.both.BothSinks.{BothSinks}
use Rattle.frame_sinks.specs.declared.report_sink.ReportSink.{ReportSink}
use Rattle.run_outcome.specs.Fault.{Accounts, Blames, counts}
use Rattle.run_outcome.specs.declared.fault.Fault.{Fault}
use Rattle.run_outcome.specs.declared.fault.Fault.TheVariants.{Device, Memory, Refused}
use Rattle.st_format.specs.Device.{Failed}

-- what each lacks, one behind the other
pub all_lines : {K : Type 0} (took : K → List ℕ) (k l : ReportSink K) (hs : List Handed)
    → TakesEachFrame (TakesLines took) k hs l → took l.sink ≡ took k.sink ++ frames_report hs
all_lines took k l [] is =
    ap (λ (m : ReportSink _). took m.sink) is ∙ sym (append-nil (took k.sink))
all_lines took k l (h ∷ hs) is =
    all_lines took is.0 l hs is.2
    ∙ ap (λ (t : List ℕ). t ++ frames_report hs) is.1
    ∙ append_assoc (took k.sink) (lines_of h) (frames_report hs)

-- of one at which the sink failed a first part came
pub cut_lines : {K : Type 0} (took : K → List ℕ) (k m l : ReportSink K) (hs : List Handed)
    (h : Handed) → TakesEachFrame (TakesLines took) k hs m → FailsLines took m h l
    → GrowsSome (took k.sink) (took l.sink) (frames_report (hs ++ h ∷ []))
cut_lines took k m l hs h is cut =
    subst (λ (t : List ℕ). GrowsSome (took k.sink) (took l.sink) t)
    (sym (flat_map-append lines_of hs (h ∷ [])))
    (grows_then (took k.sink) (took m.sink) (took l.sink) (frames_report hs)
    (frames_report (h ∷ [])) (all_lines took k m hs is)
    (grows_first (took m.sink) (took l.sink) (lines_of h) [] cut))

-- each of two sinks took them
pub all_both : {P Q : Type 0} (p : P → Handed → P → Type 0) (q : Q → Handed → Q → Type 0)
    (k l : BothSinks P Q) (hs : List Handed) → TakesEachFrame (TakesBoth p q) k hs l
    → TakesEachFrame p k.first hs l.first × TakesEachFrame q k.second hs l.second
all_both p q k l [] is =
    (ap (λ (m : BothSinks _ _). m.first) is, ap (λ (m : BothSinks _ _). m.second) is)
all_both p q k l (h ∷ hs) is =
    let rest = all_both p q is.0 l hs is.2 in
    ((is.0.first, is.1.0, rest.0), (is.0.second, is.1.1, rest.1))

-- ---- how often two sinks failed

failed_first : (a a' b : ℕ) → Failed a a' → Failed (a + b) (a' + b)
failed_first a a' b is = elim is [
  | inl less ↦ inl (omega (arith, less))
  | inr most ↦ inr (omega (arith, most))
]

failed_second : (a b b' : ℕ) → Failed b b' → Failed (a + b) (a + b')
failed_second a b b' is = elim is [
  | inl less ↦ inl (omega (arith, less))
  | inr most ↦ inr (omega (arith, most))
]

-- the first alone
pub blames_first : (f : Fault) (a a' b : ℕ) → Blames (counts a a' ∷ []) f
    → Blames (counts (a + b) (a' + b) ∷ []) f
blames_first (Refused r) a a' b is = ap (λ (n : ℕ). n + b) is
blames_first Device a a' b is = failed_first a a' b is
blames_first Memory a a' b is = ap (λ (n : ℕ). n + b) is

-- the second, where the first stayed as it was
blames_second : (f : Fault) (a b b' : ℕ) → Blames (counts b b' ∷ []) f
    → Blames (counts (a + b) (a + b') ∷ []) f
blames_second (Refused r) a b b' is = ap (λ (n : ℕ). a + n) is
blames_second Device a b b' is = failed_second a b b' is
blames_second Memory a b b' is = ap (λ (n : ℕ). a + n) is

accounts_same : {V : Type 0} (r : Result V Fault) (a b b' : ℕ)
    → Accounts r (counts b b' ∷ []) → Accounts r (counts (a + b) (a + b') ∷ [])
accounts_same (Ok v) a b b' is = ap (λ (n : ℕ). a + n) is
accounts_same (Err f) a b b' is = blames_second f a b b' is

pub accounts_second : {V : Type 0} (r : Result V Fault) (a a' b b' : ℕ) → a' ≡ a
    → Accounts r (counts b b' ∷ []) → Accounts r (counts (a + b) (a' + b') ∷ [])
accounts_second r a a' b b' same is =
    subst (λ (n : ℕ). Accounts r (counts (a + b) (n + b') ∷ [])) (sym same)
    (accounts_same r a b b' is)
