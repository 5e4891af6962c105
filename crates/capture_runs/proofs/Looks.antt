-- What the first octets of a file say of it, and of several files.
use Rattle.std.proofs.Common.{◌≡◌, ◌∙◌, ◌++◌, ◌<◌, ◌≤◌, ◌∷◌, [], All, Bool, List, ap}
use Rattle.std.proofs.Common.{append-nil, arith, false, inl, inr, length, refl, subst}
use Rattle.std.proofs.Common.{sym, take, true, ℕ}
use Rattle.std.proofs.Math.Nat.{eq-or-lt_of_le}
use Rattle.std.proofs.Math.Seq.{get_or-append_seam}
use Rattle.std.proofs.lemmas.List.{get_or_append_left, length-append, length-take-le}
use Rattle.std.proofs.lemmas.List.{take-append-le, take_all}
use Rattle.std.proofs.lemmas.List.Elements.{All-append, All-cons, All-nil}
use Rattle.std.specs.Prelude.{Any}
use Rattle.capture_runs.specs.Looked.{BeginsAsCapture, BeginsCapture, HaveCapture, IsLooked}
use Rattle.capture_runs.specs.Looked.{IsNoCapture}
use Rattle.capture_runs.specs.Replayed.{replayed_ended, replayed_gave}
use Rattle.capture_runs.specs.declared.replayed.Replayed.{Replayed}
use Rattle.media_file.specs.Fronts.{capture_name}
use Rattle.st_format.specs.History.{IsRead}
use Rattle.std.specs.Str.{bytes_eq}

-- six octets were given, or all: octets that begin with them have just them first
first_six : (gave octets : List ℕ) (ended : Type 0) → length gave ≤ 6
    → (length gave < 6 → ended) → IsRead [] gave ended octets → take 6 octets ≡ gave
first_six gave octets ended few all read =
    elim (eq-or-lt_of_le few) [
      | inl six ↦
          ap (take 6) read.parts ∙ take-append-le 6 gave read.behind (omega arith)
          ∙ take_all 6 gave few
      | inr less ↦
          ap (take 6) (read.parts ∙ ap (λ (t : List ℕ). gave ++ t) (read.all (all less))
          ∙ append-nil gave)
          ∙ take_all 6 gave few
    ]

begins : (r : Replayed) (gave : List ℕ) → replayed_gave r ≡ gave → length gave ≤ 6
    → (length gave < 6 → replayed_ended r) → BeginsAsCapture r (bytes_eq gave capture_name)
begins r gave same few all octets read =
    ap (λ (l : List ℕ). bytes_eq l capture_name)
    (first_six gave octets (replayed_ended r) few all
    (subst (λ (l : List ℕ). IsRead [] l (replayed_ended r) octets) same read))

looked_by : (is : Bool) (r : Replayed) → BeginsAsCapture r is → IsLooked is r
looked_by true r b = b
looked_by false r b = inl b

-- so many octets of six were given by a file that had given none, and fewer only where it ended
pub looked_front : (r : Replayed) (was front : List ℕ) (n : ℕ) (is : Bool) → was ≡ []
    → replayed_gave r ≡ was ++ take n front → n ≤ length front → length front ≡ 6
    → (n < length front → replayed_ended r) → is ≡ bytes_eq (take n front) capture_name
    → IsLooked is r
looked_front r was front n is none gave within six all same =
    let count : length (take n front) ≡ n = length-take-le n front within in
    looked_by is r (subst (λ (b : Bool). BeginsAsCapture r b) (sym same)
    (begins r (take n front) (gave ∙ ap (λ (l : List ℕ). l ++ take n front) none) (omega arith)
    (λ few. all (omega arith))))

-- one more file behind one that is a capture; or behind some that are none
any_more : (P : Replayed → Type 0) (files : List Replayed) (file : Replayed) → Any P files
    → Any P (files ++ file ∷ [])
any_more P files file (k, s, lt, is, holds) = (
  k,
  s,
  subst (λ (n : ℕ). k < n) (sym (length-append files (file ∷ []))) (omega arith),
  get_or_append_left files (file ∷ []) s k lt ∙ is,
  holds,
)

any_last : (P : Replayed → Type 0) (files : List Replayed) (file : Replayed) → P file
    → Any P (files ++ file ∷ [])
any_last P files file holds = (
  length files,
  file,
  subst (λ (n : ℕ). length files < n) (sym (length-append files (file ∷ []))) (omega arith),
  get_or-append_seam files file [] file,
  holds,
)

have_one : (is : Bool) (files : List Replayed) (file : Replayed) → All IsNoCapture files
    → IsLooked is file → HaveCapture is (files ++ file ∷ [])
have_one true files file none it =
    record { yes = λ e. any_last BeginsCapture files file it; no = λ e. absurd (cc) }
have_one false files file none it =
    record {
      yes = λ e. absurd (cc);
      no = λ e. All-append IsNoCapture files (file ∷ []) none
          (All-cons IsNoCapture file [] it (All-nil IsNoCapture));
    }

have_more_by : (was is : Bool) (files : List Replayed) (file : Replayed) → HaveCapture was files
    → (was ≡ true → is ≡ true) → (was ≡ false → IsLooked is file)
    → HaveCapture is (files ++ file ∷ [])
have_more_by true is files file have kept looked =
    subst (λ (b : Bool). HaveCapture b (files ++ file ∷ [])) (sym (kept refl))
    (record { yes = λ e. any_more BeginsCapture files file (have.yes refl); no = λ e. absurd (cc) })
have_more_by false is files file have kept looked =
    have_one is files file (have.no refl) (looked refl)

pub have_more : (was is : Bool) (files now : List Replayed) (file : Replayed)
    → HaveCapture was files → (was ≡ true → is ≡ true) → (was ≡ false → IsLooked is file)
    → now ≡ files ++ file ∷ [] → HaveCapture is now
have_more was is files now file have kept looked same =
    subst (λ (l : List Replayed). HaveCapture is l) (sym same)
    (have_more_by was is files file have kept looked)
