-- Timestamps and what is kept of their frames.
use Rattle.std.proofs.Common.{◌≡◌, ℕ, zero, suc, Bool, true, false, cond, eqb, List, [], ◌∷◌, ◌++◌}
use Rattle.std.proofs.Common.{length, map, All, Option, Result, Ok, Err, refl, sym, ap, ◌∙◌, subst}
use Rattle.std.proofs.Common.{inl, inr, arith}
use Rattle.std.specs.Prelude.{IfErr, IfOk}
use Rattle.std.specs.List.{list_any}
use Rattle.std.proofs.lemmas.Bool.{cases_Bool}
use Rattle.std.proofs.lemmas.List.Elements.{All-append}
use Rattle.st_format.specs.declared.format.Format.{Format}
use Rattle.st_format.specs.Fields.{Fields}
use Rattle.st_format.specs.Member.{IsMember}
use Rattle.st_format.specs.Raster.{Raster}
use Rattle.path_receiver.specs.Opening.{AreDifferent}
use Rattle.path_receiver.proofs.Answered.{any_from_member}
use Rattle.media_file.specs.declared.fault.FileFault.{FileFault}
use Rattle.media_file.specs.declared.fault.FileFault.TheVariants.{BadField}
use Rattle.media_file.specs.Fields.{Fails}
use Rattle.st_format.specs.Given.{Takes}
use Rattle.media_file.specs.StateFile.{Held, held_of}
use Rattle.receiver_file.specs.Saved.{kept_frames, timestamp_in}
use Rattle.receiver_file.specs.Numbers.{number_at}
use Rattle.receiver_file.specs.StateReading.{new_of, timestamp_at}
use Rattle.receiver_file.proofs.Valued.{call_fails, call_gives, value_cut}

-- the timestamps are those of the window
pub kept_stamps : (f : Fields) (w : List ℕ) (rs : List Raster) → length rs ≡ length w
    → map timestamp_in (kept_frames f w rs) ≡ w
kept_stamps f [] rs e = refl
kept_stamps f (t ∷ w) [] e = absurd (omega (arith, e))
kept_stamps f (t ∷ w) (r ∷ rs) e =
    ap (λ (xs : List ℕ). t ∷ xs) (kept_stamps f w rs (omega (arith, e)))

pub kept_more : (f : Fields) (w : List ℕ) (rs : List Raster) (t : ℕ) (r : Raster)
    → length rs ≡ length w
    → kept_frames f (w ++ t ∷ []) (rs ++ r ∷ []) ≡ kept_frames f w rs ++ held_of f t r.cells ∷ []
kept_more f [] [] t r e = refl
kept_more f [] (q ∷ rs) t r e = absurd (omega (arith, e))
kept_more f (u ∷ w) [] t r e = absurd (omega (arith, e))
kept_more f (u ∷ w) (q ∷ rs) t r e =
    ap (λ (hs : List Held). held_of f u q.cells ∷ hs) (kept_more f w rs t r (omega (arith, e)))

-- a timestamp that wasn't there
not_last : (x t : ℕ) (w : List ℕ) → (IsMember x w → ⊥) → (t ≡ x → ⊥) → IsMember x (w ++ t ∷ []) → ⊥
not_last x t [] out other (inl e) = other (sym e)
not_last x t [] out other (inr m) = m
not_last x t (y ∷ w) out other (inl e) = out (inl e)
not_last x t (y ∷ w) out other (inr m) = not_last x t w (λ k. out (inr k)) other m

pub different_more : (w : List ℕ) (t : ℕ) → AreDifferent w → (IsMember t w → ⊥)
    → AreDifferent (w ++ t ∷ [])
different_more [] t d out = (λ m. m, tt)
different_more (x ∷ w) t d out =
    (not_last x t w d.0 (λ e. out (inl e)), different_more w t d.1 (λ m. out (inr m)))

-- ---- one that is read

abbrev new_if : ℕ → Bool → Result ℕ FileFault
new_if t b = cond b (Err BadField) (Ok t)

pub new_out : (before : List ℕ) (t : ℕ) (r : Result ℕ FileFault) → r ≡ new_of before t
    → IfOk r (λ u. IsMember u before → ⊥)
new_out before t (Err f) e = tt
new_out before t (Ok u) e =
    elim (cases_Bool (list_any (λ x. eqb x t) before)) [
      | inl there ↦ let bad : Ok u ≡ Err BadField = e ∙ ap (new_if t) there in absurd cc
      | inr out ↦
          λ (m : IsMember u before).
          let same : Ok u ≡ Ok t = e ∙ ap (new_if t) out in
          let at : u ≡ t = cc in
          let there : list_any (λ x. eqb x t) before ≡ true =
          any_from_member t before (subst (λ (k : ℕ). IsMember k before) at m) in
          let bad : true ≡ false = sym there ∙ out in
          absurd cc
    ]

pub stamp_cut : (before : List ℕ) (old : Option (List ℕ)) (f : FileFault) → Fails number_at old f
    → Fails (timestamp_at before) old f
unfolding timestamp_at
stamp_cut before old f p = value_cut number_at (new_of before) old f p

pub stamp_gives : (before : List ℕ) (old mid : Option (List ℕ)) (n : ℕ) (r : Result ℕ FileFault)
    → Takes number_at old mid n → r ≡ new_of before n
    → IfOk r (λ t. Takes (timestamp_at before) old mid t)
unfolding timestamp_at
stamp_gives before old mid n r p e = call_gives number_at (new_of before) old mid n r p e

pub stamp_fails : (before : List ℕ) (old mid : Option (List ℕ)) (n : ℕ) (r : Result ℕ FileFault)
    → Takes number_at old mid n → r ≡ new_of before n
    → IfErr r (λ f. Fails (timestamp_at before) old f)
unfolding timestamp_at
stamp_fails before old mid n r p e = call_fails number_at (new_of before) old mid n r p e

-- one frame more of a format
pub all_more : (o : Format) (rs : List Raster) (r : Raster) → All (λ (q : Raster). q.format ≡ o) rs
    → r.format ≡ o → All (λ (q : Raster). q.format ≡ o) (rs ++ r ∷ [])
all_more o rs r all e = All-append (λ (q : Raster). q.format ≡ o) rs (r ∷ []) all one
  where
    one : All (λ (q : Raster). q.format ≡ o) (r ∷ [])
    one zero d lt = e
    one (suc k) d lt = absurd (omega (arith, lt))

pub all_none : (o : Format) (xs : List Raster) → xs ≡ [] → All (λ (q : Raster). q.format ≡ o) xs
all_none o [] e = λ k d lt. absurd (omega (arith, lt))
all_none o (x ∷ xs) e = absurd cc

pub all_next : (o : Format) (rs xs : List Raster) (r : Raster) → xs ≡ rs ++ r ∷ []
    → All (λ (q : Raster). q.format ≡ o) rs → r.format ≡ o → All (λ (q : Raster). q.format ≡ o) xs
all_next o rs xs r is all e =
    subst (λ (ys : List Raster). All (λ (q : Raster). q.format ≡ o) ys) (sym is)
    (all_more o rs r all e)

-- the timestamps that stand behind one that is pushed
pub different_next : (w xs before : List ℕ) (t : ℕ) → xs ≡ w ++ t ∷ [] → before ≡ w
    → AreDifferent w → (IsMember t before → ⊥) → AreDifferent xs
different_next w xs before t is at d out =
    subst AreDifferent (sym is)
    (different_more w t d
    (λ (m : IsMember t w). out (subst (λ (b : List ℕ). IsMember t b) (sym at) m)))
