-- What one step does to the list of receivers.
use Rattle.std.proofs.Common.{◌≡◌, ◌≢◌, ℕ, zero, suc, ◌<◌, List, [], ◌∷◌, ◌++◌, length, get_or, set}
use Rattle.std.proofs.Common.{Result, Ok, Err, Some, Vec, refl, sym, ap, ◌∙◌, subst, arith}
use Rattle.std.specs.Prelude.{slice_get, IfOk, IsErr, OnOk, OnErr, IsErrOf}
use Rattle.std.proofs.lemmas.Option.{slice_get_read, slice_get-get_or}
use Rattle.st_format.specs.declared.format.Format.{Format}
use Rattle.st_format.specs.Member.{IsMember}
use Rattle.st_format.specs.Device.{AreOctets}
use Rattle.path_receiver.specs.declared.fault.SlideFault.{SlideFault}
use Rattle.path_receiver.specs.declared.fault.SlideFault.TheVariants.{InWindow, OtherFormat}
use Rattle.path_receiver.specs.Frames.{State, IsReceiver, frames_of, joined_frames}
use Rattle.path_merge.specs.declared.schedule.stop.Stop.{Stop}
use Rattle.path_merge.specs.declared.schedule.played.Handed.{Handed}
use Rattle.path_merge.specs.Steps.{Arrives, SlidesOut, SlidesOne, MergesInto}

pub arrives_made : {A : Type 0} (to number r : ℕ) (sent : List (Vec ℕ A)) (old : List State)
    (before after : State) (v : Vec ℕ A) (octets : List ℕ) → r ≡ to → r < length old
    → number < length sent
    → before ≡ get_or old r before → v ≡ get_or sent number v → octets ≡ v.items → AreOctets octets
    → after.opening ≡ (get_or old r before).opening
    → after.frames
    ≡ joined_frames (get_or old r before).frames
    (frames_of (get_or old r before).opening (octets ∷ [])) → IsReceiver after
    → Arrives to number sent old (set old r after)
arrives_made to number r sent old before after v octets same lt below is is_v is_o fit opening
    frames receiver = record {
      datagram = v;
      sent_is = slice_get_read sent (length sent) number v refl below is_v;
      octets = subst AreOctets is_o fit;
      before = get_or old r before;
      there = ap (slice_get old) (sym same) ∙ slice_get-get_or old r before lt;
      after = after;
      opening = opening;
      frames =
          frames ∙ ap
          (λ (x : List ℕ). joined_frames (get_or old r before).frames
          (frames_of (get_or old r before).opening (x ∷ []))) is_o;
      receiver = receiver;
      all = ap (λ (i : ℕ). set old i after) same;
    }

-- ---- a slide

pub slides_made : {A : Type 0} (at next r : ℕ) (old : List State) (d new : State)
    (result : Result (Handed A) Stop) → r ≡ at → r < length old
    → IfOk result (λ h. SlidesOne at next (get_or old r d) new h)
    → IfOk result (λ h. SlidesOut at next old (set old r new) h)
slides_made at next r old d new (Err e) same lt one = one
slides_made at next r old d new (Ok h) same lt one = record {
  before = get_or old r d;
  there = ap (slice_get old) (sym same) ∙ slice_get-get_or old r d lt;
  fresh = one.fresh;
  handed = one.handed;
  first = one.first;
  frame = one.frame;
  receiver = subst IsReceiver one.all one.receiver;
  all = ap (λ (i : ℕ). set old i new) same ∙ ap (set old at) one.all;
}

pub slid_refused : (at next r : ℕ) (old : List State) (d state : State) → r ≡ at → r < length old
    → slice_get old at ≡ Some state → IsMember next (get_or old r d).opening.window
    → IsMember next state.opening.window
slid_refused at next r old d state same lt there =
    subst (λ (s : State). IsMember next s.opening.window)
    (one_some (get_or old r d) state
    (sym (slice_get-get_or old r d lt) ∙ ap (slice_get old) same ∙ there))
  where
    one_some : (p q : State) → Some p ≡ Some q → p ≡ q
    one_some p q h = cc

-- Where the frame has the receiver's format, a slide is refused only for the timestamp.
pub only_in_window : (next : ℕ) (s : State) (e : SlideFault) (f : Format)
    → (IsErrOf {T = ℕ} (Err e) InWindow → IsMember next s.opening.window)
    → (IsErrOf {T = ℕ} (Err e) OtherFormat
    → (IsMember next s.opening.window → ⊥) × (f ≢ s.opening.format))
    → f ≡ s.opening.format → IsMember next s.opening.window
only_in_window next s InWindow f one two format = one refl
only_in_window next s OtherFormat f one two format = absurd ((two refl).1 format)

-- ---- two parts of a list

front_get : (xs ys : List State) (i : ℕ) (d : State) → i < length xs
    → slice_get (xs ++ ys) i ≡ Some (get_or xs i d)
front_get [] ys i d lt = absurd (omega (arith, lt))
front_get (x ∷ xs) ys zero d lt = refl
front_get (x ∷ xs) ys (suc i) d lt = front_get xs ys i d (omega (arith, lt))

pub there_front : (old xs ys : List State) (i : ℕ) (d : State) → old ≡ xs ++ ys → i < length xs
    → slice_get old i ≡ Some (get_or xs i d)
there_front old xs ys i d e lt = ap (λ (zs : List State). slice_get zs i) e ∙ front_get xs ys i d lt

back_get : (xs ys : List State) (n : ℕ) (d : State) → length xs ≡ n → n < length (xs ++ ys)
    → slice_get (xs ++ ys) n ≡ Some (get_or ys 0 d)
back_get [] [] n d at lt = absurd (omega (arith, lt))
back_get [] (y ∷ ys) zero d at lt = refl
back_get [] (y ∷ ys) (suc n) d at lt = absurd (omega (arith, at))
back_get (x ∷ xs) ys zero d at lt = absurd (omega (arith, at))
back_get (x ∷ xs) ys (suc n) d at lt = back_get xs ys n d (omega (arith, at)) (omega (arith, lt))

pub there_back : (old xs ys : List State) (n : ℕ) (d : State) → old ≡ xs ++ ys → length xs ≡ n
    → n < length old → slice_get old n ≡ Some (get_or ys 0 d)
there_back old xs ys n d e at lt =
    ap (λ (zs : List State). slice_get zs n) e
    ∙ back_get xs ys n d at (omega (arith, lt, ap length e))

at_front : (xs ys : List State) (i : ℕ) (x : State) → i < length xs
    → set xs i x ++ ys ≡ set (xs ++ ys) i x
at_front [] ys i x lt = absurd (omega (arith, lt))
at_front (z ∷ xs) ys zero x lt = refl
at_front (z ∷ xs) ys (suc i) x lt =
    ap (λ (zs : List State). z ∷ zs) (at_front xs ys i x (omega (arith, lt)))

pub set_front : (old xs ys : List State) (i : ℕ) (x : State) → old ≡ xs ++ ys → i < length xs
    → set xs i x ++ ys ≡ set old i x
set_front old xs ys i x e lt = at_front xs ys i x lt ∙ ap (λ (zs : List State). set zs i x) (sym e)

at_back : (xs ys : List State) (n : ℕ) (x : State) → length xs ≡ n
    → xs ++ set ys 0 x ≡ set (xs ++ ys) n x
at_back [] ys zero x at = refl
at_back [] ys (suc n) x at = absurd (omega (arith, at))
at_back (z ∷ xs) ys zero x at = absurd (omega (arith, at))
at_back (z ∷ xs) ys (suc n) x at =
    ap (λ (zs : List State). z ∷ zs) (at_back xs ys n x (omega (arith, at)))

pub set_back : (old xs ys : List State) (n : ℕ) (x : State) → old ≡ xs ++ ys → length xs ≡ n
    → xs ++ set ys 0 x ≡ set old n x
set_back old xs ys n x e at = at_back xs ys n x at ∙ ap (λ (zs : List State). set zs n x) (sym e)

-- ---- a merge

pub on_ok : {T E : Type 0} (P : Type 0) (r : Result T E) (x : T) → r ≡ Ok x → OnOk r P → P
on_ok P r x e h = subst (λ (q : Result _ _). OnOk q P) e h

pub merges_made : {T E : Type 0} (into from : ℕ) (old new : List State)
    (before other after : State) (r : Result T E) (x : T) → r ≡ Ok x → into ≢ from
    → slice_get old into ≡ Some before → slice_get old from ≡ Some other
    → OnOk r (before.opening ≡ other.opening) → after.opening ≡ before.opening
    → OnOk r (after.frames ≡ joined_frames before.frames other.frames) → IsReceiver after
    → new ≡ set old into after → MergesInto into from old new
merges_made into from old new before other after r x is two there too alike opening frames receiver
    all = record {
      two = two;
      before = before;
      there = there;
      other = other;
      there_too = too;
      alike = on_ok (before.opening ≡ other.opening) r x is alike;
      after = after;
      opening = opening;
      frames = on_ok (after.frames ≡ joined_frames before.frames other.frames) r x is frames;
      receiver = receiver;
      all = all;
    }

pub merge_refused : {T E : Type 0} (into from : ℕ) (old : List State) (before other : State)
    (r : Result T E) (e : E) → r ≡ Err e → slice_get old into ≡ Some before
    → slice_get old from ≡ Some other
    → (IsErr r → before.opening ≡ other.opening → ⊥) → (a b : State) → slice_get old into ≡ Some a
    → slice_get old from ≡ Some b → into ≢ from → a.opening ≢ b.opening
merge_refused into from old before other r e is there too unlike a b here here_too two same =
    unlike (subst IsErr (sym is) refl)
    (ap (λ (s : State). s.opening) (one_some before a (sym there ∙ here)) ∙ same
    ∙ ap (λ (s : State). s.opening) (sym (one_some other b (sym too ∙ here_too))))
  where
    one_some : (p q : State) → Some p ≡ Some q → p ≡ q
    one_some p q h = cc

pub refused_at : {T E : Type 0} (i j into from : ℕ) (old : List State) (r : Result T E) → i ≡ into
    → j ≡ from
    → OnErr r
    ((a b : State) → slice_get old i ≡ Some a → slice_get old j ≡ Some b → i ≢ j
    → a.opening ≢ b.opening)
    → OnErr r
    ((a b : State) → slice_get old into ≡ Some a → slice_get old from ≡ Some b → into ≢ from
    → a.opening ≢ b.opening)
refused_at i j into from old r e f h =
    subst (λ (y : ℕ). OnErr r
    ((a b : State) → slice_get old into ≡ Some a → slice_get old y ≡ Some b → into ≢ y
    → a.opening ≢ b.opening)) f
    (subst (λ (x : ℕ). OnErr r
    ((a b : State) → slice_get old x ≡ Some a → slice_get old j ≡ Some b → x ≢ j
    → a.opening ≢ b.opening)) e h)

pub merged_at : {T E : Type 0} (i j into from : ℕ) (old new : List State) (r : Result T E)
    → i ≡ into → j ≡ from → OnOk r (MergesInto i j old new) → OnOk r (MergesInto into from old new)
merged_at i j into from old new r e f h =
    subst (λ (y : ℕ). OnOk r (MergesInto into y old new)) f
    (subst (λ (x : ℕ). OnOk r (MergesInto x j old new)) e h)

-- ---- the same of equal lists

pub arrives_of : {A T E : Type 0} (to number : ℕ) (sent sent' : List (Vec ℕ A))
    (old old' new new' : List State) (r : Result T E) → sent' ≡ sent → old' ≡ old → new ≡ new'
    → OnOk r (Arrives to number sent' old' new') → OnOk r (Arrives to number sent old new)
arrives_of to number sent sent' old old' new new' r e f g h =
    subst (λ (xs : List (Vec ℕ _)). OnOk r (Arrives to number xs old new)) e
    (subst (λ (xs : List State). OnOk r (Arrives to number sent' xs new)) f
    (subst (λ (xs : List State). OnOk r (Arrives to number sent' old' xs)) (sym g) h))

pub arrive_unfit_of : {A T E : Type 0} (to number : ℕ) (sent sent' : List (Vec ℕ A))
    (old old' : List State) (r : Result T E) → sent' ≡ sent → old' ≡ old
    → OnErr r (to < length old' → number < length sent' → ⊥)
    → OnErr r (to < length old → number < length sent → ⊥)
arrive_unfit_of to number sent sent' old old' r e f h =
    subst (λ (xs : List (Vec ℕ _)). OnErr r (to < length old → number < length xs → ⊥)) e
    (subst (λ (xs : List State). OnErr r (to < length xs → number < length sent' → ⊥)) f h)

pub slides_of : {A : Type 0} (at next : ℕ) (old old' new new' : List State) (out : Handed A)
    → old' ≡ old → new ≡ new' → SlidesOut at next old' new' out → SlidesOut at next old new out
slides_of at next old old' new new' out f g h =
    subst (λ (xs : List State). SlidesOut at next xs new out) f
    (subst (λ (xs : List State). SlidesOut at next old' xs out) (sym g) h)

pub merges_of : {T E : Type 0} (into from : ℕ) (old old' new new' : List State) (r : Result T E)
    → old' ≡ old → new ≡ new' → OnOk r (MergesInto into from old' new')
    → OnOk r (MergesInto into from old new)
merges_of into from old old' new new' r f g h =
    subst (λ (xs : List State). OnOk r (MergesInto into from xs new)) f
    (subst (λ (xs : List State). OnOk r (MergesInto into from old' xs)) (sym g) h)

pub merge_unfit_of : {T E : Type 0} (into from : ℕ) (old old' : List State) (r : Result T E)
    → old' ≡ old
    → OnErr r
    ((a b : State) → slice_get old' into ≡ Some a → slice_get old' from ≡ Some b → into ≢ from
    → a.opening ≢ b.opening)
    → OnErr r
    ((a b : State) → slice_get old into ≡ Some a → slice_get old from ≡ Some b → into ≢ from
    → a.opening ≢ b.opening)
merge_unfit_of into from old old' r f h =
    subst (λ (xs : List State). OnErr r
    ((a b : State) → slice_get xs into ≡ Some a → slice_get xs from ≡ Some b → into ≢ from
    → a.opening ≢ b.opening)) f h
