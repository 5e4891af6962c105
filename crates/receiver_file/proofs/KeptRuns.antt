-- The frames of a receiver, written one after the other.
use Rattle.std.proofs.Common.{◌≡◌, ℕ, zero, suc, ◌+◌, ◌<◌, ◌≤◌, Bool, false, cond, eqb, List, []}
use Rattle.std.proofs.Common.{◌∷◌, ◌++◌, length, take, drop, get_or, All, Option, None, Some}
use Rattle.std.proofs.Common.{append-nil, append_assoc, refl, sym, ap, ◌∙◌, subst, inl, inr, arith}
use Rattle.std.specs.Io.KnownBytes.{Appends}
use Rattle.std.specs.List.{flat_map}
use Rattle.std.proofs.KnownBytes.{Appends-trans}
use Rattle.std.proofs.lemmas.Bool.{cases_Bool, eq-eqb, ne_eqb}
use Rattle.std.proofs.lemmas.Grind.{flat_map-append}
use Rattle.std.proofs.lemmas.List.{drop_all, take-append-drop, take_more}
use Rattle.st_format.specs.declared.format.Format.{Format}
use Rattle.st_format.specs.Device.{AppendsPrefix}
use Rattle.st_format.specs.Fields.{Fields, fields_of}
use Rattle.st_format.specs.Member.{IsMember}
use Rattle.st_format.specs.Raster.{Raster}
use Rattle.path_receiver.specs.Frames.{IsReceiver, State, frame_at}
use Rattle.path_receiver.specs.Opening.{AreDifferent}
use Rattle.media_file.specs.StateFile.{Held, Kept, format_text, held_of, held_text, opening_text}
use Rattle.media_file.specs.StateFile.{ssrc_text, state_text}
use Rattle.media_file.specs.declared.front.Version.TheVariants.{One}
use Rattle.media_file.specs.Fronts.{kind_text, receiver_name}
use Rattle.media_file.proofs.Written.{prefix_first, prefix_then}
use Rattle.receiver_file.specs.Saved.{kept_frame_text, kept_frames_text, kept_front_text}
use Rattle.receiver_file.specs.Saved.{kept_frames, kept_of}

pub member_of : (w : List ℕ) (i : ℕ) → i < length w → IsMember (get_or w i 0) w
member_of [] i lt = absurd (omega (arith, lt))
member_of (x ∷ w) zero lt = inl refl
member_of (x ∷ w) (suc i) lt = inr (member_of w i (omega (arith, lt)))

abbrev chosen : Raster → List ℕ → List Raster → ℕ → Bool → Option Raster
chosen r w rs ts b = cond b (Some r) (frame_at w rs ts)

kept_length : (f : Fields) (w : List ℕ) (rs : List Raster) → length rs ≡ length w
    → length (kept_frames f w rs) ≡ length w
kept_length f [] rs e = refl
kept_length f (t ∷ w) [] e = absurd (omega (arith, e))
kept_length f (t ∷ w) (r ∷ rs) e = ap suc (kept_length f w rs (omega (arith, e)))

-- what is kept at a place: its timestamp, and the frame of that
kept_at : (f : Fields) (w : List ℕ) (rs : List Raster) (i t : ℕ) (r : Raster) (d : Held)
    → AreDifferent w → length rs ≡ length w → i < length w → t ≡ get_or w i 0
    → frame_at w rs t ≡ Some r → get_or (kept_frames f w rs) i d ≡ held_of f t r.cells
kept_at f [] rs i t r d diff e lt at is = absurd (omega (arith, lt))
kept_at f (u ∷ w) [] i t r d diff e lt at is = absurd (omega (arith, e))
kept_at f (u ∷ w) (q ∷ rs) zero t r d diff e lt at is =
    let first : Some q ≡ Some r = sym (ap (chosen q w rs t) (eq-eqb t u at)) ∙ is in
    let same : q ≡ r = cc in
    ap (λ (k : ℕ). held_of f k q.cells) (sym at) ∙ ap (λ (x : Raster). held_of f t x.cells) same
kept_at f (u ∷ w) (q ∷ rs) (suc i) t r d diff e lt at is =
    let inside : IsMember t w =
    subst (λ (k : ℕ). IsMember k w) (sym at) (member_of w i (omega (arith, lt))) in
    let other : eqb t u ≡ false =
    ne_eqb t u (λ (same : t ≡ u). diff.0 (subst (λ (k : ℕ). IsMember k w) same inside)) in
    kept_at f w rs i t r d diff.1 (omega (arith, e)) (omega (arith, lt)) at
    (sym (ap (chosen q w rs t) other) ∙ is)

format_of_frame : (o : Format) (w : List ℕ) (rs : List Raster) (t : ℕ) (r : Raster)
    → All (λ (q : Raster). q.format ≡ o) rs → frame_at w rs t ≡ Some r → r.format ≡ o
format_of_frame o [] rs t r all is = absurd cc
format_of_frame o (u ∷ w) [] t r all is = absurd cc
format_of_frame o (u ∷ w) (q ∷ rs) t r all is =
    elim (cases_Bool (eqb t u)) [
      | inl same_time ↦
          let first : Some q ≡ Some r = sym (ap (chosen q w rs t) same_time) ∙ is in
          let same : q ≡ r = cc in
          ap (λ (x : Raster). x.format) (sym same) ∙ all 0 q (omega arith)
      | inr other_time ↦ format_of_frame o w rs t r (λ k d lt. all (suc k) d (omega (arith, lt)))
          (sym (ap (chosen q w rs t) other_time) ∙ is)
    ]

abbrev texts : Fields → List Held → List ℕ
texts f hs = flat_map (held_text f) hs

abbrev held_in : State → List Held
held_in s = kept_frames (fields_of s.opening.format) s.opening.window s.frames

-- the frames before a place
abbrev pub texts_before : State → ℕ → List ℕ
texts_before s i = texts (fields_of s.opening.format) (take i (held_in s))

pub kept_next : (s : State) (i t : ℕ) (r : Raster) → IsReceiver s → i < length s.opening.window
    → t ≡ get_or s.opening.window i 0 → frame_at s.opening.window s.frames t ≡ Some r
    → texts_before s (i + 1) ≡ texts_before s i ++ kept_frame_text t r
kept_next s i t r is lt at found =
    let f : Fields = fields_of s.opening.format in
    let hs : List Held = held_in s in
    let d : Held = held_of f t r.cells in
    let below : i < length hs =
    omega (arith, kept_length f s.opening.window s.frames is.one_each) in
    let here : get_or hs i d ≡ d =
    kept_at f s.opening.window s.frames i t r d is.window.different is.one_each lt at found in
    let format : r.format ≡ s.opening.format =
    format_of_frame s.opening.format s.opening.window s.frames t r is.of_format found in
    ap (texts f) (take_more hs i d below ∙ ap (λ (x : Held). take i hs ++ x ∷ []) here)
    ∙ flat_map-append (held_text f) (take i hs) (d ∷ [])
    ∙ ap (λ (x : List ℕ). texts f (take i hs) ++ x)
    (append-nil (held_text f d)
    ∙ ap (λ (o : Format). held_text (fields_of o) (held_of (fields_of o) t r.cells))
    (sym format))

pub kept_all : (s : State) (i : ℕ)
    → kept_frames_text (kept_of s)
    ≡ texts_before s i ++ texts (fields_of s.opening.format) (drop i (held_in s))
kept_all s i =
    let f : Fields = fields_of s.opening.format in
    ap (texts f) (sym (take-append-drop i (held_in s)))
    ∙ flat_map-append (held_text f) (take i (held_in s)) (drop i (held_in s))

pub frames_none : (s : State) (known : Option (List ℕ)) → Appends known known (texts_before s 0)
frames_none s None = tt
frames_none s (Some o) = sym (append-nil o)

pub frames_more : (s : State) (i t : ℕ) (r : Raster) (old mid new : Option (List ℕ)) → IsReceiver s
    → i < length s.opening.window → t ≡ get_or s.opening.window i 0
    → frame_at s.opening.window s.frames t ≡ Some r
    → Appends old mid (texts_before s i) → Appends mid new (kept_frame_text t r)
    → Appends old new (texts_before s (i + 1))
frames_more s i t r old mid new is lt at found p q =
    subst (Appends old new) (sym (kept_next s i t r is lt at found))
    (Appends-trans old mid new (texts_before s i) (kept_frame_text t r) p q)

pub frames_stop : (s : State) (i t : ℕ) (r : Raster) (old mid new : Option (List ℕ)) → IsReceiver s
    → i < length s.opening.window → t ≡ get_or s.opening.window i 0
    → frame_at s.opening.window s.frames t ≡ Some r
    → Appends old mid (texts_before s i) → AppendsPrefix mid new (kept_frame_text t r)
    → AppendsPrefix old new (kept_frames_text (kept_of s))
frames_stop s i t r old mid new is lt at found p q =
    let rest : List ℕ = texts (fields_of s.opening.format) (drop (i + 1) (held_in s)) in
    subst (AppendsPrefix old new)
    (sym (kept_all s (i + 1)
    ∙ ap (λ (x : List ℕ). x ++ rest) (kept_next s i t r is lt at found)))
    (prefix_first old new (texts_before s i ++ kept_frame_text t r) rest
    (prefix_then old mid new (texts_before s i) (kept_frame_text t r) p q))

pub frames_all : (s : State) (i : ℕ) (old new : Option (List ℕ)) → IsReceiver s
    → length s.opening.window ≤ i → Appends old new (texts_before s i)
    → Appends old new (kept_frames_text (kept_of s))
frames_all s i old new is le p =
    let f : Fields = fields_of s.opening.format in
    let none : drop i (held_in s) ≡ [] =
    drop_all i (held_in s)
    (omega (arith, kept_length f s.opening.window s.frames is.one_each)) in
    subst (Appends old new)
    (sym (kept_all s i ∙ ap (λ (hs : List Held). texts_before s i ++ texts f hs) none
    ∙ append-nil (texts_before s i))) p

-- ---- the whole file

pub file_whole : (a b c d : List ℕ) → (a ++ (b ++ c)) ++ d ≡ a ++ (b ++ (c ++ d))
file_whole a b c d = append_assoc a (b ++ c) d ∙ ap (λ (t : List ℕ). a ++ t) (append_assoc b c d)

-- a file is its two parts
pub state_parts : (k : Kept) → kept_front_text k ++ kept_frames_text k ≡ state_text k
state_parts k =
    file_whole (kind_text receiver_name One) (format_text k.format) (opening_text k)
    (kept_frames_text k)

-- the fields behind a format block
pub opening_same : (s : State) (p : ℕ) (x : Option ℕ) (n : ℕ) → IsReceiver s
    → p ≡ s.opening.payload_type → x ≡ s.opening.ssrc → n ≡ length s.opening.window
    → p ∷ (ssrc_text x ++ n ∷ []) ≡ opening_text (kept_of s)
opening_same s p x n is e f h =
    let count : n ≡ length (held_in s) =
    h ∙ sym (kept_length (fields_of s.opening.format) s.opening.window s.frames is.one_each) in
    ap (λ (k : ℕ). k ∷ (ssrc_text x ++ n ∷ [])) e
    ∙ ap (λ (y : Option ℕ). s.opening.payload_type ∷ (ssrc_text y ++ n ∷ [])) f
    ∙ ap (λ (k : ℕ). s.opening.payload_type ∷ (ssrc_text s.opening.ssrc ++ k ∷ [])) count
