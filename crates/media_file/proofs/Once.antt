-- A receiver has one file.
use Rattle.std.proofs.Common.{◌*◌, zero, suc, ◌≡◌, ℕ, ◌^◌, ◌<◌, List, [], ◌∷◌, ◌++◌, length, take}
use Rattle.std.proofs.Common.{drop, Option, None, Some, Result, Ok, Err, append_assoc, refl, sym}
use Rattle.std.proofs.Common.{ap, ◌∙◌, subst, arith}
use Rattle.std.specs.Int.{w16, w32, from_be_bytes, to_be_bytes}
use Rattle.std.specs.List.{AllByRecursion, flat_map}
use Rattle.std.proofs.lemmas.List.{length-append, length-drop, take-append-drop, take_at, drop_at}
use Rattle.std.proofs.lemmas.Nat.{from_be_bytes-to_be_bytes_2, from_be_bytes-to_be_bytes_4}
use Rattle.st_format.specs.declared.cell.Cell.{Cell}
use Rattle.st_format.specs.declared.sampling.Sampling.{Sampling}
use Rattle.st_format.specs.declared.sampling.Sampling.TheVariants.{Ycc422, Ycc444, Rgb}
use Rattle.st_format.specs.declared.sampling.Depth.{Depth}
use Rattle.st_format.specs.declared.sampling.Depth.TheVariants.{D8, D10, D12, D16}
use Rattle.st_format.specs.Fields.{Fields}
use Rattle.st_format.specs.Pgroup.{bits_of}
use Rattle.media_file.specs.declared.fault.FileFault.{FileFault}
use Rattle.media_file.specs.declared.front.Version.TheVariants.{One}
use Rattle.media_file.specs.Fronts.{kind_text, receiver_name}
use Rattle.media_file.specs.Groups.{IsGroup, IsShape, Shape, groups_at, groups_text, shape_of}
use Rattle.media_file.specs.StateFile.{cut_cells, joined_groups, FitsBlock, Held, IsHeld}
use Rattle.media_file.specs.StateFile.{IsKeptReceiver}
use Rattle.media_file.specs.StateFile.{Kept, SsrcFits, format_text, held_text, opening_text}
use Rattle.media_file.specs.StateFile.{sampling_code, ssrc_text, state_text}
use Rattle.media_file.proofs.Grouped.{groups_again}

pub record Both (xs ys a b : List ℕ) : Type 0 where
  pub front : xs ≡ ys
  pub rest : a ≡ b

-- two lists that are cut at one place
pub cut_both : (n : ℕ) (xs ys a b : List ℕ) → length xs ≡ n → length ys ≡ n → xs ++ a ≡ ys ++ b
    → Both xs ys a b
cut_both n xs ys a b p q e = record {
  front = sym (take_at xs a n p) ∙ ap (take n) e ∙ take_at ys b n q;
  rest = sym (drop_at xs a n p) ∙ ap (drop n) e ∙ drop_at ys b n q;
}

pub once_16 : (m n : ℕ) → m < 2 ^ 16 → n < 2 ^ 16 → to_be_bytes w16 m ≡ to_be_bytes w16 n → m ≡ n
once_16 m n p q e =
    sym (from_be_bytes-to_be_bytes_2 m p) ∙ ap (from_be_bytes w16) e
    ∙ from_be_bytes-to_be_bytes_2 n q

pub once_32 : (m n : ℕ) → m < 2 ^ 32 → n < 2 ^ 32 → to_be_bytes w32 m ≡ to_be_bytes w32 n → m ≡ n
once_32 m n p q e =
    sym (from_be_bytes-to_be_bytes_4 m p) ∙ ap (from_be_bytes w32) e
    ∙ from_be_bytes-to_be_bytes_4 n q

-- the pgroups of each format
pub shape_is : (s : Sampling) (b : Depth) → IsShape (shape_of s b)
shape_is Ycc422 D8 =
    record { some = omega arith; few = omega arith; some_bits = omega arith; octets = refl }
shape_is Ycc422 D10 =
    record { some = omega arith; few = omega arith; some_bits = omega arith; octets = refl }
shape_is Ycc422 D12 =
    record { some = omega arith; few = omega arith; some_bits = omega arith; octets = refl }
shape_is Ycc422 D16 =
    record { some = omega arith; few = omega arith; some_bits = omega arith; octets = refl }
shape_is Ycc444 D8 =
    record { some = omega arith; few = omega arith; some_bits = omega arith; octets = refl }
shape_is Ycc444 D10 =
    record { some = omega arith; few = omega arith; some_bits = omega arith; octets = refl }
shape_is Ycc444 D12 =
    record { some = omega arith; few = omega arith; some_bits = omega arith; octets = refl }
shape_is Ycc444 D16 =
    record { some = omega arith; few = omega arith; some_bits = omega arith; octets = refl }
shape_is Rgb D8 =
    record { some = omega arith; few = omega arith; some_bits = omega arith; octets = refl }
shape_is Rgb D10 =
    record { some = omega arith; few = omega arith; some_bits = omega arith; octets = refl }
shape_is Rgb D12 =
    record { some = omega arith; few = omega arith; some_bits = omega arith; octets = refl }
shape_is Rgb D16 =
    record { some = omega arith; few = omega arith; some_bits = omega arith; octets = refl }

-- codes
code_once : (s t : Sampling) → sampling_code s ≡ sampling_code t → s ≡ t
code_once Ycc422 Ycc422 e = refl
code_once Ycc422 Ycc444 e = absurd (omega (arith, e))
code_once Ycc422 Rgb e = absurd (omega (arith, e))
code_once Ycc444 Ycc422 e = absurd (omega (arith, e))
code_once Ycc444 Ycc444 e = refl
code_once Ycc444 Rgb e = absurd (omega (arith, e))
code_once Rgb Ycc422 e = absurd (omega (arith, e))
code_once Rgb Ycc444 e = absurd (omega (arith, e))
code_once Rgb Rgb e = refl

bits_once : (b c : Depth) → bits_of b ≡ bits_of c → b ≡ c
bits_once D8 D8 e = refl
bits_once D8 D10 e = absurd (omega (arith, e))
bits_once D8 D12 e = absurd (omega (arith, e))
bits_once D8 D16 e = absurd (omega (arith, e))
bits_once D10 D8 e = absurd (omega (arith, e))
bits_once D10 D10 e = refl
bits_once D10 D12 e = absurd (omega (arith, e))
bits_once D10 D16 e = absurd (omega (arith, e))
bits_once D12 D8 e = absurd (omega (arith, e))
bits_once D12 D10 e = absurd (omega (arith, e))
bits_once D12 D12 e = refl
bits_once D12 D16 e = absurd (omega (arith, e))
bits_once D16 D8 e = absurd (omega (arith, e))
bits_once D16 D10 e = absurd (omega (arith, e))
bits_once D16 D12 e = absurd (omega (arith, e))
bits_once D16 D16 e = refl

-- the frames of one format
abbrev Frames : Type 0
Frames = Result (List (List Cell) × List ℕ) FileFault

abbrev groups_in : Frames → List (List Cell)
groups_in (Ok x) = x.0
groups_in (Err f) = []

abbrev rest_in : Frames → List ℕ
rest_in (Ok x) = x.1
rest_in (Err f) = []

abbrev read : List (List Cell) → List ℕ → Result (List (List Cell) × List ℕ) FileFault
read gs rest = Ok (gs, rest)

groups_once : (s : Shape) (gs qs : List (List Cell)) (a b : List ℕ) → IsShape s
    → AllByRecursion (IsGroup s) gs → AllByRecursion (IsGroup s) qs → length gs ≡ length qs
    → groups_text s gs ++ a ≡ groups_text s qs ++ b → read gs a ≡ read qs b
groups_once s gs qs a b is p q len e =
    sym (groups_again s gs a is p) ∙ ap (groups_at s (length gs)) e
    ∙ ap (λ (n : ℕ). groups_at s n (groups_text s qs ++ b)) len ∙ groups_again s qs b is q

frames_once : (f : Fields) (hs js : List Held) → AllByRecursion (IsHeld f) hs
    → AllByRecursion (IsHeld f) js → length hs ≡ length js
    → flat_map (held_text f) hs ≡ flat_map (held_text f) js → hs ≡ js
frames_once f [] [] p q len e = refl
frames_once f [] (j ∷ js) p q len e = absurd (omega (arith, len))
frames_once f (h ∷ hs) [] p q len e = absurd (omega (arith, len))
frames_once f (h ∷ hs) (j ∷ js) p q len e =
    let s : Shape = shape_of f.sampling f.depth in
    let a : List ℕ = flat_map (held_text f) hs in
    let b : List ℕ = flat_map (held_text f) js in
    let first =
    cut_both 4 (to_be_bytes w32 h.timestamp) (to_be_bytes w32 j.timestamp)
    (groups_text s h.groups ++ a) (groups_text s j.groups ++ b) refl refl
    (sym (append_assoc (to_be_bytes w32 h.timestamp) (groups_text s h.groups) a) ∙ e
    ∙ append_assoc (to_be_bytes w32 j.timestamp) (groups_text s j.groups) b) in
    let ts : h.timestamp ≡ j.timestamp =
    once_32 h.timestamp j.timestamp p.0.timestamp q.0.timestamp first.front in
    let both : read h.groups a ≡ read j.groups b =
    groups_once s h.groups j.groups a b (shape_is f.sampling f.depth) p.0.groups q.0.groups
    (p.0.count ∙ sym q.0.count) first.rest in
    let gs : h.groups ≡ j.groups = ap groups_in both in
    let rest : a ≡ b = ap rest_in both in
    let more : hs ≡ js = frames_once f hs js p.1 q.1 (omega (arith, len)) rest in
    ap (λ (t : ℕ). let x : Held = record { timestamp = t; groups = h.groups } in x ∷ hs) ts
    ∙ ap
    (λ (g : List (List Cell)). let x : Held =
    record { timestamp = j.timestamp; groups = g } in x ∷ hs) gs
    ∙ ap (λ (xs : List Held). j ∷ xs) more

abbrev head_in : List ℕ → ℕ
head_in [] = 0
head_in (x ∷ xs) = x

abbrev fields : Sampling → Depth → ℕ → ℕ → ℕ → ℕ → Fields
fields s b w h n d = record { sampling = s; depth = b; width = w; height = h; n = n; d = d }

-- a format block
format_once : (f g : Fields) → FitsBlock f → FitsBlock g → format_text f ≡ format_text g → f ≡ g
format_once f g p q e =
    let s : f.sampling ≡ g.sampling = code_once f.sampling g.sampling (ap head_in e) in
    let b : f.depth ≡ g.depth =
    bits_once f.depth g.depth (ap (λ (xs : List ℕ). head_in (drop 1 xs)) e) in
    let w : f.width ≡ g.width =
    once_16 f.width g.width p.width q.width (ap (λ (xs : List ℕ). take 2 (drop 2 xs)) e) in
    let h : f.height ≡ g.height =
    once_16 f.height g.height p.height q.height (ap (λ (xs : List ℕ). take 2 (drop 4 xs)) e) in
    let n : f.n ≡ g.n = once_32 f.n g.n p.n q.n (ap (λ (xs : List ℕ). take 4 (drop 6 xs)) e) in
    let d : f.d ≡ g.d = once_32 f.d g.d p.d q.d (ap (λ (xs : List ℕ). take 4 (drop 10 xs)) e) in
    ap (λ (x : Sampling). fields x f.depth f.width f.height f.n f.d) s
    ∙ ap (λ (x : Depth). fields g.sampling x f.width f.height f.n f.d) b
    ∙ ap (λ (x : ℕ). fields g.sampling g.depth x f.height f.n f.d) w
    ∙ ap (λ (x : ℕ). fields g.sampling g.depth g.width x f.n f.d) h
    ∙ ap (λ (x : ℕ). fields g.sampling g.depth g.width g.height x f.d) n
    ∙ ap (fields g.sampling g.depth g.width g.height g.n) d

abbrev pinned : ℕ → Option ℕ
pinned n = Some n

ssrc_once : (a b : Option ℕ) → SsrcFits a → SsrcFits b → ssrc_text a ≡ ssrc_text b → a ≡ b
ssrc_once None None p q e = refl
ssrc_once None (Some n) p q e = let h : 0 ≡ 1 = ap head_in e in absurd (omega (arith, h))
ssrc_once (Some m) None p q e = let h : 1 ≡ 0 = ap head_in e in absurd (omega (arith, h))
ssrc_once (Some m) (Some n) p q e = ap pinned (once_32 m n p q (ap (drop 1) e))

ssrc_length : (a : Option ℕ) → length (ssrc_text a) ≡ 5
ssrc_length None = refl
ssrc_length (Some n) = refl

opening_length : (k : Kept) → length (opening_text k) ≡ 7
opening_length k =
    omega (arith, length-append (ssrc_text k.ssrc) (length k.frames ∷ []), ssrc_length k.ssrc)

abbrev kept : Fields → ℕ → Option ℕ → List Held → Kept
kept f pt ssrc frames = record { format = f; payload_type = pt; ssrc = ssrc; frames = frames }

-- Equal files are of equal receivers.
pub state_once : (k l : Kept) → IsKeptReceiver k → IsKeptReceiver l
    → state_text k ≡ state_text l → k ≡ l
state_once k l p q e =
    let ka : List ℕ = flat_map (held_text k.format) k.frames in
    let la : List ℕ = flat_map (held_text l.format) l.frames in
    let a =
    cut_both 8 (kind_text receiver_name One) (kind_text receiver_name One)
    (format_text k.format ++ (opening_text k ++ ka))
    (format_text l.format ++ (opening_text l ++ la)) refl refl e in
    let b =
    cut_both 14 (format_text k.format) (format_text l.format) (opening_text k ++ ka)
    (opening_text l ++ la) refl refl a.rest in
    let c =
    cut_both 7 (opening_text k) (opening_text l) ka la (opening_length k)
    (opening_length l) b.rest in
    let f : k.format ≡ l.format = format_once k.format l.format p.room q.room b.front in
    let pt : k.payload_type ≡ l.payload_type = ap head_in c.front in
    let d =
    cut_both 5 (ssrc_text k.ssrc) (ssrc_text l.ssrc) (length k.frames ∷ [])
    (length l.frames ∷ []) (ssrc_length k.ssrc) (ssrc_length l.ssrc) (ap (drop 1) c.front) in
    let ssrc : k.ssrc ≡ l.ssrc = ssrc_once k.ssrc l.ssrc p.ssrc q.ssrc d.front in
    let count : length k.frames ≡ length l.frames = ap head_in d.rest in
    let same : la ≡ flat_map (held_text k.format) l.frames =
    ap (λ (x : Fields). flat_map (held_text x) l.frames) (sym f) in
    let lf : AllByRecursion (IsHeld k.format) l.frames =
    subst (λ (x : Fields). AllByRecursion (IsHeld x) l.frames) (sym f) q.frames in
    let frames : k.frames ≡ l.frames =
    frames_once k.format k.frames l.frames p.frames lf count (c.rest ∙ same) in
    ap (λ (x : Fields). kept x k.payload_type k.ssrc k.frames) f
    ∙ ap (λ (x : ℕ). kept l.format x k.ssrc k.frames) pt
    ∙ ap (λ (x : Option ℕ). kept l.format l.payload_type x k.frames) ssrc
    ∙ ap (kept l.format l.payload_type l.ssrc) frames

-- cells are those of their groups
pub cut_joined : (size n : ℕ) (cells : List Cell) → length cells ≡ n * size
    → joined_groups (cut_cells size n cells) ≡ cells
unfolding cut_cells
cut_joined size zero [] e = refl
cut_joined size zero (c ∷ cells) e = absurd (omega (arith, e))
cut_joined size (suc n) cells e =
    ap (λ (t : List Cell). take size cells ++ t)
    (cut_joined size n (drop size cells) (omega (arith, e, length-drop size cells)))
    ∙ take-append-drop size cells

-- so cells with equal groups are equal
pub cells_once : (size n : ℕ) (a b : List Cell) → length a ≡ n * size → length b ≡ n * size
    → cut_cells size n a ≡ cut_cells size n b → a ≡ b
cells_once size n a b p q e =
    sym (cut_joined size n a p) ∙ ap joined_groups e ∙ cut_joined size n b q
