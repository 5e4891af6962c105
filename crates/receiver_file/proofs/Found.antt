-- What is read as a receiver's file is its text.
use Rattle.std.proofs.Common.{◌≡◌, ℕ, zero, suc, Bool, true, false, cond, ◌||◌, eqb, ltb, List, []}
use Rattle.std.proofs.Common.{◌∷◌, ◌++◌, length, get_or, Option, None, Some, Result, Ok, Err}
use Rattle.std.proofs.Common.{append_assoc, append-nil, refl, sym, ap, ◌∙◌, subst, inl, inr, arith}
use Rattle.std.specs.Prelude.{IfOk}
use Rattle.std.specs.Int.{w32, from_be_bytes, to_be_bytes}
use Rattle.std.specs.List.{flat_map, list_any}
use Rattle.std.proofs.lemmas.Bool.{eqb-true}
use Rattle.std.proofs.lemmas.Nat.{be_bytes_4}
use Rattle.st_format.specs.declared.cell.Cell.{Cell}
use Rattle.st_format.specs.Device.{AreOctets, TellsOctets}
use Rattle.st_format.specs.Fields.{Fields}
use Rattle.path_receiver.specs.Frames.{State}
use Rattle.media_file.specs.declared.fault.FileFault.{FileFault}
use Rattle.media_file.specs.declared.fault.FileFault.TheVariants.{BadField, BadVersion}
use Rattle.media_file.specs.declared.fault.FileFault.TheVariants.{TrailingBytes}
use Rattle.media_file.specs.declared.front.Version.{Version}
use Rattle.media_file.specs.declared.front.Version.TheVariants.{One, Two}
use Rattle.media_file.specs.Blocks.{block_at}
use Rattle.media_file.specs.Fields.{field_at, nothing_at}
use Rattle.st_format.specs.Given.{Leaves, Takes, with_rest}
use Rattle.st_format.specs.Reading.{◌>>=◌}
use Rattle.media_file.specs.Fronts.{kind_at, kind_text, receiver_name}
use Rattle.media_file.specs.Groups.{Shape, groups_at, groups_text, shape_of}
use Rattle.media_file.specs.StateFile.{Held, Kept, format_text, raster_groups, held_text}
use Rattle.media_file.specs.StateFile.{opening_text, ssrc_text, state_text}
use Rattle.media_file.proofs.Entries.{chosen}
use Rattle.media_file.proofs.Found.{failed, given, kind_takes, split_then}
use Rattle.media_file.proofs.Once.{shape_is}
use Rattle.media_file.proofs.Seen.{block_takes}
use Rattle.receiver_file.specs.declared.front.Head.{Head}
use Rattle.receiver_file.specs.Front.{count_at, flag_at, flag_of, head_at, name_at, only_one}
use Rattle.receiver_file.specs.Front.{payload_type_at, ssrc_at, ssrc_of}
use Rattle.receiver_file.specs.Numbers.{number_at, octet_at}
use Rattle.receiver_file.specs.Saved.{IsReceiverFile, IsSaved, IsWritable, kept_of}
use Rattle.receiver_file.specs.StateFaults.{flag_octet, kept_head_text}
use Rattle.receiver_file.specs.StateReading.{all_held_at, held_at, state_walk, timestamp_at}
use Rattle.receiver_file.proofs.GroupsFound.{behind, cut_takes, groups_take}
use Rattle.receiver_file.proofs.Savable.{writable_saved}

-- ---- numbers

abbrev Number : Type 0
Number = Result (ℕ × List ℕ) FileFault

abbrev pub with_number : ℕ → List ℕ → Number
with_number n rest = Ok (n, rest)

one_octet : (o : List ℕ) → length o ≡ 1 → o ≡ get_or o 0 0 ∷ []
one_octet [] e = absurd (omega (arith, e))
one_octet (x ∷ []) e = refl
one_octet (x ∷ y ∷ o) e = absurd (omega (arith, e))

pub octet_takes : (octets : List ℕ) (x : ℕ × List ℕ) → AreOctets octets → octet_at octets ≡ Ok x
    → octets ≡ x.0 ∷ x.1
unfolding octet_at
octet_takes octets x bytes e =
    let a = split_then (field_at 1 octets) (λ y. with_number (get_or y.0 0 0) y.1) x e in
    let c = cut_takes 1 octets a.first bytes a.is in
    let same : (get_or a.first.0 0 0, a.first.1) ≡ x = ap (λ (r : Number). given r x) a.next in
    c.text ∙ ap (λ (t : List ℕ). t ++ a.first.1) (one_octet a.first.0 c.size)
    ∙ ap (λ (p : ℕ × List ℕ). p.0 ∷ p.1) same

pub number_takes : (octets : List ℕ) (x : ℕ × List ℕ) → AreOctets octets → number_at octets ≡ Ok x
    → octets ≡ to_be_bytes w32 x.0 ++ x.1
unfolding number_at
number_takes octets x bytes e =
    let a = split_then (field_at 4 octets) (λ y. with_number (from_be_bytes w32 y.0) y.1) x e in
    let c = cut_takes 4 octets a.first bytes a.is in
    let n : ℕ = from_be_bytes w32 a.first.0 in
    let same : (n, a.first.1) ≡ x = ap (λ (r : Number). given r x) a.next in
    c.text ∙ ap (λ (t : List ℕ). t ++ a.first.1) (sym (be_bytes_4 a.first.0 n c.size c.front refl))
    ∙ ap (λ (p : ℕ × List ℕ). to_be_bytes w32 p.0 ++ p.1) same

-- a number that passes a test is answered
passes : (bad : Bool) (n m : ℕ) → cond bad (failed ℕ BadField) (Ok n) ≡ Ok m → n ≡ m
passes true n m e = let wrong : failed ℕ BadField ≡ Ok m = e in absurd cc
passes false n m e = ap (λ (r : Result ℕ FileFault). given r m) e

-- a number that is read and passes a test
pub read_passes : (r : Number) (test : ℕ → Bool) (x : ℕ × List ℕ)
    → (r >>= λ y. with_rest (cond (test y.0) (failed ℕ BadField) (Ok y.0)) y.1) ≡ Ok x → r ≡ Ok x
read_passes r test x e =
    let a = split_then r (λ y. with_rest (cond (test y.0) (failed ℕ BadField) (Ok y.0)) y.1) x e in
    let b
    = split_then (cond (test a.first.0) (failed ℕ BadField) (Ok a.first.0))
    (λ n. with_number n a.first.1) x a.next in
    let number : a.first.0 ≡ b.first = passes (test a.first.0) a.first.0 b.first b.is in
    a.is ∙ ap (λ (n : ℕ). with_number n a.first.1) number ∙ b.next

-- ---- name and version, and the fields behind the format block

only_is : (octets rest : List ℕ) (v : Version) (u : Unit {0})
    → octets ≡ kind_text receiver_name v ++ rest → only_one v ≡ Ok u
    → octets ≡ kind_text receiver_name One ++ rest
only_is octets rest One u p e = p
only_is octets rest Two u p e = let bad : failed (Unit {0}) BadVersion ≡ Ok u = e in absurd cc

abbrev pub with_unit : Unit {0} → List ℕ → Result (Unit {0} × List ℕ) FileFault
with_unit u rest = Ok (u, rest)

pub name_takes : (octets : List ℕ) (x : Unit {0} × List ℕ) → name_at octets ≡ Ok x
    → octets ≡ kind_text receiver_name One ++ x.1
unfolding name_at
name_takes octets x e =
    let a = split_then (kind_at receiver_name octets) (λ y. with_rest (only_one y.0) y.1) x e in
    let b = split_then (only_one a.first.0) (λ u. with_unit u a.first.1) x a.next in
    let same : (b.first, a.first.1) ≡ x
    = ap (λ (r : Result (Unit {0} × List ℕ) FileFault). given r x) b.next in
    only_is octets a.first.1 a.first.0 b.first (kind_takes receiver_name octets a.first a.is) b.is
    ∙ ap (λ (p : Unit {0} × List ℕ). kind_text receiver_name One ++ p.1) same

pub type_takes : (octets : List ℕ) (x : ℕ × List ℕ) → AreOctets octets
    → payload_type_at octets ≡ Ok x
    → octets ≡ x.0 ∷ x.1
unfolding payload_type_at
type_takes octets x bytes e =
    octet_takes octets x bytes (read_passes (octet_at octets) (λ n. ltb 127 n) x e)

pub count_takes : (octets : List ℕ) (x : ℕ × List ℕ) → AreOctets octets → count_at octets ≡ Ok x
    → octets ≡ x.0 ∷ x.1
unfolding count_at
count_takes octets x bytes e =
    octet_takes octets x bytes (read_passes (octet_at octets) (λ n. eqb n 0 || ltb 16 n) x e)

abbrev ok_flag : Bool → Result Bool FileFault
ok_flag b = Ok b

abbrev pub with_flag : Bool → List ℕ → Result (Bool × List ℕ) FileFault
with_flag b rest = Ok (b, rest)

flag_is : (n : ℕ) (b : Bool) → flag_of n ≡ Ok b → n ≡ flag_octet b
flag_is n b e =
    let other : Result Bool FileFault = cond (eqb n 1) (ok_flag true) (failed Bool BadField) in
    elim (chosen (eqb n 0) (ok_flag false) other (Ok b) e) [
      | inl w ↦ eqb-true n 0 w.0 ∙ ap flag_octet (ap (λ (r : Result Bool FileFault). given r b) w.1)
      | inr w ↦ elim (chosen (eqb n 1) (ok_flag true) (failed Bool BadField) (Ok b) w.1) [
        | inl u ↦
            eqb-true n 1 u.0 ∙ ap flag_octet (ap (λ (r : Result Bool FileFault). given r b) u.1)
        | inr u ↦ let bad : failed Bool BadField ≡ Ok b = u.1 in absurd cc
      ]
    ]

pub flag_takes : (octets : List ℕ) (x : Bool × List ℕ) → AreOctets octets → flag_at octets ≡ Ok x
    → octets ≡ flag_octet x.0 ∷ x.1
unfolding flag_at
flag_takes octets x bytes e =
    let a = split_then (octet_at octets) (λ y. with_rest (flag_of y.0) y.1) x e in
    let b = split_then (flag_of a.first.0) (λ v. with_flag v a.first.1) x a.next in
    let same : (b.first, a.first.1) ≡ x
    = ap (λ (r : Result (Bool × List ℕ) FileFault). given r x) b.next in
    octet_takes octets a.first bytes a.is
    ∙ ap (λ (n : ℕ). n ∷ a.first.1) (flag_is a.first.0 b.first b.is)
    ∙ ap (λ (p : Bool × List ℕ). flag_octet p.0 ∷ p.1) same

abbrev Source : Type 0
Source = Result (Option ℕ) FileFault

abbrev no_source : Source
no_source = Ok None

abbrev pub with_source : Option ℕ → List ℕ → Result (Option ℕ × List ℕ) FileFault
with_source s rest = Ok (s, rest)

ssrc_is : (pinned : Bool) (n : ℕ) (s : Option ℕ) → ssrc_of pinned n ≡ Ok s
    → flag_octet pinned ∷ to_be_bytes w32 n ≡ ssrc_text s
ssrc_is true n s e = ap (λ (r : Source). ssrc_text (given r s)) e
ssrc_is false n s e =
    elim (chosen (eqb n 0) no_source (failed (Option ℕ) BadField) (Ok s) e) [
      | inl w ↦
          ap (λ (k : ℕ). 0 ∷ to_be_bytes w32 k) (eqb-true n 0 w.0)
          ∙ ap (λ (r : Source). ssrc_text (given r s)) w.1
      | inr w ↦ let bad : failed (Option ℕ) BadField ≡ Ok s = w.1 in absurd cc
    ]

pub ssrc_takes : (octets : List ℕ) (x : Option ℕ × List ℕ) → AreOctets octets
    → ssrc_at octets ≡ Ok x
    → octets ≡ ssrc_text x.0 ++ x.1
unfolding ssrc_at
ssrc_takes octets x bytes e =
    let a
    = split_then (flag_at octets)
    (λ y. number_at y.1 >>= λ n. with_rest (ssrc_of y.0 n.0) n.1) x e in
    let b
    = split_then (number_at a.first.1) (λ n. with_rest (ssrc_of a.first.0 n.0) n.1) x a.next in
    let c = split_then (ssrc_of a.first.0 b.first.0) (λ s. with_source s b.first.1) x b.next in
    let same : (c.first, b.first.1) ≡ x
    = ap (λ (r : Result (Option ℕ × List ℕ) FileFault). given r x) c.next in
    let flag : octets ≡ flag_octet a.first.0 ∷ a.first.1 = flag_takes octets a.first bytes a.is in
    let second : AreOctets a.first.1
    = behind (flag_octet a.first.0 ∷ []) octets a.first.1 bytes flag in
    flag
    ∙ ap (λ (t : List ℕ). flag_octet a.first.0 ∷ t) (number_takes a.first.1 b.first second b.is)
    ∙ ap (λ (t : List ℕ). t ++ b.first.1) (ssrc_is a.first.0 b.first.0 c.first c.is)
    ∙ ap (λ (p : Option ℕ × List ℕ). ssrc_text p.0 ++ p.1) same

abbrev pub with_head : ℕ → Option ℕ → ℕ → List ℕ → Result (Head × List ℕ) FileFault
with_head p s n rest = Ok (record { payload_type = p; ssrc = s; count = n }, rest)

pub head_takes : (octets : List ℕ) (x : Head × List ℕ) → AreOctets octets → head_at octets ≡ Ok x
    → octets ≡ kept_head_text x.0 ++ x.1
unfolding head_at
head_takes octets x bytes e =
    let a
    = split_then (payload_type_at octets)
    (λ p. ssrc_at p.1 >>= λ s. count_at s.1 >>= λ n. with_head p.0 s.0 n.0 n.1) x e in
    let b
    = split_then (ssrc_at a.first.1)
    (λ s. count_at s.1 >>= λ n. with_head a.first.0 s.0 n.0 n.1) x a.next in
    let c = split_then (count_at b.first.1) (λ n. with_head a.first.0 b.first.0 n.0 n.1) x b.next in
    let same :
    (record { payload_type = a.first.0; ssrc = b.first.0; count = c.first.0 }, c.first.1) ≡ x
    = ap (λ (r : Result (Head × List ℕ) FileFault). given r x) c.next in
    let type : octets ≡ a.first.0 ∷ a.first.1 = type_takes octets a.first bytes a.is in
    let second : AreOctets a.first.1 = behind (a.first.0 ∷ []) octets a.first.1 bytes type in
    let ssrc : a.first.1 ≡ ssrc_text b.first.0 ++ b.first.1
    = ssrc_takes a.first.1 b.first second b.is in
    let count : b.first.1 ≡ c.first.0 ∷ c.first.1
    = count_takes b.first.1 c.first
    (behind (ssrc_text b.first.0) a.first.1 b.first.1 second ssrc) c.is in
    let both : a.first.1 ≡ (ssrc_text b.first.0 ++ c.first.0 ∷ []) ++ c.first.1
    = ssrc ∙ ap (λ (t : List ℕ). ssrc_text b.first.0 ++ t) count
    ∙ sym (append_assoc (ssrc_text b.first.0) (c.first.0 ∷ []) c.first.1) in
    type
    ∙ ap (λ (t : List ℕ). a.first.0 ∷ t) both
    ∙ ap (λ (p : Head × List ℕ). kept_head_text p.0 ++ p.1) same

-- ---- the frames

pub stamp_takes : (before octets : List ℕ) (x : ℕ × List ℕ) → AreOctets octets
    → timestamp_at before octets ≡ Ok x → octets ≡ to_be_bytes w32 x.0 ++ x.1
unfolding timestamp_at
stamp_takes before octets x bytes e =
    number_takes octets x bytes
    (read_passes (number_at octets) (λ t. list_any (λ u. eqb u t) before) x e)

abbrev Groups : Type 0
Groups = List (List Cell)

abbrev pub with_held : ℕ → Groups → List ℕ → Result (Held × List ℕ) FileFault
with_held t gs rest = Ok (record { timestamp = t; groups = gs }, rest)

pub held_takes : (f : Fields) (before octets : List ℕ) (x : Held × List ℕ) → AreOctets octets
    → held_at f before octets ≡ Ok x → octets ≡ held_text f x.0 ++ x.1
unfolding held_at
held_takes f before octets x bytes e =
    let s : Shape = shape_of f.sampling f.depth in
    let a
    = split_then (timestamp_at before octets)
    (λ t. groups_at s (raster_groups f) t.1 >>= λ g. with_held t.0 g.0 g.1) x e in
    let b
    = split_then (groups_at s (raster_groups f) a.first.1)
    (λ g. with_held a.first.0 g.0 g.1) x a.next in
    let same : (record { timestamp = a.first.0; groups = b.first.0 }, b.first.1) ≡ x
    = ap (λ (r : Result (Held × List ℕ) FileFault). given r x) b.next in
    let stamp : List ℕ = to_be_bytes w32 a.first.0 in
    let front : octets ≡ stamp ++ a.first.1 = stamp_takes before octets a.first bytes a.is in
    let groups : a.first.1 ≡ groups_text s b.first.0 ++ b.first.1
    = groups_take s (raster_groups f) a.first.1 b.first (shape_is f.sampling f.depth)
    (behind stamp octets a.first.1 bytes front) b.is in
    front ∙ ap (λ (t : List ℕ). stamp ++ t) groups
    ∙ sym (append_assoc stamp (groups_text s b.first.0) b.first.1)
    ∙ ap (λ (p : Held × List ℕ). held_text f p.0 ++ p.1) same

abbrev Frames : Type 0
Frames = Result (List Held × List ℕ) FileFault

abbrev pub with_frames : List Held → List ℕ → Frames
with_frames hs rest = Ok (hs, rest)

abbrev frames_text : Fields → List Held × List ℕ → List ℕ
frames_text f p = flat_map (held_text f) p.0 ++ p.1

-- the frames behind one
abbrev pub behind_one : Fields → ℕ → List ℕ → Held × List ℕ → Frames
behind_one f n before h =
    all_held_at f n (before ++ h.0.timestamp ∷ []) h.1 >>= λ y. with_frames (h.0 ∷ y.0) y.1

pub record TakesFrames (f : Fields) (n : ℕ) (octets : List ℕ)
    (x : List Held × List ℕ) : Type 0 where
  pub count : length x.0 ≡ n
  pub text : octets ≡ frames_text f x

pub all_take : (f : Fields) (n : ℕ) (before octets : List ℕ) (x : List Held × List ℕ)
    → AreOctets octets
    → all_held_at f n before octets ≡ Ok x → TakesFrames f n octets x
unfolding all_held_at
all_take f zero before octets x bytes e =
    let same : ([], octets) ≡ x = ap (λ (r : Frames). given r x) e in
    record {
      count = ap (λ (p : List Held × List ℕ). length p.0) (sym same);
      text = ap (frames_text f) same;
    }
all_take f (suc n) before octets x bytes e =
    let a = split_then (held_at f before octets) (λ h. behind_one f n before h) x e in
    let b
    = split_then (all_held_at f n (before ++ a.first.0.timestamp ∷ []) a.first.1)
    (λ y. with_frames (a.first.0 ∷ y.0) y.1) x a.next in
    let same : (a.first.0 ∷ b.first.0, b.first.1) ≡ x = ap (λ (r : Frames). given r x) b.next in
    let one : List ℕ = held_text f a.first.0 in
    let front : octets ≡ one ++ a.first.1 = held_takes f before octets a.first bytes a.is in
    let rest
    = all_take f n (before ++ a.first.0.timestamp ∷ []) a.first.1 b.first
    (behind one octets a.first.1 bytes front) b.is in
    record {
      count = ap (λ (p : List Held × List ℕ). length p.0) (sym same) ∙ ap suc rest.count;
      text = front ∙ ap (λ (t : List ℕ). one ++ t) rest.text
          ∙ sym (append_assoc one (flat_map (held_text f) b.first.0) b.first.1)
          ∙ ap (frames_text f) same;
    }

-- ---- the file

pub end_is : (octets : List ℕ) (x : Unit {0} × List ℕ) → nothing_at octets ≡ Ok x → octets ≡ []
end_is [] x e = refl
end_is (y ∷ octets) x e = let bad : failed (Unit {0} × List ℕ) TrailingBytes ≡ Ok x = e in absurd cc

abbrev pub kept_made : Fields → Head → List Held → Kept
kept_made f p hs = record { format = f; payload_type = p.payload_type; ssrc = p.ssrc; frames = hs }

abbrev pub with_kept : Kept → List ℕ → Result (Kept × List ℕ) FileFault
with_kept k rest = Ok (k, rest)

abbrev pub behind_frames : Fields → Head → List Held × List ℕ → Result (Kept × List ℕ) FileFault
behind_frames f p h = nothing_at h.1 >>= λ z. with_kept (kept_made f p h.0) z.1

abbrev pub behind_head : Fields → Head × List ℕ → Result (Kept × List ℕ) FileFault
behind_head f p = all_held_at f p.0.count [] p.1 >>= λ h. behind_frames f p.0 h

abbrev pub behind_block : Fields × List ℕ → Result (Kept × List ℕ) FileFault
behind_block f = head_at f.1 >>= λ p. behind_head f.0 p

pub state_takes : (octets : List ℕ) (x : Kept × List ℕ) → AreOctets octets
    → state_walk octets ≡ Ok x
    → octets ≡ state_text x.0
unfolding state_walk
state_takes octets x bytes e =
    let a = split_then (name_at octets) (λ y. block_at y.1 >>= λ f. behind_block f) x e in
    let b = split_then (block_at a.first.1) (λ f. behind_block f) x a.next in
    let c = split_then (head_at b.first.1) (λ p. behind_head b.first.0 p) x b.next in
    let d
    = split_then (all_held_at b.first.0 c.first.0.count [] c.first.1)
    (λ h. behind_frames b.first.0 c.first.0 h) x c.next in
    let z
    = split_then (nothing_at d.first.1)
    (λ u. with_kept (kept_made b.first.0 c.first.0 d.first.0) u.1) x d.next in
    let f : Fields = b.first.0 in
    let p : Head = c.first.0 in
    let hs : List Held = d.first.0 in
    let same : (kept_made f p hs, z.first.1) ≡ x
    = ap (λ (r : Result (Kept × List ℕ) FileFault). given r x) z.next in
    let kind : List ℕ = kind_text receiver_name One in
    let name : octets ≡ kind ++ a.first.1 = name_takes octets a.first a.is in
    let second : AreOctets a.first.1 = behind kind octets a.first.1 bytes name in
    let block : a.first.1 ≡ format_text f ++ b.first.1
    = block_takes a.first.1 b.first second b.is in
    let third : AreOctets b.first.1 = behind (format_text f) a.first.1 b.first.1 second block in
    let head : b.first.1 ≡ kept_head_text p ++ c.first.1 = head_takes b.first.1 c.first third c.is
    in
    let fourth : AreOctets c.first.1 = behind (kept_head_text p) b.first.1 c.first.1 third head in
    let frames = all_take f p.count [] c.first.1 d.first fourth d.is in
    let texts : List ℕ = flat_map (held_text f) hs in
    let all : c.first.1 ≡ texts
    = frames.text ∙ ap (λ (t : List ℕ). texts ++ t) (end_is d.first.1 z.first z.is)
    ∙ append-nil texts in
    let opening : kept_head_text p ≡ opening_text (kept_made f p hs)
    = ap (λ (n : ℕ). p.payload_type ∷ (ssrc_text p.ssrc ++ n ∷ [])) (sym frames.count) in
    let from_head : b.first.1 ≡ opening_text (kept_made f p hs) ++ texts
    = head ∙ ap (λ (t : List ℕ). t ++ c.first.1) opening
    ∙ ap (λ (t : List ℕ). opening_text (kept_made f p hs) ++ t) all in
    name
    ∙ ap (λ (t : List ℕ). kind ++ t) (block ∙ ap (λ (t : List ℕ). format_text f ++ t) from_head)
    ∙ ap (λ (y : Kept × List ℕ). state_text y.0) same

-- ---- what a reader of receivers' files owes

text_by : (k : Kept) (octets : List ℕ) (new : Option (List ℕ)) → AreOctets octets
    → Leaves (state_walk octets) k new → octets ≡ state_text k
text_by k octets None bytes p = absurd p
text_by k octets (Some rest) bytes p = state_takes octets (k, rest) bytes p

text_told : (k : Kept) (old new : Option (List ℕ)) → TellsOctets old → Takes state_walk old new k
    → (octets : List ℕ) → old ≡ Some octets → octets ≡ state_text k
text_told k old new bytes p octets told =
    text_by k octets new (subst TellsOctets told bytes)
    (subst (λ (o : Option (List ℕ)). Takes state_walk o new k) told p)

pub found_state : (old new : Option (List ℕ)) (r : Result State FileFault)
    → IfOk r (λ s. Takes state_walk old new (kept_of s)) → TellsOctets old
    → IfOk r IsWritable
    → IfOk r (λ s. (octets : List ℕ) → old ≡ Some octets
    → IsReceiverFile octets s × IsSaved (kept_of s))
found_state old new (Ok s) p bytes is = λ octets told. (
  record { writable = is; whole = text_told (kept_of s) old new bytes p octets told },
  writable_saved s is,
)
found_state old new (Err f) p bytes is = tt
