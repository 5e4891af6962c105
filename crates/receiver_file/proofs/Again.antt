-- What is written of a receiver is read as it.
use Rattle.std.proofs.Common.{◌≡◌, ℕ, suc, ◌^◌, ◌<◌, ◌≤◌, Bool, true, false, cond, eqb, ltb, ◌||◌}
use Rattle.std.proofs.Common.{List, [], ◌∷◌, ◌++◌, length, map, Option, None, Some, Result, Ok, Err}
use Rattle.std.proofs.Common.{append_assoc, append-nil, refl, sym, ap, ◌∙◌, subst, inl, inr, arith}
use Rattle.std.specs.Prelude.{IfErr, IfOk, MatchResult, ⊤}
use Rattle.std.specs.Int.{w32, from_be_bytes, to_be_bytes}
use Rattle.std.specs.List.{AllByRecursion, flat_map, list_any}
use Rattle.std.proofs.lemmas.Bool.{cases_Bool, le-ltb, ne_eqb}
use Rattle.std.proofs.lemmas.List.{length-map}
use Rattle.std.proofs.lemmas.Nat.{from_be_bytes-to_be_bytes_4}
use Rattle.st_format.specs.declared.cell.Cell.{Cell}
use Rattle.st_format.specs.Fields.{Fields}
use Rattle.st_format.specs.Member.{IsMember}
use Rattle.path_receiver.specs.Frames.{State}
use Rattle.path_receiver.specs.Opening.{AreDifferent}
use Rattle.path_receiver.proofs.Answered.{member_from_any}
use Rattle.media_file.specs.declared.fault.FileFault.{FileFault}
use Rattle.media_file.specs.declared.fault.FileFault.TheVariants.{NoMemory, Device, BadName}
use Rattle.media_file.specs.declared.fault.FileFault.TheVariants.{BadVersion, Truncated, BadField}
use Rattle.media_file.specs.declared.fault.FileFault.TheVariants.{TrailingBytes, MixedGroup}
use Rattle.media_file.specs.declared.fault.FileFault.TheVariants.{TooManyRecords}
use Rattle.media_file.specs.declared.front.Version.TheVariants.{One}
use Rattle.media_file.specs.Blocks.{block_at}
use Rattle.media_file.specs.Faults.{IfContent, IsMachine}
use Rattle.media_file.specs.Fields.{Fails, nothing_at}
use Rattle.st_format.specs.Given.{Leaves, Takes, with_rest}
use Rattle.st_format.specs.Reading.{◌>>=◌}
use Rattle.media_file.specs.Fronts.{kind_at, kind_of, kind_text, receiver_name}
use Rattle.media_file.specs.Groups.{Shape, groups_at, groups_text, shape_of}
use Rattle.media_file.specs.PictureFaults.{IsFormat}
use Rattle.media_file.specs.StateFile.{Held, IsHeld, Kept, SsrcFits, format_text, raster_groups}
use Rattle.media_file.specs.StateFile.{held_text, opening_text, ssrc_text, state_text}
use Rattle.media_file.proofs.Grouped.{groups_again}
use Rattle.media_file.proofs.Once.{shape_is}
use Rattle.media_file.proofs.PictureFaults.{block_tells}
use Rattle.media_file.proofs.Splits.{field_again}
use Rattle.receiver_file.specs.declared.front.Head.{Head}
use Rattle.receiver_file.specs.Front.{count_at, window_count, flag_at, flag_of, head_at, name_at}
use Rattle.receiver_file.specs.Front.{only_one, payload_type_at, payload_type_of, ssrc_at, ssrc_of}
use Rattle.receiver_file.specs.Numbers.{number_at}
use Rattle.receiver_file.specs.Saved.{IsSaved, kept_of, timestamp_in}
use Rattle.receiver_file.specs.StateFaults.{IsStateHead, block_front, frames_front, kept_head_text}
use Rattle.receiver_file.specs.StateReading.{all_held_at, held_at, new_of, state_walk}
use Rattle.receiver_file.specs.StateReading.{timestamp_at}
use Rattle.receiver_file.proofs.Found.{behind_block, behind_frames, behind_head, with_head}
use Rattle.receiver_file.proofs.Found.{with_kept}
use Rattle.receiver_file.proofs.KnownReads.{octet_is}

abbrev Field : Type 0
Field = Result (List ℕ × List ℕ) FileFault

abbrev Number : Type 0
Number = Result (ℕ × List ℕ) FileFault

abbrev read_number : ℕ → List ℕ → Number
read_number n rest = Ok (n, rest)

-- name and version
name_again : (rest : List ℕ) → name_at (kind_text receiver_name One ++ rest) ≡ Ok (tt, rest)
unfolding name_at kind_at
name_again rest =
    ap (λ (r : Field). (r >>= λ x. with_rest (kind_of receiver_name x.0) x.1) >>=
    λ x. with_rest (only_one x.0) x.1) (field_again 8 (kind_text receiver_name One) rest refl)

-- the fields behind it
pub number_again : (n : ℕ) (rest : List ℕ) → n < 2 ^ 32
    → number_at (to_be_bytes w32 n ++ rest) ≡ Ok (n, rest)
unfolding number_at
number_again n rest lt =
    ap (λ (r : Field). r >>= λ x. read_number (from_be_bytes w32 x.0) x.1)
    (field_again 4 (to_be_bytes w32 n) rest refl)
    ∙ ap (λ (m : ℕ). read_number m rest) (from_be_bytes-to_be_bytes_4 n lt)

pub type_again : (n : ℕ) (rest : List ℕ) → n < 128
    → payload_type_at (n ∷ rest) ≡ Ok (n, rest)
unfolding payload_type_at
type_again n rest lt =
    ap (λ (r : Number). r >>= λ x. with_rest (payload_type_of x.0) x.1) (octet_is n rest)
    ∙ ap
    (λ (b : Bool). let r : Result ℕ FileFault =
    cond b (Err BadField) (Ok n) in with_rest r rest) (le-ltb 127 n (omega arith))

pub flag_off : (rest : List ℕ) → flag_at (0 ∷ rest) ≡ Ok (false, rest)
unfolding flag_at
flag_off rest = ap (λ (r : Number). r >>= λ x. with_rest (flag_of x.0) x.1) (octet_is 0 rest)

pub flag_on : (rest : List ℕ) → flag_at (1 ∷ rest) ≡ Ok (true, rest)
unfolding flag_at
flag_on rest = ap (λ (r : Number). r >>= λ x. with_rest (flag_of x.0) x.1) (octet_is 1 rest)

pub ssrc_again : (s : Option ℕ) (rest : List ℕ) → SsrcFits s
    → ssrc_at (ssrc_text s ++ rest) ≡ Ok (s, rest)
unfolding ssrc_at
ssrc_again None rest fits =
    ap (λ (r : Result (Bool × List ℕ) FileFault). r >>= λ x. number_at x.1 >>=
    λ n. with_rest (ssrc_of x.0 n.0) n.1) (flag_off (to_be_bytes w32 0 ++ rest))
    ∙ ap (λ (r : Number). r >>= λ n. with_rest (ssrc_of false n.0) n.1)
    (number_again 0 rest (omega arith))
ssrc_again (Some n) rest fits =
    ap (λ (r : Result (Bool × List ℕ) FileFault). r >>= λ x. number_at x.1 >>=
    λ n. with_rest (ssrc_of x.0 n.0) n.1) (flag_on (to_be_bytes w32 n ++ rest))
    ∙ ap (λ (r : Number). r >>= λ n. with_rest (ssrc_of true n.0) n.1) (number_again n rest fits)

count_again : (n : ℕ) (rest : List ℕ) → 0 < n → n ≤ 16 → count_at (n ∷ rest) ≡ Ok (n, rest)
unfolding count_at
count_again n rest some few =
    ap (λ (r : Number). r >>= λ x. with_rest (window_count x.0) x.1) (octet_is n rest)
    ∙ ap
    (λ (b : Bool). let r : Result ℕ FileFault =
    cond (b || ltb 16 n) (Err BadField) (Ok n) in with_rest r rest)
    (ne_eqb n 0 (λ (e : n ≡ 0). omega arith))
    ∙ ap
    (λ (b : Bool). let r : Result ℕ FileFault =
    cond b (Err BadField) (Ok n) in with_rest r rest) (le-ltb 16 n few)

pub head_again : (h : Head) (rest : List ℕ) → IsStateHead h
    → head_at (kept_head_text h ++ rest) ≡ with_head h.payload_type h.ssrc h.count rest
unfolding head_at
head_again h rest is =
    ap (λ (t : List ℕ). head_at (h.payload_type ∷ t))
    (append_assoc (ssrc_text h.ssrc) (h.count ∷ []) rest)
    ∙ ap (λ (r : Number). r >>= λ p. ssrc_at p.1 >>= λ s. count_at s.1 >>= λ n.
    with_head p.0 s.0 n.0 n.1)
    (type_again h.payload_type (ssrc_text h.ssrc ++ h.count ∷ rest) is.payload_type)
    ∙ ap (λ (r : Result (Option ℕ × List ℕ) FileFault). r >>= λ s. count_at s.1 >>= λ n.
    with_head h.payload_type s.0 n.0 n.1)
    (ssrc_again h.ssrc (h.count ∷ rest) is.ssrc)
    ∙ ap (λ (r : Number). r >>= λ n. with_head h.payload_type h.ssrc n.0 n.1)
    (count_again h.count rest is.count.some is.count.most)

-- ---- the frames

-- timestamps that none of those before is
abbrev pub AreNew : List ℕ → List Held → Type 0
AreNew before [] = ⊤
AreNew before (h ∷ hs) = (IsMember h.timestamp before → ⊥) × AreNew (before ++ h.timestamp ∷ []) hs

member_mid : (x t : ℕ) (before w : List ℕ) → x ≡ t → IsMember x (before ++ t ∷ w)
member_mid x t [] w e = inl e
member_mid x t (y ∷ before) w e = inr (member_mid x t before w e)

different_out : (before w : List ℕ) (t : ℕ) → AreDifferent (before ++ t ∷ w) → IsMember t before → ⊥
different_out [] w t d m = m
different_out (x ∷ before) w t d (inl e) = d.0 (member_mid x t before w (sym e))
different_out (x ∷ before) w t d (inr m) = different_out before w t d.1 m

pub new_all : (before : List ℕ) (hs : List Held) → AreDifferent (before ++ map timestamp_in hs)
    → AreNew before hs
new_all before [] d = tt
new_all before (h ∷ hs) d = (
  different_out before (map timestamp_in hs) h.timestamp d,
  new_all (before ++ h.timestamp ∷ []) hs
      (subst AreDifferent (sym (append_assoc before (h.timestamp ∷ []) (map timestamp_in hs))) d),
)

pub stamp_again : (before : List ℕ) (t : ℕ) (rest : List ℕ) → t < 2 ^ 32
    → (IsMember t before → ⊥) → timestamp_at before (to_be_bytes w32 t ++ rest) ≡ Ok (t, rest)
unfolding timestamp_at
stamp_again before t rest lt out =
    let none : list_any (λ u. eqb u t) before ≡ false =
    elim (cases_Bool (list_any (λ u. eqb u t) before)) [
      | inl there ↦ absurd
          (out (member_from_any t before there))
      | inr not_there ↦ not_there
    ] in
    ap (λ (r : Number). r >>= λ x. with_rest (new_of before x.0) x.1) (number_again t rest lt)
    ∙ ap
    (λ (b : Bool). let r : Result ℕ FileFault =
    cond b (Err BadField) (Ok t) in with_rest r rest) none

abbrev pub One_frame : Type 0
One_frame = Result (Held × List ℕ) FileFault

abbrev held_made : ℕ → List (List Cell) → List ℕ → One_frame
held_made t gs rest = Ok (record { timestamp = t; groups = gs }, rest)

pub held_again : (f : Fields) (before : List ℕ) (h : Held) (rest : List ℕ) → IsHeld f h
    → (IsMember h.timestamp before → ⊥) → held_at f before (held_text f h ++ rest) ≡ Ok (h, rest)
unfolding held_at
held_again f before h rest is out =
    let s : Shape = shape_of f.sampling f.depth in
    ap (held_at f before) (append_assoc (to_be_bytes w32 h.timestamp) (groups_text s h.groups) rest)
    ∙ ap
    (λ (r : Number). r >>= λ t. groups_at s (raster_groups f) t.1 >>= λ g. held_made t.0 g.0 g.1)
    (stamp_again before h.timestamp (groups_text s h.groups ++ rest) is.timestamp out)
    ∙ ap
    (λ (r : Result (List (List Cell) × List ℕ) FileFault). r >>=
    λ g. held_made h.timestamp g.0 g.1)
    (ap (λ (n : ℕ). groups_at s n (groups_text s h.groups ++ rest)) (sym is.count)
    ∙ groups_again s h.groups rest (shape_is f.sampling f.depth) is.groups)

abbrev pub Frames_read : Type 0
Frames_read = Result (List Held × List ℕ) FileFault

abbrev ok_frames : List Held → List ℕ → Frames_read
ok_frames hs rest = Ok (hs, rest)

all_again : (f : Fields) (before : List ℕ) (hs : List Held) (rest : List ℕ)
    → AllByRecursion (IsHeld f) hs → AreNew before hs
    → all_held_at f (length hs) before (flat_map (held_text f) hs ++ rest) ≡ Ok (hs, rest)
unfolding all_held_at
all_again f before [] rest all new = refl
all_again f before (h ∷ hs) rest all new =
    ap (all_held_at f (suc (length hs)) before)
    (append_assoc (held_text f h) (flat_map (held_text f) hs) rest)
    ∙ ap
    (λ (r : One_frame). r >>=
    λ x. all_held_at f (length hs) (before ++ x.0.timestamp ∷ []) x.1 >>=
    λ y. ok_frames (x.0 ∷ y.0) y.1)
    (held_again f before h (flat_map (held_text f) hs ++ rest) all.0 new.0)
    ∙ ap (λ (r : Frames_read). r >>= λ y. ok_frames (h ∷ y.0) y.1)
    (all_again f (before ++ h.timestamp ∷ []) hs rest all.1 new.1)

-- ---- the file

abbrev Named : Type 0
Named = Result (Unit {0} × List ℕ) FileFault

pub state_named : (rest : List ℕ)
    → state_walk (kind_text receiver_name One ++ rest) ≡ (block_at rest >>= behind_block)
unfolding state_walk
state_named rest = ap (λ (r : Named). r >>= λ a. block_at a.1 >>= behind_block) (name_again rest)

pub state_formed : (f : Fields) (rest : List ℕ) → IsFormat f
    → state_walk (block_front f ++ rest) ≡ (head_at rest >>= behind_head f)
state_formed f rest is =
    ap state_walk (append_assoc (kind_text receiver_name One) (format_text f) rest)
    ∙ state_named (format_text f ++ rest)
    ∙ ap (λ (r : Result (Fields × List ℕ) FileFault). r >>= behind_block) (block_tells f rest is)

pub state_headed : (f : Fields) (h : Head) (rest : List ℕ) → IsFormat f → IsStateHead h
    → state_walk ((block_front f ++ kept_head_text h) ++ rest)
    ≡ (all_held_at f h.count [] rest >>= behind_frames f h)
state_headed f h rest is head =
    ap state_walk (append_assoc (block_front f) (kept_head_text h) rest)
    ∙ state_formed f (kept_head_text h ++ rest) is
    ∙ ap (λ (r : Result (Head × List ℕ) FileFault). r >>= behind_head f) (head_again h rest head)

abbrev pub head_of : Kept → Head
head_of k = record { payload_type = k.payload_type; ssrc = k.ssrc; count = length k.frames }

pub state_parts : (k : Kept) → frames_front k.format (head_of k) k.frames ≡ state_text k
state_parts k =
    let texts : List ℕ = flat_map (held_text k.format) k.frames in
    append_assoc (block_front k.format) (opening_text k) texts
    ∙ append_assoc (kind_text receiver_name One) (format_text k.format) (opening_text k ++ texts)

-- a whole file, and what stands behind it
pub state_whole : (k : Kept) (rest : List ℕ) → IsSaved k
    → state_walk (state_text k ++ rest) ≡ (nothing_at rest >>= λ z. with_kept k z.1)
state_whole k rest is =
    let texts : List ℕ = flat_map (held_text k.format) k.frames in
    let some : 0 < length k.frames
    = omega (arith, length-map k.frames timestamp_in, is.window.size.some) in
    let few : length k.frames ≤ 16
    = omega (arith, length-map k.frames timestamp_in, is.window.size.most) in
    let head : IsStateHead (head_of k) = record {
      payload_type = is.payload_type;
      ssrc = is.kept.ssrc;
      count = record { some = some; most = few };
    } in
    ap (λ (t : List ℕ). state_walk (t ++ rest)) (sym (state_parts k))
    ∙ ap state_walk (append_assoc (block_front k.format ++ opening_text k) texts rest)
    ∙ state_headed k.format (head_of k) (texts ++ rest)
    (record { room = is.kept.room; is = is.format }) head
    ∙ ap (λ (r : Frames_read). r >>= behind_frames k.format (head_of k))
    (all_again k.format [] k.frames rest is.kept.frames (new_all [] k.frames is.window.different))

pub state_again : (k : Kept) → IsSaved k → state_walk (state_text k) ≡ Ok (k, [])
state_again k is = ap state_walk (sym (append-nil (state_text k))) ∙ state_whole k [] is

-- ---- what a reader of receivers' files owes

abbrev pub kept_in : Kept → Result (Kept × List ℕ) FileFault → Kept
kept_in k (Ok x) = x.0
kept_in k (Err f) = k

abbrev ok_kept : Kept → List ℕ → Result (Kept × List ℕ) FileFault
ok_kept k rest = Ok (k, rest)

abbrev failed : FileFault → Result (Kept × List ℕ) FileFault
failed f = Err f

only_ok : (k l : Kept) (octets : List ℕ) (new : Option (List ℕ)) → state_walk octets ≡ Ok (k, [])
    → Leaves (state_walk octets) l new → l ≡ k
only_ok k l octets None e p = absurd p
only_ok k l octets (Some rest) e p = ap (kept_in l) (sym p ∙ e)

clash : (k : Kept) (octets : List ℕ) (f : FileFault) → state_walk octets ≡ Ok (k, [])
    → state_walk octets ≡ Err f → ⊥
clash k octets f e p = let bad : ok_kept k [] ≡ failed f = sym e ∙ p in absurd cc

only_err : (k : Kept) (octets : List ℕ) (f : FileFault) → state_walk octets ≡ Ok (k, [])
    → IfContent f (state_walk octets ≡ Err f) → IsMachine f
only_err k octets NoMemory e p = tt
only_err k octets Device e p = tt
only_err k octets BadName e p = clash k octets BadName e p
only_err k octets BadVersion e p = clash k octets BadVersion e p
only_err k octets Truncated e p = clash k octets Truncated e p
only_err k octets BadField e p = clash k octets BadField e p
only_err k octets TrailingBytes e p = clash k octets TrailingBytes e p
only_err k octets MixedGroup e p = clash k octets MixedGroup e p
only_err k octets TooManyRecords e p = clash k octets TooManyRecords e p

pub only_state : (old new : Option (List ℕ)) (r : Result State FileFault)
    → IfOk r (λ s. Takes state_walk old new (kept_of s)) → IfErr r (λ f. Fails state_walk old f)
    → (k : Kept) → old ≡ Some (state_text k) → IsSaved k
    → MatchResult r (λ s. kept_of s ≡ k) IsMachine
only_state old new (Ok s) p q k told is =
    only_ok k (kept_of s) (state_text k) new (state_again k is)
    (subst (λ (o : Option (List ℕ)). Takes state_walk o new (kept_of s)) told p)
only_state old new (Err f) p q k told is =
    only_err k (state_text k) f (state_again k is)
    (subst (λ (o : Option (List ℕ)). Fails state_walk o f) told q)
