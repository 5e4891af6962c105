-- Timestamps and frames: where a reading of them fails; what is read is what a file can say.
use Rattle.std.proofs.Common.{◌≡◌, ℕ, zero, suc, ◌^◌, ◌<◌, Bool, true, false, cond, eqb, List, []}
use Rattle.std.proofs.Common.{◌∷◌, ◌++◌, length, map, Result, Ok, Err, append_assoc, append-nil}
use Rattle.std.proofs.Common.{refl, sym, ap, ◌∙◌, subst, inl, inr, arith}
use Rattle.std.specs.Prelude.{◌⊎◌}
use Rattle.std.specs.Int.{w32, from_be_bytes, to_be_bytes}
use Rattle.std.specs.List.{AllByRecursion, flat_map, list_any}
use Rattle.st_format.specs.declared.cell.Cell.{Cell}
use Rattle.st_format.specs.Device.{AreOctets}
use Rattle.st_format.specs.Fields.{Fields}
use Rattle.st_format.specs.Member.{IsMember}
use Rattle.path_receiver.specs.Opening.{AreDifferent}
use Rattle.path_receiver.proofs.Answered.{any_from_member, member_from_any}
use Rattle.media_file.specs.declared.fault.FileFault.{FileFault}
use Rattle.media_file.specs.declared.fault.FileFault.TheVariants.{BadField, Truncated}
use Rattle.media_file.specs.Fields.{field_at}
use Rattle.st_format.specs.Reading.{◌>>=◌}
use Rattle.st_format.specs.Given.{with_rest}
use Rattle.media_file.specs.Groups.{IsGroup, Shape, group_at, groups_at, groups_text}
use Rattle.media_file.specs.StateFile.{Held, IsHeld, raster_groups, held_text}
use Rattle.media_file.proofs.Entries.{chosen}
use Rattle.media_file.proofs.Failing.{answered, field_fails, field_short, not_both, same_fault}
use Rattle.media_file.proofs.Failing.{split_fails}
use Rattle.media_file.proofs.Found.{failed, given, split_then}
use Rattle.media_file.proofs.Once.{shape_is}
use Rattle.receiver_file.specs.Numbers.{number_at}
use Rattle.receiver_file.specs.Saved.{timestamp_in}
use Rattle.receiver_file.specs.StateFaults.{HasNumber, shape_by}
use Rattle.receiver_file.specs.StateReading.{all_held_at, held_at, timestamp_at}
use Rattle.receiver_file.proofs.Again.{AreNew, Frames_read, One_frame, held_again, number_again}
use Rattle.receiver_file.proofs.Again.{stamp_again}
use Rattle.receiver_file.proofs.Found.{behind_one, held_takes, number_takes, read_passes}
use Rattle.receiver_file.proofs.Found.{stamp_takes, with_frames, with_held, with_number}
use Rattle.receiver_file.proofs.GroupFaults.{groups_fail, groups_read, groups_stop}
use Rattle.receiver_file.proofs.GroupsFound.{Many, behind, cut_takes}

abbrev Number : Type 0
Number = Result (ℕ × List ℕ) FileFault

-- ---- numbers, and tests of what is read

-- a field that ends too early, or says what it may not
pub data FieldFails (Short Wrong : Type 0) (e : FileFault) : Type 0 where
  Ends : Truncated ≡ e → Short → FieldFails Short Wrong e
  Says : BadField ≡ e → Wrong → FieldFails Short Wrong e

pub number_fails : (octets : List ℕ) (e : FileFault) → number_at octets ≡ Err e
    → (Truncated ≡ e) × (length octets < 4)
unfolding number_at
number_fails octets e h =
    elim (split_fails (field_at 4 octets) (λ y. with_number (from_be_bytes w32 y.0) y.1) e h) [
      | inl p ↦ let f = field_fails 4 octets e p in (f.is, f.short)
      | inr t ↦ absurd (not_both (ℕ × List ℕ) (from_be_bytes w32 t.first.0, t.first.1) e t.next)
    ]

pub number_short : (octets : List ℕ) → length octets < 4 → number_at octets ≡ Err Truncated
unfolding number_at
number_short octets lt =
    ap (λ (r : Result (List ℕ × List ℕ) FileFault). r >>= λ y.
    with_number (from_be_bytes w32 y.0) y.1) (field_short 4 octets lt)

below_32 : (bs : List ℕ) → AreOctets bs → from_be_bytes w32 bs < 2 ^ 32
below_32 bs h = omega (arith, h 0, h 1, h 2, h 3)

pub number_read : (octets : List ℕ) (x : ℕ × List ℕ) → AreOctets octets → number_at octets ≡ Ok x
    → x.0 < 2 ^ 32
unfolding number_at
number_read octets x bytes e =
    let a = split_then (field_at 4 octets) (λ y. with_number (from_be_bytes w32 y.0) y.1) x e in
    let c = cut_takes 4 octets a.first bytes a.is in
    let same : (from_be_bytes w32 a.first.0, a.first.1) ≡ x
    = ap (λ (r : Number). given r x) a.next in
    subst (λ (p : ℕ × List ℕ). p.0 < 2 ^ 32) same (below_32 a.first.0 c.front)

-- a number, unless it is one that this test finds
abbrev pub tested : (ℕ → Bool) → ℕ → Result ℕ FileFault
tested test n = cond (test n) (failed ℕ BadField) (answered ℕ n)

abbrev pub read_tested : (ℕ → Bool) → Number → Number
read_tested test r = r >>= λ y. with_rest (tested test y.0) y.1

-- one that the test finds
pub record Finds (test : ℕ → Bool) (r : Number) (e : FileFault) : Type 0 where
  pub read : ℕ × List ℕ
  pub is : r ≡ Ok read
  pub found : test read.0 ≡ true
  pub fault : BadField ≡ e

pub tested_fails : (test : ℕ → Bool) (r : Number) (e : FileFault) → read_tested test r ≡ Err e
    → (r ≡ Err e) ⊎ Finds test r e
tested_fails test r e h =
    elim (split_fails r (λ y. with_rest (tested test y.0) y.1) e h) [
      | inl p ↦ inl p
      | inr a ↦
          elim (split_fails (tested test a.first.0) (λ n. with_number n a.first.1) e a.next) [
            | inl q ↦
                elim (chosen (test a.first.0) (failed ℕ BadField) (answered ℕ a.first.0)
                (failed ℕ e) q) [
                  | inl w ↦ inr (record {
                    read = a.first;
                    is = a.is;
                    found = w.0;
                    fault = same_fault ℕ BadField e w.1;
                  })
                  | inr w ↦ absurd (not_both ℕ a.first.0 e w.1)
                ]
            | inr b ↦ absurd (not_both (ℕ × List ℕ) (b.first, a.first.1) e b.next)
          ]
    ]

pub tested_finds : (test : ℕ → Bool) (r : Number) (n : ℕ) (rest : List ℕ) → r ≡ Ok (n, rest)
    → test n ≡ true → read_tested test r ≡ Err BadField
tested_finds test r n rest is found =
    ap (read_tested test) is
    ∙ ap (λ (b : Bool). with_rest (cond b (failed ℕ BadField) (answered ℕ n)) rest) found

-- what is answered isn't found
pub tested_clear : (test : ℕ → Bool) (r : Number) (x : ℕ × List ℕ) → read_tested test r ≡ Ok x
    → test x.0 ≡ false
tested_clear test r x h =
    let a = split_then r (λ y. with_rest (tested test y.0) y.1) x h in
    let b = split_then (tested test a.first.0) (λ n. with_number n a.first.1) x a.next in
    elim (chosen (test a.first.0) (failed ℕ BadField) (answered ℕ a.first.0) (Ok b.first) b.is) [
      | inl w ↦ absurd (not_both ℕ b.first BadField (sym w.1))
      | inr w ↦
          let one : a.first.0 ≡ b.first = ap (λ (r : Result ℕ FileFault). given r b.first) w.1 in
          let two : b.first ≡ x.0 = ap (λ (r : Number). (given r x).0) b.next in
          subst (λ (n : ℕ). test n ≡ false) (one ∙ two) w.0
    ]

-- ---- timestamps

abbrev pub StampFails : List ℕ → List ℕ → FileFault → Type 0
StampFails before octets e
    = FieldFails (length octets < 4) (HasNumber (λ t. IsMember t before) octets) e

pub stamp_fails : (before octets : List ℕ) (e : FileFault) → AreOctets octets
    → timestamp_at before octets ≡ Err e → StampFails before octets e
unfolding timestamp_at
stamp_fails before octets e bytes h =
    elim (tested_fails (λ t. list_any (λ u. eqb u t) before) (number_at octets) e h) [
      | inl p ↦ let n = number_fails octets e p in Ends n.0 n.1
      | inr t ↦ Says t.fault (record {
        number = t.read.0;
        behind = t.read.1;
        fits = number_read octets t.read bytes t.is;
        whole = number_takes octets t.read bytes t.is;
        is = member_from_any t.read.0 before t.found;
      })
    ]

pub stamp_short : (before octets : List ℕ) → length octets < 4
    → timestamp_at before octets ≡ Err Truncated
unfolding timestamp_at
stamp_short before octets lt =
    ap (read_tested (λ t. list_any (λ u. eqb u t) before)) (number_short octets lt)

pub number_begins : (octets : List ℕ) (Is : ℕ → Type 0) (h : HasNumber Is octets)
    → number_at octets ≡ Ok (h.number, h.behind)
number_begins octets Is h = ap number_at h.whole ∙ number_again h.number h.behind h.fits

pub stamp_twice : (before octets : List ℕ) → HasNumber (λ t. IsMember t before) octets
    → timestamp_at before octets ≡ Err BadField
unfolding timestamp_at
stamp_twice before octets h =
    tested_finds (λ t. list_any (λ u. eqb u t) before) (number_at octets) h.number h.behind
    (number_begins octets (λ t. IsMember t before) h) (any_from_member h.number before h.is)

pub record IsStamp (before : List ℕ) (t : ℕ) : Type 0 where
  pub fits : t < 2 ^ 32
  pub new : IsMember t before → ⊥

found_not : (b : Bool) → b ≡ true → b ≡ false → ⊥
found_not b p q = let bad : true ≡ false = sym p ∙ q in absurd cc

pub stamp_read : (before octets : List ℕ) (x : ℕ × List ℕ) → AreOctets octets
    → timestamp_at before octets ≡ Ok x → IsStamp before x.0
unfolding timestamp_at
stamp_read before octets x bytes h =
    let test : ℕ → Bool = λ t. list_any (λ u. eqb u t) before in
    let none : test x.0 ≡ false = tested_clear test (number_at octets) x h in
    record {
      fits = number_read octets x bytes (read_passes (number_at octets) test x h);
      new = λ m. found_not (test x.0) (any_from_member x.0 before m) none;
    }

-- ---- a frame

-- a timestamp that isn't one of those before, groups, and one that fails behind them
pub record GroupsEnd (f : Fields) (before octets : List ℕ) (e : FileFault) : Type 0 where
  pub timestamp : ℕ
  pub groups : List (List Cell)
  pub rest : List ℕ
  pub stamp : IsStamp before timestamp
  pub all : AllByRecursion (IsGroup (shape_by f)) groups
  pub fewer : length groups < raster_groups f
  pub text : octets ≡ (to_be_bytes w32 timestamp ++ groups_text (shape_by f) groups) ++ rest
  pub wrong : group_at (shape_by f) rest ≡ Err e

pub data HeldFails (f : Fields) (before octets : List ℕ) (e : FileFault) : Type 0 where
  InStamp : timestamp_at before octets ≡ Err e → HeldFails f before octets e
  InGroups : GroupsEnd f before octets e → HeldFails f before octets e

abbrev behind_stamp : Fields → ℕ × List ℕ → One_frame
behind_stamp f t =
    groups_at (shape_by f) (raster_groups f) t.1 >>= λ g. with_held t.0 g.0 g.1

pub held_fails : (f : Fields) (before octets : List ℕ) (e : FileFault) → AreOctets octets
    → held_at f before octets ≡ Err e → HeldFails f before octets e
unfolding held_at
held_fails f before octets e bytes h =
    let s : Shape = shape_by f in
    elim (split_fails (timestamp_at before octets) (behind_stamp f) e h) [
      | inl p ↦ InStamp p
      | inr a ↦
          let stamp : List ℕ = to_be_bytes w32 a.first.0 in
          let front : octets ≡ stamp ++ a.first.1 = stamp_takes before octets a.first bytes a.is in
          elim (split_fails (groups_at s (raster_groups f) a.first.1)
          (λ g. with_held a.first.0 g.0 g.1) e a.next) [
            | inl p ↦
                let g = groups_fail s (raster_groups f) a.first.1 e (shape_is f.sampling f.depth)
                (behind stamp octets a.first.1 bytes front) p in
                InGroups (record {
                  timestamp = a.first.0;
                  groups = g.groups;
                  rest = g.rest;
                  stamp = stamp_read before octets a.first bytes a.is;
                  all = g.all;
                  fewer = g.fewer;
                  text = front ∙ ap (λ (t : List ℕ). stamp ++ t) g.text
                      ∙ sym (append_assoc stamp (groups_text s g.groups) g.rest);
                  wrong = g.wrong;
                })
            | inr b ↦ absurd (not_both (Held × List ℕ)
                (record { timestamp = a.first.0; groups = b.first.0 }, b.first.1) e b.next)
          ]
    ]

pub held_stamp : (f : Fields) (before rest : List ℕ) (e : FileFault)
    → timestamp_at before rest ≡ Err e → held_at f before rest ≡ Err e
unfolding held_at
held_stamp f before rest e h = ap (λ (r : Number). r >>= behind_stamp f) h

pub held_groups : (f : Fields) (before : List ℕ) (t : ℕ) (gs : List (List Cell)) (rest : List ℕ)
    (e : FileFault) → IsStamp before t → AllByRecursion (IsGroup (shape_by f)) gs
    → length gs < raster_groups f → group_at (shape_by f) rest ≡ Err e
    → held_at f before ((to_be_bytes w32 t ++ groups_text (shape_by f) gs) ++ rest) ≡ Err e
unfolding held_at
held_groups f before t gs rest e stamp all fewer h =
    let s : Shape = shape_by f in
    ap (held_at f before) (append_assoc (to_be_bytes w32 t) (groups_text s gs) rest)
    ∙ ap (λ (r : Number). r >>= behind_stamp f)
    (stamp_again before t (groups_text s gs ++ rest) stamp.fits stamp.new)
    ∙ ap (λ (r : Many). r >>= λ g. with_held t g.0 g.1)
    (groups_stop s (raster_groups f) gs rest e (shape_is f.sampling f.depth) all fewer h)

pub held_read : (f : Fields) (before octets : List ℕ) (x : Held × List ℕ) → AreOctets octets
    → held_at f before octets ≡ Ok x → IsHeld f x.0 × (IsMember x.0.timestamp before → ⊥)
unfolding held_at
held_read f before octets x bytes h =
    let s : Shape = shape_by f in
    let a = split_then (timestamp_at before octets) (behind_stamp f) x h in
    let b
    = split_then (groups_at s (raster_groups f) a.first.1)
    (λ g. with_held a.first.0 g.0 g.1) x a.next in
    let same : (record { timestamp = a.first.0; groups = b.first.0 }, b.first.1) ≡ x
    = ap (λ (r : One_frame). given r x) b.next in
    let front : octets ≡ to_be_bytes w32 a.first.0 ++ a.first.1
    = stamp_takes before octets a.first bytes a.is in
    let stamp = stamp_read before octets a.first bytes a.is in
    let groups = groups_read s (raster_groups f) a.first.1 b.first (shape_is f.sampling f.depth)
    (behind (to_be_bytes w32 a.first.0) octets a.first.1 bytes front) b.is in
    let held : IsHeld f (record { timestamp = a.first.0; groups = b.first.0 }) = record {
      timestamp = stamp.fits;
      count = groups.count;
      groups = groups.all;
    } in
    subst (λ (p : Held × List ℕ). IsHeld f p.0 × (IsMember p.0.timestamp before → ⊥)) same
    (held, stamp.new)

-- ---- frames, one after the other

abbrev after : List ℕ → List Held → List ℕ
after before hs = before ++ map timestamp_in hs

-- frames, and one that fails behind them
pub record FramesFail (f : Fields) (n : ℕ) (before octets : List ℕ) (e : FileFault) : Type 0 where
  pub frames : List Held
  pub rest : List ℕ
  pub all : AllByRecursion (IsHeld f) frames
  pub new : AreNew before frames
  pub fewer : length frames < n
  pub text : octets ≡ flat_map (held_text f) frames ++ rest
  pub wrong : held_at f (after before frames) rest ≡ Err e

abbrev one_more : List ℕ → Held → List ℕ
one_more before h = before ++ h.timestamp ∷ []

pub frames_fail : (f : Fields) (n : ℕ) (before octets : List ℕ) (e : FileFault) → AreOctets octets
    → all_held_at f n before octets ≡ Err e → FramesFail f n before octets e
unfolding all_held_at
frames_fail f zero before octets e bytes h
    = absurd (not_both (List Held × List ℕ) ([], octets) e h)
frames_fail f (suc n) before octets e bytes h =
    elim (split_fails (held_at f before octets) (behind_one f n before) e h) [
      | inl p ↦ record {
        frames = [];
        rest = octets;
        all = tt;
        new = tt;
        fewer = omega arith;
        text = refl;
        wrong = ap (λ (b : List ℕ). held_at f b octets) (append-nil before) ∙ p;
      }
      | inr a ↦
          let one : List ℕ = held_text f a.first.0 in
          let front : octets ≡ one ++ a.first.1 = held_takes f before octets a.first bytes a.is in
          let held = held_read f before octets a.first bytes a.is in
          elim (split_fails (all_held_at f n (one_more before a.first.0) a.first.1)
          (λ y. with_frames (a.first.0 ∷ y.0) y.1) e a.next) [
            | inl p ↦
                let r = frames_fail f n (one_more before a.first.0) a.first.1 e
                (behind one octets a.first.1 bytes front) p in
                let fewer : length r.frames < n = r.fewer in
                record {
                  frames = a.first.0 ∷ r.frames;
                  rest = r.rest;
                  all = (held.0, r.all);
                  new = (held.1, r.new);
                  fewer = omega (arith, fewer);
                  text = front ∙ ap (λ (t : List ℕ). one ++ t) r.text
                      ∙ sym (append_assoc one (flat_map (held_text f) r.frames) r.rest);
                  wrong = ap (λ (b : List ℕ). held_at f b r.rest)
                      (sym (append_assoc before (a.first.0.timestamp ∷ [])
                      (map timestamp_in r.frames))) ∙ r.wrong;
                }
            | inr b ↦ absurd (not_both (List Held × List ℕ)
                (a.first.0 ∷ b.first.0, b.first.1) e b.next)
          ]
    ]

pub frames_stop : (f : Fields) (n : ℕ) (before : List ℕ) (hs : List Held) (rest : List ℕ)
    (e : FileFault) → AllByRecursion (IsHeld f) hs → AreNew before hs → length hs < n
    → held_at f (after before hs) rest ≡ Err e
    → all_held_at f n before (flat_map (held_text f) hs ++ rest) ≡ Err e
unfolding all_held_at
frames_stop f zero before hs rest e all new few h = absurd (omega (arith, few))
frames_stop f (suc n) before [] rest e all new few h =
    ap (λ (r : One_frame). r >>= behind_one f n before)
    (ap (λ (b : List ℕ). held_at f b rest) (sym (append-nil before)) ∙ h)
frames_stop f (suc n) before (x ∷ hs) rest e all new few h =
    ap (all_held_at f (suc n) before)
    (append_assoc (held_text f x) (flat_map (held_text f) hs) rest)
    ∙ ap (λ (r : One_frame). r >>= behind_one f n before)
    (held_again f before x (flat_map (held_text f) hs ++ rest) all.0 new.0)
    ∙ ap (λ (r : Frames_read). r >>= λ y. with_frames (x ∷ y.0) y.1)
    (frames_stop f n (one_more before x) hs rest e all.1 new.1 (omega (arith, few))
    (ap (λ (b : List ℕ). held_at f b rest)
    (append_assoc before (x.timestamp ∷ []) (map timestamp_in hs)) ∙ h))

pub record AreFrames (f : Fields) (n : ℕ) (before : List ℕ) (hs : List Held) : Type 0 where
  pub all : AllByRecursion (IsHeld f) hs
  pub new : AreNew before hs
  pub count : length hs ≡ n

pub frames_read : (f : Fields) (n : ℕ) (before octets : List ℕ) (x : List Held × List ℕ)
    → AreOctets octets → all_held_at f n before octets ≡ Ok x → AreFrames f n before x.0
unfolding all_held_at
frames_read f zero before octets x bytes e =
    let same : ([], octets) ≡ x = ap (λ (r : Frames_read). given r x) e in
    let made : AreFrames f zero before [] = record { all = tt; new = tt; count = refl } in
    subst (λ (p : List Held × List ℕ). AreFrames f zero before p.0) same made
frames_read f (suc n) before octets x bytes e =
    let a = split_then (held_at f before octets) (behind_one f n before) x e in
    let b
    = split_then (all_held_at f n (one_more before a.first.0) a.first.1)
    (λ y. with_frames (a.first.0 ∷ y.0) y.1) x a.next in
    let same : (a.first.0 ∷ b.first.0, b.first.1) ≡ x
    = ap (λ (r : Frames_read). given r x) b.next in
    let one : List ℕ = held_text f a.first.0 in
    let front : octets ≡ one ++ a.first.1 = held_takes f before octets a.first bytes a.is in
    let held = held_read f before octets a.first bytes a.is in
    let rest = frames_read f n (one_more before a.first.0) a.first.1 b.first
    (behind one octets a.first.1 bytes front) b.is in
    let made : AreFrames f (suc n) before (a.first.0 ∷ b.first.0) = record {
      all = (held.0, rest.all);
      new = (held.1, rest.new);
      count = ap suc rest.count;
    } in
    subst (λ (p : List Held × List ℕ). AreFrames f (suc n) before p.0) same made

-- ---- different timestamps

last_or_before : (x t : ℕ) (w : List ℕ) → IsMember x (w ++ t ∷ []) → IsMember x w ⊎ (x ≡ t)
last_or_before x t [] (inl e) = inr e
last_or_before x t [] (inr m) = absurd m
last_or_before x t (y ∷ w) (inl e) = inl (inl e)
last_or_before x t (y ∷ w) (inr m) =
    elim (last_or_before x t w m) [
      | inl there ↦ inl (inr there)
      | inr e ↦ inr e
    ]

different_more : (w : List ℕ) (t : ℕ) → AreDifferent w → (IsMember t w → ⊥)
    → AreDifferent (w ++ t ∷ [])
different_more [] t d out = (λ m. m, tt)
different_more (x ∷ w) t d out = (
  λ m. elim (last_or_before x t w m) [
    | inl there ↦ d.0 there
    | inr e ↦ out (inl (sym e))
  ],
  different_more w t d.1 (λ m. out (inr m)),
)

pub different_all : (before : List ℕ) (hs : List Held) → AreDifferent before → AreNew before hs
    → AreDifferent (after before hs)
different_all before [] d new = subst AreDifferent (sym (append-nil before)) d
different_all before (h ∷ hs) d new =
    subst AreDifferent (append_assoc before (h.timestamp ∷ []) (map timestamp_in hs))
    (different_all (one_more before h) hs (different_more before h.timestamp d new.0) new.1)
