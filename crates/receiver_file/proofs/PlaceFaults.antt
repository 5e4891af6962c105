-- What is wrong at a place of a receiver's file: a reading that comes there fails, and so does that
-- of the file; and each reading that fails does so at some place.
use Rattle.std.proofs.Common.{◌≡◌, ℕ, ◌<◌, Bool, true, false, List, [], ◌∷◌, ◌++◌, map, Option}
use Rattle.std.proofs.Common.{Result, Err, append_assoc, sym, ap, ◌∙◌, inl, inr}
use Rattle.std.specs.Int.{w32, to_be_bytes}
use Rattle.std.specs.List.{flat_map}
use Rattle.st_format.specs.declared.cell.Cell.{Cell}
use Rattle.st_format.specs.Device.{AreOctets}
use Rattle.st_format.specs.Fields.{Fields}
use Rattle.media_file.specs.declared.fault.FileFault.{FileFault}
use Rattle.media_file.specs.declared.fault.FileFault.TheVariants.{BadField, MixedGroup, Truncated}
use Rattle.media_file.specs.Blocks.{block_at}
use Rattle.st_format.specs.Reading.{◌>>=◌}
use Rattle.media_file.specs.Groups.{group_at, groups_text}
use Rattle.media_file.specs.PictureFaults.{IsFormat}
use Rattle.media_file.specs.StateFile.{Held, SsrcFits, held_text, ssrc_text}
use Rattle.media_file.proofs.Failing.{not_both, split_fails}
use Rattle.media_file.proofs.PictureFaults.{block_short}
use Rattle.receiver_file.specs.declared.front.Head.{Head}
use Rattle.receiver_file.specs.Front.{count_at, flag_at, head_at, payload_type_at, ssrc_at}
use Rattle.receiver_file.specs.Saved.{timestamp_in}
use Rattle.receiver_file.specs.StateFaults.{AreFewer, IsBadAt, IsCutAt, IsStateHead, IsMixedAt}
use Rattle.receiver_file.specs.StateFaults.{CanStand}
use Rattle.receiver_file.specs.StateFaults.{FieldPlace, block_front, flag_octet, frames_front}
use Rattle.receiver_file.specs.StateFaults.{kept_head_text}
use Rattle.receiver_file.specs.StateFaults.{shape_by, text_before}
use Rattle.receiver_file.specs.StateFaults.FieldPlace.{AtBlock, AtPayloadType, AtFlag, AtSource}
use Rattle.receiver_file.specs.StateFaults.FieldPlace.{AtCount}
use Rattle.receiver_file.specs.StateFaults.FieldPlace.{AtTimestamp, AtGroup}
use Rattle.receiver_file.specs.StateReading.{all_held_at, held_at, state_walk, timestamp_at}
use Rattle.receiver_file.proofs.Again.{Frames_read, flag_off, flag_on, new_all, ssrc_again}
use Rattle.receiver_file.proofs.Again.{state_formed, state_headed, state_named, type_again}
use Rattle.receiver_file.proofs.FieldFaults.{block_fault, block_none, count_fails, count_gone}
use Rattle.receiver_file.proofs.FieldFaults.{count_other, flag_fails, flag_gone, flag_other}
use Rattle.receiver_file.proofs.FieldFaults.{source_at, source_fails, source_other, source_short}
use Rattle.receiver_file.proofs.FieldFaults.{ssrc_read, type_above, type_fails, type_gone}
use Rattle.receiver_file.proofs.FieldFaults.{type_read}
use Rattle.receiver_file.proofs.Found.{behind_block, behind_frames, behind_head, flag_takes}
use Rattle.receiver_file.proofs.Found.{ssrc_takes, type_takes, with_head}
use Rattle.receiver_file.proofs.FrameFaults.{FieldFails, HeldFails, different_all, frames_fail}
use Rattle.receiver_file.proofs.FrameFaults.{frames_stop, held_fails, held_groups, held_stamp}
use Rattle.receiver_file.proofs.FrameFaults.{stamp_fails, stamp_short, stamp_twice}
use Rattle.receiver_file.proofs.FrameFaults.FieldFails.{Ends, Says}
use Rattle.receiver_file.proofs.FrameFaults.HeldFails.{InStamp, InGroups}
use Rattle.receiver_file.proofs.GroupFaults.{GroupFails, group_cut, group_fails, group_mask}
use Rattle.receiver_file.proofs.GroupFaults.{group_state}
use Rattle.receiver_file.proofs.GroupFaults.GroupFails.{Cut, State, Mask}
use Rattle.receiver_file.proofs.GroupsFound.{behind}

abbrev Number : Type 0
Number = Result (ℕ × List ℕ) FileFault

abbrev Headed : Type 0
Headed = Result (Head × List ℕ) FileFault

-- the reading at a place fails
abbrev pub FailsAt : FieldPlace → List ℕ → FileFault → Type 0
FailsAt AtBlock octets e = block_at octets ≡ Err e
FailsAt (AtPayloadType f) octets e = payload_type_at octets ≡ Err e
FailsAt (AtFlag f type) octets e = flag_at octets ≡ Err e
FailsAt (AtSource f type pinned) octets e = source_at pinned octets ≡ Err e
FailsAt (AtCount f type ssrc) octets e = count_at octets ≡ Err e
FailsAt (AtTimestamp f h frames) octets e = timestamp_at (map timestamp_in frames) octets ≡ Err e
FailsAt (AtGroup f h frames timestamp groups) octets e = group_at (shape_by f) octets ≡ Err e

-- ---- it fails as the condition says, and the condition holds where it fails

pub cut_at : (place : FieldPlace) (octets : List ℕ) → IsCutAt octets place
    → FailsAt place octets Truncated
cut_at AtBlock octets c = block_short octets c
cut_at (AtPayloadType f) octets c = type_gone octets c
cut_at (AtFlag f type) octets c = flag_gone octets c
cut_at (AtSource f type pinned) octets c = source_short pinned octets c
cut_at (AtCount f type ssrc) octets c = count_gone octets c
cut_at (AtTimestamp f h frames) octets c = stamp_short (map timestamp_in frames) octets c
cut_at (AtGroup f h frames timestamp groups) octets c = group_cut (shape_by f) octets c

pub bad_at : (place : FieldPlace) (octets : List ℕ) → AreOctets octets → IsBadAt octets place
    → FailsAt place octets BadField
bad_at AtBlock octets bytes b = block_none octets bytes b
bad_at (AtPayloadType f) octets bytes b = type_above octets b
bad_at (AtFlag f type) octets bytes b = flag_other octets b
bad_at (AtSource f type true) octets bytes b = absurd b
bad_at (AtSource f type false) octets bytes b = source_other false octets b
bad_at (AtCount f type ssrc) octets bytes b = count_other octets b
bad_at (AtTimestamp f h frames) octets bytes b = stamp_twice (map timestamp_in frames) octets b
bad_at (AtGroup f h frames timestamp groups) octets bytes b = group_state (shape_by f) octets b

pub mixed_at_place : (place : FieldPlace) (octets : List ℕ) → IsMixedAt octets place
    → FailsAt place octets MixedGroup
mixed_at_place AtBlock octets m = absurd m
mixed_at_place (AtPayloadType f) octets m = absurd m
mixed_at_place (AtFlag f type) octets m = absurd m
mixed_at_place (AtSource f type pinned) octets m = absurd m
mixed_at_place (AtCount f type ssrc) octets m = absurd m
mixed_at_place (AtTimestamp f h frames) octets m = absurd m
mixed_at_place (AtGroup f h frames timestamp groups) octets m = group_mask (shape_by f) octets m

pub data PlaceFails (place : FieldPlace) (octets : List ℕ) (e : FileFault) : Type 0 where
  IsCut : Truncated ≡ e → IsCutAt octets place → PlaceFails place octets e
  IsBad : BadField ≡ e → IsBadAt octets place → PlaceFails place octets e
  IsMixed : MixedGroup ≡ e → IsMixedAt octets place → PlaceFails place octets e

by_field : (place : FieldPlace) (octets : List ℕ) (e : FileFault)
    → FieldFails (IsCutAt octets place) (IsBadAt octets place) e → PlaceFails place octets e
by_field place octets e (Ends is short) = IsCut is short
by_field place octets e (Says is wrong) = IsBad is wrong

by_group : (f : Fields) (h : Head) (frames : List Held) (t : ℕ) (gs : List (List Cell))
    (octets : List ℕ) (e : FileFault) → GroupFails (shape_by f) octets e
    → PlaceFails (AtGroup f h frames t gs) octets e
by_group f h frames t gs octets e (Cut is short) = IsCut is short
by_group f h frames t gs octets e (State is wrong) = IsBad is wrong
by_group f h frames t gs octets e (Mask is wrong) = IsMixed is wrong

pub place_faults : (place : FieldPlace) (octets : List ℕ) (e : FileFault) → AreOctets octets
    → FailsAt place octets e → PlaceFails place octets e
place_faults AtBlock octets e bytes h = by_field AtBlock octets e (block_fault octets e bytes h)
place_faults (AtPayloadType f) octets e bytes h =
    by_field (AtPayloadType f) octets e (type_fails octets e bytes h)
place_faults (AtFlag f type) octets e bytes h =
    by_field (AtFlag f type) octets e (flag_fails octets e bytes h)
place_faults (AtSource f type true) octets e bytes h =
    by_field (AtSource f type true) octets e (source_fails true octets e bytes h)
place_faults (AtSource f type false) octets e bytes h =
    by_field (AtSource f type false) octets e (source_fails false octets e bytes h)
place_faults (AtCount f type ssrc) octets e bytes h =
    by_field (AtCount f type ssrc) octets e (count_fails octets e bytes h)
place_faults (AtTimestamp f h frames) octets e bytes x =
    by_field (AtTimestamp f h frames) octets e
    (stamp_fails (map timestamp_in frames) octets e bytes x)
place_faults (AtGroup f h frames t gs) octets e bytes x =
    by_group f h frames t gs octets e (group_fails (shape_by f) octets e bytes x)

-- ---- with it the reading of the file fails

abbrev behind_ssrc : ℕ → Option ℕ × List ℕ → Headed
behind_ssrc type s = count_at s.1 >>= λ n. with_head type s.0 n.0 n.1

abbrev behind_type : ℕ × List ℕ → Headed
behind_type p = ssrc_at p.1 >>= behind_ssrc p.0

abbrev behind_flag : Bool × List ℕ → Result (Option ℕ × List ℕ) FileFault
behind_flag y = source_at y.0 y.1

front_fails : (f : Fields) (octets : List ℕ) (e : FileFault) → IsFormat f → head_at octets ≡ Err e
    → state_walk (block_front f ++ octets) ≡ Err e
front_fails f octets e is h
    = state_formed f octets is ∙ ap (λ (r : Headed). r >>= behind_head f) h

head_type : (octets : List ℕ) (e : FileFault) → payload_type_at octets ≡ Err e
    → head_at octets ≡ Err e
unfolding head_at
head_type octets e h = ap (λ (r : Number). r >>= behind_type) h

head_ssrc : (type : ℕ) (octets : List ℕ) (e : FileFault) → type < 128 → ssrc_at octets ≡ Err e
    → head_at (type ∷ octets) ≡ Err e
unfolding head_at
head_ssrc type octets e low h =
    ap (λ (r : Number). r >>= behind_type) (type_again type octets low)
    ∙ ap (λ (r : Result (Option ℕ × List ℕ) FileFault). r >>= behind_ssrc type) h

head_count : (type : ℕ) (s : Option ℕ) (octets : List ℕ) (e : FileFault) → type < 128 → SsrcFits s
    → count_at octets ≡ Err e → head_at (type ∷ (ssrc_text s ++ octets)) ≡ Err e
unfolding head_at
head_count type s octets e low fits h =
    ap (λ (r : Number). r >>= behind_type) (type_again type (ssrc_text s ++ octets) low)
    ∙ ap (λ (r : Result (Option ℕ × List ℕ) FileFault). r >>= behind_ssrc type)
    (ssrc_again s octets fits)
    ∙ ap (λ (r : Number). r >>= λ n. with_head type s n.0 n.1) h

ssrc_flag : (octets : List ℕ) (e : FileFault) → flag_at octets ≡ Err e → ssrc_at octets ≡ Err e
unfolding ssrc_at
ssrc_flag octets e h = ap (λ (r : Result (Bool × List ℕ) FileFault). r >>= behind_flag) h

ssrc_source : (pinned : Bool) (octets : List ℕ) (e : FileFault) → source_at pinned octets ≡ Err e
    → ssrc_at (flag_octet pinned ∷ octets) ≡ Err e
unfolding ssrc_at
ssrc_source false octets e h
    = ap (λ (r : Result (Bool × List ℕ) FileFault). r >>= behind_flag) (flag_off octets) ∙ h
ssrc_source true octets e h
    = ap (λ (r : Result (Bool × List ℕ) FileFault). r >>= behind_flag) (flag_on octets) ∙ h

frames_end : (f : Fields) (h : Head) (hs : List Held) (octets : List ℕ) (e : FileFault)
    → AreFewer f h hs → held_at f (map timestamp_in hs) octets ≡ Err e
    → state_walk (frames_front f h hs ++ octets) ≡ Err e
frames_end f h hs octets e said x =
    let texts : List ℕ = flat_map (held_text f) hs in
    ap state_walk (append_assoc (block_front f ++ kept_head_text h) texts octets)
    ∙ state_headed f h (texts ++ octets) said.format said.head
    ∙ ap (λ (r : Frames_read). r >>= behind_frames f h)
    (frames_stop f h.count [] hs octets e said.held (new_all [] hs said.different) said.fewer x)

pub place_fails : (place : FieldPlace) (octets : List ℕ) (e : FileFault) → CanStand place
    → FailsAt place octets e → state_walk (text_before place ++ octets) ≡ Err e
place_fails AtBlock octets e said x =
    state_named octets ∙ ap (λ (r : Result (Fields × List ℕ) FileFault). r >>= behind_block) x
place_fails (AtPayloadType f) octets e said x = front_fails f octets e said (head_type octets e x)
place_fails (AtFlag f type) octets e said x =
    ap state_walk (append_assoc (block_front f) (type ∷ []) octets)
    ∙ front_fails f (type ∷ octets) e said.0
    (head_ssrc type octets e said.1 (ssrc_flag octets e x))
place_fails (AtSource f type pinned) octets e said x =
    let flag : ℕ = flag_octet pinned in
    ap state_walk (append_assoc (block_front f) (type ∷ flag ∷ []) octets)
    ∙ front_fails f (type ∷ flag ∷ octets) e said.0
    (head_ssrc type (flag ∷ octets) e said.1 (ssrc_source pinned octets e x))
place_fails (AtCount f type ssrc) octets e said x =
    ap state_walk (append_assoc (block_front f) (type ∷ ssrc_text ssrc) octets)
    ∙ front_fails f (type ∷ (ssrc_text ssrc ++ octets)) e said.0.0
    (head_count type ssrc octets e said.0.1 said.1 x)
place_fails (AtTimestamp f h frames) octets e said x =
    frames_end f h frames octets e said (held_stamp f (map timestamp_in frames) octets e x)
place_fails (AtGroup f h frames t gs) octets e said x =
    let begun : List ℕ = to_be_bytes w32 t ++ groups_text (shape_by f) gs in
    ap state_walk (append_assoc (frames_front f h frames) begun octets)
    ∙ frames_end f h frames (begun ++ octets) e said.0
    (held_groups f (map timestamp_in frames) t gs octets e
    (record { fits = said.1.fits; new = said.1.new }) said.1.groups said.1.fewer x)

-- ---- each reading that fails does so at a place

pub record Reached (octets : List ℕ) (e : FileFault) : Type 0 where
  pub place : FieldPlace
  pub behind : List ℕ
  pub said : CanStand place
  pub whole : octets ≡ text_before place ++ behind
  pub fails : FailsAt place behind e

pub reached : (place : FieldPlace) (octets rest : List ℕ) (e : FileFault) → CanStand place
    → octets ≡ text_before place ++ rest → FailsAt place rest e → Reached octets e
reached place octets rest e said whole fails =
    record { place = place; behind = rest; said = said; whole = whole; fails = fails }

ssrc_reach : (f : Fields) (type : ℕ) (file octets : List ℕ) (e : FileFault)
    → IsFormat f × (type < 128) → file ≡ block_front f ++ (type ∷ octets) → AreOctets octets
    → ssrc_at octets ≡ Err e → Reached file e
unfolding ssrc_at
ssrc_reach f type file octets e said whole bytes h =
    let front : List ℕ = block_front f in
    elim (split_fails (flag_at octets) behind_flag e h) [
      | inl p ↦ reached (AtFlag f type) file octets e said
          (whole ∙ sym (append_assoc front (type ∷ []) octets)) p
      | inr a ↦
          let flag : ℕ = flag_octet a.first.0 in
          reached (AtSource f type a.first.0) file a.first.1 e said
          (whole
          ∙ ap (λ (t : List ℕ). front ++ (type ∷ t)) (flag_takes octets a.first bytes a.is)
          ∙ sym (append_assoc front (type ∷ flag ∷ []) a.first.1)) a.next
    ]

pub head_reach : (f : Fields) (file octets : List ℕ) (e : FileFault) → IsFormat f
    → file ≡ block_front f ++ octets → AreOctets octets → head_at octets ≡ Err e → Reached file e
unfolding head_at
head_reach f file octets e is whole bytes h =
    let front : List ℕ = block_front f in
    elim (split_fails (payload_type_at octets) behind_type e h) [
      | inl p ↦ reached (AtPayloadType f) file octets e is whole p
      | inr a ↦
          let text : octets ≡ a.first.0 ∷ a.first.1 = type_takes octets a.first bytes a.is in
          let low : a.first.0 < 128 = type_read octets a.first a.is in
          let rest : AreOctets a.first.1 = behind (a.first.0 ∷ []) octets a.first.1 bytes text in
          let all : file ≡ front ++ (a.first.0 ∷ a.first.1)
          = whole ∙ ap (λ (t : List ℕ). front ++ t) text in
          elim (split_fails (ssrc_at a.first.1) (behind_ssrc a.first.0) e a.next) [
            | inl p ↦ ssrc_reach f a.first.0 file a.first.1 e (is, low) all rest p
            | inr b ↦
                let ssrc : List ℕ = ssrc_text b.first.0 in
                let source : a.first.1 ≡ ssrc ++ b.first.1
                = ssrc_takes a.first.1 b.first rest b.is in
                elim (split_fails (count_at b.first.1)
                (λ n. with_head a.first.0 b.first.0 n.0 n.1) e b.next) [
                  | inl p ↦ reached (AtCount f a.first.0 b.first.0) file b.first.1 e
                      ((is, low), ssrc_read a.first.1 b.first rest b.is)
                      (all ∙ ap (λ (t : List ℕ). front ++ (a.first.0 ∷ t)) source
                      ∙ sym (append_assoc front (a.first.0 ∷ ssrc) b.first.1)) p
                  | inr c ↦ absurd (not_both (Head × List ℕ) (
                    record { payload_type = a.first.0; ssrc = b.first.0; count = c.first.0 },
                    c.first.1,
                  ) e c.next)
                ]
          ]
    ]

held_reach : (f : Fields) (h : Head) (hs : List Held) (file octets : List ℕ) (e : FileFault)
    → AreFewer f h hs → file ≡ frames_front f h hs ++ octets
    → HeldFails f (map timestamp_in hs) octets e → Reached file e
held_reach f h hs file octets e said whole (InStamp p) =
    reached (AtTimestamp f h hs) file octets e said whole p
held_reach f h hs file octets e said whole (InGroups g) =
    let front : List ℕ = frames_front f h hs in
    let begun : List ℕ = to_be_bytes w32 g.timestamp ++ groups_text (shape_by f) g.groups in
    reached (AtGroup f h hs g.timestamp g.groups) file g.rest e
    (said, record { fits = g.stamp.fits; new = g.stamp.new; groups = g.all; fewer = g.fewer })
    (whole ∙ ap (λ (t : List ℕ). front ++ t) g.text ∙ sym (append_assoc front begun g.rest)) g.wrong

pub frames_reach : (f : Fields) (h : Head) (file octets : List ℕ) (e : FileFault) → IsFormat f
    → IsStateHead h → file ≡ (block_front f ++ kept_head_text h) ++ octets → AreOctets octets
    → all_held_at f h.count [] octets ≡ Err e → Reached file e
frames_reach f h file octets e is head whole bytes x =
    let front : List ℕ = block_front f ++ kept_head_text h in
    let r = frames_fail f h.count [] octets e bytes x in
    let texts : List ℕ = flat_map (held_text f) r.frames in
    let all : file ≡ (front ++ texts) ++ r.rest
    = whole ∙ ap (λ (t : List ℕ). front ++ t) r.text ∙ sym (append_assoc front texts r.rest) in
    held_reach f h r.frames file r.rest e
    (record {
      format = is;
      head = head;
      held = r.all;
      different = different_all [] r.frames tt r.new;
      fewer = r.fewer;
    }) all
    (held_fails f (map timestamp_in r.frames) r.rest e (behind texts octets r.rest bytes r.text)
    r.wrong)
