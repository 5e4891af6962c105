-- A receiver's file: each fault is read exactly where its condition holds, and at most one holds.
use Rattle.std.proofs.Common.{◌≡◌, ℕ, ◌<◌, Bool, true, false, codes, List, [], ◌∷◌, ◌++◌, length}
use Rattle.std.proofs.Common.{Option, Some, Result, Ok, Err, append_assoc, refl, sym, ap, ◌∙◌}
use Rattle.std.proofs.Common.{subst, inl, inr, arith}
use Rattle.std.specs.Prelude.{◌⊎◌, IfErr}
use Rattle.std.specs.Str.{bytes_eq}
use Rattle.std.proofs.lemmas.List.{length-map}
use Rattle.std.proofs.lemmas.Slice.Eq.{bytes_eq-Decides}
use Rattle.st_format.specs.Device.{AreOctets, TellsOctets}
use Rattle.st_format.specs.Fields.{Fields}
use Rattle.path_receiver.specs.Frames.{State}
use Rattle.media_file.specs.declared.fault.FileFault.{FileFault}
use Rattle.media_file.specs.declared.fault.FileFault.TheVariants.{NoMemory, Device, BadName}
use Rattle.media_file.specs.declared.fault.FileFault.TheVariants.{BadVersion, Truncated, BadField}
use Rattle.media_file.specs.declared.fault.FileFault.TheVariants.{TrailingBytes, MixedGroup}
use Rattle.media_file.specs.declared.fault.FileFault.TheVariants.{TooManyRecords}
use Rattle.media_file.specs.declared.front.Version.{Version}
use Rattle.media_file.specs.declared.front.Version.TheVariants.{One, Two}
use Rattle.media_file.specs.Blocks.{block_at}
use Rattle.media_file.specs.Faults.{IfContent, file_fault_origin}
use Rattle.media_file.specs.Fields.{Fails, nothing_at}
use Rattle.st_format.specs.Reading.{◌>>=◌}
use Rattle.media_file.specs.Fronts.{kind_at, kind_text, receiver_name}
use Rattle.st_format.specs.Given.{with_rest}
use Rattle.media_file.specs.PictureFaults.{HasOtherThanOne, IsFormat}
use Rattle.media_file.specs.StateFile.{Held, Kept, format_text, state_text}
use Rattle.media_file.proofs.Failing.{differ, not_both, same_fault, split_fails}
use Rattle.media_file.proofs.Found.{given, kind_takes, split_then}
use Rattle.media_file.proofs.KindFaults.{KindFails, kind_cut, kind_fails, kind_tells, name_tells}
use Rattle.media_file.proofs.KindFaults.{version_tells}
use Rattle.media_file.proofs.KindFaults.KindFails.{Cut, Name, Digits}
use Rattle.media_file.proofs.PictureFaults.{block_stands, neither}
use Rattle.receiver_file.specs.declared.front.Head.{Head}
use Rattle.receiver_file.specs.Front.{head_at, name_at, only_one}
use Rattle.receiver_file.specs.Saved.{IsSaved, kept_frames_text, timestamp_in}
use Rattle.receiver_file.specs.StateFaults.{HasMore, HasPlace, IsBadAt, IsCutAt, IsCutState}
use Rattle.receiver_file.specs.StateFaults.{IsStateHead}
use Rattle.receiver_file.specs.StateFaults.{IsMixedAt, CanStand, FieldPlace, IsStateFault}
use Rattle.receiver_file.specs.StateFaults.{block_front}
use Rattle.receiver_file.specs.StateFaults.{kept_head_text, text_before}
use Rattle.receiver_file.specs.StateFaults.IsCutState.{Kind, Field}
use Rattle.receiver_file.specs.StateFaults.FieldPlace.{AtBlock}
use Rattle.receiver_file.specs.StateReading.{all_held_at, state_walk}
use Rattle.receiver_file.proofs.Again.{head_of, state_parts, state_whole}
use Rattle.receiver_file.proofs.FieldFaults.{head_read}
use Rattle.receiver_file.proofs.Found.{behind_block, behind_frames, behind_head, head_takes}
use Rattle.receiver_file.proofs.Found.{kept_made, name_takes, state_takes, with_kept, all_take}
use Rattle.receiver_file.proofs.FrameFaults.{AreFrames, different_all, frames_read}
use Rattle.receiver_file.proofs.GroupsFound.{behind}
use Rattle.receiver_file.proofs.PlaceFaults.{PlaceFails, Reached, bad_at, cut_at, frames_reach}
use Rattle.receiver_file.proofs.PlaceFaults.{head_reach, mixed_at_place, place_fails, place_faults}
use Rattle.receiver_file.proofs.PlaceFaults.{reached}
use Rattle.receiver_file.proofs.PlaceFaults.PlaceFails.{IsCut, IsBad, IsMixed}
use Rattle.st_format.proofs.Origins.{if_content_weaker}

abbrev Named : Type 0
Named = Result (Unit {0} × List ℕ) FileFault

abbrev Kinded : Type 0
Kinded = Version × List ℕ

abbrev only : Kinded → Named
only x = with_rest (only_one x.0) x.1

abbrev behind_name : Unit {0} × List ℕ → Result (Kept × List ℕ) FileFault
behind_name a = block_at a.1 >>= behind_block

-- ---- name and version

by_kind : (octets : List ℕ) (e : FileFault) → KindFails receiver_name octets e
    → IsStateFault e octets
by_kind octets e (Cut is lt) =
    let c : IsCutState octets = Kind lt in
    subst (λ (k : FileFault). IsStateFault k octets) is c
by_kind octets e (Name is other) = subst (λ (k : FileFault). IsStateFault k octets) is other
by_kind octets e (Digits is other) =
    let w : HasOtherThanOne octets receiver_name
    = record { version = other.version; kind = other.kind; other = other.other One } in
    subst (λ (k : FileFault). IsStateFault k octets) is w

by_version : (v : Version) (rest octets : List ℕ) (e : FileFault)
    → octets ≡ kind_text receiver_name v ++ rest → only (v, rest) ≡ Err e → IsStateFault e octets
by_version One rest octets e whole h = absurd (not_both (Unit {0} × List ℕ) (tt, rest) e h)
by_version Two rest octets e whole h =
    let w : HasOtherThanOne octets receiver_name = record {
      version = codes "02";
      kind = record {
        behind = rest;
        six = refl;
        two = refl;
        whole = whole ∙ append_assoc receiver_name (codes "02") rest;
      };
      other = differ (codes "02") (codes "01") refl;
    } in
    subst (λ (k : FileFault). IsStateFault k octets)
    (same_fault (Unit {0} × List ℕ) BadVersion e h) w

name_fails : (octets : List ℕ) (e : FileFault) → name_at octets ≡ Err e → IsStateFault e octets
unfolding name_at
name_fails octets e h =
    elim (split_fails (kind_at receiver_name octets) only e h) [
      | inl p ↦ by_kind octets e (kind_fails receiver_name octets e p)
      | inr t ↦ by_version t.first.0 t.first.1 octets e
          (kind_takes receiver_name octets t.first t.is) t.next
    ]

name_stops : (octets : List ℕ) (e : FileFault) → name_at octets ≡ Err e → state_walk octets ≡ Err e
unfolding state_walk
name_stops octets e h = ap (λ (r : Named). r >>= behind_name) h

kind_stops : (octets : List ℕ) (e : FileFault) → kind_at receiver_name octets ≡ Err e
    → state_walk octets ≡ Err e
unfolding name_at
kind_stops octets e h
    = name_stops octets e (ap (λ (r : Result Kinded FileFault). r >>= only) h)

two_stops : (octets rest : List ℕ) → octets ≡ kind_text receiver_name Two ++ rest
    → state_walk octets ≡ Err BadVersion
unfolding name_at
two_stops octets rest whole =
    name_stops octets BadVersion (ap (λ (o : List ℕ). kind_at receiver_name o >>= only) whole
    ∙ ap (λ (r : Result Kinded FileFault). r >>= only) (kind_tells receiver_name Two rest refl))

version_stops : (octets : List ℕ) (h : HasOtherThanOne octets receiver_name) (b : Bool)
    → bytes_eq h.version (codes "02") ≡ b → state_walk octets ≡ Err BadVersion
version_stops octets h true e =
    let same : h.version ≡ codes "02" = (bytes_eq-Decides h.version (codes "02")).0 e in
    two_stops octets h.kind.behind (h.kind.whole
    ∙ ap (λ (t : List ℕ). receiver_name ++ (t ++ h.kind.behind)) same
    ∙ sym (append_assoc receiver_name (codes "02") h.kind.behind))
version_stops octets h false e =
    kind_stops octets BadVersion (version_tells receiver_name octets (record {
      version = h.version;
      kind = h.kind;
      other = neither h.version h.other (differ h.version (codes "02") e);
    }))

-- ---- what is read has the fault

standing : (octets : List ℕ) (IsWrong : List ℕ → FieldPlace → Type 0)
    (place : FieldPlace) (rest : List ℕ) → CanStand place → octets ≡ text_before place ++ rest
    → IsWrong rest place
    → HasPlace IsWrong octets
standing octets IsWrong place rest said whole wrong =
    record { place = place; behind = rest; said = said; whole = whole; wrong = wrong }

place_fault : (octets : List ℕ) (e : FileFault) (r : Reached octets e)
    → PlaceFails r.place r.behind e → IsStateFault e octets
place_fault octets e r (IsCut is short) =
    let p : HasPlace IsCutAt octets
    = standing octets IsCutAt r.place r.behind r.said r.whole short in
    let c : IsCutState octets = Field p in
    subst (λ (k : FileFault). IsStateFault k octets) is c
place_fault octets e r (IsBad is wrong) =
    let p : HasPlace IsBadAt octets
    = standing octets IsBadAt r.place r.behind r.said r.whole wrong in
    subst (λ (k : FileFault). IsStateFault k octets) is p
place_fault octets e r (IsMixed is wrong) =
    let p : HasPlace IsMixedAt octets
    = standing octets IsMixedAt r.place r.behind r.said r.whole wrong in
    subst (λ (k : FileFault). IsStateFault k octets) is p

reached_fault : (octets : List ℕ) (e : FileFault) → AreOctets octets → Reached octets e
    → IsStateFault e octets
reached_fault octets e bytes r =
    place_fault octets e r (place_faults r.place r.behind e
    (behind (text_before r.place) octets r.behind bytes r.whole) r.fails)

saved : (f : Fields) (h : Head) (hs : List Held) → IsFormat f → IsStateHead h
    → AreFrames f h.count [] hs → IsSaved (kept_made f h hs)
saved f h hs is head frames =
    let count : length hs ≡ h.count = frames.count in
    let some : 0 < h.count = head.count.some in
    record {
      kept = record { room = is.room; ssrc = head.ssrc; frames = frames.all };
      format = is.is;
      payload_type = head.payload_type;
      window = record {
        size = record {
          some = omega (arith, length-map hs timestamp_in, count, some);
          most = omega (arith, length-map hs timestamp_in, count, head.count.most);
        };
        different = different_all [] hs tt frames.new;
      };
    }

end_more : (octets : List ℕ) (e : FileFault) → nothing_at octets ≡ Err e
    → (TrailingBytes ≡ e) × (0 < length octets)
end_more [] e h = absurd (not_both (Unit {0} × List ℕ) (tt, []) e h)
end_more (x ∷ octets) e h = (same_fault (Unit {0} × List ℕ) TrailingBytes e h, omega arith)

end_found : (octets : List ℕ) → 0 < length octets → nothing_at octets ≡ Err TrailingBytes
end_found [] more = absurd (omega (arith, more))
end_found (x ∷ octets) more = refl

-- a format block that is read, and the octets behind it
record Formed (octets : List ℕ) (x : Fields × List ℕ) : Type 0 where
  format : IsFormat x.0
  whole : octets ≡ block_front x.0 ++ x.1
  bytes : AreOctets x.1

formed : (octets rest : List ℕ) (x : Fields × List ℕ) → AreOctets octets
    → octets ≡ kind_text receiver_name One ++ rest → block_at rest ≡ Ok x → Formed octets x
formed octets rest x bytes whole h =
    let kind : List ℕ = kind_text receiver_name One in
    let s = block_stands rest x (behind kind octets rest bytes whole) h in
    let all : octets ≡ block_front x.0 ++ x.1
    = whole ∙ ap (λ (t : List ℕ). kind ++ t) s.text ∙ sym (append_assoc kind (format_text x.0) x.1)
    in
    record { format = s.format; whole = all; bytes = behind (block_front x.0) octets x.1 bytes all }

-- all that stands before the frames, and the octets behind it
record Headed (f : Fields) (octets : List ℕ) (x : Head × List ℕ) : Type 0 where
  head : IsStateHead x.0
  whole : octets ≡ (block_front f ++ kept_head_text x.0) ++ x.1
  bytes : AreOctets x.1

headed : (f : Fields) (octets rest : List ℕ) (x : Head × List ℕ) → octets ≡ block_front f ++ rest
    → AreOctets rest → head_at rest ≡ Ok x → Headed f octets x
headed f octets rest x whole bytes h =
    let text : rest ≡ kept_head_text x.0 ++ x.1 = head_takes rest x bytes h in
    record {
      head = head_read rest x bytes h;
      whole = whole ∙ ap (λ (t : List ℕ). block_front f ++ t) text
          ∙ sym (append_assoc (block_front f) (kept_head_text x.0) x.1);
      bytes = behind (kept_head_text x.0) rest x.1 bytes text;
    }

-- a whole file, and the octets behind it
record Ended (k : Kept) (octets rest : List ℕ) : Type 0 where
  is : IsSaved k
  whole : octets ≡ state_text k ++ rest

ended : (f : Fields) (h : Head) (octets rest : List ℕ) (x : List Held × List ℕ) → IsFormat f
    → Headed f octets (h, rest) → all_held_at f h.count [] rest ≡ Ok x
    → Ended (kept_made f h x.0) octets x.1
ended f h octets rest x is head e =
    let k : Kept = kept_made f h x.0 in
    let t = all_take f h.count [] rest x head.bytes e in
    let texts : List ℕ = kept_frames_text k in
    let opening : kept_head_text h ≡ kept_head_text (head_of k)
    = ap (λ (n : ℕ). kept_head_text (record {
      payload_type = h.payload_type;
      ssrc = h.ssrc;
      count = n;
    }))
    (sym t.count) in
    record {
      is = saved f h x.0 is head.head (frames_read f h.count [] rest x head.bytes e);
      whole = head.whole ∙ ap (λ (o : List ℕ). (block_front f ++ kept_head_text h) ++ o) t.text
          ∙ sym (append_assoc (block_front f ++ kept_head_text h) texts x.1)
          ∙ ap (λ (o : List ℕ). ((block_front f ++ o) ++ texts) ++ x.1) opening
          ∙ ap (λ (o : List ℕ). o ++ x.1) (state_parts k);
    }

end_fault : (k : Kept) (octets rest : List ℕ) (e : FileFault) → Ended k octets rest
    → (nothing_at rest >>= λ z. with_kept k z.1) ≡ Err e → IsStateFault e octets
end_fault k octets rest e whole h =
    elim (split_fails (nothing_at rest) (λ z. with_kept k z.1) e h) [
      | inl p ↦
          let more = end_more rest e p in
          let w : HasMore octets
          = record { kept = k; behind = rest; is = whole.is; whole = whole.whole; more = more.1 } in
          subst (λ (f : FileFault). IsStateFault f octets) more.0 w
      | inr z ↦ absurd (not_both (Kept × List ℕ) (k, z.first.1) e z.next)
    ]

frames_fault : (f : Fields) (h : Head) (octets rest : List ℕ) (e : FileFault) → AreOctets octets
    → IsFormat f → Headed f octets (h, rest) → behind_head f (h, rest) ≡ Err e
    → IsStateFault e octets
frames_fault f h octets rest e bytes is head x =
    elim (split_fails (all_held_at f h.count [] rest) (behind_frames f h) e x) [
      | inl p ↦ reached_fault octets e bytes
          (frames_reach f h octets rest e is head.head head.whole head.bytes p)
      | inr d ↦ end_fault (kept_made f h d.first.0) octets d.first.1 e
          (ended f h octets rest d.first is head d.is) d.next
    ]

head_fault : (octets : List ℕ) (x : Fields × List ℕ) (e : FileFault) → AreOctets octets
    → Formed octets x → behind_block x ≡ Err e → IsStateFault e octets
head_fault octets x e bytes b h =
    elim (split_fails (head_at x.1) (behind_head x.0) e h) [
      | inl p ↦ reached_fault octets e bytes
          (head_reach x.0 octets x.1 e b.format b.whole b.bytes p)
      | inr c ↦ frames_fault x.0 c.first.0 octets c.first.1 e bytes b.format
          (headed x.0 octets x.1 c.first b.whole b.bytes c.is) c.next
    ]

pub state_fails : (e : FileFault) (octets : List ℕ) → AreOctets octets → state_walk octets ≡ Err e
    → IsStateFault e octets
unfolding state_walk
state_fails e octets bytes h =
    elim (split_fails (name_at octets) behind_name e h) [
      | inl p ↦ name_fails octets e p
      | inr a ↦
          let whole : octets ≡ kind_text receiver_name One ++ a.first.1
          = name_takes octets a.first a.is in
          elim (split_fails (block_at a.first.1) behind_block e a.next) [
            | inl p ↦ reached_fault octets e bytes
                (reached AtBlock octets a.first.1 e tt whole p)
            | inr b ↦ head_fault octets b.first e bytes
                (formed octets a.first.1 b.first bytes whole b.is) b.next
          ]
    ]

-- ---- what is read can be written

pub state_saved : (octets : List ℕ) (x : Kept × List ℕ) → AreOctets octets
    → state_walk octets ≡ Ok x
    → IsSaved x.0
unfolding state_walk
state_saved octets x bytes h =
    let a = split_then (name_at octets) behind_name x h in
    let b = split_then (block_at a.first.1) behind_block x a.next in
    let c = split_then (head_at b.first.1) (behind_head b.first.0) x b.next in
    let d
    = split_then (all_held_at b.first.0 c.first.0.count [] c.first.1)
    (behind_frames b.first.0 c.first.0) x c.next in
    let k : Kept = kept_made b.first.0 c.first.0 d.first.0 in
    let z = split_then (nothing_at d.first.1) (λ u. with_kept k u.1) x d.next in
    let same : (k, z.first.1) ≡ x
    = ap (λ (r : Result (Kept × List ℕ) FileFault). given r x) z.next in
    let f = formed octets a.first.1 b.first bytes (name_takes octets a.first a.is) b.is in
    let p = headed b.first.0 octets b.first.1 c.first f.whole f.bytes c.is in
    let e = ended b.first.0 c.first.0 octets c.first.1 d.first f.format p d.is in
    subst (λ (y : Kept × List ℕ). IsSaved y.0) same e.is

-- ---- what has the fault is read so

place_tells : (octets : List ℕ) (e : FileFault) (r : Reached octets e) → state_walk octets ≡ Err e
place_tells octets e r
    = ap state_walk r.whole ∙ place_fails r.place r.behind e r.said r.fails

cut_tells : (octets : List ℕ) → IsCutState octets → state_walk octets ≡ Err Truncated
cut_tells octets (Kind lt) = kind_stops octets Truncated (kind_cut receiver_name octets lt)
cut_tells octets (Field p) =
    place_tells octets Truncated (reached p.place octets p.behind Truncated p.said p.whole
    (cut_at p.place p.behind p.wrong))

bad_tells : (octets : List ℕ) → AreOctets octets → HasPlace IsBadAt octets
    → state_walk octets ≡ Err BadField
bad_tells octets bytes p =
    place_tells octets BadField (reached p.place octets p.behind BadField p.said p.whole
    (bad_at p.place p.behind (behind (text_before p.place) octets p.behind bytes p.whole) p.wrong))

mixed_tells : (octets : List ℕ) → HasPlace IsMixedAt octets → state_walk octets ≡ Err MixedGroup
mixed_tells octets p =
    place_tells octets MixedGroup (reached p.place octets p.behind MixedGroup p.said p.whole
    (mixed_at_place p.place p.behind p.wrong))

more_tells : (octets : List ℕ) → HasMore octets → state_walk octets ≡ Err TrailingBytes
more_tells octets h =
    ap state_walk h.whole ∙ state_whole h.kept h.behind h.is
    ∙ ap (λ (r : Named). r >>= λ z. with_kept h.kept z.1) (end_found h.behind h.more)

pub state_tells : (e : FileFault) (octets : List ℕ) → AreOctets octets → IsStateFault e octets
    → state_walk octets ≡ Err e
state_tells BadName octets bytes h = kind_stops octets BadName (name_tells receiver_name octets h)
state_tells BadVersion octets bytes h
    = version_stops octets h (bytes_eq h.version (codes "02")) refl
state_tells Truncated octets bytes h = cut_tells octets h
state_tells BadField octets bytes h = bad_tells octets bytes h
state_tells MixedGroup octets bytes h = mixed_tells octets h
state_tells TrailingBytes octets bytes h = more_tells octets h
state_tells NoMemory octets bytes h = absurd h
state_tells Device octets bytes h = absurd h
state_tells TooManyRecords octets bytes h = absurd h

-- ---- one fault, or a file

pub one_state_fault : (e f : FileFault) (octets : List ℕ) → AreOctets octets → IsStateFault e octets
    → IsStateFault f octets → e ≡ f
one_state_fault e f octets bytes p q
    = same_fault (Kept × List ℕ) e f (sym (state_tells e octets bytes p)
    ∙ state_tells f octets bytes q)

-- a receiver's file, or a fault
abbrev StateOr : List ℕ → Type 0
StateOr octets =
    ((k : Kept) × IsSaved k × (octets ≡ state_text k))
    ⊎ ((f : FileFault) × IsStateFault f octets)

either : (octets : List ℕ) (r : Result (Kept × List ℕ) FileFault) → AreOctets octets
    → state_walk octets ≡ r → StateOr octets
either octets (Ok x) bytes e
    = inl (x.0, state_saved octets x bytes e, state_takes octets x bytes e)
either octets (Err f) bytes e = inr (f, state_fails f octets bytes e)

pub state_or_fault : (octets : List ℕ) → AreOctets octets → StateOr octets
state_or_fault octets bytes = either octets (state_walk octets) bytes refl

-- ---- what a reader of receivers' files owes

pub wrong_state : (old : Option (List ℕ)) (r : Result State FileFault) → TellsOctets old
    → IfErr r (λ f. Fails state_walk old f)
    → IfErr r (λ f. (octets : List ℕ) → old ≡ Some octets → IfContent f (IsStateFault f octets))
wrong_state old (Ok s) bytes p = tt
wrong_state old (Err f) bytes p =
    λ octets told. if_content_weaker file_fault_origin f (state_walk octets ≡ Err f)
    (IsStateFault f octets)
    (λ e. state_fails f octets (subst TellsOctets told bytes) e)
    (subst (λ (o : Option (List ℕ)). Fails state_walk o f) told p)
