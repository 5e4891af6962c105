-- Captures: each fault is read exactly where its condition holds, and at most one holds.
use Rattle.std.proofs.Common.{◌≡◌, ℕ, ◌+◌, ◌^◌, ◌<◌, ◌≤◌, List, [], ◌++◌, length, take, drop}
use Rattle.std.proofs.Common.{Result, Ok, Err, append_assoc, refl, sym, ap, ◌∙◌, subst, inl, inr}
use Rattle.std.proofs.Common.{arith}
use Rattle.std.specs.Prelude.{◌⊎◌, IfErr, Option, Some}
use Rattle.std.specs.Int.{w16, from_be_bytes, to_be_bytes}
use Rattle.std.proofs.lemmas.Bool.{cases_lt}
use Rattle.std.proofs.lemmas.List.{length-drop, length-take-le, take-append-drop}
use Rattle.std.proofs.lemmas.Nat.{be_bytes_2, from_be_bytes-to_be_bytes_2}
use Rattle.st_format.specs.Device.{AreOctets}
use Rattle.media_file.specs.declared.fault.FileFault.{FileFault}
use Rattle.media_file.specs.declared.fault.FileFault.TheVariants.{NoMemory, Device, BadName}
use Rattle.media_file.specs.declared.fault.FileFault.TheVariants.{BadVersion, Truncated, BadField}
use Rattle.media_file.specs.declared.fault.FileFault.TheVariants.{TrailingBytes, MixedGroup}
use Rattle.media_file.specs.declared.fault.FileFault.TheVariants.{TooManyRecords}
use Rattle.media_file.specs.declared.front.Version.{Version}
use Rattle.media_file.specs.declared.front.Version.TheVariants.{One, Two}
use Rattle.media_file.specs.Capture.{Content, IsCapture, capture_walk, records_at}
use Rattle.media_file.specs.CaptureFaults.{IsCaptureFault, HasBadRecord, HasBehind, HasCutText}
use Rattle.media_file.specs.CaptureFaults.{HasRecordMore, IsCutCapture, IsRecordFault}
use Rattle.media_file.specs.CaptureFaults.IsCutCapture.{Kind, Text, Record}
use Rattle.media_file.specs.Faults.{IfContent, file_fault_origin}
use Rattle.media_file.specs.Fields.{Fails, field_at}
use Rattle.st_format.specs.Reading.{◌>>=◌}
use Rattle.media_file.specs.Fronts.{HasFront, capture_name, counted_text, front_at, front_text}
use Rattle.media_file.specs.Fronts.{kind_at, kind_text, text_at, text_by}
use Rattle.media_file.specs.Records.{Entry, records_text}
use Rattle.media_file.proofs.Failing.{Short, answered, field_fails, field_short, field_whole}
use Rattle.media_file.proofs.Failing.{less, not_both, same_fault, short_with, split_fails}
use Rattle.media_file.proofs.Found.{capture_found, field_takes, given, kind_takes, split_then}
use Rattle.media_file.proofs.KindFaults.{KindFails, kind_cut, kind_fails, kind_tells, name_tells}
use Rattle.media_file.proofs.KindFaults.{version_tells}
use Rattle.media_file.proofs.KindFaults.KindFails.{Cut, Name, Digits}
use Rattle.media_file.proofs.RecordFaults.{IsStop, Stops, full_tells, records_fail, wrong_tells}
use Rattle.media_file.proofs.RecordFaults.IsStop.{Full, Wrong}
use Rattle.media_file.proofs.Splits.{AreOctets-back, below_16, field_again}
use Rattle.st_format.proofs.Octets.{AreOctets-take}
use Rattle.st_format.proofs.Origins.{if_content_weaker}

abbrev Part : Type 0
Part = List ℕ × List ℕ

abbrev read_text : Part → Result Part FileFault
read_text x = field_at (from_be_bytes w16 x.0) x.1

abbrev read_front : Version × List ℕ → Result Part FileFault
read_front x = text_by x.0 x.1

abbrev saying : List ℕ → List Entry × List ℕ → Result (Content × List ℕ) FileFault
saying text y = Ok (record { text = text; records = y.0 }, y.1)

abbrev read_records : ℕ → Part → Result (Content × List ℕ) FileFault
read_records limit x = records_at limit x.1 >>= saying x.0

-- ---- a text that is cut

record TextShort (octets : List ℕ) (e : FileFault) : Type 0 where
  is : Truncated ≡ e
  short : length octets < 2 + from_be_bytes w16 (take 2 octets)

text_fails : (octets : List ℕ) (e : FileFault) → text_at octets ≡ Err e → TextShort octets e
unfolding text_at
text_fails octets e h =
    elim (split_fails (field_at 2 octets) read_text e h) [
      | inl p ↦ let s = field_fails 2 octets e p in
          record { is = s.is; short = let lt : length octets < 2 = s.short in omega arith }
      | inr t ↦
          let f = field_takes 2 octets t.first t.is in
          let n : ℕ = from_be_bytes w16 t.first.0 in
          let s : Short n t.first.1 e = field_fails n t.first.1 e t.next in
          record {
            is = s.is;
            short = short_with (length octets) (length t.first.1)
                (from_be_bytes w16 (take 2 octets)) n (ap length (sym f.rest)
                ∙ length-drop 2 octets) f.long s.short (ap (from_be_bytes w16) f.front);
          }
    ]

text_cut : (octets : List ℕ) → length octets < 2 + from_be_bytes w16 (take 2 octets)
    → text_at octets ≡ Err Truncated
unfolding text_at
text_cut octets short =
    elim (cases_lt (length octets) 2) [
      | inl lt ↦ ap (λ (r : Result Part FileFault). r >>= read_text) (field_short 2 octets lt)
      | inr le ↦
          let n : ℕ = from_be_bytes w16 (take 2 octets) in
          let few : length (drop 2 octets) < n
          = less (length octets) (length (drop 2 octets)) n (length-drop 2 octets) le short in
          ap (λ (r : Result Part FileFault). r >>= read_text) (field_whole 2 octets le)
          ∙ field_short n (drop 2 octets) few
    ]

-- ---- what stands before the records

data FrontFails (octets : List ℕ) (e : FileFault) : Type 0 where
  InKind : KindFails capture_name octets e → FrontFails octets e
  InText : Truncated ≡ e → HasCutText octets → FrontFails octets e

text_by_fails : (v : Version) (octets rest : List ℕ) (e : FileFault)
    → octets ≡ kind_text capture_name v ++ rest → text_by v rest ≡ Err e → FrontFails octets e
text_by_fails One octets rest e whole h = absurd (not_both Part ([], rest) e h)
text_by_fails Two octets rest e whole h = let t = text_fails rest e h in
    InText t.is (record { behind = rest; whole = whole; short = t.short })

front_fails : (octets : List ℕ) (e : FileFault) → front_at octets ≡ Err e → FrontFails octets e
unfolding front_at
front_fails octets e h =
    elim (split_fails (kind_at capture_name octets) read_front e h) [
      | inl p ↦ InKind (kind_fails capture_name octets e p)
      | inr t ↦ text_by_fails t.first.0 octets t.first.1 e
          (kind_takes capture_name octets t.first t.is) t.next
    ]

kind_again : (v : Version) (rest : List ℕ)
    → kind_at capture_name (kind_text capture_name v ++ rest) ≡ Ok (v, rest)
kind_again v rest = kind_tells capture_name v rest refl

pub front_cut : (octets : List ℕ) (e : FileFault) → kind_at capture_name octets ≡ Err e
    → front_at octets ≡ Err e
unfolding front_at
front_cut octets e h = ap (λ (r : Result (Version × List ℕ) FileFault). r >>= read_front) h

pub front_short : (octets : List ℕ) → HasCutText octets → front_at octets ≡ Err Truncated
unfolding front_at
front_short octets h =
    ap (λ (o : List ℕ). kind_at capture_name o >>= read_front) h.whole
    ∙ ap (λ (r : Result (Version × List ℕ) FileFault). r >>= read_front) (kind_again Two h.behind)
    ∙ text_cut h.behind h.short

text_again : (text rest : List ℕ) → length text < 2 ^ 16
    → text_at (counted_text text ++ rest) ≡ Ok (text, rest)
unfolding text_at
text_again text rest fits =
    ap (λ (o : List ℕ). field_at 2 o >>= read_text)
    (append_assoc (to_be_bytes w16 (length text)) text rest)
    ∙ ap (λ (r : Result Part FileFault). r >>= read_text)
    (field_again 2 (to_be_bytes w16 (length text)) (text ++ rest) refl)
    ∙ ap (λ (n : ℕ). field_at n (text ++ rest)) (from_be_bytes-to_be_bytes_2 (length text) fits)
    ∙ field_again (length text) text rest refl

pub front_again : (v : Version) (text rest : List ℕ) → HasFront v text
    → front_at (front_text v text ++ rest) ≡ Ok (text, rest)
unfolding front_at
front_again One text rest has =
    ap (λ (r : Result (Version × List ℕ) FileFault). r >>= read_front) (kind_again One rest)
    ∙ ap (λ (t : List ℕ). answered Part (t, rest)) (sym has)
front_again Two text rest has =
    ap (λ (o : List ℕ). kind_at capture_name o >>= read_front)
    (append_assoc (kind_text capture_name Two) (counted_text text) rest)
    ∙ ap (λ (r : Result (Version × List ℕ) FileFault). r >>= read_front)
    (kind_again Two (counted_text text ++ rest))
    ∙ text_again text rest has

-- a front that is read is one
record TakesFront (octets : List ℕ) (x : Part) : Type 0 where
  version : Version
  front : HasFront version x.0
  text : octets ≡ front_text version x.0 ++ x.1

record TakesText (octets : List ℕ) (x : Part) : Type 0 where
  fits : length x.0 < 2 ^ 16
  text : octets ≡ counted_text x.0 ++ x.1

text_takes : (octets : List ℕ) (first x : Part) → AreOctets octets
    → field_at 2 octets ≡ answered Part first → read_text first ≡ answered Part x
    → TakesText octets x
text_takes octets first x bytes is next =
    let f = field_takes 2 octets first is in
    let n : ℕ = from_be_bytes w16 first.0 in
    let g = field_takes n first.1 x next in
    let two : AreOctets first.0 = subst AreOctets f.front (AreOctets-take 2 octets bytes) in
    let size : length first.0 ≡ 2 = ap length (sym f.front) ∙ length-take-le 2 octets f.long in
    let len : length x.0 ≡ n = ap length (sym g.front) ∙ length-take-le n first.1 g.long in
    let count : to_be_bytes w16 (length x.0) ≡ first.0
    = be_bytes_2 first.0 (length x.0) size two len in
    let behind : first.1 ≡ x.0 ++ x.1
    = sym (take-append-drop n first.1) ∙ ap (λ (t : List ℕ). t ++ drop n first.1) g.front
    ∙ ap (λ (t : List ℕ). x.0 ++ t) g.rest in
    record {
      fits = subst (λ (k : ℕ). k < 2 ^ 16) (sym len) (below_16 first.0 two);
      text = sym (take-append-drop 2 octets)
          ∙ ap (λ (t : List ℕ). t ++ drop 2 octets) (f.front ∙ sym count)
          ∙ ap (λ (t : List ℕ). to_be_bytes w16 (length x.0) ++ t) (f.rest ∙ behind)
          ∙ sym (append_assoc (to_be_bytes w16 (length x.0)) x.0 x.1);
    }

text_read : (octets : List ℕ) (x : Part) → AreOctets octets → text_at octets ≡ Ok x
    → TakesText octets x
unfolding text_at
text_read octets x bytes h = let t = split_then (field_at 2 octets) read_text x h in
    text_takes octets t.first x bytes t.is t.next

front_by : (v : Version) (octets rest : List ℕ) (x : Part) → AreOctets rest
    → octets ≡ kind_text capture_name v ++ rest → text_by v rest ≡ Ok x → TakesFront octets x
front_by One octets rest x bytes whole h =
    let same : ([], rest) ≡ x = ap (λ (r : Result Part FileFault). given r x) h in
    record {
      version = One;
      front = sym (ap (λ (p : Part). p.0) same);
      text = whole ∙ ap (λ (t : List ℕ). kind_text capture_name One ++ t)
          (ap (λ (p : Part). p.1) same);
    }
front_by Two octets rest x bytes whole h =
    let t = text_read rest x bytes h in
    record {
      version = Two;
      front = t.fits;
      text = whole ∙ ap (λ (k : List ℕ). kind_text capture_name Two ++ k) t.text
          ∙ sym (append_assoc (kind_text capture_name Two) (counted_text x.0) x.1);
    }

front_takes : (octets : List ℕ) (x : Part) → AreOctets octets → front_at octets ≡ Ok x
    → TakesFront octets x
unfolding front_at
front_takes octets x bytes h =
    let t = split_then (kind_at capture_name octets) read_front x h in
    let k = kind_takes capture_name octets t.first t.is in
    front_by t.first.0 octets t.first.1 x
    (AreOctets-back (kind_text capture_name t.first.0) t.first.1 (subst AreOctets k bytes)) k
    t.next

-- ---- what is read has the fault

by_kind : (limit : ℕ) (octets : List ℕ) (e : FileFault) → KindFails capture_name octets e
    → IsCaptureFault e limit octets
by_kind limit octets e (Cut is cut) = let c : IsCutCapture octets limit = Kind cut in
    subst (λ (k : FileFault). IsCaptureFault k limit octets) is c
by_kind limit octets e (Name is other)
    = subst (λ (k : FileFault). IsCaptureFault k limit octets) is other
by_kind limit octets e (Digits is other)
    = subst (λ (k : FileFault). IsCaptureFault k limit octets) is other

by_front : (limit : ℕ) (octets : List ℕ) (e : FileFault) → FrontFails octets e
    → IsCaptureFault e limit octets
by_front limit octets e (InKind k) = by_kind limit octets e k
by_front limit octets e (InText is cut) = let c : IsCutCapture octets limit = Text cut in
    subst (λ (k : FileFault). IsCaptureFault k limit octets) is c

-- a record's fault is the capture's
by_record : (limit : ℕ) (octets : List ℕ) (e : FileFault) (c : Content) (behind : List ℕ)
    → HasBehind octets c behind → length c.records < limit → IsRecordFault e behind
    → IsCaptureFault e limit octets
by_record limit octets Truncated c behind stands few wrong
    = Record (record { capture = c; behind = behind; stands = stands; few = few; wrong = wrong })
by_record limit octets BadField c behind stands few wrong
    = record { capture = c; behind = behind; stands = stands; few = few; wrong = wrong }
by_record limit octets NoMemory c behind stands few wrong = wrong
by_record limit octets Device c behind stands few wrong = wrong
by_record limit octets BadName c behind stands few wrong = absurd wrong
by_record limit octets BadVersion c behind stands few wrong = absurd wrong
by_record limit octets TrailingBytes c behind stands few wrong = wrong
by_record limit octets MixedGroup c behind stands few wrong = wrong
by_record limit octets TooManyRecords c behind stands few wrong = absurd wrong

by_stop : (limit : ℕ) (octets : List ℕ) (e : FileFault) (c : Content) (behind : List ℕ)
    → HasBehind octets c behind → IsStop limit e c.records behind → IsCaptureFault e limit octets
by_stop limit octets e c behind stands (Full is full left) =
    let m : HasRecordMore octets limit
    = record { capture = c; behind = behind; stands = stands; full = full; more = left } in
    subst (λ (k : FileFault). IsCaptureFault k limit octets) is m
by_stop limit octets e c behind stands (Wrong few wrong)
    = by_record limit octets e c behind stands few wrong

by_records : (limit : ℕ) (octets : List ℕ) (e : FileFault) (x : Part) → TakesFront octets x
    → Stops limit e x.1 → IsCaptureFault e limit octets
by_records limit octets e x t s =
    let c : Content = record { text = x.0; records = s.entries } in
    let front : List ℕ = front_text t.version x.0 in
    by_stop limit octets e c s.behind (record {
      front = front ++ records_text s.entries;
      is = record { version = t.version; front = t.front; fit = s.fit; whole = refl };
      whole = t.text ∙ ap (λ (o : List ℕ). front ++ o) s.whole
          ∙ sym (append_assoc front (records_text s.entries) s.behind);
    }) s.stop

pub capture_fails : (limit : ℕ) (e : FileFault) (octets : List ℕ) → AreOctets octets
    → capture_walk limit octets ≡ Err e → IsCaptureFault e limit octets
unfolding capture_walk
capture_fails limit e octets bytes h =
    elim (split_fails (front_at octets) (read_records limit) e h) [
      | inl p ↦ by_front limit octets e (front_fails octets e p)
      | inr t ↦
          let k = front_takes octets t.first bytes t.is in
          elim (split_fails (records_at limit t.first.1) (saying t.first.0) e t.next) [
            | inl p ↦ by_records limit octets e t.first k
                (records_fail limit t.first.1 e
                (AreOctets-back (front_text k.version t.first.0) t.first.1
                (subst AreOctets k.text bytes)) p)
            | inr u ↦ absurd
                (not_both (Content × List ℕ)
                (record { text = t.first.0; records = u.first.0 }, u.first.1) e u.next)
          ]
    ]

-- ---- what has the fault is read so

front_tells : (limit : ℕ) (octets : List ℕ) (e : FileFault) → front_at octets ≡ Err e
    → capture_walk limit octets ≡ Err e
unfolding capture_walk
front_tells limit octets e h = ap (λ (r : Result Part FileFault). r >>= read_records limit) h

behind_tells : (limit : ℕ) (octets : List ℕ) (e : FileFault) (c : Content) (behind : List ℕ)
    → HasBehind octets c behind → records_at limit (records_text c.records ++ behind) ≡ Err e
    → capture_walk limit octets ≡ Err e
unfolding capture_walk
behind_tells limit octets e c behind stands h =
    let v : Version = stands.is.version in
    let front : List ℕ = front_text v c.text in
    let whole : octets ≡ front ++ (records_text c.records ++ behind)
    = stands.whole ∙ ap (λ (o : List ℕ). o ++ behind) stands.is.whole
    ∙ append_assoc front (records_text c.records) behind in
    ap (λ (o : List ℕ). front_at o >>= read_records limit) whole
    ∙ ap (λ (r : Result Part FileFault). r >>= read_records limit)
    (front_again v c.text (records_text c.records ++ behind) stands.is.front)
    ∙ ap (λ (r : Result (List Entry × List ℕ) FileFault). r >>= saying c.text) h

record_tells : (limit : ℕ) (octets : List ℕ) (e : FileFault) → HasBadRecord octets limit e
    → capture_walk limit octets ≡ Err e
record_tells limit octets e h
    = behind_tells limit octets e h.capture h.behind h.stands
    (wrong_tells limit h.capture.records h.behind e h.stands.is.fit h.few h.wrong)

cut_tells : (limit : ℕ) (octets : List ℕ) → IsCutCapture octets limit
    → capture_walk limit octets ≡ Err Truncated
cut_tells limit octets (Kind lt)
    = front_tells limit octets Truncated
    (front_cut octets Truncated (kind_cut capture_name octets lt))
cut_tells limit octets (Text cut) = front_tells limit octets Truncated (front_short octets cut)
cut_tells limit octets (Record h) = record_tells limit octets Truncated h

pub capture_tells : (limit : ℕ) (e : FileFault) (octets : List ℕ) → IsCaptureFault e limit octets
    → capture_walk limit octets ≡ Err e
capture_tells limit BadName octets h
    = front_tells limit octets BadName (front_cut octets BadName (name_tells capture_name octets h))
capture_tells limit BadVersion octets h
    = front_tells limit octets BadVersion
    (front_cut octets BadVersion (version_tells capture_name octets h))
capture_tells limit Truncated octets h = cut_tells limit octets h
capture_tells limit BadField octets h = record_tells limit octets BadField h
capture_tells limit TooManyRecords octets h
    = behind_tells limit octets TooManyRecords h.capture h.behind h.stands
    (full_tells limit h.capture.records h.behind h.stands.is.fit h.full h.more)
capture_tells limit NoMemory octets h = absurd h
capture_tells limit Device octets h = absurd h
capture_tells limit TrailingBytes octets h = absurd h
capture_tells limit MixedGroup octets h = absurd h

pub one_capture_fault : (limit : ℕ) (e f : FileFault) (octets : List ℕ)
    → IsCaptureFault e limit octets → IsCaptureFault f limit octets → e ≡ f
one_capture_fault limit e f octets p q
    = same_fault (Content × List ℕ) e f (sym (capture_tells limit e octets p)
    ∙ capture_tells limit f octets q)

-- a capture within the limit, or a fault
abbrev CaptureOr : ℕ → List ℕ → Type 0
CaptureOr limit octets =
    ((c : Content) × IsCapture octets c × (length c.records ≤ limit))
    ⊎ ((f : FileFault) × IsCaptureFault f limit octets)

either : (limit : ℕ) (octets : List ℕ) (r : Result (Content × List ℕ) FileFault) → AreOctets octets
    → capture_walk limit octets ≡ r → CaptureOr limit octets
either limit octets (Ok x) bytes is =
    let f = capture_found limit octets x bytes is in inl (x.0, f.is, f.few)
either limit octets (Err e) bytes is = inr (e, capture_fails limit e octets bytes is)

pub capture_or_fault : (limit : ℕ) (octets : List ℕ) → AreOctets octets → CaptureOr limit octets
capture_or_fault limit octets bytes = either limit octets (capture_walk limit octets) bytes refl

-- what a reader of captures owes of a fault
pub capture_wrong : {X : Type 0} (limit : ℕ) (told : Option (List ℕ)) (r : Result X FileFault)
    → IfErr r (λ f. Fails (capture_walk limit) told f)
    → IfErr r (λ f. (octets : List ℕ) → told ≡ Some octets → AreOctets octets
    → IfContent f (IsCaptureFault f limit octets))
capture_wrong limit told (Ok x) fails = tt
capture_wrong limit told (Err f) fails =
    λ octets is bytes. if_content_weaker file_fault_origin f (capture_walk limit octets ≡ Err f)
    (IsCaptureFault f limit octets) (capture_fails limit f octets bytes)
    (subst (λ (o : Option (List ℕ)). Fails (capture_walk limit) o f) is fails)
