-- Pictures: each fault is read exactly where its condition holds, and at most one holds.
use Rattle.std.proofs.Common.{◌≡◌, ℕ, ◌-◌, ◌<◌, Bool, true, false, codes, List, [], ◌∷◌, ◌++◌}
use Rattle.std.proofs.Common.{length, take, drop, Result, Ok, Err, append_assoc, refl, sym, ap, ◌∙◌}
use Rattle.std.proofs.Common.{subst, inl, inr, arith}
use Rattle.std.specs.Prelude.{⊤, IfErr, Option, Some}
use Rattle.std.specs.Str.{bytes_eq}
use Rattle.std.proofs.lemmas.List.{length-drop, length-take-le, take-append-drop, take_at}
use Rattle.std.proofs.lemmas.Slice.Eq.{bytes_eq-Decides}
use Rattle.st_format.specs.Device.{AreOctets}
use Rattle.st_format.specs.Fields.{Fields}
use Rattle.st_format.specs.Pgroup.{bits_of}
use Rattle.st_format.specs.Samples.{values_in}
use Rattle.media_file.specs.declared.fault.FileFault.{FileFault}
use Rattle.media_file.specs.declared.fault.FileFault.TheVariants.{NoMemory, Device, BadName}
use Rattle.media_file.specs.declared.fault.FileFault.TheVariants.{BadVersion, Truncated, BadField}
use Rattle.media_file.specs.declared.fault.FileFault.TheVariants.{TrailingBytes, MixedGroup}
use Rattle.media_file.specs.declared.fault.FileFault.TheVariants.{TooManyRecords}
use Rattle.media_file.specs.declared.front.Version.{Version}
use Rattle.media_file.specs.declared.front.Version.TheVariants.{One, Two}
use Rattle.media_file.specs.Blocks.{block_at, block_of}
use Rattle.media_file.specs.Faults.{IfContent, file_fault_origin}
use Rattle.media_file.specs.Fields.{Fails, field_at, nothing_at}
use Rattle.st_format.specs.Reading.{◌>>=◌}
use Rattle.media_file.specs.Fronts.{kind_at, kind_text, picture_name, version_text}
use Rattle.st_format.specs.Given.{with_rest}
use Rattle.media_file.specs.PictureFaults.{HasCutGroups, HasPictureHead, HasNoFormat}
use Rattle.media_file.specs.PictureFaults.{HasOtherThanOne}
use Rattle.media_file.specs.PictureFaults.{HasTrailing, IsCutPicture, IsFormat, IsPictureFault}
use Rattle.media_file.specs.PictureFaults.IsCutPicture.{Kind, Block, Groups}
use Rattle.media_file.specs.PictureFile.{Shown, one_at, one_by, picture_walk}
use Rattle.media_file.specs.PictureFile.{raster_at}
use Rattle.media_file.specs.PictureFile.{raster_octets, shown_by}
use Rattle.media_file.specs.StateFile.{format_text}
use Rattle.media_file.proofs.BlockFaults.{block_again, block_fails, block_read}
use Rattle.media_file.proofs.Failing.{differ, field_fails, field_short, field_whole, not_both}
use Rattle.media_file.proofs.Failing.{same_fault, split_fails}
use Rattle.media_file.proofs.Found.{failed, field_takes, given, kind_takes, split_then}
use Rattle.media_file.proofs.KindFaults.{KindFails, kind_cut, kind_fails, kind_tells, name_tells}
use Rattle.media_file.proofs.KindFaults.{version_tells}
use Rattle.media_file.proofs.KindFaults.KindFails.{Cut, Name, Digits}
use Rattle.media_file.proofs.Splits.{AreOctets-back, field_again}
use Rattle.st_format.proofs.Octets.{AreOctets-take}
use Rattle.st_format.proofs.Origins.{if_content_weaker}

abbrev Part : Type 0
Part = List ℕ × List ℕ

abbrev Kinded : Type 0
Kinded = Version × List ℕ

abbrev Formed : Type 0
Formed = Fields × List ℕ

abbrev Answer : Type 0
Answer = Result (Shown × List ℕ) FileFault

abbrev read_one : Kinded → Result Kinded FileFault
read_one x = one_by x.0 x.1

abbrev read_block : Part → Result Formed FileFault
read_block x = with_rest (block_of x.0) x.1

abbrev with_behind : List ℕ → Fields → Result Formed FileFault
with_behind rest f = Ok (f, rest)

abbrev read_samples : Fields → Part → Result Part FileFault
read_samples f x = Ok (values_in (bits_of f.depth) x.0, x.1)

abbrev showing : Fields → List ℕ → ⊤ × List ℕ → Answer
showing f samples e = Ok (shown_by f samples, e.1)

abbrev read_end : Fields → Part → Answer
read_end f s = nothing_at s.1 >>= showing f s.0

abbrev read_raster : Formed → Answer
read_raster f = raster_at f.0 f.1 >>= read_end f.0

abbrev read_format : Kinded → Answer
read_format v = block_at v.1 >>= read_raster

-- ---- name and version

by_kind : (octets : List ℕ) (e : FileFault) → KindFails picture_name octets e
    → IsPictureFault e octets
by_kind octets e (Cut is lt) = let c : IsCutPicture octets = Kind lt in
    subst (λ (k : FileFault). IsPictureFault k octets) is c
by_kind octets e (Name is other) = subst (λ (k : FileFault). IsPictureFault k octets) is other
by_kind octets e (Digits is other) =
    let w : HasOtherThanOne octets picture_name
    = record { version = other.version; kind = other.kind; other = other.other One } in
    subst (λ (k : FileFault). IsPictureFault k octets) is w

by_version : (v : Version) (rest octets : List ℕ) (e : FileFault)
    → octets ≡ kind_text picture_name v ++ rest → one_by v rest ≡ Err e → IsPictureFault e octets
by_version One rest octets e whole h = absurd (not_both Kinded (One, rest) e h)
by_version Two rest octets e whole h =
    let w : HasOtherThanOne octets picture_name = record {
      version = codes "02";
      kind = record {
        behind = rest;
        six = refl;
        two = refl;
        whole = whole ∙ append_assoc picture_name (codes "02") rest;
      };
      other = differ (codes "02") (codes "01") refl;
    } in
    subst (λ (k : FileFault). IsPictureFault k octets) (same_fault Kinded BadVersion e h) w

one_fails : (octets : List ℕ) (e : FileFault) → one_at picture_name octets ≡ Err e
    → IsPictureFault e octets
unfolding one_at
one_fails octets e h =
    elim (split_fails (kind_at picture_name octets) read_one e h) [
      | inl p ↦ by_kind octets e (kind_fails picture_name octets e p)
      | inr t ↦ by_version t.first.0 t.first.1 octets e
          (kind_takes picture_name octets t.first t.is) t.next
    ]

one_version : (octets : List ℕ) (v : Version) (rest : List ℕ) (x : Kinded)
    → octets ≡ kind_text picture_name v ++ rest → one_by v rest ≡ Ok x
    → octets ≡ kind_text picture_name One ++ x.1
one_version octets One rest x whole h =
    let same : (One, rest) ≡ x = ap (λ (r : Result Kinded FileFault). given r x) h in
    whole ∙ ap (λ (y : Kinded). kind_text picture_name One ++ y.1) same
one_version octets Two rest x whole h = absurd (not_both Kinded x BadVersion (sym h))

one_takes : (octets : List ℕ) (x : Kinded) → one_at picture_name octets ≡ Ok x
    → octets ≡ kind_text picture_name One ++ x.1
unfolding one_at
one_takes octets x h =
    let t = split_then (kind_at picture_name octets) read_one x h in
    one_version octets t.first.0 t.first.1 x (kind_takes picture_name octets t.first t.is) t.next

one_tells : (octets : List ℕ) (e : FileFault) → kind_at picture_name octets ≡ Err e
    → one_at picture_name octets ≡ Err e
unfolding one_at
one_tells octets e h = ap (λ (r : Result Kinded FileFault). r >>= read_one) h

one_again : (rest : List ℕ)
    → one_at picture_name (kind_text picture_name One ++ rest) ≡ Ok (One, rest)
unfolding one_at
one_again rest
    = ap (λ (r : Result Kinded FileFault). r >>= read_one) (kind_tells picture_name One rest refl)

two_again : (rest : List ℕ)
    → one_at picture_name (kind_text picture_name Two ++ rest) ≡ Err BadVersion
unfolding one_at
two_again rest
    = ap (λ (r : Result Kinded FileFault). r >>= read_one) (kind_tells picture_name Two rest refl)

pub neither : (version : List ℕ) → (version ≡ codes "01" → ⊥) → (version ≡ codes "02" → ⊥)
    → (v : Version) → version ≡ version_text v → ⊥
neither version one two One p = one p
neither version one two Two p = two p

version_by : (octets : List ℕ) (h : HasOtherThanOne octets picture_name) (b : Bool)
    → bytes_eq h.version (codes "02") ≡ b → one_at picture_name octets ≡ Err BadVersion
version_by octets h true e =
    let same : h.version ≡ codes "02" = (bytes_eq-Decides h.version (codes "02")).0 e in
    ap (one_at picture_name) (h.kind.whole
    ∙ ap (λ (t : List ℕ). picture_name ++ (t ++ h.kind.behind)) same) ∙ two_again h.kind.behind
version_by octets h false e =
    one_tells octets BadVersion
    (version_tells picture_name octets
    (record {
      version = h.version;
      kind = h.kind;
      other = neither h.version h.other (differ h.version (codes "02") e);
    }))

-- ---- the format block

block_fault : (octets rest : List ℕ) (e : FileFault) → octets ≡ kind_text picture_name One ++ rest
    → block_at rest ≡ Err e → IsPictureFault e octets
unfolding block_at
block_fault octets rest e whole h =
    elim (split_fails (field_at 14 rest) read_block e h) [
      | inl p ↦
          let s = field_fails 14 rest e p in
          let c : IsCutPicture octets
          = Block (record { behind = rest; whole = whole; short = s.short }) in
          subst (λ (k : FileFault). IsPictureFault k octets) s.is c
      | inr t ↦ elim (split_fails (block_of t.first.0) (with_behind t.first.1) e t.next) [
        | inl p ↦
            let f = field_takes 14 rest t.first t.is in
            let len : length t.first.0 ≡ 14
            = ap length (sym f.front) ∙ length-take-le 14 rest f.long in
            let cut : rest ≡ t.first.0 ++ t.first.1
            = sym (take-append-drop 14 rest) ∙ ap (λ (k : List ℕ). k ++ drop 14 rest) f.front
            ∙ ap (λ (k : List ℕ). t.first.0 ++ k) f.rest in
            let w : HasNoFormat octets = record {
              block = t.first.0;
              behind = t.first.1;
              whole = whole ∙ ap (λ (o : List ℕ). kind_text picture_name One ++ o) cut;
              long = len;
              none = λ g is same. not_both Fields g e (sym (ap block_of same ∙ block_again g is)
                  ∙ p);
            } in
            subst (λ (k : FileFault). IsPictureFault k octets) (block_fails t.first.0 e len p) w
        | inr u ↦ absurd (not_both Formed (u.first, t.first.1) e u.next)
      ]
    ]

pub record Stands (octets : List ℕ) (x : Formed) : Type 0 where
  pub format : IsFormat x.0
  pub text : octets ≡ format_text x.0 ++ x.1

pub block_stands : (rest : List ℕ) (x : Formed) → AreOctets rest → block_at rest ≡ Ok x
    → Stands rest x
unfolding block_at
block_stands rest x bytes h =
    let t = split_then (field_at 14 rest) read_block x h in
    let u = split_then (block_of t.first.0) (with_behind t.first.1) x t.next in
    let f = field_takes 14 rest t.first t.is in
    let len : length t.first.0 ≡ 14 = ap length (sym f.front) ∙ length-take-le 14 rest f.long in
    let b = block_read t.first.0 u.first (subst AreOctets f.front (AreOctets-take 14 rest bytes))
    len u.is in
    let same : (u.first, t.first.1) ≡ x = ap (λ (r : Result Formed FileFault). given r x) u.next in
    let made : Stands rest (u.first, t.first.1) = record {
      format = b.format;
      text = sym (take-append-drop 14 rest)
          ∙ ap (λ (k : List ℕ). k ++ drop 14 rest) (f.front ∙ b.text)
          ∙ ap (λ (k : List ℕ). format_text u.first ++ k) f.rest;
    } in
    subst (Stands rest) same made

pub block_tells : (f : Fields) (behind : List ℕ) → IsFormat f
    → block_at (format_text f ++ behind) ≡ Ok (f, behind)
unfolding block_at
block_tells f behind is =
    ap (λ (r : Result Part FileFault). r >>= read_block)
    (field_again 14 (format_text f) behind refl)
    ∙ ap (λ (r : Result Fields FileFault). with_rest r behind) (block_again f is)

pub block_short : (behind : List ℕ) → length behind < 14 → block_at behind ≡ Err Truncated
unfolding block_at
block_short behind lt
    = ap (λ (r : Result Part FileFault). r >>= read_block) (field_short 14 behind lt)

refused : (block : List ℕ) (r : Result Fields FileFault) → AreOctets block → length block ≡ 14
    → ((f : Fields) → IsFormat f → block ≡ format_text f → ⊥) → block_of block ≡ r
    → r ≡ failed Fields BadField
refused block (Ok f) bytes len none is = let b = block_read block f bytes len is in
    absurd (none f b.format b.text)
refused block (Err e) bytes len none is = ap (failed Fields) (sym (block_fails block e len is))

pub block_refused : (block behind : List ℕ) → AreOctets (block ++ behind) → length block ≡ 14
    → ((f : Fields) → IsFormat f → block ≡ format_text f → ⊥)
    → block_at (block ++ behind) ≡ Err BadField
unfolding block_at
block_refused block behind bytes len none =
    let own : AreOctets block
    = subst AreOctets (take_at block behind 14 len) (AreOctets-take 14 (block ++ behind) bytes)
    in
    ap (λ (r : Result Part FileFault). r >>= read_block) (field_again 14 block behind len)
    ∙ ap (λ (r : Result Fields FileFault). with_rest r behind)
    (refused block (block_of block) own len none refl)

-- ---- the pgroups, and the end

pub nothing_fails : (octets : List ℕ) (e : FileFault) → nothing_at octets ≡ Err e
    → (TrailingBytes ≡ e) × (0 < length octets)
nothing_fails [] e h = absurd (not_both (⊤ × List ℕ) (tt, []) e h)
nothing_fails (octet ∷ octets) e h = (same_fault (⊤ × List ℕ) TrailingBytes e h, omega arith)

pub nothing_tells : (octets : List ℕ) → 0 < length octets → nothing_at octets ≡ Err TrailingBytes
nothing_tells [] more = absurd (omega arith)
nothing_tells (octet ∷ octets) more = refl

longer : (l d n : ℕ) → d ≡ l - n → 0 < d → n < l
longer l d n p q = omega arith

left : (l d n : ℕ) → d ≡ l - n → n < l → 0 < d
left l d n p q = omega arith

record Rastered (f : Fields) (octets : List ℕ) (x : Part) : Type 0 where
  rest : length x.1 ≡ length octets - raster_octets f

raster_takes : (f : Fields) (octets : List ℕ) (x : Part) → raster_at f octets ≡ Ok x
    → Rastered f octets x
unfolding raster_at
raster_takes f octets x h =
    let n : ℕ = raster_octets f in
    let t = split_then (field_at n octets) (read_samples f) x h in
    let g = field_takes n octets t.first t.is in
    let same : (values_in (bits_of f.depth) t.first.0, t.first.1) ≡ x
    = ap (λ (r : Result Part FileFault). given r x) t.next in
    record {
      rest = ap (λ (p : Part). length p.1) (sym same) ∙ ap length (sym g.rest)
          ∙ length-drop n octets;
    }

raster_fault : (f : Fields) (behind octets : List ℕ) (e : FileFault)
    → HasPictureHead octets f behind
    → raster_at f behind ≡ Err e → IsPictureFault e octets
unfolding raster_at
raster_fault f behind octets e head h =
    elim (split_fails (field_at (raster_octets f) behind) (read_samples f) e h) [
      | inl p ↦
          let s = field_fails (raster_octets f) behind e p in
          let g : HasCutGroups octets
          = record { format = f; behind = behind; head = head; short = s.short } in
          let c : IsCutPicture octets = Groups g in
          subst (λ (k : FileFault). IsPictureFault k octets) s.is c
      | inr t ↦ absurd (not_both Part (values_in (bits_of f.depth) t.first.0, t.first.1) e t.next)
    ]

end_fault : (f : Fields) (behind octets : List ℕ) (x : Part) (e : FileFault)
    → HasPictureHead octets f behind → raster_at f behind ≡ Ok x → read_end f x ≡ Err e
    → IsPictureFault e octets
end_fault f behind octets x e head is h =
    elim (split_fails (nothing_at x.1) (showing f x.0) e h) [
      | inl p ↦
          let n = nothing_fails x.1 e p in
          let r = raster_takes f behind x is in
          let w : HasTrailing octets
          = record {
            format = f;
            behind = behind;
            head = head;
            long = longer (length behind) (length x.1) (raster_octets f) r.rest n.1;
          } in
          subst (λ (k : FileFault). IsPictureFault k octets) n.0 w
      | inr u ↦ absurd (not_both (Shown × List ℕ) (shown_by f x.0, u.first.1) e u.next)
    ]

raster_short : (f : Fields) (behind : List ℕ) → length behind < raster_octets f
    → raster_at f behind ≡ Err Truncated
unfolding raster_at
raster_short f behind lt
    = ap (λ (r : Result Part FileFault). r >>= read_samples f)
    (field_short (raster_octets f) behind lt)

raster_whole : (f : Fields) (behind : List ℕ) → raster_octets f < length behind
    → raster_at f behind
    ≡ Ok (
      values_in (bits_of f.depth) (take (raster_octets f) behind),
      drop (raster_octets f)
          behind,
    )
unfolding raster_at
raster_whole f behind lt
    = ap (λ (r : Result Part FileFault). r >>= read_samples f)
    (field_whole (raster_octets f) behind (omega arith))

-- ---- what is read has the fault

pub picture_fails : (e : FileFault) (octets : List ℕ) → AreOctets octets
    → picture_walk octets ≡ Err e
    → IsPictureFault e octets
unfolding picture_walk
picture_fails e octets bytes h =
    elim (split_fails (one_at picture_name octets) read_format e h) [
      | inl p ↦ one_fails octets e p
      | inr v ↦
          let whole : octets ≡ kind_text picture_name One ++ v.first.1
          = one_takes octets v.first v.is in
          let rest : AreOctets v.first.1
          = AreOctets-back (kind_text picture_name One) v.first.1 (subst AreOctets whole bytes)
          in
          elim (split_fails (block_at v.first.1) read_raster e v.next) [
            | inl p ↦ block_fault octets v.first.1 e whole p
            | inr f ↦
                let s = block_stands v.first.1 f.first rest f.is in
                let head : HasPictureHead octets f.first.0 f.first.1 = record {
                  is = s.format;
                  whole = whole ∙ ap (λ (o : List ℕ). kind_text picture_name One ++ o) s.text
                      ∙ sym (append_assoc (kind_text picture_name One) (format_text f.first.0)
                      f.first.1);
                } in
                elim (split_fails (raster_at f.first.0 f.first.1) (read_end f.first.0) e f.next) [
                  | inl p ↦ raster_fault f.first.0 f.first.1 octets e head p
                  | inr r ↦ end_fault f.first.0 f.first.1 octets r.first e head r.is r.next
                ]
          ]
    ]

-- ---- what has the fault is read so

front_tells : (octets : List ℕ) (e : FileFault) → one_at picture_name octets ≡ Err e
    → picture_walk octets ≡ Err e
unfolding picture_walk
front_tells octets e h = ap (λ (r : Result Kinded FileFault). r >>= read_format) h

format_tells : (octets rest : List ℕ) (e : FileFault) → octets ≡ kind_text picture_name One ++ rest
    → block_at rest ≡ Err e → picture_walk octets ≡ Err e
unfolding picture_walk
format_tells octets rest e whole h =
    ap (λ (o : List ℕ). one_at picture_name o >>= read_format) whole
    ∙ ap (λ (r : Result Kinded FileFault). r >>= read_format) (one_again rest)
    ∙ ap (λ (r : Result Formed FileFault). r >>= read_raster) h

head_tells : (f : Fields) (behind octets : List ℕ) → HasPictureHead octets f behind
    → picture_walk octets ≡ read_raster (f, behind)
unfolding picture_walk
head_tells f behind octets head =
    let kind : List ℕ = kind_text picture_name One in
    ap (λ (o : List ℕ). one_at picture_name o >>= read_format) (head.whole
    ∙ append_assoc kind (format_text f) behind)
    ∙ ap (λ (r : Result Kinded FileFault). r >>= read_format) (one_again (format_text f ++ behind))
    ∙ ap (λ (r : Result Formed FileFault). r >>= read_raster) (block_tells f behind head.is)

cut_tells : (octets : List ℕ) → IsCutPicture octets → picture_walk octets ≡ Err Truncated
cut_tells octets (Kind lt)
    = front_tells octets Truncated (one_tells octets Truncated (kind_cut picture_name octets lt))
cut_tells octets (Block h)
    = format_tells octets h.behind Truncated h.whole (block_short h.behind h.short)
cut_tells octets (Groups h) =
    head_tells h.format h.behind octets h.head
    ∙ ap (λ (r : Result Part FileFault). r >>= read_end h.format)
    (raster_short h.format h.behind h.short)

trailing_tells : (octets : List ℕ) → HasTrailing octets → picture_walk octets ≡ Err TrailingBytes
trailing_tells octets h =
    let n : ℕ = raster_octets h.format in
    let values : List ℕ = values_in (bits_of h.format.depth) (take n h.behind) in
    let some : 0 < length (drop n h.behind)
    = left (length h.behind) (length (drop n h.behind)) n (length-drop n h.behind) h.long in
    head_tells h.format h.behind octets h.head
    ∙ ap (λ (r : Result Part FileFault). r >>= read_end h.format)
    (raster_whole h.format h.behind h.long)
    ∙ ap (λ (r : Result (⊤ × List ℕ) FileFault). r >>= showing h.format values)
    (nothing_tells (drop n h.behind) some)

no_format_tells : (octets : List ℕ) → AreOctets octets → HasNoFormat octets
    → picture_walk octets ≡ Err BadField
no_format_tells octets bytes h =
    let rest : AreOctets (h.block ++ h.behind)
    = AreOctets-back (kind_text picture_name One) (h.block ++ h.behind)
    (subst AreOctets h.whole bytes) in
    format_tells octets (h.block ++ h.behind) BadField h.whole
    (block_refused h.block h.behind rest h.long h.none)

pub picture_tells : (e : FileFault) (octets : List ℕ) → AreOctets octets → IsPictureFault e octets
    → picture_walk octets ≡ Err e
picture_tells BadName octets bytes h
    = front_tells octets BadName (one_tells octets BadName (name_tells picture_name octets h))
picture_tells BadVersion octets bytes h
    = front_tells octets BadVersion (version_by octets h (bytes_eq h.version (codes "02")) refl)
picture_tells Truncated octets bytes h = cut_tells octets h
picture_tells BadField octets bytes h = no_format_tells octets bytes h
picture_tells TrailingBytes octets bytes h = trailing_tells octets h
picture_tells NoMemory octets bytes h = absurd h
picture_tells Device octets bytes h = absurd h
picture_tells MixedGroup octets bytes h = absurd h
picture_tells TooManyRecords octets bytes h = absurd h

pub one_picture_fault : (e f : FileFault) (octets : List ℕ) → AreOctets octets
    → IsPictureFault e octets → IsPictureFault f octets → e ≡ f
one_picture_fault e f octets bytes p q
    = same_fault (Shown × List ℕ) e f (sym (picture_tells e octets bytes p)
    ∙ picture_tells f octets bytes q)

-- what a reader of pictures' files owes of a fault
pub picture_wrong : {X : Type 0} (told : Option (List ℕ)) (r : Result X FileFault)
    → IfErr r (λ f. Fails picture_walk told f)
    → IfErr r (λ f. (octets : List ℕ) → told ≡ Some octets → AreOctets octets
    → IfContent f (IsPictureFault f octets))
picture_wrong told (Ok x) fails = tt
picture_wrong told (Err f) fails =
    λ octets is bytes. if_content_weaker file_fault_origin f (picture_walk octets ≡ Err f)
    (IsPictureFault f octets)
    (picture_fails f octets bytes)
    (subst (λ (o : Option (List ℕ)). Fails picture_walk o f) is fails)
