-- What is read as a capture is one.
use Rattle.std.proofs.Common.{◌≡◌, ℕ, zero, suc, ◌^◌, ◌<◌, ◌≤◌, cond, ltb, List, [], ◌∷◌, ◌++◌}
use Rattle.std.proofs.Common.{length, take, drop, Result, Ok, Err, refl, sym, ap, ◌∙◌, subst, inl}
use Rattle.std.proofs.Common.{inr, arith}
use Rattle.std.specs.Prelude.{codes}
use Rattle.std.specs.Int.{w16, from_be_bytes, to_be_bytes}
use Rattle.std.specs.Str.{bytes_eq}
use Rattle.std.proofs.lemmas.Bool.{ltb-false}
use Rattle.std.proofs.lemmas.List.{length-map, length-take-le, take-append-drop}
use Rattle.std.proofs.lemmas.Nat.{be_bytes_2}
use Rattle.std.proofs.lemmas.Slice.Eq.{bytes_eq-Decides}
use Rattle.media_file.specs.declared.fault.FileFault.{FileFault}
use Rattle.media_file.specs.declared.fault.FileFault.TheVariants.{BadName, BadVersion, Truncated}
use Rattle.media_file.specs.declared.fault.FileFault.TheVariants.{TooManyRecords}
use Rattle.media_file.specs.declared.front.Version.{Version}
use Rattle.media_file.specs.declared.front.Version.TheVariants.{One, Two}
use Rattle.std.specs.Prelude.{Option, None, Some, IfOk, OnOk, map}
use Rattle.std.specs.Io.KnownBytes.{IsAtEnd}
use Rattle.media_file.specs.declared.capture.Capture.{Capture}
use Rattle.media_file.specs.Capture.{Content, IsCapture, capture_walk, capture_seen, entry_seen}
use Rattle.media_file.specs.Capture.{records_at}
use Rattle.media_file.specs.Fields.{field_at}
use Rattle.st_format.specs.Given.{Leaves, Takes, field_by, with_rest}
use Rattle.st_format.specs.Reading.{◌>>=◌}
use Rattle.media_file.specs.Fronts.{HasFront, capture_name, counted_text, front_at, front_text}
use Rattle.media_file.specs.Fronts.{kind_at, kind_of, kind_text, text_at, text_by, version_of}
use Rattle.media_file.specs.Reading.{rest_at}
use Rattle.media_file.specs.Records.{AllFit, Entry, path_octet, records_text, rest_text}
use Rattle.st_format.specs.Device.{AreOctets, TellsOctets}
use Rattle.media_file.proofs.Entries.{chosen}
use Rattle.media_file.proofs.Splits.{AreOctets-back, AreOctets-tail, below_16}
use Rattle.st_format.proofs.Octets.{AreOctets-take}
use Rattle.media_file.proofs.Splits.{rest_takes}

abbrev pub failed : (B : Type 0) → FileFault → Result B FileFault
failed B d = Err d

abbrev pub given : {B : Type 0} → Result B FileFault → B → B
given (Ok x) y = x
given (Err d) y = y

-- a reading that is followed by another
pub record Then (A B : Type 0) (r : Result A FileFault) (f : A → Result B FileFault)
    (y : B) : Type 0 where
  pub first : A
  pub is : r ≡ Ok first
  pub next : f first ≡ Ok y

pub split_then : {A B : Type 0} (r : Result A FileFault) (f : A → Result B FileFault) (y : B)
    → (r >>= f) ≡ Ok y → Then A B r f y
split_then (Ok x) f y e = record { first = x; is = refl; next = e }
split_then {A} {B} (Err d) f y e = let bad : failed B d ≡ Ok y = e in absurd cc

abbrev with_tail : Version → List ℕ → Result (Version × List ℕ) FileFault
with_tail v rest = Ok (v, rest)

abbrev more : Entry → List Entry × List ℕ → Result (List Entry × List ℕ) FileFault
more e z = Ok (e ∷ z.0, z.1)

abbrev whole : List ℕ → List Entry × List ℕ → Result (Content × List ℕ) FileFault
whole text z = Ok (record { text = text; records = z.0 }, z.1)

-- so many octets, cut off
pub record Field (n : ℕ) (octets : List ℕ) (x : List ℕ × List ℕ) : Type 0 where
  pub long : n ≤ length octets
  pub front : take n octets ≡ x.0
  pub rest : drop n octets ≡ x.1

pub field_takes : (n : ℕ) (octets : List ℕ) (x : List ℕ × List ℕ) → field_at n octets ≡ Ok x
    → Field n octets x
unfolding field_by
field_takes n octets x e =
    elim (chosen (ltb (length octets) n) (failed (List ℕ × List ℕ) Truncated)
    (Ok (take n octets, drop n octets)) (Ok x) e) [
      | inl w ↦ let bad : failed (List ℕ × List ℕ) Truncated ≡ Ok x = w.1 in absurd cc
      | inr w ↦ let same : (take n octets, drop n octets) ≡ x =
          ap (λ (r : Result (List ℕ × List ℕ) FileFault). given r x) w.1 in
          record {
            long = ltb-false (length octets) n w.0;
            front =
                ap (λ (p : List ℕ × List ℕ). p.0) same;
            rest =
                ap (λ (p : List ℕ × List ℕ). p.1) same;
          }
    ]

-- the version of eight octets
version_is : (name x : List ℕ) (v : Version) → kind_of name x ≡ Ok v → x ≡ kind_text name v
version_is name x v e =
    elim (chosen (bytes_eq (take 6 x) name) (version_of (drop 6 x)) (failed Version BadName)
    (Ok v) e) [
      | inl w ↦
          let same : take 6 x ≡ name = (bytes_eq-Decides (take 6 x) name).0 w.0 in
          let start : x ≡ name ++ drop 6 x =
          sym (take-append-drop 6 x) ∙ ap (λ (t : List ℕ). t ++ drop 6 x) same in
          elim (chosen (bytes_eq (drop 6 x) (codes "01")) (Ok One)
          (cond (bytes_eq (drop 6 x) (codes "02")) (Ok Two) (failed Version BadVersion))
          (Ok v) w.1) [
            | inl u ↦
                let one : One ≡ v = ap (λ (r : Result Version FileFault). given r v) u.1 in
                start ∙ ap (λ (t : List ℕ). name ++ t)
                ((bytes_eq-Decides (drop 6 x) (codes "01")).0 u.0) ∙ ap (kind_text name) one
            | inr u ↦
                elim (chosen (bytes_eq (drop 6 x) (codes "02")) (Ok Two)
                (failed Version BadVersion) (Ok v) u.1) [
                  | inl t ↦
                      let same : Two ≡ v = ap (λ (r : Result Version FileFault). given r v) t.1 in
                      start ∙ ap (λ (k : List ℕ). name ++ k)
                      ((bytes_eq-Decides (drop 6 x) (codes "02")).0 t.0)
                      ∙ ap (kind_text name) same
                  | inr t ↦ let bad : failed Version BadVersion ≡ Ok v = t.1 in absurd cc
                ]
          ]
      | inr w ↦ let bad : failed Version BadName ≡ Ok v = w.1 in absurd cc
    ]

pub kind_takes : (name octets : List ℕ) (x : Version × List ℕ) → kind_at name octets ≡ Ok x
    → octets ≡ kind_text name x.0 ++ x.1
unfolding kind_at
kind_takes name octets x e =
    let a = split_then (field_at 8 octets) (λ y. with_rest (kind_of name y.0) y.1) x e in
    let b = split_then (kind_of name a.first.0) (λ v. with_tail v a.first.1) x a.next in
    let f = field_takes 8 octets a.first a.is in
    let same : (b.first, a.first.1) ≡ x =
    ap (λ (r : Result (Version × List ℕ) FileFault). given r x) b.next in
    sym (take-append-drop 8 octets)
    ∙ ap (λ (t : List ℕ). t ++ drop 8 octets) (f.front ∙ version_is name a.first.0 b.first b.is)
    ∙ ap (λ (t : List ℕ). kind_text name b.first ++ t) f.rest
    ∙ ap (λ (p : Version × List ℕ). kind_text name p.0 ++ p.1) same

record TakesText (octets : List ℕ) (x : List ℕ × List ℕ) : Type 0 where
  fits : length x.0 < 2 ^ 16
  text : octets ≡ counted_text x.0 ++ x.1

text_takes : (octets : List ℕ) (x : List ℕ × List ℕ) → AreOctets octets → text_at octets ≡ Ok x
    → TakesText octets x
unfolding text_at
text_takes octets x bytes e =
    let a = split_then (field_at 2 octets) (λ y. field_at (from_be_bytes w16 y.0) y.1) x e in
    let f = field_takes 2 octets a.first a.is in
    let n : ℕ = from_be_bytes w16 a.first.0 in
    let g = field_takes n a.first.1 x a.next in
    let two : AreOctets a.first.0 = subst AreOctets f.front (AreOctets-take 2 octets bytes) in
    let len2 : length a.first.0 ≡ 2 = ap length (sym f.front) ∙ length-take-le 2 octets f.long in
    let len : length x.0 ≡ n = ap length (sym g.front) ∙ length-take-le n a.first.1 g.long in
    let count : to_be_bytes w16 (length x.0) ≡ a.first.0 =
    be_bytes_2 a.first.0 (length x.0) len2 two len in
    record {
      fits = subst (λ (k : ℕ). k < 2 ^ 16) (sym len) (below_16 a.first.0 two);
      text =
          sym (take-append-drop 2 octets)
          ∙ ap (λ (t : List ℕ). t ++ drop 2 octets) (f.front ∙ sym count)
          ∙ ap (λ (t : List ℕ). to_be_bytes w16 (length x.0) ++ t)
          (f.rest ∙ sym (take-append-drop n a.first.1)
          ∙ ap (λ (t : List ℕ). t ++ drop n a.first.1) g.front
          ∙ ap (λ (t : List ℕ). x.0 ++ t) g.rest);
    }

record TakesFront (octets : List ℕ) (x : List ℕ × List ℕ) : Type 0 where
  version : Version
  front : HasFront version x.0
  text : octets ≡ front_text version x.0 ++ x.1

front_by : (v : Version) (octets rest : List ℕ) (x : List ℕ × List ℕ) → AreOctets rest
    → octets ≡ kind_text capture_name v ++ rest → text_by v rest ≡ Ok x → TakesFront octets x
front_by One octets rest x bytes p e =
    let same : ([], rest) ≡ x = ap (λ (r : Result (List ℕ × List ℕ) FileFault). given r x) e in
    record {
      version = One;
      front = sym (ap (λ (q : List ℕ × List ℕ). q.0) same);
      text =
          p ∙ ap (λ (t : List ℕ). kind_text capture_name One ++ t)
          (ap (λ (q : List ℕ × List ℕ). q.1) same);
    }
front_by Two octets rest x bytes p e =
    let t = text_takes rest x bytes e in
    record {
      version = Two;
      front = t.fits;
      text =
          p ∙ ap (λ (k : List ℕ). kind_text capture_name Two ++ k) t.text;
    }

front_takes : (octets : List ℕ) (x : List ℕ × List ℕ) → AreOctets octets → front_at octets ≡ Ok x
    → TakesFront octets x
unfolding front_at
front_takes octets x bytes e =
    let a = split_then (kind_at capture_name octets) (λ y. text_by y.0 y.1) x e in
    let k = kind_takes capture_name octets a.first a.is in
    front_by a.first.0 octets a.first.1 x
    (AreOctets-back (kind_text capture_name a.first.0) a.first.1
    (subst AreOctets k bytes)) k a.next

record TakesRecords (limit : ℕ) (octets : List ℕ) (x : List Entry × List ℕ) : Type 0 where
  fit : AllFit x.0
  few : length x.0 ≤ limit
  text : octets ≡ records_text x.0
  end : x.1 ≡ []

no_more : (limit : ℕ) (x : List Entry × List ℕ) → ([], []) ≡ x → TakesRecords limit [] x
no_more limit x same =
    subst (TakesRecords limit []) same
    (record { fit = tt; few = omega arith; text = refl; end = refl })

records_takes : (limit : ℕ) (octets : List ℕ) (x : List Entry × List ℕ) → AreOctets octets
    → records_at limit octets ≡ Ok x → TakesRecords limit octets x
unfolding records_at
records_takes zero [] x bytes e =
    no_more zero x (ap (λ (r : Result (List Entry × List ℕ) FileFault). given r x) e)
records_takes zero (first ∷ octets) x bytes e =
    let bad : failed (List Entry × List ℕ) TooManyRecords ≡ Ok x = e in absurd cc
records_takes (suc limit) [] x bytes e =
    no_more (suc limit) x (ap (λ (r : Result (List Entry × List ℕ) FileFault). given r x) e)
records_takes (suc limit) (first ∷ octets) x bytes e =
    let a = split_then (rest_at first octets) (λ y. records_at limit y.1 >>= λ z. more y.0 z) x e in
    let b = split_then (records_at limit a.first.1) (λ z. more a.first.0 z) x a.next in
    let t = rest_takes first octets a.first (AreOctets-tail first octets bytes) a.is in
    let rest : AreOctets a.first.1 =
    AreOctets-back (rest_text a.first.0) a.first.1
    (subst AreOctets t.text (AreOctets-tail first octets bytes)) in
    let r = records_takes limit a.first.1 b.first rest b.is in
    let same : (a.first.0 ∷ b.first.0, b.first.1) ≡ x =
    ap (λ (q : Result (List Entry × List ℕ) FileFault). given q x) b.next in
    subst (TakesRecords (suc limit) (first ∷ octets)) same (record {
      fit = (t.fits, r.fit);
      few = let h : length b.first.0 ≤ limit = r.few in omega (arith, h);
      text =
          ap (λ (k : ℕ). k ∷ octets) t.first_is
          ∙ ap (λ (o : List ℕ). path_octet a.first.0.path ∷ o)
          (t.text ∙ ap (λ (o : List ℕ). rest_text a.first.0 ++ o) r.text);
      end = r.end;
    })

-- What is read as a capture is one, all of it.
pub record Found (limit : ℕ) (octets : List ℕ) (x : Content × List ℕ) : Type 0 where
  pub is : IsCapture octets x.0
  pub few : length x.0.records ≤ limit
  pub all : x.1 ≡ []

pub capture_found : (limit : ℕ) (octets : List ℕ) (x : Content × List ℕ) → AreOctets octets
    → capture_walk limit octets ≡ Ok x → Found limit octets x
unfolding capture_walk
capture_found limit octets x bytes e =
    let a = split_then (front_at octets) (λ y. records_at limit y.1 >>= λ z. whole y.0 z) x e in
    let b = split_then (records_at limit a.first.1) (λ z. whole a.first.0 z) x a.next in
    let t = front_takes octets a.first bytes a.is in
    let r =
    records_takes limit a.first.1 b.first
    (AreOctets-back (front_text t.version a.first.0) a.first.1
    (subst AreOctets t.text bytes)) b.is in
    let same : (record { text = a.first.0; records = b.first.0 }, b.first.1) ≡ x =
    ap (λ (q : Result (Content × List ℕ) FileFault). given q x) b.next in
    subst (Found limit octets) same (record {
      is =
          record {
            version = t.version;
            front = t.front;
            fit = r.fit;
            whole =
                t.text ∙ ap (λ (o : List ℕ). front_text t.version a.first.0 ++ o) r.text;
          };
      few = r.few;
      all = r.end;
    })

found_by : {A : Type 0} (limit : ℕ) (octets : List ℕ) (new : Option (List ℕ)) (v : Capture A)
    → AreOctets octets → Leaves (capture_walk limit octets) (capture_seen v) new
    → IsCapture octets (capture_seen v) × (length v.records.items ≤ limit) × IsAtEnd new
found_by limit octets None v bytes p = absurd p
found_by limit octets (Some rest) v bytes p =
    let f = capture_found limit octets (capture_seen v, rest) bytes p in
    let count : length (map entry_seen v.records.items) ≡ length v.records.items =
    length-map v.records.items entry_seen in
    let few : length (map entry_seen v.records.items) ≤ limit = f.few in
    (f.is, omega (arith, count, few), f.all)

pub found_read : {A : Type 0} (limit : ℕ) (old new : Option (List ℕ))
    (r : Result (Capture A) FileFault)
    → IfOk r (λ v. Takes (capture_walk limit) old new (capture_seen v)) → OnOk r (TellsOctets old)
    → IfOk r
    (λ v. (octets : List ℕ) → old ≡ Some octets
    → IsCapture octets (capture_seen v) × (length v.records.items ≤ limit) × IsAtEnd new)
found_read limit old new (Ok v) p bytes =
    λ octets told. found_by limit octets new v (subst TellsOctets told bytes)
    (subst (λ (k : Option (List ℕ)). Takes (capture_walk limit) k new (capture_seen v)) told p)
found_read limit old new (Err f) p bytes = tt
