-- Name and version: each fault is read exactly where its condition holds.
use Rattle.std.proofs.Common.{◌≡◌, ℕ, Bool, false, cond, codes, List, ◌++◌, length, take, drop}
use Rattle.std.proofs.Common.{Result, Ok, Err, append_assoc, refl, sym, ap, ◌∙◌, subst, inl, inr}
use Rattle.std.proofs.Common.{arith}
use Rattle.std.specs.Str.{bytes_eq}
use Rattle.std.proofs.lemmas.List.{length-append, length-drop, length-take-le, take-append-drop}
use Rattle.std.proofs.lemmas.List.{take_at, drop_at}
use Rattle.std.proofs.lemmas.Slice.Eq.{bytes_eq-Decides}
use Rattle.media_file.specs.declared.fault.FileFault.{FileFault}
use Rattle.media_file.specs.declared.fault.FileFault.TheVariants.{BadName, BadVersion, Truncated}
use Rattle.media_file.specs.declared.front.Version.{Version}
use Rattle.media_file.specs.declared.front.Version.TheVariants.{One, Two}
use Rattle.media_file.specs.Fields.{field_at}
use Rattle.st_format.specs.Reading.{◌>>=◌}
use Rattle.media_file.specs.Fronts.{kind_at, kind_of, version_of, version_text}
use Rattle.st_format.specs.Given.{with_rest}
use Rattle.media_file.specs.KindFaults.{HasKind, HasOtherName, HasOtherVersion, IsCutKind}
use Rattle.media_file.proofs.Entries.{chosen}
use Rattle.media_file.proofs.Failing.{answered, apart, differ, field_fails, field_short, itself}
use Rattle.media_file.proofs.Failing.{not_both, same_fault, split_fails}
use Rattle.media_file.proofs.Found.{failed, field_takes}
use Rattle.media_file.proofs.Splits.{field_again}

-- ---- what is read has the fault

pub data KindFails (name octets : List ℕ) (e : FileFault) : Type 0 where
  Cut : Truncated ≡ e → IsCutKind octets → KindFails name octets e
  Name : BadName ≡ e → HasOtherName octets name → KindFails name octets e
  Digits : BadVersion ≡ e → HasOtherVersion octets name → KindFails name octets e

other_version : (x : List ℕ) → bytes_eq x (codes "01") ≡ false → bytes_eq x (codes "02") ≡ false
    → (v : Version) → x ≡ version_text v → ⊥
other_version x one two One p = differ x (codes "01") one p
other_version x one two Two p = differ x (codes "02") two p

record NoVersion (x : List ℕ) (e : FileFault) : Type 0 where
  is : BadVersion ≡ e
  other : (v : Version) → x ≡ version_text v → ⊥

no_version : (x : List ℕ) (e : FileFault) → version_of x ≡ Err e → NoVersion x e
no_version x e h =
    elim (chosen (bytes_eq x (codes "01")) (answered Version One)
    (cond (bytes_eq x (codes "02")) (answered Version Two) (failed Version BadVersion))
    (failed Version e) h) [
      | inl w ↦ absurd (not_both Version One e w.1)
      | inr w ↦ elim
          (chosen (bytes_eq x (codes "02")) (answered Version Two) (failed Version BadVersion)
          (failed Version e) w.1) [
            | inl u ↦ absurd (not_both Version Two e u.1)
            | inr u ↦ record {
              is = same_fault Version BadVersion e u.1;
              other = other_version x w.0 u.0;
            }
          ]
    ]

kind_parts : (x behind octets : List ℕ) → length x ≡ 8 → octets ≡ x ++ behind
    → HasKind octets (take 6 x) (drop 6 x)
kind_parts x behind octets len whole = record {
  behind = behind;
  six = length-take-le 6 x (omega arith);
  two = length-drop 6 x ∙ omega arith;
  whole = whole ∙ ap (λ (t : List ℕ). t ++ behind) (sym (take-append-drop 6 x))
      ∙ append_assoc (take 6 x) (drop 6 x) behind;
}

kind_of_fails : (name x octets : List ℕ) (e : FileFault) → HasKind octets (take 6 x) (drop 6 x)
    → kind_of name x ≡ Err e → KindFails name octets e
kind_of_fails name x octets e kind h =
    elim (chosen (bytes_eq (take 6 x) name) (version_of (drop 6 x)) (failed Version BadName)
    (failed Version e) h) [
      | inl w ↦
          let v = no_version (drop 6 x) e w.1 in
          let same : take 6 x ≡ name = (bytes_eq-Decides (take 6 x) name).0 w.0 in
          Digits v.is (record {
            version = drop 6 x;
            kind = subst (λ (k : List ℕ). HasKind octets k (drop 6 x)) same kind;
            other
                = v.other;
          })
      | inr w ↦ Name (same_fault Version BadName e w.1)
          (record {
            found = take 6 x;
            version = drop 6 x;
            kind = kind;
            other = differ (take 6 x) name w.0;
          })
    ]

abbrev with_tail : List ℕ → Version → Result (Version × List ℕ) FileFault
with_tail rest v = answered (Version × List ℕ) (v, rest)

pub kind_fails : (name octets : List ℕ) (e : FileFault) → kind_at name octets ≡ Err e
    → KindFails name octets e
unfolding kind_at
kind_fails name octets e h =
    elim (split_fails (field_at 8 octets) (λ x. with_rest (kind_of name x.0) x.1) e h) [
      | inl p ↦ let s = field_fails 8 octets e p in Cut s.is s.short
      | inr t ↦
          let f = field_takes 8 octets t.first t.is in
          let len : length t.first.0 ≡ 8
          = ap length (sym f.front) ∙ length-take-le 8 octets f.long in
          let whole : octets ≡ t.first.0 ++ t.first.1
          = sym (take-append-drop 8 octets) ∙ ap (λ (k : List ℕ). k ++ drop 8 octets) f.front
          ∙ ap (λ (k : List ℕ). t.first.0 ++ k) f.rest in
          elim (split_fails (kind_of name t.first.0) (with_tail t.first.1) e t.next) [
            | inl p ↦ kind_of_fails name t.first.0 octets e
                (kind_parts t.first.0 t.first.1 octets len whole) p
            | inr u ↦ absurd (not_both (Version × List ℕ) (u.first, t.first.1) e u.next)
          ]
    ]

-- ---- what has the fault is read so

abbrev version_by : List ℕ → List ℕ → List ℕ → Result Version FileFault
version_by name found version
    = cond (bytes_eq found name) (version_of version) (failed Version BadName)

kind_front : (name found version octets : List ℕ) (k : HasKind octets found version)
    → kind_at name octets ≡ with_rest (version_by name found version) k.behind
unfolding kind_at
kind_front name found version octets k =
    let eight : length (found ++ version) ≡ 8
    = omega (arith, length-append found version, k.six, k.two) in
    ap (λ (o : List ℕ). field_at 8 o >>= λ x. with_rest (kind_of name x.0) x.1) (k.whole
    ∙ sym (append_assoc found version k.behind))
    ∙ ap (λ (r : Result (List ℕ × List ℕ) FileFault). r >>= λ x. with_rest (kind_of name x.0) x.1)
    (field_again 8 (found ++ version) k.behind eight)
    ∙ ap (λ (t : List ℕ). with_rest
    (cond (bytes_eq t name) (version_of (drop 6 (found ++ version))) (failed Version BadName))
    k.behind) (take_at found version 6 k.six)
    ∙ ap (λ (t : List ℕ). with_rest
    (cond (bytes_eq found name) (version_of t) (failed Version BadName)) k.behind)
    (drop_at found version 6 k.six)

pub kind_cut : (name octets : List ℕ) → IsCutKind octets → kind_at name octets ≡ Err Truncated
unfolding kind_at
kind_cut name octets lt
    = ap (λ (r : Result (List ℕ × List ℕ) FileFault). r >>= λ x. with_rest (kind_of name x.0) x.1)
    (field_short 8 octets lt)

pub name_tells : (name octets : List ℕ) → HasOtherName octets name
    → kind_at name octets ≡ Err BadName
name_tells name octets h =
    kind_front name h.found h.version octets h.kind
    ∙ ap (λ (b : Bool). with_rest (cond b (version_of h.version) (failed Version BadName))
    h.kind.behind) (apart h.found name h.other)

version_bad : (x : List ℕ) → ((v : Version) → x ≡ version_text v → ⊥)
    → version_of x ≡ Err BadVersion
version_bad x other =
    ap (λ (b : Bool). cond b (answered Version One)
    (cond (bytes_eq x (codes "02")) (answered Version Two) (failed Version BadVersion)))
    (apart x (codes "01") (other One))
    ∙ ap (λ (b : Bool). cond b (answered Version Two) (failed Version BadVersion))
    (apart x (codes "02") (other Two))

pub version_tells : (name octets : List ℕ) → HasOtherVersion octets name
    → kind_at name octets ≡ Err BadVersion
version_tells name octets h =
    kind_front name name h.version octets h.kind
    ∙ ap (λ (b : Bool). with_rest (cond b (version_of h.version) (failed Version BadName))
    h.kind.behind) (itself name)
    ∙ ap (λ (r : Result Version FileFault). with_rest r h.kind.behind)
    (version_bad h.version h.other)

-- the version of a file that begins with it
pub kind_tells : (name : List ℕ) (v : Version) (rest : List ℕ) → length name ≡ 6
    → kind_at name ((name ++ version_text v) ++ rest) ≡ Ok (v, rest)
kind_tells name One rest six =
    kind_front name name (codes "01") ((name ++ codes "01") ++ rest)
    (record {
      behind = rest;
      six = six;
      two = refl;
      whole = append_assoc name (codes "01") rest;
    })
    ∙ ap (λ (b : Bool). with_rest (cond b (version_of (codes "01")) (failed Version BadName)) rest)
    (itself name)
kind_tells name Two rest six =
    kind_front name name (codes "02") ((name ++ codes "02") ++ rest)
    (record {
      behind = rest;
      six = six;
      two = refl;
      whole = append_assoc name (codes "02") rest;
    })
    ∙ ap (λ (b : Bool). with_rest (cond b (version_of (codes "02")) (failed Version BadName)) rest)
    (itself name)
