-- What is read of a record is spelled so, and what is spelled so is read.
use Rattle.std.proofs.Common.{◌≡◌, ℕ, ◌≤◌, Bool, true, false, cond, ltb, List, ◌++◌, length, take}
use Rattle.std.proofs.Common.{drop, Result, Ok, Err, refl, sym, ap, ◌∙◌, inl, inr, arith}
use Rattle.std.specs.Prelude.{◌⊎◌}
use Rattle.std.specs.Int.{w16, w64, from_be_bytes, to_be_bytes}
use Rattle.std.proofs.lemmas.Bool.{ltb-false, le-ltb}
use Rattle.std.proofs.lemmas.List.{length-append, length-drop, take_at, drop_at}
use Rattle.std.proofs.lemmas.Nat.{from_be_bytes-to_be_bytes_2, from_be_bytes-to_be_bytes_8}
use Rattle.st_format.specs.declared.path.Path.{Path}
use Rattle.st_format.specs.declared.path.Path.TheVariants.{A, B}
use Rattle.media_file.specs.declared.fault.FileFault.{FileFault}
use Rattle.media_file.specs.declared.fault.FileFault.TheVariants.{Truncated}
use Rattle.media_file.specs.declared.record.RecordHead.{RecordHead}
use Rattle.media_file.specs.Reading.{path_of, head_by, head_at, octets_at, rest_at}
use Rattle.media_file.specs.Records.{Entry, Fits, entry_of, path_octet, rest_text}
use Rattle.media_file.proofs.Rests.{behind_head}

abbrev pub Read : Type 0
Read = Result (Entry × List ℕ) FileFault

abbrev pub truncated : Read
truncated = Err Truncated

abbrev ok_head : RecordHead → Result RecordHead FileFault
ok_head h = Ok h

abbrev ok_read : Entry → List ℕ → Read
ok_read e rest = Ok (e, rest)

-- which way a test went
pub chosen : {T : Type 0} (b : Bool) (x y z : T) → cond b x y ≡ z
    → ((b ≡ true) × (x ≡ z)) ⊎ ((b ≡ false) × (y ≡ z))
chosen true x y z e = inl (refl, e)
chosen false x y z e = inr (refl, e)

pub path_again : (p : Path) → path_of (path_octet p) ≡ Ok p
path_again A = refl
path_again B = refl

-- the head of a record is read
pub head_again : (e : Entry) → Fits e
    → head_at (path_octet e.path) (to_be_bytes w64 e.moment ++ to_be_bytes w16 (length e.octets))
    ≡ Ok (record { path = e.path; moment = e.moment; length = length e.octets })
head_again e fits =
    let n : ℕ = length e.octets in
    ap (λ (p : Result Path FileFault). head_by p (to_be_bytes w64 e.moment ++ to_be_bytes w16 n))
    (path_again e.path)
    ∙ ap
    (λ (m : ℕ). ok_head
    (record { path = e.path; moment = m; length = from_be_bytes w16 (to_be_bytes w16 n) }))
    (from_be_bytes-to_be_bytes_8 e.moment fits.moment)
    ∙ ap (λ (k : ℕ). ok_head (record { path = e.path; moment = e.moment; length = k }))
    (from_be_bytes-to_be_bytes_2 n fits.octets)

-- what is spelled so is read
pub rest_again : (e : Entry) (behind : List ℕ) → Fits e
    → rest_at (path_octet e.path) (rest_text e ++ behind) ≡ Ok (e, behind)
rest_again e behind fits =
    let n : ℕ = length e.octets in
    let head : List ℕ = to_be_bytes w64 e.moment ++ to_be_bytes w16 n in
    let h : RecordHead = record { path = e.path; moment = e.moment; length = n } in
    let long : ltb (length (e.octets ++ behind)) n ≡ false =
    le-ltb (length (e.octets ++ behind)) n (omega (arith, length-append e.octets behind)) in
    behind_head (path_octet e.path) head (e.octets ++ behind) refl
    ∙ ap (λ (r : Result RecordHead FileFault). octets_at r (e.octets ++ behind)) (head_again e fits)
    ∙ ap
    (λ (b : Bool). cond b truncated
    (ok_read (entry_of h (e.octets ++ behind)) (drop n (e.octets ++ behind)))) long
    ∙ ap
    (λ (xs : List ℕ). ok_read (record { path = e.path; moment = e.moment; octets = xs })
    (drop n (e.octets ++ behind))) (take_at e.octets behind n refl)
    ∙ ap (λ (xs : List ℕ). ok_read e xs) (drop_at e.octets behind n refl)

-- the parts of a head that is read
pub record HeadRead (p : Result Path FileFault) (octets : List ℕ) (h : RecordHead) : Type 0 where
  pub path : p ≡ Ok h.path
  pub moment : h.moment ≡ from_be_bytes w64 (take 8 octets)
  pub count : h.length ≡ from_be_bytes w16 (take 2 (drop 8 octets))

pub head_read : (p : Result Path FileFault) (octets : List ℕ) (h : RecordHead)
    → head_by p octets ≡ Ok h → HeadRead p octets h
head_read (Ok path) octets h e =
    let made : RecordHead =
    record {
      path = path;
      moment = from_be_bytes w64 (take 8 octets);
      length =
          from_be_bytes w16 (take 2 (drop 8 octets));
    } in
    let same : made ≡ h = cc in
    record {
      path = ap (λ (k : RecordHead). let r : Result Path FileFault = Ok k.path in r) same;
      moment = sym (ap (λ (k : RecordHead). k.moment) same);
      count = sym (ap (λ (k : RecordHead). k.length) same);
    }
head_read (Err f) octets h e = absurd cc

-- the parts of octets that are read behind a head
pub record OctetsRead (r : Result RecordHead FileFault) (octets : List ℕ)
    (x : Entry × List ℕ) : Type 0 where
  pub head : RecordHead
  pub is : r ≡ Ok head
  pub long : head.length ≤ length octets
  pub made : (entry_of head octets, drop head.length octets) ≡ x

pub octets_read : (r : Result RecordHead FileFault) (octets : List ℕ) (x : Entry × List ℕ)
    → octets_at r octets ≡ Ok x → OctetsRead r octets x
octets_read (Ok h) octets x e =
    elim (chosen (ltb (length octets) h.length) truncated
    (Ok (entry_of h octets, drop h.length octets)) (Ok x) e) [
      | inl w ↦ let bad : truncated ≡ Ok x = w.1 in absurd cc
      | inr w ↦
          let same : ok_read (entry_of h octets) (drop h.length octets) ≡ Ok x = w.1 in
          record { head = h; is = refl; long = ltb-false (length octets) h.length w.0; made = cc }
    ]
octets_read (Err f) octets x e = absurd cc

-- the parts of a record that is read
pub record RestRead (first : ℕ) (octets : List ℕ) (x : Entry × List ℕ) : Type 0 where
  pub long : 10 ≤ length octets
  pub parts : OctetsRead (head_at first (take 10 octets)) (drop 10 octets) x

pub rest_read : (first : ℕ) (octets : List ℕ) (x : Entry × List ℕ) → rest_at first octets ≡ Ok x
    → RestRead first octets x
unfolding rest_at
rest_read first octets x e =
    elim (chosen (ltb (length octets) 10) truncated
    (octets_at (head_at first (take 10 octets)) (drop 10 octets)) (Ok x) e) [
      | inl w ↦ let bad : truncated ≡ Ok x = w.1 in absurd cc
      | inr w ↦ record {
        long = ltb-false (length octets) 10 w.0;
        parts =
            octets_read (head_at first (take 10 octets)) (drop 10 octets) x w.1;
      }
    ]

-- what is behind a record is no longer than the octets
pub rest_shrinks : (first : ℕ) (octets : List ℕ) (x : Entry × List ℕ) → rest_at first octets ≡ Ok x
    → length x.1 ≤ length octets
rest_shrinks first octets x e =
    let r = rest_read first octets x e in
    let same : drop r.parts.head.length (drop 10 octets) ≡ x.1 =
    ap (λ (y : Entry × List ℕ). y.1) r.parts.made in
    omega (
      arith,
      ap length same,
      length-drop r.parts.head.length (drop 10 octets),
      length-drop 10 octets,
    )
