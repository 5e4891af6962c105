-- Octets and the records that they spell.
use Rattle.std.proofs.Common.{◌≡◌, ℕ, zero, suc, ◌+◌, ◌^◌, ◌<◌, ◌≤◌, Bool, false, cond, eqb, ltb}
use Rattle.std.proofs.Common.{List, [], ◌∷◌, ◌++◌, length, take, drop, Option, None, Some, Result}
use Rattle.std.proofs.Common.{Ok, Err, append_assoc, append-nil, refl, sym, ap, ◌∙◌, subst, inl}
use Rattle.std.proofs.Common.{inr, arith}
use Rattle.std.specs.Int.{w16, w64, from_be_bytes, to_be_bytes}
use Rattle.std.proofs.lemmas.Bool.{eqb-true, le-ltb}
use Rattle.std.proofs.lemmas.List.{length-append, length-drop, length-take-le}
use Rattle.std.proofs.lemmas.List.{take-append-drop, take_at}
use Rattle.std.proofs.lemmas.List.{drop_at, take_all}
use Rattle.std.proofs.lemmas.Nat.{be_bytes_2, be_bytes_8, from_be_bytes-to_be_bytes_2}
use Rattle.st_format.specs.declared.path.Path.{Path}
use Rattle.st_format.specs.declared.path.Path.TheVariants.{A, B}
use Rattle.media_file.specs.declared.fault.FileFault.{FileFault}
use Rattle.media_file.specs.declared.fault.FileFault.TheVariants.{NoMemory, Device, BadName}
use Rattle.media_file.specs.declared.fault.FileFault.TheVariants.{BadVersion, Truncated, BadField}
use Rattle.media_file.specs.declared.fault.FileFault.TheVariants.{TrailingBytes, MixedGroup}
use Rattle.media_file.specs.declared.fault.FileFault.TheVariants.{TooManyRecords}
use Rattle.media_file.specs.declared.front.Version.{Version}
use Rattle.media_file.specs.declared.front.Version.TheVariants.{One, Two}
use Rattle.media_file.specs.declared.record.RecordHead.{RecordHead}
use Rattle.media_file.specs.Capture.{Content, IsCapture, capture_walk, capture_seen, records_at}
use Rattle.media_file.specs.Fields.{Fails, field_at}
use Rattle.st_format.specs.Given.{Leaves, Takes, field_by, with_rest}
use Rattle.st_format.specs.Reading.{◌>>=◌}
use Rattle.media_file.specs.Faults.{IfContent, IsMachine}
use Rattle.media_file.specs.declared.capture.Capture.{Capture}
use Rattle.std.specs.Prelude.{IfOk, IfErr, MatchResult}
use Rattle.media_file.specs.Fronts.{HasFront, capture_name, counted_text, front_at, front_text}
use Rattle.media_file.specs.Fronts.{kind_at, kind_of, kind_text, text_at, text_by}
use Rattle.media_file.specs.Reading.{entries_by, entries_in, entries_up_to, path_of, rest_at}
use Rattle.media_file.specs.Records.{AllFit, Entry, Fits, entry_of, path_octet, record_text}
use Rattle.media_file.specs.Records.{records_text, rest_text}
use Rattle.media_file.specs.Runs.{HasNoRecord, AreRecordsOf}
use Rattle.st_format.specs.Device.{AreOctets}
use Rattle.st_format.proofs.Octets.{AreOctets-drop, AreOctets-take}
use Rattle.media_file.proofs.Cuts.{entries_front}
use Rattle.media_file.proofs.Entries.{chosen, head_read, rest_again, rest_read, rest_shrinks}

abbrev ok_path : Path → Result Path FileFault
ok_path p = Ok p

abbrev no_path : Result Path FileFault
no_path = Err BadField

-- the octet of a path that is read
path_read : (first : ℕ) (p : Path) → path_of first ≡ Ok p → first ≡ path_octet p
path_read first p e =
    elim (chosen (eqb first 0) (ok_path A) (cond (eqb first 1) (Ok B) (Err BadField)) (Ok p) e) [
      | inl w ↦ let f : first ≡ 0 = eqb-true first 0 w.0 in let same : ok_path A ≡ ok_path p =
          w.1 in let q : A ≡ p = cc in f ∙ ap path_octet q
      | inr w ↦ elim (chosen (eqb first 1) (ok_path B) (Err BadField) (Ok p) w.1) [
        | inl v ↦ let f : first ≡ 1 = eqb-true first 1 v.0 in let same : ok_path B ≡ ok_path p =
            v.1 in let q : B ≡ p = cc in f ∙ ap path_octet q
        | inr v ↦ let bad : no_path ≡ Ok p = v.1 in absurd cc
      ]
    ]

-- what is read is spelled so
pub record TakesEntry (first : ℕ) (octets : List ℕ) (x : Entry × List ℕ) : Type 0 where
  pub fits : Fits x.0
  pub first_is : first ≡ path_octet x.0.path
  pub text : octets ≡ rest_text x.0 ++ x.1

-- the two numbers of a head
head_spelled : (head : List ℕ) (moment count : ℕ) → AreOctets head → length head ≡ 10
    → moment ≡ from_be_bytes w64 (take 8 head) → count ≡ from_be_bytes w16 (take 2 (drop 8 head))
    → head ≡ to_be_bytes w64 moment ++ to_be_bytes w16 count
head_spelled head moment count bytes ten m n =
    let l8 : length (take 8 head) ≡ 8 = length-take-le 8 head (omega arith) in
    let rest : List ℕ = drop 8 head in
    let l2 : length rest ≡ 2 = length-drop 8 head ∙ omega arith in
    let same : take 2 rest ≡ rest = take_all 2 rest (omega arith) in
    sym (take-append-drop 8 head)
    ∙ ap (λ (t : List ℕ). t ++ rest)
    (sym (be_bytes_8 (take 8 head) moment l8 (AreOctets-take 8 head bytes) m))
    ∙ ap (λ (t : List ℕ). to_be_bytes w64 moment ++ t)
    (sym (be_bytes_2 rest count l2 (AreOctets-drop 8 head bytes)
    (n ∙ ap (from_be_bytes w16) same)))

pub below_16 : (bs : List ℕ) → AreOctets bs → from_be_bytes w16 bs < 2 ^ 16
below_16 bs h = omega (arith, h 0, h 1)

below_64 : (bs : List ℕ) → AreOctets bs → from_be_bytes w64 bs < 2 ^ 64
below_64 bs h = omega (arith, h 0, h 1, h 2, h 3, h 4, h 5, h 6, h 7)

pub rest_takes : (first : ℕ) (octets : List ℕ) (x : Entry × List ℕ) → AreOctets octets
    → rest_at first octets ≡ Ok x → TakesEntry first octets x
rest_takes first octets x bytes e =
    let r = rest_read first octets x e in
    let h : RecordHead = r.parts.head in
    let head : List ℕ = take 10 octets in
    let d : List ℕ = drop 10 octets in
    let n : ℕ = h.length in
    let q = head_read (path_of first) head h r.parts.is in
    let ten : length head ≡ 10 = length-take-le 10 octets r.long in
    let hb : AreOctets head = AreOctets-take 10 octets bytes in
    let len : length (take n d) ≡ n = length-take-le n d r.parts.long in
    let is : head ≡ to_be_bytes w64 h.moment ++ to_be_bytes w16 n =
    head_spelled head h.moment n hb ten q.moment q.count in
    let n16 : n < 2 ^ 16 =
    subst (λ (k : ℕ). k < 2 ^ 16) (sym q.count)
    (below_16 (take 2 (drop 8 head))
    (AreOctets-take 2 (drop 8 head) (AreOctets-drop 8 head hb))) in
    let m64 : h.moment < 2 ^ 64 =
    subst (λ (k : ℕ). k < 2 ^ 64) (sym q.moment)
    (below_64 (take 8 head) (AreOctets-take 8 head hb)) in
    let made : TakesEntry first octets (entry_of h d, drop n d) = record {
      fits = record { moment = m64; octets = subst (λ (k : ℕ). k < 2 ^ 16) (sym len) n16 };
      first_is = path_read first h.path q.path;
      text = sym (take-append-drop 10 octets) ∙ ap (λ (t : List ℕ). t ++ d) is
          ∙ ap (λ (t : List ℕ). (to_be_bytes w64 h.moment ++ to_be_bytes w16 n) ++ t)
          (sym (take-append-drop n d))
          ∙ ap
          (λ (k : ℕ). (to_be_bytes w64 h.moment ++ to_be_bytes w16 k) ++
          (take n d ++ drop n d)) (sym len);
    } in
    subst (TakesEntry first octets) r.parts.made made

abbrev bad_read : FileFault → Result (Entry × List ℕ) FileFault
bad_read f = Err f

abbrev good_read : Entry → List ℕ → Result (Entry × List ℕ) FileFault
good_read e rest = Ok (e, rest)

abbrev many : List Entry → List ℕ → Result (List Entry × List ℕ) FileFault
many es rest = Ok (es, rest)

abbrev part : List ℕ → List ℕ → Result (List ℕ × List ℕ) FileFault
part xs rest = Ok (xs, rest)

abbrev cut : Result (List ℕ × List ℕ) FileFault
cut = Err Truncated

abbrev said : List ℕ → List Entry → List ℕ → Result (Content × List ℕ) FileFault
said text es rest = Ok (record { text = text; records = es }, rest)

pub AreOctets-back : (front rest : List ℕ) → AreOctets (front ++ rest) → AreOctets rest
AreOctets-back front rest h =
    subst AreOctets (drop_at front rest (length front) refl)
    (AreOctets-drop (length front) (front ++ rest) h)

-- ---- runs

-- an octet and what follows it
pub AreOctets-tail : (x : ℕ) (xs : List ℕ) → AreOctets (x ∷ xs) → AreOctets xs
AreOctets-tail x xs h i = h (suc i)

abbrev Split : ℕ → List ℕ → Type 0
Split n octets = (rest : List ℕ) × AreRecordsOf (entries_up_to n octets) rest octets

no_record_nil : HasNoRecord []
no_record_nil e behind fits is = let n : length (record_text e ++ behind) ≡ 0 =
    ap length (sym is) in omega (arith, n, length-append (record_text e) behind)

-- where reading finds a fault no record stands
no_record : (first : ℕ) (octets : List ℕ) (f : FileFault) → rest_at first octets ≡ Err f
    → HasNoRecord (first ∷ octets)
no_record first octets f bad e behind fits is =
    let at : first ≡ path_octet e.path = cc in
    let rest : octets ≡ rest_text e ++ behind = cc in
    let good : rest_at first octets ≡ Ok (e, behind) =
    ap (λ (n : ℕ). rest_at n octets) at ∙ ap (rest_at (path_octet e.path)) rest
    ∙ rest_again e behind fits in
    let clash : bad_read f ≡ good_read e behind = sym bad ∙ good in
    absurd cc

split_by : (n : ℕ) (first : ℕ) (octets : List ℕ) (r : Result (Entry × List ℕ) FileFault)
    → rest_at first octets ≡ r → AreOctets octets → length octets ≤ n
    → ((o : List ℕ) → AreOctets o → length o ≤ n → Split n o)
    → (rest : List ℕ) × AreRecordsOf (entries_by r (entries_up_to n)) rest (first ∷ octets)
split_by n first octets (Ok x) e bytes le more =
    let t = rest_takes first octets x bytes e in
    let shrinks : length x.1 ≤ length octets = rest_shrinks first octets x e in
    let s =
    more x.1 (AreOctets-back (rest_text x.0) x.1 (subst AreOctets t.text bytes))
    (omega arith) in (
      s.0,
      record {
        fit = (t.fits, s.1.fit);
        whole =
            ap (λ (k : ℕ). k ∷ octets) t.first_is
            ∙ ap (λ (o : List ℕ). path_octet x.0.path ∷ o) t.text
            ∙ ap (λ (o : List ℕ). record_text x.0 ++ o) s.1.whole
            ∙ sym (append_assoc (record_text x.0) (records_text (entries_up_to n x.1)) s.0);
        no_more = s.1.no_more;
      },
    )
split_by n first octets (Err f) e bytes le more =
    (first ∷ octets, record { fit = tt; whole = refl; no_more = no_record first octets f e })

split : (n : ℕ) (octets : List ℕ) → AreOctets octets → length octets ≤ n → Split n octets
unfolding entries_up_to
split zero [] bytes le = ([], record { fit = tt; whole = refl; no_more = no_record_nil })
split zero (x ∷ octets) bytes le = absurd (omega arith)
split (suc n) [] bytes le = ([], record { fit = tt; whole = refl; no_more = no_record_nil })
split (suc n) (x ∷ octets) bytes le =
    split_by n x octets (rest_at x octets) refl (AreOctets-tail x octets bytes) (omega arith)
    (λ o b l. split n o b l)

pub splits : (octets : List ℕ) → AreOctets octets
    → (rest : List ℕ) × AreRecordsOf (entries_in octets) rest octets
splits octets bytes = split (length octets) octets bytes (omega arith)

none_by : (first : ℕ) (octets : List ℕ) (r : Result (Entry × List ℕ) FileFault)
    → rest_at first octets ≡ r → AreOctets octets → HasNoRecord (first ∷ octets)
    → entries_by r (entries_up_to (length octets)) ≡ []
none_by first octets (Ok x) e bytes none =
    let t = rest_takes first octets x bytes e in
    absurd (none x.0 x.1 t.fits
    (ap (λ (k : ℕ). k ∷ octets) t.first_is
    ∙ ap (λ (o : List ℕ). path_octet x.0.path ∷ o) t.text))
none_by first octets (Err f) e bytes none = refl

-- no record at the front, so none is read
pub none_read : (octets : List ℕ) → AreOctets octets → HasNoRecord octets → entries_in octets ≡ []
unfolding entries_up_to
none_read [] bytes none = refl
none_read (x ∷ octets) bytes none =
    none_by x octets (rest_at x octets) refl (AreOctets-tail x octets bytes) none

pub run_read : (octets rest : List ℕ) (entries : List Entry) → AreOctets octets
    → AreRecordsOf entries rest octets → entries ≡ entries_in octets
run_read octets rest entries bytes run =
    let rb : AreOctets rest =
    AreOctets-back (records_text entries) rest (subst AreOctets run.whole bytes) in
    sym (append-nil entries)
    ∙ ap (λ (es : List Entry). entries ++ es) (sym (none_read rest rb run.no_more))
    ∙ sym (entries_front entries rest run.fit) ∙ ap entries_in (sym run.whole)

-- ---- captures

records_again : (limit : ℕ) (es : List Entry) → AllFit es → length es ≤ limit
    → records_at limit (records_text es) ≡ Ok (es, [])
unfolding records_at
records_again zero [] fit le = refl
records_again (suc limit) [] fit le = refl
records_again zero (e ∷ es) fit le = absurd (omega arith)
records_again (suc limit) (e ∷ es) fit le =
    ap (λ (r : Result (Entry × List ℕ) FileFault). r >>= λ x. records_at limit x.1 >>=
    λ y. many (x.0 ∷ y.0) y.1) (rest_again e (records_text es) fit.0)
    ∙ ap (λ (r : Result (List Entry × List ℕ) FileFault). r >>= λ y. many (e ∷ y.0) y.1)
    (records_again limit es fit.1 (omega arith))

pub field_again : (n : ℕ) (front rest : List ℕ) → length front ≡ n
    → field_at n (front ++ rest) ≡ Ok (front, rest)
unfolding field_by
field_again n front rest len =
    let long : ltb (length (front ++ rest)) n ≡ false =
    le-ltb (length (front ++ rest)) n (omega (arith, length-append front rest)) in
    ap (λ (b : Bool). cond b cut (part (take n (front ++ rest)) (drop n (front ++ rest)))) long
    ∙ ap (λ (xs : List ℕ). part xs (drop n (front ++ rest))) (take_at front rest n len)
    ∙ ap (part front) (drop_at front rest n len)

pub kind_again : (v : Version) (rest : List ℕ)
    → kind_at capture_name (kind_text capture_name v ++ rest) ≡ Ok (v, rest)
unfolding kind_at
kind_again One rest =
    ap (λ (r : Result (List ℕ × List ℕ) FileFault). r >>=
    λ x. with_rest (kind_of capture_name x.0) x.1)
    (field_again 8 (kind_text capture_name One) rest refl)
kind_again Two rest =
    ap (λ (r : Result (List ℕ × List ℕ) FileFault). r >>=
    λ x. with_rest (kind_of capture_name x.0) x.1)
    (field_again 8 (kind_text capture_name Two) rest refl)

text_again : (text rest : List ℕ) → length text < 2 ^ 16
    → text_at (counted_text text ++ rest) ≡ Ok (text, rest)
unfolding text_at
text_again text rest fits =
    ap text_at (append_assoc (to_be_bytes w16 (length text)) text rest)
    ∙ ap
    (λ (r : Result (List ℕ × List ℕ) FileFault). r >>=
    λ x. field_at (from_be_bytes w16 x.0) x.1)
    (field_again 2 (to_be_bytes w16 (length text)) (text ++ rest) refl)
    ∙ ap (λ (n : ℕ). field_at n (text ++ rest)) (from_be_bytes-to_be_bytes_2 (length text) fits)
    ∙ field_again (length text) text rest refl

front_again : (v : Version) (text rest : List ℕ) → HasFront v text
    → front_at (front_text v text ++ rest) ≡ Ok (text, rest)
unfolding front_at
front_again One text rest has =
    ap (λ (r : Result (Version × List ℕ) FileFault). r >>= λ x. text_by x.0 x.1)
    (kind_again One rest) ∙ ap (λ (t : List ℕ). part t rest) (sym has)
front_again Two text rest has =
    ap front_at (append_assoc (kind_text capture_name Two) (counted_text text) rest)
    ∙ ap (λ (r : Result (Version × List ℕ) FileFault). r >>= λ x. text_by x.0 x.1)
    (kind_again Two (counted_text text ++ rest))
    ∙ text_again text rest has

-- what is a capture is read as what it says
pub capture_again : (c : Content) (octets : List ℕ) (limit : ℕ) → IsCapture octets c
    → length c.records ≤ limit → capture_walk limit octets ≡ Ok (c, [])
unfolding capture_walk
capture_again c octets limit is le =
    ap (capture_walk limit) is.whole
    ∙ ap
    (λ (r : Result (List ℕ × List ℕ) FileFault). r >>= λ x. records_at limit x.1 >>=
    λ y. said x.0 y.0 y.1) (front_again is.version c.text (records_text c.records) is.front)
    ∙ ap (λ (r : Result (List Entry × List ℕ) FileFault). r >>= λ y. said c.text y.0 y.1)
    (records_again limit c.records is.fit le)

abbrev failed : FileFault → Result (Content × List ℕ) FileFault
failed f = Err f

abbrev content_in : Content → Result (Content × List ℕ) FileFault → Content
content_in c (Ok x) = x.0
content_in c (Err f) = c

pub one : (c d : Content) (octets : List ℕ) → IsCapture octets c → IsCapture octets d → c ≡ d
one c d octets p q =
    let limit : ℕ = length c.records + length d.records in
    let a : said c.text c.records [] ≡ capture_walk limit octets =
    sym (capture_again c octets limit p (omega arith)) in
    let b : capture_walk limit octets ≡ said d.text d.records [] =
    capture_again d octets limit q (omega arith) in
    let same : said c.text c.records [] ≡ said d.text d.records [] = a ∙ b in
    ap (content_in c) same

-- ---- what a reader of captures owes

only_ok : (c d : Content) (limit : ℕ) (octets : List ℕ) (new : Option (List ℕ))
    → capture_walk limit octets ≡ Ok (c, []) → Leaves (capture_walk limit octets) d new → d ≡ c
only_ok c d limit octets None e p = absurd p
only_ok c d limit octets (Some rest) e p = ap (content_in d) (sym p ∙ e)

clash : (c : Content) (limit : ℕ) (octets : List ℕ) (f : FileFault)
    → capture_walk limit octets ≡ Ok (c, []) → capture_walk limit octets ≡ Err f → ⊥
clash c limit octets f e p = let bad : said c.text c.records [] ≡ failed f = sym e ∙ p in absurd cc

only_err : (c : Content) (limit : ℕ) (octets : List ℕ) (f : FileFault)
    → capture_walk limit octets ≡ Ok (c, []) → IfContent f (capture_walk limit octets ≡ Err f)
    → IsMachine f
only_err c limit octets NoMemory e p = tt
only_err c limit octets Device e p = tt
only_err c limit octets BadName e p = clash c limit octets BadName e p
only_err c limit octets BadVersion e p = clash c limit octets BadVersion e p
only_err c limit octets Truncated e p = clash c limit octets Truncated e p
only_err c limit octets BadField e p = clash c limit octets BadField e p
only_err c limit octets TrailingBytes e p = clash c limit octets TrailingBytes e p
only_err c limit octets MixedGroup e p = clash c limit octets MixedGroup e p
only_err c limit octets TooManyRecords e p = clash c limit octets TooManyRecords e p

pub only_read : {A : Type 0} (limit : ℕ) (old new : Option (List ℕ))
    (r : Result (Capture A) FileFault)
    → IfOk r (λ v. Takes (capture_walk limit) old new (capture_seen v))
    → IfErr r (λ f. Fails (capture_walk limit) old f)
    → (c : Content) (octets : List ℕ) → old ≡ Some octets → IsCapture octets c
    → length c.records ≤ limit → MatchResult r (λ v. capture_seen v ≡ c) IsMachine
only_read limit old new (Ok v) p q c octets told is le =
    only_ok c (capture_seen v) limit octets new (capture_again c octets limit is le)
    (subst (λ (k : Option (List ℕ)). Takes (capture_walk limit) k new (capture_seen v)) told p)
only_read limit old new (Err f) p q c octets told is le =
    only_err c limit octets f (capture_again c octets limit is le)
    (subst (λ (k : Option (List ℕ)). Fails (capture_walk limit) k f) told q)
