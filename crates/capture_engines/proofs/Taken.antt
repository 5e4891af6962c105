-- What was taken of one file.
use Rattle.std.proofs.Common.{◌≡◌, ℕ, ◌+◌, List, [], ◌∷◌, ◌++◌, length, map}
use Rattle.std.proofs.Common.{Option, None, Some, Result, refl, sym, ap, subst, ◌∙◌, arith}
use Rattle.std.proofs.Common.{append-nil, append_assoc, length-append}
use Rattle.std.proofs.lemmas.List.{map-append}
use Rattle.std.specs.Prelude.{option_to_list}
use Rattle.media_file.specs.Records.{Entry}
use Rattle.st_format.specs.Device.{capped}
use Rattle.path_receiver.specs.Answers.{taken_at}
use Rattle.path_receiver.specs.Frames.{Holds}
use Rattle.path_receiver.specs.Opening.{Opening}
use Rattle.path_receiver.specs.declared.answer.Refusal.{Refusal}
use Rattle.path_receiver.specs.declared.answer.Taken.{Taken as Answer}
use Rattle.recording_reader.specs.FileReader.{FileReader, FindsOne, record_seen}
use Rattle.recording_reader.specs.declared.room.RecordView.{RecordView}
use Rattle.capture_engines.specs.Files.{octets_of}
use Rattle.path_receiver.specs.Tallied.{Tallies, TalliesMore}
use Rattle.capture_engines.specs.Taking.{AnnouncesStream, CountsAnswers, HoldsBy, Stands}
use Rattle.capture_engines.specs.Taking.{TakesDatagrams}
use Rattle.capture_engines.specs.Taking.{TakesRecords, said_by}
use Rattle.capture_engines.specs.declared.intake.Intake.{Intake}
use Rattle.capture_engines.specs.declared.receiving.Asked.{Asked}
use Rattle.path_receiver.specs.declared.tally.Tally.{Tally}

-- ---- datagrams

pub takes_none : {A : Type 0} (s : Intake A) → TakesDatagrams [] s s
takes_none s = record {
  opening = refl;
  holds = λ earlier holds. subst (Holds s.receiver) (sym (append-nil earlier)) holds;
  tallied = λ earlier counts. subst (CountsAnswers s) (sym (append-nil earlier)) counts;
  delivered = λ count is. is ∙ ap capped (omega arith);
}

pub takes_then : {A : Type 0} (xs ys : List (List ℕ)) (a b c : Intake A) → TakesDatagrams xs a b
    → TakesDatagrams ys b c → TakesDatagrams (xs ++ ys) a c
takes_then xs ys a b c first more = record {
  opening = more.opening ∙ first.opening;
  holds = λ earlier holds.
      subst (Holds c.receiver) (append_assoc earlier xs ys)
      (more.holds (earlier ++ xs) (first.holds earlier holds));
  tallied = λ earlier counts.
      subst (CountsAnswers c) (append_assoc earlier xs ys)
      (more.tallied (earlier ++ xs) (first.tallied earlier counts));
  delivered = λ count is.
      more.delivered (count + length xs) (first.delivered count is)
      ∙ ap capped (omega (arith, length-append xs ys));
}

-- the answer to one datagram more was counted
pub counts_one : (o p : Opening) (t u : Tally) (octets : List ℕ) (answer : Result Answer Refusal)
    → answer ≡ taken_at o octets → p ≡ o → TalliesMore t u answer → (earlier : List (List ℕ))
    → Tallies t (map (taken_at o) earlier)
    → Tallies u (map (taken_at p) (earlier ++ octets ∷ []))
counts_one o p t u octets answer is same more earlier counts =
    subst (Tallies u)
    (ap (λ (x : Result Answer Refusal). map (taken_at o) earlier ++ x ∷ []) is
    ∙ sym (map-append (taken_at o) earlier (octets ∷ []))
    ∙ ap (λ (q : Opening). map (taken_at q) (earlier ++ octets ∷ [])) (sym same))
    (more (map (taken_at o) earlier) counts)

-- ---- records

-- the one that is at hand, by its borrowed octets
pub takes_hand : {A : Type 0} (hand : Option Entry) (r : RecordView) (a b : Intake A)
    → record_seen (Some r) ≡ hand → TakesDatagrams (r.octets.now ∷ []) a b
    → TakesDatagrams (octets_of (option_to_list hand)) a b
takes_hand hand r a b same taken =
    subst (λ (h : Option Entry). TakesDatagrams (octets_of (option_to_list h)) a b) same taken

pub takes_no_hand : {A : Type 0} (hand : Option Entry) (s : Intake A) → record_seen None ≡ hand
    → TakesDatagrams (octets_of (option_to_list hand)) s s
takes_no_hand hand s same =
    subst (λ (h : Option Entry). TakesDatagrams (octets_of (option_to_list h)) s s) same
    (takes_none s)

-- no record was read yet
pub takes_no_records : {A : Type 0} (s : Intake A) (records : List Entry) → records ≡ []
    → TakesDatagrams (octets_of records) s s
takes_no_records s records none =
    subst (λ (es : List Entry). TakesDatagrams (octets_of es) s s) (sym none) (takes_none s)

-- none was read more
pub takes_same : {A : Type 0} (a b : Intake A) (records more : List Entry) → more ≡ records
    → TakesDatagrams (octets_of records) a b → TakesDatagrams (octets_of more) a b
takes_same a b records more same taken =
    subst (λ (es : List Entry). TakesDatagrams (octets_of es) a b) (sym same) taken

-- one was
pub takes_found : {S A : Type 0} (old new : FileReader S) (a b c : Intake A) → FindsOne old new
    → TakesDatagrams (octets_of old.records) a b
    → TakesDatagrams (octets_of (option_to_list new.at_hand)) b c
    → TakesDatagrams (octets_of new.records) a c
takes_found old new a b c found first more =
    let one : List (List ℕ) = found.entry.octets ∷ [] in
    subst (λ (xs : List (List ℕ)). TakesDatagrams xs a c)
    (sym (map-append (λ (e : Entry). e.octets) old.records (found.entry ∷ []))
    ∙ ap octets_of (sym found.records))
    (takes_then (octets_of old.records) one a b c first
    (subst (λ (h : Option Entry). TakesDatagrams (octets_of (option_to_list h)) b c)
    found.at_hand more))

-- ---- a file's

holds_by : {A : Type 0} (o : Asked A) (said : List ℕ) (b a : Intake A)
    (xs ds : List (List ℕ)) → TakesDatagrams xs b a → HoldsBy o said b ds
    → HoldsBy o said a (ds ++ xs)
holds_by o said b a xs ds taken holds = record {
  window = ap (λ (p : Opening). p.window) taken.opening ∙ holds.window;
  ssrc = ap (λ (p : Opening). p.ssrc) taken.opening ∙ holds.ssrc;
  announced = subst (λ (p : Opening). AnnouncesStream said p) (sym taken.opening) holds.announced;
  holds = taken.holds ds holds.holds;
  tallied = taken.tallied ds holds.tallied;
  delivered = taken.delivered (length ds) holds.delivered
      ∙ ap capped (sym (length-append ds xs));
}

stands_by : {A : Type 0} (o : Asked A) (text : List ℕ) (b a : Intake A) (xs : List (List ℕ))
    → TakesDatagrams xs b a → (said : Option (List ℕ)) (ds : List (List ℕ))
    → Stands o (Some b) said ds → Stands o (Some a) (said_by said text) (ds ++ xs)
stands_by o text b a xs taken None ds stands = absurd stands
stands_by o text b a xs taken (Some said) ds stands = holds_by o said b a xs ds taken stands

begun_by : {A : Type 0} (o : Asked A) (text : List ℕ) (b a : Intake A) (xs : List (List ℕ))
    → TakesDatagrams xs b a → HoldsBy o text b [] → (said : Option (List ℕ))
    (ds : List (List ℕ)) → Stands o None said ds
    → Stands o (Some a) (said_by said text) (ds ++ xs)
begun_by o text b a xs taken begun (Some said) ds stands = absurd stands
begun_by o text b a xs taken begun None ds stands =
    holds_by o text b a xs ds taken
    (subst (λ (l : List (List ℕ)). HoldsBy o text b l) (sym stands) begun)

-- by an intake that had begun
pub records_taken : {A : Type 0} (o : Asked A) (text : List ℕ) (begun : Option (Intake A))
    (b a : Intake A) (xs : List (List ℕ)) → begun ≡ Some b → TakesDatagrams xs b a
    → TakesRecords o text xs begun (Some a)
records_taken o text begun b a xs is taken =
    subst (λ (s : Option (Intake _)). TakesRecords o text xs s (Some a)) (sym is) (record {
      stands = λ said ds stands. stands_by o text b a xs taken said ds stands;
    })

-- by one that began with the file
pub first_taken : {A : Type 0} (o : Asked A) (text : List ℕ) (begun : Option (Intake A))
    (b a : Intake A) (xs : List (List ℕ)) → begun ≡ None → HoldsBy o text b []
    → TakesDatagrams xs b a → TakesRecords o text xs begun (Some a)
first_taken o text begun b a xs is opened taken =
    subst (λ (s : Option (Intake _)). TakesRecords o text xs s (Some a)) (sym is) (record {
      stands = λ said ds stands. begun_by o text b a xs taken opened said ds stands;
    })

pub none_begun : {X : Type 0} (o : Option X) → ((x : X) → o ≡ Some x → ⊥) → o ≡ None
none_begun None not = refl
none_begun (Some x) not = absurd (not x refl)
