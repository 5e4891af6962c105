-- Which refusal ends a run of `receive`.
use Rattle.std.proofs.Common.{◌≡◌, ℕ, zero, suc, ◌≤◌, ◌⊎◌, inl, inr, List, [], ◌∷◌, ◌++◌, length}
use Rattle.std.proofs.Common.{Option, None, Result, Ok, Err, refl, sym, ap, subst, ◌∙◌, arith}
use Rattle.std.proofs.Common.{Bool, cond, drop, true, false, append-nil}
use Rattle.std.specs.Prelude.{IfErr, IsSome}
use Rattle.flow.specs.declared.flows.Flows.{Flows}
use Rattle.media_file.specs.Fronts.{front_at}
use Rattle.media_file.specs.Records.{Entry, records_text}
use Rattle.media_file.specs.declared.fault.FileFault.{FileFault}
use Rattle.media_file.specs.declared.fault.FileFault.TheVariants as file
use Rattle.pcap_file.specs.declared.fault.RecordingFault.TheVariants as recording
use Rattle.recording_reader.specs.FileReader.{FileReader, HasGivenFile, HasGivenRecords, IsKnownBy}
use Rattle.recording_reader.specs.Files.{AreFirst, HasFirstRecords, HasFrontBy, HasWrongPart}
use Rattle.recording_reader.specs.Files.{HaveFileRecords, IfFile, IsFileFault, records_of_file}
use Rattle.recording_reader.specs.Files.{text_before, text_of_file}
use Rattle.recording_reader.specs.declared.fault.ReadingFault.{ReadingFault}
use Rattle.recording_reader.specs.declared.fault.ReadingFault.TheVariants.{Capture, Recording}
use Rattle.recording_reader.specs.declared.way.Standing.{Standing}
use Rattle.recording_reader.specs.declared.way.Standing.TheVariants.{Reads, Failed}
use Rattle.run_outcome.specs.Refusing.{OfRefusal}
use Rattle.run_outcome.proofs.Refusals.{of_refusal_map}
use Rattle.run_outcome.specs.declared.fault.Fault.{Fault}
use Rattle.run_outcome.specs.declared.refusal.Refusal.{Refusal}
use Rattle.run_outcome.specs.declared.refusal.Refusal.TheVariants as why
use Rattle.run_outcome.specs.LowerFaults.{reading_fault}
use Rattle.recording_reader.specs.Kinds.{is_recording}
use Rattle.st_format.specs.History.{IsRead, since}
use Rattle.capture_engines.specs.Files.{HasFileText, first_way, flows_in, other_ways}
use Rattle.capture_engines.specs.Files.{way_at}
use Rattle.capture_engines.specs.Received.{FirstFileRefuses, HasCaptureFault}
use Rattle.capture_engines.specs.Received.{IsCaptureBy, IsFileOpenedRefusal}
use Rattle.capture_engines.specs.Received.{IsFrontRefusal, IsOpeningRefusal}
use Rattle.capture_engines.specs.Received.{IsTakeRefusal, OneFileIs, StopsFile}
use Rattle.capture_engines.specs.Sent.{FirstIs}
use Rattle.capture_engines.specs.Stopping.{IsReadingStop}
use Rattle.capture_engines.specs.declared.way.Way.{Way}
use Rattle.capture_engines.specs.declared.way.Way.TheVariants as way

-- ---- a file

-- what is known of a file at its reader's fault
pub at_fault : {S : Type 0} (gave : S → List ℕ) (ended : S → Type 0) (r : FileReader S)
    (g : ReadingFault) → r.standing ≡ Failed g → HasGivenFile gave ended r
    → (octets : List ℕ) → IsRead r.before.gave (gave r.source) (ended r.source) octets
    → IfFile g (HaveFileRecords r.flows octets r.records r.left_out × IsFileFault g octets)
at_fault gave ended r g failed given octets read =
    (subst (λ (s : Standing). IsKnownBy r.flows s octets r.records r.left_out) failed
    (given octets read).known).1

-- what was read, and nothing behind it
read_itself : (before now : List ℕ) (ended : Type 0) → IsRead before now ended (since before now)
read_itself before now ended =
    record { behind = []; parts = sym (append-nil (since before now)); all = λ over. refl }

-- a recording is read only by flows
flows_there : {S : Type 0} (gave : S → List ℕ) (ended : S → Type 0) (r : FileReader S) (w : Way)
    → r.flows ≡ flows_in w → (r.is_recording ≡ true → IsSome r.flows) → HasGivenFile gave ended r
    → ((octets : List ℕ) → IsRead r.before.gave (gave r.source) (ended r.source) octets
    → is_recording octets ≡ true) → IsSome (flows_in w)
flows_there gave ended r w by kind given are =
    let octets : List ℕ = since r.before.gave (gave r.source) in
    let read : IsRead r.before.gave (gave r.source) (ended r.source) octets =
    read_itself r.before.gave (gave r.source) (ended r.source) in
    subst (λ (f : Option Flows). IsSome f) by
    (kind (sym (given octets read).kind ∙ are octets read))

-- what is wrong with a capture
capture_wrong : (octets : List ℕ) (f : FileFault) → HasWrongPart octets f
    → HasCaptureFault octets f
capture_wrong octets f (inl front) = inl front
capture_wrong octets f (inr (x, front, wrong)) = inr (
  x,
  front,
  record {
    records = wrong.records;
    behind = wrong.behind;
    fit = wrong.fit;
    parts = wrong.parts;
    fault = inl wrong.fault;
  },
)

-- what begins as no recording is a capture, however it is taken
pub plain_by : (w : Way) (octets : List ℕ) → is_recording octets ≡ false → IsCaptureBy w octets
plain_by way.Capture octets kind = tt
plain_by (way.Flows flows) octets kind = kind
plain_by (way.Refused r) octets kind = kind

-- its fault stops it
pub fault_stops : {S : Type 0} (gave : S → List ℕ) (ended : S → Type 0) (r : FileReader S)
    (w : Way) (g : ReadingFault) → r.flows ≡ flows_in w
    → (r.is_recording ≡ true → IsSome r.flows) → HasGivenFile gave ended r
    → ((octets : List ℕ) → IsRead r.before.gave (gave r.source) (ended r.source) octets
    → IfFile g (HaveFileRecords r.flows octets r.records r.left_out × IsFileFault g octets))
    → OfRefusal (reading_fault g)
    (StopsFile w (IsRead r.before.gave (gave r.source) (ended r.source)))
fault_stops gave ended r w (Capture file.NoMemory) by kind given known = tt
fault_stops gave ended r w (Capture file.Device) by kind given known = tt
fault_stops gave ended r w (Capture f) by kind given known =
    inl (
      λ octets read. capture_wrong octets f (known octets read).1.1,
      λ octets read. plain_by w octets (known octets read).1.0,
    )
fault_stops gave ended r w (Recording recording.Device) by kind given known = tt
fault_stops gave ended r w (Recording f) by kind given known =
    inr (inl (
      flows_there gave ended r w by kind given (λ octets read. (known octets read).1.0),
      λ octets read. (known octets read).1,
    ))

-- ---- a file's front, and its records

-- a capture has as many as are taken
capture_many : (octets text : List ℕ) (records : List Entry) → length records ≡ 16777216
    → HasFirstRecords text records octets → HasCaptureFault octets file.TooManyRecords
capture_many octets text records count has = inr (
  (text, records_text records ++ has.behind),
  has.front,
  record {
    records = records;
    behind = has.behind;
    fit = has.fit;
    parts = refl;
    fault = inr (refl, count);
  },
)

-- a text by which none is opened is there
pub text_there : (window text : List ℕ) (r : Refusal) → (text ≡ [] → ⊥)
    → IsOpeningRefusal window text r → IsFrontRefusal window text r
text_there window text why.ReceiveNoSdp some is = absurd is
text_there window text r some is = (some, is)

-- a recording has no text
pub no_text : (octets text : List ℕ) → is_recording octets ≡ true → text_of_file octets ≡ text
    → text ≡ []
no_text octets text kind same =
    sym same ∙ ap (λ (b : Bool). cond b [] (text_before (front_at octets))) kind

module _ {S : Type 0} (gave : S → List ℕ) (ended : S → Type 0) (r : FileReader S) (w : Way)
    (by : r.flows ≡ flows_in w) (flows : r.is_recording ≡ true → IsSome r.flows)
    (given : HasGivenFile gave ended r)
    (parts : r.is_recording ≡ false → HasGivenRecords gave ended r) where
  abbrev told : List ℕ → Type 0
  told = IsRead r.before.gave (gave r.source) (ended r.source)

  -- as many records as are taken stop it
  pub many_stop : r.standing ≡ Reads → length r.records ≡ 16777216
      → StopsFile w told (why.Capture file.TooManyRecords)
  many_stop reads count = by_kind r.is_recording refl
    where
      by_kind : (b : Bool) → r.is_recording ≡ b
          → StopsFile w told (why.Capture file.TooManyRecords)
      by_kind false kind =
          inl (
            λ octets read. capture_many octets r.text r.records count (parts kind octets read),
            λ octets read. plain_by w octets ((given octets read).kind ∙ kind),
          )
      by_kind true kind =
          inr (inr (inl (
            refl,
            subst (λ (f : Option Flows). IsSome f) by (flows kind),
            λ octets read. record {
              records = r.records;
              kind = (given octets read).kind ∙ kind;
              first =
                  subst (λ (f : Option Flows). AreFirst r.records (records_of_file f octets)) by
                  (subst (λ (s : Standing). IsKnownBy r.flows s octets r.records r.left_out) reads
                  (given octets read).known);
              count = count;
            },
          )))

  -- its octets have the text that was read
  pub has_text : (octets : List ℕ) → told octets → HasFileText w octets r.text
  has_text octets read = by_kind r.is_recording refl
    where
      by_kind : (b : Bool) → r.is_recording ≡ b → HasFileText w octets r.text
      by_kind false kind =
          inr (
            records_text r.records ++ (parts kind octets read).behind,
            (given octets read).kind ∙ kind,
            (parts kind octets read).front,
          )
      by_kind true kind =
          let is : is_recording octets ≡ true = (given octets read).kind ∙ kind in
          inl (
            is,
            subst (λ (f : Option Flows). IsSome f) by (flows kind),
            no_text octets r.text is (given octets read).text,
            subst (λ (b : Bool). HasFrontBy b octets) kind (given octets read).front,
          )

  -- so a refusal of opening by it is one of the file
  pub text_opens : (x : Refusal) (window text : List ℕ) → text ≡ r.text
      → IsFrontRefusal window text x → IsFileOpenedRefusal window w told x
  text_opens (why.Capture f) window text same is = absurd is.1
  text_opens x window text same is = λ octets read. (
    text,
    subst (λ (t : List ℕ). HasFileText w octets t) (sym same) (has_text octets read),
    is,
  )

-- what ended the reading of a file refuses it
pub stop_refused : {S X : Type 0} (window : List ℕ) (w : Way) (begun : Option X)
    (gave : S → List ℕ) (ended : S → Type 0) (r : FileReader S) (f : Fault)
    → r.flows ≡ flows_in w → (r.is_recording ≡ true → IsSome r.flows)
    → HasGivenFile gave ended r → (r.is_recording ≡ false → HasGivenRecords gave ended r)
    → IsReadingStop r.standing (length r.records) f
    → OfRefusal f (IsTakeRefusal window w begun
    (IsRead r.before.gave (gave r.source) (ended r.source)))
stop_refused window w begun gave ended r f by kind given parts (inl (g, failed, is)) =
    let told : List ℕ → Type 0 = IsRead r.before.gave (gave r.source) (ended r.source) in
    subst (λ (x : Fault). OfRefusal x (IsTakeRefusal window w begun told)) (sym is)
    (of_refusal_map (reading_fault g) (λ x stops. inl stops)
    (fault_stops gave ended r w g by kind given (at_fault gave ended r g failed given)))
stop_refused window w begun gave ended r f by kind given parts (inr (reads, is, count)) =
    let told : List ℕ → Type 0 = IsRead r.before.gave (gave r.source) (ended r.source) in
    subst (λ (x : Fault). OfRefusal x (IsTakeRefusal window w begun told)) (sym is)
    (inl (many_stop gave ended r w by kind given parts reads count))

-- and so does opening by its text
pub text_refused : {S X : Type 0} (window text : List ℕ) (w : Way) (begun : Option X)
    (gave : S → List ℕ) (ended : S → Type 0) (r : FileReader S) (f : Fault) → r.flows ≡ flows_in w
    → (r.is_recording ≡ true → IsSome r.flows) → text ≡ r.text → HasGivenFile gave ended r
    → (r.is_recording ≡ false → HasGivenRecords gave ended r)
    → OfRefusal f (λ x. (begun ≡ None) × IsFrontRefusal window text x)
    → OfRefusal f (IsTakeRefusal window w begun
    (IsRead r.before.gave (gave r.source) (ended r.source)))
text_refused window text w begun gave ended r f by kind same given parts of =
    of_refusal_map f
    (λ x is. inr (
      is.0,
      text_opens gave ended r w by kind given parts x window text same is.1,
    ))
    of

-- so of a source that is lent to the reader, and is as it was left
pub file_refused : {S T X V : Type 0} (window text : List ℕ) (w : Way) (begun : Option X)
    (r : FileReader S) (at : S → T) (gave : T → List ℕ) (ended : T → Type 0) (old new : T)
    (Taken Same : Type 0) (result : Result V Fault) → r.before.gave ≡ gave old
    → new ≡ at r.source → r.flows ≡ flows_in w → (r.is_recording ≡ true → IsSome r.flows)
    → text ≡ r.text → HasGivenFile (λ (s : S). gave (at s)) (λ (s : S). ended (at s)) r
    → (r.is_recording ≡ false
    → HasGivenRecords (λ (s : S). gave (at s)) (λ (s : S). ended (at s)) r)
    → IfErr result (λ f. (Taken × IsReadingStop r.standing (length r.records) f)
    ⊎ (Same × OfRefusal f (λ x. (begun ≡ None) × IsFrontRefusal window text x)))
    → IfErr result (λ f. OfRefusal f (IsTakeRefusal window w begun
    (IsRead (gave old) (gave new) (ended new))))
file_refused window text w begun r at gave ended old new Taken Same (Ok v) before now by kind same
    given parts stop = tt
file_refused {S} {T} window text w begun r at gave ended old new Taken Same (Err f) before now by
    kind same given parts stop =
    subst (λ (t : T). OfRefusal f (IsTakeRefusal window w begun
    (IsRead (gave old) (gave t) (ended t)))) (sym now)
    (subst (λ (l : List ℕ). OfRefusal f (IsTakeRefusal window w begun
    (IsRead l (gave (at r.source)) (ended (at r.source))))) before (refused stop))
  where
    refused : (Taken × IsReadingStop r.standing (length r.records) f)
        ⊎ (Same × OfRefusal f (λ x. (begun ≡ None) × IsFrontRefusal window text x))
        → OfRefusal f (IsTakeRefusal window w begun
        (IsRead r.before.gave (gave (at r.source)) (ended (at r.source))))
    refused (inl stop) =
        stop_refused window w begun (λ (s : S). gave (at s)) (λ (s : S). ended (at s)) r f by kind
        given parts stop.1
    refused (inr of) =
        text_refused window text w begun (λ (s : S). gave (at s)) (λ (s : S). ended (at s)) r f by
        kind same given parts of.1

-- ---- files, one after the other

-- either none was taken yet, or a receiver is open
abbrev pub HasStarted : {X : Type 0} → ℕ → Option X → Option X → Type 0
HasStarted k before now = ((k ≡ 0) × (now ≡ before)) ⊎ (now ≡ None → ⊥)

first_refuses : {S : Type 0} (window : List ℕ) (ways : List (Result Flows Refusal))
    (f : S → List ℕ → Type 0) (xs : List S) (r : Refusal)
    → FirstIs (λ s. IsFileOpenedRefusal window (first_way ways) (f s) r) xs
    → FirstFileRefuses window ways f xs r
first_refuses window ways f [] r is = absurd is
first_refuses window ways f (x ∷ xs) r is = is

-- the first is so, and something else holds
both_first : {S : Type 0} (P : Type 0) (Is : S → Type 0) (xs : List S)
    → FirstIs (λ s. P × Is s) xs → P × FirstIs Is xs
both_first P Is [] is = absurd is
both_first P Is (x ∷ xs) is = is

-- the one of a place is one of all
one_at : {S : Type 0} (Is : Way → S → Type 0) (ways : List (Result Flows Refusal)) (k : ℕ)
    (start : List S) → FirstIs (Is (way_at ways k)) (drop k start) → OneFileIs Is ways start
one_at Is ways zero [] is = absurd is
one_at Is ways (suc k) [] is = absurd is
one_at Is ways zero (s ∷ ss) is = inl is
one_at Is ways (suc k) (s ∷ ss) is = inr (one_at Is (other_ways ways) k ss is)

opened_first : {S X : Type 0} (window : List ℕ) (ways : List (Result Flows Refusal))
    (f : S → List ℕ → Type 0) (k : ℕ) (start rest : List S) (before now : Option X)
    → rest ≡ drop k start → HasStarted k before now → (r : Refusal)
    → (now ≡ None) × FirstIs (λ s. IsFileOpenedRefusal window (way_at ways k) (f s) r) rest
    → (before ≡ None) × FirstFileRefuses window ways f start r
opened_first {S} window ways f k start rest before now same (inl started) r is = (
  sym started.1 ∙ is.0,
  first_refuses window ways f start r
      (subst (λ (n : ℕ). FirstIs (λ s. IsFileOpenedRefusal window (way_at ways n) (f s) r) start)
      started.0
      (subst (λ (ys : List S). FirstIs (λ s. IsFileOpenedRefusal window (way_at ways k) (f s) r)
      ys) (same ∙ ap (λ (n : ℕ). drop n start) started.0) is.1)),
)
opened_first window ways f k start rest before now same (inr started) r is =
    absurd (started is.0)

-- where no receiver is open at the end, no file was there
pub none_started : {S X : Type 0} (k : ℕ) (start : List S) (before now : Option X)
    → HasStarted k before now → length start ≤ k → now ≡ None → (before ≡ None) × (start ≡ [])
none_started k start before now (inl started) all none =
    (sym started.1 ∙ none, empty start (omega (arith, started.0, all)))
  where
    empty : {T : Type 0} (xs : List T) → length xs ≡ 0 → xs ≡ []
    empty [] is = refl
    empty (x ∷ xs) is = absurd (omega arith)
none_started k start before now (inr started) all none = absurd (started none)
