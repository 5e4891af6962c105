-- What is a capture is read as its records and its text.
use Rattle.std.proofs.Common.{◌≡◌, ℕ, ◌^◌, ◌<◌, Bool, false, cond, List, [], ◌∷◌, ◌++◌}
use Rattle.std.proofs.Common.{length, Result, Ok, Err, append-nil, refl, sym, ap, ◌∙◌, subst}
use Rattle.std.proofs.Common.{inl, inr, arith}
use Rattle.st_format.specs.Device.{AreOctets}
use Rattle.st_format.specs.History.{since}
use Rattle.st_format.specs.Member.{IsMember, SameDatagrams}
use Rattle.st_format.specs.Reading.{◌>>=◌}
use Rattle.st_format.proofs.Histories.{since_is}
use Rattle.st_format.proofs.Readings.{bind_ok}
use Rattle.media_file.specs.Capture.{Content, IsCapture, capture_text, capture_walk, records_at}
use Rattle.media_file.specs.Fronts.{capture_name, front_at, front_text, kind_at, text_by}
use Rattle.media_file.specs.Migrated.{MigratedRead, old_at, old_by}
use Rattle.media_file.specs.Reading.{entries_in}
use Rattle.media_file.specs.Records.{Entry, records_text}
use Rattle.media_file.specs.Writer.{entries_from, moment_behind, written_text}
use Rattle.media_file.specs.declared.fault.FileFault.{FileFault}
use Rattle.media_file.specs.declared.fault.FileFault.TheVariants.{BadVersion}
use Rattle.media_file.specs.declared.front.Version.{Version}
use Rattle.media_file.specs.declared.front.Version.TheVariants.{One, Two}
use Rattle.media_file.specs.declared.paths.Paths.{Paths}
use Rattle.media_file.specs.declared.paths.Paths.TheVariants.{OnlyA, OnlyB, Both}
use Rattle.media_file.proofs.CaptureFaults.{front_again}
use Rattle.media_file.proofs.Cuts.{entries_front}
use Rattle.media_file.proofs.Datagrams.{fits_from}
use Rattle.media_file.proofs.Dues.{entries_none}
use Rattle.media_file.proofs.Found.{capture_found}
use Rattle.recording_reader.specs.Files.{records_behind, text_before, text_of_file}
use Rattle.recording_reader.specs.Kinds.{is_recording}
use Rattle.capture_engines.specs.Files.{capture_datagrams, octets_of}
use Rattle.run_laws.specs.Sent.{FitCapture}

-- ---- any capture

abbrev pub content : List ℕ → List Entry → Content
content text records = record { text = text; records = records }

pub content_read : (c : Content) (octets : List ℕ) → IsCapture octets c
    → capture_datagrams octets ≡ octets_of c.records
content_read c octets is =
    let behind : List ℕ = records_text c.records in
    ap capture_datagrams is.whole
    ∙ ap (λ (r : Result (List ℕ × List ℕ) FileFault). octets_of (records_behind r))
    (front_again is.version c.text behind is.front)
    ∙ ap (λ (l : List ℕ). octets_of (entries_in l)) (sym (append-nil behind))
    ∙ ap octets_of (entries_front c.records [] is.fit)
    ∙ ap (λ (es : List Entry). octets_of (c.records ++ es)) entries_none
    ∙ ap octets_of (append-nil c.records)

-- a capture begins as no recording
no_recording : (v : Version) (text behind : List ℕ)
    → is_recording (front_text v text ++ behind) ≡ false
no_recording One text behind = refl
no_recording Two text behind = refl

abbrev text_by_kind : List ℕ → Bool → List ℕ
text_by_kind octets kind = cond kind [] (text_before (front_at octets))

pub content_text : (c : Content) (octets : List ℕ) → IsCapture octets c
    → text_of_file octets ≡ c.text
content_text c octets is =
    let behind : List ℕ = records_text c.records in
    let whole : List ℕ = front_text is.version c.text ++ behind in
    ap text_of_file is.whole
    ∙ ap (text_by_kind whole) (no_recording is.version c.text behind)
    ∙ ap text_before (front_again is.version c.text behind is.front)

-- ---- one of datagrams

pub written_capture : (paths : Paths) (text : List ℕ) (datagrams : List (List ℕ))
    → FitCapture text datagrams
    → IsCapture (written_text paths text datagrams)
    (content text (entries_from paths 0 datagrams))
written_capture paths text datagrams fit = record {
  version = Two;
  front = fit.text_fits;
  fit = fits_from paths 0 datagrams (omega arith) fit.short;
  whole = refl;
}

-- each datagram has one record or two
forth : (paths : Paths) (m : ℕ) (ds : List (List ℕ)) (x : List ℕ) → IsMember x ds
    → IsMember x (octets_of (entries_from paths m ds))
forth paths m [] x is = absurd is
forth OnlyA m (d ∷ ds) x (inl e) = inl e
forth OnlyA m (d ∷ ds) x (inr is) = inr (forth OnlyA (moment_behind OnlyA m) ds x is)
forth OnlyB m (d ∷ ds) x (inl e) = inl e
forth OnlyB m (d ∷ ds) x (inr is) = inr (forth OnlyB (moment_behind OnlyB m) ds x is)
forth Both m (d ∷ ds) x (inl e) = inl e
forth Both m (d ∷ ds) x (inr is) = inr (inr (forth Both (moment_behind Both m) ds x is))

back : (paths : Paths) (m : ℕ) (ds : List (List ℕ)) (x : List ℕ)
    → IsMember x (octets_of (entries_from paths m ds)) → IsMember x ds
back paths m [] x is = absurd is
back OnlyA m (d ∷ ds) x (inl e) = inl e
back OnlyA m (d ∷ ds) x (inr is) = inr (back OnlyA (moment_behind OnlyA m) ds x is)
back OnlyB m (d ∷ ds) x (inl e) = inl e
back OnlyB m (d ∷ ds) x (inr is) = inr (back OnlyB (moment_behind OnlyB m) ds x is)
back Both m (d ∷ ds) x (inl e) = inl e
back Both m (d ∷ ds) x (inr (inl e)) = inl e
back Both m (d ∷ ds) x (inr (inr is)) = inr (back Both (moment_behind Both m) ds x is)

pub datagrams_again : (paths : Paths) (text : List ℕ) (datagrams : List (List ℕ))
    → FitCapture text datagrams
    → SameDatagrams datagrams (capture_datagrams (written_text paths text datagrams))
datagrams_again paths text datagrams fit =
    let records : List Entry = entries_from paths 0 datagrams in
    subst (SameDatagrams datagrams)
    (sym (content_read (content text records) (written_text paths text datagrams)
    (written_capture paths text datagrams fit)))
    (record { forth = forth paths 0 datagrams; back = back paths 0 datagrams })

pub text_again : (paths : Paths) (text : List ℕ) (datagrams : List (List ℕ))
    → FitCapture text datagrams → text_of_file (written_text paths text datagrams) ≡ text
text_again paths text datagrams fit =
    content_text (content text (entries_from paths 0 datagrams))
    (written_text paths text datagrams) (written_capture paths text datagrams fit)

-- ---- a migrated one

abbrev Records : Type 0
Records = Result (List Entry × List ℕ) FileFault

abbrev these : List Entry → Records
these records = Ok (records, [])

old_version : (v : Version) (limit : ℕ) (behind : List ℕ) (records : List Entry)
    → old_by v limit behind ≡ these records → (v ≡ One) × (records_at limit behind ≡ these records)
old_version One limit behind records e = (refl, e)
old_version Two limit behind records e =
    let bad : Records = Err BadVersion in
    let same : bad ≡ these records = e in
    absurd cc

abbrev said : List ℕ → List Entry → List ℕ → Result (Content × List ℕ) FileFault
said text records rest = Ok (content text records, rest)

-- what is read as a capture of version 01 is one, with no text
old_capture : (limit : ℕ) (octets : List ℕ) (records : List Entry) → AreOctets octets
    → old_at limit octets ≡ these records → IsCapture octets (content [] records)
unfolding old_at front_at capture_walk
old_capture limit octets records bytes e =
    let a = bind_ok (kind_at capture_name octets) (λ x. old_by x.0 limit x.1) (records, []) e in
    let b = old_version a.0.0 limit a.0.1 records a.2 in
    let behind : List ℕ = a.0.1 in
    let kind : kind_at capture_name octets ≡ Ok (One, behind) =
    a.1 ∙ ap (λ (v : Version). (let r : Result (Version × List ℕ) FileFault = Ok (v, behind) in r))
    b.0 in
    let walked : capture_walk limit octets ≡ said [] records [] =
    ap (λ (r : Result (Version × List ℕ) FileFault). (r >>= λ x. text_by x.0 x.1) >>=
    λ x. records_at limit x.1 >>= λ y. said x.0 y.0 y.1) kind
    ∙ ap (λ (r : Records). r >>= λ y. said [] y.0 y.1) b.1 in
    (capture_found limit octets (content [] records, []) bytes walked).is

module _ (limit count : ℕ) (text before now : List ℕ) (ended : Type 0) (took took' : List ℕ)
    (moved : MigratedRead limit count text before now ended took took')
    (bytes : AreOctets (since before now)) (fits : length text < 2 ^ 16)
  where
    part_is : since before now ≡ moved.read.part
    part_is = since_is before now moved.read.part moved.read.grown

    old : IsCapture moved.read.part (content [] moved.entries)
    old =
        old_capture limit moved.read.part moved.entries (subst AreOctets part_is bytes)
        moved.read.says

    new : IsCapture (capture_text text moved.entries) (content text moved.entries)
    new = record { version = Two; front = fits; fit = old.fit; whole = refl }

    told : since took took' ≡ capture_text text moved.entries
    told = since_is took took' (capture_text text moved.entries) moved.written

    pub moved_datagrams : capture_datagrams (since took took')
        ≡ capture_datagrams (since before now)
    moved_datagrams =
        ap capture_datagrams told
        ∙ content_read (content text moved.entries) (capture_text text moved.entries) new
        ∙ sym (ap capture_datagrams part_is
        ∙ content_read (content [] moved.entries) moved.read.part old)

    pub moved_text : text_of_file (since took took') ≡ text
    moved_text =
        ap text_of_file told
        ∙ content_text (content text moved.entries) (capture_text text moved.entries) new
