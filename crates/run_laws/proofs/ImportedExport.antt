-- A run of `export`, and what other runs read of what it wrote.
use Rattle.std.proofs.Common.{◌≡◌, ◌∙◌, ℕ, ◌<◌, ◌^◌, inl, inr, List, [], ◌∷◌, length}
use Rattle.std.proofs.Common.{Option, None, Some, refl, sym, ap, subst, arith}
use Rattle.st_format.specs.Device.{AreOctets}
use Rattle.st_format.specs.History.{since}
use Rattle.st_format.specs.Member.{SameDatagrams}
use Rattle.st_format.proofs.Histories.{since_is}
use Rattle.flow.specs.Flow.{IsOnePlace, address_octets}
use Rattle.flow.specs.declared.flows.Flow.{Flow}
use Rattle.flow.specs.declared.flows.Flows.{Flows}
use Rattle.std.specs.declared.net.ip_addr.IpAddr.{IpAddr}
use Rattle.media_file.specs.Capture.{IsCapture, capture_text}
use Rattle.media_file.specs.Records.{AllFit, Entry}
use Rattle.media_file.specs.declared.front.Version.TheVariants.{Two}
use Rattle.media_file.proofs.Found.{Found, capture_found}
use Rattle.pcap_file.specs.Runs.{fault_in, most_packet}
use Rattle.recording_reader.specs.Files.{records_of_file}
use Rattle.run_outcome.specs.Text.{GivesText}
use Rattle.capture_engines.specs.Files.{capture_datagrams, file_datagrams, octets_of}
use Rattle.capture_engines.specs.declared.way.Way.TheVariants.{Flows as ByFlows}
use Rattle.export_engine.specs.Exported.{Exports}
use Rattle.export_engine.specs.Packets.{IsSecondText, pcap_text}
use Rattle.export_engine.specs.declared.packets.ExportCounts.{ExportCounts}
use Rattle.export_engine.specs.declared.places.IpEnvelope.{IpEnvelope}
use Rattle.export_engine.proofs.PacketTexts.{flow_at}
use Rattle.recording_engines.specs.Imported.{AreOver, AsksFlows, Imports, IsAsked}
use Rattle.recording_engines.specs.Joining.{IsJoinedNext, JoinsByMoment, JoinsTo, Strand}
use Rattle.recording_engines.specs.Strands.{TakesBy, strand_in, strands_in}
use Rattle.recording_engines.specs.declared.importing.ImportCounts.{ImportCounts}
use Rattle.run_laws.specs.Exported.{HaveTwoPlaces, address_of, port_of, sent_records}
use Rattle.run_laws.specs.Received.{IsReceivedFile}
use Rattle.run_laws.proofs.Captures.{content, content_read}
use Rattle.run_laws.proofs.ExportRead.{address_from, all_sent, asked_flow, port_from}
use Rattle.run_laws.proofs.ExportRead.{recording_records, recording_sound, some_envelope, some_flow}
use Rattle.run_laws.proofs.Receiving.{same_file}

-- ---- one file that is joined

-- from one record on, where that is so of what is behind it
joined_on : (e : Entry) (es : List Entry) (left : List Strand) (s : Strand)
    → ((l : Strand) → JoinsByMoment (l ∷ []) es left → es ≡ l.entries)
    → (behind : List Strand) → IsJoinedNext (s ∷ []) e behind → JoinsByMoment behind es left
    → e ∷ es ≡ s.entries
joined_on e es left s more [] next later = absurd next
joined_on e es left s more (l ∷ ls) (inl here) later =
    let rest : JoinsByMoment (l ∷ []) es left =
    subst (λ (x : List Strand). JoinsByMoment (l ∷ x) es left) here.1 later in
    ap (λ (x : List Entry). e ∷ x) (more l rest)
    ∙ sym (ap (λ (t : Strand). t.entries) here.0)
joined_on e es left s more (l ∷ ls) (inr there) later = absurd there.2

one_joined : (s : Strand) (es : List Entry) (left : List Strand) → JoinsByMoment (s ∷ []) es left
    → AreOver left → es ≡ s.entries
one_joined s [] left joins over =
    let all : AreOver (s ∷ []) = subst (λ (l : List Strand). AreOver l) joins over in
    sym (ap (λ (t : Strand). t.entries) all.0)
one_joined s (e ∷ es) left joins over =
    joined_on e es left s (λ (l : Strand) (rest : JoinsByMoment (l ∷ []) es left).
    one_joined l es left rest over) joins.0 joins.1 joins.2

-- ---- flows to two places are two flows

flow_is : (f g : Flow) → some_flow f ≡ some_flow g → f ≡ g
flow_is f g same = cc

abbrev octets_at : Option IpAddr → List ℕ
octets_at None = []
octets_at (Some a) = address_octets a

-- the envelope of path B, and its place
record Second (o : Option IpEnvelope) (f : Flow) : Type 0 where
  envelope : IpEnvelope
  there : o ≡ some_envelope envelope
  address : octets_at f.address ≡ address_of envelope
  port : f.port ≡ port_of envelope

second : (c : Option (List ℕ)) (o : Option IpEnvelope) (g : Option Flow) (f : Flow)
    → IsSecondText c o → IsAsked c g → g ≡ some_flow f → Second o f
second None o None f is asked there = let bad : None ≡ some_flow f = there in absurd cc
second None o (Some h) f is asked there = absurd asked
second (Some t) None g f is asked there = absurd is
second (Some t) (Some v) g f is asked there =
    let flow : Flow = flow_at is.source is.address is.port in
    let same : f ≡ flow = flow_is f flow (sym there ∙ asked_flow t g v is asked) in
    record {
      envelope = v;
      there = refl;
      address = ap (λ (x : Flow). octets_at x.address) same
          ∙ sym (address_from is.source is.address is.port v is.envelope);
      port = ap (λ (x : Flow). x.port) same
          ∙ sym (port_from is.source is.address is.port v is.envelope);
    }

-- ---- what `import` wrote

pub text_short : {before now text : List ℕ} {ended : Type 0} → GivesText 65535 before now ended text
    → length text < 2 ^ 16
text_short gives = omega (arith, gives.few)

pub run_written : {F : Type 0} {a b : Option (List ℕ)} {Said : List ℕ → Type 0}
    {give : F → List ℕ → Type 0} {files : List F} {took took' shown shown' : List ℕ}
    {sums : ImportCounts}
    (taken : Imports a b Said give files took took' shown shown' sums)
    → since took took' ≡ capture_text taken.text taken.entries
run_written {took = took} {took' = took'} taken =
    since_is took took' (capture_text taken.text taken.entries) taken.taken

-- ---- a run of `export`

module _ (a : List ℕ) (b : Option (List ℕ)) (counts : ExportCounts) (before now : List ℕ)
    (ended : Type 0) (old new : List ℕ) (run : Exports a b counts before now ended old new)
  where
    abbrev records : List Entry
    records = run.exported.content.records

    abbrev written : List ℕ
    written = pcap_text run.envelopes records

    told : since old new ≡ written
    told = since_is old new written run.exported.written

    pub run_sound : AreOctets (since old new) → length (since old new) < 2 ^ 64
        → fault_in most_packet (since old new) ≡ None
    run_sound fit few =
        ap (λ (l : List ℕ). fault_in most_packet l) told
        ∙ recording_sound a b run.envelopes run.are records (subst AreOctets told fit)
        (subst (λ (l : List ℕ). length l < 2 ^ 64) told few)

    pub run_records : (text : List ℕ) (flows : Flows) → AsksFlows (Some a) b text flows
        → HaveTwoPlaces run.envelopes → AreOctets (since old new)
        → length (since old new) < 2 ^ 64
        → records_of_file (Some flows) (since old new) ≡ sent_records run.envelopes records
    run_records text flows asked two fit few =
        ap (λ (l : List ℕ). records_of_file (Some flows) l) told
        ∙ recording_records a b run.envelopes run.are flows asked.0 asked.1 two records
        (subst AreOctets told fit) (subst (λ (l : List ℕ). length l < 2 ^ 64) told few)

    pub run_all : counts.left_out ≡ 0 → sent_records run.envelopes records ≡ records
    run_all none =
        all_sent run.envelopes records counts.written counts.left_out
        run.exported.counted.written run.exported.counted.all none

    -- the capture that was read
    read : AreOctets (since before now) → IsCapture (since before now) run.exported.content
    read bytes =
        let part : List ℕ = run.exported.read.part in
        let same : since before now ≡ part = since_is before now part run.exported.read.grown in
        let rest : List ℕ = [] in
        let found : Found 16777216 part (run.exported.content, rest) =
        capture_found 16777216 part (run.exported.content, rest) (subst AreOctets same bytes)
        run.exported.read.says in
        subst (λ (l : List ℕ). IsCapture l run.exported.content) (sym same) found.is

    pub read_datagrams : AreOctets (since before now)
        → capture_datagrams (since before now) ≡ octets_of records
    read_datagrams bytes = content_read run.exported.content (since before now) (read bytes)

    pub run_datagrams : (text : List ℕ) (flows : Flows) → AsksFlows (Some a) b text flows
        → HaveTwoPlaces run.envelopes → AreOctets (since old new)
        → length (since old new) < 2 ^ 64 → AreOctets (since before now) → counts.left_out ≡ 0
        → file_datagrams (ByFlows flows) (since old new) ≡ capture_datagrams (since before now)
    run_datagrams text flows asked two fit few bytes none =
        ap octets_of (run_records text flows asked two fit few) ∙ ap octets_of (run_all none)
        ∙ sym (read_datagrams bytes)

    -- the flows of two places are no one place
    not_one : (text : List ℕ) (flows : Flows) → AsksFlows (Some a) b text flows
        → HaveTwoPlaces run.envelopes → IsOnePlace flows → ⊥
    not_one text flows asked two one =
        let f : Flow = one.0 in
        let first = run.are.first in
        let flow : Flow = flow_at first.source first.address first.port in
        let same : f ≡ flow =
        flow_is f flow (sym one.1 ∙ asked_flow a flows.a run.envelopes.a first asked.0) in
        let other : Second run.envelopes.b f =
        second b run.envelopes.b flows.b f run.are.second asked.1 one.2 in
        two other.envelope other.there
        (address_from first.source first.address first.port run.envelopes.a first.envelope
        ∙ ap (λ (x : Flow). octets_at x.address) (sym same) ∙ other.address)
        (port_from first.source first.address first.port run.envelopes.a first.envelope
        ∙ ap (λ (x : Flow). x.port) (sym same) ∙ other.port)

    -- ---- imported

    module _ {F : Type 0} (Said : List ℕ → Type 0) (give : F → List ℕ → Type 0) (file : F)
        (took took' shown shown' : List ℕ) (sums : ImportCounts)
        (taken : Imports (Some a) b Said give (file ∷ []) took took' shown shown' sums)
      where
        each_is : (IsOnePlace taken.flows → ⊥) → TakesBy taken.flows 1 taken.each
            → taken.each ≡ Some taken.flows ∷ []
        each_is not (inl t) = t.1
        each_is not (inr (inl t)) = absurd (not t.0)
        each_is not (inr (inr t)) = absurd (not t.0)

        pub imported_records : give file (since old new) → HaveTwoPlaces run.envelopes
            → AreOctets (since old new) → length (since old new) < 2 ^ 64
            → taken.entries ≡ sent_records run.envelopes records
        imported_records given two fit few =
            let octets : List ℕ = since old new in
            let each : taken.each ≡ Some taken.flows ∷ [] =
            each_is (not_one taken.text taken.flows taken.asked two) taken.taken_by in
            let joined : JoinsTo AreOver (strands_in taken.each (octets ∷ [])) taken.entries =
            taken.joined (octets ∷ []) (given, tt) in
            let one : JoinsTo AreOver (strands_in (Some taken.flows ∷ []) (octets ∷ []))
            taken.entries =
            subst (λ (l : List (Option Flows)). JoinsTo AreOver (strands_in l (octets ∷ []))
            taken.entries) each joined in
            one_joined (strand_in (Some taken.flows) octets) taken.entries one.left one.joins one.ends
            ∙ run_records taken.text taken.flows taken.asked two fit few

        pub imported_datagrams : length taken.text < 2 ^ 16 → give file (since old new)
            → HaveTwoPlaces run.envelopes → AreOctets (since old new)
            → length (since old new) < 2 ^ 64 → AreOctets (since before now)
            → counts.left_out ≡ 0
            → capture_datagrams (since took took') ≡ capture_datagrams (since before now)
        imported_datagrams short given two fit few bytes none =
            let all : taken.entries ≡ records =
            imported_records given two fit few ∙ run_all none in
            let is : IsCapture (capture_text taken.text taken.entries)
            (content taken.text taken.entries) =
            record {
              version = Two;
              front = short;
              fit = subst (λ (es : List Entry). AllFit es) (sym all) (read bytes).fit;
              whole = refl;
            } in
            ap capture_datagrams (run_written taken)
            ∙ content_read (content taken.text taken.entries)
            (capture_text taken.text taken.entries) is
            ∙ ap octets_of all ∙ sym (read_datagrams bytes)

-- ---- received

-- the same datagrams are received into one file
pub one_received : (window by said : List ℕ) (xs ys : List (List ℕ)) (file other : List ℕ)
    → ys ≡ xs → IsReceivedFile window by said xs file → IsReceivedFile window by said ys other
    → file ≡ other
one_received window by said xs ys file other same x y =
    let itself : SameDatagrams xs xs = record { forth = λ z m. m; back = λ z m. m } in
    same_file window by said xs ys file other x y
    (subst (SameDatagrams xs) (sym same) itself)
