-- Against what a run of `import` read that ended well no refusal speaks.
use Rattle.std.proofs.Common.{◌≡◌, ◌∙◌, ℕ, suc, ◌+◌, ◌<◌, ◌≤◌, inl, inr, List, [], ◌∷◌, ◌++◌}
use Rattle.std.proofs.Common.{length, map, Option, None, Some, Result, Ok, Err}
use Rattle.std.proofs.Common.{refl, sym, ap, subst, arith}
use Rattle.std.specs.Prelude.{IsSome}
use Rattle.std.specs.List.{AllByRecursion, AllZip, zip}
use Rattle.st_format.proofs.Histories.{since_is}
use Rattle.flow.specs.declared.flows.Flow.{Flow}
use Rattle.flow.specs.declared.flows.Flows.{Flows}
use Rattle.flow.proofs.FlowTexts.{flow_once}
use Rattle.media_file.specs.Records.{Entry}
use Rattle.sdp_format.specs.Bytes.{lines}
use Rattle.sdp_format.specs.Destinations.{IsFlowFault, IsFlowOf, SectionsFault, SectionsFlows}
use Rattle.sdp_format.specs.Sections.{Section, video_sections}
use Rattle.sdp_format.specs.declared.flows_fault.FlowsFault.{FlowsFault}
use Rattle.sdp_format.proofs.Destined.{flow_read}
use Rattle.recording_reader.specs.declared.fault.ReadingFault.{ReadingFault}
use Rattle.run_outcome.specs.Moments.{WasRead}
use Rattle.run_outcome.specs.Text.{GivesText}
use Rattle.run_outcome.specs.declared.refusal.Refusal.{Refusal}
use Rattle.run_outcome.specs.declared.refusal.Refusal.TheVariants as why
use Rattle.recording_engines.specs.Imported.{AreOf, AreOver, AsksFlows, Imports, IsAsked}
use Rattle.recording_engines.specs.Imported.{IsImportFlowsRefusal, IsImportRefusal, IsInputsRefusal}
use Rattle.recording_engines.specs.Imported.{IsLateRefusal, IsNoFlowRefusal, IsSdpFlowsRefusal}
use Rattle.recording_engines.specs.Joining.{IsJoinedNext, JoinsByMoment, JoinsTo, OneAt, OneHasMore}
use Rattle.recording_engines.specs.Joining.{Strand}
use Rattle.recording_engines.specs.Opened.{IsFirstStop, IsStopRefusal}
use Rattle.recording_engines.specs.Strands.{IsTakenBy, TakesBy, strand_in, strands_in}
use Rattle.recording_engines.specs.declared.importing.ImportCounts.{ImportCounts}
use Rattle.run_laws.specs.Received.{all_read, read_of}
use Rattle.run_laws.proofs.NoProcessRefusals.{not_text}
use Rattle.run_laws.proofs.Receiving.{was_read}
use Rattle.run_laws.proofs.ExportRead.{some_flow}

-- ---- the flows of a text

abbrev Walked : Type 0
Walked = Result Flow FlowsFault

abbrev to : Flow → Walked
to f = Ok f

abbrev failed : FlowsFault → Walked
failed e = Err e

same_to : (f g : Flow) → to f ≡ to g → f ≡ g
same_to f g e = cc

not_to : (f : Flow) (e : FlowsFault) → to f ≡ failed e → ⊥
not_to f e same = cc

section_once : (ls : List (List ℕ)) (s : Section) (f g : Flow) → IsFlowOf ls s f
    → IsFlowOf ls s g → f ≡ g
section_once ls s f g h k = same_to f g (((flow_read ls s f h).0 g).0 k)

section_not : (ls : List (List ℕ)) (s : Section) (f : Flow) (e : FlowsFault) → IsFlowOf ls s f
    → IsFlowFault ls s e → ⊥
section_not ls s f e h k = not_to f e (((flow_read ls s f h).1 e).0 k)

sections_once : (ls : List (List ℕ)) (ss : List Section) (fs gs : List Flow)
    → SectionsFlows ls ss fs → SectionsFlows ls ss gs → fs ≡ gs
sections_once ls [] fs gs h k = absurd h
sections_once ls (s ∷ []) [] gs h k = absurd h
sections_once ls (s ∷ []) (f ∷ []) [] h k = absurd k
sections_once ls (s ∷ []) (f ∷ []) (g ∷ []) h k =
    ap (λ (x : Flow). x ∷ []) (section_once ls s f g h k)
sections_once ls (s ∷ []) (f ∷ []) (g ∷ x ∷ gs) h k = absurd k
sections_once ls (s ∷ []) (f ∷ x ∷ fs) gs h k = absurd h
sections_once ls (s ∷ t ∷ []) [] gs h k = absurd h
sections_once ls (s ∷ t ∷ []) (f ∷ []) gs h k = absurd h
sections_once ls (s ∷ t ∷ []) (f ∷ u ∷ []) [] h k = absurd k
sections_once ls (s ∷ t ∷ []) (f ∷ u ∷ []) (g ∷ []) h k = absurd k
sections_once ls (s ∷ t ∷ []) (f ∷ u ∷ []) (g ∷ v ∷ []) h k =
    ap (λ (x : Flow). x ∷ u ∷ []) (section_once ls s f g h.0 k.0)
    ∙ ap (λ (x : Flow). g ∷ x ∷ []) (section_once ls t u v h.1 k.1)
sections_once ls (s ∷ t ∷ []) (f ∷ u ∷ []) (g ∷ v ∷ x ∷ gs) h k = absurd k
sections_once ls (s ∷ t ∷ []) (f ∷ u ∷ x ∷ fs) gs h k = absurd h
sections_once ls (s ∷ t ∷ r ∷ ss) fs gs h k = absurd h

sections_not : (ls : List (List ℕ)) (ss : List Section) (fs : List Flow) (e : FlowsFault)
    → SectionsFlows ls ss fs → SectionsFault ls ss e → ⊥
sections_not ls [] fs e h k = h
sections_not ls (s ∷ []) [] e h k = h
sections_not ls (s ∷ []) (f ∷ []) e h k = section_not ls s f e h k
sections_not ls (s ∷ []) (f ∷ x ∷ fs) e h k = h
sections_not ls (s ∷ t ∷ []) [] e h k = h
sections_not ls (s ∷ t ∷ []) (f ∷ []) e h k = h
sections_not ls (s ∷ t ∷ []) (f ∷ u ∷ []) e h (inl k) = section_not ls s f e h.0 k
sections_not ls (s ∷ t ∷ []) (f ∷ u ∷ []) e h (inr k) = section_not ls t u e h.1 k.1
sections_not ls (s ∷ t ∷ []) (f ∷ u ∷ x ∷ fs) e h k = h
sections_not ls (s ∷ t ∷ r ∷ ss) fs e h k = h

-- ---- the flows of a run

abbrev flows_by : Option Flow → Option Flow → Flows
flows_by a b = record { a = a; b = b }

flows_is : (fs gs : Flows) → fs.a ≡ gs.a → fs.b ≡ gs.b → fs ≡ gs
flows_is fs gs a b =
    ap (λ (x : Option Flow). flows_by x fs.b) a ∙ ap (λ (x : Option Flow). flows_by gs.a x) b

asked_once : (word : Option (List ℕ)) (o q : Option Flow) → IsAsked word o → IsAsked word q → o ≡ q
asked_once None None None h k = refl
asked_once None None (Some g) h k = absurd k
asked_once None (Some f) q h k = absurd h
asked_once (Some text) None q h k = absurd h
asked_once (Some text) (Some f) None h k = absurd k
asked_once (Some text) (Some f) (Some g) h k =
    ap (λ (x : Flow). some_flow x) (flow_once text f g h k)

of_once : (fs : List Flow) (x y : Flows) → AreOf fs x → AreOf fs y → x ≡ y
of_once [] x y h k = absurd h
of_once (f ∷ []) x y h k = h ∙ sym k
of_once (f ∷ g ∷ fs) x y h k = h ∙ sym k

pub one_asked : (a b : Option (List ℕ)) (text : List ℕ) (fs gs : Flows) → AsksFlows a b text fs
    → AsksFlows a b text gs → fs ≡ gs
one_asked None None text fs gs h k =
    let same : h.0 ≡ k.0 =
    sections_once (lines text) (video_sections (lines text)) h.0 k.0 h.1 k.1 in
    of_once k.0 fs gs (subst (λ (l : List Flow). AreOf l fs) same h.2) k.2
one_asked None (Some t) text fs gs h k =
    flows_is fs gs (h.0 ∙ sym k.0) (asked_once (Some t) fs.b gs.b h.1 k.1)
one_asked (Some s) b text fs gs h k =
    flows_is fs gs (asked_once (Some s) fs.a gs.a h.0 k.0) (asked_once b fs.b gs.b h.1 k.1)

word_not : (word : Option (List ℕ)) (o : Option Flow) (r : Refusal) → IsAsked word o
    → IsNoFlowRefusal word r → ⊥
word_not None o r asked wrong = wrong
word_not (Some t) None r asked wrong = asked
word_not (Some t) (Some f) r asked wrong = wrong.1 f asked

said_not : (text : List ℕ) (flows : Flows) (r : Refusal) → AsksFlows None None text flows
    → IsSdpFlowsRefusal text r → ⊥
said_not text flows (why.Flows e) asked wrong =
    sections_not (lines text) (video_sections (lines text)) asked.0 e asked.1 wrong
said_not text flows r asked wrong = absurd wrong

flows_not : (a b : Option (List ℕ)) (text : List ℕ) (flows : Flows) (r : Refusal)
    → AsksFlows a b text flows → IsImportFlowsRefusal a b text r → ⊥
flows_not None None text flows r asked wrong = said_not text flows r asked wrong
flows_not None (Some t) text flows r asked (inl wrong) = wrong
flows_not None (Some t) text flows r asked (inr wrong) = word_not (Some t) flows.b r asked.1 wrong
flows_not (Some s) b text flows r asked (inl wrong) = word_not (Some s) flows.a r asked.0 wrong
flows_not (Some s) b text flows r asked (inr wrong) = word_not b flows.b r asked.1 wrong

-- so each file is taken in one way
one_each : (flows : Flows) (n : ℕ) (fs gs : List (Option Flows)) → TakesBy flows n fs
    → TakesBy flows n gs → fs ≡ gs
one_each flows n fs gs (inl h) (inl k) = h.1 ∙ sym k.1
one_each flows n fs gs (inl h) (inr (inl k)) = absurd (h.0 k.0)
one_each flows n fs gs (inl h) (inr (inr k)) = absurd (h.0 k.0)
one_each flows n fs gs (inr (inl h)) (inl k) = absurd (k.0 h.0)
one_each flows n fs gs (inr (inl h)) (inr (inl k)) = h.2 ∙ sym k.2
one_each flows n fs gs (inr (inl h)) (inr (inr k)) = absurd (k.1 h.1)
one_each flows n fs gs (inr (inr h)) (inl k) = absurd (k.0 h.0)
one_each flows n fs gs (inr (inr h)) (inr (inl k)) = absurd (h.1 k.1)
one_each flows n fs gs (inr (inr h)) (inr (inr k)) = h.2 ∙ sym k.2

-- ---- what is joined

abbrev Fault : Type 0
Fault = Option ReadingFault

abbrev faults : List Strand → List Fault
faults ss = map (λ s. s.fault) ss

abbrev total : List Strand → ℕ
total [] = 0
total (s ∷ ss) = length s.entries + total ss

-- one record more is joined
next_faults : (ss : List Strand) (e : Entry) (ls : List Strand) → IsJoinedNext ss e ls
    → faults ls ≡ faults ss
next_faults [] e ls next = absurd next
next_faults (s ∷ ss) e [] next = absurd next
next_faults (s ∷ ss) e (l ∷ ls) (inl here) =
    ap (λ (f : Fault). f ∷ faults ls) (sym (ap (λ (t : Strand). t.fault) here.0))
    ∙ ap (λ (ts : List Strand). s.fault ∷ faults ts) here.1
next_faults (s ∷ ss) e (l ∷ ls) (inr there) =
    ap (λ (t : Strand). t.fault ∷ faults ls) there.0
    ∙ ap (λ (fs : List Fault). s.fault ∷ fs) (next_faults ss e ls there.2)

next_total : (ss : List Strand) (e : Entry) (ls : List Strand) → IsJoinedNext ss e ls
    → total ss ≡ suc (total ls)
next_total [] e ls next = absurd next
next_total (s ∷ ss) e [] next = absurd next
next_total (s ∷ ss) e (l ∷ ls) (inl here) =
    let first : length s.entries ≡ suc (length l.entries) =
    ap (λ (t : Strand). length t.entries) here.0 in
    let rest : total ls ≡ total ss = ap (λ (ts : List Strand). total ts) here.1 in
    omega (arith, first, rest)
next_total (s ∷ ss) e (l ∷ ls) (inr there) =
    let first : length l.entries ≡ length s.entries =
    ap (λ (t : Strand). length t.entries) there.0 in
    omega (arith, first, next_total ss e ls there.2)

joined_faults : (ss : List Strand) (es : List Entry) (left : List Strand) → JoinsByMoment ss es left
    → faults left ≡ faults ss
joined_faults ss [] left joins = ap (λ (ts : List Strand). faults ts) joins
joined_faults ss (e ∷ es) left joins =
    joined_faults joins.0 es left joins.2 ∙ next_faults ss e joins.0 joins.1

joined_total : (ss : List Strand) (es : List Entry) (left : List Strand) → JoinsByMoment ss es left
    → total ss ≡ length es + total left
joined_total ss [] left joins = omega (arith, ap (λ (ts : List Strand). total ts) joins)
joined_total ss (e ∷ es) left joins =
    omega (arith, next_total ss e joins.0 joins.1, joined_total joins.0 es left joins.2)

-- where nothing is left
over_total : (ss : List Strand) → AreOver ss → total ss ≡ 0
over_total [] over = refl
over_total (s ∷ ss) over =
    let none : length s.entries ≡ 0 = ap (λ (t : Strand). length t.entries) over.0 in
    omega (arith, none, over_total ss over.1)

abbrev NoneFaulty : List Fault → Type 0
NoneFaulty fs = AllByRecursion (λ f. f ≡ None) fs

over_faults : (ss : List Strand) → AreOver ss → NoneFaulty (faults ss)
over_faults [] over = tt
over_faults (s ∷ ss) over =
    (ap (λ (t : Strand). t.fault) over.0, over_faults ss over.1)

abbrev some_fault : ReadingFault → Fault
some_fault f = Some f

no_fault : (f : ReadingFault) (o : Fault) → o ≡ None → o ≡ some_fault f → ⊥
no_fault f o none some = cc

none_at : (f : ReadingFault) (ss : List Strand) → NoneFaulty (faults ss) → OneAt f ss → ⊥
none_at f [] none at = at
none_at f (s ∷ ss) none (inl at) =
    no_fault f s.fault none.0 (ap (λ (t : Strand). t.fault) at.0)
none_at f (s ∷ ss) none (inr at) = none_at f ss none.1 at.1

more_total : (ss : List Strand) → OneHasMore ss → 0 < total ss
more_total [] more = absurd more
more_total (s ∷ ss) (inl more) =
    let some : length s.entries ≡ suc (length more.1) =
    ap (λ (es : List Entry). length es) more.2 in
    omega (arith, some)
more_total (s ∷ ss) (inr more) = omega (arith, more_total ss more)

-- ---- files

module _ {F : Type 0} (gave : F → List ℕ) (ended : F → Type 0) where
  zipped : (files : List (F × F)) → AllZip (WasRead gave ended) files (all_read gave files)
  zipped [] = tt
  zipped (s ∷ ss) = (was_read gave ended s, zipped ss)

  -- none of them is refused before its first record
  stop_not : (s : F × F) (flows : Option Flows) (r : Refusal)
      → IsTakenBy flows (read_of gave s) → (strand_in flows (read_of gave s)).fault ≡ None
      → IsStopRefusal (WasRead gave ended s) flows r → ⊥
  stop_not s flows r by none (inl wrong) =
      not_some (subst (λ (f : Option Flows). IsSome f) wrong.1
      (by (wrong.2 (read_of gave s) (was_read gave ended s))))
    where
      not_some : (let o : Option Flows = None in IsSome o) → ⊥
      not_some is = cc
  stop_not s flows r by none (inr wrong) =
      no_fault wrong.0 (strand_in flows (read_of gave s)).fault none
      (ap (λ (t : Strand). t.fault) (wrong.2 (read_of gave s) (was_read gave ended s)))

  abbrev NotStopped : Refusal → List ((F × F) × Option Flows) → Type 0
  NotStopped r files =
      AllByRecursion (λ x. IsStopRefusal (WasRead gave ended x.0) x.1 r → ⊥) files

  none_stops : (files : List (F × F)) (each : List (Option Flows)) (r : Refusal)
      → AllZip IsTakenBy each (all_read gave files)
      → NoneFaulty (faults (strands_in each (all_read gave files))) → NotStopped r (zip files each)
  none_stops [] [] r by none = tt
  none_stops [] (f ∷ fs) r by none = tt
  none_stops (s ∷ ss) [] r by none = tt
  none_stops (s ∷ ss) (f ∷ fs) r by none =
      (stop_not s f r by.0 none.0, none_stops ss fs r by.1 none.1)

  one_not : (front : List ((F × F) × Option Flows)) (x : (F × F) × Option Flows)
      (behind : List ((F × F) × Option Flows)) (r : Refusal)
      → NotStopped r (front ++ x ∷ behind) → IsStopRefusal (WasRead gave ended x.0) x.1 r → ⊥
  one_not [] x behind r none wrong = none.0 wrong
  one_not (y ∷ ys) x behind r none wrong = one_not ys x behind r none.1 wrong

  -- so none is the first
  stops_not : (files : List (F × F)) (each : List (Option Flows)) (r : Refusal)
      → AllZip IsTakenBy each (all_read gave files)
      → NoneFaulty (faults (strands_in each (all_read gave files)))
      → IsFirstStop (WasRead gave ended) (zip files each) r → ⊥
  stops_not files each r by none first =
      one_not first.front first.at first.behind r
      (subst (NotStopped r) first.parts (none_stops files each r by none)) first.refused

-- ---- the run

module _ {D F : Type 0} (text_gave : D → List ℕ) (text_ended : D → Type 0) (gave : F → List ℕ)
    (ended : F → Type 0) (a b : Option (List ℕ)) (sdp later : D) (files : List (F × F))
    (took took' shown shown' : List ℕ) (counts : ImportCounts)
    (run : Imports a b (GivesText 65535 (text_gave sdp) (text_gave later) (text_ended later))
    (WasRead gave ended) files took took' shown shown' counts)
  where
    abbrev octets : List (List ℕ)
    octets = all_read gave files

    abbrev Said : List ℕ → Type 0
    Said = GivesText 65535 (text_gave sdp) (text_gave later) (text_ended later)

    -- the text that was read
    text_is : (text : List ℕ) → Said text → read_of text_gave (sdp, later) ≡ text
    text_is text said = since_is (text_gave sdp) (text_gave later) text said.given

    one_text : (text : List ℕ) → Said text → text ≡ run.text
    one_text text said = sym (text_is text said) ∙ text_is run.text run.said

    joined : JoinsTo AreOver (strands_in run.each octets) run.entries
    joined = run.joined octets (zipped gave ended files)

    none_faulty : NoneFaulty (faults (strands_in run.each octets))
    none_faulty =
        subst (λ (fs : List Fault). NoneFaulty fs)
        (joined_faults (strands_in run.each octets) run.entries joined.left joined.joins)
        (over_faults joined.left joined.ends)

    all_joined : total (strands_in run.each octets) ≡ length run.entries
    all_joined =
        joined_total (strands_in run.each octets) run.entries joined.left joined.joins
        ∙ omega (arith, over_total joined.left joined.ends)

    join_not : (text other other' : List ℕ) (r : Refusal)
        → IsLateRefusal (WasRead gave ended) run.each text files other other' r → ⊥
    join_not text other other' r (inl (f, told, stops)) =
        let out = stops.joined octets (zipped gave ended files) in
        none_at f out.left
        (subst (λ (fs : List Fault). NoneFaulty fs)
        (sym (joined_faults (strands_in run.each octets) stops.entries out.left out.joins))
        none_faulty)
        out.ends
    join_not text other other' r (inr (same, stops)) =
        let out = stops.joined octets (zipped gave ended files) in
        let many : length stops.entries ≡ 16777216 = stops.number in
        let few : length run.entries ≤ 16777216 = run.few in
        omega (
          arith,
          joined_total (strands_in run.each octets) stops.entries out.left out.joins,
          all_joined,
          more_total out.left out.ends.1,
          many,
          few,
        )

    files_not : (text other other' : List ℕ) (r : Refusal)
        → IsInputsRefusal (WasRead gave ended) run.flows text files other other' r → ⊥
    files_not text other other' r (each, takes, inl wrong) =
        let same : each ≡ run.each =
        one_each run.flows (length files) each run.each takes run.taken_by in
        stops_not gave ended files each r
        (subst (λ (fs : List (Option Flows)). AllZip IsTakenBy fs octets) (sym same)
        (run.by_flows octets (zipped gave ended files)))
        (subst (λ (fs : List (Option Flows)). NoneFaulty (faults (strands_in fs octets)))
        (sym same) none_faulty)
        wrong.1
    files_not text other other' r (each, takes, inr wrong) =
        join_not text other other' r
        (subst (λ (fs : List (Option Flows)). IsLateRefusal (WasRead gave ended) fs text files other
        other' r) (one_each run.flows (length files) each run.each takes run.taken_by) wrong)

    pub import_not : (other other' : List ℕ) (r : Refusal)
        → IsImportRefusal a b (WasRead text_gave text_ended (sdp, later)) Said
        (WasRead gave ended) files other other' r → ⊥
    import_not other other' r (inl wrong) =
        not_text why.ImportSdp (WasRead text_gave text_ended (sdp, later)) run.text r
        (subst (WasRead text_gave text_ended (sdp, later)) (text_is run.text run.said)
        (was_read text_gave text_ended (sdp, later))) run.described wrong.1
    import_not other other' r (inr (text, said, described, inl wrong)) =
        flows_not a b run.text run.flows r run.asked
        (subst (λ (t : List ℕ). IsImportFlowsRefusal a b t r) (one_text text said) wrong.1)
    import_not other other' r (inr (text, said, described, inr (flows, asked, wrong))) =
        let same : flows ≡ run.flows =
        one_asked a b run.text flows run.flows
        (subst (λ (t : List ℕ). AsksFlows a b t flows) (one_text text said) asked) run.asked in
        files_not text other other' r
        (subst (λ (fs : Flows). IsInputsRefusal (WasRead gave ended) fs text files other other' r)
        same wrong)
