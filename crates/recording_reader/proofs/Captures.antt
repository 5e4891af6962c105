-- Where a reader of a capture stands, and what is known of the capture then.
use Rattle.std.proofs.Common.{◌≡◌, ℕ, List, [], ◌∷◌, ◌++◌, false, Option, None, Some, Result, Ok}
use Rattle.std.proofs.Common.{append_assoc, append-nil, refl, sym, ap, subst, ◌∙◌, inr, length}
use Rattle.flow.specs.declared.flows.Flows.{Flows}
use Rattle.recording_counts.specs.LeftOut.{left_out_of}
use Rattle.recording_counts.specs.declared.omission.Omission.{Omission}
use Rattle.media_file.specs.Fronts.{front_at}
use Rattle.media_file.specs.Reading.{entries_by, entries_in, entries_up_to, fault_at}
use Rattle.media_file.specs.Reading.{rest_at}
use Rattle.media_file.specs.Records.{AllFit, Entry, record_text, records_text}
use Rattle.media_file.specs.declared.fault.FileFault.{FileFault}
use Rattle.media_file.specs.Faults.{file_fault_origin}
use Rattle.st_format.proofs.Origins.{if_content_weaker}
use Rattle.media_file.proofs.Cuts.{entries_front}
use Rattle.media_file.proofs.Dues.{entries_none}
use Rattle.media_file.proofs.GaveLoops.{front_fails, by_fault}
use Rattle.st_format.proofs.Gave.{grew_twice}
use Rattle.media_file.proofs.Standings.{both_fit}
use Rattle.media_file.proofs.Written.{records_append}
use Rattle.st_format.specs.History.{GrewFrom, IsRead, since}
use Rattle.st_format.proofs.Histories.{grew_by, since_is}
use Rattle.recording_reader.specs.Capturing.{FailsRecord, ReadsRecord}
use Rattle.recording_reader.specs.FileReader.{IsKnownBy}
use Rattle.recording_reader.specs.Files.{AreFirst, HasFirstRecords, HaveFileRecords, IsFileFault}
use Rattle.recording_reader.specs.Files.{IsWholeFile, records_of_file, text_of_file}
use Rattle.recording_reader.specs.Kinds.{is_recording}
use Rattle.recording_reader.specs.Ways.{CaptureStands, IsBehindRecords, IsFront}
use Rattle.recording_reader.specs.declared.fault.ReadingFault.TheVariants as fault
use Rattle.recording_reader.specs.declared.way.Standing.{Standing}
use Rattle.recording_reader.specs.declared.way.Standing.TheVariants.{Reads, Ended, Failed}
use Rattle.recording_reader.proofs.Files.{capture_entries, capture_omissions, capture_text}
use Rattle.recording_reader.proofs.Files.{capture_whole}

abbrev front_ok : List ℕ → List ℕ → Result (List ℕ × List ℕ) FileFault
front_ok text rest = Ok (text, rest)

-- ---- the octets

-- what stands behind whole records is no record
none_behind : (standing : Standing) (ended : Type 0) (behind : List ℕ)
    → IsBehindRecords standing ended behind → entries_in behind ≡ []
none_behind Reads ended behind is = ap entries_in is ∙ entries_none
none_behind Ended ended behind is = ap entries_in is.0 ∙ entries_none
none_behind (Failed (fault.Capture f)) ended behind is = is.none
none_behind (Failed (fault.Recording f)) ended behind is = absurd is

-- octets of a capture: its front, records, and others
module _ (flows : Option Flows) (octets front text : List ℕ) (is_front : IsFront text front)
    (records : List Entry) (fit : AllFit records) (rest : List ℕ)
    (whole : octets ≡ front ++ (records_text records ++ rest)) where
  kind_is : is_recording octets ≡ false
  kind_is = ap is_recording whole ∙ is_front.kind (records_text records ++ rest)

  front_is : front_at octets ≡ front_ok text (records_text records ++ rest)
  front_is = ap front_at whole ∙ is_front.says (records_text records ++ rest)

  text_is : text_of_file octets ≡ text
  text_is = capture_text flows octets kind_is text (records_text records ++ rest) front_is

  entries_are : records_of_file flows octets ≡ records ++ entries_in rest
  entries_are =
      capture_entries flows octets kind_is text (records_text records ++ rest) front_is
      ∙ entries_front records rest fit

  none_more : entries_in rest ≡ [] → records_of_file flows octets ≡ records
  none_more none =
      entries_are ∙ ap (λ (l : List Entry). records ++ l) none ∙ append-nil records

  have_records : entries_in rest ≡ []
      → HaveFileRecords flows octets records (left_out_of [])
  have_records none = record {
    records_are = none_more none;
    left_is =
        ap (λ (l : List Omission). left_out_of l) (sym (capture_omissions flows octets kind_is));
  }

  are_first : AreFirst records (records_of_file flows octets)
  are_first = (entries_in rest, entries_are)

-- ---- where a reader stands

pub capture_first : (before now front text : List ℕ) (ended : Type 0) → IsFront text front
    → now ≡ before ++ front → CaptureStands Reads before now ended text []
capture_first before now front text ended is_front grown = record {
  front = front;
  behind = [];
  is_front = is_front;
  fit = tt;
  grown = grown ∙ ap (λ (l : List ℕ). before ++ l) (sym (append-nil front));
  stands = refl;
}

module _ (standing : Standing) (before now : List ℕ) (ended : Type 0) (text : List ℕ)
    (records : List Entry) (s : CaptureStands standing before now ended text records) where
  given : since before now ≡ s.front ++ (records_text records ++ s.behind)
  given = since_is before now (s.front ++ (records_text records ++ s.behind)) s.grown

  pub capture_grew : GrewFrom before now
  capture_grew = grew_by before now (s.front ++ (records_text records ++ s.behind)) s.grown

  pub capture_text_is : text_of_file (since before now) ≡ text
  capture_text_is =
      text_is (let none : Option Flows = None in none) (since before now) s.front text s.is_front
      records s.fit s.behind given

  pub capture_has : (flows : Option Flows)
      → HaveFileRecords flows (since before now) records (left_out_of [])
  capture_has flows =
      have_records flows (since before now) s.front text s.is_front records s.fit s.behind given
      (none_behind standing ended s.behind s.stands)

  -- the whole of what is known
  module _ (flows : Option Flows) (octets : List ℕ) (read : IsRead before now ended octets) where
    whole : octets ≡ s.front ++ (records_text records ++ (s.behind ++ read.behind))
    whole =
        read.parts ∙ ap (λ (l : List ℕ). l ++ read.behind) given
        ∙ append_assoc s.front (records_text records ++ s.behind) read.behind
        ∙ ap (λ (l : List ℕ). s.front ++ l)
        (append_assoc (records_text records) s.behind read.behind)

    pub capture_kind : is_recording octets ≡ false
    capture_kind =
        kind_is flows octets s.front text s.is_front records s.fit (s.behind ++ read.behind) whole

    pub capture_said : text_of_file octets ≡ text
    capture_said =
        text_is flows octets s.front text s.is_front records s.fit (s.behind ++ read.behind) whole

    pub capture_parts : HasFirstRecords text records octets
    capture_parts = record {
      behind = s.behind ++ read.behind;
      fit = s.fit;
      front =
          front_is flows octets s.front text s.is_front records s.fit (s.behind ++ read.behind)
          whole;
    }

no_entries : (f : FileFault) (octets : List ℕ) → fault_at octets ≡ Some f
    → entries_in octets ≡ []
unfolding fault_at entries_up_to
no_entries f [] is = absurd cc
no_entries f (first ∷ octets) is =
    ap (λ (r : Result (Entry × List ℕ) FileFault). entries_by r (entries_up_to (length octets)))
    (by_fault f (rest_at first octets) is)

-- what is known of octets whose front and records were read, by what stands behind them
module _ (flows : Option Flows) (octets front text : List ℕ) (is_front : IsFront text front)
    (records : List Entry) (fit : AllFit records) (behind more : List ℕ) (ended : Type 0)
    (all : ended → more ≡ []) (whole : octets ≡ front ++ (records_text records ++ (behind ++ more)))
  where
    known_whole : behind ++ more ≡ [] → IsWholeFile octets
    known_whole empty =
        capture_whole octets
        (kind_is flows octets front text is_front records fit (behind ++ more) whole)
        (record {
          text = text;
          records = records;
          fit = fit;
          front =
              front_is flows octets front text is_front records fit (behind ++ more) whole
              ∙ ap (λ (l : List ℕ). front_ok text (records_text records ++ l)) empty
              ∙ ap (front_ok text) (append-nil (records_text records));
        })

    known_wrong : (f : FileFault) → fault_at (behind ++ more) ≡ Some f
        → HaveFileRecords flows octets records (left_out_of []) × IsFileFault (fault.Capture f) octets
    known_wrong f wrong = (
      have_records flows octets front text is_front records fit (behind ++ more) whole
          (no_entries f (behind ++ more) wrong),
      (
        kind_is flows octets front text is_front records fit (behind ++ more) whole,
        inr (
          (text, records_text records ++ (behind ++ more)),
          front_is flows octets front text is_front records fit (behind ++ more) whole,
          record {
            records = records;
            behind = behind ++ more;
            fit = fit;
            parts = refl;
            fault = wrong;
          },
        ),
      ),
    )

    known_by : (standing : Standing) → IsBehindRecords standing ended behind
        → IsKnownBy flows standing octets records (left_out_of [])
    known_by Reads is =
        are_first flows octets front text is_front records fit (behind ++ more) whole
    known_by Ended is =
        let empty : behind ++ more ≡ [] = ap (λ (l : List ℕ). l ++ more) is.0 ∙ all is.1 in (
          have_records flows octets front text is_front records fit (behind ++ more) whole
              (ap entries_in empty ∙ entries_none),
          known_whole empty,
        )
    known_by (Failed (fault.Capture f)) is = (
      are_first flows octets front text is_front records fit (behind ++ more) whole,
      if_content_weaker file_fault_origin f (fault_at (behind ++ more) ≡ Some f)
          (HaveFileRecords flows octets records (left_out_of [])
          × IsFileFault (fault.Capture f) octets) (known_wrong f)
          (front_fails f behind more ended is.named is.told is.cut all),
    )
    known_by (Failed (fault.Recording f)) is = absurd is

pub capture_known : (standing : Standing) (before now : List ℕ) (ended : Type 0) (text : List ℕ)
    (records : List Entry) → CaptureStands standing before now ended text records
    → (flows : Option Flows) (octets : List ℕ) → IsRead before now ended octets
    → IsKnownBy flows standing octets records (left_out_of [])
capture_known standing before now ended text records s flows octets read =
    known_by flows octets s.front text s.is_front records s.fit s.behind read.behind ended read.all
    (whole standing before now ended text records s flows octets read) standing s.stands

-- ---- one call later

module _ (standing : Standing) (before now new : List ℕ) (ended ended' : Type 0) (text : List ℕ)
    (records : List Entry) (reads : standing ≡ Reads)
    (s : CaptureStands standing before now ended text records) where
  nothing : s.behind ≡ []
  nothing = subst (λ (x : Standing). IsBehindRecords x ended s.behind) reads s.stands

  so_far : now ≡ before ++ (s.front ++ records_text records)
  so_far =
      s.grown
      ∙ ap (λ (l : List ℕ). before ++ (s.front ++ (records_text records ++ l))) nothing
      ∙ ap (λ (l : List ℕ). before ++ (s.front ++ l)) (append-nil (records_text records))

  behind_is : (part : List ℕ) → new ≡ now ++ part
      → new ≡ before ++ (s.front ++ (records_text records ++ part))
  behind_is part grown =
      grew_twice before now new (s.front ++ records_text records) part so_far grown
      ∙ ap (λ (l : List ℕ). before ++ l) (append_assoc s.front (records_text records) part)

  pub capture_again : (e : Entry) → ReadsRecord now new e
      → CaptureStands standing before new ended' text (records ++ e ∷ [])
  capture_again e read =
      let both : records_text records ++ record_text e ≡ records_text (records ++ e ∷ []) ++ [] =
      ap (λ (l : List ℕ). records_text records ++ l) (sym (append-nil (record_text e)))
      ∙ sym (records_append records (e ∷ []))
      ∙ sym (append-nil (records_text (records ++ e ∷ []))) in
      record {
        front = s.front;
        behind = [];
        is_front = s.is_front;
        fit = both_fit records (e ∷ []) s.fit (read.fits, tt);
        grown =
            behind_is (record_text e) read.grown
            ∙ ap (λ (l : List ℕ). before ++ (s.front ++ l)) both;
        stands = subst (λ (x : Standing). IsBehindRecords x ended' []) (sym reads) refl;
      }

  pub capture_end : new ≡ now → ended' → CaptureStands Ended before new ended' text records
  capture_end same over = record {
    front = s.front;
    behind = s.behind;
    is_front = s.is_front;
    fit = s.fit;
    grown = same ∙ s.grown;
    stands = (nothing, over);
  }

  pub capture_fails : (f : FileFault) → FailsRecord f now new ended'
      → CaptureStands (Failed (fault.Capture f)) before new ended' text records
  capture_fails f wrong = record {
    front = s.front;
    behind = wrong.part;
    is_front = s.is_front;
    fit = s.fit;
    grown = behind_is wrong.part wrong.grown;
    stands = wrong.no_record;
  }
