-- The records of a text, and of a text that is cut.
use Rattle.std.proofs.Common.{◌≡◌, ℕ, zero, suc, ◌+◌, ◌-◌, ◌<◌, Bool, true, cond, ltb, List, []}
use Rattle.std.proofs.Common.{◌∷◌, ◌++◌, length, take, drop, Result, Ok, Err, append_assoc, refl}
use Rattle.std.proofs.Common.{ap, ◌∙◌, inl, inr, arith}
use Rattle.std.specs.Int.{w16, w64, to_be_bytes}
use Rattle.std.proofs.lemmas.Bool.{cases_lt, lt-ltb}
use Rattle.std.proofs.lemmas.List.{length-append, length-take-le}
use Rattle.std.proofs.Math.Seq.{take-append-add}
use Rattle.media_file.specs.declared.fault.FileFault.{FileFault}
use Rattle.media_file.specs.declared.fault.FileFault.TheVariants.{Truncated}
use Rattle.media_file.specs.declared.record.RecordHead.{RecordHead}
use Rattle.media_file.specs.Reading.{entries_by, entries_up_to, entries_in, head_at, octets_at}
use Rattle.media_file.specs.Reading.{rest_at}
use Rattle.media_file.specs.Records.{AllFit, Entry, Fits, entry_of, path_octet, record_text}
use Rattle.media_file.specs.Records.{records_text, rest_text}
use Rattle.media_file.proofs.Dues.{entries_first}
use Rattle.media_file.proofs.Entries.{head_again, truncated}
use Rattle.media_file.proofs.Rests.{behind_head}

-- records at the front are the first
pub entries_front : (es : List Entry) (rest : List ℕ) → AllFit es
    → entries_in (records_text es ++ rest) ≡ es ++ entries_in rest
entries_front [] rest fit = refl
entries_front (e ∷ es) rest fit =
    ap entries_in (append_assoc (record_text e) (records_text es) rest)
    ∙ entries_first e (records_text es ++ rest) fit.0
    ∙ ap (λ (xs : List Entry). e ∷ xs) (entries_front es rest fit.1)

-- the rest of a record that is cut is Truncated
cut_rest : (e : Entry) (k : ℕ) → Fits e → k < length (rest_text e)
    → rest_at (path_octet e.path) (take k (rest_text e)) ≡ Err Truncated
unfolding rest_at
cut_rest e k fits lt =
    let n : ℕ = length e.octets in
    let head : List ℕ = to_be_bytes w64 e.moment ++ to_be_bytes w16 n in
    let part : List ℕ = take k (rest_text e) in
    let len : length part ≡ k = length-take-le k (rest_text e) (omega arith) in
    elim (cases_lt k 10) [
      | inl w ↦ ap
          (λ (b : Bool). cond b truncated
          (octets_at (head_at (path_octet e.path) (take 10 part)) (drop 10 part)))
          (lt-ltb (length part) 10 (omega arith))
      | inr w ↦
          let j : ℕ = k - 10 in
          let cut : List ℕ = take j e.octets in
          let all : rest_text e ≡ head ++ e.octets = refl in
          let size : length (rest_text e) ≡ 10 + n = length-append head e.octets in
          let whole : part ≡ head ++ cut =
          ap (λ (m : ℕ). take m (head ++ e.octets)) (let s : k ≡ 10 + j = omega arith in s)
          ∙ take-append-add head e.octets j in
          let short : ltb (length cut) n ≡ true =
          lt-ltb (length cut) n (omega (arith, length-take-le j e.octets (omega arith))) in
          let h : RecordHead = record { path = e.path; moment = e.moment; length = n } in
          ap (rest_at (path_octet e.path)) whole
          ∙ behind_head (path_octet e.path) head cut refl
          ∙ ap (λ (r : Result RecordHead FileFault). octets_at r cut) (head_again e fits)
          ∙ ap (λ (b : Bool). cond b truncated (Ok (entry_of h cut, drop n cut))) short
    ]

-- a record that is cut is none
pub entries_cut : (e : Entry) (k : ℕ) → Fits e → k < length (record_text e)
    → entries_in (take k (record_text e)) ≡ []
unfolding entries_up_to
entries_cut e zero fits lt = refl
entries_cut e (suc k) fits lt =
    ap (λ (r : Result (Entry × List ℕ) FileFault). entries_by r
    (entries_up_to (length (take k (rest_text e))))) (cut_rest e k fits (omega arith))
