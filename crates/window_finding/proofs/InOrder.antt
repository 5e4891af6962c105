-- The window of all files, of which timestamps were found one after the other.
use Rattle.std.proofs.Common.{◌≡◌, ℕ, ◌+◌, ◌<◌, ◌≤◌, inl, inr, List, [], ◌∷◌, Option, None, Some}
use Rattle.std.proofs.Common.{Result, refl, sym, ap, subst, append-nil, arith, drop, length, take}
use Rattle.std.proofs.lemmas.List.{take_all}
use Rattle.std.specs.List.{AllZip, zip}
use Rattle.std.specs.Prelude.{MatchOption, ⊤}
use Rattle.flow.specs.declared.flows.Flows.{Flows}
use Rattle.run_outcome.specs.Moments.{WasRead}
use Rattle.run_outcome.specs.declared.refusal.Refusal.{Refusal}
use Rattle.run_outcome.specs.declared.refusal.Refusal.TheVariants as why
use Rattle.st_format.specs.History.{since}
use Rattle.capture_engines.specs.Files.{AreReadWhole, IsReadWhole, files_datagrams, first_way}
use Rattle.capture_engines.specs.Files.{way_at}
use Rattle.capture_engines.specs.Received.{FileOpens, IfFirst, IsFirstFilesRefusal}
use Rattle.capture_engines.specs.Received.{IsGivenFilesRefusal, Opens}
use Rattle.capture_engines.specs.Sent.{FirstIs}
use Rattle.capture_engines.specs.Taking.{FileGoes, FilesGo, said_behind}
use Rattle.capture_engines.specs.declared.way.Way.{Way}
use Rattle.capture_engines.proofs.FirstRefused.{first_given}
use Rattle.capture_engines.proofs.InOrder.{all_ended, more_ended, some_is}
use Rattle.window_finding.specs.Finding.{AnnouncesType, FindsFiles, FindsFirst, FindsSoFar, IsFull}
use Rattle.window_finding.specs.Finding.{IsFirstWindow}
use Rattle.window_finding.specs.declared.finder.Finder.{Finder}
use Rattle.window_finding.specs.declared.finder.Sought.{Sought}
use Rattle.window_finding.proofs.Found.{Any, announced_opens}

-- ---- files that were read to their ends

any_file : (w : Way) (told : List ℕ → Type 0) → FileGoes w told Any Any
any_file w told = record { stands = λ octets said ds read any. tt }

any_files : {S : Type 0} (ways : List (Result Flows Refusal)) (f : S → List ℕ → Type 0)
    (files : List S) → FilesGo ways f files Any Any
any_files ways f files = record { stands = λ octets said ds read any. tt }

any_first : {S : Type 0} (w : Way) (f : S → List ℕ → Type 0) (xs : List S)
    → FirstIs (λ s. IsReadWhole w (f s)) xs
    → FirstIs (λ s. FileGoes w (f s) Any Any × IsReadWhole w (f s)) xs
any_first w f [] is = absurd is
any_first w f (x ∷ xs) is = (any_file w (f x), is)

pub more_whole : {S : Type 0} (ways : List (Result Flows Refusal))
    (f : S × S → List ℕ → Type 0) (start now new : List S) (k : ℕ)
    → AreReadWhole ways f (zip (take k start) (take k now)) → take k new ≡ take k now
    → drop k now ≡ drop k start
    → FirstIs (λ s. IsReadWhole (way_at ways k) (f s)) (zip (drop k now) (drop k new))
    → AreReadWhole ways f (zip (take (k + 1) start) (take (k + 1) new))
more_whole ways f start now new k are front behind one =
    (more_ended ways f start now new k Any Any Any
    (any_files ways f (zip (take k start) (take k now)), are) front behind
    (any_first (way_at ways k) f (zip (drop k now) (drop k new)) one)).1

pub all_whole : {S : Type 0} (ways : List (Result Flows Refusal)) (f : S × S → List ℕ → Type 0)
    (start now : List S) (k : ℕ) → AreReadWhole ways f (zip (take k start) (take k now))
    → length start ≤ k → length now ≡ length start → AreReadWhole ways f (zip start now)
all_whole ways f start now k are all same =
    (all_ended ways f start now k Any Any
    (any_files ways f (zip (take k start) (take k now)), are) all same).1

-- what is so of the first of all that were looked at, is so of the first of all
pub all_first : {S : Type 0} (Is : S × S → Type 0) (start now : List S) (k : ℕ)
    → IfFirst Is (zip (take k start) (take k now)) → length start ≤ k
    → length now ≡ length start → IfFirst Is (zip start now)
all_first {S} Is start now k is all same =
    subst (λ (l : List S). IfFirst Is (zip l now)) (take_all k start all)
    (subst (λ (l : List S). IfFirst Is (zip (take k start) l))
    (take_all k now (omega (arith, same, all))) is)

-- what was read of files, with nothing behind it
pub read_back : {S : Type 0} (gave : S → List ℕ) (ended : S → Type 0) (files : List (S × S))
    → (octets : List (List ℕ)) × AllZip (WasRead gave ended) files octets
read_back gave ended [] = ([], tt)
read_back gave ended (s ∷ ss) =
    let rest = read_back gave ended ss in
    let octets : List ℕ = since (gave s.0) (gave s.1) in (
      octets ∷ rest.0,
      (
        record { behind = []; parts = sym (append-nil octets); all = λ over. refl },
        rest.1,
      ),
    )

-- ---- the beginning

-- none begins only where no text is given, and then none does
none_begins : {A : Type 0} (o : Sought) (begun : Option (Finder A)) (sdp : Option (List ℕ))
    → FindsSoFar o begun sdp [] → begun ≡ None → sdp ≡ None
none_begins o begun None begins none = refl
none_begins o None (Some text) begins none = absurd begins
none_begins o (Some s) (Some text) begins none = absurd cc

none_stands : {A : Type 0} (o : Sought) (begun : Option (Finder A)) (sdp : Option (List ℕ))
    → FindsSoFar o begun sdp [] → sdp ≡ None → begun ≡ None
none_stands o None sdp begins none = refl
none_stands o (Some s) None begins none = absurd begins
none_stands o (Some s) (Some text) begins none = absurd cc

given_opens : {A : Type 0} (o : Sought) (begun : Option (Finder A)) (sdp : Option (List ℕ))
    → FindsSoFar o begun sdp [] → MatchOption sdp ⊤ (λ text. Opens (0 ∷ []) text)
given_opens o begun None begins = tt
given_opens o None (Some text) begins = absurd begins
given_opens o (Some s) (Some text) begins = announced_opens text s.payload_type begins.announced

-- ---- the window

window_held : {A : Type 0} (o : Sought) (said : Option (List ℕ)) (s : Finder A)
    (ds : List (List ℕ)) → FindsSoFar o (Some s) said ds
    → IsFirstWindow o.count o.ssrc said ds s.window.items
window_held o None s ds stands = absurd stands
window_held o (Some said) s ds stands = record {
  payload_type = s.payload_type;
  announced = λ text is.
      subst (λ (t : List ℕ). AnnouncesType t s.payload_type) (some_is said text is)
      stands.announced;
  first = stands.first;
}

-- so many are sought
sought_held : {A : Type 0} (o : Sought) (said : Option (List ℕ)) (s : Finder A)
    (ds : List (List ℕ)) → FindsSoFar o (Some s) said ds → s.sought ≡ o
sought_held o None s ds stands = absurd stands
sought_held o (Some said) s ds stands = stands.sought

fewer_lack : {A : Type 0} (o : Sought) (now : Option (Finder A)) (s : Finder A) → now ≡ Some s
    → s.sought ≡ o → length s.window.items < o.count → IsFull now → ⊥
fewer_lack {A} o now s is sought fewer full =
    let all : o.count ≤ length s.window.items =
    subst (λ (p : Sought). p.count ≤ length s.window.items) sought
    (subst (λ (x : Option (Finder A)). IsFull x) is full) in
    omega (arith, fewer, all)

module _ {S A : Type 0} (o : Sought) (sdp : Option (List ℕ)) (ways : List (Result Flows Refusal))
    (f : S → List ℕ → Type 0) (files : List S) (begun now : Option (Finder A))
    (begins : FindsSoFar o begun sdp []) where
  held : (s : Finder A) → now ≡ Some s → FindsFiles o ways f files begun now
      → (octets : List (List ℕ)) → AllZip f files octets
      → FindsSoFar o (Some s) (said_behind sdp octets) (files_datagrams ways octets)
  held s is found octets read =
      subst (λ (x : Option (Finder A)). FindsSoFar o x (said_behind sdp octets)
      (files_datagrams ways octets)) is (found.stands octets sdp [] read begins)

  pub window_found : (s : Finder A) → now ≡ Some s → FindsFiles o ways f files begun now
      → ((octets : List (List ℕ)) × AllZip f files octets)
      → (begun ≡ None → FirstIs (λ s. FileOpens (0 ∷ []) (first_way ways) (f s)) files)
      → ((IsFull now → ⊥) → AreReadWhole ways f files)
      → FindsFirst o.count o.ssrc sdp ways f files s.window.items
  window_found s is found there opened whole =
      let sought : s.sought ≡ o =
      sought_held o (said_behind sdp there.0) s (files_datagrams ways there.0)
      (held s is found there.0 there.1) in
      record {
        found = λ octets read.
            window_held o (said_behind sdp octets) s (files_datagrams ways octets)
            (held s is found octets read);
        given = given_opens o begun sdp begins;
        first = λ none. opened (none_stands o begun sdp begins none);
        whole = λ fewer. whole (λ full. fewer_lack o now s is sought fewer full);
      }

  -- ---- refusals

  pub given_refused : (r : Refusal) → IsFirstFilesRefusal (0 ∷ []) begun ways f files r
      → IsGivenFilesRefusal (0 ∷ []) sdp ways f files r
  given_refused r is =
      inr (
        given_opens o begun sdp begins,
        first_given (0 ∷ []) begun sdp ways f files (none_begins o begun sdp begins)
            (none_stands o begun sdp begins) r is,
      )

-- that there is no text, and no file
pub none_given : {S A : Type 0} (o : Sought) (sdp : Option (List ℕ))
    (ways : List (Result Flows Refusal)) (f : S × S → List ℕ → Type 0) (start new : List S)
    (begun : Option (Finder A)) → FindsSoFar o begun sdp [] → begun ≡ None → start ≡ []
    → IsGivenFilesRefusal (0 ∷ []) sdp ways f (zip start new) why.ReceiveNoSdp
none_given {S} o sdp ways f start new begun begins none empty =
    inr (
      given_opens o begun sdp begins,
      inl (
        none_begins o begun sdp begins none,
        ap (λ (l : List S). zip l new) empty,
        refl,
      ),
    )

-- where none had begun and one has, there was a first file
pub first_there : {S A : Type 0} (o : Sought) (ways : List (Result Flows Refusal))
    (f : S → List ℕ → Type 0) (files : List S) (begun now : Option (Finder A)) (s : Finder A)
    (Is : S → Type 0) → now ≡ Some s → FindsFiles o ways f files begun now → IfFirst Is files
    → begun ≡ None → FirstIs Is files
first_there {S} {A} o ways f [] begun now s Is is found first none =
    let begins : FindsSoFar o begun None [] =
    subst (λ (x : Option (Finder A)). FindsSoFar o x None []) (sym none) refl in
    subst (λ (x : Option (Finder A)). FindsSoFar o x None []) is
    (found.stands [] None [] tt begins)
first_there o ways f (x ∷ xs) begun now s Is is found first none = first
