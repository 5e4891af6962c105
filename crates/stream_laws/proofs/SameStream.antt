-- The datagrams of files that go side by side up to their ends are those of the files.
use Rattle.std.proofs.Common.{◌≡◌, ◌∙◌, ◌⊎◌, ℕ, zero, suc, List, [], ◌∷◌, ◌++◌, Result, ap, inl}
use Rattle.std.proofs.Common.{inr, refl, subst, sym}
use Rattle.capture_engines.specs.Files.{file_datagrams, files_datagrams, first_way, other_ways}
use Rattle.flow.specs.declared.flows.Flows.{Flows}
use Rattle.follow_engine.specs.Order.{datagrams_in, strands_by}
use Rattle.media_file.specs.Records.{Entry}
use Rattle.recording_engines.specs.Imported.{AreOver}
use Rattle.recording_engines.specs.Joining.{Strand}
use Rattle.run_outcome.specs.declared.refusal.Refusal.{Refusal}
use Rattle.side_by_side.specs.Strands.{Goes, GoesNext, GoesWhole, TakesAt}
use Rattle.side_by_side.specs.declared.steering.Steering.{Steering}
use Rattle.st_format.specs.Member.{IsMember, SameDatagrams, SameMembers}
use Rattle.st_format.proofs.Members.{member_cases, member_left, member_right}

-- ---- lists with the same members

same_list : (xs ys : List (List ℕ)) → xs ≡ ys → SameMembers xs ys
same_list xs ys e = record {
  forth = λ x m. subst (λ (zs : List (List ℕ)). IsMember x zs) e m;
  back = λ x m. subst (λ (zs : List (List ℕ)). IsMember x zs) (sym e) m;
}

pub same_as_both : (xs ys zs : List (List ℕ)) → SameMembers xs ys → SameMembers ys zs
    → SameMembers xs zs
same_as_both xs ys zs first second = record {
  forth = λ x m. second.forth x (first.forth x m);
  back = λ x m. first.back x (second.back x m);
}

turned_round : (xs ys : List (List ℕ)) → SameMembers xs ys → SameMembers ys xs
turned_round xs ys same = record { forth = same.back; back = same.forth }

one_more : (x d : List ℕ) (xs ys : List (List ℕ)) → (IsMember x xs → IsMember x ys)
    → IsMember x (d ∷ xs) → IsMember x (d ∷ ys)
one_more x d xs ys on (inl e) = inl e
one_more x d xs ys on (inr m) = inr (on m)

same_more : (d : List ℕ) (xs ys : List (List ℕ)) → SameMembers xs ys
    → SameMembers (d ∷ xs) (d ∷ ys)
same_more d xs ys same = record {
  forth = λ x m. one_more x d xs ys (same.forth x) m;
  back = λ x m. one_more x d ys xs (same.back x) m;
}

-- one that stands before others also stands before all of them
to_front : (x d : List ℕ) (xs ys zs : List (List ℕ)) → (IsMember x ys → IsMember x (d ∷ zs))
    → IsMember x (xs ++ ys) → IsMember x (d ∷ (xs ++ zs))
to_front x d xs ys zs on m = at (member_cases x xs ys m)
  where
    past : IsMember x (d ∷ zs) → IsMember x (d ∷ (xs ++ zs))
    past (inl e) = inl e
    past (inr k) = inr (member_right x xs zs k)

    at : IsMember x xs ⊎ IsMember x ys → IsMember x (d ∷ (xs ++ zs))
    at (inl a) = inr (member_left x xs zs a)
    at (inr b) = past (on b)

from_front : (x d : List ℕ) (xs ys zs : List (List ℕ)) → (IsMember x (d ∷ zs) → IsMember x ys)
    → IsMember x (d ∷ (xs ++ zs)) → IsMember x (xs ++ ys)
from_front x d xs ys zs on (inl e) = member_right x xs ys (on (inl e))
from_front x d xs ys zs on (inr m) = at (member_cases x xs zs m)
  where
    at : IsMember x xs ⊎ IsMember x zs → IsMember x (xs ++ ys)
    at (inl a) = member_left x xs ys a
    at (inr b) = member_right x xs ys (on (inr b))

same_behind : (d : List ℕ) (xs ys zs : List (List ℕ)) → SameMembers ys (d ∷ zs)
    → SameMembers (xs ++ ys) (d ∷ (xs ++ zs))
same_behind d xs ys zs same = record {
  forth = λ x m. to_front x d xs ys zs (same.forth x) m;
  back = λ x m. from_front x d xs ys zs (same.back x) m;
}

-- ---- what is left of files

-- the datagrams that are left
abbrev datagrams_left : List Strand → List (List ℕ)
datagrams_left [] = []
datagrams_left (x ∷ xs) = datagrams_in x.entries ++ datagrams_left xs

none_left : (ls : List Strand) → AreOver ls → datagrams_left ls ≡ []
none_left [] over = refl
none_left (l ∷ ls) over =
    ap (λ (x : Strand). datagrams_left (x ∷ ls)) over.0 ∙ none_left ls over.1

-- of files of which nothing was taken yet these are all
left_by : (ways : List (Result Flows Refusal)) (files : List (List ℕ))
    → datagrams_left (strands_by ways files) ≡ files_datagrams ways files
left_by ways [] = refl
left_by ways (octets ∷ files) =
    ap (λ (ds : List (List ℕ)). file_datagrams (first_way ways) octets ++ ds)
    (left_by (other_ways ways) files)

-- ---- one is taken

taken_first : (s l : Strand) (ss ls : List Strand) (e : Entry)
    → s ≡ record { entries = e ∷ l.entries; fault = l.fault } → ls ≡ ss
    → datagrams_left (s ∷ ss) ≡ e.octets ∷ datagrams_left (l ∷ ls)
taken_first s l ss ls e first rest =
    ap (λ (x : Strand). datagrams_left (x ∷ ss)) first
    ∙ ap (λ (xs : List Strand). e.octets ∷ datagrams_left (l ∷ xs)) (sym rest)

taken : (place : ℕ) (ss ls : List Strand) (e : Entry) → TakesAt place ss e ls
    → SameMembers (datagrams_left ss) (e.octets ∷ datagrams_left ls)
taken zero [] ls e takes = absurd takes
taken (suc place) [] ls e takes = absurd takes
taken zero (s ∷ ss) [] e takes = absurd takes
taken (suc place) (s ∷ ss) [] e takes = absurd takes
taken zero (s ∷ ss) (l ∷ ls) e takes =
    same_list (datagrams_left (s ∷ ss)) (e.octets ∷ datagrams_left (l ∷ ls))
    (taken_first s l ss ls e takes.0 takes.1)
taken (suc place) (s ∷ ss) (l ∷ ls) e takes =
    subst (λ (x : Strand).
    SameMembers (datagrams_left (s ∷ ss)) (e.octets ∷ datagrams_left (x ∷ ls))) (sym takes.0)
    (same_behind e.octets (datagrams_in s.entries) (datagrams_left ss) (datagrams_left ls)
    (taken place ss ls e takes.1))

-- ---- all are

all_taken : (st : Steering) (es : List Entry) (ss left : List Strand) → Goes st ss es left
    → AreOver left → SameMembers (datagrams_in es) (datagrams_left ss)
all_taken st [] ss left goes over =
    same_list [] (datagrams_left ss) (sym (none_left left over) ∙ ap datagrams_left goes)
all_taken st (e ∷ es) ss left goes over =
    let behind : List Strand = goes.0 in
    let next : GoesNext st ss e behind = goes.1 in
    same_as_both (e.octets ∷ datagrams_in es) (e.octets ∷ datagrams_left behind)
    (datagrams_left ss)
    (same_more e.octets (datagrams_in es) (datagrams_left behind)
    (all_taken st es behind left goes.2 over))
    (turned_round (datagrams_left ss) (e.octets ∷ datagrams_left behind)
    (taken next.place ss behind e next.takes))

pub files_taken : (st : Steering) (ways : List (Result Flows Refusal)) (octets : List (List ℕ))
    (entries : List Entry) → GoesWhole st (strands_by ways octets) entries
    → SameDatagrams (datagrams_in entries) (files_datagrams ways octets)
files_taken st ways octets entries goes =
    subst (λ (ds : List (List ℕ)). SameMembers (datagrams_in entries) ds) (left_by ways octets)
    (all_taken st entries (strands_by ways octets) goes.left goes.goes goes.over)
