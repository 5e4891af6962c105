-- What grew by some first part of octets.
use Rattle.std.proofs.Common.{◌≡◌, ◌∙◌, ℕ, List, [], ◌++◌, ap, append-nil, append_assoc, drop, refl}
use Rattle.std.proofs.Common.{sym, take}
use Rattle.std.proofs.lemmas.List.{take-append-drop}
use Rattle.follow_engine.specs.Shown.{GrowsSome}
use Rattle.st_format.proofs.Gave.{grew_twice}
use Rattle.st_format.specs.Device.{GrowsPart}

pub grows_none : (took octets : List ℕ) → GrowsSome took took octets
grows_none took octets = record {
  part = [];
  rest = octets;
  parts = refl;
  grown = sym (append-nil took);
}

pub grows_all : (old new octets : List ℕ) → new ≡ old ++ octets → GrowsSome old new octets
grows_all old new octets is = record {
  part = octets;
  rest = [];
  parts = sym (append-nil octets);
  grown = is;
}

-- not by all
pub grows_part : (old new octets : List ℕ) → GrowsPart old new octets → GrowsSome old new octets
grows_part old new octets is = record {
  part = take is.count octets;
  rest = drop is.count octets;
  parts = sym (take-append-drop is.count octets);
  grown = is.grown;
}

-- a first part of what comes first
pub grows_first : (old new xs ys : List ℕ) → GrowsSome old new xs → GrowsSome old new (xs ++ ys)
grows_first old new xs ys is = record {
  part = is.part;
  rest = is.rest ++ ys;
  parts = ap (λ (l : List ℕ). l ++ ys) is.parts ∙ append_assoc is.part is.rest ys;
  grown = is.grown;
}

-- all that comes first, and a first part of the rest
pub grows_then : (old mid new xs ys : List ℕ) → mid ≡ old ++ xs → GrowsSome mid new ys
    → GrowsSome old new (xs ++ ys)
grows_then old mid new xs ys first is = record {
  part = xs ++ is.part;
  rest = is.rest;
  parts = ap (λ (l : List ℕ). xs ++ l) is.parts ∙ sym (append_assoc xs is.part is.rest);
  grown = grew_twice old mid new xs is.part first is.grown;
}
