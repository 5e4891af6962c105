-- A file or a recording read from the left: a reading answers a value and the octets behind it, or
-- the first fault. What a function does to a source is what a reading does to the octets that the
-- source was to give. Faults are of any type, of which a crate says where each comes from (own).
use Rattle.std.specs.Prelude.{◌≡◌, ℕ, nat_lt, if◌then◌else◌, List, [], ◌++◌, length, take, drop}
use Rattle.std.specs.Prelude.{⊤, Option, None, Some, Result, Ok, Err}
use Rattle.st_format.specs.Device.{AreOctets, CountsOne}
use Rattle.st_format.specs.Reading.{◌>>=◌}

-- ---- where a fault comes from

-- a fault is the device's, the memory's, or that of the content that was read
pub data Origin : Type 0 where
  OfDevice : Origin
  OfMemory : Origin
  OfContent : Origin

-- this holds where the content is at fault
abbrev pub IfOfContent : Origin → Type 0 → Type 0
IfOfContent OfDevice P = ⊤
IfOfContent OfMemory P = ⊤
IfOfContent OfContent P = P

-- the device's is one failure more, and any other none
abbrev pub CountsOrigin : Origin → ℕ → ℕ → Type 0
CountsOrigin OfDevice old new = CountsOne old new
CountsOrigin OfMemory old new = new ≡ old
CountsOrigin OfContent old new = new ≡ old

-- The fault is the content's: then this holds. One of memory or of the device says nothing of the
-- content.
abbrev pub IfContentBy : {F : Type 0} → (F → Origin) → F → Type 0 → Type 0
IfContentBy origin f P = IfOfContent (origin f) P

-- a fault of the device is one failure more, and any other none
abbrev pub CountsFaultBy : {F : Type 0} → (F → Origin) → F → ℕ → ℕ → Type 0
CountsFaultBy origin f old new = CountsOrigin (origin f) old new

-- what is answered without a fault is none either
abbrev pub CountsDeviceBy : {F V : Type 0} → (F → Origin) → ℕ → ℕ → Result V F → Type 0
CountsDeviceBy origin old new (Ok v) = new ≡ old
CountsDeviceBy origin old new (Err f) = CountsFaultBy origin f old new

-- ---- readings

-- so many octets; this fault where there are fewer
unfoldable pub field_by : {F : Type 0} → F → ℕ → List ℕ → Result (List ℕ × List ℕ) F
field_by cut n octets =
    if nat_lt (length octets) n then Err cut else Ok (take n octets, drop n octets)

-- with what is behind
abbrev pub with_rest : {F X : Type 0} → Result X F → List ℕ → Result (X × List ℕ) F
with_rest r rest = r >>= λ x. Ok (x, rest)

-- ---- what a source was to give

-- a source that was to give octets is left with those behind the value
abbrev pub Leaves : {F X : Type 0} → Result (X × List ℕ) F → X → Option (List ℕ) → Type 0
Leaves read x None = ⊥
Leaves read x (Some rest) = read ≡ Ok (x, rest)

-- A source gave what the reading makes this value of, where it told its octets.
abbrev pub Takes : {F X : Type 0} → (List ℕ → Result (X × List ℕ) F) → Option (List ℕ)
    → Option (List ℕ) → X → Type 0
Takes reading None new x = ⊤
Takes reading (Some octets) new x = Leaves (reading octets) x new

-- A fault that is neither the memory's nor the device's is the first that the reading finds in the
-- octets that a source was to give, where it told them.
abbrev pub FailsBy : {F X : Type 0} → (F → Origin) → (List ℕ → Result (X × List ℕ) F)
    → Option (List ℕ) → F → Type 0
FailsBy origin reading None f = ⊤
FailsBy origin reading (Some octets) f = IfContentBy origin f (reading octets ≡ Err f)

-- ---- what a source gave so far: it was `before`, and is `now`

-- A source gave octets of which the reading makes this value, whatever is behind them.
pub record GaveValue {F X : Type 0} (reading : List ℕ → Result (X × List ℕ) F)
    (before now : List ℕ) (x : X) : Type 0 where
  pub part : List ℕ
  pub grown : now ≡ before ++ part
  pub says : (behind : List ℕ) → reading (part ++ behind) ≡ Ok (x, behind)

-- A source gave octets in which the reading finds this fault first, if it is one of the content:
-- whatever is behind them, and nothing is where the source has ended.
pub record GaveFaultBy {F X : Type 0} (origin : F → Origin)
    (reading : List ℕ → Result (X × List ℕ) F) (before now : List ℕ) (ended : Type 0) (f : F)
    : Type 0 where
  pub part : List ℕ
  pub grown : now ≡ before ++ part
  pub says : (behind : List ℕ) → (ended → behind ≡ [])
      → IfContentBy origin f (reading (part ++ behind) ≡ Err f)

-- A source gave octets of which the reading makes this value, all of them, and has ended.
pub record GaveWhole {F X : Type 0} (reading : List ℕ → Result (X × List ℕ) F)
    (before now : List ℕ) (ended : Type 0) (x : X) : Type 0 where
  pub part : List ℕ
  pub grown : now ≡ before ++ part
  pub over : ended
  pub says : reading part ≡ Ok (x, [])

-- A source gave octets of which the reading makes the next value; where that is none, it has ended.
abbrev pub GaveNext : {F X : Type 0} → (List ℕ → Result (Option X × List ℕ) F) → List ℕ → List ℕ
    → Type 0 → Option X → Type 0
GaveNext reading before now ended None = GaveWhole reading before now ended None
GaveNext reading before now ended (Some x) = GaveValue reading before now (Some x)

-- A source gave octets of which the reading makes no value, if nothing is behind them: a first part
-- of one, or a wrong one.
pub record GavePart {F X : Type 0} (reading : List ℕ → Result (X × List ℕ) F)
    (before now : List ℕ) : Type 0 where
  pub part : List ℕ
  pub grown : now ≡ before ++ part
  pub fault : F
  pub none : reading part ≡ Err fault

-- what a source gave are octets, numbers below 256
pub record GaveOctets (before now : List ℕ) : Type 0 where
  pub part : List ℕ
  pub grown : now ≡ before ++ part
  pub small : AreOctets part
