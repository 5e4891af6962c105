-- Which refusal ends a run of `send`: the first in the order in which it looks (own). A list of
-- sources is one of pairs: each source as it was before the run, and as it is behind it.
use Rattle.std.specs.Prelude.{◌≡◌, ℕ, ◌<◌, ◌≤◌, ◌⊎◌, List, [], ◌∷◌, Option}
use Rattle.st_format.specs.declared.format.Format.{Format}
use Rattle.packet_plan.specs.Plan.{IsSize}
use Rattle.run_outcome.specs.TextRefusals.{IsTextOfRun, SaysTextOfRun}
use Rattle.run_outcome.specs.declared.refusal.Refusal.{Refusal}
use Rattle.run_outcome.specs.declared.refusal.Refusal.TheVariants as refusal
use Rattle.run_outcome.specs.Pictures.{IsPictureRefusal, SaysPictureOf, IsPlanFault}

-- ---- one of a list

-- the first of a list is so
abbrev pub FirstIs : {S : Type 0} → (S → Type 0) → List S → Type 0
FirstIs Is [] = ⊥
FirstIs Is (s ∷ ss) = Is s

-- one of a list is so, and all before it are this
abbrev pub OneIsBehind : {S : Type 0} → (S → Type 0) → (S → Type 0) → List S → Type 0
OneIsBehind Before Is [] = ⊥
OneIsBehind Before Is (s ∷ ss) = Is s ⊎ (Before s × OneIsBehind Before Is ss)

-- ---- a picture's file

-- so it is of another format
pub record SaysOther (told : List ℕ → Type 0) (format : Format) : Type 0 where
  pub other : Format
  pub says : SaysPictureOf told other
  pub unlike : other ≡ format → ⊥

-- ---- the pictures

-- the first of some pictures is of this format
abbrev pub FirstSays : {S : Type 0} → (S → List ℕ → Type 0) → Format → List S → Type 0
FirstSays told format pictures = FirstIs (λ s. SaysPictureOf (told s) format) pictures

-- the refusals of the first picture: of its file; that its format has no plan
abbrev pub IsFirstPictureRefusal : ℕ → (List ℕ → Type 0) → Refusal → Type 0
IsFirstPictureRefusal most told (refusal.Picture e) = IsPictureRefusal told (refusal.Picture e)
IsFirstPictureRefusal most told (refusal.Plan e) =
    (format : Format) × SaysPictureOf told format × IsPlanFault most format e
IsFirstPictureRefusal most told r = ⊥

-- The refusals of a picture behind the first, which is of this format: of its file; that it is of
-- another format.
abbrev pub IsLaterPictureRefusal : Format → (List ℕ → Type 0) → Refusal → Type 0
IsLaterPictureRefusal format told (refusal.Picture e) = IsPictureRefusal told (refusal.Picture e)
IsLaterPictureRefusal format told refusal.SendFormats = SaysOther told format
IsLaterPictureRefusal format told r = ⊥

-- the refusal of the pictures behind the first, which is of this format: of one of them, where
-- those before it are of this format
abbrev pub IsRestRefusal : {S : Type 0} → Format → (S → List ℕ → Type 0) → List S → Refusal → Type 0
IsRestRefusal format told rest r =
    OneIsBehind (λ s. SaysPictureOf (told s) format) (λ s. IsLaterPictureRefusal format (told s) r)
    rest

-- The refusal of pictures: of the first one; or it is of a format that has plans of packets of so
-- many octets, and the refusal is that of those behind it.
abbrev pub IsPicturesRefusal : {S : Type 0} → ℕ → (S → List ℕ → Type 0) → List S → Refusal → Type 0
IsPicturesRefusal most told [] r = ⊥
IsPicturesRefusal most told (s ∷ ss) r =
    IsFirstPictureRefusal most (told s) r
    ⊎ ((format : Format) × SaysPictureOf (told s) format × IsSize most format
    × IsRestRefusal format told ss r)

-- ---- the run

-- The refusals before a picture is read: that there are too many; of the SDP text, where one is
-- given.
abbrev pub IsSaidRefusal : {S : Type 0} → ℕ → Option S → Option S → (S × S → List ℕ → Type 0)
    → Refusal → Type 0
IsSaidRefusal count old new told refusal.SendPictures = 10000 < count
IsSaidRefusal count old new told r = (count ≤ 10000) × IsTextOfRun told old new r

-- The refusal of `send`: one of those; or the pictures are few and nothing is wrong with the text,
-- and it is that of the pictures.
abbrev pub IsSendRefusal : {S : Type 0} → ℕ → ℕ → Option S → Option S
    → (S × S → List ℕ → Type 0) → List (S × S) → Refusal → Type 0
IsSendRefusal most count old new told pictures r = IsSaidRefusal count old new told r
    ⊎ ((count ≤ 10000) × SaysTextOfRun told old new × IsPicturesRefusal most told pictures r)
