-- A number of a pixmap's head, read octet by octet: white space, decimal digits and one octet of
-- white space. A comment may stand anywhere before that last one, also among the digits, and says
-- nothing: its end is no white space (Netpbm, pbm and ppm).
use Rattle.std.specs.Prelude.{◌≡◌, ℕ, zero, suc, ◌+◌, ◌-◌, ◌*◌, ◌<◌, ◌≤◌, ◌==◌, ◌||◌, nat_lt}
use Rattle.std.specs.Prelude.{not, if◌then◌else◌, Bool, true, false, List, []}
use Rattle.std.specs.Prelude.{◌∷◌, ◌++◌, length, ⊤, Option, None, Some, Result, Ok, Err}
use Rattle.std.specs.Char.{is_ascii_digit}
use Rattle.std.specs.List.{list_all}
use Rattle.std.specs.Option.{option_map}
use Rattle.std.specs.Str.Parse.{IsNumeral, digits_value}
use Rattle.picture_forms.specs.declared.fault.FormFault.{FormFault}
use Rattle.picture_forms.specs.declared.fault.FormFault.TheVariants.{BadHeader, Truncated}
use Rattle.picture_forms.specs.declared.number_part.NumberPart.{NumberPart}
use Rattle.picture_forms.specs.declared.number_part.NumberStep.{NumberStep}
use Rattle.picture_forms.specs.declared.number_part.NumberStep.TheVariants.{More, Done, Wrong}
use Rattle.picture_forms.specs.declared.number_part.Stage.{Stage}
use Rattle.picture_forms.specs.declared.number_part.Stage.TheVariants.{Front, Gap, Digits}

-- white space: a space, tab, LF and CR
abbrev pub is_white : ℕ → Bool
is_white octet = octet == 32 || octet == 9 || octet == 10 || octet == 13

-- the last octet of a comment, which begins with `#`: LF or CR
abbrev pub ends_comment : ℕ → Bool
ends_comment octet = octet == 10 || octet == 13

-- WHAT A NUMBER IS

-- octets without their comments, where one goes on at their front or not; none where one goes on at
-- their end
abbrev pub uncommented : List ℕ → Bool → Option (List ℕ)
uncommented [] true = None
uncommented [] false = Some []
uncommented (octet ∷ octets) true = uncommented octets (not (ends_comment octet))
uncommented (octet ∷ octets) false =
    if octet == 35 then uncommented octets true
    else option_map (λ plain. octet ∷ plain) (uncommented octets false)

-- how much white space stands before the digits: behind `P6` there is some
abbrev pub IsGapOf : Stage → List ℕ → Type 0
IsGapOf Front gap = 0 < length gap
IsGapOf Gap gap = ⊤
IsGapOf Digits gap = ⊥

-- Octets are the text of a number: without its comments white space and decimal digits, of a value
-- below 100,000, and then one octet of white space. They are 1,024 at most.
pub record IsPixmapNumber (stage : Stage) (text : List ℕ) (value : ℕ) : Type 0 where
  pub front : List ℕ
  pub last : ℕ
  pub gap : List ℕ
  pub digits : List ℕ
  pub parts : text ≡ front ++ last ∷ []
  pub plain : uncommented front false ≡ Some (gap ++ digits)
  pub white : list_all is_white gap ≡ true
  pub before : IsGapOf stage gap
  pub numeral : IsNumeral 10 digits
  pub value_is : digits_value 10 digits ≡ value
  pub small : value < 100000
  pub ended : is_white last ≡ true
  pub few : length text ≤ 1024

-- HOW IT IS READ

-- a part outside of comments
abbrev pub part_at : Stage → ℕ → NumberPart
part_at stage value = record { is_comment = false; stage = stage; value = value }

-- a part where a comment goes on or not
abbrev pub with_comment : Bool → NumberPart → NumberPart
with_comment is_comment p =
    record { is_comment = is_comment; stage = p.stage; value = p.value }

-- white space stands before digits, and ends them
abbrev pub white_step : Stage → ℕ → NumberStep
white_step Front value = More (part_at Gap value)
white_step Gap value = More (part_at Gap value)
white_step Digits value = Done value

-- a digit of this value behind others, which may be none
abbrev pub value_step : ℕ → ℕ → NumberStep
value_step value digit =
    if nat_lt value 10000 then More (part_at Digits (value * 10 + digit)) else Wrong

-- a digit of this value, which has no place where white space has to come
abbrev pub digit_step : Stage → ℕ → ℕ → NumberStep
digit_step Front value digit = Wrong
digit_step Gap value digit = value_step value digit
digit_step Digits value digit = value_step value digit

-- what an octet makes of a part outside of comments
abbrev pub plain_step : Stage → ℕ → ℕ → NumberStep
plain_step stage value octet =
    if is_white octet then white_step stage value else
    (if is_ascii_digit octet then digit_step stage value (octet - 48) else Wrong)

-- and of any
abbrev pub number_step : NumberPart → ℕ → NumberStep
number_step p octet =
    if p.is_comment then More (with_comment (not (ends_comment octet)) p) else
    (if octet == 35 then More (with_comment true p) else plain_step p.stage p.value octet)

-- behind an octet the number goes on, or has ended there, or is none
abbrev pub number_then : (NumberPart → List ℕ → Result (ℕ × List ℕ) FormFault) → NumberStep → List ℕ
    → Result (ℕ × List ℕ) FormFault
number_then next (More p) rest = next p rest
number_then next (Done value) rest = Ok (value, rest)
number_then next Wrong rest = Err BadHeader

-- what is read behind a part, of so many octets at most
unfoldable pub number_by : ℕ → NumberPart → List ℕ → Result (ℕ × List ℕ) FormFault
number_by zero p octets = Err BadHeader
number_by (suc most) p [] = Err Truncated
number_by (suc most) p (octet ∷ octets) =
    number_then (number_by most) (number_step p octet) octets

-- a number of 1,024 octets at most
unfoldable pub count_at : Stage → List ℕ → Result (ℕ × List ℕ) FormFault
count_at stage octets = number_by 1024 (part_at stage 0) octets
