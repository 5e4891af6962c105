-- Sections: the first of their faults is told, or what they say.
use Rattle.std.proofs.Common.{◌≡◌, ℕ, ◌<◌, ◌≤◌, true, false, not, List, Some, Ok, Err, Result, refl}
use Rattle.std.proofs.Common.{ap, subst, ◌∙◌, sym, arith, inl, inr, codes}
use Rattle.std.specs.Prelude.{◌↔◌}
use Rattle.std.specs.List.{list_any}
use Rattle.std.specs.Str.{str_eq_ignore_ascii_case}
use Rattle.std.proofs.lemmas.Bool.{cases_lt}
use Rattle.sdp_format.specs.declared.fault.SdpFault.{SdpFault}
use Rattle.sdp_format.specs.declared.fault.SdpFault.TheVariants.{NoMemory, NoVideo, TooManyLegs}
use Rattle.sdp_format.specs.declared.fault.SdpFault.TheVariants.{BadMediaLine, NoRtpmap}
use Rattle.sdp_format.specs.declared.fault.SdpFault.TheVariants.{NotRaw90000, NoFmtp, BadParameter}
use Rattle.sdp_format.specs.declared.fault.SdpFault.TheVariants.{DoubleParameter, MissingParameter}
use Rattle.sdp_format.specs.declared.fault.SdpFault.TheVariants.{UnsupportedSampling}
use Rattle.sdp_format.specs.declared.fault.SdpFault.TheVariants.{UnsupportedDepth, Interlaced}
use Rattle.sdp_format.specs.declared.fault.SdpFault.TheVariants.{UnsupportedPacking, BadSsn}
use Rattle.sdp_format.specs.declared.fault.SdpFault.TheVariants.{BadFormat, LegsDiffer}
use Rattle.sdp_format.specs.Faults.{sdp_fault_number}
use Rattle.sdp_format.specs.Bytes.{trimmed}
use Rattle.sdp_format.specs.Naming.{Item, items, is_bad, has_double}
use Rattle.sdp_format.specs.Sections.{Section, Leg}
use Rattle.sdp_format.specs.Reading.{media_of, first_attribute, is_raw90000, Listed, listing_walk}
use Rattle.sdp_format.specs.Reading.{leg_of, section_walk}
use Rattle.sdp_format.specs.Grammar.{IsMediaLine, IsFirst, ItemFault, IsSaid, HasItems, LacksLine}
use Rattle.sdp_format.specs.Grammar.{HasOtherMap, HasItemFault, SectionFault, IsFirstFault}
use Rattle.sdp_format.specs.Grammar.{IsFaultless, SectionSays}
use Rattle.sdp_format.proofs.Members.{not_both}
use Rattle.sdp_format.proofs.Said.{not_none, double_says, false_from}
use Rattle.sdp_format.proofs.BadItems.{any_bad, bad_any}
use Rattle.sdp_format.proofs.Again.{not_true}
use Rattle.sdp_format.proofs.Steps.{Below, Told, number_same, none_at_all, refuse, want, follow}
use Rattle.sdp_format.proofs.ItemFaults.{Of, not_false, leg_told, said_once}
use Rattle.sdp_format.proofs.LineForms.{same_some, media_says, says_media, media_once, first_says}
use Rattle.sdp_format.proofs.LineForms.{says_first, none_says, says_none}

abbrev pub At : Section → SdpFault → Type 0
At s f = SectionFault s f

-- What is known of a section whose items are listed
pub record IsListed (s : Section) (x : Listed) : Type 0 where
  pub has : HasItems s x.port x.payload_type x.list
  pub good : list_any is_bad x.list ≡ false

-- the first line with the word is one
attribute_once : (word : List ℕ) (m n : ℕ) (lines : List (List ℕ)) (a b : List ℕ) → m ≡ n
    → IsFirst lines word m a → first_attribute word n lines ≡ Some b → a ≡ b
attribute_once word m n lines a b e i f =
    same_some a b
    (sym (says_first word m lines a i) ∙ ap (λ (k : ℕ). first_attribute word k lines) e ∙ f)

type_once : (line : List ℕ) (p t : ℕ) (m : ℕ × ℕ) → IsMediaLine line p t → media_of line ≡ Some m
    → t ≡ m.1
type_once line p t m i e =
    ap (λ (x : ℕ × ℕ). x.1) (same_some (p, t) m (sym (says_media line p t i) ∙ e))

items_once : (s : Section) (p t q u : ℕ) (is js : List Item) → HasItems s p t is
    → HasItems s q u js → is ≡ js
items_once s p t q u is js i j =
    let texts : i.text ≡ j.text =
    attribute_once (codes "a=fmtp:") t u s.lines i.text j.text
    (media_once s.media p t q u i.media j.media).1 i.fmtp
    (says_first (codes "a=fmtp:") u s.lines j.text j.fmtp) in
    i.list ∙ ap items texts ∙ sym j.list

below_media : (s : Section) → Below (At s) 4
below_media s = record { none = none_of }
  where
    none_of : (g : SdpFault) → sdp_fault_number g < 4 → SectionFault s g → ⊥
    none_of NoMemory l c = c.holds
    none_of NoVideo l c = c.holds
    none_of TooManyLegs l c = c.holds
    none_of BadMediaLine l c = omega arith
    none_of NoRtpmap l c = omega arith
    none_of NotRaw90000 l c = omega arith
    none_of NoFmtp l c = omega arith
    none_of BadParameter l c = omega arith
    none_of DoubleParameter l c = omega arith
    none_of MissingParameter l c = omega arith
    none_of UnsupportedSampling l c = omega arith
    none_of UnsupportedDepth l c = omega arith
    none_of Interlaced l c = omega arith
    none_of UnsupportedPacking l c = omega arith
    none_of BadSsn l c = omega arith
    none_of BadFormat l c = omega arith
    none_of LegsDiffer l c = c.holds

lacks_once : (word : List ℕ) (s : Section) (m : ℕ × ℕ) (text : List ℕ) → media_of s.media ≡ Some m
    → first_attribute word m.1 s.lines ≡ Some text → LacksLine s word → ⊥
lacks_once word s m text em e c =
    not_none text
    (sym e
    ∙ ap (λ (k : ℕ). first_attribute word k s.lines)
    (sym (type_once s.media c.port c.payload_type m c.media em))
    ∙ says_none word c.payload_type s.lines c.none)

raw_is : (map : List ℕ)
    → is_raw90000 map ≡ str_eq_ignore_ascii_case (trimmed map) (codes "raw/90000")
unfolding is_raw90000
raw_is map = refl

other_once : (s : Section) (m : ℕ × ℕ) (map : List ℕ) → media_of s.media ≡ Some m
    → first_attribute (codes "a=rtpmap:") m.1 s.lines ≡ Some map → is_raw90000 map ≡ true
    → HasOtherMap s → ⊥
other_once s m map em e r c =
    let same : c.map ≡ map =
    attribute_once (codes "a=rtpmap:") c.payload_type m.1 s.lines c.map map
    (type_once s.media c.port c.payload_type m c.media em) c.rtpmap e in
    not_both (is_raw90000 map) r (ap is_raw90000 (sym same) ∙ raw_is c.map ∙ c.other)

pub listed_told : (s : Section) → Told 9 (At s) (IsListed s) (listing_walk s)
unfolding listing_walk
listed_told s =
    want 9 (At s) (IsListed s) BadMediaLine (media_of s.media) _ (below_media s)
    (λ e. λ p t i. not_none (p, t) (sym (says_media s.media p t i) ∙ e))
    (λ m e c. c m.0 m.1 (media_says s.media m e))
    (λ m em b.
    want 9 (At s) (IsListed s) NoRtpmap (first_attribute (codes "a=rtpmap:") m.1 s.lines) _ b
    (λ e. record {
      port = m.0;
      payload_type = m.1;
      media = media_says s.media m em;
      none =
          none_says (codes "a=rtpmap:") m.1 s.lines e;
    })
    (λ map e c. lacks_once (codes "a=rtpmap:") s m map em e c)
    (λ map er b.
    refuse 9 (At s) (IsListed s) NotRaw90000 (not (is_raw90000 map)) _ b
    (λ e. record {
      port = m.0;
      payload_type = m.1;
      map = map;
      media =
          media_says s.media m em;
      rtpmap =
          first_says (codes "a=rtpmap:") m.1 s.lines map er;
      other =
          sym (raw_is map) ∙ not_true (is_raw90000 map) e;
    })
    (λ e c. other_once s m map em er (not_false (is_raw90000 map) e) c)
    (λ ew b.
    want 9 (At s) (IsListed s) NoFmtp (first_attribute (codes "a=fmtp:") m.1 s.lines) _ b
    (λ e. record {
      port = m.0;
      payload_type = m.1;
      media = media_says s.media m em;
      none =
          none_says (codes "a=fmtp:") m.1 s.lines e;
    })
    (λ text e c. lacks_once (codes "a=fmtp:") s m text em e c)
    (λ text et b.
    let has : HasItems s m.0 m.1 (items text) =
    record {
      media = media_says s.media m em;
      text = text;
      fmtp =
          first_says (codes "a=fmtp:") m.1 s.lines text et;
      list = refl;
    } in
    refuse 9 (At s) (IsListed s) BadParameter (list_any is_bad (items text)) _ b
    (λ e. record {
      port = m.0;
      payload_type = m.1;
      list = items text;
      has = has;
      holds =
          any_bad (items text) e;
    })
    (λ e c. not_both (list_any is_bad (items text)) (bad_any (items text) (found_in c has)) e)
    (λ eb b. (record { has = has; good = eb }, b))))))
  where
    found_in : {p t : ℕ} {js : List Item} → HasItemFault s BadParameter → HasItems s p t js
        → ItemFault js BadParameter
    found_in {p = p} {t = t} {js = js} c i =
        subst (λ (is : List Item). ItemFault is BadParameter)
        (items_once s c.port c.payload_type p t c.list js c.has i) c.holds

-- faults of items are faults of their section, and the other way round
up : (s : Section) (p t : ℕ) (is : List Item) → HasItems s p t is → (f : SdpFault) → ItemFault is f
    → SectionFault s f
up s p t is i NoMemory c = absurd c
up s p t is i NoVideo c = absurd c
up s p t is i TooManyLegs c = absurd c
up s p t is i BadMediaLine c = absurd c
up s p t is i NoRtpmap c = absurd c
up s p t is i NotRaw90000 c = absurd c
up s p t is i NoFmtp c = absurd c
up s p t is i BadParameter c = record { port = p; payload_type = t; list = is; has = i; holds = c }
up s p t is i DoubleParameter c =
    record { port = p; payload_type = t; list = is; has = i; holds = c }
up s p t is i MissingParameter c =
    record { port = p; payload_type = t; list = is; has = i; holds = c }
up s p t is i UnsupportedSampling c =
    record { port = p; payload_type = t; list = is; has = i; holds = c }
up s p t is i UnsupportedDepth c =
    record { port = p; payload_type = t; list = is; has = i; holds = c }
up s p t is i Interlaced c = record { port = p; payload_type = t; list = is; has = i; holds = c }
up s p t is i UnsupportedPacking c =
    record { port = p; payload_type = t; list = is; has = i; holds = c }
up s p t is i BadSsn c = record { port = p; payload_type = t; list = is; has = i; holds = c }
up s p t is i BadFormat c = record { port = p; payload_type = t; list = is; has = i; holds = c }
up s p t is i LegsDiffer c = absurd c

down_item : (s : Section) (p t : ℕ) (is : List Item) → HasItems s p t is → (f : SdpFault)
    → HasItemFault s f → ItemFault is f
down_item s p t is i f c =
    subst (λ (js : List Item). ItemFault js f)
    (items_once s c.port c.payload_type p t c.list is c.has i) c.holds

down : (s : Section) (p t : ℕ) (is : List Item) → HasItems s p t is → (f : SdpFault)
    → 9 ≤ sdp_fault_number f → SectionFault s f → ItemFault is f
down s p t is i NoMemory l c = c.holds
down s p t is i NoVideo l c = c.holds
down s p t is i TooManyLegs l c = c.holds
down s p t is i BadMediaLine l c = omega arith
down s p t is i NoRtpmap l c = omega arith
down s p t is i NotRaw90000 l c = omega arith
down s p t is i NoFmtp l c = omega arith
down s p t is i BadParameter l c = down_item s p t is i BadParameter c
down s p t is i DoubleParameter l c = down_item s p t is i DoubleParameter c
down s p t is i MissingParameter l c = down_item s p t is i MissingParameter c
down s p t is i UnsupportedSampling l c = down_item s p t is i UnsupportedSampling c
down s p t is i UnsupportedDepth l c = down_item s p t is i UnsupportedDepth c
down s p t is i Interlaced l c = down_item s p t is i Interlaced c
down s p t is i UnsupportedPacking l c = down_item s p t is i UnsupportedPacking c
down s p t is i BadSsn l c = down_item s p t is i BadSsn c
down s p t is i BadFormat l c = down_item s p t is i BadFormat c
down s p t is i LegsDiffer l c = c.holds

join_below : (s : Section) (p t : ℕ) (is : List Item) (n : ℕ) → HasItems s p t is → Below (At s) 9
    → Below (Of is) n → Below (At s) n
join_below s p t is n i low high = record {
  none = λ g l c. elim (cases_lt (sdp_fault_number g) 9) [
    | inl h ↦ low.none g h c
    | inr h ↦ high.none g l (down s p t is i g h c)
  ];
}

raise : {X : Type 0} (s : Section) (p t : ℕ) (is : List Item) (R : X → Type 0)
    (r : Result X SdpFault) → HasItems s p t is → Below (At s) 9 → Told 18 (Of is) R r
    → Told 18 (At s) R r
raise s p t is R (Ok x) i low told = (told.0, join_below s p t is 18 i low told.1)
raise s p t is R (Err f) i low told =
    (up s p t is i f told.0, join_below s p t is (sdp_fault_number f) i low told.1)

pub section_told : (s : Section) → Told 18 (At s) (λ x. SectionSays s x.0 x.1) (section_walk s)
unfolding section_walk
section_told s =
    follow 9 18 (At s) (IsListed s) (λ x. SectionSays s x.0 x.1) (listing_walk s) _ (listed_told s)
    (λ x k b.
    follow 18 18 (At s) (λ l. IsSaid x.list l × (l.payload_type ≡ x.payload_type))
    (λ z. SectionSays s z.0 z.1) (leg_of x.payload_type x.list) _
    (raise s x.port x.payload_type x.list
    (λ l. IsSaid x.list l × (l.payload_type ≡ x.payload_type))
    (leg_of x.payload_type x.list) k.has b (leg_told x.payload_type x.list k.good)) (λ l q b. (
      record {
        list = x.list;
        has =
            subst (λ (t : ℕ). HasItems s x.port t x.list) (sym q.1) k.has;
        said = q.0;
      },
      b,
    )))

-- THE LAWS OF A SECTION

err_by : (s : Section) (f : SdpFault) (r : Result (ℕ × Leg) SdpFault)
    → Told 18 (At s) (λ x. SectionSays s x.0 x.1) r → r ≡ Err f → IsFirstFault s f
err_by s f (Ok x) told e = absurd (let h : ⊥ = cc in h)
err_by s f (Err g) told e =
    let same : g ≡ f = cc in
    subst (λ (k : SdpFault). IsFirstFault s k) same (told.0, λ other l c. told.1.none other l c)

first_by : (s : Section) (f : SdpFault) (r : Result (ℕ × Leg) SdpFault)
    → Told 18 (At s) (λ x. SectionSays s x.0 x.1) r → IsFirstFault s f → r ≡ Err f
first_by s f (Ok x) told c = absurd (none_at_all (At s) told.1 f c.0)
first_by s f (Err g) told c =
    elim (cases_lt (sdp_fault_number g) (sdp_fault_number f)) [
      | inl h ↦ absurd (c.1 g h told.0)
      | inr h ↦ elim (cases_lt (sdp_fault_number f) (sdp_fault_number g)) [
        | inl k ↦ absurd (told.1.none f k c.0)
        | inr k ↦ let same : sdp_fault_number g ≡ sdp_fault_number f =
            omega arith in ap (λ (z : SdpFault). Err z) (number_same g f same)
      ]
    ]

pub section_fault : (s : Section) (f : SdpFault) → (section_walk s ≡ Err f) ↔ IsFirstFault s f
section_fault s f =
    (err_by s f (section_walk s) (section_told s), first_by s f (section_walk s) (section_told s))

read_by : (s : Section) (x : ℕ × Leg) (r : Result (ℕ × Leg) SdpFault)
    → Told 18 (At s) (λ x. SectionSays s x.0 x.1) r → r ≡ Ok x
    → IsFaultless s × SectionSays s x.0 x.1
read_by s x (Ok y) told e =
    let same : y ≡ x = cc in
    (none_at_all (At s) told.1, subst (λ (z : ℕ × Leg). SectionSays s z.0 z.1) same told.0)
read_by s x (Err g) told e = absurd (let h : ⊥ = cc in h)

pub section_read : (s : Section) (x : ℕ × Leg) → section_walk s ≡ Ok x
    → IsFaultless s × SectionSays s x.0 x.1
section_read s x e = read_by s x (section_walk s) (section_told s) e

one_by : (s : Section) (port : ℕ) (l : Leg) (r : Result (ℕ × Leg) SdpFault)
    → Told 18 (At s) (λ x. SectionSays s x.0 x.1) r → IsFaultless s → SectionSays s port l
    → r ≡ Ok (port, l)
one_by s port l (Err g) told clean says = absurd (clean g told.0)
one_by s port l (Ok x) told clean says =
    let there : SectionSays s x.0 x.1 = told.0 in
    let media : (x.0 ≡ port) × (x.1.payload_type ≡ l.payload_type) =
    media_once s.media x.0 x.1.payload_type port l.payload_type there.has.media
    says.has.media in
    let list : says.list ≡ there.list =
    items_once s port l.payload_type x.0 x.1.payload_type says.list there.list says.has
    there.has in
    let single : has_double there.list ≡ false =
    false_from (has_double there.list)
    (λ d. clean DoubleParameter
    (record {
      port = x.0;
      payload_type = x.1.payload_type;
      list = there.list;
      has =
          there.has;
      holds = double_says there.list d;
    })) in
    let leg : x.1 ≡ l =
    said_once there.list x.1 l single media.1 there.said
    (subst (λ (js : List Item). IsSaid js l) list says.said) in
    ap (λ (p : ℕ). Ok (p, x.1)) media.0 ∙ ap (λ (m : Leg). Ok (port, m)) leg

pub section_said : (s : Section) (port : ℕ) (l : Leg) → IsFaultless s → SectionSays s port l
    → section_walk s ≡ Ok (port, l)
section_said s port l clean says = one_by s port l (section_walk s) (section_told s) clean says
