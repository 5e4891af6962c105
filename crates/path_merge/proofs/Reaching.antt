-- What reaches a stay after one event more, and its frame.
use Rattle.std.proofs.Common.{◌≡◌, ℕ, ◌+◌, ◌<◌, ◌≤◌, ◌⊎◌, inl, inr, List, [], ◌∷◌, ◌++◌, length}
use Rattle.std.proofs.Common.{take, drop, Result, Ok, Err, Some, refl, sym, ap, ◌∙◌, subst, arith}
use Rattle.std.proofs.Common.{length-append}
use Rattle.std.specs.Prelude.{slice_get}
use Rattle.std.specs.List.{flat_map}
use Rattle.std.proofs.lemmas.Bool.Decides.{eqb_tells}
use Rattle.std.proofs.lemmas.List.{append-nil, take-append-drop}
use Rattle.std.proofs.lemmas.List.Concat.{flat_map-append}
use Rattle.st_format.specs.declared.cell.Cell.{Cell}
use Rattle.st_format.specs.declared.format.Format.{Format}
use Rattle.st_format.specs.declared.path.Path.{Path}
use Rattle.st_format.specs.Offer.{Offer}
use Rattle.st_format.specs.Raster.{Raster, blank, raster_of, cells_of, joined_cells, joined_rasters}
use Rattle.st_format.proofs.Members.{member_left, member_right, member_cases}
use Rattle.st_format.proofs.Rasters.{cells_of-append, joined_none, length-cells_of}
use Rattle.st_format.specs.Device.{AreOctets}
use Rattle.path_receiver.specs.declared.answer.Refusal.{Refusal}
use Rattle.path_receiver.specs.Admission.{datagram_walk}
use Rattle.path_receiver.specs.Grammar.{Datagram}
use Rattle.path_receiver.specs.Offers.{offers, offers_of}
use Rattle.path_receiver.specs.Opening.{Opening}
use Rattle.path_receiver.proofs.Frames.{cells_kept, holds_blank}
use Rattle.path_receiver.proofs.Offered.{admitted_for, admitted_takes}
use Rattle.path_merge.specs.declared.schedule.event.Event.{Event}
use Rattle.path_merge.specs.declared.schedule.event.Event.TheVariants.{Send, Arrive, Slide, Merge}
use Rattle.path_merge.specs.Stays.{Stay, Lasts, slide_timestamp, slide_timestamps}
use Rattle.path_merge.specs.Reached.{Scene, Chain, Arrived, Merged, LastStep, By_arrive, By_merge}
use Rattle.path_merge.specs.Reached.{IsDatagramFor, Reaches, IsFrameOf}
use Rattle.path_merge.proofs.Chains.{chain_more, chain_cases, chain_last}
use Rattle.path_merge.proofs.Places.{get_below}

-- ---- what reaches a stay

pub reach_more : (s : Scene) (es fs : List Event) (octets : List ℕ) (stay : Stay)
    → Reaches octets stay s es → Reaches octets stay s (es ++ fs)
reach_more s es fs octets stay r = record {
  number = r.number;
  sent = r.sent;
  is_of = r.is_of;
  place = r.place;
  chain = chain_more s.opening.window es fs r.number stay r.place r.chain;
}

-- what reaches it by a chain whose last step is this event
pub record Newly (s : Scene) (es : List Event) (e : Event) (octets : List ℕ)
    (stay : Stay) : Type 0 where
  pub number : ℕ
  pub sent : slice_get s.sent number ≡ Some octets
  pub is_of : IsDatagramFor octets s.opening stay.timestamp
  pub last : LastStep s.opening.window es e number stay

pub reach_newly : (s : Scene) (es : List Event) (e : Event) (octets : List ℕ) (stay : Stay)
    → Newly s es e octets stay → Reaches octets stay s (es ++ e ∷ [])
reach_newly s es e octets stay r = record {
  number = r.number;
  sent = r.sent;
  is_of = r.is_of;
  place = length es;
  chain = chain_last s.opening.window es e r.number stay r.last;
}

pub reach_cases : (s : Scene) (es : List Event) (e : Event) (octets : List ℕ) (stay : Stay)
    → Reaches octets stay s (es ++ e ∷ []) → Reaches octets stay s es ⊎ Newly s es e octets stay
reach_cases s es e octets stay r =
    elim (chain_cases s.opening.window es e r.number stay r.place r.chain) [
      | inl chain ↦ inl
          (record {
            number = r.number;
            sent = r.sent;
            is_of = r.is_of;
            place = r.place;
            chain =
                chain;
          })
      | inr last ↦ inr (record { number = r.number; sent = r.sent; is_of = r.is_of; last = last })
    ]

-- ---- a frame that stays

pub frame_kept : (s : Scene) (es : List Event) (e : Event) (stay : Stay) (q : Raster)
    → ((octets : List ℕ) → Newly s es e octets stay → ⊥) → IsFrameOf q stay s es
    → IsFrameOf q stay s (es ++ e ∷ [])
frame_kept s es e stay q none is = record {
  reached = is.reached;
  each = λ octets. (
    λ m. reach_more s es (e ∷ []) octets stay ((is.each octets).0 m),
    λ r. elim
        (reach_cases s es e octets stay r) [
          | inl old ↦ (is.each octets).1 old
          | inr new ↦ absurd
              (none octets new)
        ],
  );
  frame_is = is.frame_is;
}

-- ---- a frame that takes a datagram

-- whether octets are a datagram of this timestamp
of_or_not : (o : Opening) (octets : List ℕ) (ts : ℕ) (x : Result Datagram Refusal)
    → AreOctets octets → datagram_walk o.format o.payload_type o.ssrc octets ≡ x
    → IsDatagramFor octets o ts ⊎ (IsDatagramFor octets o ts → ⊥)
of_or_not o octets ts (Err e) fit read =
    inr (λ is. is_ok is.datagram (admitted_for o octets is.datagram is.is_for))
  where
    is_ok : (d : Datagram) → datagram_walk o.format o.payload_type o.ssrc octets ≡ Ok d → ⊥
    is_ok d h = cc
of_or_not o octets ts (Ok d) fit read =
    elim (eqb_tells d.timestamp ts) [
      | inl same ↦ inl
          (record { datagram = d; is_for = admitted_takes o octets d fit read; time = same.1 })
      | inr other ↦ inr
          (λ is. other.1
          (ap (λ (x : Datagram). x.timestamp)
          (one_ok d is.datagram read (admitted_for o octets is.datagram is.is_for)) ∙ is.time))
    ]
  where
    one_ok : (x y : Datagram) → datagram_walk o.format o.payload_type o.ssrc octets ≡ Ok x
        → datagram_walk o.format o.payload_type o.ssrc octets ≡ Ok y → x ≡ y
    one_ok x y g h = cc

alone : (o : Opening) (d : List ℕ) → flat_map (offers o) (d ∷ []) ≡ offers o d
alone o d = append-nil (offers o d)

-- what is of another timestamp gives no cell
none_at : (o : Opening) (octets : List ℕ) (ts : ℕ) (x : Result Datagram Refusal) → AreOctets octets
    → datagram_walk o.format o.payload_type o.ssrc octets ≡ x → (IsDatagramFor octets o ts → ⊥)
    → cells_of o.format (flat_map (offers o) (octets ∷ [])) ts ≡ cells_of o.format [] ts
none_at o octets ts (Err e) fit read none =
    ap (λ (os : List Offer). cells_of o.format os ts)
    (alone o octets ∙ ap (offers_of o.format) read)
none_at o octets ts (Ok d) fit read none =
    ap (λ (os : List Offer). cells_of o.format os ts)
    (alone o octets ∙ ap (offers_of o.format) read)
    ∙ cells_kept o.format [] ts d.timestamp d.segments
    (λ same. none
    (record { datagram = d; is_for = admitted_takes o octets d fit read; time = same }))

abbrev with_cells : Format → List Cell → Raster
with_cells f cells = record { format = f; cells = cells }

-- the rasters of two lists of datagrams joined
pub both_rasters : (o : Opening) (xs ys : List (List ℕ)) (ts : ℕ)
    → joined_rasters (raster_of o.format (flat_map (offers o) xs) ts)
    (raster_of o.format (flat_map (offers o) ys) ts)
    ≡ raster_of o.format (flat_map (offers o) (xs ++ ys)) ts
both_rasters o xs ys ts =
    ap (with_cells o.format)
    (sym (cells_of-append o.format (flat_map (offers o) xs) (flat_map (offers o) ys) ts)
    ∙ ap (λ (os : List Offer). cells_of o.format os ts)
    (sym (flat_map-append (offers o) xs ys)))

none_joined : (o : Opening) (xs : List (List ℕ)) (octets : List ℕ) (ts : ℕ)
    → cells_of o.format (flat_map (offers o) (octets ∷ [])) ts ≡ cells_of o.format [] ts
    → joined_rasters (raster_of o.format (flat_map (offers o) xs) ts)
    (raster_of o.format (flat_map (offers o) (octets ∷ [])) ts)
    ≡ raster_of o.format (flat_map (offers o) xs) ts
none_joined o xs octets ts none =
    let cells : List Cell = cells_of o.format (flat_map (offers o) xs) ts in
    ap (with_cells o.format)
    (ap (joined_cells cells) none
    ∙ joined_none o.format ts cells (length-cells_of o.format (flat_map (offers o) xs) ts))

same_arrive : (r t m n : ℕ) (p q : Path) → Arrive r p m ≡ Arrive t q n → m ≡ n
same_arrive r t m n p q h = cc

same_octets : (s : Scene) (m n : ℕ) (xs ys : List ℕ) → m ≡ n → slice_get s.sent m ≡ Some xs
    → slice_get s.sent n ≡ Some ys → ys ≡ xs
same_octets s m n xs ys e f g = cc

-- the datagram that newly reaches it is the one that arrives
newly_arrived : (s : Scene) (es : List Event) (to number : ℕ) (path : Path) (octets other : List ℕ)
    (stay : Stay) → slice_get s.sent number ≡ Some octets
    → Newly s es (Arrive to path number) other stay → other ≡ octets
newly_arrived s es to number path octets other stay sent new = by_last new.number new.sent new.last
  where
    by_last : (n : ℕ) → slice_get s.sent n ≡ Some other
        → LastStep s.opening.window es (Arrive to path number) n stay → other ≡ octets
    by_last n here (By_arrive p is lasts) =
        same_octets s number n octets other
        (same_arrive to stay.receiver number n path p is) sent here
    by_last n here (By_merge from earlier is from_lasts lasts same chain) = absurd cc

-- A datagram that arrives while the stay lasts is joined to its frame.
pub frame_taken : (s : Scene) (es : List Event) (to number : ℕ) (path : Path) (octets : List ℕ)
    (stay : Stay) (q : Raster) → slice_get s.sent number ≡ Some octets → AreOctets octets
    → stay.receiver ≡ to → Lasts stay s.opening.window es → IsFrameOf q stay s es
    → IsFrameOf
    (joined_rasters q
    (raster_of s.opening.format (flat_map (offers s.opening) (octets ∷ [])) stay.timestamp)) stay s
    (es ++ Arrive to path number ∷ [])
frame_taken s es to number path octets stay q sent fit at lasts is =
    let o : Opening = s.opening in
    let ts : ℕ = stay.timestamp in
    let e : Event = Arrive to path number in
    let with_q : joined_rasters q (raster_of o.format (flat_map (offers o) (octets ∷ [])) ts)
    ≡ joined_rasters (raster_of o.format (flat_map (offers o) is.reached) ts)
    (raster_of o.format (flat_map (offers o) (octets ∷ [])) ts) =
    ap (λ (r : Raster). joined_rasters r
    (raster_of o.format (flat_map (offers o) (octets ∷ [])) ts)) is.frame_is in
    elim (of_or_not o octets ts (datagram_walk o.format o.payload_type o.ssrc octets) fit refl) [
      | inl is_of ↦ record {
        reached = is.reached ++ octets ∷ [];
        each = λ other. (
          λ m. elim (member_cases other is.reached (octets ∷ []) m) [
            | inl old ↦ reach_more s es (e ∷ []) other stay ((is.each other).0 old)
            | inr new ↦ elim new [
              | inl same ↦ subst (λ (x : List ℕ). Reaches x stay s (es ++ e ∷ [])) (sym same)
                  (reach_newly s es e octets stay
                  (record {
                    number = number;
                    sent = sent;
                    is_of = is_of;
                    last =
                        By_arrive path (ap (λ (x : ℕ). Arrive x path number) (sym at)) lasts;
                  }))
              | inr bad ↦ absurd bad
            ]
          ],
          λ r. elim (reach_cases s es e other stay r) [
            | inl old ↦ member_left other is.reached (octets ∷ []) ((is.each other).1 old)
            | inr new ↦ member_right other is.reached (octets ∷ [])
                (inl (newly_arrived s es to number path octets other stay sent new))
          ],
        );
        frame_is = with_q ∙ both_rasters o is.reached (octets ∷ []) ts;
      }
      | inr not_of ↦ record {
        reached = is.reached;
        each = λ other. (
          λ m. reach_more s es (e ∷ []) other stay ((is.each other).0 m),
          λ r. elim (reach_cases s es e other stay r) [
            | inl old ↦ (is.each other).1 old
            | inr new ↦ absurd
                (not_of (subst (λ (x : List ℕ). IsDatagramFor x o ts)
                (newly_arrived s es to number path octets other stay sent new) new.is_of))
          ],
        );
        frame_is =
            with_q ∙ none_joined o is.reached octets ts
            (none_at o octets ts
            (datagram_walk o.format o.payload_type o.ssrc octets) fit refl not_of);
      }
    ]

-- ---- a frame that another is merged into

same_merge : (r t m n : ℕ) → Merge r m ≡ Merge t n → m ≡ n
same_merge r t m n h = cc

-- A stay's frame is joined to the one of the same timestamp that it is merged into, while both
-- last.
pub frame_merged : (s : Scene) (es : List Event) (into other : ℕ) (from stay : Stay) (q p : Raster)
    → stay.receiver ≡ into → from.receiver ≡ other
    → Lasts from s.opening.window es → Lasts stay s.opening.window es
    → from.timestamp ≡ stay.timestamp
    → ((x : Stay) → x.receiver ≡ other → Lasts x s.opening.window es → x.timestamp ≡ stay.timestamp
    → x ≡ from)
    → IsFrameOf q stay s es → IsFrameOf p from s es
    → IsFrameOf (joined_rasters q p) stay s (es ++ Merge into other ∷ [])
frame_merged s es into other from stay q p at there from_lasts lasts same only is its =
    let o : Opening = s.opening in
    let ts : ℕ = stay.timestamp in
    let e : Event = Merge into other in
    let is_e : Merge into other ≡ Merge stay.receiver from.receiver =
    ap (λ (x : ℕ). Merge x other) (sym at)
    ∙ ap (λ (x : ℕ). Merge stay.receiver x) (sym there) in
    record {
      reached = is.reached ++ its.reached;
      each = λ octets. (
        λ m. elim (member_cases octets is.reached its.reached m) [
          | inl old ↦ reach_more s es (e ∷ []) octets stay ((is.each octets).0 old)
          | inr new ↦ let r = (its.each octets).0 new in reach_newly s es e octets stay (record {
            number = r.number;
            sent = r.sent;
            is_of = subst (λ (t : ℕ). IsDatagramFor octets o t) same r.is_of;
            last = By_merge from r.place is_e from_lasts lasts same r.chain;
          })
        ],
        λ r. elim (reach_cases s es e octets stay r) [
          | inl old ↦ member_left octets is.reached its.reached ((is.each octets).1 old)
          | inr new ↦ member_right octets is.reached its.reached
              ((its.each octets).1 (by_last octets new.number new.sent new.is_of new.last))
        ],
      );
      frame_is = ap (λ (r : Raster). joined_rasters r p) is.frame_is
          ∙ ap
          (λ (r : Raster). joined_rasters
          (raster_of o.format (flat_map (offers o) is.reached) ts) r)
          (its.frame_is ∙ ap (raster_of o.format (flat_map (offers o) its.reached)) same)
          ∙ both_rasters o is.reached its.reached ts;
    }
  where
    by_last : (octets : List ℕ) (n : ℕ) → slice_get s.sent n ≡ Some octets
        → IsDatagramFor octets s.opening stay.timestamp
        → LastStep s.opening.window es (Merge into other) n stay → Reaches octets from s es
    by_last octets n here is_of (By_arrive path is_it lasts_it) = absurd cc
    by_last octets n here is_of (By_merge x earlier is_it x_lasts lasts_it same_it chain) =
        let one : x ≡ from =
        only x (sym (same_merge into stay.receiver other x.receiver is_it)) x_lasts same_it in
        record {
          number = n;
          sent = here;
          is_of = subst (λ (t : ℕ). IsDatagramFor octets s.opening t) (sym same) is_of;
          place = earlier;
          chain = subst (λ (y : Stay). Chain s.opening.window es n y earlier) one chain;
        }

-- ---- a frame of a stay that begins

-- a stay to which a chain leads lasts at some time
chain_lasts : (w : List ℕ) (es : List Event) (n : ℕ) (stay : Stay) (place : ℕ)
    → Chain w es n stay place → Lasts stay w (take place es)
chain_lasts w es n stay place (Arrived p path x is lasts) = lasts
chain_lasts w es n stay place (Merged earlier p from x chain lt is from_lasts lasts same) = lasts

-- no more is brought by the first events than by all
pub brought_front : (r place : ℕ) (es : List Event)
    → length (slide_timestamps r (take place es)) ≤ length (slide_timestamps r es)
brought_front r place es =
    let split : slide_timestamps r es
    ≡ slide_timestamps r (take place es) ++ flat_map (slide_timestamp r) (drop place es) =
    ap (slide_timestamps r) (sym (take-append-drop place es))
    ∙ flat_map-append (slide_timestamp r) (take place es) (drop place es) in
    omega (
      arith,
      ap length split,
      length-append (slide_timestamps r (take place es))
          (flat_map (slide_timestamp r) (drop place es)),
    )

-- nothing came to a stay that hasn't begun
pub not_begun : (w : List ℕ) (es : List Event) (n : ℕ) (stay : Stay) (place : ℕ)
    → length w + length (slide_timestamps stay.receiver es) ≤ stay.number → Chain w es n stay place
    → ⊥
not_begun w es n stay place later chain =
    let lasts = chain_lasts w es n stay place chain in
    let xs : List ℕ = slide_timestamps stay.receiver (take place es) in
    let below : stay.number < length (w ++ xs) =
    get_below (w ++ xs) stay.number stay.timestamp lasts.begun in
    omega (arith, below, length-append w xs, brought_front stay.receiver place es)

blank_raster : (f : Format) (ts : ℕ) → blank f ≡ raster_of f [] ts
blank_raster f ts = first_of_one (blank f) (raster_of f [] ts) (holds_blank f (ts ∷ []))
  where
    first_of_one : (q p : Raster) → q ∷ [] ≡ p ∷ [] → q ≡ p
    first_of_one q p h = cc

pub frame_none : (s : Scene) (es : List Event) (stay : Stay)
    → ((octets : List ℕ) → Reaches octets stay s es → ⊥)
    → IsFrameOf (blank s.opening.format) stay s es
frame_none s es stay none = record {
  reached = [];
  each = λ octets. (λ m. absurd m, λ r. absurd (none octets r));
  frame_is = blank_raster s.opening.format stay.timestamp;
}

-- A stay that begins has a blank frame.
pub frame_new : (s : Scene) (es : List Event) (at next : ℕ) (stay : Stay)
    → length s.opening.window + length (slide_timestamps stay.receiver es) ≤ stay.number
    → IsFrameOf (blank s.opening.format) stay s (es ++ Slide at next ∷ [])
frame_new s es at next stay later =
    frame_none s (es ++ Slide at next ∷ []) stay
    (λ octets r. elim (reach_cases s es (Slide at next) octets stay r) [
      | inl old ↦ not_begun s.opening.window es old.number stay old.place later old.chain
      | inr new ↦ by_last new.number new.last
    ])
  where
    by_last : (n : ℕ) → LastStep s.opening.window es (Slide at next) n stay → ⊥
    by_last n (By_arrive path is_it lasts_it) = absurd cc
    by_last n (By_merge x earlier is_it x_lasts lasts_it same_it chain) = absurd cc

-- ---- events that bring nothing to a stay

-- an event has nothing to give to a receiver's frames
abbrev pub LeavesFrames : Event → ℕ → Type 0
LeavesFrames Send r = Unit {0}
LeavesFrames (Arrive to path number) r = to ≡ r → ⊥
LeavesFrames (Slide at next) r = Unit {0}
LeavesFrames (Merge into from) r = into ≡ r → ⊥

arrive_at : (r t m n : ℕ) (p q : Path) → Arrive r p m ≡ Arrive t q n → r ≡ t
arrive_at r t m n p q h = cc

merge_into : (r t m n : ℕ) → Merge r m ≡ Merge t n → r ≡ t
merge_into r t m n h = cc

pub none_by_other : (s : Scene) (es : List Event) (e : Event) (stay : Stay)
    → LeavesFrames e stay.receiver → (octets : List ℕ) → Newly s es e octets stay → ⊥
none_by_other s es e stay other octets new = by_last e new.number other new.last
  where
    by_last : (f : Event) (n : ℕ) → LeavesFrames f stay.receiver
        → LastStep s.opening.window es f n stay → ⊥
    by_last Send n other (By_arrive path is lasts) = absurd cc
    by_last Send n other (By_merge x earlier is x_lasts lasts same chain) = absurd cc
    by_last (Arrive to p m) n other (By_arrive path is lasts) =
        other (arrive_at to stay.receiver m n p path is)
    by_last (Arrive to p m) n other (By_merge x earlier is x_lasts lasts same chain) = absurd cc
    by_last (Slide at next) n other (By_arrive path is lasts) = absurd cc
    by_last (Slide at next) n other (By_merge x earlier is x_lasts lasts same chain) = absurd cc
    by_last (Merge into from) n other (By_arrive path is lasts) = absurd cc
    by_last (Merge into from) n other (By_merge x earlier is x_lasts lasts same chain) =
        other (merge_into into stay.receiver from x.receiver is)

-- nor is there anything for a stay that doesn't last
pub none_when_over : (s : Scene) (es : List Event) (e : Event) (stay : Stay)
    → (Lasts stay s.opening.window es → ⊥) → (octets : List ℕ) → Newly s es e octets stay → ⊥
none_when_over s es e stay over octets new = over (by_last new.number new.last)
  where
    by_last : (n : ℕ) → LastStep s.opening.window es e n stay → Lasts stay s.opening.window es
    by_last n (By_arrive path is lasts) = lasts
    by_last n (By_merge x earlier is x_lasts lasts same chain) = lasts
