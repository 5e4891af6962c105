-- Times, and what is said as RTP, where one more datagram comes.
use Rattle.std.proofs.Common.{◌≡◌, ℕ, ◌+◌, ◌-◌, ◌^◌, min, max, Bool, true, false, cond, List, [], ◌∷◌}
use Rattle.std.proofs.Common.{◌++◌, Option, Some, None, Ok, Err, length, count_by}
use Rattle.std.proofs.Common.{ap, sym, ◌∙◌, arith, append-nil}
use Rattle.std.proofs.lemmas.List.{length-append}
use Rattle.std.proofs.lemmas.List.Concat.{flat_map-append}
use Rattle.std.proofs.lemmas.List.Elements.{filter_map-append}
use Rattle.std.proofs.lemmas.List.Sums.{sum_by-append}
use Rattle.std.specs.Option.{option_map_or}
use Rattle.rtp_header.specs.Grammar.{Rtp}
use Rattle.rtp_header.specs.Reading.{rtp_walk}
use Rattle.rtp_header.specs.declared.header.RtpFault.{RtpFault}
use Rattle.st_format.specs.Device.{capped}
use Rattle.recording_counts.specs.Numbering.{highest_of, lowest_of}
use Rattle.recording_counts.proofs.CountLaws.{highest_more, lowest_more}
use Rattle.recording_counts.specs.declared.rtp_count.RtpCount.{RtpCount}
use Rattle.recording_counts.specs.declared.rtp_streams.Streams.{Streams}
use Rattle.recording_counts.specs.declared.times.Times.{Times}
use Rattle.recording_counts.specs.FlowCounts.{if_read, is_rtcp, known, rtp_of, rtp_said, said_by, times_of}
use Rattle.recording_counts.specs.FlowStreams.{rtp_streams_of}
use Rattle.recording_counts.proofs.Kept.{capped_more}

-- ---- times

abbrev span : Option ℕ → Option ℕ → Times
span first last = record { first = first; last = last }

abbrev spanned : List ℕ → Times
spanned ns = span (lowest_of ns) (highest_of ns)

pub times_none : (times : List (Option ℕ)) (s : Times) (t : Option ℕ) → s ≡ times_of times
    → t ≡ None → s ≡ times_of (times ++ t ∷ [])
times_none times s t e n =
    e
    ∙ ap spanned
    (sym
    (ap (λ (x : Option ℕ). known (times ++ x ∷ [])) n
    ∙ filter_map-append (λ (x : Option ℕ). x) times (None ∷ [])
    ∙ append-nil (known times)))

pub times_some : (times : List (Option ℕ)) (s : Times) (t : Option ℕ) (time first last : ℕ)
    → s ≡ times_of times → t ≡ Some time
    → first ≡ option_map_or (λ l. min l time) s.first time
    → last ≡ option_map_or (λ h. max h time) s.last time
    → ◌≡◌ {A = Times} (record { first = Some first; last = Some last })
    (times_of (times ++ t ∷ []))
times_some times s t time first last e n p q =
    let ns : List ℕ = known times in
    let more : known (times ++ t ∷ []) ≡ ns ++ time ∷ [] =
    ap (λ (x : Option ℕ). known (times ++ x ∷ [])) n
    ∙ filter_map-append (λ (x : Option ℕ). x) times (Some time ∷ []) in
    let f : Some first ≡ lowest_of (ns ++ time ∷ []) =
    ap (λ (x : ℕ). Some x)
    (p ∙ ap (λ (x : Times). option_map_or (λ l. min l time) x.first time) e)
    ∙ sym (lowest_more ns time) in
    let l : Some last ≡ highest_of (ns ++ time ∷ []) =
    ap (λ (x : ℕ). Some x)
    (q ∙ ap (λ (x : Times). option_map_or (λ h. max h time) x.last time) e)
    ∙ sym (highest_more ns time) in
    ap (λ (x : Option ℕ). span x (Some last)) f
    ∙ ap (span (lowest_of (ns ++ time ∷ []))) l ∙ ap spanned (sym more)

-- ---- what is said

abbrev counted : ℕ → ℕ → Streams → RtpCount
counted datagrams rtcp streams =
    record { datagrams = datagrams; rtcp = rtcp; streams = streams }

abbrev told : List Rtp → ℕ → RtpCount
told said n = counted (capped (length said)) (capped n) (rtp_streams_of said)

said_more : (all : List (List ℕ)) (octets : List ℕ) (rs : List Rtp) → said_by octets ≡ rs
    → rtp_said (all ++ octets ∷ []) ≡ rtp_said all ++ rs
said_more all octets rs e =
    flat_map-append said_by all (octets ∷ [])
    ∙ ap (λ (x : List Rtp). rtp_said all ++ x) (append-nil (said_by octets) ∙ e)

plus_none : (n : ℕ) → n + 0 ≡ n
plus_none n = omega arith

none_plus : (n : ℕ) → 0 + n ≡ n
none_plus n = omega arith

counted_more : (all : List (List ℕ)) (octets : List ℕ) (b : Bool) → is_rtcp octets ≡ b
    → count_by is_rtcp (all ++ octets ∷ []) ≡ count_by is_rtcp all + cond b 1 0
counted_more all octets b e =
    sum_by-append (λ (o : List ℕ). cond (is_rtcp o) 1 0) all (octets ∷ [])
    ∙ ap (λ (n : ℕ). count_by is_rtcp all + n)
    (none_plus (cond (is_rtcp octets) 1 0) ∙ ap (λ (x : Bool). cond x 1 0) e)

-- a datagram of RTCP
pub said_rtcp : (all : List (List ℕ)) (octets : List ℕ) (s : RtpCount) (c : ℕ)
    → s ≡ rtp_of all → is_rtcp octets ≡ true → c ≡ min (s.rtcp + 1) (2 ^ 64 - 1)
    → counted s.datagrams c s.streams ≡ rtp_of (all ++ octets ∷ [])
said_rtcp all octets s c e is p =
    let n : ℕ = count_by is_rtcp all in
    let none : said_by octets ≡ [] =
    ap (λ (b : Bool). cond b [] (if_read (rtp_walk octets))) is in
    let said : rtp_said (all ++ octets ∷ []) ≡ rtp_said all =
    said_more all octets [] none ∙ append-nil (rtp_said all) in
    let c_is : c ≡ capped (count_by is_rtcp (all ++ octets ∷ [])) =
    p ∙ ap (λ (x : RtpCount). min (x.rtcp + 1) (2 ^ 64 - 1)) e ∙ capped_more n
    ∙ ap capped (sym (counted_more all octets true is)) in
    ap (λ (x : RtpCount). counted x.datagrams c x.streams) e
    ∙ ap (λ (x : ℕ). counted (capped (length (rtp_said all))) x (rtp_streams_of (rtp_said all))) c_is
    ∙ ap (λ (x : List Rtp). told x (count_by is_rtcp (all ++ octets ∷ []))) (sym said)

-- no datagram of RTCP counts no more of these
same_count : (all : List (List ℕ)) (octets : List ℕ) → is_rtcp octets ≡ false
    → count_by is_rtcp all ≡ count_by is_rtcp (all ++ octets ∷ [])
same_count all octets apart =
    sym (counted_more all octets false apart ∙ plus_none (count_by is_rtcp all))

-- one that is no RTP either
pub said_none : (all : List (List ℕ)) (octets : List ℕ) (s : RtpCount) (f : RtpFault)
    → s ≡ rtp_of all → is_rtcp octets ≡ false → rtp_walk octets ≡ Err f
    → s ≡ rtp_of (all ++ octets ∷ [])
said_none all octets s f e apart w =
    let none : said_by octets ≡ [] =
    ap (λ (b : Bool). cond b [] (if_read (rtp_walk octets))) apart ∙ ap if_read w in
    let said : rtp_said (all ++ octets ∷ []) ≡ rtp_said all =
    said_more all octets [] none ∙ append-nil (rtp_said all) in
    e ∙ ap (told (rtp_said all)) (same_count all octets apart)
    ∙ ap (λ (x : List Rtp). told x (count_by is_rtcp (all ++ octets ∷ []))) (sym said)

-- one of RTP
pub said_rtp : (all : List (List ℕ)) (octets : List ℕ) (s : RtpCount) (r : Rtp) (d : ℕ)
    (streams : Streams) → s ≡ rtp_of all → is_rtcp octets ≡ false → rtp_walk octets ≡ Ok r
    → d ≡ min (s.datagrams + 1) (2 ^ 64 - 1)
    → ((said : List Rtp) → s.streams ≡ rtp_streams_of said
    → streams ≡ rtp_streams_of (said ++ r ∷ []))
    → counted d s.rtcp streams ≡ rtp_of (all ++ octets ∷ [])
said_rtp all octets s r d streams e apart w p q =
    let xs : List Rtp = rtp_said all in
    let one : said_by octets ≡ r ∷ [] =
    ap (λ (b : Bool). cond b [] (if_read (rtp_walk octets))) apart ∙ ap if_read w in
    let said : rtp_said (all ++ octets ∷ []) ≡ xs ++ r ∷ [] = said_more all octets (r ∷ []) one in
    let d_is : d ≡ capped (length (xs ++ r ∷ [])) =
    p ∙ ap (λ (x : RtpCount). min (x.datagrams + 1) (2 ^ 64 - 1)) e ∙ capped_more (length xs)
    ∙ ap capped (sym (length-append xs (r ∷ []))) in
    let s_is : streams ≡ rtp_streams_of (xs ++ r ∷ []) =
    q xs (ap (λ (x : RtpCount). x.streams) e) in
    ap (λ (x : ℕ). counted x s.rtcp streams) d_is
    ∙ ap (λ (x : RtpCount). counted (capped (length (xs ++ r ∷ []))) x.rtcp streams) e
    ∙ ap (counted (capped (length (xs ++ r ∷ []))) (capped (count_by is_rtcp all))) s_is
    ∙ ap (λ (n : ℕ). told (xs ++ r ∷ []) n) (same_count all octets apart)
    ∙ ap (λ (x : List Rtp). told x (count_by is_rtcp (all ++ octets ∷ []))) (sym said)
