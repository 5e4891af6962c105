-- The extensions of IPv6: where they lead, and that a reading goes there.
use Rattle.std.proofs.Common.{◌≡◌, ℕ, zero, suc, ◌+◌, ◌*◌, ◌<◌, ◌≤◌, Bool, true, false, cond, eqb}
use Rattle.std.proofs.Common.{ltb, List, [], ◌∷◌, ◌++◌, length, get_or, take, drop, Result, Ok, Err}
use Rattle.std.proofs.Common.{append_assoc, refl, sym, ap, ◌∙◌, subst, arith}
use Rattle.std.specs.List.{concat}
use Rattle.std.proofs.lemmas.Bool.{ltb-true, ltb-false, lt-ltb, le-ltb, both_ways, eqb-true}
use Rattle.std.proofs.lemmas.Bool.{eqb-false}
use Rattle.std.proofs.lemmas.Bool.{ne_eqb}
use Rattle.std.proofs.lemmas.List.{length-append, length-drop, length-take-le, take-append-drop}
use Rattle.std.proofs.lemmas.List.{get_or_append_left, drop_at, get_or-take}
use Rattle.pcap_file.specs.declared.datagram.NoDatagram.{NoDatagram}
use Rattle.pcap_file.specs.declared.datagram.NoDatagram.TheVariants.{NotIp, CutShort, BadIpHeader}
use Rattle.pcap_file.specs.declared.datagram.NoDatagram.TheVariants.{NotUdp, Fragment, BadUdpLength}
use Rattle.pcap_file.specs.Ip.{AreLinked, LeadTo, extension_octets, fragment_header, is_passed, udp}
use Rattle.pcap_file.specs.Reading.{carried_at, ending, extensions_at}
use Rattle.pcap_file.proofs.Exact.{no, yes}

-- an extension that isn't whole: then the reading ends there
abbrev pub IsLast : ℕ → List ℕ → Type 0
IsLast last rest = is_passed last ≡ true → length rest < extension_octets rest

step_more : (n next : ℕ) (o : List ℕ) → is_passed next ≡ true → extension_octets o ≤ length o
    → extensions_at (suc n) next o
    ≡ extensions_at n (get_or o 0 0) (drop (extension_octets o) o)
unfolding extensions_at
step_more n next o passed long =
    ap (λ (b : Bool). cond b
    (cond (ltb (length o) (extension_octets o)) (no (List ℕ) BadIpHeader)
    (extensions_at n (get_or o 0 0) (drop (extension_octets o) o))) (ending next o)) passed
    ∙ ap (λ (b : Bool). cond b (no (List ℕ) BadIpHeader)
    (extensions_at n (get_or o 0 0) (drop (extension_octets o) o)))
    (le-ltb (length o) (extension_octets o) long)

ending_passed : (next : ℕ) (o : List ℕ) → is_passed next ≡ true → ending next o ≡ Err BadIpHeader
ending_passed next o passed =
    ap (λ (b : Bool). cond b (no (List ℕ) BadIpHeader)
    (cond (eqb next udp) (yes o) (cond (eqb next fragment_header) (no (List ℕ) Fragment)
    (no (List ℕ) NotUdp)))) passed

-- the reading ends where no whole extension is next
step_last_at : (n next : ℕ) (o : List ℕ) (b : Bool) → is_passed next ≡ b
    → (b ≡ true → length o < extension_octets o) → extensions_at (suc n) next o ≡ ending next o
unfolding extensions_at
step_last_at n next o true e short =
    ap (λ (b : Bool). cond b
    (cond (ltb (length o) (extension_octets o)) (no (List ℕ) BadIpHeader)
    (extensions_at n (get_or o 0 0) (drop (extension_octets o) o))) (ending next o)) e
    ∙ ap (λ (b : Bool). cond b (no (List ℕ) BadIpHeader)
    (extensions_at n (get_or o 0 0) (drop (extension_octets o) o)))
    (lt-ltb (length o) (extension_octets o) (short refl)) ∙ sym (ending_passed next o e)
step_last_at n next o false e short =
    ap (λ (b : Bool). cond b
    (cond (ltb (length o) (extension_octets o)) (no (List ℕ) BadIpHeader)
    (extensions_at n (get_or o 0 0) (drop (extension_octets o) o))) (ending next o)) e

step_last : (n next : ℕ) (o : List ℕ) → IsLast next o → extensions_at n next o ≡ ending next o
unfolding extensions_at
step_last zero next o last = refl
step_last (suc n) next o last = step_last_at n next o (is_passed next) refl last

-- ---- what leads somewhere is read there

front_octets : (x rest : List ℕ) → length x ≡ extension_octets x
    → extension_octets (x ++ rest) ≡ extension_octets x
front_octets x rest whole =
    ap (λ (n : ℕ). 8 * (n + 1)) (get_or_append_left x rest 0 1 (omega arith))

front_next : (x rest : List ℕ) → length x ≡ extension_octets x
    → get_or (x ++ rest) 0 0 ≡ get_or x 0 0
front_next x rest whole = get_or_append_left x rest 0 0 (omega arith)

goes_at : (n first last : ℕ) (xs : List (List ℕ)) (rest : List ℕ) → AreLinked first xs last
    → IsLast last rest → length (concat xs ++ rest) ≤ n
    → extensions_at n first (concat xs ++ rest) ≡ ending last rest
goes_at n first last [] rest linked is_last few =
    step_last n first rest (subst (λ (k : ℕ). IsLast k rest) (sym linked) is_last)
    ∙ ap (λ (k : ℕ). ending k rest) linked
goes_at zero first last (x ∷ xs) rest linked is_last few =
    absurd (omega (
      arith,
      linked.1,
      length-append x (concat xs),
      length-append (x ++ concat xs) rest,
    ))
goes_at (suc n) first last (x ∷ xs) rest linked is_last few =
    let more : List ℕ = concat xs ++ rest in
    let grouped : concat (x ∷ xs) ++ rest ≡ x ++ more = append_assoc x (concat xs) rest in
    let count : extension_octets (x ++ more) ≡ length x =
    front_octets x more linked.1 ∙ sym linked.1 in
    let fits : extension_octets (x ++ more) ≤ length (x ++ more) =
    omega (arith, length-append x more) in
    let fewer : length more ≤ n =
    omega (
      arith,
      linked.1,
      ap (λ (y : List ℕ). length y) grouped,
      length-append x more,
    ) in
    ap (extensions_at (suc n) first) grouped
    ∙ step_more n first (x ++ more) linked.0 fits
    ∙ ap (λ (k : ℕ). extensions_at n k (drop (extension_octets (x ++ more)) (x ++ more)))
    (front_next x more linked.1)
    ∙ ap (λ (k : ℕ). extensions_at n (get_or x 0 0) (drop k (x ++ more))) count
    ∙ ap (extensions_at n (get_or x 0 0)) (drop_at x more (length x) refl)
    ∙ goes_at n (get_or x 0 0) last xs rest linked.2 is_last fewer

pub goes : (n first last : ℕ) (o rest : List ℕ) → LeadTo first o last rest → IsLast last rest
    → length o ≤ n → extensions_at n first o ≡ ending last rest
goes n first last o rest leads is_last few =
    ap (extensions_at n first) leads.parts
    ∙ goes_at n first last leads.extensions rest leads.linked is_last
    (subst (λ (x : List ℕ). length x ≤ n) leads.parts few)

-- ---- octets lead somewhere

pub record Ends (first : ℕ) (o : List ℕ) : Type 0 where
  pub last : ℕ
  pub rest : List ℕ
  pub leads : LeadTo first o last rest
  pub is_last : IsLast last rest

ends_here : (first : ℕ) (o : List ℕ) → IsLast first o → Ends first o
ends_here first o is_last =
    record {
      last = first;
      rest = o;
      leads = record { extensions = []; linked = refl; parts = refl };
      is_last = is_last;
    }

one_more : (first : ℕ) (o : List ℕ) → is_passed first ≡ true → extension_octets o ≤ length o
    → Ends (get_or o 0 0) (drop (extension_octets o) o) → Ends first o
one_more first o passed long e =
    let k : ℕ = extension_octets o in
    let x : List ℕ = take k o in
    let some : 1 < k = omega arith in
    let same : extension_octets x ≡ k =
    ap (λ (n : ℕ). 8 * (n + 1)) (get_or-take k o 1 0 some) in
    let next : get_or x 0 0 ≡ get_or o 0 0 = get_or-take k o 0 0 (omega arith) in
    record {
      last = e.last;
      rest = e.rest;
      leads = record {
        extensions = x ∷ e.leads.extensions;
        linked = (
          passed,
          length-take-le k o long ∙ sym same,
          subst (λ (n : ℕ). AreLinked n e.leads.extensions e.last) (sym next) e.leads.linked,
        );
        parts =
            sym (take-append-drop k o) ∙ ap (λ (y : List ℕ). x ++ y) e.leads.parts
            ∙ sym (append_assoc x (concat e.leads.extensions) e.rest);
      };
      is_last = e.is_last;
    }

ends_by : (n first : ℕ) (o : List ℕ) (p b : Bool) → length o ≤ suc n → is_passed first ≡ p
    → ltb (length o) (extension_octets o) ≡ b
    → ((k : ℕ) (q : List ℕ) → length q ≤ n → Ends k q) → Ends first o
ends_by n first o false b few ep eb later =
    ends_here first o (λ passed. absurd (both_ways (is_passed first) ep passed))
ends_by n first o true true few ep eb later =
    ends_here first o (λ _. ltb-true (length o) (extension_octets o) eb)
ends_by n first o true false few ep eb later =
    let long : extension_octets o ≤ length o = ltb-false (length o) (extension_octets o) eb in
    one_more first o ep long
    (later (get_or o 0 0) (drop (extension_octets o) o)
    (omega (arith, length-drop (extension_octets o) o)))

ends_up_to : (n first : ℕ) (o : List ℕ) → length o ≤ n → Ends first o
ends_up_to zero first o few = ends_here first o (λ _. omega arith)
ends_up_to (suc n) first o few =
    ends_by n first o (is_passed first) (ltb (length o) (extension_octets o)) few refl refl
    (λ k q fewer. ends_up_to n k q fewer)

pub ends : (first : ℕ) (o : List ℕ) → Ends first o
ends first o = ends_up_to (length o) first o (omega arith)

-- more extensions than there are octets are never met
pub enough : (n first : ℕ) (o : List ℕ) → length o ≤ n → extensions_at n first o ≡ carried_at first
    o
enough n first o few =
    let e = ends first o in
    goes n first e.last o e.rest e.leads e.is_last few
    ∙ sym (goes (length o) first e.last o e.rest e.leads e.is_last (omega arith))

-- ---- what is told at the end

abbrev ends_as : Bool → Bool → Bool → List ℕ → Result (List ℕ) NoDatagram
ends_as p u f rest =
    cond p (Err BadIpHeader) (cond u (Ok rest) (cond f (Err Fragment) (Err NotUdp)))

same_end : (p u f q v g : Bool) (rest : List ℕ) → p ≡ q → u ≡ v → f ≡ g
    → ends_as p u f rest ≡ ends_as q v g rest
same_end p u f q v g rest a b c =
    ap (λ (x : Bool). ends_as x u f rest) a ∙ ap (λ (x : Bool). ends_as q x f rest) b
    ∙ ap (λ (x : Bool). ends_as q v x rest) c

-- what the octets are read as, by what stands at the end
abbrev pub Told : ℕ → List ℕ → Result (List ℕ) NoDatagram → Type 0
Told first o (Ok rest) = LeadTo first o udp rest
Told first o (Err CutShort) = ⊥
Told first o (Err NotIp) = ⊥
Told first o (Err BadIpHeader) =
    (last : ℕ) × (rest : List ℕ) × LeadTo first o last rest × (is_passed last ≡ true)
    × (length rest < extension_octets rest)
Told first o (Err NotUdp) =
    (last : ℕ) × (rest : List ℕ) × LeadTo first o last rest × (is_passed last ≡ false)
    × (last ≡ udp → ⊥) × (last ≡ fragment_header → ⊥)
Told first o (Err Fragment) = (rest : List ℕ) × LeadTo first o fragment_header rest
Told first o (Err BadUdpLength) = ⊥

told_by : (first : ℕ) (o : List ℕ) (last : ℕ) (rest : List ℕ) (p u f : Bool)
    → LeadTo first o last rest → IsLast last rest → is_passed last ≡ p → eqb last udp ≡ u
    → eqb last fragment_header ≡ f → Told first o (ends_as p u f rest)
told_by first o last rest true u f leads is_last ep eu ef = (last, rest, leads, ep, is_last ep)
told_by first o last rest false true f leads is_last ep eu ef =
    subst (λ (k : ℕ). LeadTo first o k rest) (eqb-true last udp eu) leads
told_by first o last rest false false true leads is_last ep eu ef =
    (rest, subst (λ (k : ℕ). LeadTo first o k rest) (eqb-true last fragment_header ef) leads)
told_by first o last rest false false false leads is_last ep eu ef =
    (last, rest, leads, ep, eqb-false last udp eu, eqb-false last fragment_header ef)

pub carried_told : (first : ℕ) (o : List ℕ) → Told first o (carried_at first o)
carried_told first o =
    let e = ends first o in
    subst (Told first o)
    (sym (goes (length o) first e.last o e.rest e.leads e.is_last (omega arith)))
    (told_by first o e.last e.rest (is_passed e.last) (eqb e.last udp)
    (eqb e.last fragment_header) e.leads e.is_last refl refl refl)

passed_last : (last : ℕ) (rest : List ℕ) → is_passed last ≡ false → IsLast last rest
passed_last last rest e passed = absurd (both_ways (is_passed last) e passed)

at_end : (first last : ℕ) (o rest : List ℕ) (p u f : Bool) → LeadTo first o last rest
    → IsLast last rest → is_passed last ≡ p → eqb last udp ≡ u → eqb last fragment_header ≡ f
    → carried_at first o ≡ ends_as p u f rest
at_end first last o rest p u f leads is_last ep eu ef =
    goes (length o) first last o rest leads is_last (omega arith)
    ∙ same_end (is_passed last) (eqb last udp) (eqb last fragment_header) p u f rest ep eu ef

pub carried_has : (first : ℕ) (o : List ℕ) (r : Result (List ℕ) NoDatagram) → Told first o r
    → carried_at first o ≡ r
carried_has first o (Ok rest) leads =
    at_end first udp o rest false true false leads (passed_last udp rest refl) refl refl refl
carried_has first o (Err CutShort) t = absurd t
carried_has first o (Err NotIp) t = absurd t
carried_has first o (Err BadIpHeader) t =
    at_end first t.0 o t.1 true (eqb t.0 udp) (eqb t.0 fragment_header) t.2 (λ _. t.4) t.3 refl
    refl
carried_has first o (Err NotUdp) t =
    at_end first t.0 o t.1 false false false t.2 (passed_last t.0 t.1 t.3) t.3
    (ne_eqb t.0 udp t.4) (ne_eqb t.0 fragment_header t.5)
carried_has first o (Err Fragment) t =
    at_end first fragment_header o t.0 false false true t.1
    (passed_last fragment_header t.0 refl) refl refl refl
carried_has first o (Err BadUdpLength) t = absurd t

-- ---- the loop of the code

pub code_more : (next : ℕ) (o after : List ℕ) → is_passed next ≡ true
    → extension_octets o ≤ length o → after ≡ drop (extension_octets o) o
    → carried_at (get_or o 0 0) after ≡ carried_at next o
code_more next o after passed long is =
    let k : ℕ = extension_octets o in
    ap (carried_at (get_or o 0 0)) is
    ∙ sym (enough (length o) (get_or o 0 0) (drop k o) (omega (arith, length-drop k o)))
    ∙ sym (step_more (length o) next o passed long)
    ∙ enough (suc (length o)) next o (omega arith)

pub code_bad : (next : ℕ) (o : List ℕ) → is_passed next ≡ true → length o < extension_octets o
    → carried_at next o ≡ Err BadIpHeader
code_bad next o passed short =
    step_last (length o) next o (λ _. short) ∙ ending_passed next o passed

pub code_last : (next : ℕ) (o : List ℕ) → is_passed next ≡ false
    → carried_at next o ≡ ending next o
code_last next o e = step_last (length o) next o (passed_last next o e)
