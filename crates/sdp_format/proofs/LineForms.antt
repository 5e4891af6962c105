-- Media lines and attribute lines: what reading them gives is what stands in them.
use Rattle.std.proofs.Common.{◌≡◌, ℕ, ◌≤◌, Bool, true, false, not, cond, ◌&&◌, List, [], ◌∷◌, ◌++◌}
use Rattle.std.proofs.Common.{length, drop, Option, Some, None, refl, ap, ◌∙◌, sym, arith, codes}
use Rattle.std.specs.Prelude.{◌==◌, nat_le, is_some}
use Rattle.std.specs.List.{list_all, join_with_byte}
use Rattle.std.specs.Str.{bytes_eq}
use Rattle.std.specs.Char.{is_ascii_digit}
use Rattle.std.specs.Str.Parse.{digits_value}
use Rattle.std.proofs.lemmas.List.{length-append, append_assoc}
use Rattle.std.proofs.lemmas.List.Elements.{All-nil, All-cons, All-head, All-tail}
use Rattle.std.proofs.lemmas.List.Splits.{join_with_byte-slice_split}
use Rattle.std.proofs.lemmas.Bool.Decides.{Decides-eqb, nat_tests}
use Rattle.std.proofs.Math.Seq.{drop-append_seam}
use Rattle.sdp_format.specs.Bytes.{is_space, trim_end, unless_spaces, at_most}
use Rattle.st_format.specs.Words.{number, is_number}
use Rattle.st_format.specs.Forms.{number_pair}
use Rattle.st_format.proofs.Decimals.{and_parts}
use Rattle.sdp_format.specs.Bytes.{front, behind, split, split_left, begins_with, attribute}
use Rattle.sdp_format.specs.Bytes.{behind_number, is_equal}
use Rattle.sdp_format.specs.Reading.{media_of, media_of_parts, first_attribute}
use Rattle.sdp_format.specs.Grammar.{IsMediaLine, IsAttribute, HasNone, IsFirst}
use Rattle.sdp_format.proofs.Members.{not_both}
use Rattle.sdp_format.proofs.Doubles.{bytes_same}
use Rattle.sdp_format.proofs.Said.{not_none}
use Rattle.sdp_format.proofs.Parts.{front_here, front_later, behind_here, behind_later, next_part}
use Rattle.sdp_format.proofs.Again.{is_word, trim_end_word, cut_at, not_true}
use Rattle.sdp_format.proofs.Line.{digit_word, digit_space, all_so}
use Rattle.sdp_format.proofs.ItemFaults.{to_word, from_word}

pub same_some : {A : Type 0} (x y : A) → Some x ≡ Some y → x ≡ y
same_some x y e = cc

cond_some : {A : Type 0} (t : Bool) (o : Option A) (x : A) → cond t o None ≡ Some x
    → (t ≡ true) × (o ≡ Some x)
cond_some true o x e = (refl, e)
cond_some false o x e = absurd (not_none x (sym e))

-- the bytes of a number are digits, at least one
number_text : (text : List ℕ) (n : ℕ) → number text ≡ Some n → is_number text ≡ true
unfolding number
number_text text n e = (cond_some (is_number text) (Some (digits_value 10 text)) n e).0

number_digits : (text : List ℕ) (n : ℕ) → number text ≡ Some n → list_all is_ascii_digit text ≡ true
number_digits text n e =
    let whole =
    and_parts (nat_le 1 (length text) && nat_le (length text) 10
    && list_all is_ascii_digit text) (nat_le (digits_value 10 text) 4294967295)
    (number_text text n e) in
    (and_parts (nat_le 1 (length text) && nat_le (length text) 10)
    (list_all is_ascii_digit text) whole.0).1

at_least : (k : ℕ) → nat_le 1 k ≡ true → 1 ≤ k
at_least k e = grind (arith, nat_tests)

number_some : (text : List ℕ) (n : ℕ) → number text ≡ Some n → 1 ≤ length text
number_some text n e =
    let whole =
    and_parts (nat_le 1 (length text) && nat_le (length text) 10
    && list_all is_ascii_digit text) (nat_le (digits_value 10 text) 4294967295)
    (number_text text n e) in
    let front =
    and_parts (nat_le 1 (length text) && nat_le (length text) 10)
    (list_all is_ascii_digit text) whole.0 in
    at_least (length text) (and_parts (nat_le 1 (length text)) (nat_le (length text) 10) front.0).0

no_space : (text : List ℕ) (n : ℕ) → number text ≡ Some n
    → list_all (λ c. not (c == 32)) text ≡ true
no_space text n e =
    all_so is_ascii_digit (λ c. not (c == 32)) digit_space text (number_digits text n e)

-- spaces at the end
blank_by : (b : ℕ) (bs spaces : List ℕ) (t : Bool) → is_space b ≡ t → bs ≡ spaces
    → list_all is_space spaces ≡ true
    → (off : List ℕ) × (b ∷ bs ≡ cond t [] (b ∷ []) ++ off) × (list_all is_space off ≡ true)
blank_by b bs spaces true s e a = (b ∷ spaces, ap (λ zs. b ∷ zs) e, rw (s, a) refl)
blank_by b bs spaces false s e a = (spaces, ap (λ zs. b ∷ zs) e, a)

off_by : (b : ℕ) (bs core spaces : List ℕ) → bs ≡ core ++ spaces → list_all is_space spaces ≡ true
    → (off : List ℕ) × (b ∷ bs ≡ unless_spaces b core ++ off) × (list_all is_space off ≡ true)
off_by b bs [] spaces e a = blank_by b bs spaces (is_space b) refl e a
off_by b bs (c ∷ cs) spaces e a = (spaces, ap (λ zs. b ∷ zs) e, a)

pub trim_off : (line : List ℕ)
    → (off : List ℕ) × (line ≡ trim_end line ++ off) × (list_all is_space off ≡ true)
trim_off [] = ([], refl, refl)
trim_off (b ∷ bs) = let r = trim_off bs in off_by b bs (trim_end bs) r.0 r.1 r.2

blank_end : (spaces : List ℕ) → list_all is_space spaces ≡ true → trim_end spaces ≡ []
blank_end [] a = refl
blank_end (b ∷ bs) a =
    let h = and_parts (is_space b) (list_all is_space bs) a in
    ap (unless_spaces b) (blank_end bs h.1) ∙ ap (λ t. cond t [] (b ∷ [])) h.0

trim_blank : (xs spaces : List ℕ) → list_all is_space spaces ≡ true
    → trim_end (xs ++ spaces) ≡ trim_end xs
trim_blank [] spaces a = blank_end spaces a
trim_blank (x ∷ xs) spaces a = ap (unless_spaces x) (trim_blank xs spaces a)

unless_some : (b : ℕ) (ys : List ℕ) → 1 ≤ length ys → unless_spaces b ys ≡ b ∷ ys
unless_some b [] h = absurd (omega arith)
unless_some b (y ∷ ys) h = refl

pub trim_solid : (xs word : List ℕ) → list_all is_word word ≡ true → 1 ≤ length word
    → trim_end (xs ++ word) ≡ xs ++ word
trim_solid [] word a h = trim_end_word word a
trim_solid (x ∷ xs) word a h =
    ap (unless_spaces x) (trim_solid xs word a h)
    ∙ unless_some x (xs ++ word) (omega (arith, length-append xs word))

-- a text split behind bytes that are not the one looked for
split_at : (b : ℕ) (xs ys : List ℕ) → list_all (λ c. not (c == b)) xs ≡ true → (b == b) ≡ true
    → split b (xs ++ b ∷ ys) ≡ xs ∷ split b ys
split_at b xs ys a r =
    let c : (front b (xs ++ b ∷ ys) ≡ xs) × (behind b (xs ++ b ∷ ys) ≡ Some ys) =
    cut_at b xs ys a r in
    next_part b (xs ++ b ∷ ys) ∙ ap (λ z. z ∷ split_left b (behind b (xs ++ b ∷ ys))) c.0
    ∙ ap (λ z. xs ∷ split_left b z) c.1

split_end : (b : ℕ) (xs : List ℕ) → list_all (λ c. not (c == b)) xs ≡ true → split b xs ≡ xs ∷ []
split_end b [] a = refl
split_end b (x ∷ xs) a =
    let h = and_parts (not (x == b)) (list_all (λ c. not (c == b)) xs) a in
    rw (not_true (x == b) h.0, split_end b xs h.1) refl

-- MEDIA LINES

-- the four words of a media line
record Words (parts : List (List ℕ)) (m : ℕ × ℕ) : Type 0 where
  port_text : List ℕ
  type_text : List ℕ
  whole : parts ≡ codes "m=video" ∷ port_text ∷ codes "RTP/AVP" ∷ type_text ∷ []
  port : at_most 65535 (number port_text) ≡ Some m.0
  type : at_most 127 (number type_text) ≡ Some m.1

both_some : (a b : Option ℕ) (m : ℕ × ℕ) → number_pair a b ≡ Some m → (a ≡ Some m.0)
    × (b ≡ Some m.1)
both_some None b m e = absurd (not_none m (sym e))
both_some (Some x) None m e = absurd (not_none m (sym e))
both_some (Some x) (Some y) m e = let h : (x, y) ≡ m =
    same_some (x, y) m e in (ap (λ (p : ℕ × ℕ). Some p.0) h, ap (λ (p : ℕ × ℕ). Some p.1) h)

words_of : (parts : List (List ℕ)) (m : ℕ × ℕ) → media_of_parts parts ≡ Some m → Words parts m
words_of [] m e = absurd (not_none m (sym e))
words_of (a ∷ []) m e = absurd (not_none m (sym e))
words_of (a ∷ b ∷ []) m e = absurd (not_none m (sym e))
words_of (a ∷ b ∷ c ∷ []) m e = absurd (not_none m (sym e))
words_of (a ∷ port ∷ profile ∷ type ∷ []) m e =
    let t =
    cond_some (bytes_eq a (codes "m=video") && bytes_eq profile (codes "RTP/AVP"))
    (number_pair (at_most 65535 (number port)) (at_most 127 (number type))) m e in
    let w = and_parts (bytes_eq a (codes "m=video")) (bytes_eq profile (codes "RTP/AVP")) t.0 in
    let b = both_some (at_most 65535 (number port)) (at_most 127 (number type)) m t.1 in
    record {
      port_text = port;
      type_text = type;
      whole =
          ap (λ z. z ∷ port ∷ profile ∷ type ∷ []) (bytes_same a (codes "m=video") w.0)
          ∙ ap (λ z. codes "m=video" ∷ port ∷ z ∷ type ∷ [])
          (bytes_same profile (codes "RTP/AVP") w.1);
      port = b.0;
      type = b.1;
    }
words_of (a ∷ b ∷ c ∷ d ∷ f ∷ fs) m e = absurd (not_none m (sym e))

most_by : (limit k n : ℕ) (t : Bool) → nat_le k limit ≡ t → cond t (Some k) None ≡ Some n
    → (k ≡ n) × (n ≤ limit)
most_by limit k n true h e = let s : k ≡ n =
    same_some k n e in (s, rw (← s) (grind (arith, nat_tests)))
most_by limit k n false h e = absurd (not_none n (sym e))

most_is : (limit : ℕ) (o : Option ℕ) (n : ℕ) → at_most limit o ≡ Some n → (o ≡ Some n) × (n ≤ limit)
most_is limit None n e = absurd (not_none n (sym e))
most_is limit (Some k) n e = let r =
    most_by limit k n (nat_le k limit) refl e in (ap (λ (z : ℕ). Some z) r.0, r.1)

most_of : (limit n : ℕ) → n ≤ limit → at_most limit (Some n) ≡ Some n
most_of limit n h = let t : nat_le n limit ≡ true =
    grind (arith, nat_tests) in ap (λ b. cond b (Some n) None) t

regroup : (p t off : List ℕ)
    → (codes "m=video" ++ 32 ∷ (p ++ 32 ∷ (codes "RTP/AVP" ++ 32 ∷ t))) ++ off
    ≡ codes "m=video " ++ p ++ codes " RTP/AVP " ++ t ++ off
regroup p t off = simp append_assoc

pub media_says : (line : List ℕ) (m : ℕ × ℕ) → media_of line ≡ Some m → IsMediaLine line m.0 m.1
unfolding media_of
media_says line m e =
    let w = words_of (split 32 (trim_end line)) m e in
    let r = trim_off line in
    let p = most_is 65535 (number w.port_text) m.0 w.port in
    let t = most_is 127 (number w.type_text) m.1 w.type in
    let joined : trim_end line
    ≡ codes "m=video" ++ 32 ∷ (w.port_text ++ 32 ∷ (codes "RTP/AVP" ++ 32 ∷ w.type_text)) =
    sym (join_with_byte-slice_split 32 (trim_end line)) ∙ ap (join_with_byte 32) w.whole in
    record {
      port_text = w.port_text;
      type_text = w.type_text;
      spaces = r.0;
      whole = r.1 ∙ ap (λ z. z ++ r.0) joined ∙ regroup w.port_text w.type_text r.0;
      is_port = p.0;
      most_port = p.1;
      is_type = t.0;
      most_type = t.1;
      blank = r.2;
    }

solid : (p t : List ℕ) (n : ℕ) → number t ≡ Some n
    → trim_end (codes "m=video" ++ 32 ∷ (p ++ 32 ∷ (codes "RTP/AVP" ++ 32 ∷ t)))
    ≡ codes "m=video" ++ 32 ∷ (p ++ 32 ∷ (codes "RTP/AVP" ++ 32 ∷ t))
solid p t n e =
    let front : List ℕ = codes "m=video " ++ p ++ codes " RTP/AVP " in
    let whole : codes "m=video" ++ 32 ∷ (p ++ 32 ∷ (codes "RTP/AVP" ++ 32 ∷ t))
    ≡ (codes "m=video " ++ p ++ codes " RTP/AVP ") ++ t = simp append_assoc in
    ap trim_end whole
    ∙ trim_solid (codes "m=video " ++ p ++ codes " RTP/AVP ") t
    (all_so is_ascii_digit is_word digit_word t (number_digits t n e)) (number_some t n e)
    ∙ sym whole

four : (p t : List ℕ) (m n : ℕ) → number p ≡ Some m → number t ≡ Some n
    → split 32 (codes "m=video" ++ 32 ∷ (p ++ 32 ∷ (codes "RTP/AVP" ++ 32 ∷ t)))
    ≡ codes "m=video" ∷ p ∷ codes "RTP/AVP" ∷ t ∷ []
four p t m n e f =
    split_at 32 (codes "m=video") (p ++ 32 ∷ (codes "RTP/AVP" ++ 32 ∷ t)) refl refl
    ∙ ap (λ z. codes "m=video" ∷ z)
    (split_at 32 p (codes "RTP/AVP" ++ 32 ∷ t) (no_space p m e) refl
    ∙ ap (λ z. p ∷ z)
    (split_at 32 (codes "RTP/AVP") t refl refl
    ∙ ap (λ z. codes "RTP/AVP" ∷ z) (split_end 32 t (no_space t n f))))

pub says_media : (line : List ℕ) (port type : ℕ) → IsMediaLine line port type
    → media_of line ≡ Some (port, type)
unfolding media_of
says_media line port type i =
    let whole : line
    ≡ (codes "m=video" ++ 32 ∷ (i.port_text ++ 32 ∷ (codes "RTP/AVP" ++ 32 ∷ i.type_text)))
    ++ i.spaces = i.whole ∙ sym (regroup i.port_text i.type_text i.spaces) in
    let cut : trim_end line
    ≡ codes "m=video" ++ 32 ∷ (i.port_text ++ 32 ∷ (codes "RTP/AVP" ++ 32 ∷ i.type_text)) =
    ap trim_end whole
    ∙ trim_blank
    (codes "m=video" ++ 32 ∷
    (i.port_text ++ 32 ∷ (codes "RTP/AVP" ++ 32 ∷ i.type_text))) i.spaces i.blank
    ∙ solid i.port_text i.type_text type i.is_type in
    ap (λ z. media_of_parts (split 32 z)) cut
    ∙ ap media_of_parts (four i.port_text i.type_text port type i.is_port i.is_type)
    ∙ ap (λ z. number_pair (at_most 65535 z) (at_most 127 (number i.type_text))) i.is_port
    ∙ ap (λ z. number_pair (at_most 65535 (Some port)) (at_most 127 z)) i.is_type
    ∙ ap (λ z. number_pair z (at_most 127 (Some type))) (most_of 65535 port i.most_port)
    ∙ ap (λ z. number_pair (Some port) z) (most_of 127 type i.most_type)

pub media_once : (line : List ℕ) (p t q u : ℕ) → IsMediaLine line p t → IsMediaLine line q u
    → (p ≡ q) × (t ≡ u)
media_once line p t q u i j =
    let e : (p, t) ≡ (q, u) =
    same_some (p, t) (q, u) (sym (says_media line p t i) ∙ says_media line q u j) in
    (ap (λ (x : ℕ × ℕ). x.0) e, ap (λ (x : ℕ × ℕ). x.1) e)

-- ATTRIBUTES

cut_by : (b c : ℕ) (cs rest : List ℕ) (t : Bool) → (c == b) ≡ t
    → (behind b cs ≡ Some rest → cs ≡ front b cs ++ b ∷ rest) → behind b (c ∷ cs) ≡ Some rest
    → c ∷ cs ≡ front b (c ∷ cs) ++ b ∷ rest
cut_by b c cs rest true e h f =
    let same : c ≡ b = (Decides-eqb c b).0 e in
    let left : cs ≡ rest = same_some cs rest (sym (behind_here b c cs e) ∙ f) in
    ap (λ z. z ∷ cs) same ∙ ap (λ z. b ∷ z) left
    ∙ ap (λ z. z ++ b ∷ rest) (sym (front_here b c cs e))
cut_by b c cs rest false e h f =
    ap (λ z. c ∷ z) (h (sym (behind_later b c cs e) ∙ f))
    ∙ ap (λ z. z ++ b ∷ rest) (sym (front_later b c cs e))

cut_whole : (b : ℕ) (text rest : List ℕ) → behind b text ≡ Some rest
    → text ≡ front b text ++ b ∷ rest
cut_whole b [] rest e = absurd (not_none rest (sym e))
cut_whole b (c ∷ cs) rest e = cut_by b c cs rest (c == b) refl (cut_whole b cs rest) e

equal_is : (o : Option ℕ) (n : ℕ) → is_equal o n ≡ true → o ≡ Some n
equal_is None n e = absurd (not_both false e refl)
equal_is (Some m) n e = ap (λ (z : ℕ). Some z) ((Decides-eqb m n).0 e)

equal_self : (n : ℕ) → is_equal (Some n) n ≡ true
equal_self n = (Decides-eqb n n).1 refl

pub attribute_says : (word : List ℕ) (n : ℕ) (line rest : List ℕ)
    → attribute word n line ≡ Some rest → IsAttribute line word n rest
unfolding attribute
attribute_says word n line rest e =
    let text : List ℕ = drop (length word) line in
    let a = cond_some (begins_with word line) (behind_number n (drop (length word) line)) rest e in
    let b =
    cond_some (is_equal (number (front 32 (drop (length word) line))) n)
    (behind 32 (drop (length word) line)) rest a.1 in
    record {
      digits = front 32 (drop (length word) line);
      whole =
          to_word word line a.0
          ∙ ap (λ z. word ++ z) (cut_whole 32 (drop (length word) line) rest b.1)
          ∙ sym (append_assoc word (front 32 (drop (length word) line)) (32 ∷ rest));
      is_type = equal_is (number (front 32 (drop (length word) line))) n b.0;
    }

pub says_attribute : (word : List ℕ) (n : ℕ) (line rest : List ℕ) → IsAttribute line word n rest
    → attribute word n line ≡ Some rest
unfolding attribute
says_attribute word n line rest i =
    let whole : line ≡ word ++ (i.digits ++ 32 ∷ rest) =
    i.whole ∙ append_assoc word i.digits (32 ∷ rest) in
    let behind_word : drop (length word) line ≡ i.digits ++ 32 ∷ rest =
    ap (drop (length word)) whole ∙ drop-append_seam word (i.digits ++ 32 ∷ rest) in
    let c : (front 32 (i.digits ++ 32 ∷ rest) ≡ i.digits)
    × (behind 32 (i.digits ++ 32 ∷ rest) ≡ Some rest) =
    cut_at 32 i.digits rest (no_space i.digits n i.is_type) refl in
    ap (λ t. cond t (behind_number n (drop (length word) line)) None)
    (from_word word line (i.digits ++ 32 ∷ rest) whole)
    ∙ ap (behind_number n) behind_word
    ∙ ap (λ z. cond (is_equal (number z) n) (behind 32 (i.digits ++ 32 ∷ rest)) None) c.0
    ∙ ap (λ z. cond (is_equal z n) (behind 32 (i.digits ++ 32 ∷ rest)) None) i.is_type
    ∙ ap (λ t. cond t (behind 32 (i.digits ++ 32 ∷ rest)) None) (equal_self n)
    ∙ c.1

-- a line that is no such attribute
abbrev Free : List ℕ → ℕ → List ℕ → Type 0
Free word n line = (rest : List ℕ) → IsAttribute line word n rest → ⊥

no_attribute : (word : List ℕ) (n : ℕ) (line : List ℕ) → attribute word n line ≡ None
    → (rest : List ℕ) → IsAttribute line word n rest → ⊥
no_attribute word n line e rest i = not_none rest (sym (says_attribute word n line rest i) ∙ e)

none_by : (word : List ℕ) (n : ℕ) (line : List ℕ) (o : Option (List ℕ)) → attribute word n line ≡ o
    → ((rest : List ℕ) → IsAttribute line word n rest → ⊥) → o ≡ None
none_by word n line None e h = refl
none_by word n line (Some x) e h = absurd (h x (attribute_says word n line x e))

attribute_none : (word : List ℕ) (n : ℕ) (line : List ℕ)
    → ((rest : List ℕ) → IsAttribute line word n rest → ⊥) → attribute word n line ≡ None
attribute_none word n line h = none_by word n line (attribute word n line) refl h

-- THE FIRST OF THEM

first_by : (word : List ℕ) (n : ℕ) (l : List ℕ) (ls : List (List ℕ)) (rest : List ℕ)
    (o : Option (List ℕ)) → attribute word n l ≡ o
    → (first_attribute word n ls ≡ Some rest → IsFirst ls word n rest)
    → cond (is_some o) o (first_attribute word n ls) ≡ Some rest → IsFirst (l ∷ ls) word n rest
first_by word n l ls rest None e h f =
    let r = h f in
    record {
      before = l ∷ r.before;
      line = r.line;
      after = r.after;
      whole =
          ap (λ z. l ∷ z) r.whole;
      none =
          All-cons (Free word n) l r.before (no_attribute word n l e) r.none;
      first = r.first;
    }
first_by word n l ls rest (Some x) e h f =
    record {
      before = [];
      line = l;
      after = ls;
      whole = refl;
      none = All-nil (Free word n);
      first =
          attribute_says word n l rest (e ∙ f);
    }

pub first_says : (word : List ℕ) (n : ℕ) (lines : List (List ℕ)) (rest : List ℕ)
    → first_attribute word n lines ≡ Some rest → IsFirst lines word n rest
first_says word n [] rest e = absurd (not_none rest (sym e))
first_says word n (l ∷ ls) rest e =
    first_by word n l ls rest (attribute word n l) refl (first_says word n ls rest) e

lacking_by : (word : List ℕ) (n : ℕ) (l : List ℕ) (ls : List (List ℕ)) (o : Option (List ℕ))
    → attribute word n l ≡ o
    → (first_attribute word n ls ≡ None → HasNone ls word n)
    → cond (is_some o) o (first_attribute word n ls) ≡ None → HasNone (l ∷ ls) word n
lacking_by word n l ls None e h f = All-cons (Free word n) l ls (no_attribute word n l e) (h f)
lacking_by word n l ls (Some x) e h f = absurd (not_none x f)

pub none_says : (word : List ℕ) (n : ℕ) (lines : List (List ℕ))
    → first_attribute word n lines ≡ None → HasNone lines word n
none_says word n [] e = All-nil (Free word n)
none_says word n (l ∷ ls) e =
    lacking_by word n l ls (attribute word n l) refl (none_says word n ls) e

pub says_none : (word : List ℕ) (n : ℕ) (lines : List (List ℕ)) → HasNone lines word n
    → first_attribute word n lines ≡ None
says_none word n [] h = refl
says_none word n (l ∷ ls) h =
    ap (λ o. cond (is_some o) o (first_attribute word n ls))
    (attribute_none word n l (All-head (Free word n) l ls h))
    ∙ says_none word n ls (All-tail (Free word n) l ls h)

first_at : (word : List ℕ) (n : ℕ) (before : List (List ℕ)) (line : List ℕ) (after : List (List ℕ))
    (rest : List ℕ) → HasNone before word n → attribute word n line ≡ Some rest
    → first_attribute word n (before ++ line ∷ after) ≡ Some rest
first_at word n [] line after rest h e =
    ap (λ o. cond (is_some o) o (first_attribute word n after)) e
first_at word n (l ∷ ls) line after rest h e =
    ap (λ o. cond (is_some o) o (first_attribute word n (ls ++ line ∷ after)))
    (attribute_none word n l (All-head (Free word n) l ls h))
    ∙ first_at word n ls line after rest (All-tail (Free word n) l ls h) e

pub says_first : (word : List ℕ) (n : ℕ) (lines : List (List ℕ)) (rest : List ℕ)
    → IsFirst lines word n rest → first_attribute word n lines ≡ Some rest
says_first word n lines rest i =
    ap (first_attribute word n) i.whole
    ∙ first_at word n i.before i.line i.after rest i.none
    (says_attribute word n i.line rest i.first)
