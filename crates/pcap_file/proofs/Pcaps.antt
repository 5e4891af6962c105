-- What stands before the packets of a pcap file.
use Rattle.std.proofs.Common.{◌≡◌, ℕ, ◌%◌, ◌^◌, ◌⊎◌, inl, inr, Bool, true, false, cond}
use Rattle.std.proofs.Common.{not, eqb, ◌||◌}
use Rattle.std.proofs.Common.{List, take, Option, Some, None, Result, Ok, Err, refl, ap}
use Rattle.std.proofs.Common.{◌∙◌, ◌↔◌, arith}
use Rattle.std.specs.Int.{w32, from_be_bytes, from_le_bytes}
use Rattle.std.proofs.lemmas.Bool.{eqb-true, eqb-false, eq-eqb, ne_eqb, or_left, or_right}
use Rattle.st_format.specs.Device.{AreOctets}
use Rattle.st_format.proofs.Octets.{AreOctets-take}
use Rattle.pcap_file.specs.declared.fault.RecordingFault.{RecordingFault}
use Rattle.pcap_file.specs.declared.fault.RecordingFault.TheVariants.{BadMagic, BadVersion, Packed}
use Rattle.pcap_file.specs.declared.order.ByteOrder.{ByteOrder}
use Rattle.pcap_file.specs.declared.order.ByteOrder.TheVariants.{Big, Little}
use Rattle.pcap_file.specs.declared.pcap.PcapHead.{PcapHead}
use Rattle.pcap_file.specs.Orders.{long_at, short_at}
use Rattle.pcap_file.specs.Pcap.{IsBadMagic, IsBadVersion, IsGzipped, LacksMagic, gzip_number}
use Rattle.pcap_file.specs.Pcap.{is_packed, magic_number, magic_of, pcap_head_by, pcap_head_of}

abbrev micro : ℕ
micro = 0xa1b2_c3d4

abbrev nano : ℕ
nano = 0xa1b2_3c4d

abbrev pub Kind : Type 0
Kind = ByteOrder × Bool

abbrev kinds : Bool → Bool → Bool → Bool → Option Kind
kinds a b c d =
    cond a (Some (Big, false)) (cond b (Some (Big, true))
    (cond c (Some (Little, false)) (cond d (Some (Little, true)) None)))

same_kinds : (a b c d k l m n : Bool) → a ≡ k → b ≡ l → c ≡ m → d ≡ n
    → kinds a b c d ≡ kinds k l m n
same_kinds a b c d k l m n p q r s =
    ap (λ (x : Bool). kinds x b c d) p ∙ ap (λ (x : Bool). kinds k x c d) q
    ∙ ap (λ (x : Bool). kinds k l x d) r ∙ ap (λ (x : Bool). kinds k l m x) s

-- the four tests
tested : (o : List ℕ) (a b c d : Bool) → eqb (long_at Big 0 o) micro ≡ a
    → eqb (long_at Big 0 o) nano ≡ b → eqb (long_at Little 0 o) micro ≡ c
    → eqb (long_at Little 0 o) nano ≡ d → magic_of o ≡ kinds a b c d
tested o a b c d ea eb ec ed =
    same_kinds (eqb (long_at Big 0 o) micro) (eqb (long_at Big 0 o) nano)
    (eqb (long_at Little 0 o) micro) (eqb (long_at Little 0 o) nano) a b c d ea eb ec ed

none_magic : (o : List ℕ) → LacksMagic o → magic_of o ≡ None
none_magic o is =
    tested o false false false false (ne_eqb (long_at Big 0 o) micro (is Big false))
    (ne_eqb (long_at Big 0 o) nano (is Big true))
    (ne_eqb (long_at Little 0 o) micro (is Little false))
    (ne_eqb (long_at Little 0 o) nano (is Little true))

-- the two orders of one number's octets don't both begin a file
apart : (t : List ℕ) (m n : ℕ) → AreOctets t → (m ≡ micro) ⊎ (m ≡ nano)
    → (n ≡ micro) ⊎ (n ≡ nano) → from_be_bytes w32 t ≡ m → from_le_bytes w32 t ≡ n → ⊥
apart t m n fit (inl a) (inl b) e f = omega (arith, fit 0, fit 1, fit 2, fit 3)
apart t m n fit (inl a) (inr b) e f = omega (arith, fit 0, fit 1, fit 2, fit 3)
apart t m n fit (inr a) (inl b) e f = omega (arith, fit 0, fit 1, fit 2, fit 3)
apart t m n fit (inr a) (inr b) e f = omega (arith, fit 0, fit 1, fit 2, fit 3)

magics : (n : Bool) → (magic_number n ≡ micro) ⊎ (magic_number n ≡ nano)
magics true = inr refl
magics false = inl refl

not_big : (o : List ℕ) (n : Bool) (m : ℕ) → AreOctets o → long_at Little 0 o ≡ magic_number n
    → (m ≡ micro) ⊎ (m ≡ nano) → eqb (long_at Big 0 o) m ≡ false
not_big o n m fit e is =
    ne_eqb (long_at Big 0 o) m
    (λ f. apart (take 4 o) m (magic_number n) (AreOctets-take 4 o fit) is (magics n) f e)

pub some_magic : (o : List ℕ) (order : ByteOrder) (n : Bool) → AreOctets o
    → long_at order 0 o ≡ magic_number n → magic_of o ≡ Some (order, n)
some_magic o Big false fit e =
    tested o true (eqb (long_at Big 0 o) nano) (eqb (long_at Little 0 o) micro)
    (eqb (long_at Little 0 o) nano) (eq-eqb (long_at Big 0 o) micro e) refl refl refl
some_magic o Big true fit e =
    tested o false true (eqb (long_at Little 0 o) micro) (eqb (long_at Little 0 o) nano)
    (ne_eqb (long_at Big 0 o) micro (λ f. absurd (omega arith)))
    (eq-eqb (long_at Big 0 o) nano e) refl refl
some_magic o Little false fit e =
    tested o false false true (eqb (long_at Little 0 o) nano)
    (not_big o false micro fit e (inl refl)) (not_big o false nano fit e (inr refl))
    (eq-eqb (long_at Little 0 o) micro e) refl
some_magic o Little true fit e =
    tested o false false false true (not_big o true micro fit e (inl refl))
    (not_big o true nano fit e (inr refl))
    (ne_eqb (long_at Little 0 o) micro (λ f. absurd (omega arith)))
    (eq-eqb (long_at Little 0 o) nano e)

-- what the four tests say
abbrev pub Says : List ℕ → Option Kind → Type 0
Says o None = LacksMagic o
Says o (Some x) = long_at x.0 0 o ≡ magic_number x.1

all_bad : (o : List ℕ) → (long_at Big 0 o ≡ micro → ⊥) → (long_at Big 0 o ≡ nano → ⊥)
    → (long_at Little 0 o ≡ micro → ⊥) → (long_at Little 0 o ≡ nano → ⊥)
    → (order : ByteOrder) (n : Bool) → long_at order 0 o ≡ magic_number n → ⊥
all_bad o a b c d Big false = a
all_bad o a b c d Big true = b
all_bad o a b c d Little false = c
all_bad o a b c d Little true = d

says_by : (o : List ℕ) (a b c d : Bool) → eqb (long_at Big 0 o) micro ≡ a
    → eqb (long_at Big 0 o) nano ≡ b → eqb (long_at Little 0 o) micro ≡ c
    → eqb (long_at Little 0 o) nano ≡ d → Says o (kinds a b c d)
says_by o true b c d ea eb ec ed = eqb-true (long_at Big 0 o) micro ea
says_by o false true c d ea eb ec ed = eqb-true (long_at Big 0 o) nano eb
says_by o false false true d ea eb ec ed = eqb-true (long_at Little 0 o) micro ec
says_by o false false false true ea eb ec ed = eqb-true (long_at Little 0 o) nano ed
says_by o false false false false ea eb ec ed =
    all_bad o (eqb-false (long_at Big 0 o) micro ea) (eqb-false (long_at Big 0 o) nano eb)
    (eqb-false (long_at Little 0 o) micro ec) (eqb-false (long_at Little 0 o) nano ed)

pub says : (o : List ℕ) → Says o (magic_of o)
says o =
    says_by o (eqb (long_at Big 0 o) micro) (eqb (long_at Big 0 o) nano)
    (eqb (long_at Little 0 o) micro) (eqb (long_at Little 0 o) nano) refl refl refl refl

-- ---- the faults

abbrev bad : RecordingFault → Result PcapHead RecordingFault
bad f = Err f

not_version : bad BadVersion ≡ bad BadMagic → ⊥
not_version e = cc

not_magic : bad BadMagic ≡ bad BadVersion → ⊥
not_magic e = cc

packed_version : bad Packed ≡ bad BadVersion → ⊥
packed_version e = cc

version_packed : bad BadVersion ≡ bad Packed → ⊥
version_packed e = cc

packed_magic : bad Packed ≡ bad BadMagic → ⊥
packed_magic e = cc

magic_packed : bad BadMagic ≡ bad Packed → ⊥
magic_packed e = cc

-- the fault of octets without a magic number, by whether gzip has packed them
abbrev foreign : Bool → Result PcapHead RecordingFault
foreign packed = bad (cond packed Packed BadMagic)

foreign_magic : (b : Bool) → foreign b ≡ bad BadMagic → b ≡ false
foreign_magic true e = absurd (packed_magic e)
foreign_magic false e = refl

foreign_packed : (b : Bool) → foreign b ≡ bad Packed → b ≡ true
foreign_packed true e = refl
foreign_packed false e = absurd (magic_packed e)

foreign_version : (b : Bool) → foreign b ≡ bad BadVersion → ⊥
foreign_version true e = packed_version e
foreign_version false e = not_magic e

head_not : (h : PcapHead) (f : RecordingFault) → (let r : Result PcapHead RecordingFault = Ok h in
    r) ≡ bad f
    → ⊥
head_not h f e = cc

abbrev pub head_if : Bool → PcapHead → Result PcapHead RecordingFault
head_if other h = cond other (Err BadVersion) (Ok h)

version_not : (b : Bool) (h : PcapHead) (f : RecordingFault) → (bad BadVersion ≡ bad f → ⊥)
    → head_if b h ≡ bad f → ⊥
version_not true h f other e = other e
version_not false h f other e = head_not h f e

version_bad : (b : Bool) (h : PcapHead) → head_if b h ≡ bad BadVersion → b ≡ true
version_bad true h e = refl
version_bad false h e = absurd (head_not h BadVersion e)

abbrev pub head_of : Kind → List ℕ → PcapHead
head_of x o =
    record {
      order = x.0;
      nanoseconds = x.1;
      snap = long_at x.0 16 o;
      link = long_at x.0 20 o % 2 ^ 16;
    }

abbrev other_version : Kind → List ℕ → Bool
other_version x o = not (eqb (short_at x.0 4 o) 2) || not (eqb (short_at x.0 6 o) 4)

abbrev first_two : List ℕ → ℕ
first_two o = short_at Big 0 o

bad_magic_by : (o : List ℕ) (k : Option Kind) → Says o k → pcap_head_by k o ≡ bad BadMagic
    → IsBadMagic o
bad_magic_by o None s e =
    record {
      lacks = s;
      other = eqb-false (first_two o) gzip_number (foreign_magic (is_packed o) e);
    }
bad_magic_by o (Some x) s e =
    absurd (version_not (other_version x o) (head_of x o) BadMagic not_version e)

pub is_bad_magic : (o : List ℕ) → (pcap_head_of o ≡ Err BadMagic) ↔ IsBadMagic o
is_bad_magic o = (
  λ e. bad_magic_by o (magic_of o) (says o) e,
  λ is. ap (λ (k : Option Kind). pcap_head_by k o) (none_magic o is.lacks)
      ∙ ap foreign (ne_eqb (first_two o) gzip_number is.other),
)

packed_by : (o : List ℕ) (k : Option Kind) → Says o k → pcap_head_by k o ≡ bad Packed
    → IsGzipped o
packed_by o None s e =
    record {
      lacks = s;
      gzip = eqb-true (first_two o) gzip_number (foreign_packed (is_packed o) e);
    }
packed_by o (Some x) s e =
    absurd (version_not (other_version x o) (head_of x o) Packed version_packed e)

pub packed_is : (o : List ℕ) → (pcap_head_of o ≡ Err Packed) ↔ IsGzipped o
packed_is o = (
  λ e. packed_by o (magic_of o) (says o) e,
  λ is. ap (λ (k : Option Kind). pcap_head_by k o) (none_magic o is.lacks)
      ∙ ap foreign (eq-eqb (first_two o) gzip_number is.gzip),
)

ne_from : (n k : ℕ) (b : Bool) → eqb n k ≡ b → not b ≡ true → n ≡ k → ⊥
ne_from n k true e h = absurd cc
ne_from n k false e h = eqb-false n k e

other_by : (n m k l : ℕ) (a : Bool) → not (eqb n k) ≡ a → (a || not (eqb m l)) ≡ true
    → (n ≡ k → ⊥) ⊎ (m ≡ l → ⊥)
other_by n m k l true e h = inl (ne_from n k (eqb n k) refl e)
other_by n m k l false e h = inr (ne_from m l (eqb m l) refl h)

bad_version_by : (o : List ℕ) (k : Option Kind) → Says o k → pcap_head_by k o ≡ bad BadVersion
    → IsBadVersion o
bad_version_by o None s e = absurd (foreign_version (is_packed o) e)
bad_version_by o (Some x) s e =
    record {
      order = x.0;
      nanoseconds = x.1;
      magic = s;
      other =
          other_by (short_at x.0 4 o) (short_at x.0 6 o) 2 4 (not (eqb (short_at x.0 4 o) 2)) refl
          (version_bad (other_version x o) (head_of x o) e);
    }

other_is : (n m k l : ℕ) → (n ≡ k → ⊥) ⊎ (m ≡ l → ⊥)
    → (not (eqb n k) || not (eqb m l)) ≡ true
other_is n m k l (inl a) = or_left (not (eqb n k)) (not (eqb m l)) (ap not (ne_eqb n k a))
other_is n m k l (inr a) = or_right (not (eqb n k)) (not (eqb m l)) (ap not (ne_eqb m l a))

pub is_bad_version : (o : List ℕ) → AreOctets o
    → (pcap_head_of o ≡ Err BadVersion) ↔ IsBadVersion o
is_bad_version o fit = (
  λ e. bad_version_by o (magic_of o) (says o) e,
  λ is. ap (λ (k : Option Kind). pcap_head_by k o)
      (some_magic o is.order is.nanoseconds fit is.magic)
      ∙ ap (λ (b : Bool). head_if b (head_of (is.order, is.nanoseconds) o))
      (other_is (short_at is.order 4 o) (short_at is.order 6 o) 2 4 is.other),
)
