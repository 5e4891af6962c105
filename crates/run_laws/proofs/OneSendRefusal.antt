-- Of what a run of `send` read one refusal is told, but for the place of an SDP text's fault.
use Rattle.std.proofs.Common.{◌≡◌, ℕ, ◌<◌, ◌≤◌, ◌⊎◌, inl, inr, List, [], ◌∷◌, Option}
use Rattle.std.proofs.Common.{Some, refl, sym, ap, ◌∙◌, subst, arith}
use Rattle.st_format.specs.Device.{AreOctets}
use Rattle.st_format.specs.Member.{IsMember}
use Rattle.st_format.specs.declared.format.Format.{Format}
use Rattle.media_file.specs.declared.fault.FileFault.{FileFault}
use Rattle.media_file.proofs.PictureFaults.{one_picture_fault}
use Rattle.packet_plan.specs.declared.plan.PlanFault.{PlanFault}
use Rattle.packet_plan.specs.declared.plan.PlanFault.TheVariants.{NoMemory, BadPacketSize}
use Rattle.sdp_format.specs.declared.place.Located.{Located}
use Rattle.run_outcome.specs.Moments.{WasRead}
use Rattle.run_outcome.specs.Pictures.{IsPictureRefusal, IsPlanFault, SaysPictureOf}
use Rattle.run_outcome.specs.TextRefusals.{HasTextFault, IsSdpRefusal, IsTextOfRun, IsTextRefusal}
use Rattle.run_outcome.specs.TextRefusals.{SaysTextOfRun}
use Rattle.run_outcome.specs.declared.refusal.Refusal.{Refusal}
use Rattle.run_outcome.specs.declared.refusal.Refusal.TheVariants as why
use Rattle.capture_engines.specs.Sent.{IsFirstPictureRefusal, IsLaterPictureRefusal}
use Rattle.capture_engines.specs.Sent.{IsPicturesRefusal, IsRestRefusal, IsSaidRefusal}
use Rattle.capture_engines.specs.Sent.{IsSendRefusal, SaysOther}
use Rattle.run_laws.specs.Received.{read_of}
use Rattle.run_laws.specs.Told.{AreOfOneFault}
use Rattle.run_laws.proofs.NoProcessRefusals.{not_text}
use Rattle.run_laws.proofs.NoTextFault.{of_one_fault, one_text_fault}
use Rattle.run_laws.proofs.NoSendRefusals.{file_not, first_not, format_read, later_not}
use Rattle.run_laws.proofs.Receiving.{was_read}
use Rattle.run_laws.proofs.OneTextRefusal.{One}

-- ---- which it is

-- of a picture's file, and which
abbrev OfFile : (List ℕ → Type 0) → Refusal → Type 0
OfFile told r =
    (e : FileFault) × (r ≡ why.Picture e) × IsPictureRefusal told (why.Picture e)

-- that there is no plan, and of which format
abbrev OfPlan : ℕ → (List ℕ → Type 0) → Refusal → Type 0
OfPlan most told r =
    (e : PlanFault) × (r ≡ why.Plan e) × (f : Format) × SaysPictureOf told f
    × IsPlanFault most f e

-- that a picture is of another format
abbrev OfFormats : Format → (List ℕ → Type 0) → Refusal → Type 0
OfFormats f told r = (r ≡ why.SendFormats) × SaysOther told f

first_of : (most : ℕ) (told : List ℕ → Type 0) (r : Refusal) → IsFirstPictureRefusal most told r
    → OfFile told r ⊎ OfPlan most told r
first_of most told (why.Picture e) is = inl (e, refl, is)
first_of most told (why.Plan e) is = inr (e, refl, is.0, is.1, is.2)
first_of most told r is = absurd is

later_of : (f : Format) (told : List ℕ → Type 0) (r : Refusal) → IsLaterPictureRefusal f told r
    → OfFile told r ⊎ OfFormats f told r
later_of f told (why.Picture e) is = inl (e, refl, is)
later_of f told why.SendFormats is = inr (refl, is)
later_of f told r is = absurd is

said_of : {S : Type 0} (count : ℕ) (old new : Option S) (told : S × S → List ℕ → Type 0)
    (r : Refusal) → IsSaidRefusal count old new told r
    → ((r ≡ why.SendPictures) × (10000 < count)) ⊎ ((count ≤ 10000) × IsTextOfRun told old new r)
said_of count old new told why.SendPictures is = inl (refl, is)
said_of count old new told r is = inr is

one_plan_fault : (most : ℕ) (f g : Format) (d e : PlanFault) → IsPlanFault most f d
    → IsPlanFault most g e → d ≡ e
one_plan_fault most f g BadPacketSize BadPacketSize is other = refl
one_plan_fault most f g BadPacketSize NoMemory is other = absurd other
one_plan_fault most f g NoMemory e is other = absurd is

-- ---- of a text

sdp_of : (told : List ℕ → Type 0) (r : Refusal) → IsSdpRefusal told r
    → (at : Located) × (r ≡ why.Sdp at) × HasTextFault told at.fault
sdp_of told (why.Sdp at) is = (at, refl, is)
sdp_of told r is = absurd is

one_sdp : (told : List ℕ → Type 0) (text : List ℕ) → told text → (r q : Refusal)
    → (at : Located) × (r ≡ why.Sdp at) × HasTextFault told at.fault
    → (at : Located) × (q ≡ why.Sdp at) × HasTextFault told at.fault → AreOfOneFault r q
one_sdp told text there r q is other =
    of_one_fault r q is.0 other.0 is.1 other.1
    (one_text_fault text is.0.fault other.0.fault (is.2 text there) (other.2 text there))

-- one that is too long has no other refusal
one_text : (too_long : Refusal) (told : List ℕ → Type 0) (text : List ℕ) → told text
    → (r q : Refusal) → IsTextRefusal too_long told r → IsTextRefusal too_long told q → One r q
one_text too_long told text there r q (inl is) (inl other) = inl (is.0 ∙ sym other.0)
one_text too_long told text there r q (inl is) (inr other) =
    absurd (omega (arith, is.1 text there, other.0 text there))
one_text too_long told text there r q (inr is) (inl other) =
    absurd (omega (arith, is.0 text there, other.1 text there))
one_text too_long told text there r q (inr is) (inr other) =
    inr (one_sdp told text there r q (sdp_of told r is.1) (sdp_of told q other.1))

-- one source is given
one_given : {S : Type 0} (given : Option S) (s t : S) → given ≡ Some s → given ≡ Some t → s ≡ t
one_given {S} given s t is other =
    let some : S → Option S = λ x. Some x in
    let same : some s ≡ some t = sym is ∙ other in
    cc

-- ---- of pictures

module _ {S : Type 0} (gave : S → List ℕ) (ended : S → Type 0) where
  -- of a file one
  one_of_file : (s : S × S) (r q : Refusal) → AreOctets (read_of gave s)
      → OfFile (WasRead gave ended s) r → OfFile (WasRead gave ended s) q → r ≡ q
  one_of_file s r q bytes is other =
      let octets : List ℕ = read_of gave s in
      let there = was_read gave ended s in
      is.1
      ∙ ap (λ (e : FileFault). why.Picture e)
      (one_picture_fault is.0 other.0 octets bytes (is.2 octets there bytes)
      (other.2 octets there bytes))
      ∙ sym other.1

  -- of the first picture
  one_first : (most : ℕ) (s : S × S) (r q : Refusal) → AreOctets (read_of gave s)
      → OfFile (WasRead gave ended s) r ⊎ OfPlan most (WasRead gave ended s) r
      → OfFile (WasRead gave ended s) q ⊎ OfPlan most (WasRead gave ended s) q → r ≡ q
  one_first most s r q bytes (inl is) (inl other) = one_of_file s r q bytes is other
  one_first most s r q bytes (inl is) (inr other) =
      absurd (file_not gave ended s other.2 is.0 bytes other.3 is.2)
  one_first most s r q bytes (inr is) (inl other) =
      absurd (file_not gave ended s is.2 other.0 bytes is.3 other.2)
  one_first most s r q bytes (inr is) (inr other) =
      is.1
      ∙ ap (λ (e : PlanFault). why.Plan e)
      (one_plan_fault most is.2 other.2 is.0 other.0 is.4 other.4)
      ∙ sym other.1

  -- of one behind it
  one_later : (f : Format) (s : S × S) (r q : Refusal) → AreOctets (read_of gave s)
      → OfFile (WasRead gave ended s) r ⊎ OfFormats f (WasRead gave ended s) r
      → OfFile (WasRead gave ended s) q ⊎ OfFormats f (WasRead gave ended s) q → r ≡ q
  one_later f s r q bytes (inl is) (inl other) = one_of_file s r q bytes is other
  one_later f s r q bytes (inl is) (inr other) =
      absurd (file_not gave ended s other.1.other is.0 bytes other.1.says is.2)
  one_later f s r q bytes (inr is) (inl other) =
      absurd (file_not gave ended s is.1.other other.0 bytes is.1.says other.2)
  one_later f s r q bytes (inr is) (inr other) = is.0 ∙ sym other.0

  -- of those behind it
  one_rest : (f : Format) (xs : List (S × S)) (r q : Refusal)
      → ((s : S × S) → IsMember s xs → AreOctets (read_of gave s))
      → IsRestRefusal f (WasRead gave ended) xs r → IsRestRefusal f (WasRead gave ended) xs q
      → r ≡ q
  one_rest f [] r q bytes is other = absurd is
  one_rest f (x ∷ xs) r q bytes (inl is) (inl other) =
      one_later f x r q (bytes x (inl refl)) (later_of f (WasRead gave ended x) r is)
      (later_of f (WasRead gave ended x) q other)
  one_rest f (x ∷ xs) r q bytes (inl is) (inr other) =
      absurd (later_not gave ended x f r (bytes x (inl refl)) other.0 is)
  one_rest f (x ∷ xs) r q bytes (inr is) (inl other) =
      absurd (later_not gave ended x f q (bytes x (inl refl)) is.0 other)
  one_rest f (x ∷ xs) r q bytes (inr is) (inr other) =
      one_rest f xs r q (λ s there. bytes s (inr there)) is.1 other.1

  -- of all
  one_picture : (most : ℕ) (xs : List (S × S)) (r q : Refusal)
      → ((s : S × S) → IsMember s xs → AreOctets (read_of gave s))
      → IsPicturesRefusal most (WasRead gave ended) xs r
      → IsPicturesRefusal most (WasRead gave ended) xs q → r ≡ q
  one_picture most [] r q bytes is other = absurd is
  one_picture most (x ∷ xs) r q bytes (inl is) (inl other) =
      one_first most x r q (bytes x (inl refl)) (first_of most (WasRead gave ended x) r is)
      (first_of most (WasRead gave ended x) q other)
  one_picture most (x ∷ xs) r q bytes (inl is) (inr other) =
      absurd (first_not gave ended most x other.0 r (bytes x (inl refl)) other.1 other.2 is)
  one_picture most (x ∷ xs) r q bytes (inr is) (inl other) =
      absurd (first_not gave ended most x is.0 q (bytes x (inl refl)) is.1 is.2 other)
  one_picture most (x ∷ xs) r q bytes (inr is) (inr other) =
      one_rest is.0 xs r q (λ s there. bytes s (inr there)) is.3
      (subst (λ (f : Format). IsRestRefusal f (WasRead gave ended) xs q)
      (format_read gave ended x other.0 is.0 other.1 is.1) other.3)

  -- ---- of a run

  -- of a text that a capture may have none
  text_none : (old new : Option S) (r : Refusal) → SaysTextOfRun (WasRead gave ended) old new
      → IsTextOfRun (WasRead gave ended) old new r → ⊥
  text_none old new r says wrong =
      let s : S × S = (wrong.0, wrong.1) in
      not_text why.SendSdp (WasRead gave ended s) (read_of gave s) r (was_read gave ended s)
      (says wrong.0 wrong.1 wrong.2 wrong.3 (read_of gave s) (was_read gave ended s)) wrong.4

  -- the text's own are one
  text_one : (old new : Option S) (r q : Refusal) → IsTextOfRun (WasRead gave ended) old new r
      → IsTextOfRun (WasRead gave ended) old new q → One r q
  text_one old new r q is other =
      let s : S × S = (is.0, is.1) in
      let there : IsTextRefusal why.SendSdp (WasRead gave ended s) q =
      subst (λ (x : S). IsTextRefusal why.SendSdp (WasRead gave ended (x, is.1)) q)
      (one_given old other.0 is.0 other.2 is.2)
      (subst (λ (x : S). IsTextRefusal why.SendSdp (WasRead gave ended (other.0, x)) q)
      (one_given new other.1 is.1 other.3 is.3) other.4) in
      one_text why.SendSdp (WasRead gave ended s) (read_of gave s) (was_read gave ended s) r q is.4
      there

  one_said : (count : ℕ) (old new : Option S) (r q : Refusal)
      → ((r ≡ why.SendPictures) × (10000 < count))
      ⊎ ((count ≤ 10000) × IsTextOfRun (WasRead gave ended) old new r)
      → ((q ≡ why.SendPictures) × (10000 < count))
      ⊎ ((count ≤ 10000) × IsTextOfRun (WasRead gave ended) old new q) → One r q
  one_said count old new r q (inl is) (inl other) = inl (is.0 ∙ sym other.0)
  one_said count old new r q (inl is) (inr other) = absurd (omega (arith, is.1, other.0))
  one_said count old new r q (inr is) (inl other) = absurd (omega (arith, is.0, other.1))
  one_said count old new r q (inr is) (inr other) = text_one old new r q is.1 other.1

  said_none : (count : ℕ) (old new : Option S) (r : Refusal) → count ≤ 10000
      → SaysTextOfRun (WasRead gave ended) old new
      → ((r ≡ why.SendPictures) × (10000 < count))
      ⊎ ((count ≤ 10000) × IsTextOfRun (WasRead gave ended) old new r) → ⊥
  said_none count old new r few says (inl is) = absurd (omega (arith, is.1, few))
  said_none count old new r few says (inr is) = text_none old new r says is.1

  pub one_refusal : (most count : ℕ) (old new : Option S) (xs : List (S × S)) (r q : Refusal)
      → ((s : S × S) → IsMember s xs → AreOctets (read_of gave s))
      → IsSendRefusal most count old new (WasRead gave ended) xs r
      → IsSendRefusal most count old new (WasRead gave ended) xs q → One r q
  one_refusal most count old new xs r q bytes (inl is) (inl other) =
      one_said count old new r q (said_of count old new (WasRead gave ended) r is)
      (said_of count old new (WasRead gave ended) q other)
  one_refusal most count old new xs r q bytes (inl is) (inr other) =
      absurd (said_none count old new r other.0 other.1
      (said_of count old new (WasRead gave ended) r is))
  one_refusal most count old new xs r q bytes (inr is) (inl other) =
      absurd (said_none count old new q is.0 is.1
      (said_of count old new (WasRead gave ended) q other))
  one_refusal most count old new xs r q bytes (inr is) (inr other) =
      inl (one_picture most xs r q bytes is.2 other.2)
