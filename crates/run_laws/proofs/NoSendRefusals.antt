-- Against what a run of `send` read that ended well no refusal speaks.
use Rattle.std.proofs.Common.{◌≡◌, ℕ, ◌+◌, ◌%◌, ◌^◌, ◌≤◌, suc, List, [], ◌∷◌, length, Option}
use Rattle.std.proofs.Common.{inl, inr, refl, sym, ap, ◌∙◌, subst, arith}
use Rattle.std.specs.List.{zip}
use Rattle.st_format.specs.Device.{AreOctets}
use Rattle.st_format.specs.Member.{IsMember}
use Rattle.st_format.specs.Picture.{Values}
use Rattle.st_format.specs.declared.format.Format.{Format}
use Rattle.media_file.specs.declared.fault.FileFault.{FileFault}
use Rattle.packet_plan.specs.Plan.{IsSize}
use Rattle.packet_plan.specs.Sender.{Sender, SendsFrom}
use Rattle.run_outcome.specs.Moments.{WasRead}
use Rattle.run_outcome.specs.Pictures.{IsPictureRefusal, SaysPicture, SaysPictureOf}
use Rattle.run_outcome.specs.TextRefusals.{SaysText}
use Rattle.run_outcome.specs.declared.refusal.Refusal.{Refusal}
use Rattle.run_outcome.specs.declared.refusal.Refusal.TheVariants as why
use Rattle.capture_engines.specs.Sending.{SayPictures, SendsAll, TakesPictures, run_sender}
use Rattle.capture_engines.specs.Sent.{IsFirstPictureRefusal, IsLaterPictureRefusal}
use Rattle.capture_engines.specs.Sent.{IsPicturesRefusal, IsRestRefusal, IsSaidRefusal}
use Rattle.capture_engines.specs.Sent.{IsSendRefusal}
use Rattle.capture_engines.specs.Typed.{SendsTyped}
use Rattle.capture_engines.specs.declared.sender.Sending.{Sending}
use Rattle.run_laws.specs.Received.{read_of}
use Rattle.run_laws.proofs.NoProcessRefusals.{text_not}
use Rattle.run_laws.proofs.NoRefusals.{no_picture_fault, no_plan_fault, one_format}
use Rattle.run_laws.proofs.Receiving.{was_read}

-- the pictures that are sent are of the sender's format
abbrev AllAre : Format → List Values → Type 0
AllAre f ps = (p : Values) → IsMember p ps → p.format ≡ f

one_sent : (s : Sender) (k first : ℕ) (ps : List Values) (ds : List (List ℕ))
    → SendsFrom s k ps first ds → AllAre s.format ps
one_sent s k first [] ds sent p there = absurd there
one_sent s k first (q ∷ qs) ds sent p (inl same) =
    ap (λ (x : Values). x.format) same ∙ sent.format
one_sent s k first (q ∷ qs) ds sent p (inr there) =
    one_sent s (k + 1) ((first + length sent.packets) % 2 ^ 32) qs sent.others sent.rest p there

module _ {S : Type 0} (gave : S → List ℕ) (ended : S → Type 0) where
  -- so many pictures as sources
  as_many : (us vs : List S) (ps : List Values) → SayPictures (WasRead gave ended) us vs ps
      → length ps ≡ length us
  as_many [] [] [] say = refl
  as_many [] [] (p ∷ ps) say = absurd say
  as_many [] (v ∷ vs) ps say = absurd say
  as_many (u ∷ us) [] ps say = absurd say
  as_many (u ∷ us) (v ∷ vs) [] say = absurd say
  as_many (u ∷ us) (v ∷ vs) (p ∷ ps) say = ap (λ (n : ℕ). suc n) (as_many us vs ps say.1)

  -- what was read is such a picture
  says_of : (s : S × S) (p : Values) (f : Format) → SaysPicture (WasRead gave ended s) p
      → p.format ≡ f → SaysPictureOf (WasRead gave ended s) f
  says_of s p f says same octets there = (p, same, says octets there)

  -- it says one format
  pub format_read : (s : S × S) (f g : Format) → SaysPictureOf (WasRead gave ended s) f
      → SaysPictureOf (WasRead gave ended s) g → f ≡ g
  format_read s f g says other =
      let octets : List ℕ = read_of gave s in
      let there = was_read gave ended s in
      let a = says octets there in
      let b = other octets there in
      sym a.1 ∙ one_format octets a.0 b.0 a.2 b.2 ∙ b.1

  -- so its file is not refused
  pub file_not : (s : S × S) (f : Format) (e : FileFault) → AreOctets (read_of gave s)
      → SaysPictureOf (WasRead gave ended s) f
      → IsPictureRefusal (WasRead gave ended s) (why.Picture e) → ⊥
  file_not s f e bytes says wrong =
      let octets : List ℕ = read_of gave s in
      let there = was_read gave ended s in
      let p = says octets there in
      no_picture_fault octets p.0 e bytes p.2 (wrong octets there bytes)

  -- nor is it as the first one, of a format that has plans
  pub first_not : (most : ℕ) (s : S × S) (f : Format) (r : Refusal) → AreOctets (read_of gave s)
      → SaysPictureOf (WasRead gave ended s) f → IsSize most f
      → IsFirstPictureRefusal most (WasRead gave ended s) r → ⊥
  first_not most s f (why.Picture e) bytes says size wrong = file_not s f e bytes says wrong
  first_not most s f (why.Plan e) bytes says size wrong =
      no_plan_fault most wrong.0 e
      (subst (λ (x : Format). IsSize most x) (format_read s f wrong.0 says wrong.1) size) wrong.2
  first_not most s f r bytes says size wrong = absurd wrong

  -- nor behind a first one of its format
  pub later_not : (s : S × S) (f : Format) (r : Refusal) → AreOctets (read_of gave s)
      → SaysPictureOf (WasRead gave ended s) f
      → IsLaterPictureRefusal f (WasRead gave ended s) r → ⊥
  later_not s f (why.Picture e) bytes says wrong = file_not s f e bytes says wrong
  later_not s f why.SendFormats bytes says wrong =
      wrong.unlike (format_read s wrong.other f wrong.says says)
  later_not s f r bytes says wrong = absurd wrong

  -- none of them is refused
  rest_not : (us vs : List S) (ps : List Values) (f : Format) (r : Refusal)
      → SayPictures (WasRead gave ended) us vs ps → AllAre f ps
      → ((s : S × S) → IsMember s (zip us vs) → AreOctets (read_of gave s))
      → IsRestRefusal f (WasRead gave ended) (zip us vs) r → ⊥
  rest_not [] vs ps f r say all bytes wrong = absurd wrong
  rest_not (u ∷ us) [] ps f r say all bytes wrong = absurd wrong
  rest_not (u ∷ us) (v ∷ vs) [] f r say all bytes wrong = absurd say
  rest_not (u ∷ us) (v ∷ vs) (p ∷ ps) f r say all bytes (inl wrong) =
      later_not (u, v) f r (bytes (u, v) (inl refl))
      (says_of (u, v) p f say.0 (all p (inl refl))) wrong
  rest_not (u ∷ us) (v ∷ vs) (p ∷ ps) f r say all bytes (inr wrong) =
      rest_not us vs ps f r say.1 (λ q there. all q (inr there)) (λ s there. bytes s (inr there))
      wrong.1

  all_not : (most : ℕ) (us vs : List S) (ps : List Values) (f : Format) (r : Refusal)
      → SayPictures (WasRead gave ended) us vs ps → AllAre f ps → IsSize most f
      → ((s : S × S) → IsMember s (zip us vs) → AreOctets (read_of gave s))
      → IsPicturesRefusal most (WasRead gave ended) (zip us vs) r → ⊥
  all_not most [] vs ps f r say all size bytes wrong = absurd wrong
  all_not most (u ∷ us) [] ps f r say all size bytes wrong = absurd wrong
  all_not most (u ∷ us) (v ∷ vs) [] f r say all size bytes wrong = absurd say
  all_not most (u ∷ us) (v ∷ vs) (p ∷ ps) f r say all size bytes (inl wrong) =
      first_not most (u, v) f r (bytes (u, v) (inl refl))
      (says_of (u, v) p f say.0 (all p (inl refl))) size wrong
  all_not most (u ∷ us) (v ∷ vs) (p ∷ ps) f r say all size bytes (inr wrong) =
      let same : f ≡ wrong.0 =
      format_read (u, v) f wrong.0 (says_of (u, v) p f say.0 (all p (inl refl))) wrong.1 in
      rest_not us vs ps wrong.0 r say.1 (λ q there. all q (inr there) ∙ same)
      (λ s there. bytes s (inr there)) wrong.3

  -- where there is none, none is
  none_not : (most : ℕ) (us vs : List S) (r : Refusal) → SayPictures (WasRead gave ended) us vs []
      → IsPicturesRefusal most (WasRead gave ended) (zip us vs) r → ⊥
  none_not most [] vs r say wrong = absurd wrong
  none_not most (u ∷ us) [] r say wrong = absurd wrong
  none_not most (u ∷ us) (v ∷ vs) r say wrong = absurd say

module _ {S : Type 0} (gave : S → List ℕ) (ended : S → Type 0) (wanted : Sending) (text : List ℕ)
    (us vs : List S) (old new : List ℕ) (count : ℕ)
    (bytes : (s : S × S) → IsMember s (zip us vs) → AreOctets (read_of gave s))
  where
    few : (ps : List Values) → SayPictures (WasRead gave ended) us vs ps
        → TakesPictures wanted text ps old new count → length us ≤ 10000
    few [] say taken = omega (arith, as_many gave ended us vs [] say)
    few (p ∷ ps) say taken =
        omega (arith, as_many gave ended us vs (p ∷ ps) say, taken.sent.few)

    pictures_not : (ps : List Values) (r : Refusal) → SayPictures (WasRead gave ended) us vs ps
        → TakesPictures wanted text ps old new count
        → IsPicturesRefusal wanted.max_octets (WasRead gave ended) (zip us vs) r → ⊥
    pictures_not [] r say taken wrong =
        none_not gave ended wanted.max_octets us vs r say wrong
    pictures_not (p ∷ ps) r say taken wrong =
        all_not gave ended wanted.max_octets us vs (p ∷ ps) p.format r say
        (one_sent (run_sender p.format wanted) 0 wanted.first (p ∷ ps) taken.datagrams
        taken.sent.sent) taken.limits bytes wrong

    said_not : (sdp later : Option S) (ps : List Values) (r : Refusal)
        → SayPictures (WasRead gave ended) us vs ps
        → TakesPictures wanted text ps old new count → SaysText gave ended sdp later text
        → IsSaidRefusal (length us) sdp later (WasRead gave ended) r → ⊥
    said_not sdp later ps why.SendPictures say taken says wrong =
        absurd (omega (arith, few ps say taken, wrong))
    said_not sdp later ps r say taken says wrong =
        text_not gave ended sdp later text r says wrong.1

pub send_not : {S : Type 0} (gave : S → List ℕ) (ended : S → Type 0) (wanted : Sending)
    (sdp sdp_later : Option S) (us vs : List S) (old new printed printed_new : List ℕ)
    (r : Refusal)
    → SendsAll gave ended wanted sdp sdp_later us vs old new printed printed_new
    → ((s : S × S) → IsMember s (zip us vs) → AreOctets (read_of gave s))
    → IsSendRefusal wanted.max_octets (length us) sdp sdp_later (WasRead gave ended) (zip us vs) r
    → ⊥
send_not gave ended wanted sdp sdp_later us vs old new printed printed_new r sent bytes
    (inl wrong) =
    said_not gave ended wanted sent.text us vs old new sent.count bytes sdp sdp_later
    sent.pictures.pictures r sent.pictures.say sent.pictures.taken sent.says wrong
send_not gave ended wanted sdp sdp_later us vs old new printed printed_new r sent bytes
    (inr wrong) =
    pictures_not gave ended wanted sent.text us vs old new sent.count bytes
    sent.pictures.pictures r sent.pictures.say sent.pictures.taken wrong.2

-- so with the payload type of the text
pub typed_not : {S : Type 0} (gave : S → List ℕ) (ended : S → Type 0) (wanted : Sending)
    (sdp sdp_later : Option S) (us vs : List S) (old new printed printed_new : List ℕ)
    (r : Refusal)
    → SendsTyped gave ended wanted sdp sdp_later us vs old new printed printed_new
    → ((s : S × S) → IsMember s (zip us vs) → AreOctets (read_of gave s))
    → IsSendRefusal wanted.max_octets (length us) sdp sdp_later (WasRead gave ended) (zip us vs) r
    → ⊥
typed_not gave ended wanted sdp sdp_later us vs old new printed printed_new r sent bytes
    (inl wrong) =
    said_not gave ended sent.typed sent.text us vs old new sent.count bytes sdp sdp_later
    sent.pictures.pictures r sent.pictures.say sent.pictures.taken sent.says wrong
typed_not gave ended wanted sdp sdp_later us vs old new printed printed_new r sent bytes
    (inr wrong) =
    pictures_not gave ended sent.typed sent.text us vs old new sent.count bytes
    sent.pictures.pictures r sent.pictures.say sent.pictures.taken
    (subst (λ (most : ℕ). IsPicturesRefusal most (WasRead gave ended) (zip us vs) r)
    (ap (λ (w : Sending). w.max_octets) (sym sent.typed_is.typed_is)) wrong.2)
