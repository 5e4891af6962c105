-- What is read of a receiver's file is all of it.
use Rattle.std.proofs.Common.{◌≡◌, ℕ, List, [], ◌∷◌, Option, None, Some, Result, Ok, Err, refl, sym}
use Rattle.std.proofs.Common.{ap, ◌∙◌}
use Rattle.std.specs.Prelude.{IfOk}
use Rattle.std.specs.Io.KnownBytes.{IsAtEnd}
use Rattle.std.proofs.lemmas.Result.{IfOk-weaker}
use Rattle.path_receiver.specs.Frames.{State}
use Rattle.media_file.specs.declared.fault.FileFault.{FileFault}
use Rattle.media_file.specs.Blocks.{block_at}
use Rattle.media_file.specs.Fields.{nothing_at}
use Rattle.st_format.specs.Given.{Takes}
use Rattle.st_format.specs.Reading.{◌>>=◌}
use Rattle.media_file.specs.StateFile.{Kept}
use Rattle.receiver_file.specs.Front.{head_at, name_at}
use Rattle.receiver_file.specs.Saved.{kept_of}
use Rattle.receiver_file.specs.StateReading.{all_held_at, state_walk}

abbrev Whole : Type 0
Whole = Result (Kept × List ℕ) FileFault

abbrev rest_of : Whole → List ℕ
rest_of (Ok x) = x.1
rest_of (Err f) = []

abbrev whole : Kept → List ℕ → Whole
whole k rest = Ok (k, rest)

then_rest : {A : Type 0} (r : Result A FileFault) (f : A → Whole) → ((x : A) → rest_of (f x) ≡ [])
    → rest_of (r >>= f) ≡ []
then_rest (Ok x) f each = each x
then_rest (Err e) f each = refl

end_rest : (octets : List ℕ) (k : Kept) → rest_of (nothing_at octets >>= λ z. whole k z.1) ≡ []
end_rest [] k = refl
end_rest (x ∷ octets) k = refl

state_rest : (octets : List ℕ) → rest_of (state_walk octets) ≡ []
unfolding state_walk
state_rest octets =
    then_rest (name_at octets)
    (λ a. block_at a.1 >>= λ f. head_at f.1 >>= λ p. all_held_at f.0 p.0.count [] p.1 >>=
    λ h. nothing_at h.1 >>=
    λ z. whole
    (record {
      format = f.0;
      payload_type = p.0.payload_type;
      ssrc = p.0.ssrc;
      frames =
          h.0;
    }) z.1)
    (λ a. then_rest (block_at a.1)
    (λ f. head_at f.1 >>= λ p. all_held_at f.0 p.0.count [] p.1 >>= λ h. nothing_at h.1 >>=
    λ z. whole
    (record {
      format = f.0;
      payload_type = p.0.payload_type;
      ssrc = p.0.ssrc;
      frames =
          h.0;
    }) z.1)
    (λ f. then_rest (head_at f.1)
    (λ p. all_held_at f.0 p.0.count [] p.1 >>= λ h. nothing_at h.1 >>=
    λ z. whole
    (record {
      format = f.0;
      payload_type = p.0.payload_type;
      ssrc = p.0.ssrc;
      frames =
          h.0;
    }) z.1)
    (λ p. then_rest (all_held_at f.0 p.0.count [] p.1)
    (λ h. nothing_at h.1 >>=
    λ z. whole
    (record {
      format = f.0;
      payload_type = p.0.payload_type;
      ssrc = p.0.ssrc;
      frames =
          h.0;
    }) z.1)
    (λ h. end_rest h.1
    (record {
      format = f.0;
      payload_type = p.0.payload_type;
      ssrc = p.0.ssrc;
      frames =
          h.0;
    })))))

gives_end : (old new : Option (List ℕ)) (k : Kept) → Takes state_walk old new k → (octets : List ℕ)
    → old ≡ Some octets → IsAtEnd new
gives_end None new k p octets e = absurd cc
gives_end (Some o) None k p octets e = absurd p
gives_end (Some o) (Some rest) k p octets e = sym (ap rest_of p) ∙ state_rest o

pub loaded_end : (old new : Option (List ℕ)) (r : Result State FileFault)
    → IfOk r (λ s. Takes state_walk old new (kept_of s))
    → IfOk r (λ s. (octets : List ℕ) → old ≡ Some octets → IsAtEnd new)
loaded_end old new r p =
    IfOk-weaker r (λ s. Takes state_walk old new (kept_of s))
    (λ s. (octets : List ℕ) → old ≡ Some octets → IsAtEnd new)
    (λ s. gives_end old new (kept_of s)) p
