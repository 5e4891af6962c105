-- A fixed header's text, and any payload behind it, are in the grammar.
use Rattle.std.proofs.Common.{◌≡◌, ℕ, ◌^◌, ◌<◌, ◌≤◌, List, [], ◌++◌, take, refl, sym, ap, ◌∙◌}
use Rattle.std.proofs.Common.{arith}
use Rattle.std.proofs.lemmas.List.{append-nil, take_at}
use Rattle.rtp_header.specs.Grammar.{Rtp, IsRtp, IsPlainRtp, fixed_text, plain_flags}

-- what has a text
pub record Fits (r : Rtp) : Type 0 where
  pub payload_type : r.payload_type ≤ 127
  pub sequence : r.sequence < 2 ^ 16
  pub timestamp : r.timestamp < 2 ^ 32
  pub ssrc : r.ssrc < 2 ^ 32

pub plain_rtp : (r : Rtp) (octets : List ℕ) → Fits r → octets ≡ fixed_text plain_flags r
    ++ r.payload
    → IsPlainRtp octets r
plain_rtp r octets fits parts =
    let is : IsRtp octets r = record {
      flags = plain_flags;
      source_list = [];
      extension = [];
      padding = [];
      few_sources = omega arith;
      payload_type = omega (arith, fits.payload_type);
      sequence = fits.sequence;
      timestamp = fits.timestamp;
      ssrc = fits.ssrc;
      sources = refl;
      is_extension = refl;
      is_padding = refl;
      whole =
          parts ∙ ap (λ (x : List ℕ). fixed_text plain_flags r ++ x) (sym (append-nil r.payload));
    } in
    record { is = is; flags = refl; no_sources = refl; no_extension = refl; no_padding = refl }

-- written over the first octets of others
pub plain_written : (r : Rtp) (written others : List ℕ) → Fits r
    → written ≡ fixed_text plain_flags r ++ others → IsPlainRtp (take 12 written ++ r.payload) r
plain_written r written others fits is =
    plain_rtp r (take 12 written ++ r.payload) fits
    (ap (λ (x : List ℕ). take 12 x ++ r.payload) is
    ∙ ap (λ (x : List ℕ). x ++ r.payload) (take_at (fixed_text plain_flags r) others 12 refl))
