use Rattle.std.proofs.Common.{◌≡◌, ◌⊎◌, inl, inr, ℕ, List, Result, Ok, Err, refl}
use Rattle.rtp_header.specs.declared.header.RtpFault.{RtpFault}
use Rattle.rtp_header.specs.Faults.{HasRtpFault}
use Rattle.rtp_header.specs.Grammar.{AreOctets, IsRtp, Rtp}
use Rattle.rtp_header.specs.Reading.{rtp_walk}
use Rattle.rtp_header.proofs.Taken.{rtp_takes}
use Rattle.rtp_header.proofs.Again.{rtp_again}
use Rattle.rtp_header.proofs.Faulted.{rtp_faulted}
use Rattle.rtp_header.proofs.laws.datagram_or_fault.Goals as goal

-- what is read is a datagram, and a fault that is told stands there
told : (octets : List ℕ) (r : Result Rtp RtpFault) → AreOctets octets → rtp_walk octets ≡ r
    → ((x : Rtp) × IsRtp octets x) ⊎ ((x : RtpFault) × HasRtpFault octets x)
told octets (Ok x) fit e = inl (x, rtp_takes octets x fit e)
told octets (Err d) fit e = inr (d, (rtp_faulted d octets).0 e)

pub returns-clause-some : goal.returns-clause-some
returns-clause-some c octets fit = told octets (rtp_walk octets) fit refl

pub returns-clause-apart : goal.returns-clause-apart
returns-clause-apart c octets r e is has =
    let read : rtp_walk octets ≡ Ok r = rtp_again r octets is in
    let fault : rtp_walk octets ≡ Err e = (rtp_faulted e octets).1 has in
    absurd cc
