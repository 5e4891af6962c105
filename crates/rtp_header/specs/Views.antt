-- What the records of the code say.
use Rattle.std.specs.Prelude.{ℕ, List}
use Rattle.rtp_header.specs.declared.header.RtpHead.{RtpHead}
use Rattle.rtp_header.specs.declared.header.RtpView.{RtpView}
use Rattle.rtp_header.specs.Grammar.{Rtp}

-- a view, without where its payload lies in memory
abbrev pub seen_rtp : RtpView → Rtp
seen_rtp v =
    record {
      marker = v.marker;
      payload_type = v.payload_type;
      sequence = v.sequence;
      timestamp =
          v.timestamp;
      ssrc = v.ssrc;
      payload = v.payload.now;
    }

-- a head to be written, with a payload behind it
abbrev pub headed_rtp : RtpHead → List ℕ → Rtp
headed_rtp h payload =
    record {
      marker = h.marker;
      payload_type = h.payload_type;
      sequence = h.sequence;
      timestamp =
          h.timestamp;
      ssrc = h.ssrc;
      payload = payload;
    }
