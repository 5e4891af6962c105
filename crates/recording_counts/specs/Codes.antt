-- How the values of a table are told apart.
use Rattle.std.specs.Prelude.{ℕ, List, Option, refl}
use Rattle.std.specs.Coded.{Coded, code_by, coded×, coded_list, coded_option, coded_ℕ}
use Rattle.std.specs.FinSet as set
use Rattle.std.specs.Ordering.{nat_cmp}
use Rattle.recording_counts.specs.declared.path_count.PathCount.{PathCount}
use Rattle.recording_counts.specs.declared.stream.StreamCount.{StreamCount}

-- a count as its parts
abbrev pub path_code : {A : Type 0} → Coded (PathCount A)
path_code =
    code_by (ℕ × (ℕ × (ℕ × (Option ℕ × (Option ℕ × set.FinSet nat_cmp)))))
    (coded× coded_ℕ
    (coded× coded_ℕ
    (coded× coded_ℕ
    (coded× (coded_option coded_ℕ) (coded× (coded_option coded_ℕ) (set.code coded_ℕ))))))
    (λ c. (c.datagrams, (c.different, (c.late, (c.lowest, (c.highest, c.numbers))))))
    (λ p.
    record {
      datagrams = p.0;
      different = p.1.0;
      late = p.1.1.0;
      lowest = p.1.1.1.0;
      highest = p.1.1.1.1.0;
      numbers = p.1.1.1.1.1;
    })
    (λ _. refl)

-- a stream as its parts
abbrev pub stream_code : {A : Type 0} → Coded (StreamCount A)
stream_code {A = A} =
    code_by (ℕ × (ℕ × (Option ℕ × (ℕ × (PathCount A × PathCount A)))))
    (coded× coded_ℕ
    (coded× coded_ℕ
    (coded× (coded_option coded_ℕ) (coded× coded_ℕ (coded× path_code path_code)))))
    (λ c. (c.key.payload_type, (c.key.ssrc, (c.highest, (c.both, (c.a, c.b))))))
    (λ p.
    record {
      key = record { payload_type = p.0; ssrc = p.1.0 };
      highest = p.1.1.0;
      both = p.1.1.1.0;
      a = p.1.1.1.1.0;
      b = p.1.1.1.1.1;
    })
    (λ _. refl)

-- the streams of a table, each as its parts, in their order
abbrev pub streams_code : {A : Type 0} → Coded (List (StreamCount A))
streams_code = coded_list stream_code
