-- Planes of two components share no sample.
use Rattle.std.proofs.Common.{◌≡◌, ℕ, zero, suc, ◌+◌, ◌*◌, ◌<◌, List, length, sym, ap, ◌∙◌, arith}
use Rattle.st_format.specs.declared.sampling.Sampling.{Sampling}
use Rattle.st_format.specs.declared.sampling.Sampling.TheVariants.{Ycc422, Ycc444, Rgb}
use Rattle.st_format.specs.declared.format.Format.{Format}
use Rattle.st_format.specs.Picture.{Values}
use Rattle.picture_forms.specs.Planes.{KeepsOthers, sample_size}
use Rattle.picture_forms.specs.Layouts.{IsYcc, plane_count, plane_first, plane_step, plane_text}
use Rattle.picture_forms.specs.Layouts.{y4m_spelling}
use Rattle.picture_forms.proofs.Filled.{every_same}
use Rattle.picture_forms.proofs.Placed.{plane_every}
use Rattle.picture_forms.proofs.Given.{every_long}

apart : (s : Sampling) (a b j k : ℕ) → IsYcc s → a < b → b < 3
    → plane_first s a + plane_step s a * j ≡ plane_first s b + plane_step s b * k → ⊥
apart Ycc422 zero zero j k is lt top e = absurd (omega (arith, lt))
apart Ycc422 zero (suc zero) j k is lt top e = omega (arith, e)
apart Ycc422 zero (suc (suc b)) j k is lt top e = omega (arith, e)
apart Ycc422 (suc zero) zero j k is lt top e = absurd (omega (arith, lt))
apart Ycc422 (suc zero) (suc zero) j k is lt top e = absurd (omega (arith, lt))
apart Ycc422 (suc zero) (suc (suc b)) j k is lt top e = omega (arith, e)
apart Ycc422 (suc (suc a)) b j k is lt top e = absurd (omega (arith, lt, top))
apart Ycc444 zero zero j k is lt top e = absurd (omega (arith, lt))
apart Ycc444 zero (suc zero) j k is lt top e = omega (arith, e)
apart Ycc444 zero (suc (suc b)) j k is lt top e = omega (arith, e)
apart Ycc444 (suc zero) zero j k is lt top e = absurd (omega (arith, lt))
apart Ycc444 (suc zero) (suc zero) j k is lt top e = absurd (omega (arith, lt))
apart Ycc444 (suc zero) (suc (suc b)) j k is lt top e = omega (arith, e)
apart Ycc444 (suc (suc a)) b j k is lt top e = absurd (omega (arith, lt, top))
apart Rgb a b j k is lt top e = absurd is

-- a plane stays while one behind it is put
pub plane_kept : (f : Format) (xs ys : List ℕ) (a b : ℕ) → IsYcc f.sampling → a < b → b < 3
    → KeepsOthers xs ys (plane_first f.sampling b) (plane_step f.sampling b) 0 (plane_count f b)
    → plane_text (record { format = f; samples = xs }) a
    ≡ plane_text (record { format = f; samples = ys }) a
plane_kept f xs ys a b is lt top p =
    let v : Values = record { format = f; samples = xs } in
    let w : Values = record { format = f; samples = ys } in
    plane_every v a is (omega arith)
    ∙ every_same (y4m_spelling f.depth) xs ys (plane_first f.sampling a)
    (plane_step f.sampling a) 0 (plane_count f a)
    (λ k from to. sym (p.others (plane_first f.sampling a + plane_step f.sampling a * k)
    (λ m le below e. apart f.sampling a b k m is lt top e)))
    ∙ sym (plane_every w a is (omega arith))

-- how many octets a plane takes
pub plane_long : (v : Values) (c : ℕ) → IsYcc v.format.sampling → c < 3
    → length (plane_text v c) ≡ sample_size (y4m_spelling v.format.depth) * plane_count v.format c
plane_long v c is lt =
    ap length (plane_every v c is lt)
    ∙ every_long (y4m_spelling v.format.depth) v.samples (plane_first v.format.sampling c)
    (plane_step v.format.sampling c) 0 (plane_count v.format c)
