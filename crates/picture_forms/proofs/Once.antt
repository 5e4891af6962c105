-- Octets are the planes of one picture.
use Rattle.std.proofs.Common.{◌≡◌, ℕ, zero, suc, ◌+◌, ◌*◌, ◌/◌, ◌%◌, ◌<◌, List, ◌++◌, length}
use Rattle.std.proofs.Common.{take, drop, get_or, append_assoc, refl, sym, ap, ◌∙◌, subst, arith}
use Rattle.std.proofs.lemmas.List.{drop_at, ext_get_or, take_at}
use Rattle.std.specs.Prelude.{slice_index}
use Rattle.st_format.specs.declared.sampling.Sampling.{Sampling}
use Rattle.st_format.specs.declared.sampling.Sampling.TheVariants.{Ycc422, Ycc444, Rgb}
use Rattle.st_format.specs.declared.format.Format.{Format}
use Rattle.st_format.specs.Picture.{Values}
use Rattle.st_format.specs.Position.{run_columns, run_samples, sample_count}
use Rattle.picture_forms.specs.declared.planes.Spelling.{Spelling}
use Rattle.picture_forms.specs.declared.planes.Spelling.TheVariants.{One, Little, Big}
use Rattle.picture_forms.specs.Layouts.{IsYcc, column_step, plane_count, plane_first, plane_step}
use Rattle.picture_forms.specs.Layouts.{pixels_text, pixmap_spelling, plane_text, planes_text}
use Rattle.picture_forms.specs.Layouts.{y4m_spelling}
use Rattle.picture_forms.specs.Planes.{every, every_text, sample_text}
use Rattle.picture_forms.proofs.Apart.{plane_long}
use Rattle.picture_forms.proofs.Given.{every_long}
use Rattle.picture_forms.proofs.Placed.{pixels_every, plane_every}

fronts : (xs ys a b : List ℕ) → length xs ≡ length ys → xs ++ a ≡ ys ++ b → xs ≡ ys
fronts xs ys a b long e =
    sym (take_at xs a (length xs) refl) ∙ ap (take (length xs)) e
    ∙ take_at ys b (length xs) (sym long)

rests : (xs ys a b : List ℕ) → length xs ≡ length ys → xs ++ a ≡ ys ++ b → a ≡ b
rests xs ys a b long e =
    sym (drop_at xs a (length xs) refl) ∙ ap (drop (length xs)) e
    ∙ drop_at ys b (length xs) (sym long)

-- octets are those of one sample
one_sample : (s : Spelling) (v w : ℕ) (a b : List ℕ) → sample_text s v ++ a ≡ sample_text s w ++ b
    → v ≡ w
one_sample One v w a b e = ap (λ (t : List ℕ). get_or t 0 0) e
one_sample Little v w a b e =
    let low : v % 256 ≡ w % 256 = ap (λ (t : List ℕ). get_or t 0 0) e in
    let high : v / 256 ≡ w / 256 = ap (λ (t : List ℕ). get_or t 1 0) e in
    omega (arith, low, high)
one_sample Big v w a b e =
    let high : v / 256 ≡ w / 256 = ap (λ (t : List ℕ). get_or t 0 0) e in
    let low : v % 256 ≡ w % 256 = ap (λ (t : List ℕ). get_or t 1 0) e in
    omega (arith, low, high)

left : (s : Spelling) (v w : ℕ) (a b : List ℕ) → sample_text s v ++ a ≡ sample_text s w ++ b
    → a ≡ b
left One v w a b e = ap (drop 1) e
left Little v w a b e = ap (drop 2) e
left Big v w a b e = ap (drop 2) e

-- and of one list of samples
one_every : (s : Spelling) (xs ys : List ℕ) (first step a n : ℕ)
    → every_text s xs first step a n ≡ every_text s ys first step a n → (k : ℕ) → k < n
    → every xs first step (a + k) ≡ every ys first step (a + k)
unfolding every_text
one_every s xs ys first step a zero e k lt = absurd (omega (arith, lt))
one_every s xs ys first step a (suc n) e zero lt =
    let z : a + 0 ≡ a = omega arith in
    rw z (one_sample s (every xs first step a) (every ys first step a) _ _ e)
one_every s xs ys first step a (suc n) e (suc k) lt =
    let z : a + suc k ≡ a + 1 + k = omega arith in
    rw z
    (one_every s xs ys first step (a + 1) n
    (left s (every xs first step a) (every ys first step a) _ _ e) k (omega (arith, lt)))

-- each sample of a picture is one of a plane's
covered_22 : (h w j r : ℕ) (P : ℕ → Type 0) → j % 4 ≡ r → w % 2 ≡ 0 → j < h * (w / 2 * 4)
    → ((k : ℕ) → k < h * (w / 1) → P (1 + 2 * k)) → ((k : ℕ) → k < h * (w / 2) → P (0 + 4 * k))
    → ((k : ℕ) → k < h * (w / 2) → P (2 + 4 * k)) → P j
covered_22 h w j zero P is even lt y cb cr =
    let m : h * (w / 2 * 4) ≡ h * (w / 2) * 4 = grind arith in
    let e : 0 + 4 * (j / 4) ≡ j = omega (arith, is) in
    subst P e (cb (j / 4) (omega (arith, m, lt)))
covered_22 h w j (suc zero) P is even lt y cb cr =
    let v : w / 1 ≡ w / 2 * 2 = omega (arith, even) in
    let m : h * (w / 2 * 4) ≡ h * (w / 2) * 4 = grind arith in
    let n : h * (w / 2 * 2) ≡ h * (w / 2) * 2 = grind arith in
    let e : 1 + 2 * (j / 2) ≡ j = omega (arith, is) in
    subst P e (y (j / 2) (rw (v, n) (omega (arith, m, lt, is))))
covered_22 h w j (suc (suc zero)) P is even lt y cb cr =
    let m : h * (w / 2 * 4) ≡ h * (w / 2) * 4 = grind arith in
    let e : 2 + 4 * (j / 4) ≡ j = omega (arith, is) in
    subst P e (cr (j / 4) (omega (arith, m, lt)))
covered_22 h w j (suc (suc (suc r))) P is even lt y cb cr =
    let v : w / 1 ≡ w / 2 * 2 = omega (arith, even) in
    let m : h * (w / 2 * 4) ≡ h * (w / 2) * 4 = grind arith in
    let n : h * (w / 2 * 2) ≡ h * (w / 2) * 2 = grind arith in
    let e : 1 + 2 * (j / 2) ≡ j = omega (arith, is) in
    subst P e (y (j / 2) (rw (v, n) (omega (arith, m, lt, is))))

covered_44 : (h w j r : ℕ) (P : ℕ → Type 0) → j % 3 ≡ r → j < h * (w / 1 * 3)
    → ((k : ℕ) → k < h * (w / 1) → P (1 + 3 * k)) → ((k : ℕ) → k < h * (w / 1) → P (0 + 3 * k))
    → ((k : ℕ) → k < h * (w / 1) → P (2 + 3 * k)) → P j
covered_44 h w j zero P is lt y cb cr =
    let m : h * (w / 1 * 3) ≡ h * (w / 1) * 3 = grind arith in
    let e : 0 + 3 * (j / 3) ≡ j = omega (arith, is) in
    subst P e (cb (j / 3) (omega (arith, m, lt)))
covered_44 h w j (suc zero) P is lt y cb cr =
    let m : h * (w / 1 * 3) ≡ h * (w / 1) * 3 = grind arith in
    let e : 1 + 3 * (j / 3) ≡ j = omega (arith, is) in
    subst P e (y (j / 3) (omega (arith, m, lt)))
covered_44 h w j (suc (suc r)) P is lt y cb cr =
    let m : h * (w / 1 * 3) ≡ h * (w / 1) * 3 = grind arith in
    let e : 2 + 3 * (j / 3) ≡ j = omega (arith, is) in
    subst P e (cr (j / 3) (omega (arith, m, lt)))

covered : (s : Sampling) (h w j : ℕ) (P : ℕ → Type 0) → IsYcc s → w % 2 ≡ 0
    → j < h * (w / run_columns s * run_samples s)
    → ((c k : ℕ) → c < 3 → k < h * (w / column_step s c) → P (plane_first s c + plane_step s c * k))
    → P j
covered Ycc422 h w j P is even lt all =
    covered_22 h w j (j % 4) P refl even lt (λ k. all 0 k (omega arith))
    (λ k. all 1 k (omega arith)) (λ k. all 2 k (omega arith))
covered Ycc444 h w j P is even lt all =
    covered_44 h w j (j % 3) P refl lt (λ k. all 0 k (omega arith))
    (λ k. all 1 k (omega arith)) (λ k. all 2 k (omega arith))
covered Rgb h w j P is even lt all = absurd is

pub all_covered : (f : Format) (P : ℕ → Type 0) → IsYcc f.sampling
    → ((c k : ℕ) → c < 3 → k < plane_count f c
    → P (plane_first f.sampling c + plane_step f.sampling c * k))
    → (j : ℕ) → j < sample_count f → P j
all_covered f P is all j lt =
    covered f.sampling f.height f.width j P is f.whole_width.even (omega (arith, lt))
    (λ c k top below. all c k top below)

plane_once : (f : Format) (xs ys : List ℕ) (c k : ℕ) → IsYcc f.sampling → c < 3
    → plane_text (record { format = f; samples = xs }) c
    ≡ plane_text (record { format = f; samples = ys }) c → k < plane_count f c
    → slice_index xs (plane_first f.sampling c + plane_step f.sampling c * k)
    ≡ slice_index ys (plane_first f.sampling c + plane_step f.sampling c * k)
plane_once f xs ys c k is top e lt =
    let v : Values = record { format = f; samples = xs } in
    let w : Values = record { format = f; samples = ys } in
    let z : 0 + k ≡ k = omega arith in
    rw z at
    (one_every (y4m_spelling f.depth) xs ys (plane_first f.sampling c) (plane_step f.sampling c) 0
    (plane_count f c) (sym (plane_every v c is top) ∙ e ∙ plane_every w c is top) k lt)

pub by_component : (Q : ℕ → Type 0) → Q 0 → Q 1 → Q 2 → (c : ℕ) → c < 3 → Q c
by_component Q a b d zero lt = a
by_component Q a b d (suc zero) lt = b
by_component Q a b d (suc (suc zero)) lt = d
by_component Q a b d (suc (suc (suc c))) lt = absurd (omega (arith, lt))

pub one_picture : (f : Format) (xs ys a b : List ℕ) → IsYcc f.sampling
    → length xs ≡ sample_count f → length ys ≡ sample_count f
    → planes_text (record { format = f; samples = xs }) ++ a
    ≡ planes_text (record { format = f; samples = ys }) ++ b → xs ≡ ys
one_picture f xs ys a b is long_x long_y e =
    let v : Values = record { format = f; samples = xs } in
    let w : Values = record { format = f; samples = ys } in
    let l0 : length (plane_text v 0) ≡ length (plane_text w 0) =
    plane_long v 0 is (omega arith) ∙ sym (plane_long w 0 is (omega arith)) in
    let l1 : length (plane_text v 1) ≡ length (plane_text w 1) =
    plane_long v 1 is (omega arith) ∙ sym (plane_long w 1 is (omega arith)) in
    let l2 : length (plane_text v 2) ≡ length (plane_text w 2) =
    plane_long v 2 is (omega arith) ∙ sym (plane_long w 2 is (omega arith)) in
    let e0 =
    sym (append_assoc (plane_text v 0) (plane_text v 1 ++ plane_text v 2) a) ∙ e
    ∙ append_assoc (plane_text w 0) (plane_text w 1 ++ plane_text w 2) b in
    let r0 = rests _ _ _ _ l0 e0 in
    let e1 =
    sym (append_assoc (plane_text v 1) (plane_text v 2) a) ∙ r0
    ∙ append_assoc (plane_text w 1) (plane_text w 2) b in
    let r1 = rests _ _ _ _ l1 e1 in
    let same : (c : ℕ) → c < 3 → plane_text v c ≡ plane_text w c =
    by_component (λ c. plane_text v c ≡ plane_text w c) (fronts _ _ _ _ l0 e0)
    (fronts _ _ _ _ l1 e1) (fronts _ _ _ _ l2 r1) in
    ext_get_or 0 xs ys (long_x ∙ sym long_y)
    (λ j lt. covered f.sampling f.height f.width j (λ i. get_or xs i 0 ≡ get_or ys i 0) is
    f.whole_width.even (omega (arith, lt, long_x))
    (λ c k top below. plane_once f xs ys c k is top (same c top) below))

pub one_pixmap : (f : Format) (xs ys a b : List ℕ) → length xs ≡ sample_count f
    → length ys ≡ sample_count f
    → pixels_text (record { format = f; samples = xs }) ++ a
    ≡ pixels_text (record { format = f; samples = ys }) ++ b → xs ≡ ys
one_pixmap f xs ys a b long_x long_y e =
    let v : Values = record { format = f; samples = xs } in
    let w : Values = record { format = f; samples = ys } in
    let s : Spelling = pixmap_spelling f.depth in
    let n : ℕ = sample_count f in
    let long : length (pixels_text v) ≡ length (pixels_text w) =
    ap length (pixels_every v) ∙ every_long s xs 0 1 0 n
    ∙ sym (ap length (pixels_every w) ∙ every_long s ys 0 1 0 n) in
    let same : every_text s xs 0 1 0 n ≡ every_text s ys 0 1 0 n =
    sym (pixels_every v) ∙ fronts (pixels_text v) (pixels_text w) a b long e ∙ pixels_every w in
    ext_get_or 0 xs ys (long_x ∙ sym long_y)
    (λ j lt. let i : 0 + 1 * (0 + j) ≡ j = omega arith in
    rw i at (one_every s xs ys 0 1 0 n same j (omega (arith, lt, long_x))))
