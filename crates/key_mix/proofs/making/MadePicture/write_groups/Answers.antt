use Rattle.std.proofs.Common.{◌≡◌, ℕ, ◌+◌, ◌-◌, ◌*◌, ◌/◌, ◌<◌, ◌≤◌, List, length, take, drop, sym}
use Rattle.std.proofs.Common.{ap, ◌∙◌, subst, arith}
use Rattle.st_format.proofs.SpelledOctets.{octets_in-spelled}
use Rattle.std.proofs.lemmas.List.{drop-drop, length-drop, length-take-le, take_all}
use Rattle.std.proofs.lemmas.Nat.{mul-le}
use Rattle.std.proofs.lemmas.Nat.{le-div}
use Rattle.std.proofs.Math.Nat.{mul-add}
use Rattle.st_format.specs.declared.format.Format.{Format}
use Rattle.st_format.specs.Pgroup.{bits_of, pixel_group}
use Rattle.st_format.specs.Picture.{Values}
use Rattle.st_format.specs.Samples.{Spells}
use borrow.Rule.Slice.PartMut.{same_len_mid}
use Rattle.key_mix.proofs.MadeParts.{spelled_more}
use Rattle.key_mix.proofs.making.MadePicture.write_groups.Goals as goal

-- the groups up to a number have octets that are there
within : (z o count long end : ℕ) → z ≡ o → long ≡ o * count → end ≤ count → z * end ≤ long
within z o count long end same is le =
    omega (arith, is, ap (λ (k : ℕ). k * end) same, mul-le o end o count (omega arith) le)

some_groups : (s : ℕ) → 0 < s → s ≤ 12 → 1 ≤ 768 / s
some_groups s some few = le-div 1 768 s some (omega arith)

-- the format that the model has is the one that is kept
octets_are : (f : Format) (p : Values) (o : ℕ) → f ≡ p.format
    → o ≡ (pixel_group f.sampling f.depth).octets
    → o ≡ (pixel_group p.format.sampling p.format.depth).octets
octets_are f p o same is =
    is ∙ ap (λ (h : Format). (pixel_group h.sampling h.depth).octets) same

pub slice_bounds-write_part-end : goal.slice_bounds-write_part-end
slice_bounds-write_part-end g c =
    let f : Format = c.args.self.now.format in
    let o : ℕ = (pixel_group f.sampling f.depth).octets in
    let end : ℕ = c.loop-done.done + c.min.result in
    let same = octets_are _ c.args.self.now c.pgroup-group.result.octets
    (ap (λ (p : Values). p.format) c.self.view_is) c.pgroup-group.ensures.octets in
    let le : end ≤ c.args.count = omega (arith, c.min.ensures, c.loop-done-test.true) in
    omega (
      arith,
      within c.pgroup-group.result.octets o c.args.count (length c.loop-done.octets) end same
          (c.loop-done.invariant.long ∙ c.requires.room) le,
    )

pub loop-done-smaller : goal.loop-done-smaller
loop-done-smaller g c =
    omega (
      arith,
      c.min.ensures,
      c.loop-done-test.true,
      some_groups c.pgroup-group.result.samples c.pgroup-group.ensures.some.2
          c.pgroup-group.ensures.most.2,
    )

pub loop-done-preserved : goal.loop-done-preserved
loop-done-preserved g c =
    let f : Format = c.args.self.now.format in
    let samples : List ℕ = c.args.self.now.samples in
    let s : ℕ = (pixel_group f.sampling f.depth).samples in
    let o : ℕ = (pixel_group f.sampling f.depth).octets in
    let size : ℕ = c.pgroup-group.result.octets in
    let first : ℕ = c.args.first in
    let done : ℕ = c.loop-done.done in
    let end : ℕ = done + c.min.result in
    let octets : List ℕ = c.loop-done.octets in
    let part : List ℕ = c.write_part.new.octets in
    let inv = c.loop-done.invariant in
    let same : size ≡ o = octets_are _ c.args.self.now size
    (ap (λ (p : Values). p.format) c.self.view_is) c.pgroup-group.ensures.octets in
    let le : end ≤ c.args.count = omega (arith, c.min.ensures, c.loop-done-test.true) in
    let room : size * end ≤ length octets =
    within size o c.args.count (length octets) end same (inv.long ∙ c.requires.room) le in
    let a : ℕ = size * done in
    let split : size * end ≡ a + size * c.min.result = omega arith in
    let n : ℕ = size * end - a in
    let long : length part ≡ length (take n (drop a octets)) = c.write_part.auto.octets in
    let part_long : length part ≡ n =
    long ∙ length-take-le n (drop a octets) (omega (arith, length-drop a octets)) in
    let on : done + (end - done) ≡ end = omega arith in
    let count : s * done + s * (end - done) ≡ s * end =
    sym (mul-add s done (end - done)) ∙ ap (λ (k : ℕ). s * k) on in
    record {
      long = same_len_mid a n octets part long ∙ inv.long;
      few = le;
      spelled =
          spelled_more (bits_of f.depth) a n (size * end) (s * done) (s * (end - done)) (s * end)
          octets part (drop (s * first) samples) (omega (arith, part_long, split))
          (omega (arith, room, split)) count inv.spelled
          (subst (λ (vs : List ℕ). Spells (bits_of f.depth) part (take (s * (end - done)) vs))
          (ap (λ (k : ℕ). drop k samples) (mul-add s first done)
          ∙ sym (drop-drop (s * done) (s * first) samples)) c.write_part.ensures);
    }

pub returns : goal.returns
returns g c =
    let f : Format = c.args.self.now.format in
    let samples : List ℕ = c.args.self.now.samples in
    let s : ℕ = (pixel_group f.sampling f.depth).samples in
    let o : ℕ = (pixel_group f.sampling f.depth).octets in
    let size : ℕ = c.pgroup-group.result.octets in
    let done : ℕ = c.loop-done.done in
    let octets : List ℕ = c.loop-done.octets in
    let inv = c.loop-done.invariant in
    let all : done ≡ c.args.count = omega (arith, inv.few, c.loop-done-test.false) in
    let same : size ≡ o = octets_are _ c.args.self.now size
    (ap (λ (p : Values). p.format) c.self.view_is) c.pgroup-group.ensures.octets in
    let long : length octets ≡ size * done =
    inv.long ∙ c.requires.room ∙ (λ j. sym same j * sym all j) in
    let b : ℕ = bits_of f.depth in
    let spelled : Spells b octets (take (s * c.args.count) (drop (s * c.args.first) samples)) =
    subst (λ (k : ℕ). Spells b octets (take (s * k) (drop (s * c.args.first) samples))) all
    (subst (λ (os : List ℕ). Spells b os
    (take (s * done) (drop (s * c.args.first) samples)))
    (take_all (size * done) octets (omega (arith, long))) inv.spelled) in
    sym (octets_in-spelled b octets _ c.are_octets.ensures.all spelled)
