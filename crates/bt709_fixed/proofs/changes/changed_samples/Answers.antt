use Rattle.std.proofs.Common.{◌≡◌, ℕ, List, ◌+◌, ◌-◌, ◌++◌, ◌∙◌, get_or, length, take, drop, ap}
use Rattle.std.proofs.Common.{arith}
use Rattle.std.proofs.lemmas.List.{length-append, length-take, length-drop, take_at}
use borrow.Rule.Slice.PartMut.{put_mid, same_len_mid}
use Rattle.st_format.specs.Pgroup.{bits_of}
use Rattle.bt709_fixed.specs.Operations.{changed_by, is_colour}
use Rattle.bt709_fixed.proofs.InTurn.{more_turns}
use Rattle.bt709_fixed.proofs.changes.changed_samples.Goals as goal

pub loop-done-preserved : goal.loop-done-preserved
loop-done-preserved g c =
    let full : List ℕ = c.args.samples.now in
    let vs : List ℕ = c.loop-done.copy.items in
    let xs : List ℕ = c.as_mut_slice.result.now in
    let ws : List ℕ = c.change_samples.new.samples in
    let d : ℕ = c.loop-done.done in
    let n : ℕ = c.min-some.result in
    let s = c.args.sampling in
    let of : ℕ → ℕ → ℕ = λ component x.
    changed_by c.args.change (bits_of c.args.depth) (is_colour s component) x in
    let inv = c.loop-done.invariant in
    let us : List ℕ = take (d + n - d) (drop d full) in
    let is : xs ≡ vs ++ us =
    c.as_mut_slice.ensures.value ∙ c.in_ok-extend_from_slice.ensures.items in
    let some : length us ≡ n =
    omega (
      arith,
      c.min-some.ensures,
      inv.within,
      length-take (d + n - d) (drop d full),
      length-drop d full,
    ) in
    let whole : length xs ≡ d + n =
    ap length is ∙ length-append vs us ∙ omega (arith, inv.long, some) in
    let j : ℕ = length xs - d in
    let long : length ws ≡ n =
    omega (
      arith,
      c.change_samples.ensures.long,
      length-take j (drop d xs),
      length-drop d xs,
      whole,
    ) in
    let same = same_len_mid d j xs ws c.change_samples.ensures.long in
    let items =
    take_at (put_mid d j xs ws)
    (drop (length (put_mid d j xs ws)) c.extend_from_slice.new.self.items)
    c.extend_from_slice.new.self.len (same ∙ c.as_mut_slice.ensures.len) in
    let more =
    more_turns of s full vs xs ws d n (d + n - d) j (omega arith) (omega (arith, whole))
    (inv.turns (omega (arith, c.loop-done-test.true))) inv.long is whole long inv.made
    c.change_samples.ensures.each in
    record {
      long = ap length items ∙ same ∙ whole;
      within = omega (arith, c.min-some.ensures);
      turns = λ h.
          omega (arith, c.min-some.ensures, inv.turns (omega (arith, c.loop-done-test.true)));
      made = λ k h. ap (λ ys. get_or ys k 0) items ∙ more k h;
    }
