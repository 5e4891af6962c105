use Rattle.media_file.specs.Faults.{CountsFault}
use Rattle.std.proofs.Common.{◌≡◌, ◌≤◌, ◌+◌, ◌*◌, ◌%◌, ◌++◌, ◌∙◌, ℕ, List, length, drop, refl}
use Rattle.std.proofs.Common.{subst, sym, ap, arith}
use Rattle.std.proofs.lemmas.List.{length-append, length-take-le, take_at}
use Rattle.std.proofs.lemmas.Result.{err_from_is_err_and}
use Rattle.st_format.specs.Pgroup.{bits_of}
use Rattle.media_file.specs.Fields.{Fails, GaveFault, field_at}
use Rattle.media_file.specs.PictureFile.{GaveSpelled, GivesSpelled}
use Rattle.media_file.proofs.Spelt.{piece_fails, spelled_more, spelled_none}
use Rattle.media_file.proofs.Gave.{fault_memory}
use Rattle.media_file.proofs.GaveLoops.{fails_memory}
use Rattle.media_file.proofs.GavePictures.{gave_cut, gave_no_samples, gave_samples, spelled_grew}
use Rattle.st_format.proofs.Histories.{grew_none}
use Rattle.media_file.proofs.picture_reading.read_samples.Goals as goal

pub loop-octets-init : goal.loop-octets-init
loop-octets-init g c =
    let b : ℕ = bits_of c.args.format.now.depth in
    let none = c.in_ok-samples.ensures.items in
    let size : length c.in_ok-samples.samples.items ≡ 0 = ap length none in
    record {
      within = omega (arith, size);
      whole = subst (λ (k : ℕ). b * k % 8 ≡ 0) (sym size) (omega arith);
      given =
          subst (GivesSpelled b (g.S.ByteSource.to_give c.args.source.now)
          (g.S.ByteSource.to_give c.args.source.now)) (sym none)
          (spelled_none b (g.S.ByteSource.to_give c.args.source.now));
      gave =
          subst (GaveSpelled b (g.S.ByteSource.gave c.args.source.now)
          (g.S.ByteSource.gave c.args.source.now)) (sym none)
          (gave_no_samples b (g.S.ByteSource.gave c.args.source.now));
      failures = refl;
    }

pub loop-octets-preserved : goal.loop-octets-preserved
loop-octets-preserved g c =
    let i = c.loop-octets.invariant in
    let e = c.piece_samples-n.ensures in
    let r = c.in_ok-read_piece.ensures in
    let b : ℕ = bits_of c.args.format.now.depth in
    let n : ℕ = c.piece_samples-n.result in
    let vs : List ℕ = c.loop-octets.samples.items in
    let ws : List ℕ = c.read_piece.new.samples in
    let piece : List ℕ = c.loop-octets.piece in
    let fits : n ≤ length piece = omega (arith, e.fits) in
    let long : length ws ≡ n = r.size ∙ length-take-le n piece fits in
    let items : c.extend_from_slice.new.self.items ≡ vs ++ ws =
    c.in_ok-extend_from_slice.ensures.items
    ∙ ap (λ (xs : List ℕ). vs ++ xs) (take_at ws (drop n piece) n long) in
    let done : length vs ≡ c.len-done.result = omega arith in
    let next : length c.extend_from_slice.new.self.items ≡ c.len-done.result + n =
    ap length items ∙ length-append vs ws ∙ omega (arith, long, done) in
    record {
      within = omega (arith, next, e.within);
      whole = subst (λ (k : ℕ). b * k % 8 ≡ 0) (sym next) e.next;
      given =
          subst (GivesSpelled b (g.S.ByteSource.to_give c.args.source.now)
          (g.S.ByteSource.to_give c.read_piece.new.source)) (sym items)
          (spelled_more b _ _ _ vs ws i.given r.read);
      gave =
          subst (GaveSpelled b (g.S.ByteSource.gave c.args.source.now)
          (g.S.ByteSource.gave c.read_piece.new.source)) (sym items)
          (gave_samples b _ _ _ vs ws i.gave r.gave);
      failures = r.counted ∙ i.failures;
    }

pub returns-in_err-read_piece-clause-fault : goal.returns-in_err-read_piece-clause-fault
returns-in_err-read_piece-clause-fault g c =
    let p =
    err_from_is_err_and c.from_residual-in_err-read_piece.result
    c.from_residual-in_err-read_piece.ensures.1 in
    let i = c.loop-octets.invariant in
    let e = c.piece_samples-n.ensures in
    let r = c.in_err-read_piece.ensures in
    let n : ℕ = c.piece_samples-n.result in
    let size : ℕ = c.piece_octets-size.result in
    let vs : List ℕ = c.loop-octets.samples.items in
    let octets : List ℕ = c.loop-octets.octets in
    let few : size ≤ 3600 = c.piece_octets-size.ensures.few in
    let fits : size ≤ length octets = omega arith in
    rw (p.1, p.2)
    (piece_fails (bits_of c.args.format.now.depth) (length vs) n c.args.count size
    (g.S.ByteSource.to_give c.args.source.now)
    (g.S.ByteSource.to_give c.loop-octets.source) vs c.in_err-read_piece.field-0.0
    r.named (omega (arith, e.within)) c.piece_octets-size.ensures.exact refl i.given
    (subst (λ (k : ℕ). Fails (field_at k)
    (g.S.ByteSource.to_give c.loop-octets.source) c.in_err-read_piece.field-0.0)
    (length-take-le size octets fits) r.fault))

pub piece_samples-n-requires-clause-left : goal.piece_samples-n-requires-clause-left
piece_samples-n-requires-clause-left g c =
    omega (arith, c.len.ensures, c.len-done.ensures, c.loop-octets-test.true)

pub piece_samples-n-requires-clause-count : goal.piece_samples-n-requires-clause-count
piece_samples-n-requires-clause-count g c = c.requires

pub piece_octets-size-requires-clause-few : goal.piece_octets-size-requires-clause-few
piece_octets-size-requires-clause-few g c = c.piece_samples-n.ensures.few

pub piece_octets-size-requires-clause-whole : goal.piece_octets-size-requires-clause-whole
piece_octets-size-requires-clause-whole g c = c.piece_samples-n.ensures.whole

pub returns-in_err-read_piece-clause-counted : goal.returns-in_err-read_piece-clause-counted
returns-in_err-read_piece-clause-counted g c =
    let p =
    err_from_is_err_and c.from_residual-in_err-read_piece.result
    c.from_residual-in_err-read_piece.ensures.1 in
    rw (p.1, p.2)
    (subst
    (λ (n : ℕ). CountsFault c.in_err-read_piece.field-0.0 n
    (g.S.ByteSource.failures c.read_piece.new.source))
    c.loop-octets.invariant.failures c.in_err-read_piece.ensures.counted)

pub returns-clause-read : goal.returns-clause-read
returns-clause-read g c = c.loop-octets.invariant.given

pub returns-clause-counted : goal.returns-clause-counted
returns-clause-counted g c = c.loop-octets.invariant.failures

pub returns-in_err-read_piece-clause-gave_wrong : goal.returns-in_err-read_piece-clause-gave_wrong
returns-in_err-read_piece-clause-gave_wrong g c =
    let p =
    err_from_is_err_and c.from_residual-in_err-read_piece.result
    c.from_residual-in_err-read_piece.ensures.1 in
    let i = c.loop-octets.invariant in
    let e = c.piece_samples-n.ensures in
    let r = c.in_err-read_piece.ensures in
    let n : ℕ = c.piece_samples-n.result in
    let size : ℕ = c.piece_octets-size.result in
    let vs : List ℕ = c.loop-octets.samples.items in
    let octets : List ℕ = c.loop-octets.octets in
    let few : size ≤ 3600 = c.piece_octets-size.ensures.few in
    let fits : size ≤ length octets = omega arith in
    rw (p.1, p.2)
    (gave_cut (bits_of c.args.format.now.depth) (length vs) n c.args.count size
    (g.S.ByteSource.gave c.args.source.now) (g.S.ByteSource.gave c.loop-octets.source)
    (g.S.ByteSource.gave c.read_piece.new.source)
    (g.S.ByteSource.ended c.read_piece.new.source) vs c.in_err-read_piece.field-0.0
    r.named (omega (arith, e.within)) c.piece_octets-size.ensures.exact refl i.gave
    (subst (λ (k : ℕ). GaveFault (field_at k) (g.S.ByteSource.gave c.loop-octets.source)
    (g.S.ByteSource.gave c.read_piece.new.source)
    (g.S.ByteSource.ended c.read_piece.new.source) c.in_err-read_piece.field-0.0)
    (length-take-le size octets fits) r.gave_wrong))

pub returns-clause-gave : goal.returns-clause-gave
returns-clause-gave g c = c.loop-octets.invariant.gave

-- the memory was refused

pub returns-in_err-samples-clause-size : goal.returns-in_err-samples-clause-size
returns-in_err-samples-clause-size g c =
    let p =
    err_from_is_err_and c.from_residual.result
    c.from_residual.ensures.1 in
    rw p.1 tt

pub returns-in_err-samples-clause-read : goal.returns-in_err-samples-clause-read
returns-in_err-samples-clause-read g c =
    let p =
    err_from_is_err_and c.from_residual.result
    c.from_residual.ensures.1 in
    rw p.1 tt

pub returns-in_err-samples-clause-gave : goal.returns-in_err-samples-clause-gave
returns-in_err-samples-clause-gave g c =
    let p =
    err_from_is_err_and c.from_residual.result
    c.from_residual.ensures.1 in
    rw p.1 tt

pub returns-in_err-samples-clause-fault : goal.returns-in_err-samples-clause-fault
returns-in_err-samples-clause-fault g c =
    let p =
    err_from_is_err_and c.from_residual.result
    c.from_residual.ensures.1 in
    rw (p.1, p.2) (fails_memory _ _)

pub returns-in_err-samples-clause-gave_wrong : goal.returns-in_err-samples-clause-gave_wrong
returns-in_err-samples-clause-gave_wrong g c =
    let p =
    err_from_is_err_and c.from_residual.result
    c.from_residual.ensures.1 in
    rw (p.1, p.2) (fault_memory _ _ _ _ (grew_none _))

pub returns-in_err-samples-clause-counted : goal.returns-in_err-samples-clause-counted
returns-in_err-samples-clause-counted g c =
    let p =
    err_from_is_err_and c.from_residual.result
    c.from_residual.ensures.1 in
    rw (p.1, p.2) refl

pub returns-in_err-extend_from_slice-clause-size : goal.returns-in_err-extend_from_slice-clause-size
returns-in_err-extend_from_slice-clause-size g c =
    let p =
    err_from_is_err_and c.from_residual-in_err-extend_from_slice.result
    c.from_residual-in_err-extend_from_slice.ensures.1 in
    rw p.1 tt

pub returns-in_err-extend_from_slice-clause-read : goal.returns-in_err-extend_from_slice-clause-read
returns-in_err-extend_from_slice-clause-read g c =
    let p =
    err_from_is_err_and c.from_residual-in_err-extend_from_slice.result
    c.from_residual-in_err-extend_from_slice.ensures.1 in
    rw p.1 tt

pub returns-in_err-extend_from_slice-clause-gave : goal.returns-in_err-extend_from_slice-clause-gave
returns-in_err-extend_from_slice-clause-gave g c =
    let p =
    err_from_is_err_and c.from_residual-in_err-extend_from_slice.result
    c.from_residual-in_err-extend_from_slice.ensures.1 in
    rw p.1 tt

pub returns-in_err-extend_from_slice-clause-fault : goal.returns-in_err-extend_from_slice-clause-fault
returns-in_err-extend_from_slice-clause-fault g c =
    let p =
    err_from_is_err_and c.from_residual-in_err-extend_from_slice.result
    c.from_residual-in_err-extend_from_slice.ensures.1 in
    rw (p.1, p.2) (fails_memory _ _)

pub returns-in_err-extend_from_slice-clause-gave_wrong : goal.returns-in_err-extend_from_slice-clause-gave_wrong
returns-in_err-extend_from_slice-clause-gave_wrong g c =
    let p =
    err_from_is_err_and c.from_residual-in_err-extend_from_slice.result
    c.from_residual-in_err-extend_from_slice.ensures.1 in
    rw (p.1, p.2)
    (fault_memory _ _ _ _
    (spelled_grew (bits_of c.args.format.now.depth) _ _ _
    (gave_samples (bits_of c.args.format.now.depth) _ _ _ c.loop-octets.samples.items
    c.read_piece.new.samples c.loop-octets.invariant.gave c.in_ok-read_piece.ensures.gave)))

pub returns-in_err-extend_from_slice-clause-counted : goal.returns-in_err-extend_from_slice-clause-counted
returns-in_err-extend_from_slice-clause-counted g c =
    let p =
    err_from_is_err_and c.from_residual-in_err-extend_from_slice.result
    c.from_residual-in_err-extend_from_slice.ensures.1 in
    rw (p.1, p.2) (c.in_ok-read_piece.ensures.counted ∙ c.loop-octets.invariant.failures)

-- the source failed

pub returns-in_err-read_piece-clause-size : goal.returns-in_err-read_piece-clause-size
returns-in_err-read_piece-clause-size g c =
    let p =
    err_from_is_err_and c.from_residual-in_err-read_piece.result
    c.from_residual-in_err-read_piece.ensures.1 in
    rw p.1 tt

pub returns-in_err-read_piece-clause-read : goal.returns-in_err-read_piece-clause-read
returns-in_err-read_piece-clause-read g c =
    let p =
    err_from_is_err_and c.from_residual-in_err-read_piece.result
    c.from_residual-in_err-read_piece.ensures.1 in
    rw p.1 tt

pub returns-in_err-read_piece-clause-gave : goal.returns-in_err-read_piece-clause-gave
returns-in_err-read_piece-clause-gave g c =
    let p =
    err_from_is_err_and c.from_residual-in_err-read_piece.result
    c.from_residual-in_err-read_piece.ensures.1 in
    rw p.1 tt
