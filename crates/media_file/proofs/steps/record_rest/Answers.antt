use Rattle.std.proofs.Common.{ℕ, ◌+◌, List, drop, ap, refl, subst}
use Rattle.std.proofs.lemmas.List.{length-append, take-append-drop}
use Rattle.st_format.specs.Device.{CountsOne}
use Rattle.std.proofs.Common.{◌≡◌, ◌<◌, ◌≤◌, length, take, ◌∙◌, sym, arith}
use Rattle.std.proofs.lemmas.List.{length-take, length-take-le}
use Rattle.std.proofs.lemmas.Result.{err_from_is_err_and}
use Rattle.media_file.proofs.Rests.{cut_head, bad_head, cut_octets, part_bad}
use Rattle.media_file.specs.declared.fault.FileFault.TheVariants.{Device, Truncated}
use Rattle.media_file.proofs.Rests.{part_head, part_octets}
use Rattle.media_file.proofs.Givings.{wrong_head, wrong_octets, wrong_path}
use Rattle.media_file.proofs.steps.record_rest.Goals as goal
use Rattle.st_format.proofs.Gave.{grew_all}
use Rattle.st_format.proofs.Parsing.{gave_all}

pub returns-then-branch-lt-REST-clause-fault : goal.returns-then-branch-lt-REST-clause-fault
returns-then-branch-lt-REST-clause-fault g c =
    let n = c.in_ok-read_whole.field-0 in
    let e = c.in_ok-read_whole.ensures in
    let lt : n < 10 = omega arith in
    cut_head c.args.first _ _ (take n c.read_whole.new.buf) e.given
    (e.short (omega (arith, e.room))) (omega (arith, length-take n c.read_whole.new.buf))

pub returns-in_err-head-clause-fault : goal.returns-in_err-head-clause-fault
returns-in_err-head-clause-fault g c =
    let p =
    err_from_is_err_and c.from_residual-in_err-head.result
    c.from_residual-in_err-head.ensures.1 in
    let e = c.in_ok-read_whole.ensures in
    let ten : length c.read_whole.new.buf ≤ c.in_ok-read_whole.field-0 = omega (arith, e.room) in
    rw (p.1, p.2)
    (bad_head c.in_err-head.field-0.0 c.args.first _ _ c.read_whole.new.buf
    (gave_all _ _ _ _ e.given ten) e.room
    (sym c.in_err-head.ensures.exact) c.in_err-head.ensures.fault)

pub returns-then-branch-head-clause-fault : goal.returns-then-branch-head-clause-fault
returns-then-branch-head-clause-fault g c =
    let e = c.in_ok-read_whole.ensures in
    let ten : length c.read_whole.new.buf ≤ c.in_ok-read_whole.field-0 = omega (arith, e.room) in
    let k = c.in_ok-read_whole-2.field-0 in
    let e2 = c.in_ok-read_whole-2.ensures in
    let lt : k < c.in_ok-head.head.length = omega arith in
    let room : length c.read_whole-2.new.buf ≡ c.in_ok-head.head.length =
    e2.room ∙ length-take-le c.in_ok-head.head.length c.args.buf.now
    (omega (arith, c.in_ok-head.ensures.spelled.length_fits)) in
    cut_octets c.args.first _ _ _ c.read_whole.new.buf
    (take k c.read_whole-2.new.buf) c.in_ok-head.head (gave_all _ _ _ _ e.given ten) e.room
    (sym c.in_ok-head.ensures.exact) e2.given (e2.short (omega arith))
    (omega (arith, length-take k c.read_whole-2.new.buf))

pub returns-in_err-read_whole-clause-part : goal.returns-in_err-read_whole-clause-part
returns-in_err-read_whole-clause-part g c =
    let p = err_from_is_err_and c.from_residual.result c.from_residual.ensures.1 in
    let e = c.in_err-read_whole.ensures.fault in
    let lt : e.count < 10 = omega (arith, e.short, c.read_whole.ensures.room) in
    rw (p.1)
    (part_head c.args.first _ _ (take e.count c.read_whole.new.buf) e.given
    (omega (arith, length-take e.count c.read_whole.new.buf)))

pub returns-then-branch-lt-REST-clause-part : goal.returns-then-branch-lt-REST-clause-part
returns-then-branch-lt-REST-clause-part g c =
    let n = c.in_ok-read_whole.field-0 in
    let lt : n < 10 = omega arith in
    part_head c.args.first _ _ (take n c.read_whole.new.buf) c.in_ok-read_whole.ensures.given
    (omega (arith, length-take n c.read_whole.new.buf))

pub returns-in_err-head-clause-part : goal.returns-in_err-head-clause-part
returns-in_err-head-clause-part g c =
    let p =
    err_from_is_err_and c.from_residual-in_err-head.result
    c.from_residual-in_err-head.ensures.1 in
    let e = c.in_ok-read_whole.ensures in
    let ten : length c.read_whole.new.buf ≤ c.in_ok-read_whole.field-0 = omega (arith, e.room) in
    rw (p.1)
    (part_bad c.in_err-head.field-0.0 c.args.first _ _ c.read_whole.new.buf
    (gave_all _ _ _ _ e.given ten) e.room (sym c.in_err-head.ensures.exact))

pub returns-in_err-read_whole-2-clause-part : goal.returns-in_err-read_whole-2-clause-part
returns-in_err-read_whole-2-clause-part g c =
    let p =
    err_from_is_err_and c.from_residual-in_err-read_whole-2.result
    c.from_residual-in_err-read_whole-2.ensures.1 in
    let e = c.in_ok-read_whole.ensures in
    let ten : length c.read_whole.new.buf ≤ c.in_ok-read_whole.field-0 = omega (arith, e.room) in
    let e2 = c.in_err-read_whole-2.ensures.fault in
    let room : length c.read_whole-2.new.buf ≡ c.in_ok-head.head.length =
    c.read_whole-2.ensures.room ∙ length-take-le c.in_ok-head.head.length c.args.buf.now
    (omega (arith, c.in_ok-head.ensures.spelled.length_fits)) in
    let lt : e2.count < c.in_ok-head.head.length = omega (arith, e2.short, room) in
    rw (p.1)
    (part_octets c.args.first _ _ _ c.read_whole.new.buf
    (take e2.count c.read_whole-2.new.buf) c.in_ok-head.head
    (gave_all _ _ _ _ e.given ten) e.room (sym c.in_ok-head.ensures.exact) e2.given
    (omega (arith, length-take e2.count c.read_whole-2.new.buf)))

pub returns-then-branch-head-clause-part : goal.returns-then-branch-head-clause-part
returns-then-branch-head-clause-part g c =
    let e = c.in_ok-read_whole.ensures in
    let ten : length c.read_whole.new.buf ≤ c.in_ok-read_whole.field-0 = omega (arith, e.room) in
    let k = c.in_ok-read_whole-2.field-0 in
    let lt : k < c.in_ok-head.head.length = omega arith in
    part_octets c.args.first _ _ _ c.read_whole.new.buf
    (take k c.read_whole-2.new.buf) c.in_ok-head.head (gave_all _ _ _ _ e.given ten) e.room
    (sym c.in_ok-head.ensures.exact) c.in_ok-read_whole-2.ensures.given
    (omega (arith, length-take k c.read_whole-2.new.buf))

pub returns-in_err-read_whole-clause-room : goal.returns-in_err-read_whole-clause-room
returns-in_err-read_whole-clause-room g c = refl

pub returns-in_err-read_whole-clause-counted : goal.returns-in_err-read_whole-clause-counted
returns-in_err-read_whole-clause-counted g c =
    let p =
    err_from_is_err_and c.from_residual.result c.from_residual.ensures.1 in
    rw (p.1, p.2) c.in_err-read_whole.ensures.counted

pub returns-then-branch-lt-REST-clause-room : goal.returns-then-branch-lt-REST-clause-room
returns-then-branch-lt-REST-clause-room g c = refl

pub returns-then-branch-lt-REST-clause-counted : goal.returns-then-branch-lt-REST-clause-counted
returns-then-branch-lt-REST-clause-counted g c = c.in_ok-read_whole.ensures.counted

pub returns-in_err-head-clause-room : goal.returns-in_err-head-clause-room
returns-in_err-head-clause-room g c = refl

pub returns-in_err-head-clause-counted : goal.returns-in_err-head-clause-counted
returns-in_err-head-clause-counted g c =
    let p =
    err_from_is_err_and c.from_residual-in_err-head.result c.from_residual-in_err-head.ensures.1 in
    rw (p.1, p.2, c.in_err-head.ensures.fault) c.in_ok-read_whole.ensures.counted

pub returns-in_err-read_whole-2-clause-room : goal.returns-in_err-read_whole-2-clause-room
returns-in_err-read_whole-2-clause-room g c =
    let n : ℕ = c.in_ok-head.head.length in
    let buf : List ℕ = c.args.buf.now in
    length-append c.read_whole-2.new.buf (drop n buf)
    ∙ ap (λ (k : ℕ). k + length (drop n buf)) c.read_whole-2.ensures.room
    ∙ sym (length-append (take n buf) (drop n buf))
    ∙ ap (λ (xs : List ℕ). length xs) (take-append-drop n buf)

pub returns-in_err-read_whole-2-clause-counted : goal.returns-in_err-read_whole-2-clause-counted
returns-in_err-read_whole-2-clause-counted g c =
    let p =
    err_from_is_err_and c.from_residual-in_err-read_whole-2.result
    c.from_residual-in_err-read_whole-2.ensures.1 in
    rw (p.1, p.2)
    (subst (λ (n : ℕ). CountsOne n (g.S.ByteSource.failures c.read_whole-2.new.source))
    c.in_ok-read_whole.ensures.counted c.in_err-read_whole-2.ensures.counted)

pub returns-then-branch-head-clause-room : goal.returns-then-branch-head-clause-room
returns-then-branch-head-clause-room g c =
    let n : ℕ = c.in_ok-head.head.length in
    let buf : List ℕ = c.args.buf.now in
    length-append c.read_whole-2.new.buf (drop n buf)
    ∙ ap (λ (k : ℕ). k + length (drop n buf)) c.read_whole-2.ensures.room
    ∙ sym (length-append (take n buf) (drop n buf))
    ∙ ap (λ (xs : List ℕ). length xs) (take-append-drop n buf)

pub returns-then-branch-head-clause-counted : goal.returns-then-branch-head-clause-counted
returns-then-branch-head-clause-counted g c =
    c.in_ok-read_whole-2.ensures.counted ∙ c.in_ok-read_whole.ensures.counted

pub returns-clause-room : goal.returns-clause-room
returns-clause-room g c =
    let n : ℕ = c.in_ok-head.head.length in
    let buf : List ℕ = c.args.buf.now in
    length-append c.read_whole-2.new.buf (drop n buf)
    ∙ ap (λ (k : ℕ). k + length (drop n buf)) c.read_whole-2.ensures.room
    ∙ sym (length-append (take n buf) (drop n buf))
    ∙ ap (λ (xs : List ℕ). length xs) (take-append-drop n buf)

pub returns-clause-counted : goal.returns-clause-counted
returns-clause-counted g c =
    c.in_ok-read_whole-2.ensures.counted ∙ c.in_ok-read_whole.ensures.counted

pub slice_bounds-read_whole-end-2 : goal.slice_bounds-read_whole-end-2
slice_bounds-read_whole-end-2 g c =
    omega (arith, c.requires, c.in_ok-head.ensures.spelled.length_fits)

pub slice_bounds-read_whole-end-3 : goal.slice_bounds-read_whole-end-3
slice_bounds-read_whole-end-3 g c =
    sym (length-take-le c.in_ok-head.head.length c.args.buf.now
    (omega (arith, c.requires, c.in_ok-head.ensures.spelled.length_fits)))

pub returns-clause-within : goal.returns-clause-within
returns-clause-within g c = c.in_ok-head.ensures.spelled.length_fits

pub returns-in_err-read_whole-clause-wrong : goal.returns-in_err-read_whole-clause-wrong
returns-in_err-read_whole-clause-wrong g c =
    let p = err_from_is_err_and c.from_residual.result c.from_residual.ensures.1 in
    let e = c.in_err-read_whole.ensures.part in
    let lt : e.count < 10 = omega (arith, e.short, c.read_whole.ensures.room) in
    rw (p.1, p.2)
    (wrong_head Device c.args.first _ _ _ _ (take e.count c.read_whole.new.buf) e.given e.grown
    (omega (arith, length-take e.count c.read_whole.new.buf)) tt)

pub returns-then-branch-lt-REST-clause-wrong : goal.returns-then-branch-lt-REST-clause-wrong
returns-then-branch-lt-REST-clause-wrong g c =
    let n = c.in_ok-read_whole.field-0 in
    let e = c.in_ok-read_whole.ensures in
    let lt : n < 10 = omega arith in
    wrong_head Truncated c.args.first _ _ _ _ (take n c.read_whole.new.buf) e.given e.gave
    (omega (arith, length-take n c.read_whole.new.buf)) refl

pub returns-in_err-head-clause-wrong : goal.returns-in_err-head-clause-wrong
returns-in_err-head-clause-wrong g c =
    let p =
    err_from_is_err_and c.from_residual-in_err-head.result
    c.from_residual-in_err-head.ensures.1 in
    let e = c.in_ok-read_whole.ensures in
    let ten : length c.read_whole.new.buf ≤ c.in_ok-read_whole.field-0 = omega (arith, e.room) in
    rw (p.1, p.2)
    (wrong_path c.in_err-head.field-0.0 c.args.first _ _ _ _ c.read_whole.new.buf
    (gave_all _ _ _ _ e.given ten) (grew_all _ _ _ _ e.gave ten) e.room
    (sym c.in_err-head.ensures.exact))

pub returns-in_err-read_whole-2-clause-wrong : goal.returns-in_err-read_whole-2-clause-wrong
returns-in_err-read_whole-2-clause-wrong g c =
    let p =
    err_from_is_err_and c.from_residual-in_err-read_whole-2.result
    c.from_residual-in_err-read_whole-2.ensures.1 in
    let e = c.in_ok-read_whole.ensures in
    let ten : length c.read_whole.new.buf ≤ c.in_ok-read_whole.field-0 = omega (arith, e.room) in
    let e2 = c.in_err-read_whole-2.ensures.part in
    let room : length c.read_whole-2.new.buf ≡ c.in_ok-head.head.length =
    c.read_whole-2.ensures.room ∙ length-take-le c.in_ok-head.head.length c.args.buf.now
    (omega (arith, c.in_ok-head.ensures.spelled.length_fits)) in
    let lt : e2.count < c.in_ok-head.head.length = omega (arith, e2.short, room) in
    rw (p.1, p.2)
    (wrong_octets Device c.args.first _ _ _ _ _ _ c.read_whole.new.buf
    (take e2.count c.read_whole-2.new.buf) c.in_ok-head.head
    (gave_all _ _ _ _ e.given ten) (grew_all _ _ _ _ e.gave ten) e.room
    (sym c.in_ok-head.ensures.exact) e2.given e2.grown
    (omega (arith, length-take e2.count c.read_whole-2.new.buf)) tt)

pub returns-then-branch-head-clause-wrong : goal.returns-then-branch-head-clause-wrong
returns-then-branch-head-clause-wrong g c =
    let e = c.in_ok-read_whole.ensures in
    let ten : length c.read_whole.new.buf ≤ c.in_ok-read_whole.field-0 = omega (arith, e.room) in
    let k = c.in_ok-read_whole-2.field-0 in
    let e2 = c.in_ok-read_whole-2.ensures in
    let lt : k < c.in_ok-head.head.length = omega arith in
    wrong_octets Truncated c.args.first _ _ _ _ _ _ c.read_whole.new.buf
    (take k c.read_whole-2.new.buf) c.in_ok-head.head (gave_all _ _ _ _ e.given ten)
    (grew_all _ _ _ _ e.gave ten) e.room
    (sym c.in_ok-head.ensures.exact) e2.given e2.gave
    (omega (arith, length-take k c.read_whole-2.new.buf)) refl

-- where a call failed, what succeeds says nothing

pub returns-in_err-read_whole-clause-within : goal.returns-in_err-read_whole-clause-within
returns-in_err-read_whole-clause-within g c =
    let p = err_from_is_err_and c.from_residual.result c.from_residual.ensures.1 in
    rw p.1 tt

pub returns-in_err-read_whole-clause-read : goal.returns-in_err-read_whole-clause-read
returns-in_err-read_whole-clause-read g c =
    let p = err_from_is_err_and c.from_residual.result c.from_residual.ensures.1 in
    rw p.1 tt

pub returns-in_err-read_whole-clause-gave : goal.returns-in_err-read_whole-clause-gave
returns-in_err-read_whole-clause-gave g c =
    let p = err_from_is_err_and c.from_residual.result c.from_residual.ensures.1 in
    rw p.1 tt

pub returns-in_err-head-clause-within : goal.returns-in_err-head-clause-within
returns-in_err-head-clause-within g c =
    let p =
    err_from_is_err_and c.from_residual-in_err-head.result
    c.from_residual-in_err-head.ensures.1 in
    rw p.1 tt

pub returns-in_err-head-clause-read : goal.returns-in_err-head-clause-read
returns-in_err-head-clause-read g c =
    let p =
    err_from_is_err_and c.from_residual-in_err-head.result
    c.from_residual-in_err-head.ensures.1 in
    rw p.1 tt

pub returns-in_err-head-clause-gave : goal.returns-in_err-head-clause-gave
returns-in_err-head-clause-gave g c =
    let p =
    err_from_is_err_and c.from_residual-in_err-head.result
    c.from_residual-in_err-head.ensures.1 in
    rw p.1 tt

pub returns-in_err-read_whole-2-clause-within : goal.returns-in_err-read_whole-2-clause-within
returns-in_err-read_whole-2-clause-within g c =
    let p =
    err_from_is_err_and c.from_residual-in_err-read_whole-2.result
    c.from_residual-in_err-read_whole-2.ensures.1 in
    rw p.1 tt

pub returns-in_err-read_whole-2-clause-read : goal.returns-in_err-read_whole-2-clause-read
returns-in_err-read_whole-2-clause-read g c =
    let p =
    err_from_is_err_and c.from_residual-in_err-read_whole-2.result
    c.from_residual-in_err-read_whole-2.ensures.1 in
    rw p.1 tt

pub returns-in_err-read_whole-2-clause-gave : goal.returns-in_err-read_whole-2-clause-gave
returns-in_err-read_whole-2-clause-gave g c =
    let p =
    err_from_is_err_and c.from_residual-in_err-read_whole-2.result
    c.from_residual-in_err-read_whole-2.ensures.1 in
    rw p.1 tt
