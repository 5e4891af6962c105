use Rattle.std.proofs.Common.{◌≡◌, ℕ, length, take, ◌∙◌, arith}
use Rattle.std.proofs.lemmas.List.{length-take, length-take-le}
use Rattle.pcap_file.proofs.BlockReads.{front_cut, front_end, front_gives}
use Rattle.std.proofs.Common.{◌<◌, None, Some}
use Rattle.pcap_file.specs.NgReading.{front_at}
use Rattle.pcap_file.specs.declared.fault.RecordingFault.TheVariants.{Truncated}
use Rattle.pcap_file.proofs.Gave.{cut_part, end_part, gave_part}
use Rattle.pcap_file.proofs.blocks_reading.read_front.Goals as goal
use Rattle.st_format.proofs.Gave.{grew_all}
use Rattle.st_format.proofs.Parsing.{gave_all}

pub returns-then-count-eq0-clause-read : goal.returns-then-count-eq0-clause-read
returns-then-count-eq0-clause-read g c =
    let e = c.in_ok-count.ensures in
    front_end _ _ (take c.in_ok-count.count c.read_whole.new.buf)
    (omega (arith, length-take c.in_ok-count.count c.read_whole.new.buf, c.if-count-eq0.true))
    e.given (e.short (omega (arith, e.room, c.requires, c.if-count-eq0.true)))

pub returns-then-count-lt8-clause-fault : goal.returns-then-count-lt8-clause-fault
returns-then-count-lt8-clause-fault g c =
    let e = c.in_ok-count.ensures in
    let n : ℕ = c.in_ok-count.count in
    let count : length (take n c.read_whole.new.buf) ≡ n =
    length-take-le n c.read_whole.new.buf e.within in
    front_cut _ _ (take n c.read_whole.new.buf) (omega (arith, c.if-count-eq0.false))
    (omega (arith, c.if-count-lt8.true)) e.given
    (e.short (omega (arith, e.room, c.requires, c.if-count-lt8.true)))

pub returns-clause-read : goal.returns-clause-read
returns-clause-read g c =
    let e = c.in_ok-count.ensures in
    front_gives _ _ c.read_whole.new.buf (e.room ∙ c.requires)
    (gave_all _ _ _ _ e.given (omega (arith, e.room, c.requires, c.if-count-lt8.false)))

pub returns-then-count-eq0-clause-gave : goal.returns-then-count-eq0-clause-gave
returns-then-count-eq0-clause-gave g c =
    let e = c.in_ok-count.ensures in
    let given = take c.in_ok-count.count c.read_whole.new.buf in
    let none : length given ≡ 0 =
    omega (arith, length-take c.in_ok-count.count c.read_whole.new.buf, c.if-count-eq0.true) in
    end_part front_at None _ _ given _ (λ was left p over. front_end was left given none p over)
    e.gave (e.ended (omega (arith, e.room, c.requires, c.if-count-eq0.true)))

pub returns-then-count-lt8-clause-gave_wrong : goal.returns-then-count-lt8-clause-gave_wrong
returns-then-count-lt8-clause-gave_wrong g c =
    let e = c.in_ok-count.ensures in
    let n : ℕ = c.in_ok-count.count in
    let given = take n c.read_whole.new.buf in
    let count : length given ≡ n = length-take-le n c.read_whole.new.buf e.within in
    let some : 0 < length given = omega (arith, c.if-count-eq0.false) in
    let short : length given < 8 = omega (arith, c.if-count-lt8.true) in
    cut_part front_at Truncated _ _ given _
    (λ was left p over. front_cut was left given some short p over) e.gave
    (e.ended (omega (arith, e.room, c.requires, c.if-count-lt8.true)))

pub returns-clause-gave : goal.returns-clause-gave
returns-clause-gave g c =
    let e = c.in_ok-count.ensures in
    gave_part front_at (Some c.read_whole.new.buf) _ _ c.read_whole.new.buf
    (λ was left p. front_gives was left c.read_whole.new.buf (e.room ∙ c.requires) p)
    (grew_all _ _ c.in_ok-count.count c.read_whole.new.buf e.gave
    (omega (arith, e.room, c.requires, c.if-count-lt8.false)))
