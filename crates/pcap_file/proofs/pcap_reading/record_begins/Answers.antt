use Rattle.std.proofs.Common.{◌≡◌, ℕ, length, take, Option, Some, sym, subst, arith}
use Rattle.std.proofs.lemmas.List.{length-take, length-take-le}
use Rattle.pcap_file.specs.declared.pcap.PacketHead.{PacketHead}
use Rattle.st_format.specs.Given.{GaveValue, Takes}
use Rattle.pcap_file.specs.PcapReading.{head_at}
use Rattle.pcap_file.proofs.PcapReads.{head_cut, head_end, head_gives}
use Rattle.std.proofs.Common.{◌<◌, None}
use Rattle.pcap_file.specs.declared.fault.RecordingFault.TheVariants.{Truncated}
use Rattle.pcap_file.proofs.Gave.{cut_part, end_part, gave_part}
use Rattle.pcap_file.proofs.pcap_reading.record_begins.Goals as goal
use Rattle.st_format.proofs.Gave.{grew_all}
use Rattle.st_format.proofs.Parsing.{gave_all}

pub returns-then-count-eq0-clause-read : goal.returns-then-count-eq0-clause-read
returns-then-count-eq0-clause-read g c =
    let e = c.in_ok-count.ensures in
    head_end c.args.file.now _ _ (take c.in_ok-count.count c.read_whole.new.buf)
    (omega (arith, length-take c.in_ok-count.count c.read_whole.new.buf, c.if-count-eq0.true))
    e.given (e.short (omega (arith, e.room, c.if-count-eq0.true)))

pub returns-then-count-lt16-clause-fault : goal.returns-then-count-lt16-clause-fault
returns-then-count-lt16-clause-fault g c =
    let e = c.in_ok-count.ensures in
    let n : ℕ = c.in_ok-count.count in
    let count : length (take n c.read_whole.new.buf) ≡ n =
    length-take-le n c.read_whole.new.buf e.within in
    head_cut c.args.file.now _ _ (take n c.read_whole.new.buf)
    (omega (arith, c.if-count-eq0.false)) (omega (arith, c.if-count-lt16.true)) e.given
    (e.short (omega (arith, e.room, c.if-count-lt16.true)))

pub returns-clause-read : goal.returns-clause-read
returns-clause-read g c =
    let e = c.in_ok-count.ensures in
    subst (λ (x : PacketHead). Takes (head_at c.args.file.now)
    (g.S.ByteSource.to_give c.args.source.now) (g.S.ByteSource.to_give c.read_whole.new.source)
    (let o : Option PacketHead = Some x in o)) (sym c.read_record_head.ensures.exact)
    (head_gives c.args.file.now _ _ c.read_whole.new.buf e.room
    (gave_all _ _ _ _ e.given (omega (arith, e.room, c.if-count-lt16.false))))

pub returns-then-count-eq0-clause-gave : goal.returns-then-count-eq0-clause-gave
returns-then-count-eq0-clause-gave g c =
    let e = c.in_ok-count.ensures in
    let given = take c.in_ok-count.count c.read_whole.new.buf in
    let none : length given ≡ 0 =
    omega (arith, length-take c.in_ok-count.count c.read_whole.new.buf, c.if-count-eq0.true) in
    end_part (head_at c.args.file.now) None _ _ given _
    (λ was left p over. head_end c.args.file.now was left given none p over) e.gave
    (e.ended (omega (arith, e.room, c.if-count-eq0.true)))

pub returns-then-count-lt16-clause-gave_wrong : goal.returns-then-count-lt16-clause-gave_wrong
returns-then-count-lt16-clause-gave_wrong g c =
    let e = c.in_ok-count.ensures in
    let n : ℕ = c.in_ok-count.count in
    let given = take n c.read_whole.new.buf in
    let count : length given ≡ n = length-take-le n c.read_whole.new.buf e.within in
    let some : 0 < length given = omega (arith, c.if-count-eq0.false) in
    let short : length given < 16 = omega (arith, c.if-count-lt16.true) in
    cut_part (head_at c.args.file.now) Truncated _ _ given _
    (λ was left p over. head_cut c.args.file.now was left given some short p over) e.gave
    (e.ended (omega (arith, e.room, c.if-count-lt16.true)))

pub returns-clause-gave : goal.returns-clause-gave
returns-clause-gave g c =
    let e = c.in_ok-count.ensures in
    subst (λ (x : PacketHead). GaveValue (head_at c.args.file.now)
    (g.S.ByteSource.gave c.args.source.now) (g.S.ByteSource.gave c.read_whole.new.source)
    (let o : Option PacketHead = Some x in o)) (sym c.read_record_head.ensures.exact)
    (gave_part (head_at c.args.file.now) _ _ _ c.read_whole.new.buf
    (λ was left p. head_gives c.args.file.now was left c.read_whole.new.buf e.room p)
    (grew_all _ _ c.in_ok-count.count c.read_whole.new.buf e.gave
    (omega (arith, e.room, c.if-count-lt16.false))))
