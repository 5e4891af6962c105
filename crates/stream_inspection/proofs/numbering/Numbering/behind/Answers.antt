use Rattle.std.proofs.Common.{◌∙◌, Bool, ap, sym, ◌||◌}
use Rattle.stream_inspection.specs.Numbers.{is_high}
use Rattle.stream_inspection.proofs.NumberLaws.{numbering_more}
use Rattle.stream_inspection.proofs.numbering.Numbering.behind.Goals as goal

pub returns-then-self : goal.returns-then-self
returns-then-self c = λ own is.
    numbering_more c.args.self.now own c.args.packet.now is c.args.number.long c.args.number.short
    c.greatest.result c.greatest-2.result c.args.self.now.high c.requires.long c.requires.short
    c.greatest.ensures c.greatest-2.ensures
    (c.if-self.true
    ∙ sym (ap (λ (b : Bool). b || is_high c.args.packet.now.extended) c.if-self.true))

pub returns-else-self : goal.returns-else-self
returns-else-self c = λ own is.
    numbering_more c.args.self.now own c.args.packet.now is c.args.number.long c.args.number.short
    c.greatest.result c.greatest-2.result c.has_high.result c.requires.long c.requires.short
    c.greatest.ensures c.greatest-2.ensures
    (c.has_high.ensures
    ∙ sym (ap (λ (b : Bool). b || is_high c.args.packet.now.extended) c.if-self.false))
