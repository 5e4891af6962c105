use Rattle.std.proofs.Common.{◌≡◌, ◌∙◌, ◌≤◌, List, get_or, length, subst, sym}
use Rattle.recording_counts.specs.declared.stream.StreamCount.{StreamCount}
use Rattle.stream_inspection.proofs.NumberLaws.{never_absent, told_long, told_short}
use Rattle.stream_inspection.proofs.stream_tables.StreamTables.told.Goals as goal

pub returns-then-contains : goal.returns-then-contains
returns-then-contains g c = λ packets are lt is.
    told_long g.row.A.Denot packets c.args.self.now are c.args.place c.args.long.now lt is
    (sym c.contains.ensures ∙ c.if-contains.true)

pub returns-in-Some : goal.returns-in-Some
returns-in-Some g c = λ packets are lt is.
    told_short g.row.A.Denot packets c.args.self.now are c.args.place c.args.long.now lt is
    c.in-Some.short.now (sym c.contains.ensures ∙ c.if-contains.false)
    (subst (λ (l : List (StreamCount g.row.A.Denot)).
    c.in-Some.short.now ≡ get_or l c.args.place c.in-Some.short.now) c.streams.ensures
    c.in-Some.ensures.lookup.1)

pub returns-in-None : goal.returns-in-None
returns-in-None g c = λ packets are lt is.
    absurd (never_absent g.row.A.Denot packets c.args.self.now are c.args.place c.args.long.now lt
    is
    (subst (λ (l : List (StreamCount g.row.A.Denot)). length l ≤ c.args.place)
    c.streams.ensures c.in-None.ensures.lookup.3))
