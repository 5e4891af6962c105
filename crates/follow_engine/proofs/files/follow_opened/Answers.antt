use Rattle.std.proofs.Common.{◌∙◌, ◌∷◌, [], List, ap, subst, sym}
use Rattle.std.specs.List.{AllByRecursion}
use Rattle.recording_engines.specs.Files.{HasKnownOctets, IsReadByFlows}
use Rattle.path_receiver.specs.Took.{datagrams_since}
use Rattle.run_outcome.proofs.Printed.{on_err, on_ok}
use Rattle.run_outcome.proofs.Refusals.{if_err_map, of_refusal_map}
use Rattle.run_outcome.specs.Fault.{Accounts, counts}
use Rattle.side_by_side.specs.Sides.{Sides, begun_each, failures_each}
use Rattle.side_by_side.specs.declared.side.Side.{Side}
use Rattle.follow_engine.specs.Events.{Event, events_in}
use Rattle.follow_engine.specs.Running.{TellsEvents, TellsSome, running_of}
use Rattle.follow_engine.specs.Sides.{FollowsEntries, FollowsSides, FollowsUpTo}
use Rattle.follow_engine.proofs.Counted.{stops_read}
use Rattle.follow_engine.proofs.Cut.{refused_map}
use Rattle.follow_engine.proofs.Short.{up_to}
use Rattle.follow_engine.proofs.Beginnings.{begun_unfailed, follows_entries, len_same}
use Rattle.follow_engine.proofs.files.follow_opened.Goals as goal

pub new-source-requires : goal.new-source-requires
new-source-requires g c =
    rw c.replace-taken.ensures.value c.requires.begun

pub follow_sides-followed-requires-clause-unfailed : goal.follow_sides-followed-requires-clause-unfailed
follow_sides-followed-requires-clause-unfailed g c =
    let sides = c.args.sides.now.items in
    rw (c.new-source.ensures, c.replace-taken.ensures.value) (begun_unfailed sides c.requires.begun)

pub returns-clause-begun : goal.returns-clause-begun
returns-clause-begun g c =
    ap (λ (ss : List (Side _ _)). begun_each ss) c.into_sides.ensures.sides
    ∙ c.follow_sides-followed.ensures.begun
    ∙ ap (λ (s : Sides _ _). begun_each s.sides) c.new-source.ensures
    ∙ ap (λ (v : _). begun_each v.items) c.replace-taken.ensures.value

pub returns-clause-len : goal.returns-clause-len
returns-clause-len g c =
    len_same c.args.sides.now.items c.into_sides.result.items (returns-clause-begun g c)

pub returns-clause-known : goal.returns-clause-known
returns-clause-known g c =
    subst (λ (ss : List (Side _ _)).
    AllByRecursion (λ s. HasKnownOctets g.S.ByteSource.gave g.S.ByteSource.ended s.file) ss)
    (sym c.into_sides.ensures.sides) c.history.ensures.known

pub returns-clause-by_flows : goal.returns-clause-by_flows
returns-clause-by_flows g c =
    subst (λ (ss : List (Side _ _)). AllByRecursion (λ s. IsReadByFlows s.file) ss)
    (sym c.into_sides.ensures.sides) c.history.ensures.by_flows

pub returns-clause-followed : goal.returns-clause-followed
returns-clause-followed g c =
    let took = g.O.ByteSink.took in
    let takes = g.P.PictureSink.takes in
    let gave = g.S.ByteSource.gave in
    let ended = g.S.ByteSource.ended in
    let was = c.args.run.now in
    let run = c.follow_sides-followed.new.run in
    let from = c.new-source.result in
    let to = c.follow_sides-followed.new.source in
    let pictures = c.follow_sides-followed.new.pictures in
    let told = took c.follow_sides-followed.new.output in
    on_ok c.follow_sides-followed.result
    (FollowsSides takes from to was run c.args.pictures.now pictures (took c.args.output.now) told)
    (FollowsEntries gave ended takes was run c.args.pictures.now pictures (took c.args.output.now)
    told c.into_sides.result.items)
    (λ follows. follows_entries gave ended takes from to was run c.args.pictures.now pictures
    (took c.args.output.now) told c.into_sides.result.items
    (ap (λ (s : Sides _ _). s.came) c.new-source.ensures)
    (c.follow_sides-followed.ensures.steering
    ∙ ap (λ (s : Sides _ _). s.steering) c.new-source.ensures) (sym c.into_sides.ensures.sides)
    follows (c.history.ensures.all follows.over)) c.follow_sides-followed.ensures.followed

pub returns-clause-stopped : goal.returns-clause-stopped
returns-clause-stopped g c =
    if_err_map c.follow_sides-followed.result
    (λ f. of_refusal_map f
    (λ r. stops_read g.S.ByteSource.gave g.S.ByteSource.ended c.args.run.now.steering
    c.new-source.result c.follow_sides-followed.new.source c.into_sides.result.items r
    c.into_sides.ensures.facts c.history.ensures.known
    (ap (λ (s : Sides _ _). s.came) c.new-source.ensures)
    (c.follow_sides-followed.ensures.steering
    ∙ ap (λ (s : Sides _ _). s.steering) c.new-source.ensures)
    (sym c.into_sides.ensures.sides))) c.follow_sides-followed.ensures.stopped

pub returns-clause-failures : goal.returns-clause-failures
returns-clause-failures g c =
    let failed = g.S.ByteSource.failures in
    let pictures = counts (g.P.PictureSink.failures c.args.pictures.now)
    (g.P.PictureSink.failures c.follow_sides-followed.new.pictures) in
    let output = counts (g.O.ByteSink.failures c.args.output.now)
    (g.O.ByteSink.failures c.follow_sides-followed.new.output) in
    let first : List (Side _ _) = c.args.sides.now.items in
    let same =
    ap (λ (s : Sides _ _). s.sides) c.new-source.ensures
    ∙ ap (λ (v : _). v.items) c.replace-taken.ensures.value in
    subst (λ (ss : List (Side _ _)). Accounts c.follow_sides-followed.result
    (counts (failures_each failed first) (failures_each failed ss) ∷ pictures ∷ output ∷ []))
    (sym c.into_sides.ensures.sides)
    (subst (λ (ss : List (Side _ _)). Accounts c.follow_sides-followed.result
    (counts (failures_each failed ss) (failures_each failed c.follow_sides-followed.new.source.sides)
    ∷ pictures ∷ output ∷ [])) same c.follow_sides-followed.ensures.failures)

pub returns-clause-before : goal.returns-clause-before
returns-clause-before g c =
    let took = g.O.ByteSink.took in
    let takes = g.P.PictureSink.takes in
    let was = c.args.run.now in
    let from = c.new-source.result in
    let to = c.follow_sides-followed.new.source in
    let Tells : List Event → Type 0 =
    TellsEvents takes c.args.pictures.now c.follow_sides-followed.new.pictures
    (took c.args.output.now)
    (took c.follow_sides-followed.new.output) in
    if_err_map c.follow_sides-followed.result
    (λ f. refused_map (Tells (events_in was.is_eager (running_of was)
    (datagrams_since from.came to.came))) _ f
    (up_to g.S.ByteSource.gave g.S.ByteSource.ended from to was c.into_sides.result.items Tells
    c.into_sides.ensures.facts c.history.ensures.known
    (ap (λ (s : Sides _ _). s.came) c.new-source.ensures)
    (c.follow_sides-followed.ensures.steering
    ∙ ap (λ (s : Sides _ _). s.steering) c.new-source.ensures) (sym c.into_sides.ensures.sides)))
    c.follow_sides-followed.ensures.before

pub returns-clause-part : goal.returns-clause-part
returns-clause-part g c =
    let took = g.O.ByteSink.took in
    let was = c.args.run.now in
    let from = c.new-source.result in
    let to = c.follow_sides-followed.new.source in
    let Tells : List Event → Type 0 =
    TellsSome g.P.PictureSink.takes g.P.PictureSink.fails c.args.pictures.now
    c.follow_sides-followed.new.pictures (took c.args.output.now)
    (took c.follow_sides-followed.new.output) in
    on_err c.follow_sides-followed.result
    (Tells (events_in was.is_eager (running_of was) (datagrams_since from.came to.came)))
    (FollowsUpTo g.S.ByteSource.gave g.S.ByteSource.ended was c.into_sides.result.items Tells)
    (up_to g.S.ByteSource.gave g.S.ByteSource.ended from to was c.into_sides.result.items Tells
    c.into_sides.ensures.facts c.history.ensures.known
    (ap (λ (s : Sides _ _). s.came) c.new-source.ensures)
    (c.follow_sides-followed.ensures.steering
    ∙ ap (λ (s : Sides _ _). s.steering) c.new-source.ensures) (sym c.into_sides.ensures.sides))
    c.follow_sides-followed.ensures.part
