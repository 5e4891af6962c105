use Rattle.std.proofs.Common.{inl, inr, ℕ, List, [], ◌∷◌, ◌++◌, length, ap, subst, refl, ◌∙◌}
use Rattle.std.proofs.Common.{Err, Option, Result}
use Rattle.std.specs.List.{zip}
use Rattle.std.specs.Option.{option_copied}
use Rattle.flow.specs.declared.flows.Flows.{Flows}
use Rattle.media_file.specs.Fronts.{front_text}
use Rattle.media_file.specs.declared.front.Version.TheVariants.{Two}
use Rattle.run_outcome.specs.Line.{line_text}
use Rattle.run_outcome.specs.Moments.{WasRead}
use Rattle.run_outcome.specs.Text.{GivesText}
use Rattle.run_outcome.specs.declared.fault.Fault.{Fault}
use Rattle.run_outcome.specs.declared.line.Line.TheVariants.{Recorded}
use Rattle.run_outcome.proofs.Printed.{none_printed, part_printed, whenever}
use Rattle.run_outcome.proofs.Refusals.{none_refused, of_refusal_map}
use Rattle.run_outcome.proofs.Blaming.{failed_one}
use Rattle.run_outcome.proofs.SaidTexts.{few_of}
use Rattle.std.proofs.lemmas.Result.{err_from_is_err_and}
use Rattle.recording_engines.specs.Files.{AllOpened, ended_by, gave_by}
use Rattle.recording_engines.specs.Imported.{AsksFlows, Imports, IsImportFlowsRefusal}
use Rattle.recording_engines.specs.declared.importing.ImportCounts.{ImportCounts}
use Rattle.recording_engines.proofs.Blames.{blames_files, blames_joined, blames_output}
use Rattle.recording_engines.proofs.Quiet.{if_refused, never_refused, of_joining}
use Rattle.recording_engines.proofs.Endings.{given_read, has_imported, has_stopped, imports}
use Rattle.recording_engines.proofs.Endings.{opened_fresh, opened_ready, taken_of}
use Rattle.recording_engines.proofs.Lengths.{taken_length}
use Rattle.recording_engines.specs.Progress.{StopsUpTo}
use Rattle.recording_engines.proofs.Stopped.{all_imported, front_imported, part_imported}
use Rattle.st_format.specs.Device.{Failed, GrowsPart}
use Rattle.recording_engines.proofs.importing.import.Goals as goal

pub open_all-requires-clause-count : goal.open_all-requires-clause-count
open_all-requires-clause-count g c =
    ap (λ (l : List (Option Flows)). length l) c.deref-2.ensures.value
    ∙ taken_length c.in_ok-flows.flows (length c.args.files.now) c.in_ok-each.each.items
    c.in_ok-each.ensures

pub join_all-requires-clause-ready : goal.join_all-requires-clause-ready
join_all-requires-clause-ready g c =
    opened_ready g.S.ByteSource.gave c.deref-2.result.now c.args.files.now c.open_all.new.files
    c.in_ok-open_all.ensures.opened

pub join_all-requires-clause-fresh : goal.join_all-requires-clause-fresh
join_all-requires-clause-fresh g c =
    opened_fresh g.S.ByteSource.gave c.deref-2.result.now c.args.files.now c.open_all.new.files
    c.in_ok-open_all.ensures.opened

pub returns-clause-imported : goal.returns-clause-imported
returns-clause-imported g c =
    let gave = g.S.ByteSource.gave in
    let ended = g.S.ByteSource.ended in
    let took = g.K.ByteSink.took in
    let shown = g.O.ByteSink.took in
    let olds = c.args.files.now in
    let mids = c.open_all.new.files in
    let news = c.join_all.new.files in
    let each = c.in_ok-each.each.items in
    let text = c.in_ok-said.said.items in
    let r = c.in_ok-counts.counts in
    let opened =
    subst (λ (l : List (Option Flows)). AllOpened gave l olds mids) c.deref-2.ensures.value
    c.in_ok-open_all.ensures.opened in
    let front =
    c.in_ok-write_front.ensures.took
    ∙ ap (λ (l : List ℕ). took c.args.capture.now ++ front_text Two l) c.deref-3.ensures.value in
    let has =
    has_imported gave ended each olds mids news text (took c.args.capture.now)
    (took c.write_front.new.sink) (took c.join_all.new.capture) (record { a = r.a; b = r.b })
    opened c.in_ok-counts.ensures.begun c.in_ok-counts.ensures.known
    c.in_ok-counts.ensures.by_flows front c.in_ok-counts.ensures.joined in
    let a = option_copied c.args.wanted.a in
    let b = option_copied c.args.wanted.b in
    let asked =
    subst (λ (l : List ℕ). AsksFlows a b l c.in_ok-flows.flows) c.deref.ensures.value
    c.in_ok-flows.ensures.asked in
    let taken =
    taken_of c.in_ok-flows.flows olds news each
    (c.in_ok-counts.ensures.files ∙ c.in_ok-open_all.ensures.len) c.in_ok-each.ensures in
    let Said =
    GivesText 65535 (g.D.ByteSource.gave c.args.sdp.now)
    (g.D.ByteSource.gave c.read_checked.new.source)
    (g.D.ByteSource.ended c.read_checked.new.source) in
    imports gave ended a b Said olds news each c.in_ok-flows.flows text
    (took c.args.capture.now) (took c.join_all.new.capture) (shown c.args.output.now)
    (shown c.print.new.output) r c.total.result has c.in_ok-said.ensures.read
    (c.in_ok-said.ensures.says text (given_read c.in_ok-said.ensures.read)) asked taken
    c.in_ok-counts.ensures.left c.total.ensures.all c.in_ok-print.ensures.printed

pub returns-in_err-flows-clause-refusal : goal.returns-in_err-flows-clause-refusal
returns-in_err-flows-clause-refusal g c =
    let text = c.in_ok-said.said.items in
    let p = err_from_is_err_and c.from_residual-in_err-flows.result
    c.from_residual-in_err-flows.ensures.1 in
    rw (p.1, p.2)
    (of_refusal_map c.in_err-flows.field-0.0
    (λ r is. inr (
      text,
      c.in_ok-said.ensures.read,
      c.in_ok-said.ensures.says text (given_read c.in_ok-said.ensures.read),
      inl (
        refl,
        subst (λ (l : List ℕ). IsImportFlowsRefusal (option_copied c.args.wanted.a)
            (option_copied c.args.wanted.b) l r) c.deref.ensures.value is,
      ),
    ))
    c.in_err-flows.ensures.refusal)

pub returns-in_err-open_all-clause-refusal : goal.returns-in_err-open_all-clause-refusal
returns-in_err-open_all-clause-refusal g c =
    let olds = c.args.files.now in
    let news = c.open_all.new.files in
    let each = c.in_ok-each.each.items in
    let flows = c.in_ok-flows.flows in
    let asked =
    subst (λ (l : List ℕ). AsksFlows (option_copied c.args.wanted.a) (option_copied c.args.wanted.b)
    l flows) c.deref.ensures.value c.in_ok-flows.ensures.asked in
    let p = err_from_is_err_and c.from_residual-in_err-open_all.result
    c.from_residual-in_err-open_all.ensures.1 in
    rw (p.1, p.2)
    (of_refusal_map c.in_err-open_all.field-0.0
    (λ r is. inr (
      c.in_ok-said.said.items,
      c.in_ok-said.ensures.read,
      c.in_ok-said.ensures.says c.in_ok-said.said.items (given_read c.in_ok-said.ensures.read),
      inr (
        flows,
        asked,
        (
          each,
          taken_of flows olds news each c.in_err-open_all.ensures.len c.in_ok-each.ensures,
          inl (refl, rw c.deref-2.ensures.value at is),
        ),
      ),
    ))
    c.in_err-open_all.ensures.refusal)

pub returns-in_err-counts-clause-refusal : goal.returns-in_err-counts-clause-refusal
returns-in_err-counts-clause-refusal g c =
    let gave = g.S.ByteSource.gave in
    let ended = g.S.ByteSource.ended in
    let took = g.K.ByteSink.took in
    let olds = c.args.files.now in
    let mids = c.open_all.new.files in
    let news = c.join_all.new.files in
    let each = c.in_ok-each.each.items in
    let text = c.in_ok-said.said.items in
    let flows = c.in_ok-flows.flows in
    let asked =
    subst (λ (l : List ℕ). AsksFlows (option_copied c.args.wanted.a) (option_copied c.args.wanted.b)
    l flows) c.deref.ensures.value c.in_ok-flows.ensures.asked in
    let opened =
    subst (λ (l : List (Option Flows)). AllOpened gave l olds mids) c.deref-2.ensures.value
    c.in_ok-open_all.ensures.opened in
    let front =
    c.in_ok-write_front.ensures.took
    ∙ ap (λ (l : List ℕ). took c.args.capture.now ++ front_text Two l) c.deref-3.ensures.value in
    let taken =
    taken_of flows olds news each
    (c.in_err-counts.ensures.files ∙ c.in_ok-open_all.ensures.len) c.in_ok-each.ensures in
    let p = err_from_is_err_and c.from_residual-in_err-counts.result
    c.from_residual-in_err-counts.ensures.1 in
    rw (p.1, p.2)
    (of_refusal_map c.in_err-counts.field-0.0
    (λ r is. inr (
      text,
      c.in_ok-said.ensures.read,
      c.in_ok-said.ensures.says text (given_read c.in_ok-said.ensures.read),
      inr (
        flows,
        asked,
        (
          each,
          taken,
          inr (has_stopped gave ended each olds mids news text (took c.args.capture.now)
              (took c.write_front.new.sink) (took c.join_all.new.capture) r opened
              c.in_err-counts.ensures.begun c.in_err-counts.ensures.known
              c.in_err-counts.ensures.by_flows front is),
        ),
      ),
    ))
    c.in_err-counts.ensures.stopped)

pub returns-in_err-open_all-clause-failures : goal.returns-in_err-open_all-clause-failures
returns-in_err-open_all-clause-failures g c =
    let p = err_from_is_err_and c.from_residual-in_err-open_all.result
    c.from_residual-in_err-open_all.ensures.1 in
    rw (p.1, p.2)
    (blames_files c.in_err-open_all.field-0.0 _ _ _ _ _ _ _ _ c.in_ok-said.ensures.failures
    c.in_err-open_all.ensures.failures refl refl)

pub returns-in_err-write_front-clause-failures : goal.returns-in_err-write_front-clause-failures
returns-in_err-write_front-clause-failures g c =
    let failures = g.K.ByteSink.failures in
    let p = err_from_is_err_and c.from_residual-in_err-write_front.result
    c.from_residual-in_err-write_front.ensures.1 in
    rw (p.1, p.2)
    (inr (inr (inl (failed_one (failures c.args.capture.now) (failures c.write_front.new.sink)
    c.in_err-write_front.ensures.counted))))

pub returns-in_err-counts-clause-failures : goal.returns-in_err-counts-clause-failures
returns-in_err-counts-clause-failures g c =
    let p = err_from_is_err_and c.from_residual-in_err-counts.result
    c.from_residual-in_err-counts.ensures.1 in
    rw (p.1, p.2)
    (blames_joined c.in_err-counts.field-0.0 _ _ _ _ _ _ _ _ _ _ c.in_ok-said.ensures.failures
    c.in_ok-open_all.ensures.failures c.in_ok-write_front.ensures.counted
    c.in_err-counts.ensures.failures refl)

pub returns-in_err-print-clause-refusal : goal.returns-in_err-print-clause-refusal
returns-in_err-print-clause-refusal g c =
    let p = err_from_is_err_and c.from_residual-in_err-print.result
    c.from_residual-in_err-print.ensures.1 in
    rw (p.1, p.2)
    (none_refused _ c.in_err-print.field-0.0 c.in_err-print.ensures.unrefused)

pub returns-in_err-print-clause-failures : goal.returns-in_err-print-clause-failures
returns-in_err-print-clause-failures g c =
    let joined = c.in_ok-counts.ensures.failures in
    let p = err_from_is_err_and c.from_residual-in_err-print.result
    c.from_residual-in_err-print.ensures.1 in
    rw (p.1, p.2)
    (blames_output c.in_err-print.field-0.0 _ _ _ _ _ _ _ _ c.in_ok-said.ensures.failures
    (joined.0 ∙ c.in_ok-open_all.ensures.failures)
    (joined.1 ∙ c.in_ok-write_front.ensures.counted) c.in_err-print.ensures.failures)

pub returns-in_err-open_all-clause-quiet : goal.returns-in_err-open_all-clause-quiet
returns-in_err-open_all-clause-quiet g c =
    let p = err_from_is_err_and c.from_residual-in_err-open_all.result
    c.from_residual-in_err-open_all.ensures.1 in
    rw (p.1, p.2) (if_refused c.in_err-open_all.field-0.0 refl)

pub returns-in_err-print-clause-quiet : goal.returns-in_err-print-clause-quiet
returns-in_err-print-clause-quiet g c =
    let p = err_from_is_err_and c.from_residual-in_err-print.result
    c.from_residual-in_err-print.ensures.1 in
    rw (p.1, p.2) (never_refused c.in_err-print.field-0.0 _ c.in_err-print.ensures.unrefused)

pub returns-in_err-said-clause-memory : goal.returns-in_err-said-clause-memory
returns-in_err-said-clause-memory g c =
    let p = err_from_is_err_and c.from_residual.result c.from_residual.ensures.1 in
    rw (p.1, p.2) (λ memory. (refl, c.in_err-said.ensures.memory memory, inl refl))

pub returns-in_err-flows-clause-memory : goal.returns-in_err-flows-clause-memory
returns-in_err-flows-clause-memory g c =
    let p = err_from_is_err_and c.from_residual-in_err-flows.result
    c.from_residual-in_err-flows.ensures.1 in
    rw (p.1, p.2) (λ memory. (refl, few_of _ _ _ _ _ c.in_ok-said.ensures.read, inl refl))

pub returns-in_err-each-clause-memory : goal.returns-in_err-each-clause-memory
returns-in_err-each-clause-memory g c =
    let p = err_from_is_err_and c.from_residual-in_err-each.result
    c.from_residual-in_err-each.ensures.1 in
    rw (p.1) (λ memory. (refl, few_of _ _ _ _ _ c.in_ok-said.ensures.read, inl refl))

pub returns-in_err-open_all-clause-memory : goal.returns-in_err-open_all-clause-memory
returns-in_err-open_all-clause-memory g c =
    let p = err_from_is_err_and c.from_residual-in_err-open_all.result
    c.from_residual-in_err-open_all.ensures.1 in
    rw (p.1, p.2) (λ memory. (refl, few_of _ _ _ _ _ c.in_ok-said.ensures.read, inl refl))

pub returns-in_err-counts-clause-memory : goal.returns-in_err-counts-clause-memory
returns-in_err-counts-clause-memory g c =
    let p = err_from_is_err_and c.from_residual-in_err-counts.result
    c.from_residual-in_err-counts.ensures.1 in
    rw (p.1, p.2) (λ memory. (
      refl,
      few_of _ _ _ _ _ c.in_ok-said.ensures.read,
      inr (of_joining _ c.in_err-counts.field-0.0 memory c.in_err-counts.ensures.only),
    ))

pub returns-in_err-counts-clause-quiet : goal.returns-in_err-counts-clause-quiet
returns-in_err-counts-clause-quiet g c =
    let p = err_from_is_err_and c.from_residual-in_err-counts.result
    c.from_residual-in_err-counts.ensures.1 in
    rw (p.1, p.2) (if_refused c.in_err-counts.field-0.0 refl)

pub returns-in_err-said-clause-printed : goal.returns-in_err-said-clause-printed
returns-in_err-said-clause-printed g c =
    none_printed c.from_residual.result g.O.ByteSink.took g.O.ByteSink.failures _
    c.args.output.now

pub returns-in_err-flows-clause-printed : goal.returns-in_err-flows-clause-printed
returns-in_err-flows-clause-printed g c =
    none_printed c.from_residual-in_err-flows.result g.O.ByteSink.took g.O.ByteSink.failures _
    c.args.output.now

pub returns-in_err-each-clause-printed : goal.returns-in_err-each-clause-printed
returns-in_err-each-clause-printed g c =
    none_printed c.from_residual-in_err-each.result g.O.ByteSink.took g.O.ByteSink.failures _
    c.args.output.now

pub returns-in_err-open_all-clause-printed : goal.returns-in_err-open_all-clause-printed
returns-in_err-open_all-clause-printed g c =
    none_printed c.from_residual-in_err-open_all.result g.O.ByteSink.took g.O.ByteSink.failures _
    c.args.output.now

pub returns-in_err-write_front-clause-printed : goal.returns-in_err-write_front-clause-printed
returns-in_err-write_front-clause-printed g c =
    none_printed c.from_residual-in_err-write_front.result g.O.ByteSink.took g.O.ByteSink.failures _
    c.args.output.now

pub returns-in_err-counts-clause-printed : goal.returns-in_err-counts-clause-printed
returns-in_err-counts-clause-printed g c =
    none_printed c.from_residual-in_err-counts.result g.O.ByteSink.took g.O.ByteSink.failures _
    c.args.output.now

pub returns-in_err-print-clause-printed : goal.returns-in_err-print-clause-printed
returns-in_err-print-clause-printed g c =
    let gave = g.S.ByteSource.gave in
    let ended = g.S.ByteSource.ended in
    let took = g.K.ByteSink.took in
    let olds = c.args.files.now in
    let mids = c.open_all.new.files in
    let news = c.join_all.new.files in
    let each = c.in_ok-each.each.items in
    let text = c.in_ok-said.said.items in
    let r = c.in_ok-counts.counts in
    let opened =
    subst (λ (l : List (Option Flows)). AllOpened gave l olds mids) c.deref-2.ensures.value
    c.in_ok-open_all.ensures.opened in
    let front =
    c.in_ok-write_front.ensures.took
    ∙ ap (λ (l : List ℕ). took c.args.capture.now ++ front_text Two l) c.deref-3.ensures.value in
    let has =
    has_imported gave ended each olds mids news text (took c.args.capture.now)
    (took c.write_front.new.sink) (took c.join_all.new.capture) (record { a = r.a; b = r.b })
    opened c.in_ok-counts.ensures.begun c.in_ok-counts.ensures.known
    c.in_ok-counts.ensures.by_flows front c.in_ok-counts.ensures.joined in
    let a = option_copied c.args.wanted.a in
    let b = option_copied c.args.wanted.b in
    let asked =
    subst (λ (l : List ℕ). AsksFlows a b l c.in_ok-flows.flows) c.deref.ensures.value
    c.in_ok-flows.ensures.asked in
    let taken =
    taken_of c.in_ok-flows.flows olds news each
    (c.in_ok-counts.ensures.files ∙ c.in_ok-open_all.ensures.len) c.in_ok-each.ensures in
    let Said =
    GivesText 65535 (g.D.ByteSource.gave c.args.sdp.now)
    (g.D.ByteSource.gave c.read_checked.new.source)
    (g.D.ByteSource.ended c.read_checked.new.source) in
    let none : List ℕ = [] in
    let line : List ℕ = line_text (Recorded r.a r.b c.total.result) ++ 10 ∷ [] in
    let is =
    imports gave ended a b Said olds news each c.in_ok-flows.flows text
    (took c.args.capture.now) (took c.join_all.new.capture) none line r c.total.result has
    c.in_ok-said.ensures.read
    (c.in_ok-said.ensures.says text (given_read c.in_ok-said.ensures.read)) asked taken
    c.in_ok-counts.ensures.left c.total.ensures.all refl in
    let failed : Result ℕ Fault = Err c.in_err-print.field-0.0 in
    whenever c.from_residual-in_err-print.result _
    (part_printed failed g.O.ByteSink.took g.O.ByteSink.failures
    (λ l. (n : ImportCounts) × Imports a b Said (WasRead (gave_by gave) (ended_by ended))
    (zip olds news) (took c.args.capture.now) (took c.join_all.new.capture) none l n) line
    c.args.output.now c.print.new.output (r, is) c.in_err-print.ensures.cut
    c.in_err-print.ensures.device c.in_err-print.ensures.failures)

pub returns-in_err-said-clause-part : goal.returns-in_err-said-clause-part
returns-in_err-said-clause-part g c = whenever c.from_residual.result _ (inl refl)

pub returns-in_err-flows-clause-part : goal.returns-in_err-flows-clause-part
returns-in_err-flows-clause-part g c = whenever c.from_residual-in_err-flows.result _ (inl refl)

pub returns-in_err-each-clause-part : goal.returns-in_err-each-clause-part
returns-in_err-each-clause-part g c = whenever c.from_residual-in_err-each.result _ (inl refl)

pub returns-in_err-open_all-clause-part : goal.returns-in_err-open_all-clause-part
returns-in_err-open_all-clause-part g c = whenever c.from_residual-in_err-open_all.result _ (inl refl)

pub returns-in_err-write_front-clause-part : goal.returns-in_err-write_front-clause-part
returns-in_err-write_front-clause-part g c =
    let gave = g.S.ByteSource.gave in
    let ended = g.S.ByteSource.ended in
    let took = g.K.ByteSink.took in
    let olds = c.args.files.now in
    let mids = c.open_all.new.files in
    let each = c.in_ok-each.each.items in
    let text = c.in_ok-said.said.items in
    let flows = c.in_ok-flows.flows in
    let a = option_copied c.args.wanted.a in
    let b = option_copied c.args.wanted.b in
    let asked =
    subst (λ (l : List ℕ). AsksFlows a b l flows) c.deref.ensures.value
    c.in_ok-flows.ensures.asked in
    let taken =
    taken_of flows olds mids each
    c.in_ok-open_all.ensures.len c.in_ok-each.ensures in
    let Said =
    GivesText 65535 (g.D.ByteSource.gave c.args.sdp.now)
    (g.D.ByteSource.gave c.read_checked.new.source)
    (g.D.ByteSource.ended c.read_checked.new.source) in
    let failures = g.K.ByteSink.failures in
    whenever c.from_residual-in_err-write_front.result _
    (inr (front_imported a b Said (WasRead (gave_by gave) (ended_by ended)) _ each (zip olds mids)
    flows text (took c.args.capture.now) (took c.write_front.new.sink)
    c.in_ok-said.ensures.read
    (c.in_ok-said.ensures.says text (given_read c.in_ok-said.ensures.read)) asked taken
    (failed_one (failures c.args.capture.now) (failures c.write_front.new.sink)
    c.in_err-write_front.ensures.counted)
    (subst (λ (l : List ℕ). GrowsPart (took c.args.capture.now) (took c.write_front.new.sink)
    (front_text Two l)) c.deref-3.ensures.value c.in_err-write_front.ensures.part)))

pub returns-in_err-counts-clause-part : goal.returns-in_err-counts-clause-part
returns-in_err-counts-clause-part g c =
    let gave = g.S.ByteSource.gave in
    let ended = g.S.ByteSource.ended in
    let took = g.K.ByteSink.took in
    let olds = c.args.files.now in
    let mids = c.open_all.new.files in
    let news = c.join_all.new.files in
    let each = c.in_ok-each.each.items in
    let text = c.in_ok-said.said.items in
    let flows = c.in_ok-flows.flows in
    let a = option_copied c.args.wanted.a in
    let b = option_copied c.args.wanted.b in
    let asked =
    subst (λ (l : List ℕ). AsksFlows a b l flows) c.deref.ensures.value
    c.in_ok-flows.ensures.asked in
    let taken =
    taken_of flows olds news each
    (c.in_err-counts.ensures.files ∙ c.in_ok-open_all.ensures.len) c.in_ok-each.ensures in
    let Said =
    GivesText 65535 (g.D.ByteSource.gave c.args.sdp.now)
    (g.D.ByteSource.gave c.read_checked.new.source)
    (g.D.ByteSource.ended c.read_checked.new.source) in
    let failures = g.K.ByteSink.failures in
    let opened =
    subst (λ (l : List (Option Flows)). AllOpened gave l olds mids) c.deref-2.ensures.value
    c.in_ok-open_all.ensures.opened in
    let front =
    c.in_ok-write_front.ensures.took
    ∙ ap (λ (l : List ℕ). took c.args.capture.now ++ front_text Two l) c.deref-3.ensures.value in
    let mid = c.write_front.new.sink in
    let new = c.join_all.new.capture in
    whenever c.from_residual-in_err-counts.result _
    (inr (part_imported gave ended a b Said _ each olds mids news flows text
    (took c.args.capture.now) (took mid) (took new) c.in_ok-said.ensures.read
    (c.in_ok-said.ensures.says text (given_read c.in_ok-said.ensures.read)) asked taken opened
    c.in_err-counts.ensures.begun c.in_err-counts.ensures.known front
    (subst (λ (n : ℕ). StopsUpTo (Failed n (failures new)) news (took mid) (took new))
    c.in_ok-write_front.ensures.counted c.in_err-counts.ensures.part)))

pub returns-in_err-print-clause-part : goal.returns-in_err-print-clause-part
returns-in_err-print-clause-part g c =
    let gave = g.S.ByteSource.gave in
    let ended = g.S.ByteSource.ended in
    let took = g.K.ByteSink.took in
    let olds = c.args.files.now in
    let mids = c.open_all.new.files in
    let news = c.join_all.new.files in
    let each = c.in_ok-each.each.items in
    let text = c.in_ok-said.said.items in
    let flows = c.in_ok-flows.flows in
    let a = option_copied c.args.wanted.a in
    let b = option_copied c.args.wanted.b in
    let asked =
    subst (λ (l : List ℕ). AsksFlows a b l flows) c.deref.ensures.value
    c.in_ok-flows.ensures.asked in
    let taken =
    taken_of flows olds news each
    (c.in_ok-counts.ensures.files ∙ c.in_ok-open_all.ensures.len) c.in_ok-each.ensures in
    let Said =
    GivesText 65535 (g.D.ByteSource.gave c.args.sdp.now)
    (g.D.ByteSource.gave c.read_checked.new.source)
    (g.D.ByteSource.ended c.read_checked.new.source) in
    let r = c.in_ok-counts.counts in
    let opened =
    subst (λ (l : List (Option Flows)). AllOpened gave l olds mids) c.deref-2.ensures.value
    c.in_ok-open_all.ensures.opened in
    let front =
    c.in_ok-write_front.ensures.took
    ∙ ap (λ (l : List ℕ). took c.args.capture.now ++ front_text Two l) c.deref-3.ensures.value in
    let has =
    has_imported gave ended each olds mids news text (took c.args.capture.now)
    (took c.write_front.new.sink) (took c.join_all.new.capture) (record { a = r.a; b = r.b })
    opened c.in_ok-counts.ensures.begun c.in_ok-counts.ensures.known
    c.in_ok-counts.ensures.by_flows front c.in_ok-counts.ensures.joined in
    whenever c.from_residual-in_err-print.result _
    (inr (all_imported a b Said (WasRead (gave_by gave) (ended_by ended)) _ each (zip olds news)
    flows has.entries text (took c.args.capture.now) (took c.join_all.new.capture)
    c.in_ok-said.ensures.read
    (c.in_ok-said.ensures.says text (given_read c.in_ok-said.ensures.read)) asked taken has.joined
    has.few has.taken))
