use Rattle.std.proofs.Common.{ℕ, ◌∙◌, arith, subst, sym}
use Rattle.media_file.specs.Faults.{CountsFault}
use Rattle.std.proofs.lemmas.Result.{err_from_is_err_and}
use Rattle.st_format.specs.Fields.{fields_of}
use Rattle.receiver_file.proofs.StateRuns.{state_end, state_format, state_frames, state_gives}
use Rattle.receiver_file.proofs.StateRuns.{state_head, state_made, state_memory, state_name}
use Rattle.receiver_file.proofs.Giving.{gave_octets}
use Rattle.media_file.specs.Blocks.{block_at}
use Rattle.receiver_file.proofs.StateGave.{gave_all, gave_format, gave_frames, gave_head, gave_made}
use Rattle.receiver_file.proofs.StateGave.{gave_memory, gave_more, gave_name}
use Rattle.receiver_file.proofs.loading.read_receiver.Goals as goal

pub returns-in_err-read_name-clause-fault : goal.returns-in_err-read_name-clause-fault
returns-in_err-read_name-clause-fault g c =
    let p = err_from_is_err_and c.from_residual.result c.from_residual.ensures.1 in
    rw (p.1, p.2) (state_name _ c.in_err-read_name.field-0.0 c.in_err-read_name.ensures.fault)

pub returns-in_err-format-clause-fault : goal.returns-in_err-format-clause-fault
returns-in_err-format-clause-fault g c =
    let p =
    err_from_is_err_and c.from_residual-in_err-format.result
    c.from_residual-in_err-format.ensures.1 in
    rw (p.1, p.2)
    (state_format _ _ c.in_err-format.field-0.0 c.in_ok-read_name.ensures.read
    c.in_err-format.ensures.fault)

pub returns-in_err-head-clause-fault : goal.returns-in_err-head-clause-fault
returns-in_err-head-clause-fault g c =
    let p =
    err_from_is_err_and c.from_residual-in_err-head.result
    c.from_residual-in_err-head.ensures.1 in
    rw (p.1, p.2)
    (state_head _ _ _
    (fields_of c.in_ok-format.format) c.in_err-head.field-0.0 c.in_ok-read_name.ensures.read
    c.in_ok-format.ensures.read c.in_err-head.ensures.fault)

pub returns-in_err-frames-clause-fault : goal.returns-in_err-frames-clause-fault
returns-in_err-frames-clause-fault g c =
    let p =
    err_from_is_err_and c.from_residual-in_err-frames.result
    c.from_residual-in_err-frames.ensures.1 in
    rw (p.1, p.2)
    (state_frames _ _ _ _
    (fields_of c.in_ok-format.format) c.in_ok-head.head c.in_err-frames.field-0.0
    c.in_ok-read_name.ensures.read c.in_ok-format.ensures.read c.in_ok-head.ensures.read
    c.in_err-frames.ensures.fault)

pub returns-in_err-read_end-clause-fault : goal.returns-in_err-read_end-clause-fault
returns-in_err-read_end-clause-fault g c =
    let p =
    err_from_is_err_and c.from_residual-in_err-read_end.result
    c.from_residual-in_err-read_end.ensures.1 in
    rw (p.1, p.2)
    (state_end _ _ _ _ _
    (fields_of c.in_ok-format.format) c.in_ok-head.head _ c.in_err-read_end.field-0.0
    c.in_ok-read_name.ensures.read c.in_ok-format.ensures.read c.in_ok-head.ensures.read
    c.in_ok-frames.ensures.read c.in_err-read_end.ensures.fault)

pub returns-clause-read : goal.returns-clause-read
returns-clause-read g c =
    state_made _ _ c.in_ok-format.format c.in_ok-head.head _ _ c.open_again.result
    (state_gives _ _ _ _ _ _
    (fields_of c.in_ok-format.format) c.in_ok-head.head _ c.in_ok-read_name.ensures.read
    c.in_ok-format.ensures.read c.in_ok-head.ensures.read c.in_ok-frames.ensures.read
    c.in_ok-read_end.ensures.read)
    c.open_again.ensures.opening c.open_again.ensures.frames

pub returns-clause-fault : goal.returns-clause-fault
returns-clause-fault g c = state_memory _ c.open_again.result c.open_again.ensures.memory

pub returns-in_err-read_name-clause-octets : goal.returns-in_err-read_name-clause-octets
returns-in_err-read_name-clause-octets g c = c.read_name.ensures.octets

pub returns-in_err-read_name-clause-counted : goal.returns-in_err-read_name-clause-counted
returns-in_err-read_name-clause-counted g c =
    let p = err_from_is_err_and c.from_residual.result c.from_residual.ensures.1 in
    rw (p.1, p.2) c.in_err-read_name.ensures.counted

pub returns-in_err-format-clause-octets : goal.returns-in_err-format-clause-octets
returns-in_err-format-clause-octets g c = c.read_name.ensures.octets

pub returns-in_err-format-clause-counted : goal.returns-in_err-format-clause-counted
returns-in_err-format-clause-counted g c =
    let p =
    err_from_is_err_and c.from_residual-in_err-format.result
    c.from_residual-in_err-format.ensures.1 in
    rw (p.1, p.2) (subst
    (λ (n : ℕ). CountsFault c.in_err-format.field-0.0 n
    (g.S.ByteSource.failures c.read_format.new.source))
    (c.in_ok-read_name.ensures.counted) c.in_err-format.ensures.counted)

pub returns-in_err-head-clause-octets : goal.returns-in_err-head-clause-octets
returns-in_err-head-clause-octets g c = c.read_name.ensures.octets

pub returns-in_err-head-clause-counted : goal.returns-in_err-head-clause-counted
returns-in_err-head-clause-counted g c =
    let p =
    err_from_is_err_and c.from_residual-in_err-head.result
    c.from_residual-in_err-head.ensures.1 in
    rw (p.1, p.2) (subst
    (λ (n : ℕ). CountsFault c.in_err-head.field-0.0 n
    (g.S.ByteSource.failures c.read_head.new.source))
    (c.in_ok-format.ensures.counted ∙ c.in_ok-read_name.ensures.counted)
    c.in_err-head.ensures.counted)

pub returns-in_err-frames-clause-octets : goal.returns-in_err-frames-clause-octets
returns-in_err-frames-clause-octets g c = c.read_name.ensures.octets

pub returns-in_err-frames-clause-counted : goal.returns-in_err-frames-clause-counted
returns-in_err-frames-clause-counted g c =
    let p =
    err_from_is_err_and c.from_residual-in_err-frames.result
    c.from_residual-in_err-frames.ensures.1 in
    rw (p.1, p.2) (subst
    (λ (n : ℕ). CountsFault c.in_err-frames.field-0.0 n
    (g.S.ByteSource.failures c.read_frames.new.source))
    (c.in_ok-head.ensures.counted ∙ c.in_ok-format.ensures.counted
    ∙ c.in_ok-read_name.ensures.counted)
    c.in_err-frames.ensures.counted)

pub returns-in_err-read_end-clause-octets : goal.returns-in_err-read_end-clause-octets
returns-in_err-read_end-clause-octets g c = c.read_name.ensures.octets

pub returns-in_err-read_end-clause-counted : goal.returns-in_err-read_end-clause-counted
returns-in_err-read_end-clause-counted g c =
    let p =
    err_from_is_err_and c.from_residual-in_err-read_end.result
    c.from_residual-in_err-read_end.ensures.1 in
    rw (p.1, p.2) (subst
    (λ (n : ℕ). CountsFault c.in_err-read_end.field-0.0 n
    (g.S.ByteSource.failures c.read_end.new.source))
    (c.in_ok-frames.ensures.counted ∙ c.in_ok-head.ensures.counted
    ∙ c.in_ok-format.ensures.counted ∙ c.in_ok-read_name.ensures.counted)
    c.in_err-read_end.ensures.counted)

pub read_frames-requires : goal.read_frames-requires
read_frames-requires g c = c.in_ok-head.ensures.few

pub open_again-requires-clause-payload_type : goal.open_again-requires-clause-payload_type
open_again-requires-clause-payload_type g c = c.in_ok-head.ensures.payload_type

pub open_again-requires-clause-some : goal.open_again-requires-clause-some
open_again-requires-clause-some g c =
    omega (arith, c.in_ok-frames.ensures.count, c.in_ok-head.ensures.some)

pub open_again-requires-clause-few : goal.open_again-requires-clause-few
open_again-requires-clause-few g c =
    omega (arith, c.in_ok-frames.ensures.count, c.in_ok-head.ensures.few)

pub open_again-requires-clause-different : goal.open_again-requires-clause-different
open_again-requires-clause-different g c = c.in_ok-frames.ensures.different

pub open_again-requires-clause-one_each : goal.open_again-requires-clause-one_each
open_again-requires-clause-one_each g c =
    c.in_ok-frames.ensures.one_each ∙ sym c.in_ok-frames.ensures.count

pub open_again-requires-clause-of_format : goal.open_again-requires-clause-of_format
open_again-requires-clause-of_format g c = c.in_ok-frames.ensures.of_format

pub returns-clause-octets : goal.returns-clause-octets
returns-clause-octets g c = c.read_name.ensures.octets

pub returns-clause-receiver : goal.returns-clause-receiver
returns-clause-receiver g c = c.open_again.ensures.receiver

pub returns-clause-refusals : goal.returns-clause-refusals
returns-clause-refusals g c = c.open_again.ensures.refusals

pub returns-clause-writable : goal.returns-clause-writable
returns-clause-writable g c = c.open_again.ensures.writable

pub returns-in_err-read_name-clause-gave_wrong : goal.returns-in_err-read_name-clause-gave_wrong
returns-in_err-read_name-clause-gave_wrong g c =
    let p =
    err_from_is_err_and c.from_residual.result c.from_residual.ensures.1 in
    rw (p.1, p.2)
    (gave_name _ _ _ c.in_err-read_name.field-0.0 c.in_err-read_name.ensures.gave_wrong)

pub returns-in_err-format-clause-gave_wrong : goal.returns-in_err-format-clause-gave_wrong
returns-in_err-format-clause-gave_wrong g c =
    let p =
    err_from_is_err_and c.from_residual-in_err-format.result c.from_residual-in_err-format.ensures.1
    in
    rw (p.1, p.2)
    (gave_format _ _ _ _ c.in_err-format.field-0.0 c.in_ok-read_name.ensures.gave
    c.in_err-format.ensures.gave_wrong)

pub returns-in_err-head-clause-gave_wrong : goal.returns-in_err-head-clause-gave_wrong
returns-in_err-head-clause-gave_wrong g c =
    let p =
    err_from_is_err_and c.from_residual-in_err-head.result c.from_residual-in_err-head.ensures.1 in
    let f = fields_of c.in_ok-format.format in
    rw (p.1, p.2)
    (gave_head _ _ _ _ _ f c.in_err-head.field-0.0 c.in_ok-read_name.ensures.gave
    (gave_octets block_at f _ _ c.in_ok-format.ensures.gave c.in_ok-format.ensures.bytes)
    c.in_err-head.ensures.gave_wrong)

pub returns-in_err-frames-clause-gave_wrong : goal.returns-in_err-frames-clause-gave_wrong
returns-in_err-frames-clause-gave_wrong g c =
    let p =
    err_from_is_err_and c.from_residual-in_err-frames.result c.from_residual-in_err-frames.ensures.1
    in
    let f = fields_of c.in_ok-format.format in
    rw (p.1, p.2)
    (gave_frames _ _ _ _ _ _ f c.in_ok-head.head c.in_err-frames.field-0.0
    c.in_ok-read_name.ensures.gave
    (gave_octets block_at f _ _ c.in_ok-format.ensures.gave c.in_ok-format.ensures.bytes)
    c.in_ok-head.ensures.gave c.in_err-frames.ensures.gave_wrong)

pub returns-in_err-read_end-clause-gave_wrong : goal.returns-in_err-read_end-clause-gave_wrong
returns-in_err-read_end-clause-gave_wrong g c =
    let p =
    err_from_is_err_and c.from_residual-in_err-read_end.result
    c.from_residual-in_err-read_end.ensures.1 in
    let f = fields_of c.in_ok-format.format in
    rw (p.1, p.2)
    (gave_more _ _ _ _ _ _ _ f c.in_ok-head.head _ c.in_err-read_end.field-0.0
    c.in_ok-read_name.ensures.gave
    (gave_octets block_at f _ _ c.in_ok-format.ensures.gave c.in_ok-format.ensures.bytes)
    c.in_ok-head.ensures.gave c.in_ok-frames.ensures.gave c.in_err-read_end.ensures.gave_wrong)

pub returns-clause-gave : goal.returns-clause-gave
returns-clause-gave g c =
    let f = fields_of c.in_ok-format.format in
    gave_made _ _ _ c.in_ok-format.format c.in_ok-head.head _ _ c.open_again.result
    (gave_all _ _ _ _ _ _ _ f c.in_ok-head.head _ c.in_ok-read_name.ensures.gave
    (gave_octets block_at f _ _ c.in_ok-format.ensures.gave c.in_ok-format.ensures.bytes)
    c.in_ok-head.ensures.gave c.in_ok-frames.ensures.gave c.in_ok-read_end.ensures.gave
    c.in_ok-read_end.ensures.ended)
    c.open_again.ensures.opening c.open_again.ensures.frames

pub returns-clause-gave_wrong : goal.returns-clause-gave_wrong
returns-clause-gave_wrong g c =
    let f = fields_of c.in_ok-format.format in
    gave_memory _ _ (g.S.ByteSource.ended c.read_end.new.source) _ c.open_again.result
    (gave_all _ _ _ _ _ _ _ f c.in_ok-head.head _ c.in_ok-read_name.ensures.gave
    (gave_octets block_at f _ _ c.in_ok-format.ensures.gave c.in_ok-format.ensures.bytes)
    c.in_ok-head.ensures.gave c.in_ok-frames.ensures.gave c.in_ok-read_end.ensures.gave
    c.in_ok-read_end.ensures.ended) c.open_again.ensures.memory
