use Rattle.std.proofs.Common.{◌≡◌, ◌++◌, ◌∙◌, ap, List, ℕ, Some}
use Rattle.std.proofs.KnownBytes.{Appends-trans}
use Rattle.std.proofs.lemmas.Result.{err_from_is_err_and, on_err_weaker, on_ok_weaker}
use Rattle.st_format.specs.declared.format.Format.{Format}
use Rattle.st_format.specs.Fields.{fields_of}
use Rattle.media_file.specs.declared.front.Version.TheVariants.{One}
use Rattle.media_file.specs.Fronts.{kind_text, receiver_name}
use Rattle.media_file.specs.StateFile.{Kept, format_text, opening_text}
use Rattle.media_file.proofs.Written.{part_first, part_then, prefix_first, prefix_then}
use Rattle.receiver_file.specs.Saved.{kept_of}
use Rattle.receiver_file.proofs.saving.write_start.Goals as goal

abbrev name : List ℕ
name = kind_text receiver_name One

pub returns-in_err-write_whole-clause-fault : goal.returns-in_err-write_whole-clause-fault
returns-in_err-write_whole-clause-fault g c =
    let p = err_from_is_err_and c.from_residual.result c.from_residual.ensures.1 in
    let k : Kept = kept_of c.args.receiver.now in
    rw (p.1)
    (prefix_first _ _ name
    (format_text k.format ++ opening_text k) c.in_err-write_whole.ensures.fault)

pub returns-in_err-write_whole-2-clause-fault : goal.returns-in_err-write_whole-2-clause-fault
returns-in_err-write_whole-2-clause-fault g c =
    let p =
    err_from_is_err_and c.from_residual-in_err-write_whole-2.result
    c.from_residual-in_err-write_whole-2.ensures.1 in
    let k : Kept = kept_of c.args.receiver.now in
    let block : c.format_block.result ≡ format_text k.format =
    c.format_block.ensures ∙ ap
    (λ (f : Format). format_text (fields_of f)) c.format.ensures.format in
    rw (p.1)
    (prefix_then _ _ _ name
    (format_text k.format ++ opening_text k) c.in_ok-write_whole.ensures.ok
    (prefix_first _ _ (format_text k.format) (opening_text k)
    (rw block at c.in_err-write_whole-2.ensures.fault)))

pub returns-clause-ok : goal.returns-clause-ok
returns-clause-ok g c =
    let k : Kept = kept_of c.args.receiver.now in
    let block : c.format_block.result ≡ format_text k.format =
    c.format_block.ensures ∙ ap
    (λ (f : Format). format_text (fields_of f)) c.format.ensures.format in
    on_ok_weaker c.write_whole-3.result
    (λ q. Appends-trans _ _ _ name
    (format_text k.format ++ opening_text k) c.in_ok-write_whole.ensures.ok
    (Appends-trans _ _ _ (format_text k.format) (opening_text k)
    (rw block at c.in_ok-write_whole-2.ensures.ok) (rw c.opening_fields.ensures at q)))
    c.write_whole-3.ensures.ok

pub returns-clause-fault : goal.returns-clause-fault
returns-clause-fault g c =
    let k : Kept = kept_of c.args.receiver.now in
    let block : c.format_block.result ≡ format_text k.format =
    c.format_block.ensures ∙ ap
    (λ (f : Format). format_text (fields_of f)) c.format.ensures.format in
    on_err_weaker c.write_whole-3.result
    (λ q. prefix_then _ _ _ name
    (format_text k.format ++ opening_text k) c.in_ok-write_whole.ensures.ok
    (prefix_then _ _ _ (format_text k.format) (opening_text k)
    (rw block at c.in_ok-write_whole-2.ensures.ok) (rw c.opening_fields.ensures at q)))
    c.write_whole-3.ensures.fault

pub returns-in_err-write_whole-clause-took_part : goal.returns-in_err-write_whole-clause-took_part
returns-in_err-write_whole-clause-took_part g c =
    let p = err_from_is_err_and c.from_residual.result c.from_residual.ensures.1 in
    let k : Kept = kept_of c.args.receiver.now in
    rw (p.1)
    (part_first _ _ name
    (format_text k.format ++ opening_text k) c.in_err-write_whole.ensures.part)

pub returns-in_err-write_whole-2-clause-took_part :
    goal.returns-in_err-write_whole-2-clause-took_part
returns-in_err-write_whole-2-clause-took_part g c =
    let p =
    err_from_is_err_and c.from_residual-in_err-write_whole-2.result
    c.from_residual-in_err-write_whole-2.ensures.1 in
    let k : Kept = kept_of c.args.receiver.now in
    let block : c.format_block.result ≡ format_text k.format =
    c.format_block.ensures ∙ ap
    (λ (f : Format). format_text (fields_of f)) c.format.ensures.format in
    rw (p.1)
    (part_then _ _ _ name
    (format_text k.format ++ opening_text k) c.in_ok-write_whole.ensures.took
    (part_first _ _ (format_text k.format) (opening_text k)
    (rw block at c.in_err-write_whole-2.ensures.part)))

pub returns-clause-took : goal.returns-clause-took
returns-clause-took g c =
    let k : Kept = kept_of c.args.receiver.now in
    let block : c.format_block.result ≡ format_text k.format =
    c.format_block.ensures ∙ ap
    (λ (f : Format). format_text (fields_of f)) c.format.ensures.format in
    on_ok_weaker c.write_whole-3.result
    (λ q. Appends-trans (Some _) (Some _) (Some _) name
    (format_text k.format ++ opening_text k) c.in_ok-write_whole.ensures.took
    (Appends-trans (Some _) (Some _) (Some _) (format_text k.format) (opening_text k)
    (rw block at c.in_ok-write_whole-2.ensures.took) (rw c.opening_fields.ensures at q)))
    c.write_whole-3.ensures.took

pub returns-clause-took_part : goal.returns-clause-took_part
returns-clause-took_part g c =
    let k : Kept = kept_of c.args.receiver.now in
    let block : c.format_block.result ≡ format_text k.format =
    c.format_block.ensures ∙ ap
    (λ (f : Format). format_text (fields_of f)) c.format.ensures.format in
    on_err_weaker c.write_whole-3.result
    (λ q. part_then _ _ _ name
    (format_text k.format ++ opening_text k) c.in_ok-write_whole.ensures.took
    (part_then _ _ _ (format_text k.format) (opening_text k)
    (rw block at c.in_ok-write_whole-2.ensures.took) (rw c.opening_fields.ensures at q)))
    c.write_whole-3.ensures.part
