use Rattle.receiver_file.proofs.Again.{only_state}
use Rattle.receiver_file.proofs.Found.{found_state}
use Rattle.receiver_file.proofs.SameKept.{loaded_holds, loaded_same}
use Rattle.receiver_file.proofs.AtEnd.{loaded_end}
use Rattle.receiver_file.proofs.Savable.{writable_saved}
use Rattle.receiver_file.proofs.StateFaults.{wrong_state}
use Rattle.receiver_file.proofs.StateGave.{gave_end, gave_found, gave_grew, gave_only, gave_same}
use Rattle.receiver_file.proofs.StateGave.{gave_wrong}
use Rattle.receiver_file.proofs.loading.load_receiver.Goals as goal

pub returns-clause-end : goal.returns-clause-end
returns-clause-end g c = loaded_end _ _ c.read_receiver.result c.read_receiver.ensures.read

pub returns-clause-found : goal.returns-clause-found
returns-clause-found g c =
    found_state _ _ c.read_receiver.result c.read_receiver.ensures.read
    c.read_receiver.ensures.octets c.read_receiver.ensures.writable

pub returns-clause-wrong : goal.returns-clause-wrong
returns-clause-wrong g c =
    wrong_state _ c.read_receiver.result c.read_receiver.ensures.octets
    c.read_receiver.ensures.fault

pub returns-clause-only : goal.returns-clause-only
returns-clause-only g c =
    λ k told is. only_state _ _ c.read_receiver.result c.read_receiver.ensures.read
    c.read_receiver.ensures.fault k told is

pub returns-clause-same : goal.returns-clause-same
returns-clause-same g c =
    λ s told is. loaded_same _ _ c.read_receiver.result c.read_receiver.ensures.read
    c.read_receiver.ensures.fault c.read_receiver.ensures.receiver s told is.receiver
    (writable_saved s is)

pub returns-clause-holds : goal.returns-clause-holds
returns-clause-holds g c =
    λ s datagrams told is h. loaded_holds c.read_receiver.result s datagrams h
    (loaded_same _ _ c.read_receiver.result c.read_receiver.ensures.read
    c.read_receiver.ensures.fault c.read_receiver.ensures.receiver s told is.receiver
    (writable_saved s is))

pub returns-clause-gave : goal.returns-clause-gave
returns-clause-gave g c =
    gave_found _ _ _ c.read_receiver.result c.read_receiver.ensures.gave
    c.read_receiver.ensures.writable

pub returns-clause-ended : goal.returns-clause-ended
returns-clause-ended g c =
    gave_end _ _ (g.S.ByteSource.ended c.read_receiver.new.source) c.read_receiver.result
    c.read_receiver.ensures.gave

pub returns-clause-gave_wrong : goal.returns-clause-gave_wrong
returns-clause-gave_wrong g c =
    gave_wrong _ _ _ c.read_receiver.result c.read_receiver.ensures.gave_wrong

pub returns-clause-gave_only : goal.returns-clause-gave_only
returns-clause-gave_only g c =
    gave_only _ _ _ c.read_receiver.result c.read_receiver.ensures.gave
    c.read_receiver.ensures.gave_wrong

pub returns-clause-gave_same : goal.returns-clause-gave_same
returns-clause-gave_same g c =
    gave_same _ _ _ c.read_receiver.result c.read_receiver.ensures.gave
    c.read_receiver.ensures.gave_wrong c.read_receiver.ensures.receiver

pub returns-clause-gave_holds : goal.returns-clause-gave_holds
returns-clause-gave_holds g c =
    λ s datagrams q is h. loaded_holds c.read_receiver.result s datagrams h
    (gave_same _ _ _ c.read_receiver.result c.read_receiver.ensures.gave
    c.read_receiver.ensures.gave_wrong c.read_receiver.ensures.receiver s q is)

pub returns-clause-grown : goal.returns-clause-grown
returns-clause-grown g c =
    gave_grew _ _ _ c.read_receiver.result c.read_receiver.ensures.gave
    c.read_receiver.ensures.gave_wrong
