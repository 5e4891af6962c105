use Rattle.std.proofs.Common.{◌≡◌, ◌∙◌, ◌++◌, List, ℕ, drop, length, subst, sym, take}
use Rattle.std.proofs.lemmas.List.{take_at}
use Rattle.recording_reader.specs.Ways.{FindsNext, HasSpace}
use Rattle.recording_reader.proofs.room.Room.advance.Goals as goal

pub read_next-requires : goal.read_next-requires
read_next-requires g c =
    subst (λ (n : ℕ). HasSpace c.args.way.now n) (sym c.deref_mut.ensures.len) c.requires

pub returns-in-Ok-clause-read : goal.returns-in-Ok-clause-read
returns-in-Ok-clause-read g c =
    let told = g.S.ByteSource in
    let room = c.args.self.now in
    let put = c.read_next.new.buf in
    let buffer : List ℕ = take room.octets.len (put ++ drop (length put) room.octets.items) in
    let same : buffer ≡ put =
    take_at put (drop (length put) room.octets.items) room.octets.len
    (c.in-Ok.ensures.room ∙ c.deref_mut.ensures.len) in
    subst (λ (b : List ℕ). FindsNext c.args.way.now c.read_next.new.self c.in-Ok.found b
    (told.gave c.args.source.now) (told.gave c.read_next.new.source)
    (told.ended c.read_next.new.source)) (sym same) c.in-Ok.ensures.read
