-- A receiver's file, read part by part.
use Rattle.std.proofs.Common.{◌≡◌, ℕ, List, [], Option, Result, Ok}
use Rattle.std.proofs.Common.{Err, refl, sym, subst}
use Rattle.std.specs.Prelude.{IfErr, IfOk}
use Rattle.st_format.specs.declared.format.Format.{Format}
use Rattle.st_format.specs.Fields.{Fields, fields_of}
use Rattle.st_format.specs.Raster.{Raster}
use Rattle.path_receiver.specs.Frames.{State}
use Rattle.path_receiver.specs.Opening.{Opening}
use Rattle.media_file.specs.declared.fault.FileFault.{FileFault}
use Rattle.media_file.specs.declared.fault.FileFault.TheVariants.{NoMemory}
use Rattle.media_file.specs.Blocks.{block_at}
use Rattle.media_file.specs.Fields.{Fails, nothing_at}
use Rattle.st_format.specs.Given.{Takes}
use Rattle.media_file.specs.StateFile.{Held, Kept}
use Rattle.receiver_file.specs.declared.front.Head.{Head}
use Rattle.receiver_file.specs.Front.{head_at, name_at}
use Rattle.receiver_file.specs.Saved.{kept_frames, kept_of}
use Rattle.receiver_file.specs.StateReading.{all_held_at, state_walk}
use Rattle.receiver_file.proofs.Valued.{memory_fails, value_cut, value_gives, valued}
use Rattle.st_format.proofs.Parsing.{fails_first, fails_then, gives_then, then_reads}
use Rattle.media_file.specs.Faults.{file_fault_origin}

-- ---- the parts

abbrev pub kept : Fields → Head → List Held → Unit {0} → Result Kept FileFault
kept f h hs end =
    Ok (record { format = f; payload_type = h.payload_type; ssrc = h.ssrc; frames = hs })

abbrev pub behind_frames : Fields → Head → List Held → List ℕ → Result (Kept × List ℕ) FileFault
behind_frames f h hs octets = valued nothing_at (kept f h hs) octets

abbrev pub behind_head : Fields → Head → List ℕ → Result (Kept × List ℕ) FileFault
behind_head f h octets = then_reads (all_held_at f h.count []) (behind_frames f h) octets

abbrev pub behind_format : Fields → List ℕ → Result (Kept × List ℕ) FileFault
behind_format f octets = then_reads head_at (behind_head f) octets

abbrev pub behind_name : Unit {0} → List ℕ → Result (Kept × List ℕ) FileFault
behind_name u octets = then_reads block_at behind_format octets

pub state_name : (old : Option (List ℕ)) (e : FileFault) → Fails name_at old e
    → Fails state_walk old e
unfolding state_walk
state_name old e p = fails_first file_fault_origin name_at behind_name old e p

pub state_format : (old a : Option (List ℕ)) (e : FileFault) → Takes name_at old a tt
    → Fails block_at a e → Fails state_walk old e
unfolding state_walk
state_format old a e n p =
    fails_then file_fault_origin name_at behind_name old a tt e n
    (fails_first file_fault_origin block_at behind_format a e p)

pub state_head : (old a b : Option (List ℕ)) (f : Fields) (e : FileFault) → Takes name_at old a tt
    → Takes block_at a b f → Fails head_at b e → Fails state_walk old e
unfolding state_walk
state_head old a b f e n m p =
    fails_then file_fault_origin name_at behind_name old a tt e n
    (fails_then file_fault_origin block_at behind_format a b f e m
    (fails_first file_fault_origin head_at (behind_head f) b e p))

pub state_frames : (old a b c : Option (List ℕ)) (f : Fields) (h : Head) (e : FileFault)
    → Takes name_at old a tt → Takes block_at a b f → Takes head_at b c h
    → Fails (all_held_at f h.count []) c e → Fails state_walk old e
unfolding state_walk
state_frames old a b c f h e n m k p =
    fails_then file_fault_origin name_at behind_name old a tt e n
    (fails_then file_fault_origin block_at behind_format a b f e m
    (fails_then file_fault_origin head_at (behind_head f) b c h e k
    (fails_first file_fault_origin (all_held_at f h.count []) (behind_frames f h) c e p)))

pub state_end : (old a b c d : Option (List ℕ)) (f : Fields) (h : Head) (hs : List Held)
    (e : FileFault) → Takes name_at old a tt → Takes block_at a b f → Takes head_at b c h
    → Takes (all_held_at f h.count []) c d hs → Fails nothing_at d e → Fails state_walk old e
unfolding state_walk
state_end old a b c d f h hs e n m k l p =
    fails_then file_fault_origin name_at behind_name old a tt e n
    (fails_then file_fault_origin block_at behind_format a b f e m
    (fails_then file_fault_origin head_at (behind_head f) b c h e k
    (fails_then file_fault_origin (all_held_at f h.count []) (behind_frames f h) c d hs e l
    (value_cut nothing_at (kept f h hs) d e p))))

pub state_gives : (old a b c d new : Option (List ℕ)) (f : Fields) (h : Head) (hs : List Held)
    → Takes name_at old a tt → Takes block_at a b f → Takes head_at b c h
    → Takes (all_held_at f h.count []) c d hs → Takes nothing_at d new tt
    → Takes state_walk old new
    (record { format = f; payload_type = h.payload_type; ssrc = h.ssrc; frames = hs })
unfolding state_walk
state_gives old a b c d new f h hs n m k l p =
    let all : Kept =
    record { format = f; payload_type = h.payload_type; ssrc = h.ssrc; frames = hs } in
    gives_then name_at behind_name old a new tt all n
    (gives_then block_at behind_format a b new f all m
    (gives_then head_at (behind_head f) b c new h all k
    (gives_then (all_held_at f h.count []) (behind_frames f h) c d new hs all l
    (value_gives nothing_at (kept f h hs) d new tt all p refl))))

-- ---- the receiver that is made

abbrev pub kept_by : Opening → List Raster → Kept
kept_by o rs =
    record {
      format = fields_of o.format;
      payload_type = o.payload_type;
      ssrc = o.ssrc;
      frames =
          kept_frames (fields_of o.format) o.window rs;
    }

pub state_made : (old new : Option (List ℕ)) (f : Format) (h : Head) (w : List ℕ)
    (rs : List Raster) (r : Result State FileFault)
    → Takes state_walk old new
    (record {
      format = fields_of f;
      payload_type = h.payload_type;
      ssrc = h.ssrc;
      frames =
          kept_frames (fields_of f) w rs;
    })
    → IfOk r
    (λ s. s.opening
    ≡ record { format = f; payload_type = h.payload_type; ssrc = h.ssrc; window = w })
    → IfOk r (λ s. s.frames ≡ rs) → IfOk r (λ s. Takes state_walk old new (kept_of s))
state_made old new f h w rs (Err e) p opening frames = tt
state_made old new f h w rs (Ok s) p opening frames =
    let o : Opening =
    record { format = f; payload_type = h.payload_type; ssrc = h.ssrc; window = w } in
    subst (λ (x : Opening). Takes state_walk old new (kept_by x s.frames)) (sym opening)
    (subst (λ (x : List Raster). Takes state_walk old new (kept_by o x)) (sym frames) p)

pub state_memory : (old : Option (List ℕ)) (r : Result State FileFault)
    → IfErr r (λ f. f ≡ NoMemory) → IfErr r (λ f. Fails state_walk old f)
state_memory old (Ok s) e = tt
state_memory old (Err f) e =
    subst (λ (x : FileFault). Fails state_walk old x) (sym e) (memory_fails state_walk old)
