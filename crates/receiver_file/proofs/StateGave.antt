-- A receiver's file, of which a source gave part by part.
use Rattle.std.proofs.Common.{◌≡◌, ℕ, List, [], Some, Result, Ok, Err, refl, sym, subst}
use Rattle.std.specs.Prelude.{IfErr, IfOk, MatchResult, OnOk}
use Rattle.st_format.specs.Device.{AreOctets}
use Rattle.st_format.specs.History.{GrewFrom, IsRead}
use Rattle.st_format.specs.declared.format.Format.{Format}
use Rattle.st_format.specs.Fields.{Fields, fields_of}
use Rattle.st_format.specs.Raster.{Raster}
use Rattle.path_receiver.specs.Frames.{IsReceiver, State}
use Rattle.path_receiver.specs.Opening.{Opening}
use Rattle.media_file.specs.declared.fault.FileFault.{FileFault}
use Rattle.media_file.specs.declared.fault.FileFault.TheVariants.{NoMemory}
use Rattle.media_file.specs.Blocks.{block_at}
use Rattle.media_file.specs.Faults.{IfContent, IsMachine, file_fault_origin}
use Rattle.media_file.specs.Fields.{Fails, GaveFault, nothing_at}
use Rattle.st_format.specs.Given.{Takes}
use Rattle.media_file.specs.StateFile.{Held, Kept, state_text}
use Rattle.media_file.proofs.Gave.{fault_grew, fault_memory, fault_read}
use Rattle.receiver_file.specs.declared.front.Head.{Head}
use Rattle.receiver_file.specs.Front.{head_at, name_at}
use Rattle.receiver_file.specs.Giving.{GaveAllOf, GaveOf}
use Rattle.receiver_file.specs.Saved.{IsReceiverFile, IsSaved, IsWritable, kept_frames, kept_of}
use Rattle.receiver_file.specs.StateFaults.{IsStateFault}
use Rattle.receiver_file.specs.StateReading.{all_held_at, state_walk}
use Rattle.receiver_file.proofs.Again.{only_state}
use Rattle.receiver_file.proofs.Found.{found_state}
use Rattle.receiver_file.proofs.Giving.{all_grew, all_octets, all_read, fault_first, fault_then}
use Rattle.receiver_file.proofs.Giving.{whole_end, whole_then}
use Rattle.receiver_file.proofs.SameKept.{loaded_same}
use Rattle.receiver_file.proofs.Savable.{writable_saved}
use Rattle.receiver_file.proofs.StateFaults.{wrong_state}
use Rattle.receiver_file.proofs.Valued.{value_cut, value_gives}
use Rattle.receiver_file.proofs.StateRuns.{kept, behind_frames, behind_head, behind_format}
use Rattle.receiver_file.proofs.StateRuns.{behind_name, kept_by}
use Rattle.st_format.proofs.Gave.{fault_one}
use Rattle.st_format.proofs.Parsing.{gives_then}

-- ---- the parts

pub gave_name : (a b : List ℕ) (ended : Type 0) (e : FileFault) → GaveFault name_at a b ended e
    → GaveFault state_walk a b ended e
unfolding state_walk
gave_name a b ended e p = fault_first name_at behind_name a b ended e p

pub gave_format : (a b c : List ℕ) (ended : Type 0) (e : FileFault) → GaveOf name_at a b tt
    → GaveFault block_at b c ended e → GaveFault state_walk a c ended e
unfolding state_walk
gave_format a b c ended e n p =
    fault_then name_at behind_name tt a b c ended e n
    (fault_first block_at behind_format b c ended e p)

pub gave_head : (a b c d : List ℕ) (ended : Type 0) (f : Fields) (e : FileFault)
    → GaveOf name_at a b tt → GaveOf block_at b c f → GaveFault head_at c d ended e
    → GaveFault state_walk a d ended e
unfolding state_walk
gave_head a b c d ended f e n m p =
    fault_then name_at behind_name tt a b d ended e n
    (fault_then block_at behind_format f b c d ended e m
    (fault_first head_at (behind_head f) c d ended e p))

pub gave_frames : (a b c d x : List ℕ) (ended : Type 0) (f : Fields) (h : Head) (e : FileFault)
    → GaveOf name_at a b tt → GaveOf block_at b c f → GaveOf head_at c d h
    → GaveFault (all_held_at f h.count []) d x ended e → GaveFault state_walk a x ended e
unfolding state_walk
gave_frames a b c d x ended f h e n m k p =
    fault_then name_at behind_name tt a b x ended e n
    (fault_then block_at behind_format f b c x ended e m
    (fault_then head_at (behind_head f) h c d x ended e k
    (fault_first (all_held_at f h.count []) (behind_frames f h) d x ended e p)))

pub gave_more : (a b c d x y : List ℕ) (ended : Type 0) (f : Fields) (h : Head) (hs : List Held)
    (e : FileFault) → GaveOf name_at a b tt → GaveOf block_at b c f → GaveOf head_at c d h
    → GaveOf (all_held_at f h.count []) d x hs → GaveFault nothing_at x y ended e
    → GaveFault state_walk a y ended e
unfolding state_walk
gave_more a b c d x y ended f h hs e n m k l p =
    fault_then name_at behind_name tt a b y ended e n
    (fault_then block_at behind_format f b c y ended e m
    (fault_then head_at (behind_head f) h c d y ended e k
    (fault_then (all_held_at f h.count []) (behind_frames f h) hs d x y ended e l
    (fault_one file_fault_origin nothing_at (behind_frames f h hs) x y ended e
    (λ was. value_cut nothing_at (kept f h hs) was e) p))))

pub gave_all : (a b c d x y : List ℕ) (ended : Type 0) (f : Fields) (h : Head) (hs : List Held)
    → GaveOf name_at a b tt → GaveOf block_at b c f → GaveOf head_at c d h
    → GaveOf (all_held_at f h.count []) d x hs → y ≡ x → ended
    → GaveAllOf state_walk a y ended
    (record { format = f; payload_type = h.payload_type; ssrc = h.ssrc; frames = hs })
unfolding state_walk
gave_all a b c d x y ended f h hs n m k l same over =
    let all : Kept =
    record { format = f; payload_type = h.payload_type; ssrc = h.ssrc; frames = hs } in
    whole_then name_at behind_name tt all a b y ended n
    (whole_then block_at behind_format f all b c y ended m
    (whole_then head_at (behind_head f) h all c d y ended k
    (whole_end (all_held_at f h.count []) (behind_head f h) hs all d x y ended
    (λ was mid left p q.
    gives_then (all_held_at f h.count []) (behind_frames f h) was mid left hs all p
    (value_gives nothing_at (kept f h hs) mid left tt all q refl)) l same over)))

-- ---- the receiver that is made

pub gave_made : (a b : List ℕ) (ended : Type 0) (f : Format) (h : Head) (w : List ℕ)
    (rs : List Raster) (r : Result State FileFault)
    → GaveAllOf state_walk a b ended
    (record {
      format = fields_of f;
      payload_type = h.payload_type;
      ssrc = h.ssrc;
      frames =
          kept_frames (fields_of f) w rs;
    })
    → IfOk r
    (λ s. s.opening
    ≡ record { format = f; payload_type = h.payload_type; ssrc = h.ssrc; window = w })
    → IfOk r (λ s. s.frames ≡ rs) → IfOk r (λ s. GaveAllOf state_walk a b ended (kept_of s))
gave_made a b ended f h w rs (Err e) p opening frames = tt
gave_made a b ended f h w rs (Ok s) p opening frames =
    let o : Opening =
    record { format = f; payload_type = h.payload_type; ssrc = h.ssrc; window = w } in
    subst (λ (x : Opening). GaveAllOf state_walk a b ended (kept_by x s.frames)) (sym opening)
    (subst (λ (x : List Raster). GaveAllOf state_walk a b ended (kept_by o x)) (sym frames) p)

pub gave_memory : (a b : List ℕ) (ended : Type 0) (k : Kept)
    (r : Result State FileFault) → GaveAllOf state_walk a b ended k
    → IfErr r (λ f. f ≡ NoMemory) → IfErr r (λ f. GaveFault state_walk a b ended f)
gave_memory a b ended k (Ok s) g e = tt
gave_memory a b ended k (Err f) g e =
    subst (GaveFault state_walk a b ended) (sym e)
    (fault_memory state_walk a b ended (all_grew state_walk k a b ended g))

-- ---- what a reader of receivers' files owes of what any source gave

pub gave_found : (a b : List ℕ) (ended : Type 0) (r : Result State FileFault)
    → IfOk r (λ s. GaveAllOf state_walk a b ended (kept_of s)) → IfOk r IsWritable
    → IfOk r (λ s. (octets : List ℕ) → IsRead a b ended octets
    → IsReceiverFile octets s × IsSaved (kept_of s))
gave_found a b ended (Err f) g is = tt
gave_found a b ended (Ok s) g is =
    λ octets q. found_state (Some octets) (Some []) (Ok s)
    (all_read state_walk (kept_of s) a b ended octets g q)
    (all_octets state_walk (kept_of s) a b ended octets g q) is octets refl

pub gave_end : (a b : List ℕ) (ended : Type 0) (r : Result State FileFault)
    → IfOk r (λ s. GaveAllOf state_walk a b ended (kept_of s)) → OnOk r ended
gave_end a b ended (Err f) g = tt
gave_end a b ended (Ok s) g = g.over

pub gave_wrong : (a b : List ℕ) (ended : Type 0) (r : Result State FileFault)
    → IfErr r (λ f. GaveFault state_walk a b ended f)
    → IfErr r (λ f. (octets : List ℕ) → IsRead a b ended octets → AreOctets octets
    → IfContent f (IsStateFault f octets))
gave_wrong a b ended (Ok s) g = tt
gave_wrong a b ended (Err f) g =
    λ octets q bytes. wrong_state (Some octets) (Err f) bytes
    (fault_read state_walk a b ended f octets g q) octets refl

-- by what was read, if that is a receiver's file
takes_or_fails : (a b : List ℕ) (ended : Type 0) (r : Result State FileFault) (octets : List ℕ)
    → IfOk r (λ s. GaveAllOf state_walk a b ended (kept_of s)) → IsRead a b ended octets
    → IfOk r (λ s. Takes state_walk (Some octets) (Some []) (kept_of s))
takes_or_fails a b ended (Ok s) octets g q =
    all_read state_walk (kept_of s) a b ended octets g q
takes_or_fails a b ended (Err f) octets g q = tt

fails_so : (a b : List ℕ) (ended : Type 0) (r : Result State FileFault) (octets : List ℕ)
    → IfErr r (λ f. GaveFault state_walk a b ended f) → IsRead a b ended octets
    → IfErr r (λ f. Fails state_walk (Some octets) f)
fails_so a b ended (Ok s) octets g q = tt
fails_so a b ended (Err f) octets g q = fault_read state_walk a b ended f octets g q

pub gave_only : (a b : List ℕ) (ended : Type 0) (r : Result State FileFault)
    → IfOk r (λ s. GaveAllOf state_walk a b ended (kept_of s))
    → IfErr r (λ f. GaveFault state_walk a b ended f) → (k : Kept)
    → IsRead a b ended (state_text k) → IsSaved k
    → MatchResult r (λ s. kept_of s ≡ k) IsMachine
gave_only a b ended r g h k q is =
    only_state (Some (state_text k)) (Some []) r (takes_or_fails a b ended r (state_text k) g q)
    (fails_so a b ended r (state_text k) h q) k refl is

pub gave_same : (a b : List ℕ) (ended : Type 0) (r : Result State FileFault)
    → IfOk r (λ s. GaveAllOf state_walk a b ended (kept_of s))
    → IfErr r (λ f. GaveFault state_walk a b ended f) → IfOk r IsReceiver → (s : State)
    → IsRead a b ended (state_text (kept_of s)) → IsWritable s
    → IfOk r (λ x. (x.opening ≡ s.opening) × (x.frames ≡ s.frames))
gave_same a b ended r g h receiver s q is =
    let octets : List ℕ = state_text (kept_of s) in
    loaded_same (Some octets) (Some []) r (takes_or_fails a b ended r octets g q)
    (fails_so a b ended r octets h q) receiver s refl is.receiver (writable_saved s is)

pub gave_grew : (a b : List ℕ) (ended : Type 0) (r : Result State FileFault)
    → IfOk r (λ s. GaveAllOf state_walk a b ended (kept_of s))
    → IfErr r (λ f. GaveFault state_walk a b ended f) → GrewFrom a b
gave_grew a b ended (Ok s) g h = all_grew state_walk (kept_of s) a b ended g
gave_grew a b ended (Err f) g h = fault_grew state_walk a b ended f h
