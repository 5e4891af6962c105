-- Frames that are read after others.
use Rattle.std.proofs.Common.{◌≡◌, ℕ, zero, suc, ◌+◌, List, [], ◌∷◌, ◌++◌, map, Option, None, Some}
use Rattle.std.proofs.Common.{Result, Ok, Err, refl, sym, ap, ◌∙◌, subst, append_assoc, append-nil}
use Rattle.std.proofs.Common.{arith}
use Rattle.st_format.specs.declared.cell.Cell.{Cell}
use Rattle.st_format.specs.Fields.{Fields}
use Rattle.media_file.specs.declared.fault.FileFault.{FileFault}
use Rattle.media_file.specs.Fields.{Fails}
use Rattle.st_format.specs.Given.{Takes, with_rest}
use Rattle.st_format.specs.Reading.{◌>>=◌}
use Rattle.media_file.specs.Groups.{groups_at, shape_of}
use Rattle.media_file.specs.StateFile.{Held, raster_groups}
use Rattle.receiver_file.specs.Saved.{timestamp_in}
use Rattle.receiver_file.specs.StateReading.{all_held_at, held_at, timestamp_at}
use Rattle.st_format.proofs.Origins.{if_content_weaker}
use Rattle.st_format.proofs.Parsing.{fails_first, fails_then, gives_pure, gives_then, then_reads}
use Rattle.media_file.specs.Faults.{file_fault_origin}

abbrev Many : Type 0
Many = Result (List Held × List ℕ) FileFault

abbrev ok_many : List Held → List ℕ → Many
ok_many hs rest = Ok (hs, rest)

-- some frames behind these timestamps, and so many more
abbrev after : Fields → ℕ → List ℕ → Many → Many
after f b before r =
    r >>= λ x. all_held_at f b (before ++ map timestamp_in x.0) x.1 >>=
    λ y. ok_many (x.0 ++ y.0) y.1

same_pair : (r : Many) → r ≡ (r >>= λ y. ok_many ([] ++ y.0) y.1)
same_pair (Ok x) = refl
same_pair (Err f) = refl

one_front : (h : Held) (front : List Held) (r : Many)
    → ((r >>= λ z. ok_many (front ++ z.0) z.1) >>= λ z. ok_many (h ∷ z.0) z.1)
    ≡ (r >>= λ z. ok_many ((h ∷ front) ++ z.0) z.1)
one_front h front (Ok z) = refl
one_front h front (Err f) = refl

front_after : (f : Fields) (b : ℕ) (before : List ℕ) (h : Held) (r : Many)
    → (after f b (before ++ h.timestamp ∷ []) r >>= λ z. ok_many (h ∷ z.0) z.1)
    ≡ after f b before (r >>= λ y. ok_many (h ∷ y.0) y.1)
front_after f b before h (Ok y) =
    one_front h y.0 (all_held_at f b ((before ++ h.timestamp ∷ []) ++ map timestamp_in y.0) y.1)
    ∙ ap (λ (w : List ℕ). all_held_at f b w y.1 >>= λ z. ok_many ((h ∷ y.0) ++ z.0) z.1)
    (append_assoc before (h.timestamp ∷ []) (map timestamp_in y.0))
front_after f b before h (Err e) = refl

first_after : (f : Fields) (a b : ℕ) (before : List ℕ) (r : Result (Held × List ℕ) FileFault)
    → ((w m : List ℕ) → all_held_at f (a + b) w m ≡ after f b w (all_held_at f a w m))
    → (r >>= λ x. all_held_at f (a + b) (before ++ x.0.timestamp ∷ []) x.1 >>=
    λ y. ok_many (x.0 ∷ y.0) y.1)
    ≡ after f b before
    (r >>= λ x. all_held_at f a (before ++ x.0.timestamp ∷ []) x.1 >>= λ y. ok_many (x.0 ∷ y.0) y.1)
first_after f a b before (Ok x) h =
    ap (λ (r : Many). r >>= λ y. ok_many (x.0 ∷ y.0) y.1) (h (before ++ x.0.timestamp ∷ []) x.1)
    ∙ front_after f b before x.0 (all_held_at f a (before ++ x.0.timestamp ∷ []) x.1)
first_after f a b before (Err e) h = refl

-- frames are so many, and then the others
all_held_add : (f : Fields) (a b : ℕ) (before octets : List ℕ)
    → all_held_at f (a + b) before octets ≡ after f b before (all_held_at f a before octets)
unfolding all_held_at
all_held_add f zero b before octets =
    let e : 0 + b ≡ b = omega arith in
    ap (λ (n : ℕ). all_held_at f n before octets) e
    ∙ ap (λ (w : List ℕ). all_held_at f b w octets) (sym (append-nil before))
    ∙ same_pair (all_held_at f b (before ++ []) octets)
all_held_add f (suc a) b before octets =
    let e : suc a + b ≡ suc (a + b) = omega arith in
    ap (λ (n : ℕ). all_held_at f n before octets) e
    ∙ first_after f a b before (held_at f before octets) (λ w m. all_held_add f a b w m)

one_held : (f : Fields) (before octets : List ℕ)
    → all_held_at f 1 before octets ≡ (held_at f before octets >>= λ h. ok_many (h.0 ∷ []) h.1)
unfolding all_held_at
one_held f before octets = refl

pub frames_none : (f : Fields) (known : Option (List ℕ)) → Takes (all_held_at f 0 []) known known []
unfolding all_held_at
frames_none f None = tt
frames_none f (Some o) = refl

-- one frame more
pub frames_more : (f : Fields) (a : ℕ) (old mid new : Option (List ℕ)) (hs : List Held) (h : Held)
    → Takes (all_held_at f a []) old mid hs → Takes (held_at f (map timestamp_in hs)) mid new h
    → Takes (all_held_at f (a + 1) []) old new (hs ++ h ∷ [])
frames_more f a None mid new hs h p q = tt
frames_more f a (Some o) None new hs h p q = absurd p
frames_more f a (Some o) (Some m) None hs h p q = absurd q
frames_more f a (Some o) (Some m) (Some rest) hs h p q =
    all_held_add f a 1 [] o ∙ ap (after f 1 []) p
    ∙ ap (λ (r : Many). r >>= λ y. ok_many (hs ++ y.0) y.1)
    (one_held f (map timestamp_in hs) m
    ∙ ap (λ (r : Result (Held × List ℕ) FileFault). r >>= λ x. ok_many (x.0 ∷ []) x.1) q)

frames_fault : (f : Fields) (a : ℕ) (old mid : Option (List ℕ)) (hs : List Held) (e : FileFault)
    → Takes (all_held_at f a []) old mid hs → Fails (held_at f (map timestamp_in hs)) mid e
    → Fails (all_held_at f (a + 1) []) old e
frames_fault f a None mid hs e p q = tt
frames_fault f a (Some o) None hs e p q = absurd p
frames_fault f a (Some o) (Some m) hs e p q =
    if_content_weaker file_fault_origin e (held_at f (map timestamp_in hs) m ≡ Err e)
    (all_held_at f (a + 1) [] o ≡ Err e)
    (λ bad. all_held_add f a 1 [] o ∙ ap (after f 1 []) p
    ∙ ap (λ (r : Many). r >>= λ y. ok_many (hs ++ y.0) y.1)
    (one_held f (map timestamp_in hs) m
    ∙ ap (λ (r : Result (Held × List ℕ) FileFault). r >>= λ x. ok_many (x.0 ∷ []) x.1) bad)) q

frames_cut : (f : Fields) (a b : ℕ) (old : Option (List ℕ)) (e : FileFault)
    → Fails (all_held_at f a []) old e → Fails (all_held_at f (a + b) []) old e
frames_cut f a b None e p = tt
frames_cut f a b (Some o) e p =
    if_content_weaker file_fault_origin e (all_held_at f a [] o ≡ Err e)
    (all_held_at f (a + b) [] o ≡ Err e)
    (λ bad. all_held_add f a b [] o ∙ ap (after f b []) bad) p

-- a fault of a frame, before some that weren't read
pub frames_stop : (f : Fields) (a c n : ℕ) (old mid : Option (List ℕ)) (hs : List Held)
    (e : FileFault) → (a + 1) + c ≡ n → Takes (all_held_at f a []) old mid hs
    → Fails (held_at f (map timestamp_in hs)) mid e → Fails (all_held_at f n []) old e
frames_stop f a c n old mid hs e sum p q =
    subst (λ (k : ℕ). Fails (all_held_at f k []) old e) sum
    (frames_cut f (a + 1) c old e (frames_fault f a old mid hs e p q))

-- ---- one frame

abbrev made : ℕ → List (List Cell) → Held
made t gs = record { timestamp = t; groups = gs }

abbrev with_groups : Fields → ℕ → List ℕ → Result (Held × List ℕ) FileFault
with_groups f t octets =
    then_reads (groups_at (shape_of f.sampling f.depth) (raster_groups f))
    (λ g rest. with_rest (Ok (made t g)) rest) octets

pub held_gives : (f : Fields) (before : List ℕ) (old mid new : Option (List ℕ)) (t : ℕ)
    (gs : List (List Cell)) → Takes (timestamp_at before) old mid t
    → Takes (groups_at (shape_of f.sampling f.depth) (raster_groups f)) mid new gs
    → Takes (held_at f before) old new (made t gs)
unfolding held_at
held_gives f before old mid new t gs p q =
    gives_then (timestamp_at before) (with_groups f) old mid new t (made t gs) p
    (gives_then (groups_at (shape_of f.sampling f.depth) (raster_groups f))
    (λ g rest. with_rest (Ok (made t g)) rest) mid new new gs (made t gs) q
    (gives_pure (Ok (made t gs)) new (made t gs) refl))

pub held_cut : (f : Fields) (before : List ℕ) (old : Option (List ℕ)) (e : FileFault)
    → Fails (timestamp_at before) old e → Fails (held_at f before) old e
unfolding held_at
held_cut f before old e p =
    fails_first file_fault_origin (timestamp_at before) (with_groups f) old e p

pub held_fails : (f : Fields) (before : List ℕ) (old mid : Option (List ℕ)) (t : ℕ) (e : FileFault)
    → Takes (timestamp_at before) old mid t
    → Fails (groups_at (shape_of f.sampling f.depth) (raster_groups f)) mid e
    → Fails (held_at f before) old e
unfolding held_at
held_fails f before old mid t e p q =
    fails_then file_fault_origin (timestamp_at before) (with_groups f) old mid t e p
    (fails_first file_fault_origin (groups_at (shape_of f.sampling f.depth) (raster_groups f))
    (λ g rest. with_rest (Ok (made t g)) rest) mid e q)
