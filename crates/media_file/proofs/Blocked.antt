-- A format block that is read.
use Rattle.std.proofs.Common.{◌≡◌, ℕ, Bool, true, false, cond, ◌&&◌, eqb, List, [], ◌∷◌, get_or}
use Rattle.std.proofs.Common.{Option, Result, Ok, Err, sym, ap, ◌∙◌, inl, inr}
use Rattle.std.specs.Prelude.{◌⊎◌, IfOk, IfErr}
use Rattle.std.specs.Int.{w16, w32, from_be_bytes}
use Rattle.std.proofs.lemmas.Bool.{eq-eqb, ne_eqb}
use Rattle.st_format.specs.declared.sampling.Sampling.{Sampling}
use Rattle.st_format.specs.declared.sampling.Depth.{Depth}
use Rattle.st_format.specs.declared.format.Format.{Format}
use Rattle.st_format.specs.declared.format.FormatFault.{FormatFault}
use Rattle.st_format.specs.Fields.{Fields, fields_of, format_at, made_fields}
use Rattle.media_file.specs.declared.fault.FileFault.{FileFault}
use Rattle.media_file.specs.declared.fault.FileFault.TheVariants.{BadField}
use Rattle.media_file.specs.Blocks.{block_at, block_of, depth_of, lowest}
use Rattle.media_file.specs.Blocks.{sampling_of}
use Rattle.media_file.specs.Fields.{Fails, field_at}
use Rattle.st_format.specs.Given.{Takes, with_rest}
use Rattle.st_format.specs.Reading.{◌>>=◌}
use Rattle.st_format.proofs.Parsing.{fails_first, fails_pure, fails_then, gives_pure, gives_then}
use Rattle.media_file.specs.Faults.{file_fault_origin}

abbrev Read : Type 0
Read = Result Fields FileFault

-- a block of known parts
parts : (block : List ℕ) (s : Sampling) (b : Depth) (w h n d : ℕ)
    → Ok s ≡ sampling_of (get_or block 0 0) → Ok b ≡ depth_of (get_or block 1 0)
    → w ≡ from_be_bytes w16 (get_or block 2 0 ∷ get_or block 3 0 ∷ [])
    → h ≡ from_be_bytes w16 (get_or block 4 0 ∷ get_or block 5 0 ∷ [])
    → n
    ≡ from_be_bytes w32
    (get_or block 6 0 ∷ get_or block 7 0 ∷ get_or block 8 0 ∷ get_or block 9 0 ∷ [])
    → d
    ≡ from_be_bytes w32
    (get_or block 10 0 ∷ get_or block 11 0 ∷ get_or block 12 0 ∷ get_or block 13 0 ∷ [])
    → lowest (format_at s b w h n d) n d ≡ block_of block
parts block s b w h n d es eb ew eh en ed =
    let w1 : ℕ = from_be_bytes w16 (get_or block 2 0 ∷ get_or block 3 0 ∷ []) in
    let h1 : ℕ = from_be_bytes w16 (get_or block 4 0 ∷ get_or block 5 0 ∷ []) in
    let n1 : ℕ =
    from_be_bytes w32
    (get_or block 6 0 ∷ get_or block 7 0 ∷ get_or block 8 0 ∷ get_or block 9 0 ∷ []) in
    let d1 : ℕ =
    from_be_bytes w32
    (get_or block 10 0 ∷ get_or block 11 0 ∷ get_or block 12 0 ∷ get_or block 13 0 ∷ []) in
    ap (λ (x : ℕ). lowest (format_at s b x h n d) n d) ew
    ∙ ap (λ (x : ℕ). lowest (format_at s b w1 x n d) n d) eh
    ∙ ap (λ (x : ℕ). lowest (format_at s b w1 h1 x d) x d) en
    ∙ ap (λ (x : ℕ). lowest (format_at s b w1 h1 n1 x) n1 x) ed
    ∙ ap (λ (r : Result Depth FileFault). r >>= λ y. lowest (format_at s y w1 h1 n1 d1) n1 d1) eb
    ∙ ap
    (λ (r : Result Sampling FileFault). r >>= λ x. depth_of (get_or block 1 0) >>=
    λ y. lowest (format_at x y w1 h1 n1 d1) n1 d1) es

both_eq : (a b c d : ℕ) → a ≡ b → c ≡ d → (eqb a b && eqb c d) ≡ true
both_eq a b c d p q = ap (λ (x : Bool). x && eqb c d) (eq-eqb a b p) ∙ eq-eqb c d q

one_ne : (a b c d : ℕ) → (a ≡ b → ⊥) ⊎ ((a ≡ b) × (c ≡ d → ⊥)) → (eqb a b && eqb c d) ≡ false
one_ne a b c d (inl p) = ap (λ (x : Bool). x && eqb c d) (ne_eqb a b p)
one_ne a b c d (inr p) = ap (λ (x : Bool). x && eqb c d) (eq-eqb a b p.0) ∙ ne_eqb c d p.1

-- a rate in lowest terms, and another
pub lowest_good : (f : Fields) (r : Result Fields FormatFault) (n d : ℕ) → Ok f ≡ r → f.n ≡ n
    → f.d ≡ d → Ok f ≡ lowest r n d
lowest_good f r n d e p q =
    sym (ap (λ (x : Result Fields FormatFault). lowest x n d) (sym e)
    ∙ ap (λ (b : Bool). let x : Read = cond b (Ok f) (Err BadField) in x) (both_eq f.n n f.d d p q))

pub lowest_bad : (f : Fields) (r : Result Fields FormatFault) (n d : ℕ) → Ok f ≡ r
    → (f.n ≡ n → ⊥) ⊎ ((f.n ≡ n) × (f.d ≡ d → ⊥)) → Err BadField ≡ lowest r n d
lowest_bad f r n d e p =
    sym (ap (λ (x : Result Fields FormatFault). lowest x n d) (sym e)
    ∙ ap (λ (b : Bool). let x : Read = cond b (Ok f) (Err BadField) in x) (one_ne f.n n f.d d p))

pub block_parts : (block : List ℕ) (r : Read) (s : Sampling) (b : Depth) (w h n d : ℕ)
    → Ok s ≡ sampling_of (get_or block 0 0) → Ok b ≡ depth_of (get_or block 1 0)
    → w ≡ from_be_bytes w16 (get_or block 2 0 ∷ get_or block 3 0 ∷ [])
    → h ≡ from_be_bytes w16 (get_or block 4 0 ∷ get_or block 5 0 ∷ [])
    → n
    ≡ from_be_bytes w32
    (get_or block 6 0 ∷ get_or block 7 0 ∷ get_or block 8 0 ∷ get_or block 9 0 ∷ [])
    → d
    ≡ from_be_bytes w32
    (get_or block 10 0 ∷ get_or block 11 0 ∷ get_or block 12 0 ∷ get_or block 13 0 ∷ [])
    → r ≡ lowest (format_at s b w h n d) n d → r ≡ block_of block
block_parts block r s b w h n d es eb ew eh en ed e = e ∙ parts block s b w h n d es eb ew eh en ed

-- from a source
pub block_gives : (old mid : Option (List ℕ)) (block : List ℕ) (r : Result Format FileFault)
    → Takes (field_at 14) old mid block → made_fields r ≡ block_of block
    → IfOk r (λ f. Takes block_at old mid (fields_of f))
unfolding block_at
block_gives old mid block (Ok f) p e =
    gives_then (field_at 14) (λ x rest. with_rest (block_of x) rest) old mid mid block
    (fields_of f) p (gives_pure (block_of block) mid (fields_of f) (sym e))
block_gives old mid block (Err f) p e = tt

pub block_fails : (old mid : Option (List ℕ)) (block : List ℕ) (r : Result Format FileFault)
    → Takes (field_at 14) old mid block → made_fields r ≡ block_of block
    → IfErr r (λ f. Fails block_at old f)
unfolding block_at
block_fails old mid block (Ok f) p e = tt
block_fails old mid block (Err f) p e =
    fails_then file_fault_origin (field_at 14) (λ x rest. with_rest (block_of x) rest) old mid block
    f p
    (fails_pure file_fault_origin (block_of block) mid f (sym e))

pub block_cut : (old : Option (List ℕ)) (f : FileFault) → Fails (field_at 14) old f
    → Fails block_at old f
unfolding block_at
block_cut old f p =
    fails_first file_fault_origin (field_at 14) (λ x rest. with_rest (block_of x) rest) old f p
