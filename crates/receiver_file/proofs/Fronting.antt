-- The fields before the frames, read from a source.
use Rattle.std.proofs.Common.{◌≡◌, ℕ, ◌<◌, ◌≤◌, Bool, cond, ltb, ◌||◌, List, Option, Result, Ok}
use Rattle.std.proofs.Common.{Err, refl, sym, ap, ◌∙◌, arith}
use Rattle.std.specs.Prelude.{IfErr, IfOk}
use Rattle.std.proofs.lemmas.Bool.{eq-eqb, le-ltb, lt-ltb, ne_eqb}
use Rattle.media_file.specs.declared.fault.FileFault.{FileFault}
use Rattle.media_file.specs.declared.fault.FileFault.TheVariants.{BadField, BadVersion}
use Rattle.media_file.specs.declared.front.Version.{Version}
use Rattle.media_file.specs.declared.front.Version.TheVariants.{One, Two}
use Rattle.media_file.specs.Fields.{Fails}
use Rattle.st_format.specs.Given.{Takes}
use Rattle.media_file.specs.Fronts.{kind_at, receiver_name}
use Rattle.receiver_file.specs.declared.front.Head.{Head}
use Rattle.receiver_file.specs.Front.{count_at, window_count, flag_at, flag_of, head_at, name_at}
use Rattle.receiver_file.specs.Front.{only_one, payload_type_at, payload_type_of, ssrc_at, ssrc_of}
use Rattle.receiver_file.specs.Numbers.{number_at, octet_at}
use Rattle.receiver_file.proofs.Valued.{call_fails, call_gives, value_cut, value_fails, value_gives}
use Rattle.receiver_file.proofs.Valued.{valued}
use Rattle.st_format.proofs.Parsing.{fails_first, fails_then, gives_then, then_reads}
use Rattle.media_file.specs.Faults.{file_fault_origin}

abbrev ok : ℕ → Result ℕ FileFault
ok n = Ok n

abbrev bad : Result ℕ FileFault
bad = Err BadField

pub payload_type_cut : (old : Option (List ℕ)) (f : FileFault) → Fails octet_at old f
    → Fails payload_type_at old f
unfolding payload_type_at
payload_type_cut old f p = value_cut octet_at payload_type_of old f p

pub payload_type_gives : (old mid : Option (List ℕ)) (n : ℕ) → n ≤ 127 → Takes octet_at old mid n
    → Takes payload_type_at old mid n
unfolding payload_type_at
payload_type_gives old mid n le p =
    value_gives octet_at payload_type_of old mid n n p
    (ap (λ (b : Bool). cond b bad (ok n)) (le-ltb 127 n le))

pub payload_type_high : (old mid : Option (List ℕ)) (n : ℕ) → 127 < n → Takes octet_at old mid n
    → Fails payload_type_at old BadField
unfolding payload_type_at
payload_type_high old mid n lt p =
    value_fails octet_at payload_type_of old mid n BadField p
    (ap (λ (b : Bool). cond b bad (ok n)) (lt-ltb 127 n lt))

pub flag_cut : (old : Option (List ℕ)) (f : FileFault) → Fails octet_at old f → Fails flag_at old f
unfolding flag_at
flag_cut old f p = value_cut octet_at flag_of old f p

pub flag_gives : (old mid : Option (List ℕ)) (n : ℕ) (r : Result Bool FileFault)
    → Takes octet_at old mid n → r ≡ flag_of n → IfOk r (λ b. Takes flag_at old mid b)
unfolding flag_at
flag_gives old mid n r p e = call_gives octet_at flag_of old mid n r p e

pub flag_fails : (old mid : Option (List ℕ)) (n : ℕ) (r : Result Bool FileFault)
    → Takes octet_at old mid n → r ≡ flag_of n → IfErr r (λ f. Fails flag_at old f)
unfolding flag_at
flag_fails old mid n r p e = call_fails octet_at flag_of old mid n r p e

pub count_cut : (old : Option (List ℕ)) (f : FileFault) → Fails octet_at old f
    → Fails count_at old f
unfolding count_at
count_cut old f p = value_cut octet_at window_count old f p

pub count_gives : (old mid : Option (List ℕ)) (n : ℕ) → (n ≡ 0 → ⊥) → n ≤ 16
    → Takes octet_at old mid n → Takes count_at old mid n
unfolding count_at
count_gives old mid n some few p =
    value_gives octet_at window_count old mid n n p
    (ap (λ (b : Bool). cond (b || ltb 16 n) bad (ok n)) (ne_eqb n 0 some)
    ∙ ap (λ (b : Bool). cond b bad (ok n)) (le-ltb 16 n few))

pub count_none : (old mid : Option (List ℕ)) (n : ℕ) → n ≡ 0 → Takes octet_at old mid n
    → Fails count_at old BadField
unfolding count_at
count_none old mid n none p =
    value_fails octet_at window_count old mid n BadField p
    (ap (λ (b : Bool). cond (b || ltb 16 n) bad (ok n)) (eq-eqb n 0 none))

pub count_many : (old mid : Option (List ℕ)) (n : ℕ) → 16 < n → Takes octet_at old mid n
    → Fails count_at old BadField
unfolding count_at
count_many old mid n many p =
    value_fails octet_at window_count old mid n BadField p
    (ap (λ (b : Bool). cond (b || ltb 16 n) bad (ok n)) (ne_eqb n 0 (λ (e : n ≡ 0). omega arith))
    ∙ ap (λ (b : Bool). cond b bad (ok n)) (lt-ltb 16 n many))

-- ---- name and version

pub name_cut : (old : Option (List ℕ)) (f : FileFault) → Fails (kind_at receiver_name) old f
    → Fails name_at old f
unfolding name_at
name_cut old f p = value_cut (kind_at receiver_name) only_one old f p

pub name_one : (old mid : Option (List ℕ)) (v : Version) → v ≡ One
    → Takes (kind_at receiver_name) old mid v → Takes name_at old mid tt
unfolding name_at
name_one old mid v e p = value_gives (kind_at receiver_name) only_one old mid v tt p (ap only_one e)

pub name_two : (old mid : Option (List ℕ)) (v : Version) → v ≡ Two
    → Takes (kind_at receiver_name) old mid v → Fails name_at old BadVersion
unfolding name_at
name_two old mid v e p =
    value_fails (kind_at receiver_name) only_one old mid v BadVersion p (ap only_one e)

-- ---- the source that is pinned

abbrev behind_flag : Bool → List ℕ → Result (Option ℕ × List ℕ) FileFault
behind_flag b octets = valued number_at (ssrc_of b) octets

pub ssrc_cut : (old : Option (List ℕ)) (f : FileFault) → Fails flag_at old f → Fails ssrc_at old f
unfolding ssrc_at
ssrc_cut old f p = fails_first file_fault_origin flag_at behind_flag old f p

pub ssrc_short : (old mid : Option (List ℕ)) (b : Bool) (f : FileFault) → Takes flag_at old mid b
    → Fails number_at mid f → Fails ssrc_at old f
unfolding ssrc_at
ssrc_short old mid b f p q =
    fails_then file_fault_origin flag_at behind_flag old mid b f p
    (value_cut number_at (ssrc_of b) mid f q)

pub ssrc_gives : (old mid new : Option (List ℕ)) (b : Bool) (n : ℕ)
    (r : Result (Option ℕ) FileFault) → Takes flag_at old mid b → Takes number_at mid new n
    → r ≡ ssrc_of b n → IfOk r (λ s. Takes ssrc_at old new s)
unfolding ssrc_at
ssrc_gives old mid new b n (Ok s) p q e =
    gives_then flag_at behind_flag old mid new b s p
    (value_gives number_at (ssrc_of b) mid new n s q (sym e))
ssrc_gives old mid new b n (Err f) p q e = tt

pub ssrc_fails : (old mid new : Option (List ℕ)) (b : Bool) (n : ℕ)
    (r : Result (Option ℕ) FileFault) → Takes flag_at old mid b → Takes number_at mid new n
    → r ≡ ssrc_of b n → IfErr r (λ f. Fails ssrc_at old f)
unfolding ssrc_at
ssrc_fails old mid new b n (Ok s) p q e = tt
ssrc_fails old mid new b n (Err f) p q e =
    fails_then file_fault_origin flag_at behind_flag old mid b f p
    (value_fails number_at (ssrc_of b) mid new n f q (sym e))

-- ---- all of them

abbrev head_made : ℕ → Option ℕ → ℕ → Result Head FileFault
head_made p s n = Ok (record { payload_type = p; ssrc = s; count = n })

abbrev behind_ssrc : ℕ → Option ℕ → List ℕ → Result (Head × List ℕ) FileFault
behind_ssrc p s octets = valued count_at (head_made p s) octets

abbrev behind_type : ℕ → List ℕ → Result (Head × List ℕ) FileFault
behind_type p octets = then_reads ssrc_at (behind_ssrc p) octets

pub head_first : (old : Option (List ℕ)) (f : FileFault) → Fails payload_type_at old f
    → Fails head_at old f
unfolding head_at
head_first old f p = fails_first file_fault_origin payload_type_at behind_type old f p

pub head_second : (old mid : Option (List ℕ)) (n : ℕ) (f : FileFault)
    → Takes payload_type_at old mid n → Fails ssrc_at mid f → Fails head_at old f
unfolding head_at
head_second old mid n f p q =
    fails_then file_fault_origin payload_type_at behind_type old mid n f p
    (fails_first file_fault_origin ssrc_at (behind_ssrc n) mid f q)

pub head_third : (old mid next : Option (List ℕ)) (n : ℕ) (s : Option ℕ) (f : FileFault)
    → Takes payload_type_at old mid n → Takes ssrc_at mid next s → Fails count_at next f
    → Fails head_at old f
unfolding head_at
head_third old mid next n s f p q r =
    fails_then file_fault_origin payload_type_at behind_type old mid n f p
    (fails_then file_fault_origin ssrc_at (behind_ssrc n) mid next s f q
    (value_cut count_at (head_made n s) next f r))

pub head_gives : (old mid next new : Option (List ℕ)) (n : ℕ) (s : Option ℕ) (count : ℕ)
    → Takes payload_type_at old mid n → Takes ssrc_at mid next s → Takes count_at next new count
    → Takes head_at old new (record { payload_type = n; ssrc = s; count = count })
unfolding head_at
head_gives old mid next new n s count p q r =
    gives_then payload_type_at behind_type old mid new n
    (record { payload_type = n; ssrc = s; count = count }) p
    (gives_then ssrc_at (behind_ssrc n) mid next new s
    (record { payload_type = n; ssrc = s; count = count }) q
    (value_gives count_at (head_made n s) next new count
    (record { payload_type = n; ssrc = s; count = count }) r refl))
