-- A script without a slide ends with the frame lines of a receiver of its datagrams.
use Rattle.std.proofs.Common.{◌≡◌, ℕ, Bool, true, false, List, [], ◌∷◌, ◌++◌, append_assoc, append-nil}
use Rattle.std.proofs.Common.{Option, None, Ok, codes, length, drop, take}
use Rattle.std.proofs.Common.{refl, sym, ap, ◌∙◌, subst, arith, inl, inr}
use Rattle.std.specs.Prelude.{bytes_eq}
use Rattle.std.specs.List.{flat_map}
use Rattle.std.proofs.lemmas.Slice.Eq.{bytes_eq-Decides}
use Rattle.hex.specs.Hex.{decode_of}
use Rattle.hex.proofs.HexLemmas.{decode_of-ok}
use Rattle.st_format.specs.declared.path.Path.{Path}
use Rattle.st_format.specs.Member.{SameDatagrams}
use Rattle.st_format.specs.Raster.{Raster}
use Rattle.path_receiver.specs.Frames.{Holds, State, frame_at, frames_of, joined_frames}
use Rattle.path_receiver.specs.Numbers.{Numbers}
use Rattle.path_receiver.specs.Opening.{Opening}
use Rattle.path_receiver.proofs.Frames.{frames_of-append, frames_of-same}
use Rattle.run_outcome.specs.Frames.{frame_line, frame_lines}
use Rattle.run_outcome.specs.declared.line.Line.{Line}
use Rattle.script_engines.specs.Forms.{IsOctetsText}
use Rattle.script_engines.specs.Script.{numbered_lines}
use Rattle.script_engines.specs.Session.{AnswersDatagram}
use Rattle.script_engines.specs.Traced.{FollowsLine, FollowsLines, OpensBy, Traces}
use Rattle.script_engines.proofs.LinesOnce.{line_kinds}
use Rattle.run_laws.specs.Scripts.{EndsWith, HasNoSlide, datagram_of, datagram_said, datagrams_said}
use Rattle.run_laws.specs.Scripts.{first_lines, lines_behind, texts_of}
use Rattle.script_engines.proofs.LinesOnce.{one_format}
use Rattle.run_laws.proofs.ScriptLines.{one_opening}

-- ---- the datagram of a line

digits_decoded : (digits octets : List ℕ) (t : Bool) → bytes_eq digits (codes "-") ≡ t
    → decode_of digits ≡ Ok octets → datagram_of digits ≡ octets ∷ []
digits_decoded digits octets true e ok =
    let same : digits ≡ codes "-" = (bytes_eq-Decides digits (codes "-")).0 e in
    let long : length digits ≡ 1 = ap (λ (l : List ℕ). length l) same in
    absurd (omega (arith, long, (decode_of-ok digits octets ok).2))
digits_decoded digits octets false e ok = rw (e, ok) refl

octets_said : (digits octets : List ℕ) → IsOctetsText digits octets
    → datagram_of digits ≡ octets ∷ []
octets_said digits [] is = ap (λ (l : List ℕ). datagram_of l) is
octets_said digits (b ∷ octets) is =
    digits_decoded digits (b ∷ octets) (bytes_eq digits (codes "-")) refl is

-- ---- a line behind the first two

abbrev Held : State → State → List (List ℕ) → Type 0
Held old new datagrams = (new.opening ≡ old.opening) × Holds new datagrams

answered : (text digits octets : List ℕ) (path : Path) (old new : State)
    (before after : Option Numbers) (answer : Option Line) (xs : List (List ℕ))
    → datagram_said text ≡ datagram_of digits → IsOctetsText digits octets
    → AnswersDatagram path octets old new before after answer → Holds old xs
    → Held old new (xs ++ datagram_said text)
answered text digits octets path old new before after answer xs said is a holds =
    let one : datagram_said text ≡ octets ∷ [] = said ∙ octets_said digits octets is in
    let joined =
    a.frames ∙ ap (λ (fs : List Raster). joined_frames fs (frames_of old.opening (octets ∷ [])))
    holds
    ∙ sym (frames_of-append old.opening xs (octets ∷ [])) in (
      a.opening,
      subst (λ (d : List (List ℕ)). Holds new (xs ++ d)) (sym one)
          (subst (λ (o : Opening). new.frames ≡ frames_of o (xs ++ octets ∷ [])) (sym a.opening)
          joined),
    )

unchanged : (text : List ℕ) (old new : State) (xs : List (List ℕ)) → datagram_said text ≡ []
    → new ≡ old → Holds old xs → Held old new (xs ++ datagram_said text)
unchanged text old new xs none same holds = (
  ap (λ (s : State). s.opening) same,
  subst (λ (d : List (List ℕ)). Holds new (xs ++ d)) (sym none)
      (subst (λ (s : State). Holds s (xs ++ [])) (sym same)
      (subst (λ (l : List (List ℕ)). Holds old l) (sym (append-nil xs)) holds)),
)

by_kind : (text : List ℕ) (old new : State) (before after : Option Numbers)
    (answer : Option Line) (xs : List (List ℕ)) → FollowsLine text old new before after answer
    → ((rest : List ℕ) → (codes "slide " ++ rest) ≡ text → ⊥) → Holds old xs
    → Held old new (xs ++ datagram_said text)
by_kind text old new before after answer xs f none holds =
    elim (line_kinds text f.0 old new before after answer f.1 f.2) [
      | inl d ↦
          let said : datagram_said text ≡ datagram_of d.digits =
          elim d.text_is [
            | inl a ↦ ap (λ (l : List ℕ). datagram_said l) a
            | inr b ↦ ap (λ (l : List ℕ). datagram_said l) b
          ] in
          answered text d.digits d.octets d.path old new before after answer xs said d.said
          d.answers holds
      | inr other ↦ elim other [
        | inl slide ↦ absurd (none slide.0 (sym slide.1))
        | inr left ↦
            let said : datagram_said text ≡ [] =
            elim left.text_is [
              | inl n ↦ ap (λ (l : List ℕ). datagram_said l) n
              | inr c ↦ ap (λ (l : List ℕ). datagram_said l) c
            ] in
            unchanged text old new xs said left.same holds
      ]
    ]

-- ---- all of them

all_followed : (lines : List (ℕ × List ℕ)) (old new : State) (before after : Option Numbers)
    (text : List ℕ) (xs : List (List ℕ)) → FollowsLines lines old new before after text
    → HasNoSlide (texts_of lines) → Holds old xs
    → Held old new (xs ++ flat_map datagram_said (texts_of lines))
all_followed [] old new before after text xs f none holds = (
  ap (λ (s : State). s.opening) f.0,
  subst (λ (s : State). Holds s (xs ++ [])) (sym f.0)
      (subst (λ (l : List (List ℕ)). Holds old l) (sym (append-nil xs)) holds),
)
all_followed (next ∷ lines) old new before after text xs f none holds =
    let one =
    by_kind next.1 old f.0 before f.1 f.2 xs f.4 (λ rest e. none rest (inl e)) holds in
    let more =
    all_followed lines f.0 new f.1 after f.3 (xs ++ datagram_said next.1) f.5
    (λ rest m. none rest (inr m)) one.1 in (
      more.0 ∙ one.0,
      subst (λ (d : List (List ℕ)). Holds new d)
          (append_assoc xs (datagram_said next.1) (flat_map datagram_said (texts_of lines))) more.1,
    )

-- ---- a script

-- the lines of a script that opens a receiver
opened_lines : (script : List ℕ) (rest : List (ℕ × List ℕ)) (opened : State)
    (o : OpensBy (numbered_lines 0 script) rest opened)
    → texts_of (numbered_lines 0 script)
    ≡ o.format_read.text ∷ o.opening_read.text ∷ texts_of rest
opened_lines script rest opened o =
    ap (λ (l : List (ℕ × List ℕ)). texts_of l) o.format_read.next
    ∙ ap (λ (l : List (ℕ × List ℕ)). o.format_read.text ∷ texts_of l) o.opening_read.next

pub ended : (script old new : List ℕ) → Traces script old new
    → (last : State) × (lines : List ℕ) × EndsWith script old new last lines
ended script old new t = (
  t.plays.last,
  frame_lines t.plays.last,
  record {
    opened = t.opened;
    rest = t.rest;
    opens = t.opens;
    numbers = t.plays.numbers;
    answers = t.plays.text;
    followed = t.plays.followed;
    printed = t.plays.printed;
    lines_are = refl;
  },
)

held_in_the_end : (script old new : List ℕ) (last : State) (lines : List ℕ)
    (e : EndsWith script old new last lines) → HasNoSlide (lines_behind script)
    → Held e.opened last (datagrams_said script)
held_in_the_end script old new last lines e none =
    let behind : lines_behind script ≡ texts_of e.rest =
    ap (λ (l : List (List ℕ)). drop 2 l) (opened_lines script e.rest e.opened e.opens) in
    subst (λ (l : List (List ℕ)). Held e.opened last (flat_map datagram_said l)) (sym behind)
    (all_followed e.rest e.opened last None e.numbers e.answers [] e.followed
    (subst (λ (l : List (List ℕ)). HasNoSlide l) behind none) e.opens.empty)

pub holds : (script old new : List ℕ) (last : State) (lines : List ℕ)
    → EndsWith script old new last lines → HasNoSlide (lines_behind script)
    → Holds last (datagrams_said script)
holds script old new last lines e none = (held_in_the_end script old new last lines e none).1

-- ---- two scripts

abbrev heads : List (List ℕ) → List (List ℕ)
heads l = take 2 l

same_firsts : (a b c d : List ℕ) (xs ys : List (List ℕ)) → heads (a ∷ b ∷ xs) ≡ heads (c ∷ d ∷ ys)
    → (a ≡ c) × (b ≡ d)
same_firsts a b c d xs ys e = (cc, cc)

same_beginning : (script other : List ℕ) (rest behind : List (ℕ × List ℕ)) (opened began : State)
    → OpensBy (numbered_lines 0 script) rest opened → OpensBy (numbered_lines 0 other) behind began
    → first_lines script ≡ first_lines other → opened.opening ≡ began.opening
same_beginning script other rest behind opened began o p same =
    let firsts =
    same_firsts o.format_read.text o.opening_read.text p.format_read.text p.opening_read.text
    (texts_of rest) (texts_of behind)
    (sym (ap heads (opened_lines script rest opened o)) ∙ same
    ∙ ap heads (opened_lines other behind began p)) in
    let format =
    one_format (numbered_lines 0 script) o.behind (numbered_lines 0 other) p.behind o.format
    p.format o.format_read p.format_read firsts.0 in
    one_opening o.behind rest p.behind behind o.format p.format opened.opening began.opening
    o.opening_read p.opening_read firsts.1 format

-- the frame lines of a receiver with this opening and these frames
abbrev lines_by : Opening → List Raster → List ℕ
lines_by o frames = flat_map (λ ts. frame_line ts (frame_at o.window frames ts)) o.window

same_lines : (s t : State) → s.opening ≡ t.opening → s.frames ≡ t.frames
    → frame_lines s ≡ frame_lines t
same_lines s t opening frames =
    ap (λ (o : Opening). lines_by o s.frames) opening
    ∙ ap (λ (fs : List Raster). lines_by t.opening fs) frames

pub in_any_order : (script other old new old' new' : List ℕ) (last last' : State)
    (lines lines' : List ℕ) → EndsWith script old new last lines
    → EndsWith other old' new' last' lines' → HasNoSlide (lines_behind script)
    → HasNoSlide (lines_behind other) → first_lines script ≡ first_lines other
    → SameDatagrams (datagrams_said script) (datagrams_said other) → lines ≡ lines'
in_any_order script other old new old' new' last last' lines lines' a b none nor firsts same =
    let p = held_in_the_end script old new last lines a none in
    let q = held_in_the_end other old' new' last' lines' b nor in
    let opening : last.opening ≡ last'.opening =
    p.0 ∙ same_beginning script other a.rest b.rest a.opened b.opened a.opens b.opens firsts
    ∙ sym q.0 in
    let frames : last.frames ≡ last'.frames =
    p.1 ∙ frames_of-same last.opening (datagrams_said script) (datagrams_said other) same
    ∙ ap (λ (o : Opening). frames_of o (datagrams_said other)) opening ∙ sym q.1 in
    a.lines_are ∙ same_lines last last' opening frames ∙ sym b.lines_are
