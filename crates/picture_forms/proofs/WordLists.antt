-- The words of a text, one after another.
use Rattle.std.proofs.Common.{◌≡◌, ℕ, List, [], ◌∷◌, Option, None, Some, Bool, true, false, refl}
use Rattle.std.proofs.Common.{ap}
use Rattle.std.proofs.Common.{arith, ◌∙◌, sym}
use Rattle.std.specs.Prelude.{◌==◌, position}
use Rattle.std.specs.List.{onto_first}
use Rattle.std.proofs.lemmas.Grind.{common_steps}
use Rattle.st_format.specs.Text.{parted}
use Rattle.picture_forms.specs.Heads.{words}

-- the words of a text by where its first space stands
abbrev pub words_by : List ℕ → Option (List ℕ × List ℕ) → List (List ℕ)
words_by text None = text ∷ []
words_by text (Some p) = p.0 ∷ words p.1

-- a text one octet longer
abbrev longer : ℕ → Option (List ℕ × List ℕ) → Option (List ℕ × List ℕ)
longer c None = None
longer c (Some p) = Some (c ∷ p.0, p.1)

parted_here : (c : ℕ) (cs : List ℕ) → (c == 32) ≡ true → parted 32 (c ∷ cs) ≡ Some ([], cs)
parted_here c cs e = grind (arith, common_steps)

parted_by : (c : ℕ) (cs : List ℕ) (o : Option ℕ) → position (λ octet. octet == 32) cs ≡ o
    → (c == 32) ≡ false → parted 32 (c ∷ cs) ≡ longer c (parted 32 cs)
parted_by c cs None h e = grind (arith, common_steps)
parted_by c cs (Some i) h e = grind (arith, common_steps)

longer_words : (c : ℕ) (cs : List ℕ) (o : Option (List ℕ × List ℕ))
    → onto_first c (words_by cs o) ≡ words_by (c ∷ cs) (longer c o)
longer_words c cs None = refl
longer_words c cs (Some p) = refl

words_parted_by : (c : ℕ) (cs : List ℕ) (t : Bool) → (c == 32) ≡ t
    → words cs ≡ words_by cs (parted 32 cs)
    → words (c ∷ cs) ≡ words_by (c ∷ cs) (parted 32 (c ∷ cs))
words_parted_by c cs true e h = rw (parted_here c cs e, e) refl
words_parted_by c cs false e h =
    rw (parted_by c cs (position (λ octet. octet == 32) cs) refl e, e)
    (ap (onto_first c) h ∙ longer_words c cs (parted 32 cs))

pub words_parted : (text : List ℕ) → words text ≡ words_by text (parted 32 text)
words_parted [] = refl
words_parted (c ∷ cs) = words_parted_by c cs (c == 32) refl (words_parted cs)

pub words_split : (text word more : List ℕ) → parted 32 text ≡ Some (word, more)
    → words text ≡ word ∷ words more
words_split text word more e = words_parted text ∙ ap (words_by text) e

pub words_whole : (text : List ℕ) → None ≡ parted 32 text → words text ≡ text ∷ []
words_whole text e = words_parted text ∙ ap (words_by text) (sym e)
