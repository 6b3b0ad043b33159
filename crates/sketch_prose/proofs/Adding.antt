-- Sentences that are written one after another.
use Rattle.std.proofs.Common.{◌≡◌, ℕ, List, [], ◌∷◌, ◌++◌, append_assoc, append-nil, refl, ap, sym, ◌∙◌}
use Rattle.figures.specs.Figures.{Sketch}
use Rattle.prose_words.proofs.Squares.{thence}
use Rattle.sketch_proof.specs.Proofs.{Setting}
use Rattle.sketch_prose.specs.Sentences.{AllSay, Says, Sentence, all_words, words_of}
use Rattle.sketch_prose.specs.Telling.{Adds}

pub say-append : (g : Setting) (a b : List Sentence) → AllSay g a → AllSay g b → AllSay g (a ++ b)
say-append g [] b x y = y
say-append g (s ∷ a) b x y = (x.0, say-append g a b x.1 y)

pub words-append : (g : Setting) (D : Sketch) (a b : List Sentence) → all_words g D (a ++ b) ≡ all_words g D a ++ all_words g D b
words-append g D [] b = refl
words-append g D (s ∷ a) b =
    ap (λ (l : List ℕ). words_of g D s ++ l) (words-append g D a b) ∙ sym (append_assoc (words_of g D s) (all_words g D a) (all_words g D b))

pub text-append : (g : Setting) (D : Sketch) (a b : List Sentence) (o p r : List ℕ) → p ≡ o ++ all_words g D a → r ≡ p ++ all_words g D b → r ≡ o ++ all_words g D (a ++ b)
text-append g D a b o p r x y = thence o p r (all_words g D a) (all_words g D b) x y ∙ ap (λ (l : List ℕ). o ++ l) (sym (words-append g D a b))

pub adds-append : (g : Setting) (D : Sketch) (a b : List Sentence) (o p r : List ℕ) → Adds g D a o p → Adds g D b p r → Adds g D (a ++ b) o r
adds-append g D a b o p r x y = (say-append g a b x.0 y.0, text-append g D a b o p r x.1 y.1)

pub text-one : (g : Setting) (D : Sketch) (s : Sentence) (o r : List ℕ) → r ≡ o ++ words_of g D s → r ≡ o ++ all_words g D (s ∷ [])
text-one g D s o r e = e ∙ ap (λ (l : List ℕ). o ++ l) (sym (append-nil (words_of g D s)))

pub adds-none : (g : Setting) (D : Sketch) (o : List ℕ) → Adds g D [] o o
adds-none g D o = (tt, sym (append-nil o))

pub adds-one : (g : Setting) (D : Sketch) (s : Sentence) (o r : List ℕ) → Says g s → r ≡ o ++ words_of g D s → Adds g D (s ∷ []) o r
adds-one g D s o r so e = ((so, tt), text-one g D s o r e)
