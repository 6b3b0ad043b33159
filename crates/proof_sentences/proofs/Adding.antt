-- Sentences that are written one after another.
use Rattle.std.proofs.Common.{◌≡◌, ℕ, Bool, List, [], ◌∷◌, ◌++◌, refl, sym, ap, ◌∙◌}
use Rattle.std.specs.Prelude.{Option, Some, None, SomeIff, IsSome, ℤ}
use Rattle.std.proofs.lemmas.List.{append-nil}
use Rattle.board_base.specs.Board.{opponent}
use Rattle.board_base.specs.declared.men.Colour.{Colour}
use Rattle.board_base.specs.declared.men.Colour.TheVariants.{White, Black}
use Rattle.cage_rules.specs.Refuted.{NeedTooMany}
use Rattle.query_base.specs.Asked.{Asked}
use Rattle.prose_words.proofs.Squares.{thence}
use Rattle.proof_sentences.specs.Reasons.{Adds, all_words}
use Rattle.proof_sentences.specs.Sentences.{Says, words_of}
use Rattle.proof_sentences.specs.declared.sentences.Sentence.{Sentence}

pub adds-one : (q : Asked) (a : Sentence) (o r : List ℕ) → Says a q → r ≡ o ++ words_of a q → Adds q (a ∷ []) o r
adds-one q a o r sa e = ((sa, tt), e ∙ ap (λ (l : List ℕ). o ++ l) (sym (append-nil (words_of a q))))

pub adds-two : (q : Asked) (a b : Sentence) (o p r : List ℕ) → Says a q → Says b q → p ≡ o ++ words_of a q → r ≡ p ++ words_of b q → Adds q (a ∷ b ∷ []) o r
adds-two q a b o p r sa sb e f =
    ((sa, (sb, tt)), thence o p r (words_of a q) (words_of b q) e f ∙ ap (λ (l : List ℕ). o ++ (words_of a q ++ l)) (sym (append-nil (words_of b q))))

pub adds-three : (q : Asked) (a b d : Sentence) (o p r t : List ℕ) → Says a q → Says b q → Says d q → p ≡ o ++ words_of a q → r ≡ p ++ words_of b q → t ≡ r ++ words_of d q → Adds q (a ∷ b ∷ d ∷ []) o t
adds-three q a b d o p r t sa sb sd e f g =
    let rest = adds-two q b d p r t sb sd f g in
    ((sa, rest.0), thence o p t (words_of a q) (all_words (b ∷ d ∷ []) q) e rest.1)

-- who is over is so as the other side's other side
pub needs-back : (o : List Bool) (q : Asked) (set : List Bool) (c : Colour) (u v : List ℤ) → NeedTooMany o q set c u v → NeedTooMany o q set (opponent (opponent c)) u v
needs-back o q set White u v h = h
needs-back o q set Black u v h = h

-- what is given where it can be is given
pub some-given : (r : Option ℕ) (P : Type 0) (v : ℕ) → SomeIff r P v → P → IsSome r
some-given None P v h p = absurd (h p)
some-given (Some x) P v h p = refl
