-- What pieces of the bytes leave to be answered.
use Rattle.std.proofs.Common.{◌≡◌, ℕ, List, [], ◌++◌, drop, take, refl, sym, ap, ◌∙◌, subst, append_assoc}
use Rattle.std.specs.Prelude.{IsSome, IsSomeAnd, None, Option, Some}
use Rattle.std.proofs.lemmas.List.{append-nil, take-append-drop}
use Rattle.dossier_checker.specs.DossierAnswers.{AnswersDossier, DossierAnswer}
use Rattle.dossier_checker.specs.StageAnswers.{IsTold, StageRemains, StageStands}
use Rattle.dossier_checker.specs.declared.stages.Stage.{Stage}

-- the first bytes, a part of a piece put behind them, and the rest of the piece
pub put_behind : (front part rest piece whole bytes : List ℕ) (n : ℕ) → whole ≡ front ++ part → part ≡ take n piece → rest ≡ drop n piece → whole ++ (rest ++ bytes) ≡ front ++ (piece ++ bytes)
put_behind front part rest piece whole bytes n is first last =
    let joined : part ++ rest ≡ piece = ap (λ (l : List ℕ). l ++ rest) first ∙ ap (λ (l : List ℕ). take n piece ++ l) last ∙ take-append-drop n piece in
    ap (λ (l : List ℕ). l ++ (rest ++ bytes)) is ∙ append_assoc front part (rest ++ bytes) ∙ ap (λ (l : List ℕ). front ++ l) (sym (append_assoc part rest bytes) ∙ ap (λ (l : List ℕ). l ++ bytes) joined)

-- a stage that stood for bytes stands for them and a piece
pub stands_more : (old new : Stage) (piece bytes : List ℕ) → ((others : List ℕ) (a : DossierAnswer) → StageRemains new others a → StageRemains old (piece ++ others) a) → (IsTold old → IsTold new) → StageStands old bytes → StageStands new (bytes ++ piece)
stands_more old new piece bytes rest told stands = record {
  told = told stands.told;
  answers = λ others a remains. subst (λ (l : List ℕ). AnswersDossier l a) (sym (append_assoc bytes piece others)) (stands.answers (piece ++ others) a (rest others a remains));
}

-- what is answered where no byte follows
pub stands_ended : (stage : Stage) (bytes : List ℕ) (a : DossierAnswer) → StageStands stage bytes → StageRemains stage [] a → AnswersDossier bytes a
stands_ended stage bytes a stands remains = subst (λ (l : List ℕ). AnswersDossier l a) (append-nil bytes) (stands.answers [] a remains)

pub told_answers : (o : Option DossierAnswer) (P : DossierAnswer → Type 0) → IsSome o → ((a : DossierAnswer) → o ≡ Some a → P a) → IsSomeAnd o P
told_answers None P told answers = absurd cc
told_answers (Some a) P told answers = answers a refl

pub weaker : (o : Option DossierAnswer) (P Q : DossierAnswer → Type 0) → IsSomeAnd o P → ((a : DossierAnswer) → P a → Q a) → IsSomeAnd o Q
weaker None P Q some answers = some
weaker (Some a) P Q here answers = answers a here
