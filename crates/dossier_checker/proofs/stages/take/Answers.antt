use Rattle.std.proofs.Common.{◌≡◌, ℕ, List, ◌++◌, length, take, sym, ap, ◌∙◌, subst, arith, append_assoc, length-append}
use Rattle.std.proofs.lemmas.Bool.{eqb-false, eqb-true}
use Rattle.std.proofs.lemmas.List.{take_all}
use Rattle.dossier_checker.specs.DossierAnswers.{AnswersDossier}
use Rattle.dossier_checker.specs.StageAnswers.{StageRemains}
use Rattle.dossier_checker.specs.declared.stages.Stage.{Stage}
use Rattle.dossier_checker.proofs.StageFeeding.{put_behind}
use Rattle.dossier_checker.proofs.stages.take.Goals as goal

pub returns-then-is_full-clause-rest : goal.returns-then-is_full-clause-rest
returns-then-is_full-clause-rest c = λ bytes a rest.
    let full = eqb-true _ 512 (sym c.is_full.ensures.value ∙ c.if-is_full.true) in
    let whole = c.as_slice.ensures.value ∙ c.push_text.ensures.text in
    let answers = c.begin_with-begun.ensures.rest bytes a (λ few. absurd (omega (arith, full, ap length c.as_slice.ensures.value))) (c.staged.ensures.rest bytes a rest) in
    subst (λ (s : Stage). StageRemains s (c.args.piece.now ++ bytes) a) (sym c.in-Heading.is)
    (subst (λ (l : List ℕ). AnswersDossier l a) (put_behind c.in-Heading.front.items c.split_at.result.0.now c.split_at.result.1.now c.args.piece.now c.as_slice.result.now bytes c.min-n.result whole c.split_at.ensures.front c.split_at.ensures.back) answers)

pub returns-else-is_full-clause-rest : goal.returns-else-is_full-clause-rest
returns-else-is_full-clause-rest c = λ bytes a rest.
    let room = eqb-false _ 512 (sym c.is_full.ensures.value ∙ c.if-is_full.false) in
    let all : take c.min-n.result c.args.piece.now ≡ c.args.piece.now = take_all c.min-n.result c.args.piece.now (omega (arith, room, ap length c.push_text.ensures.text, length-append c.in-Heading.front.items c.split_at.result.0.now, c.split_at.ensures.front_len, c.min-n.ensures, c.len.ensures.value, c.len.ensures.fits)) in
    let whole : c.push_text.new.out.items ≡ c.in-Heading.front.items ++ c.args.piece.now = c.push_text.ensures.text ∙ ap (λ (l : List ℕ). c.in-Heading.front.items ++ l) (c.split_at.ensures.front ∙ all) in
    subst (λ (s : Stage). StageRemains s (c.args.piece.now ++ bytes) a) (sym c.in-Heading.is)
    (subst (λ (l : List ℕ). AnswersDossier l a) (ap (λ (l : List ℕ). l ++ bytes) whole ∙ append_assoc c.in-Heading.front.items c.args.piece.now bytes) rest)
