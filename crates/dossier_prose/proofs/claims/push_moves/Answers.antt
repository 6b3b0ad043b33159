use Rattle.std.proofs.Common.{◌≡◌, ◌+◌, ◌++◌, [], ◌∷◌, ℕ, List, refl, sym, ap, ◌∙◌, append_assoc, append-nil, drop, false, arith}
use Rattle.std.proofs.lemmas.List.{drop_all, drop_more}
use Rattle.board_base.specs.declared.unmoves.Unmove.{Unmove}
use Rattle.query_base.specs.Asked.{Asked}
use Rattle.line_claims.proofs.Listings.{listed-first, listed-rest}
use Rattle.dossier_prose.specs.Claims.{moves_words, step_words}
use Rattle.dossier_prose.proofs.claims.push_moves.Goals as goal

pub loop-step-init : goal.loop-step-init
loop-step-init c = record { words = refl; listed = c.requires }

pub pred-left-requires : goal.pred-left-requires
pred-left-requires c =
    let us : List Unmove = c.args.steps.now in
    let next : drop c.loop-step.step-index us ≡ c.step-item.result ∷ drop (c.loop-step.step-index + 1) us =
    drop_more us c.loop-step.step-index c.step-item.result (omega arith) ∙ ap (λ (u : Unmove). u ∷ drop (c.loop-step.step-index + 1) us) (sym c.step-item.is) in
    listed-first c.loop-step.left _ _ c.step-item.result c.loop-step.invariant.listed next

pub loop-step-preserved : goal.loop-step-preserved
loop-step-preserved c =
    let us : List Unmove = c.args.steps.now in
    let rest : List Unmove = drop (c.loop-step.step-index + 1) us in
    let next : drop c.loop-step.step-index us ≡ c.step-item.result ∷ rest =
    drop_more us c.loop-step.step-index c.step-item.result (omega arith) ∙ ap (λ (u : Unmove). u ∷ rest) (sym c.step-item.is) in
    let word : List ℕ = step_words c.loop-step.first c.loop-step.left c.step-item.result in
    record {
      words =
          ap (λ (l : List ℕ). l ++ moves_words false c.pred-left.result rest) c.in_ok-push_step.ensures
          ∙ ap (λ (q : Asked). (c.loop-step.out.items ++ word) ++ moves_words false q rest) c.pred-left.ensures
          ∙ append_assoc c.loop-step.out.items word _
          ∙ ap (λ (l : List Unmove). c.loop-step.out.items ++ moves_words c.loop-step.first c.loop-step.left l) (sym next)
          ∙ c.loop-step.invariant.words;
      listed = listed-rest c.loop-step.left c.pred-left.result _ rest c.step-item.result c.loop-step.invariant.listed next c.pred-left.ensures;
    }

pub returns : goal.returns
returns c =
    let none : drop c.loop-step.step-index c.args.steps.now ≡ [] = drop_all c.loop-step.step-index c.args.steps.now (omega arith) in
    sym (append-nil c.loop-step.out.items)
    ∙ ap (λ (l : List Unmove). c.loop-step.out.items ++ moves_words c.loop-step.first c.loop-step.left l) (sym none)
    ∙ c.loop-step.invariant.words
