use Rattle.std.proofs.Common.{ℕ, List, ◌++◌, ap, ◌∙◌}
use Rattle.std.proofs.lemmas.Result.{err_from_is_err_and}
use Rattle.dossier_checker.proofs.stages.begin_with.Goals as goal

pub returns-in_err-parts-clause-rest : goal.returns-in_err-parts-clause-rest
returns-in_err-parts-clause-rest c =
    let returned = err_from_is_err_and c.from_residual.result c.from_residual.ensures.1 in
    rw (returned.1, returned.2) (λ bytes a all e.
    c.in_err-parts.ensures.rest (c.args.piece.now ++ bytes) a (λ few. ap (λ (l : List ℕ). l ++ bytes) (c.requires few) ∙ all few) e)

pub returns-in_err-feed-clause-rest : goal.returns-in_err-feed-clause-rest
returns-in_err-feed-clause-rest c =
    let returned = err_from_is_err_and c.from_residual-in_err-feed.result c.from_residual-in_err-feed.ensures.1 in
    rw (returned.1, returned.2) (λ bytes a all e.
    c.in_ok-parts.ensures.rest (c.args.piece.now ++ bytes) a (λ few. ap (λ (l : List ℕ). l ++ bytes) (c.requires few) ∙ all few) (c.in_err-feed.ensures.rest bytes a e))
