use Rattle.std.proofs.Common.{◌≡◌, ℕ, List, ◌++◌, drop, take, sym, ap, ◌∙◌, subst, append_assoc}
use Rattle.std.proofs.lemmas.List.{take-append-drop}
use Rattle.std.proofs.lemmas.Result.{err_from_is_err_and}
use Rattle.dossier_checker.specs.Remaining.{PartsRemain}
use Rattle.dossier_checker.proofs.parts.Parts.take_some.Goals as goal

rejoined : (n : ℕ) (piece bytes : List ℕ) → take n piece ++ (drop n piece ++ bytes) ≡ piece ++ bytes
rejoined n piece bytes = sym (append_assoc (take n piece) (drop n piece) bytes) ∙ ap (λ (l : List ℕ). l ++ bytes) (take-append-drop n piece)

pub returns-in_err-take_piece-clause-rest : goal.returns-in_err-take_piece-clause-rest
returns-in_err-take_piece-clause-rest c =
    let returned = err_from_is_err_and c.from_residual-in_err-take_piece.result c.from_residual-in_err-take_piece.ensures.1 in
    rw (returned.1, returned.2) (λ bytes a e.
    subst (λ (l : List ℕ). PartsRemain c.args.self.now l a) (rejoined c.min-n.result c.args.piece.now bytes) (c.in_err-take_piece.ensures.rest (drop c.min-n.result c.args.piece.now ++ bytes) a e))

pub returns-clause-rest : goal.returns-clause-rest
returns-clause-rest c = λ bytes a rest.
    subst (λ (l : List ℕ). PartsRemain c.args.self.now l a) (rejoined c.min-n.result c.args.piece.now bytes) (c.in_ok-take_piece.ensures.rest (drop c.min-n.result c.args.piece.now ++ bytes) a rest)
