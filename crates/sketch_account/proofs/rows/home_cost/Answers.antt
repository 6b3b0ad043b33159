use Rattle.std.proofs.Common.{◌≡◌, ◌<◌, ◌∙◌, ◌&&◌, Bool, List, ap, sym, arith}
use Rattle.std.proofs.lemmas.Bool.{cond-true, cond-false}
use Rattle.board_base.specs.Board.{is_in}
use Rattle.balance_rule.specs.Costs.{never}
use Rattle.figures.specs.Figures.{Figure}
use Rattle.sketch_account.proofs.Comers.{comes-home}
use Rattle.sketch_account.proofs.rows.home_cost.Goals as goal

pub returns-then-some-there-clause-value : goal.returns-then-some-there-clause-value
returns-then-some-there-clause-value c = λ p wall R c' l first h same walled.
    let squares : c.figure.inside.squares ≡ c.args.figure.now.squares = ap (λ (x : Figure). x.squares) c.figure.view_is in
    let inside : h < 64 = omega arith in
    let there : c.has-there.result ≡ is_in c.args.figure.now.squares h = c.has-there.ensures.member ∙ ap (λ (x : List Bool). is_in x c.args.home) squares ∙ ap (is_in c.args.figure.now.squares) (sym same) in
    comes-home p wall R c' l h c.args.figure.now first c.has_kind-some.result 96 walled inside c.has_kind-some.ensures
    (sym (cond-true (c.has_kind-some.result && is_in c.args.figure.now.squares h) 96 never (ap (λ (b : Bool). c.has_kind-some.result && b) (sym there) ∙ c.if-some-there.true)))

pub returns-else-some-there-clause-value : goal.returns-else-some-there-clause-value
returns-else-some-there-clause-value c = λ p wall R c' l first h same walled.
    let squares : c.figure.inside.squares ≡ c.args.figure.now.squares = ap (λ (x : Figure). x.squares) c.figure.view_is in
    let inside : h < 64 = omega arith in
    let there : c.has-there.result ≡ is_in c.args.figure.now.squares h = c.has-there.ensures.member ∙ ap (λ (x : List Bool). is_in x c.args.home) squares ∙ ap (is_in c.args.figure.now.squares) (sym same) in
    comes-home p wall R c' l h c.args.figure.now first c.has_kind-some.result never walled inside c.has_kind-some.ensures
    (sym (cond-false (c.has_kind-some.result && is_in c.args.figure.now.squares h) 96 never (ap (λ (b : Bool). c.has_kind-some.result && b) (sym there) ∙ c.if-some-there.false)))
