use Rattle.std.proofs.Common.{◌≡◌, ℕ, Bool, List, Option, Some, None, inr, refl, sym, ap, ◌∙◌}
use Rattle.std.proofs.lemmas.Bool.{both_ways}
use Rattle.board_base.specs.Board.{no_odds}
use Rattle.query_base.specs.Asked.{Asked}
use Rattle.fen_text.specs.Fen.{fen}
use Rattle.question_text.proofs.questions.read_position.Goals as goal

pub returns-then-not-agree-clause-none : goal.returns-then-not-agree-clause-none
returns-then-not-agree-clause-none c =
    let p : Asked = c.in-Ok.position.0 in
    let plain : p ≡ record p { odds = no_odds; clock = None } = ap (λ (o : List Bool). record p { odds = o }) c.in-Ok.ensures.whole ∙ ap (λ (k : Option ℕ). record p { odds = no_odds; clock = k }) c.in-Ok.ensures.free in
    inr (
      (
        record p { odds = c.args.odds; clock = c.args.clock },
        c.in-Ok.position.1,
        refl,
        refl,
        ap fen (sym c.split_first_line.ensures.line) ∙ c.in-Ok.ensures.read ∙ ap (λ (x : Asked). Some (x, c.in-Ok.position.1)) plain,
        λ same. both_ways _ c.if-not-agree.true (c.agree.ensures.1 same),
      ),
      refl,
    )
