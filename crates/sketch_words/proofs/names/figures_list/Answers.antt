use Rattle.std.proofs.Common.{◌≡◌, ◌∙◌, ◌++◌, ◌∷◌, ◌+◌, ◌-◌, [], ℕ, List, ap, get_or, sym, take}
use Rattle.std.proofs.lemmas.List.{flat_map_more, take_more}
use Rattle.std.specs.List.{flat_map}
use Rattle.figures.specs.Figures.{figure_at}
use Rattle.sketch_words.proofs.names.figures_list.Goals as goal
use Rattle.sketch_words.specs.Words.{figure_if}

pub loop-number-preserved : goal.loop-number-preserved
loop-number-preserved c =
    let i : ℕ = c.loop-number.number-index in
    let list : List ℕ = c.args.numbers.now in
    let name : ℕ → List ℕ = λ n. figure_if c.args.pawns c.args.diagram.now (n - 1) (figure_at c.args.sketch.now (n - 1)) in
    let more : take (i + 1) list ≡ take i list ++ get_or list i 0 ∷ [] = take_more list i 0 c.loop-number-test.true in
    rw (c.get.ensures, c.index_of-i.ensures) at c.in_ok-push_figure_if.ensures
    ∙ ap (λ (l : List ℕ). l ++ name (get_or list i 0)) c.loop-number.invariant
    ∙ flat_map_more name [] (take i list) (get_or list i 0)
    ∙ ap (flat_map name) (sym more)
