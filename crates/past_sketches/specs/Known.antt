-- What more may be known of one figure of a sketch: that he is marked, or which of his kinds he is.
use Rattle.std.specs.Prelude.{ℕ, true, cond, ◌==◌, [], ◌∷◌}
use Rattle.board_base.specs.declared.men.Kind.{Kind}
use Rattle.past_sketches.specs.Figures.{Sketch, each_changed}

-- the sketch with a mark for the figure with this number
unfoldable pub marked_at : ℕ → Sketch → Sketch
marked_at i S = each_changed (λ n f. cond (n == i) (record f { marked = true }) f) 0 S

-- the sketch with this kind alone for him
unfoldable pub known_at : ℕ → Kind → Sketch → Sketch
known_at i k S = each_changed (λ n f. cond (n == i) (record f { kinds = k ∷ [] }) f) 0 S
