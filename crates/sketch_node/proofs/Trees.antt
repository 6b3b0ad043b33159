-- Trees for a node from those for the sketches before it.
use Rattle.std.proofs.Common.{◌≡◌, Bool, false, ℕ, List, [], ◌∷◌}
use Rattle.std.specs.List.{Contains}
use Rattle.general_lemmas.proofs.Lists.{contains-first, contains-later}
use Rattle.board_base.specs.Rights.{Rights}
use Rattle.board_base.specs.declared.men.Kind.TheVariants.{Knight, Rook, Queen}
use Rattle.figures.specs.Figures.{Sketch}
use Rattle.figures.specs.Homes.{may_be_array}
use Rattle.figures.specs.Known.{known_at}
use Rattle.sketch_account.specs.Closes.{Closes}
use Rattle.sketch_rule.specs.Listed.{Earlier, earlier}
use Rattle.sketch_rule.specs.Trees.{Forest, RefutesEach, closed, more, none, split, stepped}
use Rattle.sketch_node.specs.Nodes.{HasTree, IsFirstUnknown, IsLeastAbove}

pub closes-refutes : (o : List Bool) (held : Rights) (exact : List Bool) (S : Sketch) → Closes o held S → HasTree o held exact S
closes-refutes o held exact S it = (closed, it)

pub cases-refute : (o : List Bool) (held : Rights) (exact : List Bool) (S : Sketch) (s i : ℕ) → IsFirstUnknown S s i → HasTree o held exact (known_at i Knight S) → HasTree o held exact (known_at i Rook S) → HasTree o held exact (known_at i Queen S) → HasTree o held exact S
cases-refute o held exact S s i it knight rook queen = (split i knight.0 rook.0 queen.0, (it.there.unknown, knight.1, rook.1, queen.1))

-- a tree for each
forest : (o : List Bool) (held : Rights) (exact : List Bool) (es : List Earlier) → ((e : Earlier) → Contains es e → HasTree o held exact e.sketch) → (kids : Forest) × RefutesEach kids o held exact es
forest o held exact [] each = (none, tt)
forest o held exact (e ∷ es) each =
    let first = each e (contains-first e es) in
    let rest = forest o held exact es (λ d there. each d (contains-later e es d there)) in
    (more first.0 rest.0, (first.1, rest.1))

pub steps-refute : (o : List Bool) (held : Rights) (exact : List Bool) (S T : Sketch) → IsLeastAbove held exact S T → may_be_array o T ≡ false → ((e : Earlier) → Contains (earlier o exact T) e → HasTree o held exact e.sketch) → HasTree o held exact S
steps-refute o held exact S T it no_array each = let kids = forest o held exact (earlier o exact T) each in (stepped kids.0, (T, it.closed, no_array, kids.1))
