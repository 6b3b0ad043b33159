-- Men who began as no pawns have different homes.
use Rattle.std.proofs.Common.{◌≡◌, ◌≢◌, ℕ, ◌+◌, ◌≤◌, Bool, true, false, not, List, length, map, refl, ap, subst, ◌∙◌, arith}
use Rattle.std.proofs.lemmas.Bool.{both_ways, not-true}
use Rattle.std.proofs.lemmas.List.{length-map}
use Rattle.std.proofs.lemmas.List.Filters.{length-filter_both}
use Rattle.std.specs.Prelude.{Option, Some, None}
use Rattle.std.specs.List.{AllPairs, Contains, filter}
use Rattle.general_lemmas.proofs.Differing.{Differ, Has, contains-has, differ-filter, differ-map, has-contains, has-filter, has-map}
use Rattle.board_base.specs.Board.{Places, array_of, at, is_a}
use Rattle.board_base.specs.Game.{IsGame}
use Rattle.board_base.specs.declared.men.Kind.TheVariants.{Pawn}
use Rattle.board_base.specs.declared.moves.Move.{Move}
use Rattle.men_account.specs.Labels.{label_at, labels_after}
use Rattle.men_account.proofs.Labelled.{labels-apart}
use Rattle.men_ledger.proofs.Keyed.{differ-pairs}
use Rattle.balance_rule.proofs.TrueHomes.{fewer}
use Rattle.ledger_facts.specs.Lines.{began_as_piece, is_of_piece}

-- the label on a square
abbrev home_of_label : Option ℕ → ℕ
home_of_label None = 0
home_of_label (Some h) = h

piece-label : (first : Places) (label : Option ℕ) → is_of_piece first label ≡ true → (label ≡ Some (home_of_label label)) × (is_a Pawn (at first (home_of_label label)) ≡ false)
piece-label first None is = absurd (both_ways false refl is)
piece-label first (Some h) is = (refl, not-true (is_a Pawn (at first h)) is)

pub pieces-few : (o : List Bool) (g : List Move) (squares homes : List ℕ) → IsGame o g → AllPairs (λ s t. s ≢ t) squares → ((s h : ℕ) → Contains squares s → label_at (labels_after o g) s ≡ Some h → is_a Pawn (at (array_of o) h) ≡ false → Contains homes h) → length squares ≤ length homes + length (filter (λ s. not (began_as_piece o g s)) squares)
pieces-few o g squares homes game apart each =
    let home : ℕ → ℕ = λ s. home_of_label (label_at (labels_after o g) s) in
    let pieces : List ℕ = filter (began_as_piece o g) squares in
    let label : (s : ℕ) → Has pieces s → (label_at (labels_after o g) s ≡ Some (home s)) × (is_a Pawn (at (array_of o) (home s)) ≡ false) = λ s there. piece-label (array_of o) (label_at (labels_after o g) s) (has-filter (began_as_piece o g) squares s there).0 in
    let differ : Differ (map home pieces) = differ-map home pieces (λ s t a b same. labels-apart o g game s t (home t) ((label s a).0 ∙ ap Some same) (label t b).0) (differ-filter (began_as_piece o g) squares (differ-pairs squares apart)) in
    let few : length (map home pieces) ≤ length homes = fewer (map home pieces) homes differ (λ h there.
    let x = has-map home pieces h there in
    let is = label x.0 x.1 in
    subst (Has homes) x.2 (contains-has homes (home x.0) (each x.0 (home x.0) (has-contains squares x.0 (has-filter (began_as_piece o g) squares x.0 x.1).1) is.0 is.1))) in
    let split : length pieces + length (filter (λ s. not (began_as_piece o g s)) squares) ≡ length squares = length-filter_both (began_as_piece o g) (λ s. not (began_as_piece o g s)) (λ s. refl) squares in
    omega (arith, few, split, length-map pieces home)
