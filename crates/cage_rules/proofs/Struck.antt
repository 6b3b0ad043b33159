-- The squares on which enemy pawns may capture, as a whole set.
use Rattle.std.proofs.Common.{◌≡◌, ℕ, ◌<◌, Bool, ◌&&◌, ◌||◌, not, List, refl, ap, sym, ◌∙◌, arith}
use Rattle.std.proofs.lemmas.Bool.{agree_below_at, and_parts, and_from}
use Rattle.std.specs.Prelude.{Option, Some}
use Rattle.board_base.specs.Board.{is_in, opponent}
use Rattle.board_base.specs.Squares.{squares_of}
use Rattle.board_base.specs.declared.men.Man.{Man}
use Rattle.play_rules.specs.Laws.{is_end}
use Rattle.cage_rules.specs.Regions.{beginner, is_exposed, is_shielded, may_strike, region}
use Rattle.cage_rules.specs.Sets.{squares_that, union}
use Rattle.cage_rules.specs.Steps.{is_near, near}
use Rattle.cage_rules.specs.SetSteps.{are_apart, both, is_strike, outside}
use Rattle.cage_rules.proofs.Near.{is_in-near, near-tells, near-told}
use Rattle.cage_rules.proofs.SetAlgebra.{is_in-both, is_in-outside, is_in-union, length-both, that-is}
use Rattle.general_lemmas.proofs.Truth.{same_truth}
use Rattle.general_lemmas.proofs.Ranges.{any-found}
use Rattle.cage_rules.proofs.Tested.{all_board, any-told, at_board}

-- the squares of ranks 1 and 8
abbrev ends : List Bool
ends = squares_of 18374686479671623935

in-ends : (u : ℕ) → u < 64 → is_in ends u ≡ is_end u
unfolding squares_of
in-ends u inside = agree_below_at (is_in (squares_of 18374686479671623935)) is_end 64 u refl inside

stands-is : (frozen : List Bool) (u : ℕ) → u < 64 → is_in (outside (union ends frozen)) u ≡ not (is_end u || is_in frozen u)
stands-is frozen u inside = is_in-outside (union ends frozen) u inside ∙ ap not (is_in-union ends frozen u inside ∙ ap (λ (x : Bool). x || is_in frozen u) (in-ends u inside))

exposed-is : (frozen : List Bool) (man : Man) (t : ℕ) → is_near (is_strike (opponent man.colour)) (outside (union ends frozen)) t ≡ is_exposed frozen (Some man) t
unfolding is_exposed
exposed-is frozen man t =
    same_truth _ _
    (λ h.
    let from = near-told (is_strike (opponent man.colour)) (outside (union ends frozen)) t h in
    let low : from.square < 64 = from.inside in
    any-found (may_strike frozen (Some man) t) 0 64 from.square (omega arith) (omega arith) (and_from _ _ from.placed (sym (stands-is frozen from.square from.inside) ∙ from.member)))
    (λ h.
    let some = any-told (may_strike frozen (Some man) t) 0 64 h in
    let parts = and_parts _ _ some.2 in
    near-tells (is_strike (opponent man.colour)) (outside (union ends frozen)) t (record { square = some.0; inside = some.1; placed = parts.0; member = stands-is frozen some.0 some.1 ∙ parts.1 }))

pub shielded-made : (frozen : List Bool) (h : ℕ) (man : Man) → beginner h ≡ Some man → are_apart (region frozen h) (near (is_strike (opponent man.colour)) (outside (union (squares_of 18374686479671623935) frozen))) ≡ is_shielded frozen h
unfolding are_apart is_shielded
shielded-made frozen h man first =
    let struck : List Bool = near (is_strike (opponent man.colour)) (outside (union ends frozen)) in
    let here : (t : ℕ) → t < 64 → is_in struck t ≡ is_exposed frozen (beginner h) t =
    λ t inside. is_in-near (is_strike (opponent man.colour)) (outside (union ends frozen)) t inside ∙ exposed-is frozen man t ∙ ap (λ (p : Option Man). is_exposed frozen p t) (sym first) in
    same_truth _ _
    (λ apart. all_board (λ t. not (is_in (region frozen h) t && is_exposed frozen (beginner h) t)) (λ t inside. ap (λ (x : Bool). not (is_in (region frozen h) t && x)) (sym (here t inside)) ∙ at_board (λ t. not (is_in (region frozen h) t && is_in struck t)) t apart inside))
    (λ shielded. all_board (λ t. not (is_in (region frozen h) t && is_in struck t)) (λ t inside. ap (λ (x : Bool). not (is_in (region frozen h) t && x)) (here t inside) ∙ at_board (λ t. not (is_in (region frozen h) t && is_exposed frozen (beginner h) t)) t shielded inside))

-- the squares outside the set on which such a man is exposed
pub exposed-made : (frozen : List Bool) (man : Man) → both (outside frozen) (near (is_strike (opponent man.colour)) (outside (union (squares_of 18374686479671623935) frozen))) ≡ squares_that (λ s. not (is_in frozen s) && is_exposed frozen (Some man) s)
exposed-made frozen man =
    let struck : List Bool = near (is_strike (opponent man.colour)) (outside (union ends frozen)) in
    that-is (λ s. not (is_in frozen s) && is_exposed frozen (Some man) s) (both (outside frozen) struck) (length-both (outside frozen) struck) (λ s inside.
    is_in-both (outside frozen) struck s inside ∙ ap (λ (x : Bool). x && is_in struck s) (is_in-outside frozen s inside)
    ∙ ap (λ (x : Bool). not (is_in frozen s) && x) (is_in-near (is_strike (opponent man.colour)) (outside (union ends frozen)) s inside ∙ exposed-is frozen man s))
