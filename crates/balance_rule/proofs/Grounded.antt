-- What is known of a side, and what its men cost.
use Rattle.std.proofs.Common.{◌≡◌, ℕ, Bool, ◌||◌, List, ap, ◌∙◌}
use Rattle.board_base.specs.Board.{is_in, man}
use Rattle.board_base.specs.declared.men.Colour.{Colour}
use Rattle.board_base.specs.declared.men.Kind.TheVariants.{Knight, Bishop, Rook, Queen}
use Rattle.cage_rules.specs.Regions.{region_from}
use Rattle.balance_rule.specs.Grounds.{comes_promoted}

pub some-promoted : (set : List Bool) (c : Colour) (t s : ℕ) (knights bishops rooks queens : List Bool) → knights ≡ region_from set (man c Knight) t → bishops ≡ region_from set (man c Bishop) t → rooks ≡ region_from set (man c Rook) t → queens ≡ region_from set (man c Queen) t → (is_in knights s || is_in bishops s || is_in rooks s || is_in queens s) ≡ comes_promoted set c t s
some-promoted set c t s knights bishops rooks queens kn bi ro qu =
    ap (λ (l : List Bool). is_in l s || is_in bishops s || is_in rooks s || is_in queens s) kn
    ∙ ap (λ (l : List Bool). is_in (region_from set (man c Knight) t) s || is_in l s || is_in rooks s || is_in queens s) bi
    ∙ ap (λ (l : List Bool). is_in (region_from set (man c Knight) t) s || is_in (region_from set (man c Bishop) t) s || is_in l s || is_in queens s) ro
    ∙ ap (λ (l : List Bool). is_in (region_from set (man c Knight) t) s || is_in (region_from set (man c Bishop) t) s || is_in (region_from set (man c Rook) t) s || is_in l s) qu
