-- What the definitions of states give on boards that are written out.
use Rattle.std.proofs.Common.{◌≡◌, ◌++◌, replicate, refl}
use Rattle.std.specs.Prelude.{Some, None}
use Rattle.board_base.specs.Board.{Places, initial_array, man}
use Rattle.board_base.specs.Attacks.{distance, king_distance, on_the_way, toward}
use Rattle.board_base.specs.Legal.{pawn_doubles}
use Rattle.board_base.specs.declared.men.Colour.TheVariants.{White}
use Rattle.board_base.specs.declared.men.Kind.TheVariants.{Rook}
use Rattle.play_rules.specs.Listed.{move_of}
use Rattle.play_rules.specs.States.{double_crossing, step_over}

-- with White to move the crossed square d6 stands for d7d5, and d3 for nothing
crossed_d6 : step_over (Some 43) White ≡ Some (move_of 51 35 None)
crossed_d6 = refl

crossed_d3 : step_over (Some 19) White ≡ None
crossed_d3 = refl

-- e2e4 crosses e3, and e2e3 no square
e2e4 : double_crossing initial_array White (move_of 12 28 None) ≡ Some 20
unfolding initial_array pawn_doubles distance king_distance on_the_way toward
e2e4 = refl

e2e3 : double_crossing initial_array White (move_of 12 20 None) ≡ None
unfolding initial_array pawn_doubles distance king_distance on_the_way toward
e2e3 = refl

-- a rook's move of two ranks from rank 2 crosses no square in this sense
abbrev rook_on_a2 : Places
rook_on_a2 = replicate 8 None ++ replicate 1 (man White Rook) ++ replicate 55 None

a2a4 : double_crossing rook_on_a2 White (move_of 8 24 None) ≡ None
unfolding pawn_doubles
a2a4 = refl
