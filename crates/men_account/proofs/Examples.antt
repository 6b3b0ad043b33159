-- What the labels are after games that are written out.
use Rattle.std.proofs.Common.{◌≡◌, ℕ, List, [], ◌∷◌, map, refl}
use Rattle.std.specs.Prelude.{Option, Some, None}
use Rattle.board_base.specs.Board.{array_of, initial_array, no_odds}
use Rattle.board_base.specs.Play.{play}
use Rattle.board_base.specs.declared.men.Kind.TheVariants.{Knight}
use Rattle.board_base.specs.declared.moves.Move.{Move}
use Rattle.men_account.specs.Labels.{labels_after, label_at, first_labels, relabelled}

abbrev go : ℕ → ℕ → Move
go from to = record { from = from; to = to; promo = None }

-- the labels on these squares after this game
abbrev labels : List Move → List ℕ → List (Option ℕ)
labels g squares = map (label_at (labels_after no_odds g)) squares

-- at first the squares a1, h1 and e8 have their own labels, and e4 has none
array_labels : labels [] (0 ∷ 7 ∷ 60 ∷ 28 ∷ []) ≡ Some 0 ∷ Some 7 ∷ Some 60 ∷ None ∷ []
unfolding initial_array array_of first_labels
array_labels = refl

-- after e2e4 d7d5 e4d5 d8d5 the queen of d8 stands on d5, and nobody has the label e2 of the captured pawn
recaptured : labels (go 12 28 ∷ go 51 35 ∷ go 28 35 ∷ go 59 35 ∷ []) (35 ∷ 12 ∷ 28 ∷ 59 ∷ []) ≡ Some 59 ∷ None ∷ None ∷ None ∷ []
unfolding initial_array array_of first_labels play relabelled
recaptured = refl

-- after e2e4 e7e5 g1f3 b8c6 f1c4 f8c5 e1g1 the king of e1 stands on g1, and the rook of h1 on f1
castled : labels (go 12 28 ∷ go 52 36 ∷ go 6 21 ∷ go 57 42 ∷ go 5 26 ∷ go 61 34 ∷ go 4 6 ∷ []) (4 ∷ 5 ∷ 6 ∷ 7 ∷ []) ≡ None ∷ Some 7 ∷ Some 4 ∷ None ∷ []
unfolding initial_array array_of first_labels play relabelled
castled = refl

-- after e2e4 a7a6 e4e5 d7d5 e5d6, en passant, the pawn of e2 stands on d6, and that of d7 is gone
taken_en_passant : labels (go 12 28 ∷ go 48 40 ∷ go 28 36 ∷ go 51 35 ∷ go 36 43 ∷ []) (43 ∷ 35 ∷ 36 ∷ 51 ∷ []) ≡ Some 12 ∷ None ∷ None ∷ None ∷ []
unfolding initial_array array_of first_labels play relabelled
taken_en_passant = refl

-- after a2a4 b7b5 a4b5 a7a6 b5b6 a6a5 b6b7 a5a4 b7a8n the knight on a8 still has the label a2 of the pawn that it was
promoted_with_label : labels (go 8 24 ∷ go 49 33 ∷ go 24 33 ∷ go 48 40 ∷ go 33 41 ∷ go 40 32 ∷ go 41 49 ∷ go 32 24 ∷ record { from = 49; to = 56; promo = Some Knight } ∷ []) (56 ∷ 49 ∷ 24 ∷ []) ≡ Some 8 ∷ None ∷ Some 48 ∷ []
unfolding initial_array array_of first_labels play relabelled
promoted_with_label = refl
