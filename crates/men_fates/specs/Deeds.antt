-- What the pawns of a game did, by the labels of the men: over which squares each went, and whom each took where.
use Rattle.std.specs.Prelude.{ℕ, ◌==◌, Bool, false, cond, ◌&&◌, List, [], ◌∷◌, ◌++◌, map, Option, Some, None}
use Rattle.std.specs.List.{filter}
use Rattle.board_base.specs.Board.{Places, array_of, at, is_a, is_the}
use Rattle.board_base.specs.Attacks.{on_the_way, ranks_apart}
use Rattle.board_base.specs.Play.{play}
use Rattle.board_base.specs.declared.men.Colour.{Colour}
use Rattle.board_base.specs.declared.men.Kind.TheVariants.{Pawn}
use Rattle.board_base.specs.declared.moves.Move.{Move}
use Rattle.men_account.specs.Labels.{Labels, label_at, first_labels, relabelled}
use Rattle.men_account.specs.Captures.{taken_on}

-- it is this label
abbrev pub is_label : Option ℕ → ℕ → Bool
is_label None h = false
is_label (Some l) h = l == h

-- Article 3.7: the squares over which a pawn goes by the move, its target last: two by a double step, which crosses one
abbrev pub squares_trodden : Move → List ℕ
squares_trodden m = cond (ranks_apart m.from m.to == 2) (on_the_way m.from m.to 1 ∷ m.to ∷ []) (m.to ∷ [])

-- those over which the man with label h goes by the move as a pawn; none if he doesn't make it, or isn't a pawn any more
abbrev pub way_by : ℕ → Places → Labels → Move → List ℕ
way_by h board labels m = cond (is_a Pawn (at board m.from) && is_label (label_at labels m.from) h) (squares_trodden m) []

-- those over which he goes as a pawn by moves that begin on this board with these labels
abbrev pub way_from : ℕ → Places → Labels → List Move → List ℕ
way_from h board labels [] = []
way_from h board labels (m ∷ g) = way_by h board labels m ++ way_from h (play board m) (relabelled board labels m) g

-- the way of the man who began on h: the squares after h over which he has gone as a pawn by these moves, in order
abbrev pub way_of : List Bool → List Move → ℕ → List ℕ
way_of o g h = way_from h (array_of o) (first_labels o) g

-- a capture by a pawn: the label of the pawn, the label of the man whom he took, and the square to which he went, also en passant
pub record Strike : Type 0 where
  pub by : ℕ
  pub of : ℕ
  pub on : ℕ

-- the capture on s by the man with one label of the man with another, if both are given
abbrev pub strike : Option ℕ → Option ℕ → ℕ → List Strike
strike None victim s = []
strike (Some k) None s = []
strike (Some k) (Some l) s = record { by = k; of = l; on = s } ∷ []

-- the capture that a pawn of this side makes by the move; none if it isn't such a pawn's, or takes nobody
abbrev pub strike_by : Colour → Places → Labels → Move → List Strike
strike_by c board labels m = cond (is_the c Pawn (at board m.from)) (strike (label_at labels m.from) (label_at labels (taken_on board m)) m.to) []

-- the captures that pawns of this side make by moves that begin on this board with these labels
abbrev pub strikes_from : Colour → Places → Labels → List Move → List Strike
strikes_from c board labels [] = []
strikes_from c board labels (m ∷ g) = strike_by c board labels m ++ strikes_from c (play board m) (relabelled board labels m) g

-- the captures that pawns of this side made by these moves, in order
abbrev pub strikes : List Bool → List Move → Colour → List Strike
strikes o g c = strikes_from c (array_of o) (first_labels o) g

-- the squares on which the pawn with label h captured, in order
abbrev pub struck_by : ℕ → List Strike → List ℕ
struck_by h all = map (λ x. x.on) (filter (λ x. x.by == h) all)
