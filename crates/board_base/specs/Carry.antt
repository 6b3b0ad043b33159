-- Inner: no public clause cites this file.
-- A man who is carried to another square.
use Rattle.std.specs.Prelude.{ℕ, Option}
use Rattle.board_base.specs.Board.{Places}
use Rattle.board_base.specs.declared.men.Kind.{Kind}
use Rattle.board_base.specs.Play.{promoted, carried}

-- the man on one square goes to another, where it becomes a man of this kind, if one is given
abbrev pub carry : Places → ℕ → ℕ → Option Kind → Places
carry board from to promo = carried (promoted promo) board from to
