-- The line that names the odds of a game.
use Rattle.std.specs.Prelude.{ℕ, Bool, cond, ◌&&◌, ◌||◌, not, nat_eq, List, ◌++◌, drop, codes, Option, Some, None}
use Rattle.std.specs.Bool.{beq}
use Rattle.std.specs.Cmp.Lexicographic.{pointwise}
use Rattle.std.specs.List.{list_all, range_with_len, starts_with}
use Rattle.std.specs.Option.{option_and_then}
use Rattle.board_base.specs.Board.{is_in, may_lack, no_odds}
use Rattle.fen_text.specs.Sets.{is_whole, set_of, set_text}

-- the men on all squares of the set may be left out
abbrev pub may_all_lack : List Bool → Bool
may_all_lack set = is_whole set && list_all (λ s. not (is_in set s) || may_lack s) (range_with_len 0 64)

-- nobody is left out
abbrev pub is_no_odds : List Bool → Bool
is_no_odds odds = pointwise beq odds no_odds

-- the odds that a set is, if somebody is left out, and only men who may be
unfoldable pub odds_of : List Bool → Option (List Bool)
odds_of set = cond (may_all_lack set && not (is_no_odds set)) (Some set) None

-- the odds of a line: `odds` and a set
unfoldable pub odds_line : List ℕ → Option (List Bool)
odds_line text = cond (starts_with nat_eq text (codes "odds ")) (option_and_then odds_of (set_of (drop 5 text))) None

-- the one line of odds
abbrev pub odds_text : List Bool → List ℕ
odds_text odds = codes "odds " ++ set_text odds
