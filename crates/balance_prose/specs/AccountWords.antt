-- What the men count at least, and who makes up for it, in words.
use Rattle.std.specs.Prelude.{ℕ, ◌+◌, ◌-◌, ◌/◌, ◌==◌, nat_le, Bool, cond, ◌&&◌, List, [], ◌∷◌, ◌++◌, codes, drop, length, slice_index, Option}
use Rattle.std.specs.List.{flat_map, range_with_len}
use Rattle.std.specs.Fmt.{decimal}
use Rattle.assignment.specs.Assignments.{is_among}
use Rattle.assignment.specs.Tables.{cost_at}
use Rattle.balance_rule.specs.Balance.{gone_row, men_on}
use Rattle.board_base.specs.Board.{Places, array_of, at, home_of, men_squares, opponent}
use Rattle.board_base.specs.Texts.{square_text}
use Rattle.board_base.specs.declared.men.Colour.{Colour}
use Rattle.board_base.specs.declared.men.Colour.TheVariants.{White, Black}
use Rattle.board_base.specs.declared.men.Man.{Man}
use Rattle.capture_prices.specs.Prices.{PriceList, all_gates, takes}
use Rattle.capture_prices.specs.declared.prices.Gate.{Gate}
use Rattle.prose_words.specs.Words.{place_initial, side_word}
use Rattle.query_base.specs.Asked.{Asked}
use Rattle.balance_prose.specs.Accounts.{all_counted, all_made_up, counted_of, table_of}
use Rattle.balance_prose.specs.Counted.{is_counted}
use Rattle.balance_prose.specs.Pricing.{around}
use Rattle.balance_prose.specs.declared.numbers.Numbers.{Numbers}
use Rattle.balance_prose.specs.declared.numbers.Numbers.TheVariants.{Exact, Enough}

-- where a man came from, if he moved, and where he stands
abbrev pub moved_words : ℕ → Option Man → ℕ → List ℕ
moved_words home place s = cond (home == s) [] (square_text home ++ codes "-") ++ place_initial place ++ square_text s

-- after a comma, the way of a man with what it counts, if it does
abbrev pub counted_man : ℕ → Option Man → ℕ → ℕ → List ℕ
counted_man home place s n = cond (n == 0) [] (codes ", " ++ moved_words home place s ++ codes " " ++ decimal n)

-- the way of the man in this place among those of a side on the board, who began on these homes
abbrev pub nth_man : Places → Colour → List (List ℕ) → List ℕ → ℕ → List ℕ
nth_man board c table homes k =
    counted_man (home_of c (slice_index homes k)) (at board (slice_index (men_squares c board) k)) (slice_index (men_squares c board) k) (counted_of (cost_at table k (slice_index homes k)))

-- the ways of all men of a side who count
unfoldable pub men_words : Places → Colour → List (List ℕ) → List ℕ → List ℕ
men_words board c table homes = flat_map (nth_man board c table homes) (range_with_len 0 (men_on c board))

-- the ways of both sides
abbrev pub ways_words : Asked → PriceList → List Bool → List ℕ → List ℕ → List ℕ
ways_words q p set white black =
    drop 1 (men_words q.board White (table_of q p set White) white ++ men_words q.board Black (table_of q p set Black) black)

-- how many men of a side are gone
abbrev pub missing : Asked → Colour → ℕ
missing q c = men_on c (array_of q.odds) - men_on c q.board

-- a home after a space, where the man who began on it is gone and makes up for nothing
abbrev pub idle_if : Colour → List ℕ → List ℕ → ℕ → List ℕ
idle_if c gone homes j = cond (is_among j homes && nat_le 96 (slice_index gone j)) (32 ∷ square_text (home_of c j)) []

-- the homes of the men who are gone and make up for nothing
unfoldable pub idle_words : Colour → List ℕ → List ℕ → List ℕ
idle_words c gone homes = flat_map (idle_if c gone homes) (range_with_len 0 16)

-- those of a side, if the enemy's captures count
abbrev pub side_idle : Asked → PriceList → List Bool → Colour → List ℕ → List ℕ
side_idle q p set c homes =
    cond (is_counted (takes p (opponent c))) (idle_words c (gone_row p set c (array_of q.odds)) (drop (men_on c q.board) homes)) []

-- those of both sides
abbrev pub all_idle : Asked → PriceList → List Bool → List ℕ → List ℕ → List ℕ
all_idle q p set white black = side_idle q p set White white ++ side_idle q p set Black black

-- how many men are gone of the sides whose enemy's captures count
abbrev pub all_missing : Asked → PriceList → ℕ
all_missing q p = cond (is_counted p.black) (missing q White) 0 + cond (is_counted p.white) (missing q Black) 0

-- a number of men
abbrev pub number_of_men : ℕ → List ℕ
number_of_men n = cond (n == 0) (codes "no") (decimal n) ++ cond (n == 1) (codes " man") (codes " men")

-- how many men a side lacks, or lacked before the move that leads to a query that isn't the first
abbrev pub side_lacks : Bool → Colour → ℕ → List ℕ
side_lacks first c n = side_word c ++ cond first (codes " lacks ") (codes " lacked ") ++ number_of_men n

-- how many men each side lacks whose enemy's captures count
abbrev pub lack_words : Bool → Asked → PriceList → List ℕ
lack_words first q p =
    cond (is_counted p.black) (cond (is_counted p.white) (side_lacks first White (missing q White) ++ codes " and " ++ side_lacks first Black (missing q Black)) (side_lacks first White (missing q White))) (side_lacks first Black (missing q Black))

-- what a gate makes up for, behind what the men do
abbrev pub gate_too : Gate → List ℕ
gate_too g = codes ", and " ++ square_text g.square ++ codes " for " ++ decimal g.toll

-- the same where no man is gone
abbrev pub gate_alone : Gate → List ℕ
gate_alone g = codes ", " ++ square_text g.square ++ codes " makes up for " ++ decimal g.toll

-- who makes up for something: of so many men all, or those who aren't named as making up for nothing
abbrev pub makers_words : ℕ → List ℕ → List ℕ
makers_words men idle =
    cond (length idle == 0) (cond (men == 1) (codes ": he makes up for ") (codes ": they make up for ")) (cond (length idle / 3 + 1 == men) (codes ": the other makes up for ") (codes ": the others make up for "))

-- for how much so many men make up
abbrev pub made_up_words : ℕ → List ℕ → ℕ → List ℕ
made_up_words men idle n = cond (n == 0) (makers_words men [] ++ codes "none") (makers_words men idle ++ decimal n)

-- of whom it is so that they make up for nothing, if others make up for something
abbrev pub whom_words : ℕ → List ℕ → List ℕ
whom_words n idle = cond (n == 0) [] (around (codes ", of whom whoever began on") idle (codes " makes up for none"))

-- who makes up for how much, of so many men who are gone, or which gates alone if none is
abbrev pub either_words : ℕ → List ℕ → ℕ → List Gate → List ℕ
either_words men idle n gates =
    cond (men == 0) (around (codes ": only") (drop 1 (flat_map gate_alone gates)) []) (whom_words n idle ++ made_up_words men idle n ++ flat_map gate_too gates)

-- the same to the end of the sentence
abbrev pub end_words : ℕ → List ℕ → ℕ → List Gate → List ℕ
end_words men idle n gates = either_words men idle n gates ++ codes "."

-- what the men count at least: exactly, with their ways; or a number that is at most that, and more than is made up for
abbrev pub counted_words : Numbers → Asked → PriceList → List Bool → List ℕ → List ℕ → List ℕ
counted_words Exact q p set white black =
    codes "That makes at least " ++ decimal (all_counted q p set white black) ++ codes ":" ++ ways_words q p set white black
counted_words Enough q p set white black =
    codes "That makes at least " ++ decimal (all_made_up q p set white black + all_gates p + 1)

-- what the men count at least, with how many men each side lacks, and who makes up for how much
abbrev pub best_words : Numbers → Bool → Asked → PriceList → List Bool → List ℕ → List ℕ → List ℕ
best_words numbers first q p set white black =
    counted_words numbers q p set white black ++ (codes ". But " ++ cond first [] (codes "before this move ")) ++ lack_words first q p ++ end_words (all_missing q p) (all_idle q p set white black) (all_made_up q p set white black) p.gates
