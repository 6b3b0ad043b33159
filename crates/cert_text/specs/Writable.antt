-- Inner: no public clause cites this file.
-- Which claims and which trees have a text, and what is known of all that may stand in them.
use Rattle.std.specs.Prelude.{ℕ, suc, ◌≡◌, Bool, true, ◌&&◌, ◌||◌, ◌==◌, nat_lt, nat_le, length, IsTrue, ℤ, nat_abs}
use Rattle.std.specs.List.{list_all}
use Rattle.board_base.specs.Board.{AreOdds}
use Rattle.board_base.specs.Potentials.{Duals}
use Rattle.board_base.specs.Texts.{can_promote, can_capture}
use Rattle.board_base.specs.declared.moves.Move.{Move}
use Rattle.board_base.specs.declared.unmoves.Unmove.{Unmove}
use Rattle.query_base.specs.declared.claims.Claim.{Claim}
use Rattle.query_base.specs.declared.claims.Claim.TheVariants.{Illegal, Last, Lost, Ep}
use Rattle.query_base.specs.declared.rule_lines.RuleLine.{RuleLine}
use Rattle.query_base.specs.declared.rule_lines.RuleLine.TheVariants.{Kings, Ranks, Check, Rights, Count, Frozen, Caps, Promo}
use Rattle.query_base.specs.Asked.{Asked, IsShortClock, is_of_other_side}
use Rattle.capture_prices.specs.Prices.{are_prices}
use Rattle.fen_text.specs.Sets.{is_whole}
use Rattle.sketch_text.specs.Heads.{is_head}
use Rattle.sketch_body.specs.Whole.{is_body}
use Rattle.cert_text.specs.ClaimLines.{promotes_well}
use Rattle.cert_text.specs.Tree.{Tree, Forest, rule, back, expand, sketch, none, more, count}
use Rattle.cert_text.specs.declared.reasons.Reason.{Reason}
use Rattle.cert_text.specs.declared.reasons.Reason.TheVariants.{Line, Balance}
use Rattle.cert_text.specs.declared.node_lines.BodyLine.{BodyLine}
use Rattle.cert_text.specs.declared.node_lines.BodyLine.TheVariants.{Rule, Back, Expand, Sketch}

-- the move's squares are on the board
abbrev pub is_on_board : Move → Bool
is_on_board m = nat_lt m.from 64 && nat_lt m.to 64

-- the squares of a claim's move are on the board
abbrev pub stays_on_board : Claim → Bool
stays_on_board Illegal = true
stays_on_board (Last m) = is_on_board m
stays_on_board (Lost x) = true
stays_on_board (Ep m) = is_on_board m

-- the claim has a text
abbrev pub is_written : Claim → Bool
is_written claim = stays_on_board claim && promotes_well claim

-- the number is from -64 to 64
abbrev pub is_near : ℤ → Bool
is_near x = nat_le (nat_abs x) 64

-- what is known of all potentials: at most so many rows and exactly so many columns, each with such a number
abbrev pub are_near : ℕ → Duals → Bool
are_near width d = nat_le (length d.u) width && (length d.v == width) && list_all is_near d.u && list_all is_near d.v

-- what is known of each rule line
abbrev pub is_rule : RuleLine → Bool
is_rule Kings = true
is_rule Ranks = true
is_rule Check = true
is_rule Rights = true
is_rule (Count side) = true
is_rule (Frozen set) = is_whole set
is_rule (Caps side set p) = is_whole set && are_near 8 p
is_rule (Promo side set) = is_whole set

-- what is known of each reason
abbrev pub is_reason : Reason → Bool
is_reason (Line r) = is_rule r
is_reason (Balance set p) = is_whole set && are_prices p

-- the unmove has a text
abbrev pub has_text : Unmove → Bool
has_text u = nat_lt u.mv.from 64 && nat_lt u.mv.to 64 && can_promote u.mv.promo && can_capture u.mv.promo u.captured u.ep

-- the grammar admits the body at this depth
abbrev pub fits_depth : ℕ → BodyLine → Bool
fits_depth depth (Rule r) = is_reason r
fits_depth depth (Back k) = nat_le 1 k && nat_le k depth
fits_depth depth (Expand n) = ((n == 0) || nat_lt depth 255) && nat_le n 999999
fits_depth depth (Sketch h) = is_head h

abbrev mutual
  -- the grammar admits the tree at this depth
  pub fits : ℕ → Tree → Bool
  fits depth (rule r) = is_reason r
  fits depth (back k) = fits_depth depth (Back k)
  fits depth (expand kids) = fits_depth depth (Expand (count kids)) && all_fit (suc depth) kids
  fits depth (sketch b) = is_body b

  -- the grammar admits the children at this depth
  pub all_fit : ℕ → Forest → Bool
  all_fit depth none = true
  all_fit depth (more label tree rest) = has_text label && fits depth tree && all_fit depth rest

-- What is known of each query: its board has 64 places, its odds are on homes of men who may be left out, the move that it
-- demands is a double step of the side not to move, and the clock that it demands is at most 9,999.
pub record IsQuery (q : Asked) : Type 0 where
  pub whole : length q.board ≡ 64
  pub odds : AreOdds q.odds
  pub step : IsTrue (is_of_other_side q.turn q.only)
  pub clock : IsShortClock q.clock
