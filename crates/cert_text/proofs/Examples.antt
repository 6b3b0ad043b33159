-- The text of a certificate, and lines that go bad.
use Rattle.std.proofs.Common.{arith, ◌≡◌, ℕ, Bool, true, List, [], ◌∷◌, ◌++◌, refl}
use Rattle.std.specs.Prelude.{None, Option, Some, codes, slice_set}
use Rattle.board_base.specs.Board.{no_men, no_odds}
use Rattle.board_base.specs.declared.men.Colour.TheVariants.{White}
use Rattle.query_base.specs.declared.claims.Claim.TheVariants.{Illegal}
use Rattle.query_base.specs.declared.rule_lines.RuleLine.TheVariants.{Kings}
use Rattle.fen_text.specs.Parts.{parted}
use Rattle.fen_text.specs.Ranks.{is_symbol, places_of, rank}
use Rattle.fen_text.specs.Fen.{asked, fen, fen_of_four, from_en_passant, from_rights, from_turn, placement, ranks, rights}
use Rattle.cert_text.specs.Tree.{rule}
use Rattle.cert_text.specs.declared.reasons.Reason.TheVariants.{Line}
use Rattle.cert_text.specs.Lines.{ended, said}
use Rattle.cert_text.specs.Texts.{IsBadAt}
use Rattle.cert_text.specs.NodeLines.{body_at, root_body}
use Rattle.cert_text.specs.ClaimLines.{claim_of}
use Rattle.cert_text.specs.Certificate.{AreHeadLines, AreLinesOf, Certificate, IsSaid, Lines, clock_demand, format_for, format_of, query_of, root_at}
use Rattle.cert_text.specs.Heads.{Leads, head_step}
use Rattle.cert_text.specs.declared.heads.Format.TheVariants.{Two}
use Rattle.cert_text.specs.declared.heads.Head.TheVariants.{FormatDue, ClaimDue, DemandDue, FenDue, RootDue}
use Rattle.cert_text.proofs.Bad.{bad_end, bad_line, bad_root}
use Rattle.cert_text.proofs.HeadSteps.{head_leads}
use Rattle.fen_text.specs.ClockLines.{clock_line}
use Rattle.fen_text.specs.Numbers.{number}
use Rattle.fen_text.specs.OddsLines.{odds_line, odds_of}
use Rattle.fen_text.specs.Sets.{set_of}
use Rattle.board_base.specs.Squares.{squares_of}
use Rattle.board_base.specs.Rights.{no_rights}

-- no game at these odds and with this clock, if any, leads to the board without men, for want of kings
abbrev no_kings_at : List Bool → Option ℕ → Certificate
no_kings_at odds clock = record { claim = Illegal; query = record (asked no_men White no_rights None) { odds = odds; clock = clock }; root = rule (Line Kings) }

abbrev no_kings : Certificate
no_kings = no_kings_at no_odds None

abbrev claim_line : List ℕ
claim_line = ended (codes "claim illegal")

abbrev fen_line : List ℕ
fen_line = ended (codes "fen 8/8/8/8/8/8/8/8 w - -")

abbrev one_line : List ℕ
one_line = ended (codes "retro 1")

-- its first three lines, with this one as the fourth
abbrev with_root : List ℕ → Lines
with_root line = one_line ∷ claim_line ∷ fen_line ∷ line ∷ []

abbrev kings_line : List ℕ
kings_line = ended (codes "root rule kings")

-- lines of the format, of the odds and of the clock are the head with those of the claim and of the FEN
head_with : (format_line : List ℕ) (odds_lines clock_lines : Lines) (odds : List Bool) (clock : Option ℕ) → said format_of format_line ≡ Some (format_for (odds_lines ++ clock_lines)) → IsSaid odds_line no_odds odds_lines odds → IsSaid clock_demand None clock_lines clock
    → AreHeadLines (format_line ∷ claim_line ∷ ((odds_lines ++ clock_lines) ++ fen_line ∷ [])) Illegal (no_kings_at odds clock).query
unfolding said claim_of query_of fen_of_four fen from_turn from_rights from_en_passant parted placement ranks rank is_symbol places_of rights
head_with format_line odds_lines clock_lines odds clock format named demanded = record {
  format_line = format_line;
  claim_line = claim_line;
  odds_lines = odds_lines;
  clock_lines = clock_lines;
  fen_line = fen_line;
  parts = refl;
  format_is = format;
  claim_is = refl;
  odds_are = named;
  clock_is = demanded;
  query_is = refl;
}

-- and the text with the root's too
text_with : (format_line : List ℕ) (odds_lines clock_lines : Lines) (odds : List Bool) (clock : Option ℕ) → said format_of format_line ≡ Some (format_for (odds_lines ++ clock_lines)) → IsSaid odds_line no_odds odds_lines odds → IsSaid clock_demand None clock_lines clock
    → AreLinesOf (format_line ∷ claim_line ∷ (((odds_lines ++ clock_lines) ++ fen_line ∷ []) ++ kings_line ∷ [])) (no_kings_at odds clock)
unfolding said root_body body_at
text_with format_line odds_lines clock_lines odds clock format named demanded = record {
  head = format_line ∷ claim_line ∷ ((odds_lines ++ clock_lines) ++ fen_line ∷ []);
  root_line = kings_line;
  below = [];
  parts = refl;
  heading = head_with format_line odds_lines clock_lines odds clock format named demanded;
  root = refl;
  nodes = refl;
  few = omega arith;
}

-- where nothing is demanded, the first three lines are the head
good_head : AreHeadLines (one_line ∷ claim_line ∷ fen_line ∷ []) Illegal no_kings.query
unfolding said format_of
good_head = head_with one_line [] [] no_odds None refl refl refl

-- and the four lines are a text
good_lines : AreLinesOf (with_root kings_line) no_kings
unfolding said format_of
good_lines = text_with one_line [] [] no_odds None refl refl refl

-- without a line a text ends too early, at line 1; without the root's, at line 4
no_bytes : IsBadAt AreLinesOf [] 1
no_bytes = bad_end [] FormatDue 1 refl refl

head_read : Leads FormatDue (one_line ∷ claim_line ∷ fen_line ∷ []) (RootDue Illegal no_kings.query)
head_read = head_leads (one_line ∷ claim_line ∷ fen_line ∷ []) Illegal no_kings.query good_head

no_root : IsBadAt AreLinesOf (one_line ∷ claim_line ∷ fen_line ∷ []) 4
no_root = bad_end (one_line ∷ claim_line ∷ fen_line ∷ []) (RootDue Illegal no_kings.query) 4 refl head_read

abbrev queens_line : List ℕ
queens_line = ended (codes "root rule queens")

no_such_rule : said root_body queens_line ≡ None
unfolding said root_body body_at
no_such_rule = refl

-- with a root of a rule that there isn't it goes bad at line 4
bad_queens : IsBadAt AreLinesOf (with_root queens_line) 4
bad_queens = bad_root (one_line ∷ claim_line ∷ fen_line ∷ []) queens_line [] Illegal no_kings.query 4 refl head_read no_such_rule

abbrev two_line : List ℕ
two_line = ended (codes "retro 2")

two_read : Leads FormatDue (two_line ∷ claim_line ∷ []) (DemandDue Illegal)
unfolding said claim_of format_of
two_read = (ClaimDue Two, refl, (DemandDue Illegal, refl, refl))

nothing_demanded : head_step (DemandDue Illegal) fen_line ≡ None
unfolding said odds_line clock_line
nothing_demanded = refl

-- in format 2 a FEN behind the claim goes bad at line 3
no_demand : IsBadAt AreLinesOf (two_line ∷ claim_line ∷ fen_line ∷ kings_line ∷ []) 3
no_demand =
    bad_line (two_line ∷ claim_line ∷ []) fen_line (kings_line ∷ []) (DemandDue Illegal) 3 refl two_read (λ claim q e. cc) nothing_demanded

abbrev a2_line : List ℕ
a2_line = ended (codes "odds 0000000000000100")

-- the square a2
abbrev a2 : List Bool
a2 = slice_set no_odds 8 true

-- with the odds behind the claim the five lines are a text
lines_at_odds : AreLinesOf (two_line ∷ claim_line ∷ a2_line ∷ fen_line ∷ kings_line ∷ []) (no_kings_at a2 None)
unfolding said format_of odds_line odds_of set_of squares_of
lines_at_odds = text_with two_line (a2_line ∷ []) [] a2 None refl refl refl

-- and the root stands on line 5
root_of_odds : root_at (no_kings_at a2 None).query ≡ 5
root_of_odds = refl

abbrev clock_7 : List ℕ
clock_7 = ended (codes "clock 7")

-- with the clock alone behind the claim the five lines are a text
lines_by_clock : AreLinesOf (two_line ∷ claim_line ∷ clock_7 ∷ fen_line ∷ kings_line ∷ []) (no_kings_at no_odds (Some 7))
unfolding said format_of clock_line number
lines_by_clock = text_with two_line [] (clock_7 ∷ []) no_odds (Some 7) refl refl refl

-- and the root stands on line 5
root_by_clock : root_at (no_kings_at no_odds (Some 7)).query ≡ 5
root_by_clock = refl

-- with the odds and then the clock behind the claim the six lines are a text
lines_by_both : AreLinesOf (two_line ∷ claim_line ∷ a2_line ∷ clock_7 ∷ fen_line ∷ kings_line ∷ []) (no_kings_at a2 (Some 7))
unfolding said format_of odds_line odds_of set_of squares_of clock_line number
lines_by_both = text_with two_line (a2_line ∷ []) (clock_7 ∷ []) a2 (Some 7) refl refl refl

-- and the root stands on line 6
root_by_both : root_at (no_kings_at a2 (Some 7)).query ≡ 6
root_by_both = refl

clock_read : Leads FormatDue (two_line ∷ claim_line ∷ clock_7 ∷ []) (FenDue Illegal no_odds (Some 7))
unfolding said claim_of format_of odds_line clock_line number
clock_read = (ClaimDue Two, refl, (DemandDue Illegal, refl, (FenDue Illegal no_odds (Some 7), refl, refl)))

no_odds_behind : head_step (FenDue Illegal no_odds (Some 7)) a2_line ≡ None
unfolding said query_of
no_odds_behind = refl

-- with the clock before the odds it goes bad at line 4, where the odds are
clock_before_odds : IsBadAt AreLinesOf (two_line ∷ claim_line ∷ clock_7 ∷ a2_line ∷ fen_line ∷ kings_line ∷ []) 4
clock_before_odds =
    bad_line (two_line ∷ claim_line ∷ clock_7 ∷ []) a2_line (fen_line ∷ kings_line ∷ []) (FenDue Illegal no_odds (Some 7)) 4 refl clock_read (λ claim q e. cc) no_odds_behind
