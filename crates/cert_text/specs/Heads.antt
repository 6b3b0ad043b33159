-- The head of a certificate, line after line.
use Rattle.std.specs.Prelude.{ℕ, ◌≡◌, Bool, List, [], ◌∷◌, Option, Some, None}
use Rattle.std.specs.Option.{option_map, option_or}
use Rattle.board_base.specs.Board.{no_odds}
use Rattle.query_base.specs.declared.claims.Claim.{Claim}
use Rattle.fen_text.specs.ClockLines.{clock_line}
use Rattle.fen_text.specs.OddsLines.{odds_line}
use Rattle.cert_text.specs.Lines.{said}
use Rattle.cert_text.specs.Certificate.{Lines, format_of, query_of}
use Rattle.cert_text.specs.ClaimLines.{claim_of}
use Rattle.cert_text.specs.declared.heads.Format.{Format}
use Rattle.cert_text.specs.declared.heads.Format.TheVariants.{One, Two}
use Rattle.cert_text.specs.declared.heads.Head.{Head}
use Rattle.cert_text.specs.declared.heads.Head.TheVariants.{FormatDue, ClaimDue, DemandDue, ClockOrFenDue, FenDue, RootDue}

-- the line that follows the claim's: in the first format the FEN's, and neither odds nor a clock are demanded
abbrev pub after_claim : Format → Claim → Head
after_claim One claim = FenDue claim no_odds None
after_claim Two claim = DemandDue claim

-- after the line of the odds the clock's comes, or the FEN's
abbrev pub odds_step : Claim → List ℕ → Option Head
odds_step claim line = option_map (λ odds. ClockOrFenDue claim odds) (said odds_line line)

-- after the line of the clock the FEN's comes
abbrev pub clock_step : Claim → List Bool → List ℕ → Option Head
clock_step claim odds line = option_map (λ n. FenDue claim odds (Some n)) (said clock_line line)

-- after the line of the FEN the root's comes
abbrev pub fen_step : Claim → List Bool → Option ℕ → List ℕ → Option Head
fen_step claim odds clock line = option_map (λ q. RootDue claim (record q { odds = odds; clock = clock })) (said query_of line)

-- which line comes next after this one, or None where the line isn't the one that is due, or none of the head is
abbrev pub head_step : Head → List ℕ → Option Head
head_step FormatDue line = option_map (λ f. ClaimDue f) (said format_of line)
head_step (ClaimDue f) line = option_map (after_claim f) (said claim_of line)
head_step (DemandDue claim) line = option_or (odds_step claim line) (clock_step claim no_odds line)
head_step (ClockOrFenDue claim odds) line = option_or (clock_step claim odds line) (fen_step claim odds None line)
head_step (FenDue claim odds clock) line = fen_step claim odds clock line
head_step (RootDue claim q) line = None

-- these lines lead from one line that is due to another
abbrev pub Leads : Head → Lines → Head → Type 0
Leads head [] last = head ≡ last
Leads head (line ∷ lines) last = (next : Head) × (head_step head line ≡ Some next) × Leads next lines last
