use Rattle.std.proofs.Common.{ℕ, Option, ◌++◌, length, ap, ◌∙◌, append-nil, arith}
use Rattle.std.specs.List.{concat}
use Rattle.query_base.specs.Asked.{Asked}
use Rattle.cert_text.specs.Certificate.{lines_of_clock, lines_of_odds}
use Rattle.cert_text.proofs.FenLines.{fen_line, query_back}
use Rattle.cert_text.proofs.HeadTexts.{clock_written, odds_written, query_put}
use Rattle.cert_text.proofs.query_lines.write_query_lines.Goals as goal

pub returns-clause-lines : goal.returns-clause-lines
returns-clause-lines c =
    let odds = c.push_odds.ensures.lines ∙ ap (λ (q : Asked). c.args.out.now.items ++ concat (lines_of_odds q.odds)) c.query.view_is in
    let clock = c.push_clock.ensures.lines ∙ ap (λ (q : Asked). c.push_odds.new.out.items ++ concat (lines_of_clock q.clock)) c.query.view_is in
    query_put c.args.query.now _ _ _ _ odds clock c.push_fen.ensures.line

pub returns-clause-odds : goal.returns-clause-odds
returns-clause-odds c = odds_written c.args.query.now.odds c.is_known.ensures.odds

pub returns-clause-clock : goal.returns-clause-clock
returns-clause-clock c = clock_written c.args.query.now.clock c.is_known.ensures.clock

pub returns-clause-fen : goal.returns-clause-fen
unfolding fen_line
returns-clause-fen c = query_back c.args.query.now c.is_known.ensures.whole c.requires.plain c.is_known.ensures.step

pub returns-clause-free : goal.returns-clause-free
returns-clause-free c free =
    let before = c.push_odds.new.out.items in
    let none = c.push_clock.ensures.lines ∙ ap (λ (k : Option ℕ). before ++ concat (lines_of_clock k)) (ap (λ (q : Asked). q.clock) c.query.view_is ∙ free) ∙ append-nil before in
    omega (arith, c.push_odds.ensures.short, c.push_fen.ensures.short, ap length none)
