use Rattle.std.proofs.Common.{rules, ◌≡◌, ℕ, List, length, ap, ◌∙◌, arith}
use Rattle.std.proofs.lemmas.Fmt.{length-decimal-le}
use Rattle.fen_text.specs.ClockLines.{clock_line, clock_text}
use Rattle.fen_text.proofs.ClockTexts.{clock_back}
use Rattle.fen_text.proofs.clock_lines.write_clock.Goals as goal

pub returns-clause-size : goal.returns-clause-size
returns-clause-size c =
    let text : c.try_extend_from_slice-2.new.self.items ≡ clock_text c.args.n = search rules in
    omega (arith, ap (λ (l : List ℕ). length l) text, length-decimal-le 4 c.args.n (omega arith) (omega (arith, c.requires.short)) (omega (arith, c.requires.short)))

pub returns-clause-read : goal.returns-clause-read
returns-clause-read c =
    let text : c.try_extend_from_slice-2.new.self.items ≡ clock_text c.args.n = search rules in
    ap clock_line text ∙ clock_back c.args.n c.requires.short
