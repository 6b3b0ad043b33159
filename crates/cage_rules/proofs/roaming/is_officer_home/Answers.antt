use Rattle.std.proofs.Common.{◌≡◌, ◌%◌, ◌==◌, ℕ, not, ap, ◌∙◌, arith}
use Rattle.cage_rules.proofs.Beginners.{home-off, home-on}
use Rattle.cage_rules.proofs.roaming.is_officer_home.Goals as goal

pub returns-then-is_end : goal.returns-then-is_end
returns-then-is_end c =
    let e : not (c.index.result % 8 == 4) ≡ not (c.args.home % 8 == 4) = ap (λ (n : ℕ). not (n % 8 == 4)) c.index.ensures.number in
    e ∙ home-on c.args.home c.is_end.result c.is_end.ensures c.if-is_end.true (omega arith)

pub returns-else-is_end : goal.returns-else-is_end
returns-else-is_end c = c.if-is_end.false ∙ home-off c.args.home c.is_end.result c.is_end.ensures c.if-is_end.false
