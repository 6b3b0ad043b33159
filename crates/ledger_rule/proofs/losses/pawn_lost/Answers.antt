use Rattle.std.proofs.Common.{◌≡◌, ◌+◌, ◌<◌, ◌≤◌, Bool, ℕ, List, arith, ap, sym, subst, ◌∙◌}
use Rattle.board_base.specs.Board.{rank}
use Rattle.balance_rule.specs.LeastWays.{IsLeast, seen_by}
use Rattle.balance_rule.specs.declared.grounds.Ground.{Ground}
use Rattle.balance_rule.proofs.Leasts.{only-least}
use Rattle.balance_rule.proofs.Listed.{least-listed}
use Rattle.balance_rule.proofs.Seen.{home-inside, seen-seen}
use Rattle.ledger_facts.specs.Accounts.{is_lost_by, loss_as, pawn_lost}
use Rattle.ledger_rule.proofs.Ends.{ends-all, ends-more, ends-none, ends-same, ends_before}
use Rattle.ledger_rule.proofs.losses.pawn_lost.Goals as goal
use Rattle.ledger_rule.proofs.losses.pawn_lost.Goals.{then-counts, else-counts}

home-rank : (g : Ground) (f : ℕ) → f < 8 → 1 ≤ rank (seen_by g.side (seen_by g.side (8 + f)))
home-rank g f low =
    let inside : 8 + f < 64 = omega arith in
    let e : rank (seen_by g.side (seen_by g.side (8 + f))) ≡ rank (8 + f) = ap rank (seen-seen g.side (8 + f) inside) in
    omega arith

pub loop-i-init : goal.loop-i-init
loop-i-init c = record {
  small = omega arith;
  least = λ o p ground out.
      let g = c.args.ground.now in
      let h : ℕ = seen_by g.side (8 + c.args.f) in
      ends-none g.frozen g.side h (home-inside g.side c.args.f c.requires) (is_lost_by c.args.promoted c.args.struck g.frozen g.side h) (loss_as c.args.struck p g.frozen g.side h) (home-rank g c.args.f c.requires);
}

pub loop-i-preserved : goal.loop-i-preserved
loop-i-preserved c =
    let g = c.args.ground.now in
    let h : ℕ = seen_by g.side (8 + c.args.f) in
    let on_board = home-inside g.side c.args.f c.requires in
    let T : List ℕ → Bool = is_lost_by c.args.promoted c.args.struck g.frozen g.side h in
    elim c.if-counts.branch [
      | then-counts w ↦ record {
        small = omega (arith, w.least-is, w.min-least.ensures, c.loop-i.invariant.small);
        least = λ o p ground out.
            subst (IsLeast g.side g.frozen h (ends_before g.side h T (c.loop-i.i + 1)) (loss_as c.args.struck p g.frozen g.side h)) (sym (w.least-is ∙ w.min-least.ensures))
            (ends-more g.frozen g.side h on_board T (loss_as c.args.struck p g.frozen g.side h) c.loop-i.i c.loop-i.least w.loss_as.result c.loop-i-test.true
            (λ way ends. sym (c.counts.ensures o p ground h way ends) ∙ w.if-counts.true) (c.loop-i.invariant.least o p ground out) (w.loss_as.ensures o p ground out));
      }
      | else-counts w ↦ record {
        small = omega (arith, w.least-is, c.loop-i.invariant.small);
        least = λ o p ground out.
            subst (IsLeast g.side g.frozen h (ends_before g.side h T (c.loop-i.i + 1)) (loss_as c.args.struck p g.frozen g.side h)) (sym w.least-is)
            (ends-same g.frozen g.side h on_board T (loss_as c.args.struck p g.frozen g.side h) c.loop-i.i c.loop-i.least c.loop-i-test.true
            (λ way ends. sym (c.counts.ensures o p ground h way ends) ∙ w.if-counts.false) (c.loop-i.invariant.least o p ground out));
      }
    ]

pub returns-clause-value : goal.returns-clause-value
unfolding pawn_lost
returns-clause-value c = λ o p ground out.
    let g = c.args.ground.now in
    let h : ℕ = seen_by g.side (8 + c.args.f) in
    let on_board = home-inside g.side c.args.f c.requires in
    let T : List ℕ → Bool = is_lost_by c.args.promoted c.args.struck g.frozen g.side h in
    only-least g.side g.frozen h T (loss_as c.args.struck p g.frozen g.side h) c.loop-i.least _
    (ends-all g.frozen g.side h on_board T (loss_as c.args.struck p g.frozen g.side h) c.loop-i.i c.loop-i.least (omega arith) (c.loop-i.invariant.least o p ground out))
    (least-listed g.side g.frozen h T (loss_as c.args.struck p g.frozen g.side h) on_board)
