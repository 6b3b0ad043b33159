use Rattle.std.proofs.Common.{◌≡◌, ◌+◌, ◌<◌, ◌≤◌, ℕ, arith, ap, sym, subst}
use Rattle.board_base.specs.Board.{rank}
use Rattle.sketch_grounds.specs.Limits.{loss_in}
use Rattle.balance_rule.specs.LeastWays.{IsLeast, seen_by}
use Rattle.sketch_account.specs.declared.grounds.Ground.{Ground}
use Rattle.sketch_account.proofs.Losing.{ends_before, lost-all, lost-more, lost-none}
use Rattle.balance_rule.proofs.Seen.{home-inside, seen-seen}
use Rattle.sketch_account.proofs.losses.pawn_lost.Goals as goal

home-rank : (g : Ground) (f : ℕ) → f < 8 → 1 ≤ rank (seen_by g.base.side (seen_by g.base.side (8 + f)))
home-rank g f low =
    let inside : 8 + f < 64 = omega arith in
    let e : rank (seen_by g.base.side (seen_by g.base.side (8 + f))) ≡ rank (8 + f) = ap rank (seen-seen g.base.side (8 + f) inside) in
    omega arith

pub loop-i-init : goal.loop-i-init
loop-i-init c = record { small = omega arith; least = λ o p R ground out. lost-none p c.args.ground.now.base.frozen R c.args.ground.now.base.side _ ground.base.known (home-inside c.args.ground.now.base.side c.args.f c.requires) (home-rank c.args.ground.now c.args.f c.requires) }

pub loop-i-preserved : goal.loop-i-preserved
loop-i-preserved c = record {
  small = omega (arith, c.min-least.ensures, c.loop-i.invariant.small);
  least = λ o p R ground out.
      let h : ℕ = seen_by c.args.ground.now.base.side (8 + c.args.f) in
      let on_board = home-inside c.args.ground.now.base.side c.args.f c.requires in
      subst (IsLeast c.args.ground.now.base.side c.args.ground.now.base.frozen h (ends_before p c.args.ground.now.base.frozen R c.args.ground.now.base.side h ground.base.known on_board (c.loop-i.i + 1)) (loss_in p c.args.ground.now.base.frozen R c.args.ground.now.base.side h)) (sym c.min-least.ensures)
      (lost-more p c.args.ground.now.base.frozen R c.args.ground.now.base.side h ground.base.known on_board c.loop-i.i c.loop-i.least c.loss_at.result c.loop-i-test.true (c.loop-i.invariant.least o p R ground out) (c.loss_at.ensures o p R ground out));
}

pub returns-clause-value : goal.returns-clause-value
returns-clause-value c = λ o p R ground out. lost-all p c.args.ground.now.base.frozen R c.args.ground.now.base.side _ ground.base.known (home-inside c.args.ground.now.base.side c.args.f c.requires) c.loop-i.i c.loop-i.least (omega arith) (c.loop-i.invariant.least o p R ground out)
