use Rattle.std.proofs.Common.{Bool, ◌||◌, ap, sym, ◌∙◌}
use Rattle.board_base.specs.Board.{is_in}
use Rattle.board_base.specs.declared.men.Kind.{Kind}
use Rattle.sketch_sets.specs.Shifts.{attacks_past, goes_straight_on}
use Rattle.sketch_sets.specs.Tests.{some_that}
use Rattle.sketch_sets.proofs.Attacking.{attack-bishop, attack-king, attack-knight, attack-pawn, attack-queen, attack-rook}
use Rattle.sketch_sets.proofs.Sets.{told-either}
use Rattle.sketch_sets.proofs.pieces.attackers.Goals as goal

pub returns-in-Pawn : goal.returns-in-Pawn
returns-in-Pawn c = λ e low. c.pawn_strikes.ensures e low ∙ attack-pawn c.args.to c.args.fixed c.args.colour c.args.steps e ∙ ap (λ (k : Kind). some_that c.args.to (attacks_past k c.args.colour c.args.fixed c.args.steps e)) (sym c.in-Pawn.is)

pub returns-in-Knight : goal.returns-in-Knight
returns-in-Knight c = λ e low. c.knight_hops.ensures e low ∙ attack-knight c.args.to c.args.fixed c.args.colour c.args.steps e ∙ ap (λ (k : Kind). some_that c.args.to (attacks_past k c.args.colour c.args.fixed c.args.steps e)) (sym c.in-Knight.is)

pub returns-in-Bishop : goal.returns-in-Bishop
returns-in-Bishop c = λ e low. c.diagonal_rays.ensures e low ∙ attack-bishop c.args.to c.args.fixed c.args.colour c.args.steps e ∙ ap (λ (k : Kind). some_that c.args.to (attacks_past k c.args.colour c.args.fixed c.args.steps e)) (sym c.in-Bishop.is)

pub returns-in-Rook : goal.returns-in-Rook
returns-in-Rook c = λ e low. c.straight_rays.ensures e low ∙ attack-rook c.args.to c.args.fixed c.args.colour c.args.steps e ∙ ap (λ (k : Kind). some_that c.args.to (attacks_past k c.args.colour c.args.fixed c.args.steps e)) (sym c.in-Rook.is)

pub returns-in-Queen : goal.returns-in-Queen
returns-in-Queen c = λ e low. told-either c.straight_rays-in-Queen.result c.diagonal_rays-in-Queen.result c.either.result e low c.either.ensures ∙ ap (λ (x : Bool). x || is_in c.diagonal_rays-in-Queen.result e) (c.straight_rays-in-Queen.ensures e low) ∙ ap (λ (x : Bool). some_that c.args.to (goes_straight_on c.args.fixed c.args.steps e) || x) (c.diagonal_rays-in-Queen.ensures e low) ∙ attack-queen c.args.to c.args.fixed c.args.colour c.args.steps e ∙ ap (λ (k : Kind). some_that c.args.to (attacks_past k c.args.colour c.args.fixed c.args.steps e)) (sym c.in-Queen.is)

pub returns-in-King : goal.returns-in-King
returns-in-King c = λ e low. told-either c.straight_rays-in-King.result c.diagonal_rays-in-King.result c.either-in-King.result e low c.either-in-King.ensures ∙ ap (λ (x : Bool). x || is_in c.diagonal_rays-in-King.result e) (c.straight_rays-in-King.ensures e low) ∙ ap (λ (x : Bool). some_that c.args.to (goes_straight_on c.args.fixed 1 e) || x) (c.diagonal_rays-in-King.ensures e low) ∙ attack-king c.args.to c.args.fixed c.args.colour c.args.steps e ∙ ap (λ (k : Kind). some_that c.args.to (attacks_past k c.args.colour c.args.fixed c.args.steps e)) (sym c.in-King.is)
