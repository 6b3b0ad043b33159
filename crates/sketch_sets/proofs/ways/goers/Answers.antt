use Rattle.std.proofs.Common.{Bool, ◌&&◌, not, inl, inr, ap, sym, ◌∙◌}
use Rattle.board_base.specs.Board.{is_in, same_kind}
use Rattle.board_base.specs.declared.men.Kind.{Kind}
use Rattle.board_base.specs.declared.men.Kind.TheVariants.{Pawn, King}
use Rattle.board_base.specs.declared.men.Colour.{Colour}
use Rattle.sketch_sets.specs.Grounds.{touched}
use Rattle.sketch_sets.specs.Quiet.{goes_on}
use Rattle.sketch_sets.specs.Shifts.{attacks_past}
use Rattle.sketch_sets.specs.Tests.{some_that}
use Rattle.sketch_sets.proofs.Sets.{told-less}
use Rattle.sketch_sets.proofs.Widening.{goers-king, goers-officer, goers-pawn}
use Rattle.sketch_sets.proofs.ways.goers.Goals as goal

pub returns-in-Pawn : goal.returns-in-Pawn
returns-in-Pawn c = λ e low. c.pawn_movers.ensures e low ∙ goers-pawn c.args.ground.now c.args.colour c.args.to e ∙ ap (λ (k : Kind). some_that c.args.to (goes_on c.args.ground.now c.args.colour k e)) (sym c.in-Pawn.is)

pub returns-in-King : goal.returns-in-King
returns-in-King c = λ e low.
    c.attackers.ensures e low
    ∙ ap (λ (k : Kind). some_that c.both-safe.result (attacks_past k c.args.colour c.args.ground.now.fixed 7 e)) c.in-King.is
    ∙ goers-king c.args.ground.now c.args.colour c.args.to c.both-safe.result e c.is_whole.ensures low (λ s inside.
    told-less c.args.to c.touched.result c.outside.result c.both-safe.result s inside c.outside.ensures c.both-safe.ensures
    ∙ ap (λ (x : Bool). is_in c.args.to s && not x) (ap (λ (l : _). is_in l s) (c.touched.ensures ∙ ap (λ (x : Colour). touched c.args.ground.now x) c.other.ensures)))
    ∙ ap (λ (k : Kind). some_that c.args.to (goes_on c.args.ground.now c.args.colour k e)) (sym c.in-King.is)

pub returns-in-Knight : goal.returns-in-Knight
returns-in-Knight c = λ e low.
    c.attackers-in-Knight.ensures e low
    ∙ goers-officer c.args.ground.now c.args.colour c.args.kind c.args.to e
    (elim c.in-Knight.is [ inl a ↦ ap (same_kind Pawn) a | inr rest ↦ elim rest [ inl b ↦ ap (same_kind Pawn) b | inr more ↦ elim more [ inl d ↦ ap (same_kind Pawn) d | inr f ↦ ap (same_kind Pawn) f ] ] ])
    (elim c.in-Knight.is [ inl a ↦ ap (same_kind King) a | inr rest ↦ elim rest [ inl b ↦ ap (same_kind King) b | inr more ↦ elim more [ inl d ↦ ap (same_kind King) d | inr f ↦ ap (same_kind King) f ] ] ])
    c.is_whole.ensures low
