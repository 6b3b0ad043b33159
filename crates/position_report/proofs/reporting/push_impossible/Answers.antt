use Rattle.std.proofs.Common.{[], ◌∷◌, sym, subst}
use Rattle.std.specs.List.{All}
use Rattle.std.proofs.lemmas.Result.{on_ok_weaker}
use Rattle.position_report.specs.declared.shown.Shown.{Shown}
use Rattle.position_report.specs.Reports.{IsPlainFound}
use Rattle.position_report.proofs.Joining.{IsPlain, from-nothing, plain-illegal}
use Rattle.position_report.proofs.Reported.{impossible-told}
use Rattle.position_report.proofs.reporting.push_impossible.Goals as goal

pub proofs_part-requires : goal.proofs_part-requires
proofs_part-requires c = subst (λ (s : Shown). All IsPlain (s ∷ [])) (sym c.illegal_shown.ensures) (plain-illegal c.args.query.now c.requires.plain)

pub returns : goal.returns
returns c =
    let plainly = from-nothing (IsPlainFound c.args.query.now c.args.limits.depth c.args.limits.nodes c.in_ok-plain.plain) c.new-plain_game.result.items _ c.new-plain_game.ensures.items c.in_ok-plain.ensures in
    on_ok_weaker c.push_part-5.result
    (λ e. impossible-told c.args.query.now c.args.limits.depth c.args.limits.nodes c.args.games.now c.args.against c.in_ok-plain.plain c.args.out.now.items _ _ _ _ _ c.in_ok-said.said.items c.in_ok-proofs.proofs.items c.in_ok-game.game.items _ c.in_ok-ask.ask.items c.requires.shown c.requires.against plainly c.in_ok-said.ensures (rw c.illegal_shown.ensures at c.in_ok-proofs.ensures) c.in_ok-game.ensures c.in_ok-ask.ensures
    (rw c.as_slice.ensures.value at c.in_ok-push_part.ensures) (rw c.as_slice-2.ensures.value at c.in_ok-push_part-2.ensures) (rw c.as_slice-3.ensures.value at c.in_ok-push_part-3.ensures) (rw c.as_slice-4.ensures.value at c.in_ok-push_part-4.ensures) (rw c.as_slice-5.ensures.value at e))
    c.push_part-5.ensures
