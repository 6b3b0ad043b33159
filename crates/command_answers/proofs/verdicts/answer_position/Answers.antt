use Rattle.std.proofs.Common.{length, sym, ap, ◌∙◌}
use Rattle.std.proofs.lemmas.List.Elements.{All-same}
use Rattle.codex_verdict.specs.Verdicts.{Promotes}
use Rattle.codex_verdict.specs.declared.kinds.Right.{Right}
use Rattle.codex_verdict.proofs.AllRights.{rights-plain}
use Rattle.command_answers.specs.Verdicts.{IsSettled}
use Rattle.command_answers.proofs.Settled.{each-length}
use Rattle.command_answers.proofs.verdicts.answer_position.Goals as goal

pub write_verdicts-requires-clause-as_many : goal.write_verdicts-requires-clause-as_many
write_verdicts-requires-clause-as_many c =
    let settled = rw c.in-Some.is at c.in_ok-settled.ensures in
    ap length c.as_slice-in-Some-2.ensures.value ∙ each-length (IsSettled c.args.position.now.query c.args.limits.depth c.args.limits.nodes) _ _ settled ∙ ap length (c.as_slice.ensures.value ∙ sym c.as_slice-in-Some.ensures.value)

pub write_verdicts-requires-clause-plain : goal.write_verdicts-requires-clause-plain
write_verdicts-requires-clause-plain c = All-same (λ (right : Right). Promotes right → ⊥) _ _ c.as_slice-in-Some.ensures.value (rights-plain _ _ _ c.rights-rights.ensures)
