use Rattle.std.proofs.Common.{◌≡◌, ◌<◌, ◌≤◌, List, [], ◌∷◌, length, sym, subst, arith}
use Rattle.board_base.specs.declared.unmoves.Unmove.{Unmove}
use Rattle.diagram_study.proofs.Forcing.{few_found, forced_few, next_is}
use Rattle.diagram_study.proofs.forced.find_forced.Goals as goal

-- no more than sixteen steps that make no list are none
no-list : (slice steps : List Unmove) → slice ≡ steps → ((1 ≤ length slice) × (length slice ≤ 16) → ⊥) → length steps ≤ 16 → length steps < 2
no-list slice [] e none few = omega arith
no-list slice (u ∷ us) e none few = absurd (none (subst (λ (l : List Unmove). (1 ≤ length l) × (length l ≤ 16)) (sym e) (omega arith, few)))

pub forced_steps-requires : goal.forced_steps-requires
forced_steps-requires c = record {
  first =
      next_is c.args.subject.now.query c.args.subject.now.limits.depth c.args.subject.now.limits.nodes c.args.left.now c.in_ok-first.first c.requires.texts c.in_ok-first.ensures;
}

pub returns-in_default-clause-found : goal.returns-in_default-clause-found
returns-in_default-clause-found c =
    let few = forced_few 16 c.args.subject.now.query c.args.subject.now.limits.depth c.args.subject.now.limits.nodes c.in_ok-steps.steps.items c.in_ok-steps.ensures.forced in
    few_found c.args.subject.now.query c.args.subject.now.limits.depth c.args.subject.now.limits.nodes c.in_ok-steps.steps.items c.in_ok-steps.ensures.forced (no-list _ c.in_ok-steps.steps.items c.as_slice.ensures.value c.in_default.ensures few)

pub returns-then-len-lt2-clause-found : goal.returns-then-len-lt2-clause-found
returns-then-len-lt2-clause-found c =
    few_found c.args.subject.now.query c.args.subject.now.limits.depth c.args.subject.now.limits.nodes c.in_ok-steps.steps.items c.in_ok-steps.ensures.forced (omega (arith, c.len.ensures, c.if-len-lt2.true))
