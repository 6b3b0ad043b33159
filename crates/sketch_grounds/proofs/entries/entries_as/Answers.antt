use Rattle.std.proofs.Common.{◌≡◌, ◌∙◌, inl, inr, true, Bool, ap, sym}
use Rattle.board_base.specs.Legal.{is_officer}
use Rattle.board_base.specs.declared.men.Kind.{Kind}
use Rattle.cage_rules.specs.Frozen.{is_before_promotion}
use Rattle.cage_rules.specs.Sets.{squares_that, union}
use Rattle.cage_rules.specs.Steps.{is_step}
use Rattle.past_account.specs.Frozen.{enters_as}
use Rattle.sketch_grounds.proofs.Entering.{entries-any, entries-king, entries-pawn, entries-plain}
use Rattle.sketch_grounds.proofs.entries.entries_as.Goals as goal

pub returns-in-Pawn : goal.returns-in-Pawn
returns-in-Pawn c = c.pawn_entries.ensures ∙ entries-pawn c.args.marked c.args.colour c.args.s ∙ ap (λ (k : Kind). squares_that (enters_as c.args.marked c.args.colour k c.args.s)) (sym c.in-Pawn.is)

pub returns-in-King : goal.returns-in-King
returns-in-King c =
    c.steps_to.ensures ∙ ap (λ (k : Kind). squares_that (is_step k c.args.s)) c.in-King.is ∙ entries-king c.args.marked c.args.colour c.args.s
    ∙ ap (λ (k : Kind). squares_that (enters_as c.args.marked c.args.colour k c.args.s)) (sym c.in-King.is)

pub returns-then-marked : goal.returns-then-marked
returns-then-marked c =
    let officer : is_officer c.args.kind ≡ true = elim c.in-Knight.is [
      | inl a ↦ ap is_officer a
      | inr b ↦ elim b [ inl x ↦ ap is_officer x | inr y ↦ elim y [ inl p ↦ ap is_officer p | inr q ↦ ap is_officer q ] ]
    ] in
    c.steps_to-then-marked.ensures ∙ entries-plain c.args.colour c.args.kind c.args.s officer
    ∙ ap (λ (b : Bool). squares_that (enters_as b c.args.colour c.args.kind c.args.s)) (sym c.if-marked.true)

pub returns-else-marked : goal.returns-else-marked
returns-else-marked c =
    let officer : is_officer c.args.kind ≡ true = elim c.in-Knight.is [
      | inl a ↦ ap is_officer a
      | inr b ↦ elim b [ inl x ↦ ap is_officer x | inr y ↦ elim y [ inl p ↦ ap is_officer p | inr q ↦ ap is_officer q ] ]
    ] in
    let made : c.either.result ≡ union (squares_that (is_step c.args.kind c.args.s)) (squares_that (is_before_promotion c.args.colour c.args.s)) = cc in
    made ∙ entries-any c.args.colour c.args.kind c.args.s officer
    ∙ ap (λ (b : Bool). squares_that (enters_as b c.args.colour c.args.kind c.args.s)) (sym c.if-marked.false)
