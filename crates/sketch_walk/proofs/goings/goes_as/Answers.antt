use Rattle.std.proofs.Common.{◌≡◌, ℕ, ◌==◌, inl, inr, Bool, ◌&&◌, ap, sym, ◌∙◌}
use Rattle.board_base.specs.Attacks.{files_apart}
use Rattle.sketch_list.specs.declared.steps.Victim.{Victim}
use Rattle.sketch_walk.specs.Goings.{goes_as}
use Rattle.sketch_walk.proofs.goings.goes_as.Goals as goal

four : (a b d e a' b' d' e' : ℕ) → a ≡ a' → b ≡ b' → d ≡ d' → e ≡ e' → ((a == b) && (d == e)) ≡ ((a' == b') && (d' == e'))
four a b d e a' b' d' e' p q r s = cc

pub returns-in-Nobody : goal.returns-in-Nobody
unfolding goes_as
returns-in-Nobody c = four _ _ _ _ _ _ _ _ c.file.ensures c.file-in-Nobody.ensures c.rank.ensures c.last_rank.ensures ∙ ap (λ (v : Victim). goes_as c.args.colour c.args.from c.args.to v) (sym c.in-Nobody.is)

pub returns-in-TakenPawn : goal.returns-in-TakenPawn
unfolding goes_as
returns-in-TakenPawn c = ap (λ (n : ℕ). n == 1) c.files_between-aside.ensures.value ∙ elim c.in-TakenPawn.is [
  | inl pawn ↦ ap (λ (v : Victim). goes_as c.args.colour c.args.from c.args.to v) (sym pawn)
  | inr rest ↦ elim rest [
    | inl bishop ↦ ap (λ (v : Victim). goes_as c.args.colour c.args.from c.args.to v) (sym bishop)
    | inr other ↦ ap (λ (v : Victim). goes_as c.args.colour c.args.from c.args.to v) (sym other)
  ]
]

pub returns-in-PassedPawn : goal.returns-in-PassedPawn
unfolding goes_as
returns-in-PassedPawn c =
    ap (λ (n : ℕ). (n == 1) && c.is_passing_rank.result) c.files_between-aside.ensures.value ∙ ap (λ (b : Bool). (files_apart c.args.from c.args.to == 1) && b) c.is_passing_rank.ensures
    ∙ ap (λ (v : Victim). goes_as c.args.colour c.args.from c.args.to v) (sym c.in-PassedPawn.is)
