use Rattle.std.proofs.Common.{◌≡◌, List, subst}
use Rattle.sketch_list.specs.Listed.{Earlier}
use Rattle.std.specs.Prelude.{[], ◌∷◌, MatchOption}
use Rattle.sketch_walk.specs.Walks.{left_of}
use Rattle.sketch_walk.proofs.Advancing.{ended-told}
use Rattle.sketch_walk.proofs.steps_back.StepsBack.next.Goals as goal

pub returns : goal.returns
returns c = subst (λ (old : List Earlier). MatchOption c.first_from-look.result.found ((old ≡ []) × (left_of c.self.inside.odds c.self.inside.exact c.self.inside.sketch c.first_from-look.result.next ≡ [])) (λ e. old ≡ e ∷ left_of c.self.inside.odds c.self.inside.exact c.self.inside.sketch c.first_from-look.result.next)) c.self.view_is (ended-told _ _ c.first_from-look.result.found (c.first_from-look.ensures.found c.self.inside.odds c.self.invariant.shorts))
