use Rattle.std.proofs.Common.{◌≡◌, List, ℕ, ◌∷◌, ◌++◌, Option, Bor, subst}
use Rattle.std.specs.Prelude.{MatchOption}
use Rattle.sketch_text.proofs.Parted.{at_space, no_space}
use Rattle.sketch_text.proofs.cutting.halves.Goals as goal

abbrev Cut : List ℕ → List ℕ → Option (Bor (List ℕ)) → Type 0
Cut text front o = MatchOption o (text ≡ front) (λ r. text ≡ front ++ 32 ∷ r.now)

pub returns-in-Some : goal.returns-in-Some
returns-in-Some c = at_space c.args.text.now c.split_part.result.0.now c.in-Some.rest.now c.split_part.ensures.part.free (subst (Cut c.args.text.now c.split_part.result.0.now) c.in-Some.is c.split_part.ensures.rest)

pub returns-in-None : goal.returns-in-None
returns-in-None c = no_space c.args.text.now c.split_part.result.0.now c.split_part.ensures.part.free (subst (Cut c.args.text.now c.split_part.result.0.now) c.in-None.is c.split_part.ensures.rest)
