-- How many figures a sketch has at most with which a walk can begin, and so that a board of such a sketch has one.
use Rattle.std.proofs.Common.{◌≤◌, Bool, List, length, refl, arith}
use Rattle.std.specs.Prelude.{Option, None, Some, SomeIff, IsSome}
use Rattle.board_base.specs.declared.men.Colour.TheVariants.{White, Black}
use Rattle.past_sketches.specs.Figures.{Sketch}
use Rattle.sketch_checker.specs.Beginning.{CanBegin}
use Rattle.sketch_checker.proofs.Sides.{begun-low, both-sides, few-told}

few-figures : (o : List Bool) (S : Sketch) → CanBegin o S → length S ≤ 32
few-figures o S can =
    omega (arith, both-sides S, few-told o S White can.white, few-told o S Black can.black, begun-low o White, begun-low o Black)

pub sketch-given : (o : List Bool) (S : Sketch) (answer : Option Sketch) → SomeIff answer (length S ≤ 32) S → CanBegin o S → IsSome answer
sketch-given o S None h can = absurd (h (few-figures o S can))
sketch-given o S (Some T) h can = refl
