-- There is one least closed sketch above a sketch.
use Rattle.std.proofs.Common.{◌≡◌, ℕ, zero, suc, ◌<◌, Bool, true, false, List, [], ◌∷◌, length, refl, ap, sym, ◌∙◌, arith}
use Rattle.std.specs.List.{Contains, list_any}
use Rattle.general_lemmas.proofs.Lists.{contains-first, contains-later}
use Rattle.board_base.specs.Board.{is_in}
use Rattle.board_base.specs.Rights.{Rights}
use Rattle.figures.proofs.SetAlgebra.{same-set}
use Rattle.figures.specs.Clashes.{is_nowhere}
use Rattle.figures.specs.Figures.{AreWider, Figure, Sketch}
use Rattle.sketch_sets.specs.Leasts.{AreLike, IsLike}
use Rattle.sketch_node.specs.Nodes.{IsLeastAbove}

-- all squares of all figures are of the board
abbrev AllWhole : Sketch → Type 0
AllWhole T = (f : Figure) → Contains T f → length f.squares ≡ 64

-- figures like one, on the same squares
same-figure : (e f g : Figure) → IsLike e f → IsLike e g → f.squares ≡ g.squares → f ≡ g
same-figure e f g a b squares = λ i. record {
  colour = (sym a.colour ∙ b.colour) i;
  kinds = (sym a.kinds ∙ b.kinds) i;
  squares = squares i;
  marked = (sym a.marked ∙ b.marked) i;
  place = (sym a.place ∙ b.place) i;
}

like-same : (S T U : Sketch) → AreLike S T → AreLike S U → AreWider T U → AreWider U T → AllWhole T → AllWhole U → T ≡ U
like-same [] [] [] a b up down wt wu = refl
like-same [] [] (g ∷ U) a b up down wt wu = absurd b
like-same [] (f ∷ T) U a b up down wt wu = absurd a
like-same (e ∷ S) [] U a b up down wt wu = absurd a
like-same (e ∷ S) (f ∷ T) [] a b up down wt wu = absurd b
like-same (e ∷ S) (f ∷ T) (g ∷ U) a b up down wt wu =
    let squares : f.squares ≡ g.squares = same-set f.squares g.squares (wt f (contains-first f T)) (wu g (contains-first g U)) up.0.squares down.0.squares in
    ap (λ (x : Figure). x ∷ T) (same-figure e f g a.0 b.0 squares)
    ∙ ap (λ (l : Sketch). g ∷ l) (like-same S T U a.1 b.1 up.1 down.1 (λ x there. wt x (contains-later f T x there)) (λ x there. wu x (contains-later g U x there)))

pub least-one : (held : Rights) (exact : List Bool) (S T U : Sketch) → list_any is_nowhere S ≡ false → IsLeastAbove held exact S T → IsLeastAbove held exact S U → T ≡ U
least-one held exact S T U somewhere t u =
    like-same S T U t.closed.like u.closed.like (t.least somewhere U u.closed).wider (u.least somewhere T t.closed).wider t.whole u.whole
