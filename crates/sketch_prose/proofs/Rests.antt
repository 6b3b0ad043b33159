-- The end of a node behind its marks.
use Rattle.std.proofs.Common.{◌≡◌, ℕ, Bool, List, [], ◌∷◌, ap, sym, ◌∙◌, subst}
use Rattle.std.specs.Prelude.{Option}
use Rattle.figures.specs.Figures.{Sketch}
use Rattle.sketch_checker.proofs.Going.{marked-able}
use Rattle.sketch_checker.specs.Able.{IsAble}
use Rattle.sketch_grounds.specs.FrozenSets.{greatest_frozen}
use Rattle.sketch_proof.specs.Nodes.{marked_with}
use Rattle.sketch_proof.proofs.Whole.{lines-whole}
use Rattle.sketch_proof.specs.Proofs.{Ends, Setting, with_lines}
use Rattle.sketch_prose.specs.Levels.{EndsTold, IsFit, Level}
use Rattle.sketch_words.specs.Phrases.{Spot}
use Rattle.sketch_prose.specs.Telling.{known_with, spot_below}
use Rattle.sketch_text.specs.Marks.{Marks}
use Rattle.sketch_text.specs.Trees.{Reason}
use Rattle.sketch_text.specs.declared.labels.Label.{Label}

lines-able : (o : List Bool) (ms : List Marks) (S : Sketch) → IsAble o S → IsAble o (with_lines ms S)
lines-able o [] S able = able
lines-able o (m ∷ ms) S able = lines-able o ms (marked_with m.figures S) (marked-able o m.figures S able)

lines-fit : (o : List Bool) (ms : List Marks) (S : Sketch) → IsFit o S → IsFit o (with_lines ms S)
lines-fit o ms S fit = record { able = lines-able o ms S fit.able; whole = lines-whole ms S fit.whole }

pub ends-there : (g : Setting) (D : Sketch) (ms : List Marks) (r : Reason) (S last : Sketch) (label : Label) (at : Spot) (n : ℕ) (known : List Bool) (spot : Spot) (below : Option Level) (o p : List ℕ) → last ≡ with_lines ms S → known ≡ greatest_frozen g.held last → spot ≡ spot_below label at n known → IsFit g.odds S → Ends r g (with_lines ms S) → (Ends r g last → IsFit g.odds last → EndsTold r g D spot last below o p) → EndsTold r g D (spot_below label at n (known_with g ms S)) (with_lines ms S) below o p
ends-there g D ms r S last label at n known spot below o p same known_is spot_is fit holds told =
    let there : EndsTold r g D spot last below o p = told (subst (λ (T : Sketch). Ends r g T) (sym same) holds) (subst (λ (T : Sketch). IsFit g.odds T) (sym same) (lines-fit g.odds ms S fit)) in
    let spots : spot ≡ spot_below label at n (known_with g ms S) = spot_is ∙ ap (λ (l : List Bool). spot_below label at n l) (known_is ∙ ap (λ (T : Sketch). greatest_frozen g.held T) same) in
    subst (λ (T : Sketch). EndsTold r g D (spot_below label at n (known_with g ms S)) T below o p) same (subst (λ (x : Spot). EndsTold r g D x last below o p) spots there)
