-- No game reaches a query of which one node of a sketch shows it.
use Rattle.std.proofs.Common.{◌≡◌, inl, inr, List, [], refl, subst, sym}
use Rattle.board_base.specs.declared.moves.Move.{Move}
use Rattle.query_base.specs.Asked.{Asked}
use Rattle.query_base.specs.Reach.{Reaches}
use Rattle.past_sketches.specs.Figures.{sketch_of}
use Rattle.sketch_text.specs.declared.labels.Label.TheVariants.{Now}
use Rattle.sketch_text.specs.declared.nodes.End.{End}
use Rattle.sketch_text.specs.declared.nodes.End.TheVariants.{Void, Steps}
use Rattle.sketch_text.specs.Trees.{Node, lines_of, node, none, steps, void}
use Rattle.cert_text.specs.Tree.{sketch}
use Rattle.general_lemmas.proofs.Lists.{contains-none}
use Rattle.cert_checker.proofs.Sound.{sound}
use Rattle.cert_checker.specs.Sketches.{IsSketchOf}
use Rattle.sketch_search.specs.Plain.{no_files}
use Rattle.sketch_search.specs.Proofs.{HoldEach, Holds, Setting}
use Rattle.sketch_findings.specs.Bodies.{one_body}
use Rattle.sketch_findings.specs.Plain.{HasPlainSketch}

-- what such a node rests on
abbrev plain_setting : Asked → Setting
plain_setting q = record { odds = q.odds; held = q.held; exact = no_files; prices = [] }

one-supports : (q : Asked) (end : End) (tree : Node) → HasPlainSketch q → lines_of tree ≡ (one_body end).lines → Holds tree (plain_setting q) Now (sketch_of q.board) → IsSketchOf (one_body end) q
one-supports q end tree has written holds = (tree, written, record { asked = record { root = has.root; known = λ p inside. absurd (contains-none p inside) }; holds = holds })

-- no game, of any length, reaches it
pub plain-unreached : (q : Asked) → HasPlainSketch q → (game : List Move) → Reaches game q → ⊥
plain-unreached q has = elim has.plain [
  | inl is_void ↦ sound (sketch (one_body Void)) q (one-supports q Void (node Now [] void) has refl (refl, tt, is_void))
  | inr stepless ↦
      let each : HoldEach none (plain_setting q) _ = subst (HoldEach none (plain_setting q)) (sym stepless.none) tt in
      sound (sketch (one_body (Steps 0))) q (one-supports q (Steps 0) (node Now [] (steps none)) has refl (refl, tt, (stepless.wide, stepless.least, stepless.elsewhere, each)))
]
