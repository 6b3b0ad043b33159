-- Each line has one text.
use Rattle.std.proofs.Common.{◌≡◌, ℕ, ◌≤◌, List, Some, ap, ◌∙◌}
use Rattle.std.specs.Prelude.{◌↔◌, IsTrue}
use Rattle.sketch_text.specs.Heads.{Head, head_line, head_text, is_head}
use Rattle.sketch_text.specs.Marks.{Marks, is_mark, mark_line, mark_text}
use Rattle.sketch_text.specs.Nodes.{is_node, node_of, node_text}
use Rattle.sketch_text.specs.declared.nodes.SketchNode.{SketchNode}
use Rattle.sketch_text.proofs.HeadTexts.{head_read, head_stands}
use Rattle.sketch_text.proofs.MarkTexts.{mark_read, mark_stands}
use Rattle.sketch_text.proofs.NodeTexts.{node_read, node_stands}

pub head_law : (text : List ℕ) (h : Head) → head_line text ≡ Some h ↔ (IsTrue (is_head h) × (text ≡ head_text h))
head_law text h = (λ e. let is = head_read text h e in (is.known, is.text_is), λ p. ap head_line p.1 ∙ head_stands h p.0)

pub node_law : (P : ℕ) (text : List ℕ) (n : SketchNode) → P ≤ 64 → node_of P text ≡ Some n ↔ (IsTrue (is_node P n) × (text ≡ node_text n))
node_law P text n few = (λ e. let is = node_read P text n e in (is.known, is.text_is), λ p. ap (node_of P) p.1 ∙ node_stands P n few p.0)

pub marks_law : (P : ℕ) (text : List ℕ) (m : Marks) → P ≤ 64 → mark_line P text ≡ Some m ↔ (IsTrue (is_mark P m) × (text ≡ mark_text m))
marks_law P text m few = (λ e. let is = mark_read P text m e in (is.known, is.text_is), λ p. ap (mark_line P) p.1 ∙ mark_stands P m few p.0)
