-- What holds refutes.
use Rattle.std.proofs.Common.{◌≡◌, ℕ, inl, inr, true, List, [], ◌∷◌, subst}
use Rattle.std.proofs.lemmas.List.Elements.{All-weaker}
use Rattle.std.proofs.lemmas.Option.{get_or_from_slice_get, slice_get_within}
use Rattle.std.specs.Prelude.{Some, slice_get}
use Rattle.std.specs.List.{Contains}
use Rattle.general_lemmas.proofs.Lists.{contains-cases, contains-first, contains-later, contains-none}
use Rattle.board_base.specs.declared.men.Kind.TheVariants.{Knight, Rook, Queen}
use Rattle.capture_prices.specs.Prices.{PriceList, are_prices}
use Rattle.sketch_node.specs.Figures.{Sketch}
use Rattle.sketch_node.specs.Known.{known_at}
use Rattle.sketch_node.specs.Listed.{Earlier, earlier}
use Rattle.sketch_node.specs.Nodes.{HasTree, IsMarkable, marked_with}
use Rattle.sketch_node.proofs.Several.{IsForcedFor, marks-refute}
use Rattle.sketch_node.proofs.Trees.{cases-refute, closes-refutes, steps-refute}
use Rattle.sketch_text.specs.Marks.{Marks}
use Rattle.sketch_text.specs.declared.labels.Label.{Label}
use Rattle.sketch_text.specs.declared.labels.Label.TheVariants.{Case}
use Rattle.sketch_text.specs.declared.labels.Officer.TheVariants as officer
use Rattle.sketch_proof.specs.Labelled.{label_for}
use Rattle.sketch_text.specs.Trees.{Node, Nodes, Reason, closed, more, node, none, split, steps, void}
use Rattle.sketch_proof.specs.Proofs.{AreAllForced, AreForced, Ends, HoldEach, Holds, Setting, with_lines}
use Rattle.sketch_proof.proofs.Standing.{closed-closes, markable-forces, void-closes}
use Rattle.sketch_proof.proofs.Whole.{AreWhole, earlier-whole, known-whole, lines-whole, marked-whole}

-- each line of prices is one of prices
abbrev pub AreKnown : Setting → Type 0
AreKnown g = (p : PriceList) → Contains g.prices p → are_prices p ≡ true

line-known : (g : Setting) (i : ℕ) (p : PriceList) → AreKnown g → slice_get g.prices i ≡ Some p → are_prices p ≡ true
line-known g i p known there = known p (i, slice_get_within g.prices i p there, get_or_from_slice_get g.prices i p p there)

line-refutes : (g : Setting) (S : Sketch) (m : Marks) → AreKnown g → AreWhole S → AreForced g S m → HasTree g.odds g.held g.exact (marked_with m.figures S) → HasTree g.odds g.held g.exact S
line-refutes g S m known whole it tree =
    marks-refute g.odds g.held g.exact S m.figures
    (All-weaker (IsMarkable g.odds g.held it.prices S) (IsForcedFor g.odds g.held S) (λ n is. (is.index, is.from_one, markable-forces g.odds g.held S it.prices n whole (line-known g it.index it.prices known it.there) is)) m.figures it.so)
    tree

lines-refute : (g : Setting) (marks : List Marks) (S : Sketch) → AreKnown g → AreWhole S → AreAllForced g marks S → HasTree g.odds g.held g.exact (with_lines marks S) → HasTree g.odds g.held g.exact S
lines-refute g [] S known whole it tree = tree
lines-refute g (m ∷ marks) S known whole it tree =
    line-refutes g S m known whole it.0 (lines-refute g marks (marked_with m.figures S) known (marked-whole m.figures S whole) it.1 tree)

mutual
  -- a node that holds refutes
  pub node-refutes : (n : Node) (g : Setting) (due : Label) (S : Sketch) → AreKnown g → AreWhole S → Holds n g due S → HasTree g.odds g.held g.exact S
  node-refutes (node label marks reason) g due S known whole it = lines-refute g marks S known whole it.1 (reason-refutes reason g (with_lines marks S) known (lines-whole marks S whole) it.2)

  reason-refutes : (r : Reason) (g : Setting) (S : Sketch) → AreKnown g → AreWhole S → Ends r g S → HasTree g.odds g.held g.exact S
  reason-refutes void g S known whole it = closes-refutes g.odds g.held g.exact S (void-closes g.odds g.held S it)
  reason-refutes (closed k) g S known whole it = closes-refutes g.odds g.held g.exact S (closed-closes g.odds g.held S it.prices whole (line-known g it.index it.prices known it.there) it.so)
  reason-refutes (steps ns) g S known whole it =
      steps-refute g.odds g.held g.exact S it.0 it.1 it.2 (nodes-refute ns g (earlier g.odds g.exact it.0) known (earlier-whole g.odds g.exact it.0) it.3)
  reason-refutes (split s knight rook queen) g S known whole it =
      cases-refute g.odds g.held g.exact S s it.0 it.1
      (node-refutes knight g (Case officer.Knight) (known_at it.0 Knight S) known (known-whole it.0 Knight S whole) it.2)
      (node-refutes rook g (Case officer.Rook) (known_at it.0 Rook S) known (known-whole it.0 Rook S whole) it.3)
      (node-refutes queen g (Case officer.Queen) (known_at it.0 Queen S) known (known-whole it.0 Queen S whole) it.4)

  nodes-refute : (ns : Nodes) (g : Setting) (es : List Earlier) → AreKnown g → ((e : Earlier) → Contains es e → AreWhole e.sketch) → HoldEach ns g es → (e : Earlier) → Contains es e → HasTree g.odds g.held g.exact e.sketch
  nodes-refute none g [] known whole it e there = absurd (contains-none e there)
  nodes-refute none g (d ∷ es) known whole it e there = absurd it
  nodes-refute (more n ns) g [] known whole it e there = absurd it
  nodes-refute (more n ns) g (d ∷ es) known whole it e there = elim (contains-cases d es e there) [
    | inl here ↦ subst (λ (x : Earlier). HasTree g.odds g.held g.exact x.sketch) here (node-refutes n g (label_for d.step) d.sketch known (whole d (contains-first d es)) it.0)
    | inr later ↦ nodes-refute ns g es known (λ x in_list. whole x (contains-later d es x in_list)) it.1 e later
  ]
