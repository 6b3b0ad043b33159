-- Each query has a tree.
use Rattle.std.proofs.Common.{◌≡◌, ℕ, zero, suc, ◌+◌, inl, inr, List, [], ◌∷◌, ◌++◌, length, refl, arith}
use Rattle.board_base.specs.Texts.{unmove_text}
use Rattle.board_base.specs.declared.unmoves.Unmove.{Unmove}
use Rattle.query_base.specs.Asked.{Asked}
use Rattle.query_base.specs.Reach.{Reaches}
use Rattle.query_base.specs.Ancestors.{IsCovered}
use Rattle.query_base.proofs.Settled.{array_settled}
use Rattle.query_base.proofs.Nearest.{nearest}
use Rattle.static_rules.specs.Supports.{IsClosed}
use Rattle.static_rules.proofs.Settled.{closed_settled}
use Rattle.unmove_gen.specs.Listed.{unmoves}
use Rattle.unmove_gen.specs.Predecessor.{predecessor}
use Rattle.tree_browser.specs.Trees.{Each, Expands, IsNote, IsTree, line}
use Rattle.tree_browser.specs.declared.notes.Note.{Note}
use Rattle.tree_browser.specs.declared.notes.Note.TheVariants.{Closed, Back, Array, End, Expand}

open-note : (q : Asked) (above : List Asked) (left : ℕ) → (IsClosed q → ⊥) → (IsCovered q above → ⊥) → (Reaches [] q → ⊥) → (note : Note) × IsNote note q above left
open-note q above zero unclosed uncovered elsewhere = (End, (unclosed, uncovered, elsewhere, refl))
open-note q above (suc left) unclosed uncovered elsewhere = (Expand (length (unmoves q)), (unclosed, uncovered, elsewhere, omega arith, refl))

some-note : (q : Asked) (above : List Asked) (left : ℕ) → (note : Note) × IsNote note q above left
some-note q above left = elim (closed_settled q) [
  | inl closed ↦ (Closed, closed)
  | inr unclosed ↦ elim (nearest q above) [
    | inl back ↦ (Back back.0, (unclosed, back.1))
    | inr uncovered ↦ elim (array_settled q) [
      | inl here ↦ (Array, (unclosed, uncovered, here))
      | inr elsewhere ↦ open-note q above left unclosed uncovered elsewhere
    ]
  ]
]

some-each : (R : Unmove → ℕ → List ℕ → Type 0) → ((u : Unmove) → (n : ℕ) × (text : List ℕ) × R u n text) → (us : List Unmove) → (n : ℕ) × (text : List ℕ) × Each R us n text
some-each R some [] = (0, [], (refl, refl))
some-each R some (u ∷ us) =
    let first = some u in
    let rest = some-each R some us in
    (first.0 + rest.0, first.1 ++ rest.1, (first.0, rest.0, first.1, rest.1, first.2, rest.2, refl, refl))

some-below : (R : Unmove → ℕ → List ℕ → Type 0) → ((u : Unmove) → (n : ℕ) × (text : List ℕ) × R u n text) → (us : List Unmove) (note : Note) → (n : ℕ) × (text : List ℕ) × Expands note (Each R us n text) ((n ≡ 0) × (text ≡ []))
some-below R some us Closed = (0, [], (refl, refl))
some-below R some us (Back k) = (0, [], (refl, refl))
some-below R some us Array = (0, [], (refl, refl))
some-below R some us End = (0, [], (refl, refl))
some-below R some us (Expand k) = some-each R some us

pub some-tree : (left : ℕ) (q : Asked) (above : List Asked) (label : List ℕ) → (n : ℕ) × (text : List ℕ) × IsTree left q above label n text
some-tree zero q above label =
    let note = some-note q above 0 in
    (1, line (length above) label note.0, (note.0, note.1, refl, refl))
some-tree (suc left) q above label =
    let note = some-note q above (suc left) in
    let rest = some-below (λ u. IsTree left (predecessor q u) (q ∷ above) (unmove_text u)) (λ u. some-tree left (predecessor q u) (q ∷ above) (unmove_text u)) (unmoves q) note.0 in
    (suc rest.0, line (length above) label note.0 ++ rest.1, (note.0, rest.0, rest.1, note.1, rest.2, refl, refl))
