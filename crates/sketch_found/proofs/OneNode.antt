-- The proof of one node that says that a sketch is void, or that none of its steps was sound.
use Rattle.std.proofs.Common.{ℕ, zero, suc, ◌≡◌, Bool, true, true≢false, inl, inr, List, [], ◌∷◌, length, map, refl, ap, sym, subst, arith}
use Rattle.std.specs.Prelude.{◌⊎◌, Option, None, Some, IfOk, IfSome, IsSome, MatchOption, Result, Ok, Err}
use Rattle.std.specs.List.{list_all}
use Rattle.std.proofs.lemmas.Bool.{le-leb}
use Rattle.board_base.specs.Rights.{Rights}
use Rattle.query_base.specs.Asked.{Asked}
use Rattle.past_sketches.specs.Figures.{Sketch, sketch_of}
use Rattle.sketch_checker.specs.Listed.{Earlier, earlier}
use Rattle.sketch_checker.specs.Nodes.{IsLeastAbove, IsVoid}
use Rattle.sketch_text.specs.declared.labels.Label.TheVariants.{Now}
use Rattle.sketch_text.specs.declared.nodes.End.{End}
use Rattle.sketch_text.specs.declared.nodes.End.TheVariants.{Void, Closed, Steps, Split}
use Rattle.sketch_text.specs.Trees.{node, none, steps, void}
use Rattle.sketch_checker.specs.Proofs.{HoldEach, Proves, Setting}
use Rattle.sketch_checker.specs.Seen.{line_of}
use Rattle.sketch_checker.specs.SketchLine.{SketchLine}
use Rattle.sketch_found.specs.Found.{IsProofOf, IsWithin, is_line}
use Rattle.sketch_found.specs.Ends.{EndsPlainly}
use Rattle.sketch_found.specs.Plain.{IsOneNode, IsPlainNode, IsStepless, no_files, node_line}
use Rattle.sketch_found.specs.declared.found.FoundSketch.{FoundSketch}

void-proves : (g : Setting) (S : Sketch) → IsVoid g.odds g.held S → Proves g S (map line_of (node_line Void ∷ []))
void-proves g S is_void = record { tree = node Now [] void; written = refl; holds = (refl, tt, is_void); low = omega arith }

void-proof : (q : Asked) (f : FoundSketch) → IsOneNode Void f → IsVoid q.odds q.held (sketch_of q.board) → IsProofOf q f
void-proof q f one is_void =
    let g : Setting = record { odds = q.odds; held = q.held; exact = f.exact; prices = f.prices.items } in
    subst (λ (ls : List SketchLine). Proves g (sketch_of q.board) (map line_of ls)) (sym one.lines) (void-proves g (sketch_of q.board) is_void)

none-before : (g : Setting) (es : List Earlier) → es ≡ [] → HoldEach none g es
none-before g es empty = subst (HoldEach none g) (sym empty) tt

steps-prove : (g : Setting) (S : Sketch) → g.exact ≡ no_files → IsStepless g.odds g.held S → Proves g S (map line_of (node_line (Steps 0) ∷ []))
steps-prove g S exact stepless =
    let least : IsLeastAbove g.held g.exact S stepless.wide = subst (λ (e : List Bool). IsLeastAbove g.held e S stepless.wide) (sym exact) stepless.least in
    let empty : earlier g.odds g.exact stepless.wide ≡ [] = subst (λ (e : List Bool). earlier g.odds e stepless.wide ≡ []) (sym exact) stepless.none in
    record { tree = node Now [] (steps none); written = refl; holds = (refl, tt, (stepless.wide, least, stepless.elsewhere, none-before g _ empty)); low = omega arith }

stepless-proof : (q : Asked) (f : FoundSketch) → IsOneNode (Steps 0) f → IsStepless q.odds q.held (sketch_of q.board) → IsProofOf q f
stepless-proof q f one stepless =
    let g : Setting = record { odds = q.odds; held = q.held; exact = f.exact; prices = f.prices.items } in
    subst (λ (ls : List SketchLine). Proves g (sketch_of q.board) (map line_of ls)) (sym one.lines) (steps-prove g (sketch_of q.board) one.exact stepless)

-- such a node is within any limits
one-within : (most : ℕ) (end : End) (f : FoundSketch) → IsOneNode end f → is_line 0 most (line_of (node_line end)) ≡ true → IsWithin most f
one-within most end f one so = record {
  few = let none : length f.prices.items ≡ 0 = ap length one.prices in omega (arith, none);
  lines =
      let here : list_all (λ (l : SketchLine). is_line 0 most (line_of l)) (node_line end ∷ []) ≡ true = rw so in
      subst (λ (n : ℕ). list_all (λ (l : SketchLine). is_line n most (line_of l)) f.lines.items ≡ true) (sym (ap length one.prices))
      (subst (λ (ls : List SketchLine). list_all (λ (l : SketchLine). is_line 0 most (line_of l)) ls ≡ true) (sym one.lines) here);
}

pub plain-proof : (q : Asked) (end : End) (f : FoundSketch) → IsOneNode end f → EndsPlainly end q.odds q.held (sketch_of q.board) → IsProofOf q f
plain-proof q Void f one so = void-proof q f one so
plain-proof q (Closed k) f one so = absurd so
plain-proof q (Steps zero) f one so = stepless-proof q f one so
plain-proof q (Steps (suc m)) f one so = absurd so
plain-proof q (Split s) f one so = absurd so

no-steps-fit : (most : ℕ) → is_line 0 most (line_of (node_line (Steps 0))) ≡ true
no-steps-fit most = le-leb 0 most (omega arith)

pub plain-within : (most : ℕ) (o : List Bool) (held : Rights) (S : Sketch) (end : End) (f : FoundSketch) → IsOneNode end f → EndsPlainly end o held S → IsWithin most f
plain-within most o held S Void f one so = one-within most Void f one refl
plain-within most o held S (Closed k) f one so = absurd so
plain-within most o held S (Steps zero) f one so = one-within most (Steps 0) f one (no-steps-fit most)
plain-within most o held S (Steps (suc m)) f one so = absurd so
plain-within most o held S (Split s) f one so = absurd so

-- what is found, if something is
pub found-node : (end : End) (r : Option FoundSketch) → IfSome r (IsOneNode end) → IsSome r → ((f : FoundSketch) → IsOneNode end f → IsPlainNode f) → MatchOption r ⊥ IsPlainNode
found-node end None one some plain = absurd (true≢false (sym some))
found-node end (Some f) one some plain = plain f one

-- a second search finds what the first didn't
pub found-then : {E : Type 0} (R : Result (Option FoundSketch) E) (Can First Second : Type 0) → (Can → First → ⊥) → IfOk R (λ r. IfSome r (IsOneNode (Steps 0))) → IfOk R (λ r. Can → Second → IsSome r) → IfOk R (λ r. Can → First ⊎ Second → MatchOption r ⊥ IsPlainNode)
found-then {E} (Err e) Can First Second missed one all = tt
found-then {E} (Ok r) Can First Second missed one all = λ can so. elim so [
  | inl first ↦ absurd (missed can first)
  | inr second ↦ found-node (Steps 0) r one (all can second) (λ f h. inr h)
]
