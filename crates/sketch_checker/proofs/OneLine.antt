-- The walk over lines goes on in one way.
use Rattle.std.proofs.Common.{◌≡◌, ℕ, zero, suc, ◌+◌, ◌-◌, inl, inr, List, [], ◌∷◌, map, ap, sym, ◌∙◌, subst}
use Rattle.std.specs.Prelude.{Option, Some, None}
use Rattle.figures.specs.Figures.{Sketch}
use Rattle.sketch_proof.specs.Basis.{IsClosedAt}
use Rattle.sketch_proof.specs.Listed.{earlier}
use Rattle.sketch_proof.specs.Nodes.{IsVoid, marked_with}
use Rattle.sketch_text.specs.Trees.{Line, of_marks, of_node}
use Rattle.sketch_text.specs.declared.labels.Officer.TheVariants.{Knight}
use Rattle.sketch_text.specs.declared.nodes.End.{End}
use Rattle.sketch_text.specs.declared.nodes.End.TheVariants.{Void, Closed, Steps, Split}
use Rattle.sketch_text.specs.declared.nodes.SketchNode.{SketchNode}
use Rattle.sketch_proof.specs.Proofs.{AreForced, AtLine, Setting}
use Rattle.sketch_checker.specs.DueNodes.{Due, cases_from, due_of}
use Rattle.sketch_checker.specs.LineWalk.{OnEnd, OnLine, OnNode, OnOpened, OnStep, StopsUnless, Walking, WalksOn, ended, going, stopped}
use Rattle.sketch_checker.specs.TreeWalk.{Wrong, stray, unsupported}
use Rattle.sketch_checker.specs.Walks.{Frame, Opened}
use Rattle.sketch_checker.proofs.Below.{first-one}
use Rattle.sketch_checker.proofs.Completing.{frame, opened}
use Rattle.sketch_checker.proofs.OneWalk.{before-one}

stops-one : (P : Type 0) (n : ℕ) (w : Wrong) (a b : Walking) (A B : Type 0) → (A → B → a ≡ b) → StopsUnless P n w a A → StopsUnless P n w b B → a ≡ b
stops-one P n w a b A B rest (inl x) (inl y) = x.1 ∙ sym y.1
stops-one P n w a b A B rest (inl x) (inr y) = absurd (x.0 y.0)
stops-one P n w a b A B rest (inr x) (inl y) = absurd (y.0 x.0)
stops-one P n w a b A B rest (inr x) (inr y) = rest x.1 y.1

end-one : (e : End) (g : Setting) (S : Sketch) (top : ℕ) (fs : List Frame) (a b : Walking) → OnEnd e g S top fs a → OnEnd e g S top fs b → a ≡ b
end-one Void g S top fs a b x y = stops-one (IsVoid g.odds g.held S) top unsupported a b (a ≡ ended fs) (b ≡ ended fs) (λ p q. p ∙ sym q) x y
end-one (Closed k) g S top fs a b x y = stops-one (AtLine g k (λ p. IsClosedAt g.odds g.held S p)) top unsupported a b (a ≡ ended fs) (b ≡ ended fs) (λ p q. p ∙ sym q) x y
end-one (Steps m) g S top fs a b (inl x) (inl y) = x.1 ∙ sym y.1
end-one (Steps m) g S top fs a b (inl x) (inr y) = absurd (x.0 y.0 y.1)
end-one (Steps m) g S top fs a b (inr x) (inl y) = absurd (y.0 x.0 x.1)
end-one (Steps m) g S top fs a b (inr (T, before, x)) (inr (U, behind, y)) =
    x ∙ ap (λ (V : Sketch). ended (frame top m (map due_of (earlier g.odds g.exact V)) ∷ fs)) (before-one g S T U before behind) ∙ sym y
end-one (Split s) g S top fs a b (inl x) (inl y) = x.1 ∙ sym y.1
end-one (Split s) g S top fs a b (inl x) (inr y) = absurd (x.0 y.0 y.1.there)
end-one (Split s) g S top fs a b (inr x) (inl y) = absurd (y.0 x.0 x.1.there)
end-one (Split s) g S top fs a b (inr (i, first, x)) (inr (j, second, y)) =
    x ∙ ap (λ (n : ℕ). ended (frame top 3 (cases_from Knight n S) ∷ fs)) (first-one S s i j first second) ∙ sym y

opened-one : (c : ℕ) (g : Setting) (o : Opened) (fs : List Frame) (a b : Walking) → OnOpened c g o fs a → OnOpened c g o fs b → a ≡ b
opened-one zero g o fs a b x y = end-one o.end g o.sketch o.line fs a b x y
opened-one (suc c) g o fs a b x y = x ∙ sym y

node-one : (ds : List Due) (g : Setting) (f : Frame) (fs : List Frame) (n : ℕ) (x : SketchNode) (a b : Walking) → OnNode ds g f fs n x a → OnNode ds g f fs n x b → a ≡ b
node-one [] g f fs n x a b p q = p ∙ sym q
node-one (d ∷ ds) g f fs n x a b p q =
    let o : Opened = opened n x.marks x.end d.sketch in
    let below : List Frame = frame f.line (f.announced - 1) ds ∷ fs in
    stops-one (x.label ≡ d.label) n stray a b (OnOpened x.marks g o below a) (OnOpened x.marks g o below b) (opened-one x.marks g o below a b) p q

pub line-one : (g : Setting) (o : Option Opened) (fs : List Frame) (n : ℕ) (l : Line) (a b : Walking) → OnLine g o fs n l a → OnLine g o fs n l b → a ≡ b
line-one g (Some o) fs n (of_marks m) a b p q =
    let next : Opened = opened o.line (o.marks - 1) o.end (marked_with m.figures o.sketch) in
    stops-one (AreForced g o.sketch m) n unsupported a b (OnOpened (o.marks - 1) g next fs a) (OnOpened (o.marks - 1) g next fs b) (opened-one (o.marks - 1) g next fs a b) p q
line-one g (Some o) fs n (of_node x) a b p q = p ∙ sym q
line-one g None [] n l a b p q = p ∙ sym q
line-one g None (f ∷ fs) n (of_node x) a b p q = node-one f.due g f fs n x a b p q
line-one g None (f ∷ fs) n (of_marks m) a b p q = p ∙ sym q

pub step-one : (g : Setting) (w : Walking) (n : ℕ) (l : Line) (a b : Walking) → OnStep g w n l a → OnStep g w n l b → a ≡ b
step-one g (going o fs) n l a b p q = line-one g o fs n l a b p q
step-one g (stopped m w) n l a b p q = p ∙ sym q

pub walk-one : (g : Setting) (ls : List Line) (w : Walking) (n : ℕ) (a b : Walking) → WalksOn g w n ls a → WalksOn g w n ls b → a ≡ b
walk-one g [] w n a b p q = p ∙ sym q
walk-one g (l ∷ ls) w n a b (u, on, rest) (v, go, more) =
    walk-one g ls v (n + 1) a b (subst (λ (k : Walking). WalksOn g k (n + 1) ls a) (step-one g w n l u v on go) rest) more
