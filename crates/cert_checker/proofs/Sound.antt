-- A query that a tree proves is reached by no game.
use Rattle.std.proofs.Common.{ℕ, zero, suc, ◌≤◌, ◌<◌, inl, inr, List, [], ◌∷◌, ◌++◌, length, ap, subst, arith, length-append}
use Rattle.std.specs.Prelude.{IsSomeAnd, slice_get}
use Rattle.std.specs.List.{Contains}
use Rattle.board_base.specs.declared.moves.Move.{Move}
use Rattle.board_base.specs.declared.unmoves.Unmove.{Unmove}
use Rattle.query_base.specs.Asked.{Asked}
use Rattle.query_base.specs.Reach.{Reaches}
use Rattle.query_base.specs.Targets.{Covers}
use Rattle.query_base.specs.Ancestors.{ancestor}
use Rattle.query_base.proofs.Covering.{reached}
use Rattle.static_rules.proofs.Unreached.{unreached}
use Rattle.balance_rule.proofs.Sound.{balance-unreached}
use Rattle.cert_checker.specs.Reasons.{ReasonSupports}
use Rattle.cert_text.specs.declared.reasons.Reason.{Reason}
use Rattle.cert_text.specs.declared.reasons.Reason.TheVariants.{Line, Balance}
use Rattle.sketch_body.specs.Bodies.{Body}
use Rattle.sketch_checker.proofs.Supporting.{body-unreached}
use Rattle.unmove_gen.specs.Listed.{unmoves}
use Rattle.unmove_gen.specs.Predecessor.{predecessor, unmove_after}
use Rattle.unmove_gen.proofs.Taken.{listed_after, reached_after}
use Rattle.cert_text.specs.Tree.{Tree, Forest, rule, back, expand, sketch, none, more}
use Rattle.cert_checker.specs.Proving.{Proves, ProvesEach}
use Rattle.cert_checker.specs.Sketches.{IsSketchOf, files_of}
use Rattle.general_lemmas.proofs.Lists.{by_last, contains-cases, contains-none}

-- no game of at most n moves reaches the query
abbrev Safe : ℕ → Asked → Type 0
Safe n q = (g : List Move) → length g ≤ n → Reaches g q → ⊥

abbrev AllSafe : ℕ → List Asked → Type 0
AllSafe n [] = Unit {0}
AllSafe n (q ∷ qs) = Safe n q × AllSafe n qs

sooner : (n : ℕ) (qs : List Asked) → AllSafe (suc n) qs → AllSafe n qs
sooner n [] safe = tt
sooner n (q ∷ qs) safe = (λ g short. safe.0 g (omega arith), sooner n qs safe.1)

at_safe : (n : ℕ) (qs : List Asked) (k : ℕ) (P : Asked → Type 0) → AllSafe n qs → IsSomeAnd (slice_get qs k) P → (a : Asked) × Safe n a × P a
at_safe n [] k P safe h = absurd h
at_safe n (q ∷ qs) zero P safe h = (q, safe.0, h)
at_safe n (q ∷ qs) (suc k) P safe h = at_safe n qs k P safe.1 h

ancestor_safe : (n : ℕ) (qs : List Asked) (k : ℕ) (P : Asked → Type 0) → AllSafe n qs → IsSomeAnd (ancestor qs k) P → (a : Asked) × Safe n a × P a
ancestor_safe n qs zero P safe h = absurd h
ancestor_safe n qs (suc k) P safe h = at_safe n qs k P safe h

-- the child of a listed unmove
kid_proves : (kids : Forest) (q : Asked) (us : List Unmove) (ancestors : List Asked) (u : Unmove) → ProvesEach kids q us ancestors → Contains us u → (t : Tree) × Proves t (predecessor q u) (q ∷ ancestors)
kid_proves none q us ancestors u p there = absurd (contains-none u (subst (λ (l : List Unmove). Contains l u) p there))
kid_proves (more label tree rest) q us ancestors u p there = elim (contains-cases label p.0 u (subst (λ (l : List Unmove). Contains l u) p.1 there)) [
  | inl same ↦ (tree, subst (λ (v : Unmove). Proves tree (predecessor q v) (q ∷ ancestors)) same p.2)
  | inr later ↦ kid_proves rest q p.0 ancestors u p.3 later
]

-- a game without moves reaches the query, or one with a last move: then the moves before it reach the predecessor by a listed unmove
by_game : (n : ℕ) (q : Asked) → (Reaches [] q → ⊥) → ((g : List Move) (u : Unmove) → length g < n → Contains (unmoves q) u → Reaches g (predecessor q u) → ⊥) → Safe n q
by_game n q elsewhere before g short reaches = elim (by_last g) [
  | inl none-made ↦ elsewhere (subst (λ (h : List Move). Reaches h q) none-made reaches)
  | inr (h, m, e) ↦
      let whole : Reaches (h ++ m ∷ []) q = subst (λ (k : List Move). Reaches k q) e reaches in
      before h (unmove_after q.odds h m) (omega (arith, ap length e, length-append h (m ∷ []))) (listed_after h m q whole) (reached_after h m q whole)
]

-- no game reaches what a reason supports
reason_unreached : (q : Asked) (r : Reason) → ReasonSupports q r → (g : List Move) → Reaches g q → ⊥
reason_unreached q (Line r) p g = unreached q r p g
reason_unreached q (Balance set d) p g = balance-unreached q set d p g

-- no game reaches what a sketch supports
sketch_unreached : (b : Body) (q : Asked) → IsSketchOf b q → (g : List Move) → Reaches g q → ⊥
sketch_unreached b q p g = body-unreached q (files_of b.files) b.prices b.lines p g

-- no game of at most n moves reaches what is proved below ancestors that none reaches
safe : (n : ℕ) (t : Tree) (q : Asked) (ancestors : List Asked) → Proves t q ancestors → AllSafe n ancestors → Safe n q
safe n (rule r) q ancestors p all = λ g short. reason_unreached q r p g
safe n (back k) q ancestors p all = λ g short reaches.
    let a = ancestor_safe n ancestors k (λ b. Covers b q) all p in a.1 g short (reached a.0 q g a.2 reaches)
safe n (sketch b) q ancestors p all = λ g short. sketch_unreached b q p g
safe zero (expand kids) q ancestors p all = by_game zero q p.0 (λ g u short. absurd (omega arith))
safe (suc n) (expand kids) q ancestors p all =
    let same : Safe n q = safe n (expand kids) q ancestors p (sooner n ancestors all) in
    by_game (suc n) q p.0 (λ g u short listed.
    let kid = kid_proves kids q (unmoves q) ancestors u p.1 listed in
    safe n kid.0 (predecessor q u) (q ∷ ancestors) kid.1 (same, sooner n ancestors all) g (omega arith))

-- a query that a tree proves is reached by no game, of any length
pub sound : (t : Tree) (q : Asked) → Proves t q [] → (g : List Move) → Reaches g q → ⊥
sound t q p g = safe (length g) t q [] p tt g (omega arith)
