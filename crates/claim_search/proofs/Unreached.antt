-- A query that rule lines refute at some depth is reached by no game.
use Rattle.std.proofs.Common.{ℕ, zero, suc, ◌≤◌, ◌<◌, inl, inr, List, [], ◌∷◌, ◌++◌, length, ap, sym, subst, arith, length-append}
use Rattle.std.specs.List.{Contains}
use Rattle.board_base.specs.declared.moves.Move.{Move}
use Rattle.board_base.specs.declared.unmoves.Unmove.{Unmove}
use Rattle.general_lemmas.proofs.Lists.{by_last}
use Rattle.query_base.specs.Asked.{Asked}
use Rattle.query_base.specs.Ancestors.{IsCovered}
use Rattle.query_base.specs.Reach.{Reaches}
use Rattle.query_base.specs.Targets.{Covers}
use Rattle.query_base.proofs.Covering.{reached}
use Rattle.static_rules.proofs.Unreached.{unreached}
use Rattle.unmove_gen.specs.Listed.{unmoves}
use Rattle.unmove_gen.specs.Predecessor.{predecessor, unmove_after}
use Rattle.unmove_gen.proofs.Taken.{listed_after, reached_after}
use Rattle.retro_search.specs.Refutable.{IsRefutable, IsShut}

-- no game of at most n moves reaches the query
abbrev Safe : ℕ → Asked → Type 0
Safe n q = (g : List Move) → length g ≤ n → Reaches g q → ⊥

-- nor any of these
abbrev AllSafe : ℕ → List Asked → Type 0
AllSafe n [] = Unit {0}
AllSafe n (q ∷ qs) = Safe n q × AllSafe n qs

sooner : (n : ℕ) (qs : List Asked) → AllSafe (suc n) qs → AllSafe n qs
sooner n [] safe = tt
sooner n (q ∷ qs) safe = (λ g short. safe.0 g (omega arith), sooner n qs safe.1)

-- what one of them covers is reached by no such game
covered-safe : (n : ℕ) (qs : List Asked) (q : Asked) → AllSafe n qs → IsCovered q qs → Safe n q
covered-safe n [] q safe covered = absurd (omega (arith, covered.2))
covered-safe n (a ∷ rest) q safe (zero, x, inside, e, c) = λ g short reaches. safe.0 g short (reached a q g (subst (λ (p : Asked). Covers p q) (sym e) c) reaches)
covered-safe n (a ∷ rest) q safe (suc k, x, inside, e, c) = covered-safe n rest q safe.1 (k, x, omega arith, e, c)

-- nor is what is shut
shut-safe : (n : ℕ) (q : Asked) (ancestors : List Asked) → AllSafe n ancestors → IsShut q ancestors → Safe n q
shut-safe n q ancestors safe (inl closed) = λ g short reaches. unreached q closed.0 closed.1 g reaches
shut-safe n q ancestors safe (inr covered) = covered-safe n ancestors q safe covered

-- a game without moves reaches the query, or one with a last move: then the moves before it reach the predecessor by a listed unmove
by_game : (n : ℕ) (q : Asked) → (Reaches [] q → ⊥) → ((g : List Move) (u : Unmove) → length g < n → Contains (unmoves q) u → Reaches g (predecessor q u) → ⊥) → Safe n q
by_game n q elsewhere before g short reaches = elim (by_last g) [
  | inl none-made ↦ elsewhere (subst (λ (h : List Move). Reaches h q) none-made reaches)
  | inr (h, m, e) ↦
      let whole : Reaches (h ++ m ∷ []) q = subst (λ (k : List Move). Reaches k q) e reaches in
      before h (unmove_after q.odds h m) (omega (arith, ap length e, length-append h (m ∷ []))) (listed_after h m q whole) (reached_after h m q whole)
]

-- no game of at most n moves reaches what is refutable below ancestors that none reaches
safe : (n depth : ℕ) (q : Asked) (ancestors : List Asked) → IsRefutable q depth ancestors → AllSafe n ancestors → Safe n q
safe n zero q ancestors shut all = shut-safe n q ancestors all shut
safe zero (suc depth) q ancestors h all = elim h [
  | inl shut ↦ shut-safe zero q ancestors all shut
  | inr below ↦ by_game zero q below.0 (λ g u short. absurd (omega arith))
]
safe (suc n) (suc depth) q ancestors h all =
    let same : Safe n q = safe n (suc depth) q ancestors h (sooner n ancestors all) in
    elim h [
      | inl shut ↦ shut-safe (suc n) q ancestors all shut
      | inr below ↦
          by_game (suc n) q below.0 (λ g u short listed. safe n depth (predecessor q u) (q ∷ ancestors) (below.1 u listed) (same, sooner n ancestors all) g (omega arith))
    ]

-- no game, of any length, reaches what is refutable
pub refutable-unreached : (depth : ℕ) (q : Asked) → IsRefutable q depth [] → (g : List Move) → Reaches g q → ⊥
refutable-unreached depth q h g = safe (length g) depth q [] h tt g (omega arith)
