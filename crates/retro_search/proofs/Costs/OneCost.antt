-- Each query has one cost and one memo cost.
use Rattle.std.proofs.Common.{◌≡◌, ℕ, zero, suc, ◌+◌, ◌⊎◌, inl, inr, true, List, [], ◌∷◌, refl, sym, ◌∙◌, subst, arith}
use Rattle.std.specs.List.{Contains}
use Rattle.board_base.specs.declared.unmoves.Unmove.{Unmove}
use Rattle.general_lemmas.proofs.Lists.{contains-cases, contains-first, contains-later, contains-none}
use Rattle.query_base.specs.Asked.{Asked}
use Rattle.query_base.specs.Reach.{Reaches}
use Rattle.query_base.proofs.Exact.{exact, itself}
use Rattle.query_base.proofs.Settled.{array_settled}
use Rattle.static_rules.specs.Supports.{IsClosed}
use Rattle.unmove_gen.specs.Listed.{unmoves}
use Rattle.unmove_gen.specs.Predecessor.{predecessor}
use Rattle.retro_search.specs.Refutable.{IsRefutable, IsShut}
use Rattle.retro_search.specs.Costs.{IsCost, SumsUpTo}
use Rattle.retro_search.specs.Lone.{AreDifferent, AreExpanded, IsMemoCost, StandsIn, unmoves_in_all}
use Rattle.retro_search.proofs.Bound.Different.{sum_within}
use Rattle.retro_search.proofs.Maps.Lookups.{eq}
use Rattle.static_rules.proofs.Settled.{closed_settled}
use Rattle.general_lemmas.proofs.Settling.{Settled, by_test}
use Rattle.retro_search.proofs.Settled.{refutable_settled, shut_settled}

sums_exist : (R : Unmove → ℕ → Type 0) (P : Unmove → Type 0) → ((u : Unmove) → (n : ℕ) × R u n) → ((u : Unmove) → Settled (P u)) → (us : List Unmove) → (n : ℕ) × SumsUpTo R P us n
sums_exist R P each s [] = (0, refl)
sums_exist R P each s (u ∷ us) =
    let a = each u in
    elim (s u) [
      | inr f ↦ (a.0, (a.0, a.1, inl (f, refl)))
      | inl p ↦ let b = sums_exist R P each s us in (a.0 + b.0, (a.0, a.1, inr (p, (b.0, b.1, refl))))
    ]

pub cost_exists : (depth : ℕ) (q : Asked) (ancestors : List Asked) → (n : ℕ) × IsCost q depth ancestors n
cost_exists zero q ancestors = (1, refl)
cost_exists (suc depth) q ancestors = elim (shut_settled q ancestors) [
  | inl shut ↦ (1, inl (inl shut, refl))
  | inr unshut ↦ elim (array_settled q) [
    | inl here ↦ (1, inl (inr here, refl))
    | inr elsewhere ↦
        let s = sums_exist (λ u. IsCost (predecessor q u) depth (q ∷ ancestors)) (λ u. IsRefutable (predecessor q u) depth (q ∷ ancestors)) (λ u. cost_exists depth (predecessor q u) (q ∷ ancestors)) (λ u. refutable_settled depth (predecessor q u) (q ∷ ancestors)) (unmoves q) in
        (1 + s.0, inr (unshut, elsewhere, (s.0, s.1, refl)))
  ]
]

sums_one : (R : Unmove → ℕ → Type 0) (P : Unmove → Type 0) → ((u : Unmove) (a b : ℕ) → R u a → R u b → a ≡ b) → (us : List Unmove) (m n : ℕ) → SumsUpTo R P us m → SumsUpTo R P us n → m ≡ n
sums_one R P one [] m n e f = e ∙ sym f
sums_one R P one (u ∷ us) m n (a, r, inl (fails, e)) (b, s, inl (fails2, f)) = omega (arith, one u a b r s)
sums_one R P one (u ∷ us) m n (a, r, inl (fails, e)) (b, s, inr (passes, more_sums)) = absurd (fails passes)
sums_one R P one (u ∷ us) m n (a, r, inr (passes, more_sums)) (b, s, inl (fails, f)) = absurd (fails passes)
sums_one R P one (u ∷ us) m n (a, r, inr (passes, (c, sums, e))) (b, s, inr (passes2, (d, sums2, f))) =
    omega (arith, one u a b r s, sums_one R P one us c d sums sums2)

pub shut-end : (q : Asked) (ancestors : List Asked) → IsShut q ancestors ⊎ Reaches [] q → (IsShut q ancestors → ⊥) → (Reaches [] q → ⊥) → ⊥
shut-end q ancestors (inl shut) unshut elsewhere = unshut shut
shut-end q ancestors (inr here) unshut elsewhere = elsewhere here

pub cost_one : (depth : ℕ) (q : Asked) (ancestors : List Asked) (m n : ℕ) → IsCost q depth ancestors m → IsCost q depth ancestors n → m ≡ n
cost_one zero q ancestors m n e f = e ∙ sym f
cost_one (suc depth) q ancestors m n (inl (end, e)) (inl (end2, f)) = e ∙ sym f
cost_one (suc depth) q ancestors m n (inl (end, e)) (inr (unshut, elsewhere, below)) = absurd (shut-end q ancestors end unshut elsewhere)
cost_one (suc depth) q ancestors m n (inr (unshut, elsewhere, below)) (inl (end, f)) = absurd (shut-end q ancestors end unshut elsewhere)
cost_one (suc depth) q ancestors m n (inr (unshut, elsewhere, (a, sums, e))) (inr (unshut2, elsewhere2, (b, sums2, f))) =
    let same = sums_one (λ u. IsCost (predecessor q u) depth (q ∷ ancestors)) (λ u. IsRefutable (predecessor q u) depth (q ∷ ancestors)) (λ u x y r s. cost_one depth (predecessor q u) (q ∷ ancestors) x y r s) (unmoves q) a b sums sums2 in
    omega arith

member_settled : (xs : List Asked) (x : Asked) → Settled (Contains xs x)
member_settled [] x = inr (λ there. contains-none x there)
member_settled (y ∷ ys) x = elim (by_test (y ≡ x) (eq y x) (exact y x, λ e. subst (λ (z : Asked). eq y z ≡ true) e (itself y))) [
  | inl e ↦ inl (subst (λ (z : Asked). Contains (y ∷ ys) z) e (contains-first y ys))
  | inr apart ↦ elim (member_settled ys x) [
    | inl there ↦ inl (contains-later y ys x there)
    | inr away ↦ inr (λ there. elim (contains-cases y ys x there) [ inl e ↦ apart e | inr later ↦ away later ])
  ]
]

-- the different members of two lists
record Joins (xs ys zs : List Asked) : Type 0 where
  different : AreDifferent zs
  from_first : (p : Asked) → Contains xs p → Contains zs p
  from_second : (p : Asked) → Contains ys p → Contains zs p
  only : (p : Asked) → Contains zs p → Contains xs p ⊎ Contains ys p

joined : (xs ys : List Asked) → AreDifferent ys → (zs : List Asked) × Joins xs ys zs
joined [] ys different = (ys, record { different = different; from_first = λ p there. absurd (contains-none p there); from_second = λ p there. there; only = λ p there. inr there })
joined (x ∷ xs) ys different =
    let j = joined xs ys different in
    elim (member_settled j.0 x) [
      | inl there ↦ (
        j.0,
        record {
          different = j.1.different;
          from_first = λ p h. elim (contains-cases x xs p h) [ inl e ↦ subst (λ (z : Asked). Contains j.0 z) e there | inr later ↦ j.1.from_first p later ];
          from_second = j.1.from_second;
          only = λ p h. elim (j.1.only p h) [ inl a ↦ inl (contains-later x xs p a) | inr b ↦ inr b ];
        },
      )
      | inr away ↦ (
        x ∷ j.0,
        record {
          different = (away, j.1.different);
          from_first = λ p h. elim (contains-cases x xs p h) [ inl e ↦ subst (λ (z : Asked). Contains (x ∷ j.0) z) e (contains-first x j.0) | inr later ↦ contains-later x j.0 p (j.1.from_first p later) ];
          from_second = λ p h. contains-later x j.0 p (j.1.from_second p h);
          only = λ p h. elim (contains-cases x j.0 p h) [
            | inl e ↦ inl (subst (λ (z : Asked). Contains (x ∷ xs) z) e (contains-first x xs))
            | inr later ↦ elim (j.1.only p later) [ inl a ↦ inl (contains-later x xs p a) | inr b ↦ inr b ]
          ];
        },
      )
    ]

-- the different queries of the trees of some predecessors
record Gathers (ps : List Asked) (q : Asked) (us : List Unmove) (depth : ℕ) : Type 0 where
  different : AreDifferent ps
  stands : (p : Asked) → Contains ps p → (u : Unmove) × Contains us u × StandsIn p (predecessor q u) depth
  open_ : (p : Asked) → Contains ps p → IsClosed p → ⊥
  all : (p : Asked) (u : Unmove) → Contains us u → StandsIn p (predecessor q u) depth → (IsClosed p → ⊥) → Contains ps p

gathered : (q : Asked) (us : List Unmove) (depth : ℕ) → ((u : Unmove) → (ps : List Asked) × AreExpanded ps (predecessor q u) depth) → (ps : List Asked) × Gathers ps q us depth
gathered q [] depth each = ([], record { different = tt; stands = λ p there. absurd (contains-none p there); open_ = λ p there. absurd (contains-none p there); all = λ p u there. absurd (contains-none u there) })
gathered q (u ∷ us) depth each =
    let a = each u in
    let g = gathered q us depth each in
    let j = joined a.0 g.0 g.1.different in (
      j.0,
      record {
        different = j.1.different;
        stands = λ p h. elim (j.1.only p h) [
          | inl mine ↦ (u, contains-first u us, ((a.1.each p).0 mine).0)
          | inr other ↦ let s = g.1.stands p other in (s.0, contains-later u us s.0 s.1, s.2)
        ];
        open_ = λ p h. elim (j.1.only p h) [ inl mine ↦ ((a.1.each p).0 mine).1 | inr other ↦ g.1.open_ p other ];
        all = λ p v there stands unclosed. elim (contains-cases u us v there) [
          | inl e ↦ j.1.from_first p ((a.1.each p).1 (subst (λ (w : Unmove). StandsIn p (predecessor q w) depth) (sym e) stands, unclosed))
          | inr later ↦ j.1.from_second p (g.1.all p v later stands unclosed)
        ];
      },
    )

own-only : (q p : Asked) → Contains (q ∷ []) p → q ≡ p
own-only q p there = elim (contains-cases q [] p there) [ inl e ↦ e | inr none ↦ absurd (contains-none p none) ]

closed-none : (q : Asked) (depth : ℕ) → IsClosed q → AreExpanded [] q depth
closed-none q zero closed = record { different = tt; each = λ p. (λ there. absurd (contains-none p there), λ h. absurd (h.1 (subst IsClosed (sym h.0) closed))) }
closed-none q (suc depth) closed = record {
  different = tt;
  each = λ p. (λ there. absurd (contains-none p there), λ h. elim h.0 [ inl e ↦ absurd (h.1 (subst IsClosed (sym e) closed)) | inr below ↦ absurd (below.0 closed) ]);
}

pub expanded_exist : (depth : ℕ) (q : Asked) → (ps : List Asked) × AreExpanded ps q depth
expanded_exist zero q = elim (closed_settled q) [
  | inl closed ↦ ([], closed-none q zero closed)
  | inr unclosed ↦ (
    q ∷ [],
    record {
      different = (λ there. contains-none q there, tt);
      each = λ p. (
        λ there. (sym (own-only q p there), subst (λ (a : Asked). IsClosed a → ⊥) (own-only q p there) unclosed),
        λ h. subst (λ (a : Asked). Contains (q ∷ []) a) (sym h.0) (contains-first q []),
      );
    },
  )
]
expanded_exist (suc depth) q = elim (closed_settled q) [
  | inl closed ↦ ([], closed-none q (suc depth) closed)
  | inr unclosed ↦
      let g = gathered q (unmoves q) depth (λ u. expanded_exist depth (predecessor q u)) in
      let j = joined (q ∷ []) g.0 g.1.different in (
        j.0,
        record {
          different = j.1.different;
          each = λ p. (
            λ there. elim (j.1.only p there) [
              | inl mine ↦ (inl (sym (own-only q p mine)), subst (λ (a : Asked). IsClosed a → ⊥) (own-only q p mine) unclosed)
              | inr other ↦ (inr (unclosed, g.1.stands p other), g.1.open_ p other)
            ],
            λ h. elim h.0 [
              | inl e ↦ j.1.from_first p (subst (λ (a : Asked). Contains (q ∷ []) a) (sym e) (contains-first q []))
              | inr below ↦ j.1.from_second p (g.1.all p below.1.0 below.1.1 below.1.2 h.1)
            ],
          );
        },
      )
]

pub memo_cost_exists : (depth : ℕ) (q : Asked) → (n : ℕ) × IsMemoCost q depth n
memo_cost_exists depth q = let e = expanded_exist depth q in (1 + unmoves_in_all e.0, (e.0, e.1, refl))

pub memo_cost_one : (depth : ℕ) (q : Asked) (m n : ℕ) → IsMemoCost q depth m → IsMemoCost q depth n → m ≡ n
memo_cost_one depth q m n (ps, a, e) (rs, b, f) =
    let one = sum_within ps rs a.different (λ p there. (b.each p).1 ((a.each p).0 there)) in
    let two = sum_within rs ps b.different (λ p there. (a.each p).1 ((b.each p).0 there)) in
    omega arith
