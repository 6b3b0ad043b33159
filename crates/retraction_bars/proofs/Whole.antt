-- Some clause tells of each way, where a query has no retraction.
use Rattle.std.proofs.Common.{◌≡◌, ℕ, ◌<◌, ◌==◌, Bool, true, false, List, [], ◌++◌, ◌⊎◌, inl, inr, Option, Some, None, refl, ap, subst, arith}
use Rattle.std.proofs.lemmas.Bool.{and_from, cases_Bool, eq-eqb, false_from_ne_true, not_from_false, or_right}
use Rattle.std.proofs.lemmas.List.Elements.{Contains-append_left, Contains-append_right}
use Rattle.std.specs.Bool.{beq}
use Rattle.std.specs.Prelude.{is_none, is_some}
use Rattle.general_lemmas.proofs.Lists.{contains-filter, contains-first, contains-flat_map, contains-none, filter-contains}
use Rattle.general_lemmas.proofs.Ranges.{contains-range}
use Rattle.std.specs.List.{Contains, filter, flat_map, range_with_len}
use Rattle.board_base.specs.declared.men.Kind.{Kind}
use Rattle.board_base.specs.declared.unmoves.Unmove.{Unmove}
use Rattle.query_base.specs.Asked.{Asked}
use Rattle.unmove_gen.specs.Listed.{candidates, is_listed, unmoves, unmoves_to}
use Rattle.retraction_bars.proofs.FirstBars.{all_pass, ground_found}
use Rattle.retraction_bars.proofs.Places.{among, placed}
use Rattle.retraction_bars.specs.Bars.{bars}
use Rattle.retraction_bars.specs.Clauses.{clause_if, clause_or, clauses, clauses_from, clauses_to, man_clauses, origin_clauses, parts_from}
use Rattle.retraction_bars.specs.Grounds.{bars_all, first_bar, spares}
use Rattle.retraction_bars.specs.Numbers.{bar_at}
use Rattle.retraction_bars.specs.Scopes.{anywhere, is_from, is_within, scope_of}
use Rattle.retraction_bars.specs.Told.{Covers}
use Rattle.retraction_bars.specs.Ways.{is_way}
use Rattle.retraction_bars.specs.declared.gathering.Clause.{Clause}
use Rattle.retraction_bars.specs.declared.scopes.Manner.TheVariants.{Origin, Quiet, Taking, Passing}
use Rattle.retraction_bars.specs.declared.scopes.Scope.{Scope}

-- a clause of the list is of the man on t, and tells of the way
pub record IsToldIn (cs : List Clause) (t : ℕ) (u : Unmove) : Type 0 where
  pub clause : Clause
  pub there : Contains cs clause
  pub target : clause.to ≡ t
  pub within : is_within clause.scope u ≡ true

told_left : (xs ys : List Clause) (t : ℕ) (u : Unmove) → IsToldIn xs t u → IsToldIn (xs ++ ys) t u
told_left xs ys t u h = record { clause = h.clause; there = Contains-append_left xs ys h.clause h.there; target = h.target; within = h.within }

told_right : (xs ys : List Clause) (t : ℕ) (u : Unmove) → IsToldIn ys t u → IsToldIn (xs ++ ys) t u
told_right xs ys t u h = record { clause = h.clause; there = Contains-append_right xs ys h.clause h.there; target = h.target; within = h.within }

told_if : (t : ℕ) (s : Scope) (o : Option ℕ) (n : ℕ) (u : Unmove) → o ≡ Some n → is_within s u ≡ true → IsToldIn (clause_if t s o) t u
told_if t s None n u e within = let no : None ≡ Some n = e in cc
told_if t s (Some k) n u e within = let made : Clause = record { to = t; scope = s; bar = k } in record { clause = made; there = contains-first made []; target = refl; within = within }

told_or : (t : ℕ) (s : Scope) (o : Option ℕ) (others : List Clause) (u : Unmove) → is_within s u ≡ true → (o ≡ None → IsToldIn others t u) → IsToldIn (clause_or t s o others) t u
told_or t s None others u within rest = rest refl
told_or t s (Some k) others u within rest = let made : Clause = record { to = t; scope = s; bar = k } in record { clause = made; there = contains-first made []; target = refl; within = within }

unlisted : (q : Asked) (u : Unmove) → unmoves q ≡ [] → Contains candidates u → is_listed q u ≡ false
unfolding unmoves
unlisted q u none h = false_from_ne_true _ (λ yes. contains-none u (subst (λ (l : List Unmove). Contains l u) none (contains-filter (is_listed q) candidates u h yes)))

-- nothing is listed: the last bar bars whatever is in the scope
last_bars : (q : Asked) (ways : List Unmove) (s : Scope) → ((u : Unmove) → Contains ways u → is_listed q u ≡ false) → bars_all q ways s 145 ≡ true
unfolding bar_at bars
last_bars q ways s none = all_pass (spares q s (bar_at 145)) ways (λ u there. or_right _ _ (not_from_false _ (none u there)))

quiet_told : (q : Asked) (ways : List Unmove) (t from : ℕ) (promoted : Bool) (u : Unmove) → ((v : Unmove) → Contains ways v → is_listed q v ≡ false) → Contains ways u → is_within (scope_of Quiet from promoted) u ≡ true → IsToldIn (parts_from q ways t from promoted) t u
quiet_told q ways t from promoted u none there within =
    let s : Scope = scope_of Quiet from promoted in
    let k = ground_found q ways s 145 u there within (contains-range 69 77 145 (omega arith) (omega arith)) (last_bars q ways s none) in
    told_left _ _ t u (told_left _ _ t u (told_if t s (first_bar q ways s) k.0 u k.1 within))

taking_told : (q : Asked) (ways : List Unmove) (t from : ℕ) (promoted : Bool) (u : Unmove) → ((v : Unmove) → Contains ways v → is_listed q v ≡ false) → Contains ways u → is_within (scope_of Taking from promoted) u ≡ true → IsToldIn (parts_from q ways t from promoted) t u
taking_told q ways t from promoted u none there within =
    let s : Scope = scope_of Taking from promoted in
    let k = ground_found q ways s 145 u there within (contains-range 69 77 145 (omega arith) (omega arith)) (last_bars q ways s none) in
    told_left _ _ t u (told_right _ _ t u (told_if t s (first_bar q ways s) k.0 u k.1 within))

passing_told : (q : Asked) (ways : List Unmove) (t from : ℕ) (promoted : Bool) (u : Unmove) → ((v : Unmove) → Contains ways v → is_listed q v ≡ false) → Contains ways u → is_within (scope_of Passing from promoted) u ≡ true → IsToldIn (parts_from q ways t from promoted) t u
passing_told q ways t from promoted u none there within =
    let s : Scope = scope_of Passing from promoted in
    let k = ground_found q ways s 145 u there within (contains-range 69 77 145 (omega arith) (omega arith)) (last_bars q ways s none) in
    told_right _ _ t u (told_if t s (first_bar q ways s) k.0 u k.1 within)

some_or_none : (o : Option Kind) → (is_none o ≡ true) ⊎ (is_some o ≡ true)
some_or_none None = inl refl
some_or_none (Some k) = inr refl

parts_told : (q : Asked) (ways : List Unmove) (t from : ℕ) (promoted : Bool) (u : Unmove) → ((v : Unmove) → Contains ways v → is_listed q v ≡ false) → Contains ways u → is_from (scope_of Quiet from promoted) u ≡ true → IsToldIn (parts_from q ways t from promoted) t u
parts_told q ways t from promoted u none there here = elim (cases_Bool u.ep) [
  | inl passing ↦ passing_told q ways t from promoted u none there (and_from _ _ here passing)
  | inr plain ↦ elim (some_or_none u.captured) [
    | inl quiet ↦ quiet_told q ways t from promoted u none there (and_from _ _ here quiet)
    | inr taking ↦ taking_told q ways t from promoted u none there (and_from _ _ (and_from _ _ here taking) (not_from_false _ plain))
  ]
]

origin_told : (q : Asked) (ways : List Unmove) (t from : ℕ) (promoted : Bool) (u : Unmove) → ((v : Unmove) → Contains ways v → is_listed q v ≡ false) → Contains ways u → is_from (scope_of Quiet from promoted) u ≡ true → IsToldIn (origin_clauses q ways t from promoted) t u
origin_told q ways t from promoted u none there here =
    told_or t (scope_of Origin from promoted) (first_bar q ways (scope_of Origin from promoted)) (parts_from q ways t from promoted) u here (λ e. parts_told q ways t from promoted u none there here)

same_truth : (b : Bool) → beq b b ≡ true
same_truth true = refl
same_truth false = refl

from_told : (q : Asked) (ways : List Unmove) (t : ℕ) (u : Unmove) → ((v : Unmove) → Contains ways v → is_listed q v ≡ false) → Contains ways u → IsToldIn (clauses_from q ways t u.mv.from) t u
from_told q ways t u none there =
    let at : (u.mv.from == u.mv.from) ≡ true = eq-eqb _ _ refl in
    elim (cases_Bool (is_some u.mv.promo)) [
      | inl promoted ↦ told_right _ _ t u (origin_told q ways t u.mv.from true u none there (and_from _ _ at (ap (λ (b : Bool). beq b true) promoted)))
      | inr not_promoted ↦ told_left _ _ t u (origin_told q ways t u.mv.from false u none there (and_from _ _ at (ap (λ (b : Bool). beq b false) not_promoted)))
    ]

man_told : (q : Asked) (ways : List Unmove) (t : ℕ) (u : Unmove) → u.mv.from < 64 → ((v : Unmove) → Contains ways v → is_listed q v ≡ false) → Contains ways u → IsToldIn (man_clauses q t ways) t u
unfolding man_clauses
man_told q ways t u low none there =
    told_or t anywhere (first_bar q ways anywhere) (flat_map (clauses_from q ways t) (range_with_len 0 64)) u refl
    (λ e. let w = from_told q ways t u none there in
    record { clause = w.clause; there = contains-flat_map (clauses_from q ways t) (range_with_len 0 64) u.mv.from w.clause (contains-range 0 64 u.mv.from (omega arith) (omega arith)) w.there; target = w.target; within = w.within })

-- the ways to a square are candidates
ways_unlisted : (q : Asked) (t : ℕ) → t < 64 → unmoves q ≡ [] → (v : Unmove) → Contains (filter (is_way q) (unmoves_to t)) v → is_listed q v ≡ false
unfolding candidates
ways_unlisted q t low none v h =
    unlisted q v none (contains-flat_map unmoves_to (range_with_len 0 64) t v (contains-range 0 64 t (omega arith) (omega arith)) (filter-contains (is_way q) (unmoves_to t) v h).0)

pub whole : (q : Asked) (u : Unmove) → unmoves q ≡ [] → Contains candidates u → is_way q u ≡ true → (c : Clause) × Contains (clauses q) c × Covers c u
unfolding clauses clauses_to
whole q u none candidate way =
    let p = placed u candidate in
    let from_low = p.from_low in
    let to_low = p.to_low in
    let w = man_told q (filter (is_way q) (unmoves_to u.mv.to)) u.mv.to u from_low (ways_unlisted q u.mv.to to_low none) (among q u candidate way) in
    (w.clause, contains-flat_map (clauses_to q) (range_with_len 0 64) u.mv.to w.clause (contains-range 0 64 u.mv.to (omega arith) (omega arith)) w.there, (w.target, w.within))
