-- What each clause tells is so.
use Rattle.std.proofs.Common.{◌≡◌, ℕ, Bool, true, false, List, [], inl, inr, Option, Some, None, refl, sym, ◌∙◌, subst}
use Rattle.std.proofs.lemmas.List.Elements.{Contains-append_cases}
use Rattle.general_lemmas.proofs.Lists.{contains-cases, contains-none, flat_map-contains}
use Rattle.std.specs.List.{Contains, filter, range_with_len}
use Rattle.board_base.specs.declared.unmoves.Unmove.{Unmove}
use Rattle.query_base.specs.Asked.{Asked}
use Rattle.unmove_gen.specs.Listed.{unmoves_to}
use Rattle.retraction_bars.proofs.FirstBars.{ground_holds}
use Rattle.retraction_bars.proofs.Places.{among}
use Rattle.retraction_bars.specs.Clauses.{clause_if, clause_or, clauses, clauses_from, clauses_to, man_clauses, origin_clauses, parts_from}
use Rattle.retraction_bars.specs.Grounds.{first_bar}
use Rattle.retraction_bars.specs.Scopes.{anywhere, scope_of}
use Rattle.retraction_bars.specs.Told.{Holds}
use Rattle.retraction_bars.specs.Ways.{is_way}
use Rattle.retraction_bars.specs.declared.gathering.Clause.{Clause}
use Rattle.retraction_bars.specs.declared.scopes.Manner.{Manner}
use Rattle.retraction_bars.specs.declared.scopes.Manner.TheVariants.{Origin, Quiet, Taking, Passing}
use Rattle.retraction_bars.specs.declared.scopes.Scope.{Scope}

-- the clause is of the man on t, and its bar is the first of its scope
pub record IsFine (q : Asked) (ways : List Unmove) (t : ℕ) (c : Clause) : Type 0 where
  pub target : c.to ≡ t
  pub found : first_bar q ways c.scope ≡ Some c.bar

fine_if : (q : Asked) (ways : List Unmove) (t : ℕ) (s : Scope) (o : Option ℕ) (c : Clause) → first_bar q ways s ≡ o → Contains (clause_if t s o) c → IsFine q ways t c
fine_if q ways t s None c e h = absurd (contains-none c h)
fine_if q ways t s (Some n) c e h = let made : Clause = record { to = t; scope = s; bar = n } in elim (contains-cases made [] c h) [
  | inl same ↦ subst (IsFine q ways t) same (record { target = refl; found = e })
  | inr none ↦ absurd (contains-none c none)
]

fine_or : (q : Asked) (ways : List Unmove) (t : ℕ) (s : Scope) (o : Option ℕ) (others : List Clause) (c : Clause) → first_bar q ways s ≡ o → (Contains others c → IsFine q ways t c) → Contains (clause_or t s o others) c → IsFine q ways t c
fine_or q ways t s None others c e rest h = rest h
fine_or q ways t s (Some n) others c e rest h = fine_if q ways t s (Some n) c e h

fine_part : (q : Asked) (ways : List Unmove) (t : ℕ) (m : Manner) (from : ℕ) (promoted : Bool) (c : Clause) → Contains (clause_if t (scope_of m from promoted) (first_bar q ways (scope_of m from promoted))) c → IsFine q ways t c
fine_part q ways t m from promoted c h = fine_if q ways t (scope_of m from promoted) _ c refl h

fine_parts : (q : Asked) (ways : List Unmove) (t from : ℕ) (promoted : Bool) (c : Clause) → Contains (parts_from q ways t from promoted) c → IsFine q ways t c
fine_parts q ways t from promoted c h = elim (Contains-append_cases _ _ c h) [
  | inl two ↦ elim (Contains-append_cases _ _ c two) [
    | inl quiet ↦ fine_part q ways t Quiet from promoted c quiet
    | inr taking ↦ fine_part q ways t Taking from promoted c taking
  ]
  | inr passing ↦ fine_part q ways t Passing from promoted c passing
]

fine_origin : (q : Asked) (ways : List Unmove) (t from : ℕ) (promoted : Bool) (c : Clause) → Contains (origin_clauses q ways t from promoted) c → IsFine q ways t c
fine_origin q ways t from promoted c h = fine_or q ways t (scope_of Origin from promoted) _ _ c refl (fine_parts q ways t from promoted c) h

fine_from : (q : Asked) (ways : List Unmove) (t from : ℕ) (c : Clause) → Contains (clauses_from q ways t from) c → IsFine q ways t c
fine_from q ways t from c h = elim (Contains-append_cases _ _ c h) [
  | inl unpromoted ↦ fine_origin q ways t from false c unpromoted
  | inr promoted ↦ fine_origin q ways t from true c promoted
]

fine_man : (q : Asked) (ways : List Unmove) (t : ℕ) (c : Clause) → Contains (man_clauses q t ways) c → IsFine q ways t c
unfolding man_clauses
fine_man q ways t c h =
    fine_or q ways t anywhere _ _ c refl
    (λ rest. let o = flat_map-contains (clauses_from q ways t) (range_with_len 0 64) c rest in fine_from q ways t o.0 c o.2) h

fine : (q : Asked) (c : Clause) → Contains (clauses q) c → (t : ℕ) × IsFine q (filter (is_way q) (unmoves_to t)) t c
unfolding clauses clauses_to
fine q c h =
    let t = flat_map-contains (clauses_to q) (range_with_len 0 64) c h in (t.0, fine_man q (filter (is_way q) (unmoves_to t.0)) t.0 c t.2)

pub truth : (q : Asked) (c : Clause) → Contains (clauses q) c → Holds q c
truth q c h u candidate way covers =
    let f = fine q c h in
    let to : f.0 ≡ u.mv.to = sym f.1.target ∙ covers.0 in
    let there = subst (λ (t : ℕ). Contains (filter (is_way q) (unmoves_to t)) u) (sym to) (among q u candidate way) in
    ground_holds q (filter (is_way q) (unmoves_to f.0)) c.scope c.bar u f.1.found there covers.1
