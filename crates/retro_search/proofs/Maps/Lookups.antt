-- Looking up queries in a map.
use Rattle.std.proofs.Common.{◌≡◌, inl, inr, Bool, true, false, cond, List, [], ◌∷◌, refl, sym, ap, ◌∙◌, subst}
use Rattle.std.specs.Prelude.{Some, None}
use Rattle.std.specs.List.{Contains}
use Rattle.std.specs.Map.{keys_of, lookup}
use Rattle.std.proofs.lemmas.Bool.{both_ways}
use Rattle.std.proofs.lemmas.Option.{same_Some}
use Rattle.general_lemmas.proofs.Lists.{contains-cases, contains-first, contains-later, contains-none}
use Rattle.query_base.specs.Asked.{Asked}
use Rattle.query_base.specs.contracts.queries.QueryPartialEq.TheImpl as queries
use Rattle.query_base.proofs.Exact.{exact, itself}

abbrev pub eq : Asked → Asked → Bool
eq = queries.eq-value.it

module _ {V : Type 0} where
  -- an entry that a look-up finds
  pub record Entry (q : Asked) (es : List (Asked × V)) (v : V) : Type 0 where
    pub key : Asked
    pub same : q ≡ key
    pub there : Contains es (key, v)

  found-by : (b : Bool) (q : Asked) (e : Asked × V) (es : List (Asked × V)) (v : V) → eq q e.0 ≡ b → (lookup (eq q) es ≡ Some v → Entry q es v) → cond b (Some e.1) (lookup (eq q) es) ≡ Some v → Entry q (e ∷ es) v
  found-by true q e es v test rest h = record {
    key = e.0;
    same = exact q e.0 test;
    there = subst (λ (w : V). Contains (e ∷ es) (e.0, w)) (same_Some _ _ h) (contains-first e es);
  }
  found-by false q e es v test rest h = let f = rest h in record { key = f.key; same = f.same; there = contains-later e es (f.key, v) f.there }

  pub found : (q : Asked) (es : List (Asked × V)) (v : V) → lookup (eq q) es ≡ Some v → Entry q es v
  found q [] v h = absurd cc
  found q (e ∷ es) v h = found-by (eq q e.0) q e es v refl (found q es v) h

  missed-by : (b : Bool) (q : Asked) (e : Asked × V) (es : List (Asked × V)) → eq q e.0 ≡ b → (lookup (eq q) es ≡ None → Contains (keys_of es) q → ⊥) → cond b (Some e.1) (lookup (eq q) es) ≡ None → Contains (keys_of (e ∷ es)) q → ⊥
  missed-by true q e es test rest h there = absurd cc
  missed-by false q e es test rest h there = elim (contains-cases e.0 (keys_of es) q there) [
    | inl same ↦ both_ways _ test (ap (λ (k : Asked). eq q k) same ∙ itself q)
    | inr later ↦ rest h later
  ]

  -- a key that is there is found
  pub missed : (q : Asked) (es : List (Asked × V)) → lookup (eq q) es ≡ None → Contains (keys_of es) q → ⊥
  missed q [] h there = contains-none q there
  missed q (e ∷ es) h there = missed-by (eq q e.0) q e es refl (missed q es) h there

  absent-by : (b : Bool) (q : Asked) (e : Asked × V) (es : List (Asked × V)) → eq q e.0 ≡ b → (Contains (keys_of (e ∷ es)) q → ⊥) → lookup (eq q) es ≡ None → cond b (Some e.1) (lookup (eq q) es) ≡ None
  absent-by true q e es test away rest = absurd (away (subst (λ (k : Asked). Contains (keys_of (e ∷ es)) k) (sym (exact q e.0 test)) (contains-first e.0 (keys_of es))))
  absent-by false q e es test away rest = rest

  -- and one that isn't there isn't found
  pub absent : (q : Asked) (es : List (Asked × V)) → (Contains (keys_of es) q → ⊥) → lookup (eq q) es ≡ None
  absent q [] away = refl
  absent q (e ∷ es) away = absent-by (eq q e.0) q e es refl away (absent q es (λ there. away (contains-later e.0 (keys_of es) q there)))
