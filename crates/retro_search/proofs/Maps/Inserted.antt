-- The values of a map after one more is inserted, and how many there are.
use Rattle.std.proofs.Common.{suc, ◌≤◌, Bool, true, false, List, [], ◌∷◌, length, cond, arith}
use Rattle.std.specs.List.{All}
use Rattle.std.specs.Map.{values_of}
use Rattle.std.proofs.lemmas.List.Elements.{All-cons, All-head, All-tail}
use Rattle.indexmap.specs.IndexMap.{insert_entry}

module _ {K V : Type 0} (eq : K → K → Bool) (P : V → Type 0) where
  inserted-by : (b : Bool) (e : K × V) (es : List (K × V)) (k : K) (v : V) → P v → All P (values_of (e ∷ es)) → All P (values_of (insert_entry eq es k v)) → All P (values_of (cond b ((e.0, v) ∷ es) (e ∷ insert_entry eq es k v)))
  inserted-by true e es k v new old rest = All-cons P v (values_of es) new (All-tail P e.1 (values_of es) old)
  inserted-by false e es k v new old rest = All-cons P e.1 (values_of (insert_entry eq es k v)) (All-head P e.1 (values_of es) old) rest

  pub all_inserted : (es : List (K × V)) (k : K) (v : V) → P v → All P (values_of es) → All P (values_of (insert_entry eq es k v))
  all_inserted [] k v new old = All-cons P v [] new old
  all_inserted (e ∷ es) k v new old =
      inserted-by (eq k e.0) e es k v new old (all_inserted es k v new (All-tail P e.1 (values_of es) old))

module _ {K V : Type 0} (eq : K → K → Bool) where
  longer-by : (b : Bool) (e : K × V) (es : List (K × V)) (k : K) (v : V) → length (insert_entry eq es k v) ≤ suc (length es) → length (cond b ((e.0, v) ∷ es) (e ∷ insert_entry eq es k v)) ≤ suc (suc (length es))
  longer-by true e es k v below = omega arith
  longer-by false e es k v below = omega arith

  -- at most one more
  pub few_inserted : (es : List (K × V)) (k : K) (v : V) → length (insert_entry eq es k v) ≤ suc (length es)
  few_inserted [] k v = omega arith
  few_inserted (e ∷ es) k v = longer-by (eq k e.0) e es k v (few_inserted es k v)
