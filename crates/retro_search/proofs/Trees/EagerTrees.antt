-- Trees that expand no query which a rule line supports, in searches that lean on no ancestor.
use Rattle.std.proofs.Common.{◌≡◌, ℕ, zero, suc, ◌≤◌, inl, inr, List, ◌∷◌, refl, sym, subst, arith}
use Rattle.std.specs.Prelude.{IfSome, Option, Some, None}
use Rattle.std.specs.List.{Contains}
use Rattle.board_base.specs.declared.unmoves.Unmove.{Unmove}
use Rattle.general_lemmas.proofs.Lists.{contains-first, contains-later}
use Rattle.query_base.specs.Asked.{Asked}
use Rattle.query_base.specs.Targets.{Covers}
use Rattle.static_rules.specs.Supports.{IsClosed}
use Rattle.unmove_gen.specs.Listed.{unmoves}
use Rattle.unmove_gen.specs.Predecessor.{predecessor}
use Rattle.cert_text.specs.Tree.{Tree, Forest, rule, back, expand, sketch, none, more}
use Rattle.sketch_findings.specs.Proving.{Proves, ProvesEach}
use Rattle.query_base.specs.Ancestors.{IsCovered}
use Rattle.retro_search.specs.Refutable.{IsRefutable, IsShut}
use Rattle.retro_search.specs.Costs.{IsCost, SumsUpTo}
use Rattle.retro_search.specs.Eager.{AreEager, IsEager}
use Rattle.retro_search.specs.Lone.{IsLone, StandsIn}
use Rattle.retro_search.specs.Heights.{height, height_of_all}
use Rattle.retro_search.specs.Sizes.{nodes_in, nodes_in_all}
use Rattle.retro_search.proofs.Costs.CostSums.{cost_positive, later_numbers}

pub lone-here : (depth : ℕ) (q : Asked) (ancestors : List Asked) → IsLone q depth ancestors → IsCovered q ancestors → ⊥
lone-here zero q ancestors lone = lone
lone-here (suc depth) q ancestors lone = lone.0

-- a query that no rule line supports isn't shut
pub lone_unshut : (depth : ℕ) (q : Asked) (ancestors : List Asked) → IsLone q depth ancestors → (IsClosed q → ⊥) → IsShut q ancestors → ⊥
lone_unshut depth q ancestors lone unclosed (inl closed) = unclosed closed
lone_unshut depth q ancestors lone unclosed (inr covered) = lone-here depth q ancestors lone covered

mutual
  -- where the query is refutable, its tree is no higher than the depth that is left, whatever it was when the tree was made
  pub eager_low : (t : Tree) (q : Asked) (depth : ℕ) (ancestors above : List Asked) → IsEager t q → Proves t q above → IsLone q depth ancestors → IsRefutable q depth ancestors → height t ≤ depth
  eager_low (rule r) q depth ancestors above eager p lone ref = omega arith
  eager_low (back k) q depth ancestors above eager p lone ref = absurd eager
  eager_low (sketch b) q depth ancestors above eager p lone ref = omega arith
  eager_low (expand kids) q zero ancestors above eager p lone ref = absurd (lone_unshut zero q ancestors lone eager.0 ref)
  eager_low (expand kids) q (suc depth) ancestors above eager p lone (inl shut) = absurd (lone_unshut (suc depth) q ancestors lone eager.0 shut)
  eager_low (expand kids) q (suc depth) ancestors above eager p lone (inr ref) =
      let low = eager_low-each kids q (unmoves q) depth ancestors above eager.1 p.1 (lone.1 eager.0) ref.1 in omega arith

  eager_low-each : (f : Forest) (q : Asked) (us : List Unmove) (depth : ℕ) (ancestors above : List Asked) → AreEager f q → ProvesEach f q us above → ((u : Unmove) → Contains us u → IsLone (predecessor q u) depth (q ∷ ancestors)) → ((u : Unmove) → Contains us u → IsRefutable (predecessor q u) depth (q ∷ ancestors)) → height_of_all f ≤ depth
  eager_low-each none q us depth ancestors above eager p lone ref = omega arith
  eager_low-each (more label tree rest) q us depth ancestors above eager (others, first, p, each) lone ref =
      let there : Contains us label = subst (λ (l : List Unmove). Contains l label) (sym first) (contains-first label others) in
      let later : (u : Unmove) → Contains others u → Contains us u = λ u h. subst (λ (l : List Unmove). Contains l u) (sym first) (contains-later label others u h) in
      let own = eager_low tree (predecessor q label) depth (q ∷ ancestors) (q ∷ above) eager.0 p (lone label there) (ref label there) in
      let more_low = eager_low-each rest q others depth ancestors above eager.1 each (λ u h. lone u (later u h)) (λ u h. ref u (later u h)) in
      omega (arith, own, more_low)

mutual
  -- and it has no more nodes than the query's cost
  pub eager_small : (t : Tree) (q : Asked) (depth : ℕ) (ancestors above : List Asked) (n : ℕ) → IsEager t q → Proves t q above → IsLone q depth ancestors → IsRefutable q depth ancestors → IsCost q depth ancestors n → nodes_in t ≤ n
  eager_small (rule r) q depth ancestors above n eager p lone ref cost = cost_positive depth q ancestors n cost
  eager_small (back k) q depth ancestors above n eager p lone ref cost = absurd eager
  eager_small (sketch b) q depth ancestors above n eager p lone ref cost = cost_positive depth q ancestors n cost
  eager_small (expand kids) q zero ancestors above n eager p lone ref cost = absurd (lone_unshut zero q ancestors lone eager.0 ref)
  eager_small (expand kids) q (suc depth) ancestors above n eager p lone (inl shut) cost = absurd (lone_unshut (suc depth) q ancestors lone eager.0 shut)
  eager_small (expand kids) q (suc depth) ancestors above n eager p lone (inr ref) (inl (inl shut, e)) = absurd (lone_unshut (suc depth) q ancestors lone eager.0 shut)
  eager_small (expand kids) q (suc depth) ancestors above n eager p lone (inr ref) (inl (inr here, e)) = absurd (p.0 here)
  eager_small (expand kids) q (suc depth) ancestors above n eager p lone (inr ref) (inr (unshut, elsewhere, (m, sums, e))) =
      let few = eager_small-each kids q (unmoves q) depth ancestors above m eager.1 p.1 (lone.1 eager.0) ref.1 sums in omega arith

  eager_small-each : (f : Forest) (q : Asked) (us : List Unmove) (depth : ℕ) (ancestors above : List Asked) (m : ℕ) → AreEager f q → ProvesEach f q us above → ((u : Unmove) → Contains us u → IsLone (predecessor q u) depth (q ∷ ancestors)) → ((u : Unmove) → Contains us u → IsRefutable (predecessor q u) depth (q ∷ ancestors)) → SumsUpTo (λ u. IsCost (predecessor q u) depth (q ∷ ancestors)) (λ u. IsRefutable (predecessor q u) depth (q ∷ ancestors)) us m → nodes_in_all f ≤ m
  eager_small-each none q us depth ancestors above m eager p lone ref sums = omega arith
  eager_small-each (more label tree rest) q us depth ancestors above m eager (others, first, p, each) lone ref sums =
      let there : Contains us label = subst (λ (l : List Unmove). Contains l label) (sym first) (contains-first label others) in
      let later : (u : Unmove) → Contains others u → Contains us u = λ u h. subst (λ (l : List Unmove). Contains l u) (sym first) (contains-later label others u h) in
      let s = later_numbers (λ u. IsCost (predecessor q u) depth (q ∷ ancestors)) (λ u. IsRefutable (predecessor q u) depth (q ∷ ancestors)) label us others m first (ref label there) sums in
      let own = eager_small tree (predecessor q label) depth (q ∷ ancestors) (q ∷ above) s.0 eager.0 p (lone label there) (ref label there) s.2 in
      let more_few = eager_small-each rest q others depth ancestors above s.1 eager.1 each (λ u h. lone u (later u h)) (λ u h. ref u (later u h)) s.3 in
      omega (arith, own, more_few, s.4)

own-demand : {A : Type 0} (o : Option A) → IfSome o (λ x. o ≡ Some x)
own-demand None = tt
own-demand (Some x) = refl

covers-itself : (q : Asked) → Covers q q
covers-itself q = record { board = refl; turn = refl; odds = refl; held = λ x h. h; only = own-demand q.only; barred = own-demand q.barred; clock = own-demand q.clock }

pub covered-by : (ancestors : List Asked) (q : Asked) → Contains ancestors q → IsCovered q ancestors
covered-by ancestors q (k, inside, e) = (k, q, inside, e, covers-itself q)

-- no query of the tree is one of the ancestors
pub lone_apart : (depth : ℕ) (p q : Asked) (ancestors : List Asked) → IsLone q depth ancestors → StandsIn p q depth → Contains ancestors p → ⊥
lone_apart zero p q ancestors lone same there = lone (covered-by ancestors q (subst (λ (a : Asked). Contains ancestors a) same there))
lone_apart (suc depth) p q ancestors lone (inl same) there = lone.0 (covered-by ancestors q (subst (λ (a : Asked). Contains ancestors a) same there))
lone_apart (suc depth) p q ancestors lone (inr (unclosed, (u, listed, stands))) there =
    lone_apart depth p (predecessor q u) (q ∷ ancestors) (lone.1 unclosed u listed) stands (contains-later q ancestors p there)
