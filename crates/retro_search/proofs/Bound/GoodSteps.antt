-- A lone and refutable query, child after child.
use Rattle.std.proofs.Common.{◌≡◌, ℕ, ◌+◌, ◌*◌, ◌<◌, ◌≤◌, ◌⊎◌, inl, inr, List, [], ◌∷◌, length, sym, ap, ◌∙◌, subst, arith}
use Rattle.std.specs.List.{Contains}
use Rattle.board_base.specs.declared.unmoves.Unmove.{Unmove}
use Rattle.general_lemmas.proofs.Lists.{contains-cases, contains-none}
use Rattle.query_base.specs.Asked.{Asked}
use Rattle.unmove_gen.specs.Listed.{unmoves}
use Rattle.unmove_gen.specs.Predecessor.{predecessor}
use Rattle.cert_text.specs.Tree.{Tree, Forest, expand, none, more, with_last}
use Rattle.cert_text.specs.Seen.{tree_of}
use Rattle.retro_search.specs.Costs.{SumsUpTo}
use Rattle.retro_search.specs.Unrefuted.{IfSpent, IfTooLarge, IsLengthened}
use Rattle.retro_search.specs.Lone.{unmoves_in_all}
use Rattle.retro_search.specs.Eager.{AreEager, IsEager}
use Rattle.retro_search.specs.Tidy.{kept_in}
use Rattle.retro_search.specs.Good.{FitsIn, GoesWell, GoesWellBelow, IsDone, IsGood, IsGoodBelow, IsPaid}
use Rattle.retro_search.specs.declared.refutations.Children.{Children}
use Rattle.retro_search.specs.declared.refutations.Refutation.{Refutation}
use Rattle.retro_search.specs.declared.runs.Run.{Run}
use Rattle.retro_search.specs.declared.unrefuted.Unrefuted.{Unrefuted}
use Rattle.retro_search.proofs.Bound.Wholes.{done_on}
use Rattle.retro_search.proofs.Costs.CostSums.{later_numbers}
use Rattle.retro_search.proofs.Expansions.{Adds, CostBy, IsRefutableBy}
use Rattle.retro_search.proofs.Lines.OpenLines.{stop_large, stop_spent}

-- how far an expansion has come
pub record GoodSoFar (ps : List Asked) (m : ℕ) (q : Asked) (below : ℕ) (ancestors : List Asked) (rest : List Unmove) (c : Children) (run first : Run) : Type 0 where
  pub made : ℕ
  pub later : ℕ
  pub sums : SumsUpTo (CostBy q below ancestors) (IsRefutableBy q below ancestors) rest later
  pub total : made + later ≡ m
  pub eager : AreEager c.kids q
  pub alone : c.lean ≡ 0
  pub small : c.lines ≤ made
  pub fits : FitsIn ps (q ∷ ancestors) run
  pub done : (u : Unmove) → Contains (unmoves q) u → Contains rest u ⊎ IsDone (kept_in run.memo) (predecessor q u)
  pub stay : (p : Asked) → Contains (kept_in first.memo) p → Contains (kept_in run.memo) p
  pub visits : first.left + unmoves_in_all (kept_in first.memo) + length rest ≡ run.left + length (unmoves q) + unmoves_in_all (kept_in run.memo)
  pub trees : length (kept_in run.memo) ≤ length (kept_in first.memo) + made
  pub lines : run.memo.lines ≤ first.memo.lines + below * made

pub good_none : (ps : List Asked) (m : ℕ) (q : Asked) (below : ℕ) (ancestors : List Asked) (rest : List Unmove) (c : Children) (run : Run) → rest ≡ unmoves q → c.kids ≡ none → (c.lean ≡ 0) × (c.highest ≡ 0) × (c.lines ≡ 0) → IsGoodBelow ps m q below ancestors run → GoodSoFar ps m q below ancestors rest c run run
good_none ps m q below ancestors rest c run all empty numbers g =
    subst (λ (us : List Unmove). GoodSoFar ps m q below ancestors us c run run) (sym all) (record {
      made = 0;
      later = m;
      sums = g.cost;
      total = omega arith;
      eager = subst (λ (f : Forest). AreEager f q) (sym empty) tt;
      alone = numbers.0;
      small = omega (arith, numbers.2);
      fits = g.fits;
      done = λ u listed. inl listed;
      stay = λ p there. there;
      visits = omega arith;
      trees = omega arith;
      lines = omega arith;
    })

-- the next child
record NextKid (q : Asked) (below : ℕ) (ancestors : List Asked) (u : Unmove) (others : List Unmove) (later : ℕ) : Type 0 where
  a : ℕ
  b : ℕ
  cost : CostBy q below ancestors u a
  sums : SumsUpTo (CostBy q below ancestors) (IsRefutableBy q below ancestors) others b
  both : later ≡ a + b

next_kid : (q : Asked) (below : ℕ) (ancestors : List Asked) (rest others : List Unmove) (u : Unmove) (later : ℕ) → rest ≡ u ∷ others → IsRefutableBy q below ancestors u → SumsUpTo (CostBy q below ancestors) (IsRefutableBy q below ancestors) rest later → NextKid q below ancestors u others later
next_kid q below ancestors rest others u later next refuted sums =
    let s = later_numbers (CostBy q below ancestors) (IsRefutableBy q below ancestors) u rest others later next refuted sums in
    record { a = s.0; b = s.1; cost = s.2; sums = s.3; both = s.4 }

product : (k a b c m : ℕ) → a + (b + c) ≡ m → k * a + k * b ≤ k * m
product k a b c m e = let p : k * (a + (b + c)) ≡ k * m = ap (λ (x : ℕ). k * x) e in omega arith

kid_good : (ps : List Asked) (m : ℕ) (q : Asked) (below : ℕ) (ancestors : List Asked) (rest others : List Unmove) (c : Children) (run first : Run) (u : Unmove) → Contains (unmoves q) u → IsGoodBelow ps m q below ancestors first → (s : GoodSoFar ps m q below ancestors rest c run first) → (k : NextKid q below ancestors u others s.later) → IsGood ps k.a (predecessor q u) below (q ∷ ancestors) run
kid_good ps m q below ancestors rest others c run first u listed g s k =
    let parts : s.made + (k.a + k.b) ≡ m = omega (arith, k.both, s.total) in
    record {
      lone = g.lone u listed;
      refutable = g.refutable u listed;
      cost = k.cost;
      within = g.within u listed;
      fits = s.fits;
      few = omega (arith, parts, g.few);
      trees = omega (arith, parts, s.trees, g.trees);
      lines = omega (arith, product below s.made k.a k.b m parts, s.lines, g.lines);
    }

eager_more : (f : Forest) (q : Asked) (u : Unmove) (t : Tree) → AreEager f q → IsEager t (predecessor q u) → AreEager (with_last f u t) q
eager_more none q u t each own = (own, tt)
eager_more (more label s rest) q u t each own = (each.0, eager_more rest q u t each.1 own)

-- a child's facts, by the query that the code has
abbrev KidWell : Asked → ℕ → List Asked → Refutation → Run → Run → Type 0
KidWell p below above r run now = (ps : List Asked) (n : ℕ) → IsGood ps n p below above run → GoesWell ps n p below above r run now

pub good_more : (ps : List Asked) (m : ℕ) (q : Asked) (below : ℕ) (ancestors : List Asked) (rest others : List Unmove) (c grown : Children) (run now first : Run) (u : Unmove) (r : Refutation) (p : Asked) (above : List Asked) → p ≡ predecessor q u → above ≡ q ∷ ancestors → Contains (unmoves q) u → IsGoodBelow ps m q below ancestors first → GoodSoFar ps m q below ancestors rest c run first → rest ≡ u ∷ others → Adds c u r grown → ((qs : List Asked) (n : ℕ) → IsGood qs n p below above run → GoesWell qs n p below above r run now) → GoodSoFar ps m q below ancestors others grown now first
good_more ps m q below ancestors rest others c grown run now first u r p above here up listed g s next a well =
    let k = next_kid q below ancestors rest others u s.later next (g.refutable u listed) s.sums in
    let kid : KidWell (predecessor q u) below (q ∷ ancestors) r run now = subst (λ (b : Asked). KidWell b below (q ∷ ancestors) r run now) here (subst (λ (l : List Asked). KidWell p below l r run now) up well) in
    let w = kid ps k.a (kid_good ps m q below ancestors rest others c run first u listed g s k) in
    record {
      made = s.made + k.a;
      later = k.b;
      sums = k.sums;
      total = omega (arith, k.both, s.total);
      eager = subst (λ (f : Forest). AreEager f q) (sym a.kids) (eager_more c.kids q u (tree_of r.node) s.eager w.eager);
      alone = omega (arith, a.lean, s.alone, w.alone);
      small = omega (arith, a.lines, s.small, w.small);
      fits = w.fits;
      done = λ v there. elim (s.done v there) [
        | inl left ↦ elim (contains-cases u others v (subst (λ (l : List Unmove). Contains l v) next left)) [
          | inl same ↦ inr (subst (λ (x : Unmove). IsDone (kept_in now.memo) (predecessor q x)) same w.done)
          | inr later ↦ inl later
        ]
        | inr done ↦ inr (done_on (kept_in run.memo) (kept_in now.memo) (predecessor q v) w.stay done)
      ];
      stay = λ x there. w.stay x (s.stay x there);
      visits = omega (arith, ap length next, s.visits, w.visits);
      trees = omega (arith, s.trees, w.trees);
      lines = omega (arith, s.lines, w.lines);
    }

-- a child that finds no visits left
abbrev KidPaid : Asked → ℕ → List Asked → Unrefuted → Run → Type 0
KidPaid p below above stop run = (qs : List Asked) (n : ℕ) → IsGood qs n p below above run → IfSpent stop (IsPaid qs above run.left run.memo)

pub good_spent : (ps : List Asked) (m : ℕ) (q : Asked) (below : ℕ) (ancestors : List Asked) (rest others : List Unmove) (c : Children) (run first : Run) (u : Unmove) (p : Asked) (above : List Asked) (x t : Unrefuted) → p ≡ predecessor q u → above ≡ q ∷ ancestors → Contains (unmoves q) u → IsGoodBelow ps m q below ancestors first → GoodSoFar ps m q below ancestors rest c run first → rest ≡ u ∷ others → IsLengthened x u t → ((qs : List Asked) (n : ℕ) → IsGood qs n p below above run → IfSpent x (IsPaid qs above run.left run.memo)) → IfSpent t (IsPaid ps ancestors (first.left + 1) first.memo)
good_spent ps m q below ancestors rest others c run first u p above x t here up listed g s next longer paid =
    let k = next_kid q below ancestors rest others u s.later next (g.refutable u listed) s.sums in
    let kid : KidPaid (predecessor q u) below (q ∷ ancestors) x run = subst (λ (b : Asked). KidPaid b below (q ∷ ancestors) x run) here (subst (λ (l : List Asked). KidPaid p below l x run) up paid) in
    stop_spent x t u (IsPaid ps (q ∷ ancestors) run.left run.memo) (IsPaid ps ancestors (first.left + 1) first.memo) (λ h. omega (arith, h, ap length next, s.visits)) longer (kid ps k.a (kid_good ps m q below ancestors rest others c run first u listed g s k))

abbrev KidSmall : Asked → ℕ → List Asked → Unrefuted → Run → Type 0
KidSmall p below above stop run = (qs : List Asked) (n : ℕ) → IsGood qs n p below above run → IfTooLarge stop ⊥

pub good_small : (ps : List Asked) (m : ℕ) (q : Asked) (below : ℕ) (ancestors : List Asked) (rest others : List Unmove) (c : Children) (run first : Run) (u : Unmove) (p : Asked) (above : List Asked) (x t : Unrefuted) → p ≡ predecessor q u → above ≡ q ∷ ancestors → Contains (unmoves q) u → IsGoodBelow ps m q below ancestors first → GoodSoFar ps m q below ancestors rest c run first → rest ≡ u ∷ others → IsLengthened x u t → ((qs : List Asked) (n : ℕ) → IsGood qs n p below above run → IfTooLarge x ⊥) → IfTooLarge t ⊥
good_small ps m q below ancestors rest others c run first u p above x t here up listed g s next longer small =
    let k = next_kid q below ancestors rest others u s.later next (g.refutable u listed) s.sums in
    let kid : KidSmall (predecessor q u) below (q ∷ ancestors) x run = subst (λ (b : Asked). KidSmall b below (q ∷ ancestors) x run) here (subst (λ (l : List Asked). KidSmall p below l x run) up small) in
    stop_large x t u ⊥ ⊥ (λ (h : ⊥). h) longer (kid ps k.a (kid_good ps m q below ancestors rest others c run first u listed g s k))

-- the children that are put together don't grow too large
pub good_room : (ps : List Asked) (m : ℕ) (q : Asked) (below : ℕ) (ancestors : List Asked) (rest others : List Unmove) (c : Children) (run now first : Run) (u : Unmove) (r : Refutation) (p : Asked) (above : List Asked) → p ≡ predecessor q u → above ≡ q ∷ ancestors → Contains (unmoves q) u → IsGoodBelow ps m q below ancestors first → GoodSoFar ps m q below ancestors rest c run first → rest ≡ u ∷ others → ((qs : List Asked) (n : ℕ) → IsGood qs n p below above run → GoesWell qs n p below above r run now) → c.lines + r.lines < 500000
good_room ps m q below ancestors rest others c run now first u r p above here up listed g s next well =
    let k = next_kid q below ancestors rest others u s.later next (g.refutable u listed) s.sums in
    let kid : KidWell (predecessor q u) below (q ∷ ancestors) r run now = subst (λ (b : Asked). KidWell b below (q ∷ ancestors) r run now) here (subst (λ (l : List Asked). KidWell p below l r run now) up well) in
    let w = kid ps k.a (kid_good ps m q below ancestors rest others c run first u listed g s k) in
    omega (arith, s.small, w.small, k.both, s.total, g.few)

pub good_all : (ps : List Asked) (m : ℕ) (q : Asked) (below : ℕ) (ancestors : List Asked) (rest : List Unmove) (c : Children) (run first : Run) (r : Refutation) → IsGoodBelow ps m q below ancestors first → GoodSoFar ps m q below ancestors rest c run first → rest ≡ [] → tree_of r.node ≡ expand c.kids → r.lean ≡ c.lean → r.lines ≡ c.lines + 1 → GoesWellBelow ps m q below ancestors r first run
good_all ps m q below ancestors rest c run first r g s end tree lean counted =
    let none_later : s.later ≡ 0 = subst (λ (us : List Unmove). SumsUpTo (CostBy q below ancestors) (IsRefutableBy q below ancestors) us s.later) end s.sums in
    let same : s.made ≡ m = omega (arith, none_later, s.total) in
    record {
      eager = subst (λ (k : Tree). IsEager k q) (sym tree) (g.unclosed, s.eager);
      alone = lean ∙ s.alone;
      small = omega (arith, counted, s.small, same);
      fits = s.fits;
      done = λ u listed. elim (s.done u listed) [
        | inl left ↦ absurd (contains-none u (subst (λ (l : List Unmove). Contains l u) end left))
        | inr done ↦ done
      ];
      stay = s.stay;
      visits = omega (arith, s.visits, ap length end);
      trees = omega (arith, s.trees, same);
      lines = omega (arith, s.lines, ap (λ (x : ℕ). below * x) same);
    }
