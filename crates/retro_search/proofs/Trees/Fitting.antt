-- A tree that proves a query has a text.
use Rattle.std.proofs.Common.{◌≡◌, ℕ, zero, suc, ◌+◌, ◌<◌, ◌≤◌, ◌==◌, true, ◌&&◌, ◌||◌, List, [], ◌∷◌, length, get_or, refl, sym, ap, subst, arith, nat_lt, nat_le}
use Rattle.std.specs.Prelude.{IsSomeAnd, slice_get}
use Rattle.std.specs.List.{All, Contains}
use Rattle.std.proofs.lemmas.Bool.{and_from, eq-eqb}
use Rattle.std.proofs.lemmas.Bool.Decides.{nat_tests}
use Rattle.std.proofs.lemmas.List.Elements.{All-contains, All-filter}
use Rattle.std.proofs.lemmas.Option.{slice_get-get_or}
use Rattle.board_base.specs.declared.unmoves.Unmove.{Unmove}
use Rattle.general_lemmas.proofs.Lists.{contains-first, contains-later}
use Rattle.query_base.specs.Asked.{Asked}
use Rattle.unmove_gen.specs.Listed.{candidates, is_listed, unmoves}
use Rattle.unmove_gen.specs.Predecessor.{predecessor}
use Rattle.unmove_gen.proofs.Numbered.{numbered}
use Rattle.unmove_gen.proofs.Spelled.{captures_spelled, promotions_spelled}
use Rattle.cert_text.specs.Tree.{Tree, Forest, rule, back, expand, sketch, none, more, count}
use Rattle.cert_text.specs.Writable.{fits, all_fit, has_text, is_reason, is_rule}
use Rattle.cert_text.proofs.NearNumbers.{potentials_near}
use Rattle.query_base.specs.declared.rule_lines.RuleLine.{RuleLine}
use Rattle.query_base.specs.declared.rule_lines.RuleLine.TheVariants.{Kings, Ranks, Check, Rights, Count, Frozen, Caps, Promo}
use Rattle.static_rules.specs.Supports.{Supports}
use Rattle.cert_text.specs.declared.reasons.Reason.{Reason}
use Rattle.cert_text.specs.declared.reasons.Reason.TheVariants.{Line, Balance}
use Rattle.sketch_findings.specs.Reasons.{ReasonSupports}
use Rattle.sketch_findings.specs.Proving.{Proves, ProvesEach}
use Rattle.retro_search.specs.Heights.{height, height_of_all}
use Rattle.retro_search.specs.Sizes.{nodes_in, nodes_in_all}
use Rattle.retro_search.specs.SketchTexts.{HasSketchTexts, HaveSketchTexts}

-- the squares of an unmove are on the board
record OnBoard (u : Unmove) : Type 0 where
  origin : u.mv.from < 64
  target : u.mv.to < 64

on_board : (q : Asked) (u : Unmove) → Contains (unmoves q) u → OnBoard u
unfolding unmoves
on_board q u has =
    let all : All OnBoard candidates = λ k d inside. let n = numbered k (get_or candidates k d) (slice_get-get_or candidates k d inside) in record { origin = n.origin; target = n.target } in
    All-contains OnBoard (unmoves q) u (All-filter (is_listed q) OnBoard candidates all) has

below : (m n : ℕ) → m < n → nat_lt m n ≡ true
below m n h = grind (arith, nat_tests)

rule_known : (q : Asked) (r : RuleLine) → Supports q r → is_rule r ≡ true
rule_known q Kings h = refl
rule_known q Ranks h = refl
rule_known q Check h = refl
rule_known q Rights h = refl
rule_known q (Count side) h = refl
rule_known q (Frozen set) h = eq-eqb (length set) 64 h.whole
rule_known q (Caps side set p) h = and_from _ _ (eq-eqb (length set) 64 h.settled.whole) (potentials_near p h.numbers)
rule_known q (Promo side set) h = eq-eqb (length set) 64 h.settled.whole

reason_known : (q : Asked) (r : Reason) → ReasonSupports q r → is_reason r ≡ true
reason_known q (Line r) h = rule_known q r h
reason_known q (Balance set p) h = and_from _ _ (eq-eqb (length set) 64 h.settled.whole) h.prices

label_fits : (q : Asked) (u : Unmove) → Contains (unmoves q) u → has_text u ≡ true
label_fits q u has =
    let o : OnBoard u = on_board q u has in
    and_from _ _ (and_from _ _ (and_from _ _ (below u.mv.from 64 o.origin) (below u.mv.to 64 o.target)) (promotions_spelled q u has)) (captures_spelled q u has)

within_list : (ancestors : List Asked) (k : ℕ) (P : Asked → Type 0) → IsSomeAnd (slice_get ancestors k) P → k < length ancestors
within_list [] k P h = absurd h
within_list (a ∷ rest) zero P h = omega arith
within_list (a ∷ rest) (suc k) P h = omega (arith, within_list rest k P h)

back_fits : (k depth : ℕ) → 1 ≤ k → k ≤ depth → (nat_le 1 k && nat_le k depth) ≡ true
back_fits k depth low high = grind (arith, nat_tests)

expand_fits : (n depth : ℕ) → depth < 255 → n ≤ 999999 → (((n == 0) || nat_lt depth 255) && nat_le n 999999) ≡ true
expand_fits n depth low few = grind (arith, nat_tests)

some_nodes : (t : Tree) → 1 ≤ nodes_in t
some_nodes (rule r) = omega arith
some_nodes (back k) = omega arith
some_nodes (expand kids) = omega arith
some_nodes (sketch b) = omega arith

few_kids : (f : Forest) → count f ≤ nodes_in_all f
few_kids none = omega arith
few_kids (more label t rest) = omega (arith, some_nodes t, few_kids rest)

mutual
  -- a low tree of few nodes that proves a query, and whose sketches have texts, fits the grammar at its depth
  pub tree_fits : (t : Tree) (q : Asked) (ancestors : List Asked) (depth : ℕ) → Proves t q ancestors → length ancestors ≡ depth → depth + height t ≤ 255 → nodes_in t ≤ 999999 → HasSketchTexts t → fits depth t ≡ true
  tree_fits (rule r) q ancestors depth p size low few texts = reason_known q r p
  tree_fits (sketch b) q ancestors depth p size low few texts = texts
  tree_fits (back zero) q ancestors depth p size low few texts = absurd p
  tree_fits (back (suc k)) q ancestors depth p size low few texts = back_fits (suc k) depth (omega arith) (omega (arith, within_list ancestors k _ p))
  tree_fits (expand kids) q ancestors depth p size low few texts =
      and_from _ _ (expand_fits (count kids) depth (omega arith) (omega (arith, few_kids kids))) (each_fits kids q (unmoves q) ancestors depth p.1 (λ u there. there) size (omega arith) (omega arith) texts)

  each_fits : (f : Forest) (q : Asked) (us : List Unmove) (ancestors : List Asked) (depth : ℕ) → ProvesEach f q us ancestors → ((u : Unmove) → Contains us u → Contains (unmoves q) u) → length ancestors ≡ depth → suc depth + height_of_all f ≤ 255 → nodes_in_all f ≤ 999999 → HaveSketchTexts f → all_fit (suc depth) f ≡ true
  each_fits none q us ancestors depth p listed size low few texts = refl
  each_fits (more label t rest) q us ancestors depth (others, first, p, each) listed size low few texts =
      let there : Contains us label = subst (λ (l : List Unmove). Contains l label) (sym first) (contains-first label others) in
      let later : (u : Unmove) → Contains others u → Contains (unmoves q) u = λ u h. listed u (subst (λ (l : List Unmove). Contains l u) (sym first) (contains-later label others u h)) in
      and_from _ _
      (and_from _ _ (label_fits q label (listed label there)) (tree_fits t (predecessor q label) (q ∷ ancestors) (suc depth) p (ap suc size) (omega arith) (omega arith) texts.0))
      (each_fits rest q others ancestors depth each later size (omega arith) (omega arith) texts.1)
