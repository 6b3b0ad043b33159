-- Lines are the text of one certificate.
use Rattle.std.proofs.Common.{◌≡◌, ℕ, suc, List, [], ◌∷◌, ◌++◌, length, map, true, Some, refl, sym, ap, ◌∙◌, subst, arith, append_assoc}
use Rattle.std.specs.Option.{option_and_then}
use Rattle.std.proofs.lemmas.Option.{option_and_then_some, same_Some, some_pair_parts}
use Rattle.board_base.specs.declared.unmoves.Unmove.{Unmove}
use Rattle.cert_text.specs.declared.reasons.Reason.{Reason}
use Rattle.cert_text.specs.Tree.{Tree, Forest, rule, back, expand, sketch, none, more, count}
use Rattle.sketch_text.specs.Heads.{Head}
use Rattle.sketch_body.specs.Bodies.{AreTextsOf, Body, Item, SayEach, head_of, items_of}
use Rattle.sketch_body.specs.Due.{Due, is_over, next, read_as}
use Rattle.sketch_body.specs.Whole.{first_due}
use Rattle.sketch_body.proofs.Readings.{body_one, body_runs, over_next}
use Rattle.sketch_body.proofs.Runs.{at, run}
use Rattle.sketch_body.proofs.Steps.{next_kept, says_read}
use Rattle.cert_text.specs.Lines.{ended, said, without_end}
use Rattle.cert_text.specs.NodeLines.{root_body, kid_body}
use Rattle.cert_text.specs.Certificate.{Lines, Certificate, AreLinesOf, AreBelow, AreKids, body_of}
use Rattle.cert_text.specs.declared.heads.Head.TheVariants.{FormatDue, RootDue}
use Rattle.cert_text.specs.declared.node_lines.BodyLine.{BodyLine}
use Rattle.general_lemmas.proofs.Lists.{same_first, same_rest}
use Rattle.cert_text.proofs.SpelledLines.{ends}
use Rattle.cert_text.proofs.HeadSteps.{at_root, goes_on, head_leads}

-- two trees that begin the same lines are one, and so is what follows them
record SameTree (t u : Tree) (x y : Lines) : Type 0 where
  tree : t ≡ u
  rest : x ≡ y

record SameKids (f g : Forest) (x y : Lines) : Type 0 where
  kids : f ≡ g
  rest : x ≡ y

nothing_before : (a b x y : Lines) → a ≡ [] → b ≡ [] → a ++ x ≡ b ++ y → x ≡ y
nothing_before a b x y e f same = sym (ap (λ (l : Lines). l ++ x) e) ∙ same ∙ ap (λ (l : Lines). l ++ y) f

-- both first lines say the same
same_kid : (depth : ℕ) (k l : List ℕ) (u v : Unmove) (a b : BodyLine) → k ≡ l → said (kid_body depth) k ≡ Some (u, a) → said (kid_body depth) l ≡ Some (v, b) → (u ≡ v) × (a ≡ b)
same_kid depth k l u v a b same p q = some_pair_parts u v a b (sym p ∙ ap (said (kid_body depth)) same ∙ q)

same_rule : (r s : Reason) → body_of (rule r) ≡ body_of (rule s) → r ≡ s
same_rule r s e = cc

same_back : (k l : ℕ) → body_of (back k) ≡ body_of (back l) → k ≡ l
same_back k l e = cc

same_count : (f g : Forest) → body_of (expand f) ≡ body_of (expand g) → count f ≡ count g
same_count f g e = cc

same_text : (t u : List ℕ) → ended t ≡ ended u → t ≡ u
same_text t u e = same_Some t u (sym (ends t) ∙ ap without_end e ∙ ends u)

-- lines that two sketches begin are those of one, and so is what follows them
record SameTexts (ts us : Lines) (x y : Lines) : Type 0 where
  texts : ts ≡ us
  rest : x ≡ y

texts_same : (ts us : Lines) (is js : List Item) (d e f : Due) (x y : Lines) → SayEach d.prices ts is → SayEach d.prices us js → run d is ≡ Some e → is_over e ≡ true → run d js ≡ Some f → is_over f ≡ true → map ended ts ++ x ≡ map ended us ++ y → SameTexts ts us x y
texts_same [] [] is js d e f x y p q a over b over' same = record { texts = refl; rest = same }
texts_same [] (u ∷ us) [] [] d e f x y p q a over b over' same = absurd q
texts_same [] (u ∷ us) (i ∷ is) js d e f x y p q a over b over' same = absurd p
texts_same [] (u ∷ us) [] (j ∷ js) d e f x y p q a over b over' same =
    let here : is_over d ≡ true = ap is_over (same_Some d e a) ∙ over in
    let none = ap (option_and_then (λ (g : Due). run g js)) (over_next d j here) in
    absurd cc
texts_same (t ∷ ts) [] [] js d e f x y p q a over b over' same = absurd p
texts_same (t ∷ ts) [] (i ∷ is) (j ∷ js) d e f x y p q a over b over' same = absurd q
texts_same (t ∷ ts) [] (i ∷ is) [] d e f x y p q a over b over' same =
    let here : is_over d ≡ true = ap is_over (same_Some d f b) ∙ over' in
    let none = ap (option_and_then (λ (g : Due). run g is)) (over_next d i here) in
    absurd cc
texts_same (t ∷ ts) (u ∷ us) [] js d e f x y p q a over b over' same = absurd p
texts_same (t ∷ ts) (u ∷ us) (i ∷ is) [] d e f x y p q a over b over' same = absurd q
texts_same (t ∷ ts) (u ∷ us) (i ∷ is) (j ∷ js) d e f x y p q a over b over' same =
    let text : t ≡ u = same_text t u (same_first same) in
    option_and_then_some (λ (g : Due). run g is) (next d i) e a (λ g on rest.
    option_and_then_some (λ (h : Due). run h js) (next d j) f b (λ h also others.
    let item : i ≡ j = same_Some i j (sym (says_read d.prices d.wanted d.marks d.nodes t i g p.0 on) ∙ ap (read_as d.prices d.wanted d.marks) text ∙ says_read d.prices d.wanted d.marks d.nodes u j h q.0 also) in
    let there : h ≡ g = same_Some h g (sym also ∙ ap (next d) (sym item) ∙ on) in
    let first : SayEach g.prices ts is = subst (λ (P : ℕ). SayEach P ts is) (sym (next_kept d i g on)) p.1 in
    let second : SayEach g.prices us js = subst (λ (P : ℕ). SayEach P us js) (sym (next_kept d i g on)) q.1 in
    let both : SameTexts ts us x y = texts_same ts us is js g e f x y first second rest over (ap (λ (z : Due). run z js) (sym there) ∙ others) over' (same_rest same) in
    record { texts = ap (λ (z : List ℕ). z ∷ ts) text ∙ ap (λ (zs : Lines). u ∷ zs) both.texts; rest = both.rest }))

same_head : (b c : Body) → body_of (sketch b) ≡ body_of (sketch c) → head_of b ≡ head_of c
same_head b c e = cc

sketch_same : (b c : Body) (ts us x y : Lines) → head_of b ≡ head_of c → AreTextsOf ts b → AreTextsOf us c → map ended ts ++ x ≡ map ended us ++ y → SameTree (sketch b) (sketch c) x y
sketch_same b c ts us x y heads p q same =
    let size : length c.prices ≡ length b.prices = sym (ap (λ (h : Head). h.prices) heads) in
    let said : SayEach (length b.prices) us (items_of c) = subst (λ (n : ℕ). SayEach n us (items_of c)) size q.said in
    let runs : run (first_due (length b.prices)) (items_of c) ≡ Some (at (length c.prices) 0 []) = ap (λ (n : ℕ). run (first_due n) (items_of c)) (sym size) ∙ body_runs us c q in
    let both : SameTexts ts us x y = texts_same ts us (items_of b) (items_of c) (first_due (length b.prices)) (at (length b.prices) 0 []) (at (length c.prices) 0 []) x y p.said said (body_runs ts b p) refl runs refl same in
    record { tree = ap sketch (body_one ts b c heads p (subst (λ (zs : Lines). AreTextsOf zs c) (sym both.texts) q)); rest = both.rest }

mutual
  below_same : (t u : Tree) (depth : ℕ) (a b x y : Lines) → body_of t ≡ body_of u → AreBelow t depth a → AreBelow u depth b → a ++ x ≡ b ++ y → SameTree t u x y
  below_same (rule r) (rule s) depth a b x y own p q same = record { tree = ap rule (same_rule r s own); rest = nothing_before a b x y p q same }
  below_same (rule r) (back k) depth a b x y own p q same = absurd cc
  below_same (rule r) (expand g) depth a b x y own p q same = absurd cc
  below_same (rule r) (sketch c) depth a b x y own p q same = absurd cc
  below_same (back k) (rule s) depth a b x y own p q same = absurd cc
  below_same (back k) (back l) depth a b x y own p q same = record { tree = ap back (same_back k l own); rest = nothing_before a b x y p q same }
  below_same (back k) (expand g) depth a b x y own p q same = absurd cc
  below_same (back k) (sketch c) depth a b x y own p q same = absurd cc
  below_same (expand f) (rule s) depth a b x y own p q same = absurd cc
  below_same (expand f) (back l) depth a b x y own p q same = absurd cc
  below_same (expand f) (sketch c) depth a b x y own p q same = absurd cc
  below_same (sketch c) (rule s) depth a b x y own p q same = absurd cc
  below_same (sketch c) (back l) depth a b x y own p q same = absurd cc
  below_same (sketch c) (expand g) depth a b x y own p q same = absurd cc
  below_same (sketch c) (sketch d) depth a b x y own p q same =
      sketch_same c d p.0 q.0 x y (same_head c d own) p.2 q.2 (sym (ap (λ (l : Lines). l ++ x) p.1) ∙ same ∙ ap (λ (l : Lines). l ++ y) q.1)
  below_same (expand f) (expand g) depth a b x y own p q same =
      let k : SameKids f g x y = kids_same f g (suc depth) a b x y (same_count f g own) p q same in
      record { tree = ap expand k.kids; rest = k.rest }

  kids_same : (f g : Forest) (depth : ℕ) (a b x y : Lines) → count f ≡ count g → AreKids f depth a → AreKids g depth b → a ++ x ≡ b ++ y → SameKids f g x y
  kids_same none none depth a b x y size p q same = record { kids = refl; rest = nothing_before a b x y p q same }
  kids_same none (more v u g) depth a b x y size p q same = absurd (omega arith)
  kids_same (more l t f) none depth a b x y size p q same = absurd (omega arith)
  kids_same (more l t f) (more v u g) depth a b x y size p q same =
      let all : p.0 ∷ ((p.1 ++ p.2) ++ x) ≡ q.0 ∷ ((q.1 ++ q.2) ++ y) = sym (ap (λ (ls : Lines). ls ++ x) p.3) ∙ same ∙ ap (λ (ls : Lines). ls ++ y) q.3 in
      let kid = same_kid depth p.0 q.0 l v (body_of t) (body_of u) (same_first all) p.4 q.4 in
      let after : p.1 ++ (p.2 ++ x) ≡ q.1 ++ (q.2 ++ y) = sym (append_assoc p.1 p.2 x) ∙ same_rest all ∙ append_assoc q.1 q.2 y in
      let tree : SameTree t u (p.2 ++ x) (q.2 ++ y) = below_same t u depth p.1 q.1 (p.2 ++ x) (q.2 ++ y) kid.1 p.5 q.5 after in
      let others : SameKids f g x y = kids_same f g depth p.2 q.2 x y (omega arith) p.6 q.6 tree.rest in
      record {
        kids = ap (λ (w : Unmove). more w t f) kid.0 ∙ ap (λ (w : Tree). more v w f) tree.tree ∙ ap (more v u) others.kids;
        rest = others.rest;
      }

-- lines are the text of one certificate
pub certificate_one : (lines : Lines) (c d : Certificate) → AreLinesOf lines c → AreLinesOf lines d → c ≡ d
certificate_one lines c d p q =
    let on = goes_on p.head q.head FormatDue (RootDue c.claim c.query) d.claim d.query (p.root_line ∷ p.below) (q.root_line ∷ q.below) (head_leads p.head c.claim c.query p.heading) (head_leads q.head d.claim d.query q.heading) (sym p.parts ∙ q.parts) in
    let is = at_root c.claim d.claim c.query d.query (p.root_line ∷ p.below) (q.root_line ∷ q.below) on in
    let own : body_of c.root ≡ body_of d.root = same_Some (body_of c.root) (body_of d.root) (sym p.root ∙ ap (said root_body) (same_first is.rest) ∙ q.root) in
    let below : p.below ++ [] ≡ q.below ++ [] = ap (λ (l : Lines). l ++ []) (same_rest is.rest) in
    let tree : SameTree c.root d.root [] [] = below_same c.root d.root 0 p.below q.below [] [] own p.nodes q.nodes below in
    λ i. record { claim = is.claim_is i; query = is.query_is i; root = tree.tree i }
