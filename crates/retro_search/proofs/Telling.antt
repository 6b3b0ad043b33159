-- What an answer says of a query and of a claim, by what the search came to.
use Rattle.std.proofs.Common.{◌≡◌, ℕ, ◌<◌, ◌≤◌, ◌⊎◌, inl, inr, List, [], length, sym, ap, subst, arith}
use Rattle.std.specs.Prelude.{◌↔◌, IfErr, IfOk, IsTrue, None, Result, Err, reverse, map, true, false}
use Rattle.std.proofs.lemmas.List.{length-map, length-reverse}
use Rattle.board_base.specs.declared.moves.Move.{Move}
use Rattle.board_base.specs.declared.unmoves.Unmove.{Unmove}
use Rattle.query_base.specs.Asked.{Asked}
use Rattle.query_base.specs.Reach.{Contradicts, Reaches}
use Rattle.query_base.specs.Targets.{target}
use Rattle.query_base.specs.declared.claims.Claim.{Claim}
use Rattle.price_search.specs.FlatPrices.{FlatPricesSupport}
use Rattle.cert_text.specs.Seen.{tree_of}
use Rattle.cert_text.specs.SeenCert.{cert_of}
use Rattle.cert_text.specs.Certificate.{HasText}
use Rattle.cert_text.specs.Writable.{stays_on_board, IsQuery}
use Rattle.cert_text.specs.declared.certificates.Cert.{Cert}
use Rattle.sketch_findings.proofs.Sound.{sound}
use Rattle.retro_search.specs.Refutable.{IsRefutable}
use Rattle.retro_search.specs.Answers.{IfCountered, IfProved, IfSpentAt, IfUndecided, IfUnspent, IsAnswer, IsCounter, IsProofOf, IsProved, IsShort, IsUndecided}
use Rattle.retro_search.specs.Attempts.{ComesTo, IsPaidSearch, WhereLone}
use Rattle.retro_search.specs.Kept.{IsRefutation}
use Rattle.retro_search.specs.Lone.{IsAfforded, IsDear, unmoves_in_all}
use Rattle.retro_search.specs.Outcomes.{HasProof}
use Rattle.retro_search.specs.RuleLines.{IsByRuleLines}
use Rattle.retro_search.specs.Costs.{IsCost}
use Rattle.retro_search.specs.SearchSizes.{IsLargeSearch}
use Rattle.retro_search.specs.Searched.{IsUnsettled}
use Rattle.retro_search.specs.Sizes.{nodes_in}
use Rattle.retro_search.specs.Tidy.{IsFresh}
use Rattle.retro_search.specs.Told.{IsTold, Tells, TellsOpenLine, certificate}
use Rattle.retro_search.specs.Unrefuted.{IfOpen, IfSpent}
use Rattle.retro_search.specs.Unsettled.{IsAgainst, IsUnpriced, StaysUnsettled, WhereRefutable}
use Rattle.retro_search.specs.declared.answers.Found.{Found}
use Rattle.retro_search.specs.declared.answers.Found.TheVariants as found
use Rattle.retro_search.specs.declared.refutations.Refutation.{Refutation}
use Rattle.retro_search.specs.declared.runs.Reasons.TheVariants.{All, RuleLines}
use Rattle.retro_search.specs.declared.runs.Run.{Run}
use Rattle.retro_search.specs.declared.unrefuted.OpenLine.{OpenLine}
use Rattle.retro_search.specs.declared.unrefuted.Unrefuted.{Unrefuted}
use Rattle.retro_search.specs.declared.unrefuted.Unrefuted.TheVariants as why
use Rattle.retro_search.specs.declared.unrefuted.Unrefuted.TheVariants.{Memory}
use Rattle.retro_search.proofs.Bound.Goods.{if_ok_both, memo_afforded, memo_spent}
use Rattle.retro_search.proofs.Costs.Deeper.{deeper_refutable}
use Rattle.retro_search.proofs.Expansions.{if_err}
use Rattle.retro_search.proofs.Lines.LineEnds.{countered, undecided}
use Rattle.retro_search.proofs.Lines.OpenEnds.{against, unsettled}
use Rattle.retro_search.proofs.Lines.OpenLines.{if_open}
use Rattle.retro_search.proofs.Roots as roots
use Rattle.retro_search.proofs.Roots.{certified, held, if_ok, proof_of}
use Rattle.retro_search.proofs.TextSizes.{few_bytes}
use Rattle.retro_search.proofs.Trees.Heights.{refutable_by}
use Rattle.retro_search.proofs.Trees.LineCounts.{nodes_few}
use Rattle.retro_search.proofs.Trees.Refuting.{refuted, refutes_whole}

-- what is refuted is reached by no game
pub has_proof : (r : Refutation) (q : Asked) (depth : ℕ) → IsRefutation r q depth [] → HasProof q r.height depth
has_proof r q depth f =
    let w = refutes_whole r q depth [] f in
    record { tree = tree_of r.node; proves = w.proves; high = f.high; low = f.low; unreached = λ g reaches. sound (tree_of r.node) q w.proves g reaches }

-- and where all reasons are rule lines, it is refutable at the height of the tree
pub refutable_low : (r : Refutation) (q : Asked) (depth : ℕ) → IsRefutation r q depth [] → IsByRuleLines (tree_of r.node) → IsRefutable q r.height []
refutable_low r q depth f lined =
    let w = refutes_whole r q depth [] f in refutable_by (tree_of r.node) q r.height [] w.proves lined (omega (arith, f.high))

-- what stays open is refutable at no depth up to this one
pub open_nowhere : (line : OpenLine) (q : Asked) (depth : ℕ) (P : ℕ → Type 0) → IsUnsettled line q depth [] → WhereRefutable q depth P
open_nowhere line q depth P o k n low ref cost = absurd (o.unrefuted (deeper_refutable q k depth [] low ref))

-- what is spent isn't refutable at a cost within the nodes
pub spent_nowhere : (nodes : ℕ) (q : Asked) (depth : ℕ) (R : Type 0) → WhereRefutable q depth (λ n. nodes < n) → WhereRefutable q depth (λ n. n ≤ nodes → R)
spent_nowhere nodes q depth R dear k n low ref cost few = let above = dear k n low ref cost in absurd (omega arith)

-- an open line is told as it is
pub line_told : (claim : Claim) (q : Asked) (nodes : ℕ) (came : Result Refutation Unrefuted) (line : OpenLine) (f : Found) → came ≡ Err (why.Open line) → TellsOpenLine line f → Tells claim q nodes came f
line_told claim q nodes came line (found.Proved cert) is told = absurd told
line_told claim q nodes came line (found.Undecided l) is told = (line, is, told)
line_told claim q nodes came line (found.Countered g) is told = (line, is, told)
line_told claim q nodes came line (found.Spent n) is told = absurd told

-- an answer of the claim, by what the search of its target came to
pub told_by : (claim : Claim) (q p : Asked) (depth nodes : ℕ) (run : Run) (came : Result Refutation Unrefuted) (f : Found) → p ≡ target q claim → ((g : List Move) → Reaches g p ↔ Contradicts g claim q) → ComesTo came p depth nodes run.reasons → (run.reasons ≡ RuleLines → IsFresh run.memo → IsPaidSearch came p depth nodes) → Tells claim q nodes came f → IsTold depth nodes run claim q f
told_by claim q p depth nodes run came f same contradicted comes lone tells = record {
  came = came;
  tells = tells;
  comes = subst (λ (a : Asked). ComesTo came a depth nodes run.reasons) same comes;
  lone = λ by fresh. subst (λ (a : Asked). IsPaidSearch came a depth nodes) same (lone by fresh);
  contradicted = subst (λ (a : Asked). (g : List Move) → Reaches g a ↔ Contradicts g claim q) same contradicted;
}

-- what a refutation has, the certificate of it has
on_proved : (claim : Claim) (q : Asked) (nodes : ℕ) (came : Result Refutation Unrefuted) (f : Found) (P : Cert → Type 0) → Tells claim q nodes came f → IfOk came (λ r. P (certificate claim q r.node)) → IfProved f P
on_proved claim q nodes came (found.Proved cert) P (r, is, same) h =
    let here : P (certificate claim q r.node) = subst (λ (c : Result Refutation Unrefuted). IfOk c (λ s. P (certificate claim q s.node))) is h in subst P (sym same) here
on_proved claim q nodes came (found.Undecided l) P t h = tt
on_proved claim q nodes came (found.Countered g) P t h = tt
on_proved claim q nodes came (found.Spent n) P t h = tt

-- what an open line has that doesn't end at the array, the line has that is told
on_undecided : (claim : Claim) (q : Asked) (nodes : ℕ) (came : Result Refutation Unrefuted) (f : Found) (P : List Unmove → Type 0) → Tells claim q nodes came f → IfErr came (λ s. IfOpen s (λ line. (l : List Unmove) → l ≡ reverse line.back.items → line.at_array ≡ false → P l)) → IfUndecided f P
on_undecided claim q nodes came (found.Proved cert) P t h = tt
on_undecided claim q nodes came (found.Undecided l) P (line, is, told) h =
    let here : (k : List Unmove) → k ≡ reverse line.back.items → line.at_array ≡ false → P k = subst (λ (c : Result Refutation Unrefuted). IfErr c (λ s. IfOpen s (λ o. (k : List Unmove) → k ≡ reverse o.back.items → o.at_array ≡ false → P k))) is h in
    here l told.0 told.1
on_undecided claim q nodes came (found.Countered g) P t h = tt
on_undecided claim q nodes came (found.Spent n) P t h = tt

-- and what one has that does, the game has
on_countered : (claim : Claim) (q : Asked) (nodes : ℕ) (came : Result Refutation Unrefuted) (f : Found) (P : List Move → Type 0) → Tells claim q nodes came f → IfErr came (λ s. IfOpen s (λ line. (g : List Move) → g ≡ map (λ u. u.mv) line.back.items → line.at_array ≡ true → P g)) → IfCountered f P
on_countered claim q nodes came (found.Proved cert) P t h = tt
on_countered claim q nodes came (found.Undecided l) P t h = tt
on_countered claim q nodes came (found.Countered g) P (line, is, told) h =
    let here : (k : List Move) → k ≡ map (λ u. u.mv) line.back.items → line.at_array ≡ true → P k = subst (λ (c : Result Refutation Unrefuted). IfErr c (λ s. IfOpen s (λ o. (k : List Move) → k ≡ map (λ u. u.mv) o.back.items → o.at_array ≡ true → P k))) is h in
    here g told.0 told.1
on_countered claim q nodes came (found.Spent n) P t h = tt

on_spent : (claim : Claim) (q : Asked) (nodes : ℕ) (came : Result Refutation Unrefuted) (f : Found) (P : Type 0) → Tells claim q nodes came f → IfErr came (λ s. IfSpent s P) → IfSpentAt f (λ n. P)
on_spent claim q nodes came (found.Proved cert) P t h = tt
on_spent claim q nodes came (found.Undecided l) P t h = tt
on_spent claim q nodes came (found.Countered g) P t h = tt
on_spent claim q nodes came (found.Spent n) P (is, all) h = subst (λ (c : Result Refutation Unrefuted). IfErr c (λ s. IfSpent s P)) is h

all_visited : (claim : Claim) (q : Asked) (nodes : ℕ) (came : Result Refutation Unrefuted) (f : Found) → Tells claim q nodes came f → IfSpentAt f (λ n. n ≡ nodes)
all_visited claim q nodes came (found.Proved cert) t = tt
all_visited claim q nodes came (found.Undecided l) t = tt
all_visited claim q nodes came (found.Countered g) t = tt
all_visited claim q nodes came (found.Spent n) (is, all) = all

-- a proof comes exactly where R holds
on_exactly : (claim : Claim) (q : Asked) (nodes : ℕ) (came : Result Refutation Unrefuted) (f : Found) (R : Type 0) → Tells claim q nodes came f → IfOk came (λ r. R) → IfErr came (λ s. IfOpen s (λ line. R → ⊥)) → IfUnspent f (IsProved f ↔ R)
on_exactly claim q nodes came (found.Proved cert) R (r, is, same) holds fails =
    let here : R = subst (λ (c : Result Refutation Unrefuted). IfOk c (λ s. R)) is holds in (λ known. here, λ ref. tt)
on_exactly claim q nodes came (found.Undecided l) R (line, is, told) holds fails =
    let here : R → ⊥ = subst (λ (c : Result Refutation Unrefuted). IfErr c (λ s. IfOpen s (λ o. R → ⊥))) is fails in (λ known. absurd known, λ ref. here ref)
on_exactly claim q nodes came (found.Countered g) R (line, is, told) holds fails =
    let here : R → ⊥ = subst (λ (c : Result Refutation Unrefuted). IfErr c (λ s. IfOpen s (λ o. R → ⊥))) is fails in (λ known. absurd known, λ ref. here ref)
on_exactly claim q nodes came (found.Spent n) R t holds fails = tt

on_never_weaker : (claim : Claim) (q p : Asked) (depth nodes : ℕ) (came : Result Refutation Unrefuted) (f : Found) → Tells claim q nodes came f → IfErr came (λ s. IfOpen s (λ line. IsUnsettled line p depth [])) → IfErr came (λ s. IfSpent s (WhereRefutable p depth (λ n. nodes < n))) → WhereRefutable p depth (λ n. n ≤ nodes → IsProved f)
on_never_weaker claim q p depth nodes came (found.Proved cert) t open_ spent = λ k n low ref cost few. tt
on_never_weaker claim q p depth nodes came (found.Undecided l) (line, is, told) open_ spent =
    open_nowhere line p depth _ (subst (λ (c : Result Refutation Unrefuted). IfErr c (λ s. IfOpen s (λ o. IsUnsettled o p depth []))) is open_)
on_never_weaker claim q p depth nodes came (found.Countered g) (line, is, told) open_ spent =
    open_nowhere line p depth _ (subst (λ (c : Result Refutation Unrefuted). IfErr c (λ s. IfOpen s (λ o. IsUnsettled o p depth []))) is open_)
on_never_weaker claim q p depth nodes came (found.Spent n) (is, all) open_ spent =
    spent_nowhere nodes p depth _ (subst (λ (c : Result Refutation Unrefuted). IfErr c (λ s. IfSpent s (WhereRefutable p depth (λ m. nodes < m)))) is spent)

few_nodes : (r : Refutation) (q : Asked) (depth : ℕ) → IsRefutation r q depth [] → nodes_in (tree_of r.node) ≤ 500000
few_nodes r q depth f = omega (arith, f.counted, f.few, nodes_few (tree_of r.node))

-- what each answer says
pub answered : (claim : Claim) (q : Asked) (depth nodes : ℕ) (run : Run) (f : Found) → IsQuery q → IsTrue (stays_on_board claim) → q.barred ≡ None → depth ≤ 64 → IsTold depth nodes run claim q f → IsAnswer depth nodes claim q f
answered claim q depth nodes run f known on_board plain shallow t = record {
  proved = on_proved claim q nodes t.came f (λ cert. IsProofOf depth (cert_of cert) claim q) t.tells
      (if_ok t.came _ _ (λ r is. proof_of (tree_of r.node) claim q depth (refutes_whole r _ depth [] is) (few_nodes r _ depth is)) t.comes.refuted);
  holds = on_proved claim q nodes t.came f _ t.tells
      (if_ok t.came _ _ (λ r is. held (tree_of r.node) claim q depth (refutes_whole r _ depth [] is)) t.comes.refuted);
  written = λ well. on_proved claim q nodes t.came f (λ cert. HasText (cert_of cert)) t.tells
      (if_ok t.came _ _ (λ r is. roots.written (tree_of r.node) claim q depth known on_board well plain shallow (omega (arith, is.counted, is.few)) is.texts (refutes_whole r _ depth [] is)) t.comes.refuted);
  short_line = on_undecided claim q nodes t.came f (λ l. length l < nodes) t.tells
      (if_err t.came _ _ (λ s. if_open s _ _ (λ line deep l whole apart. omega (arith, deep, ap length whole, length-reverse line.back.items))) t.comes.deep);
  short_game = on_countered claim q nodes t.came f (λ g. length g < nodes) t.tells
      (if_err t.came _ _ (λ s. if_open s _ _ (λ line deep g whole array. omega (arith, deep, ap length whole, length-map line.back.items (λ (u : Unmove). u.mv)))) t.comes.deep);
  visited = all_visited claim q nodes t.came f t.tells;
}

-- and what one says after a search by all reasons
pub told_short : (claim : Claim) (q : Asked) (depth nodes : ℕ) (run : Run) (f : Found) → IsTold depth nodes run claim q f → IfProved f (λ cert. IsShort (cert_of cert))
told_short claim q depth nodes run f t =
    on_proved claim q nodes t.came f (λ cert. IsShort (cert_of cert)) t.tells
    (if_ok t.came _ _ (λ r is bytes text. few_bytes bytes (certified claim q (tree_of r.node)) text is.texts (omega (arith, is.counted, is.few))) t.comes.refuted)

pub told_unsettled : (claim : Claim) (q : Asked) (depth nodes : ℕ) (run : Run) (f : Found) → IsTold depth nodes run claim q f → IfUndecided f (λ l. StaysUnsettled l (target q claim) depth)
told_unsettled claim q depth nodes run f t =
    on_undecided claim q nodes t.came f (λ l. StaysUnsettled l (target q claim) depth) t.tells
    (if_err t.came _ _ (λ s. if_open s _ _ (λ line o l whole apart. unsettled line l (target q claim) depth o whole apart)) t.comes.unsettled)

pub told_against : (claim : Claim) (q : Asked) (depth nodes : ℕ) (run : Run) (f : Found) → IsTold depth nodes run claim q f → IfCountered f (λ g. IsAgainst g claim q depth)
told_against claim q depth nodes run f t =
    on_countered claim q nodes t.came f (λ g. IsAgainst g claim q depth) t.tells
    (if_err t.came _ _ (λ s. if_open s _ _ (λ line o g whole array. against line g claim q depth t.contradicted o whole array)) t.comes.unsettled)

pub told_unpriced : (claim : Claim) (q : Asked) (depth nodes : ℕ) (run : Run) (f : Found) → run.reasons ≡ All → nodes ≤ 250000 → IsTold depth nodes run claim q f → IfUndecided f (IsUnpriced (target q claim))
told_unpriced claim q depth nodes run f by few t =
    on_undecided claim q nodes t.came f (IsUnpriced (target q claim)) t.tells
    (if_err t.came _ _ (λ s. if_open s _ _ (λ line o l whole apart. subst (IsUnpriced (target q claim)) (sym whole) o)) (t.comes.unpriced by few))

-- what flat prices support is refuted, where a query may be visited
priced_err : (why : Unrefuted) (nodes : ℕ) (P : Type 0) → 1 ≤ nodes → (why ≡ Memory → P) → (why ≡ Memory) ⊎ (nodes ≡ 0) → P
priced_err why nodes P some memory (inl e) = memory e
priced_err why nodes P some memory (inr none) = absurd (omega arith)

priced_found : (claim : Claim) (q : Asked) (nodes : ℕ) (came : Result Refutation Unrefuted) (f : Found) → 1 ≤ nodes → Tells claim q nodes came f → IfErr came (λ why. (why ≡ Memory) ⊎ (nodes ≡ 0)) → IsProved f
priced_found claim q nodes came (found.Proved cert) some tells h = tt
priced_found claim q nodes came (found.Undecided l) some (line, is, told) h =
    let here : (why.Open line ≡ Memory) ⊎ (nodes ≡ 0) = subst (λ (c : Result Refutation Unrefuted). IfErr c (λ s. (s ≡ Memory) ⊎ (nodes ≡ 0))) is h in priced_err (why.Open line) nodes ⊥ some (λ e. cc) here
priced_found claim q nodes came (found.Countered g) some (line, is, told) h =
    let here : (why.Open line ≡ Memory) ⊎ (nodes ≡ 0) = subst (λ (c : Result Refutation Unrefuted). IfErr c (λ s. (s ≡ Memory) ⊎ (nodes ≡ 0))) is h in priced_err (why.Open line) nodes ⊥ some (λ e. cc) here
priced_found claim q nodes came (found.Spent n) some (is, all) h =
    let here : (why.Spent ≡ Memory) ⊎ (nodes ≡ 0) = subst (λ (c : Result Refutation Unrefuted). IfErr c (λ s. (s ≡ Memory) ⊎ (nodes ≡ 0))) is h in priced_err why.Spent nodes ⊥ some (λ e. cc) here

pub told_priced : (claim : Claim) (q : Asked) (depth nodes : ℕ) (run : Run) (f : Found) → run.reasons ≡ All → 1 ≤ nodes → FlatPricesSupport (target q claim) → IsTold depth nodes run claim q f → IsProved f
told_priced claim q depth nodes run f by some e t = priced_found claim q nodes t.came f some t.tells (t.comes.priced by e)

pub told_spent : (claim : Claim) (q : Asked) (depth nodes : ℕ) (run : Run) (f : Found) → IsTold depth nodes run claim q f → IfSpentAt f (λ n. WhereRefutable (target q claim) depth (λ m. nodes < m))
told_spent claim q depth nodes run f t = on_spent claim q nodes t.came f _ t.tells t.comes.spent

pub told_large : (claim : Claim) (q : Asked) (depth nodes : ℕ) (run : Run) (f : Found) → IsTold depth nodes run claim q f → IfSpentAt f (λ n. IsLargeSearch (target q claim) depth nodes)
told_large claim q depth nodes run f t = on_spent claim q nodes t.came f _ t.tells t.comes.outsized

pub told_never_weaker : (claim : Claim) (q : Asked) (depth nodes : ℕ) (run : Run) (f : Found) → IsTold depth nodes run claim q f → WhereRefutable (target q claim) depth (λ n. n ≤ nodes → IsProved f)
told_never_weaker claim q depth nodes run f t = on_never_weaker claim q (target q claim) depth nodes t.came f t.tells t.comes.unsettled t.comes.spent

-- by rule lines alone
pub told_exactly : (claim : Claim) (q : Asked) (depth nodes : ℕ) (run : Run) (f : Found) → run.reasons ≡ RuleLines → IsTold depth nodes run claim q f → IfUnspent f (IsProved f ↔ IsRefutable (target q claim) depth [])
told_exactly claim q depth nodes run f by t =
    on_exactly claim q nodes t.came f (IsRefutable (target q claim) depth []) t.tells
    (if_ok_both t.came _ _ _ (λ r is lined. refuted r (target q claim) depth [] is lined) t.comes.refuted (t.comes.lined by))
    (if_err t.came _ _ (λ s. if_open s _ _ (λ line o. o.unrefuted)) t.comes.unsettled)

pub told_lined : (claim : Claim) (q : Asked) (depth nodes : ℕ) (run : Run) (f : Found) → run.reasons ≡ RuleLines → IsTold depth nodes run claim q f → IfProved f (λ cert. IsByRuleLines (tree_of cert.root))
told_lined claim q depth nodes run f by t = on_proved claim q nodes t.came f (λ cert. IsByRuleLines (tree_of cert.root)) t.tells (t.comes.lined by)

pub told_undecided : (claim : Claim) (q : Asked) (depth nodes : ℕ) (run : Run) (f : Found) → run.reasons ≡ RuleLines → IsTold depth nodes run claim q f → IfUndecided f (λ l. IsUndecided l (target q claim) depth)
told_undecided claim q depth nodes run f by t =
    on_undecided claim q nodes t.came f (λ l. IsUndecided l (target q claim) depth) t.tells
    (if_err t.came _ _ (λ s. if_open s _ _ (λ line o l whole apart. undecided line l (target q claim) depth o whole apart)) (t.comes.first by))

pub told_countered : (claim : Claim) (q : Asked) (depth nodes : ℕ) (run : Run) (f : Found) → run.reasons ≡ RuleLines → IsTold depth nodes run claim q f → IfCountered f (λ g. IsCounter g claim q depth)
told_countered claim q depth nodes run f by t =
    on_countered claim q nodes t.came f (λ g. IsCounter g claim q depth) t.tells
    (if_err t.came _ _ (λ s. if_open s _ _ (λ line o g whole array. countered line g claim q depth t.contradicted o whole array)) (t.comes.first by))

-- and where nothing was kept before
pub told_afforded : (claim : Claim) (q : Asked) (depth nodes : ℕ) (run : Run) (f : Found) → run.reasons ≡ RuleLines → IsFresh run.memo → IsTold depth nodes run claim q f → IfProved f (λ cert. IsAfforded depth nodes claim q)
told_afforded claim q depth nodes run f by fresh t =
    on_proved claim q nodes t.came f (λ cert. IsAfforded depth nodes claim q) t.tells
    (if_ok t.came _ _ (λ r within. memo_afforded nodes (target q claim) depth within) (t.lone by fresh).afforded)

on_dear : (claim : Claim) (q : Asked) (depth nodes : ℕ) (came : Result Refutation Unrefuted) (f : Found) → Tells claim q nodes came f → IfErr came (λ s. IfSpent s ((n : ℕ) → IsCost (target q claim) depth [] n → nodes < n)) → IsPaidSearch came (target q claim) depth nodes → IfSpentAt f (λ n. IsDear depth nodes claim q)
on_dear claim q depth nodes came (found.Proved cert) t dear lone = tt
on_dear claim q depth nodes came (found.Undecided l) t dear lone = tt
on_dear claim q depth nodes came (found.Countered g) t dear lone = tt
on_dear claim q depth nodes came (found.Spent n) (is, all) dear lone = record {
  cost = subst (λ (c : Result Refutation Unrefuted). IfErr c (λ s. IfSpent s ((m : ℕ) → IsCost (target q claim) depth [] m → nodes < m))) is dear;
  memo_cost = memo_spent nodes (target q claim) depth (subst (λ (c : Result Refutation Unrefuted). IfErr c (λ s. WhereLone (target q claim) depth (λ ps. IfSpent s (nodes ≤ unmoves_in_all ps)))) is lone.paid);
}

pub told_dear : (claim : Claim) (q : Asked) (depth nodes : ℕ) (run : Run) (f : Found) → run.reasons ≡ RuleLines → IsFresh run.memo → IsTold depth nodes run claim q f → IfSpentAt f (λ n. IsDear depth nodes claim q)
told_dear claim q depth nodes run f by fresh t = on_dear claim q depth nodes t.came f t.tells (t.comes.dear by) (t.lone by fresh)
