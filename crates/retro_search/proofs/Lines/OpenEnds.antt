-- Open lines, from their ends, and the games that they are.
use Rattle.std.proofs.Common.{◌≡◌, ℕ, zero, suc, ◌≤◌, ◌⊎◌, inl, inr, true, false, List, [], ◌∷◌, ◌++◌, Bool, length, map, reverse, sym, ap, ◌∙◌, subst, arith}
use Rattle.std.specs.Prelude.{IsTrue, ◌↔◌}
use Rattle.std.specs.List.{Contains}
use Rattle.std.proofs.lemmas.Bool.{both_ways}
use Rattle.std.proofs.lemmas.List.{length-map, length-reverse}
use Rattle.board_base.specs.declared.moves.Move.{Move}
use Rattle.board_base.specs.declared.unmoves.Unmove.{Unmove}
use Rattle.general_lemmas.proofs.Lasts.{pushed}
use Rattle.query_base.specs.Asked.{Asked}
use Rattle.query_base.specs.Reach.{Contradicts, Reaches}
use Rattle.query_base.specs.Targets.{target}
use Rattle.query_base.specs.declared.claims.Claim.{Claim}
use Rattle.unmove_gen.specs.Listed.{unmoves}
use Rattle.unmove_gen.specs.Predecessor.{predecessor}
use Rattle.unmove_gen.proofs.Onward.{onward}
use Rattle.retro_search.specs.Refutable.{IsRefutable, IsShut}
use Rattle.retro_search.specs.Lines.{EndsAtArray, forwards}
use Rattle.retro_search.specs.declared.unrefuted.OpenLine.{OpenLine}
use Rattle.retro_search.proofs.Lines.LineEnds.{forwards-last, forwards-reversed}
use Rattle.retro_search.proofs.Lines.OpenLines.{leaf-unrefuted}
use Rattle.retro_search.specs.Unsettled.{IsAgainst, IsOpenLine, StaysUnsettled}
use Rattle.retro_search.specs.Searched.{IsUnsettled}

open_leaf : (depth : ℕ) (q : Asked) (ancestors : List Asked) → (IsShut q ancestors → ⊥) → (depth ≡ 0) ⊎ Reaches [] q → IsOpenLine q depth ancestors []
open_leaf zero q ancestors unshut end = (unshut, end)
open_leaf (suc depth) q ancestors unshut end = (unshut, end)

-- a query that isn't shut stays open with no unmove, where none is taken back
pub leaf_unsettled : (line : OpenLine) (depth : ℕ) (q : Asked) (ancestors : List Asked) → line.back.items ≡ [] → (IsTrue line.at_array ↔ Reaches [] q) → (IsShut q ancestors → ⊥) → (depth ≡ 0) ⊎ Reaches [] q → IsUnsettled line q depth ancestors
leaf_unsettled line depth q ancestors empty marked unshut end =
    let none : [] ≡ reverse line.back.items = ap reverse (sym empty) in
    record {
      unrefuted = leaf-unrefuted depth q ancestors unshut end;
      open_line = subst (IsOpenLine q depth ancestors) none (open_leaf depth q ancestors unshut end);
      marked = subst (λ (l : List Unmove). IsTrue line.at_array ↔ EndsAtArray q l) none marked;
    }

-- a query is open where one of its predecessors is
pub longer_unsettled : (kid line : OpenLine) (q : Asked) (u : Unmove) (depth : ℕ) (ancestors : List Asked) → Contains (unmoves q) u → (Reaches [] q → ⊥) → (IsShut q ancestors → ⊥) → line.back.items ≡ kid.back.items ++ u ∷ [] → line.at_array ≡ kid.at_array → IsUnsettled kid (predecessor q u) depth (q ∷ ancestors) → IsUnsettled line q (suc depth) ancestors
longer_unsettled kid line q u depth ancestors listed elsewhere unshut grown same o =
    let back : u ∷ reverse kid.back.items ≡ reverse line.back.items = sym (pushed kid.back.items line.back.items u grown) in
    record {
      unrefuted = λ h. elim h [ inl shut ↦ unshut shut | inr below ↦ o.unrefuted (below.1 u listed) ];
      open_line = subst (IsOpenLine q (suc depth) ancestors) back (unshut, elsewhere, listed, o.open_line);
      marked = subst (λ (l : List Unmove). IsTrue line.at_array ↔ EndsAtArray q l) back (subst (λ (b : Bool). IsTrue b ↔ EndsAtArray (predecessor q u) (reverse kid.back.items)) (sym same) o.marked);
    }

end_of : (depth : ℕ) (q : Asked) → (depth ≡ 0) ⊎ Reaches [] q → (0 ≡ depth) ⊎ EndsAtArray q []
end_of depth q (inl none) = inl (sym none)
end_of depth q (inr here) = inr here

-- an open line is as long as the depth, or ends at the array
line_ends : (line : List Unmove) (q : Asked) (depth : ℕ) (ancestors : List Asked) → IsOpenLine q depth ancestors line → (length line ≡ depth) ⊎ EndsAtArray q line
line_ends [] q depth ancestors o = end_of depth q o.1
line_ends (u ∷ line) q zero ancestors o = absurd o
line_ends (u ∷ line) q (suc depth) ancestors o = elim (line_ends line (predecessor q u) depth (q ∷ ancestors) o.3) [
  | inl long ↦ inl (ap suc long)
  | inr here ↦ inr here
]

line_short : (line : List Unmove) (q : Asked) (depth : ℕ) (ancestors : List Asked) → IsOpenLine q depth ancestors line → length line ≤ depth
line_short [] q depth ancestors o = omega arith
line_short (u ∷ line) q zero ancestors o = absurd o
line_short (u ∷ line) q (suc depth) ancestors o = let rest = line_short line (predecessor q u) depth (q ∷ ancestors) o.3 in omega arith

-- a line that ends at the array is a game that reaches the query
line_reaches : (line : List Unmove) (q : Asked) (depth : ℕ) (ancestors : List Asked) → IsOpenLine q depth ancestors line → EndsAtArray q line → Reaches (forwards line) q
line_reaches [] q depth ancestors o end = end
line_reaches (u ∷ line) q zero ancestors o end = absurd o
line_reaches (u ∷ line) q (suc depth) ancestors o end =
    subst (λ (g : List Move). Reaches g q) (forwards-last u line) (onward (forwards line) u q o.2 (line_reaches line (predecessor q u) depth (q ∷ ancestors) o.3 end))

-- and the query is refutable at no depth
line_unrefuted : (line : List Unmove) (q : Asked) (depth : ℕ) (ancestors : List Asked) → IsOpenLine q depth ancestors line → EndsAtArray q line → (more : ℕ) → IsRefutable q more ancestors → ⊥
line_unrefuted [] q depth ancestors o end more h = leaf-unrefuted more q ancestors o.0 (inr end) h
line_unrefuted (u ∷ line) q zero ancestors o end more h = absurd o
line_unrefuted (u ∷ line) q (suc depth) ancestors o end zero h = o.0 h
line_unrefuted (u ∷ line) q (suc depth) ancestors o end (suc more) h = elim h [
  | inl shut ↦ o.0 shut
  | inr below ↦ line_unrefuted line (predecessor q u) depth (q ∷ ancestors) o.3 end more (below.1 u o.2)
]

-- a line that is open at the root
pub unsettled : (line : OpenLine) (l : List Unmove) (q : Asked) (depth : ℕ) → IsUnsettled line q depth [] → l ≡ reverse line.back.items → line.at_array ≡ false → StaysUnsettled l q depth
unsettled line l q depth o is apart =
    let elsewhere : EndsAtArray q (reverse line.back.items) → ⊥ = λ end. both_ways _ apart (o.marked.1 end) in
    subst (λ (us : List Unmove). StaysUnsettled us q depth) (sym is) (record {
      unrefuted = o.unrefuted;
      open_line = o.open_line;
      long = elim (line_ends (reverse line.back.items) q depth [] o.open_line) [ inl long ↦ long | inr end ↦ absurd (elsewhere end) ];
      elsewhere = elsewhere;
    })

-- one of the claim's target that ends at the array
pub against : (line : OpenLine) (g : List Move) (claim : Claim) (q : Asked) (depth : ℕ) → ((h : List Move) → Reaches h (target q claim) ↔ Contradicts h claim q) → IsUnsettled line (target q claim) depth [] → g ≡ map (λ u. u.mv) line.back.items → line.at_array ≡ true → IsAgainst g claim q depth
against line g claim q depth contradicted o is array =
    let t : Asked = target q claim in
    let end : EndsAtArray t (reverse line.back.items) = o.marked.0 array in
    let game : g ≡ forwards (reverse line.back.items) = is ∙ sym (forwards-reversed line.back.items) in
    let reaches : Reaches g t = subst (λ (h : List Move). Reaches h t) (sym game) (line_reaches (reverse line.back.items) t depth [] o.open_line end) in
    let short = line_short (reverse line.back.items) t depth [] o.open_line in
    record {
      line = reverse line.back.items;
      open_line = o.open_line;
      at_array = end;
      forwards_is = game;
      contradicts = (contradicted g).0 reaches;
      short = omega (arith, ap length is, length-map line.back.items (λ (u : Unmove). u.mv), length-reverse line.back.items);
      unrefuted = line_unrefuted (reverse line.back.items) t depth [] o.open_line end;
    }
