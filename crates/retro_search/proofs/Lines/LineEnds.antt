-- Where first open lines end, and the games that they are.
use Rattle.std.proofs.Common.{◌≡◌, ℕ, zero, suc, ◌⊎◌, inl, inr, true, false, List, [], ◌∷◌, ◌++◌, length, map, reverse, refl, sym, ap, ◌∙◌, subst}
use Rattle.std.specs.Prelude.{◌↔◌}
use Rattle.std.specs.List.{Contains}
use Rattle.std.proofs.lemmas.Bool.{both_ways}
use Rattle.std.proofs.lemmas.List.{map-append, reverse-append}
use Rattle.std.proofs.lemmas.List.Elements.{Contains-append_right}
use Rattle.board_base.specs.declared.moves.Move.{Move}
use Rattle.board_base.specs.declared.unmoves.Unmove.{Unmove}
use Rattle.general_lemmas.proofs.Lists.{contains-first}
use Rattle.query_base.specs.Asked.{Asked}
use Rattle.query_base.specs.Reach.{Contradicts, Reaches}
use Rattle.query_base.specs.Targets.{target}
use Rattle.query_base.specs.declared.claims.Claim.{Claim}
use Rattle.unmove_gen.specs.Listed.{unmoves}
use Rattle.unmove_gen.specs.Predecessor.{predecessor}
use Rattle.unmove_gen.proofs.Onward.{onward}
use Rattle.retro_search.specs.Lines.{EndsAtArray, IsFirstOpen, forwards}
use Rattle.retro_search.specs.Searched.{IsOpen}
use Rattle.retro_search.specs.Answers.{IsCounter, IsUndecided}
use Rattle.retro_search.specs.declared.unrefuted.OpenLine.{OpenLine}

-- a first open line is as long as the depth, or ends at the array
pub ends : (depth : ℕ) (q : Asked) (ancestors : List Asked) (line : List Unmove) → IsFirstOpen q depth ancestors line → (length line ≡ depth) ⊎ EndsAtArray q line
ends zero q ancestors line first = inl (ap length first)
ends (suc depth) q ancestors [] first = inr first
ends (suc depth) q ancestors (u ∷ line) first = elim (ends depth (predecessor q u) (q ∷ ancestors) line first.2) [
  | inl long ↦ inl (ap suc long)
  | inr here ↦ inr here
]

pub forwards-last : (u : Unmove) (line : List Unmove) → forwards line ++ u.mv ∷ [] ≡ forwards (u ∷ line)
forwards-last u line = sym (reverse-append (u.mv ∷ []) (map (λ (v : Unmove). v.mv) line))

-- a line that ends at the array is a game that reaches the query
pub game_reaches : (depth : ℕ) (q : Asked) (ancestors : List Asked) (line : List Unmove) → IsFirstOpen q depth ancestors line → EndsAtArray q line → Reaches (forwards line) q
game_reaches zero q ancestors line first end =
    subst (λ (l : List Unmove). Reaches (forwards l) q) (sym first) (subst (EndsAtArray q) first end)
game_reaches (suc depth) q ancestors [] first end = end
game_reaches (suc depth) q ancestors (u ∷ line) (elsewhere, (before, after, parts, all, fails), first) end =
    let listed : Contains (unmoves q) u = subst (λ (l : List Unmove). Contains l u) (sym parts) (Contains-append_right before (u ∷ after) u (contains-first u after)) in
    subst (λ (g : List Move). Reaches g q) (forwards-last u line) (onward (forwards line) u q listed (game_reaches depth (predecessor q u) (q ∷ ancestors) line first end))

pub forwards-reversed : (back : List Unmove) → forwards (reverse back) ≡ map (λ (u : Unmove). u.mv) back
forwards-reversed [] = refl
forwards-reversed (u ∷ back) =
    let f : Unmove → Move = λ v. v.mv in
    ap forwards (reverse-append (u ∷ []) back) ∙ ap reverse (map-append f (reverse back) (u ∷ [])) ∙ reverse-append (map f (reverse back)) (u.mv ∷ []) ∙ ap (λ (g : List Move). u.mv ∷ g) (forwards-reversed back)

-- a line that is open at the root
pub undecided : (line : OpenLine) (l : List Unmove) (q : Asked) (depth : ℕ) → IsOpen line q depth [] → l ≡ reverse line.back.items → line.at_array ≡ false → IsUndecided l q depth
undecided line l q depth o is apart =
    let elsewhere : EndsAtArray q (reverse line.back.items) → ⊥ = λ end. both_ways _ apart (o.marked.1 end) in
    subst (λ (us : List Unmove). IsUndecided us q depth) (sym is) (record {
      open_line = record { unrefuted = o.unrefuted; first = o.first };
      long = elim (ends depth q [] (reverse line.back.items) o.first) [ inl long ↦ long | inr end ↦ absurd (elsewhere end) ];
      elsewhere = elsewhere;
    })

-- one of the claim's target that ends at the array
pub countered : (line : OpenLine) (g : List Move) (claim : Claim) (q : Asked) (depth : ℕ) → ((h : List Move) → Reaches h (target q claim) ↔ Contradicts h claim q) → IsOpen line (target q claim) depth [] → g ≡ map (λ u. u.mv) line.back.items → line.at_array ≡ true → IsCounter g claim q depth
countered line g claim q depth contradicted o is array =
    let t : Asked = target q claim in
    let end : EndsAtArray t (reverse line.back.items) = o.marked.0 array in
    let game : g ≡ forwards (reverse line.back.items) = is ∙ sym (forwards-reversed line.back.items) in
    let reaches : Reaches g t = subst (λ (h : List Move). Reaches h t) (sym game) (game_reaches depth t [] (reverse line.back.items) o.first end) in
    record {
      line = reverse line.back.items;
      open_line = record { unrefuted = o.unrefuted; first = o.first };
      at_array = end;
      forwards_is = game;
      contradicts = (contradicted g).0 reaches;
    }
