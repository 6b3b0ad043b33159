-- Which of some games reach a query, and which end with an unmove.
use Rattle.std.proofs.Common.{◌≡◌, ℕ, ◌+◌, ◌-◌, ◌<◌, ◌≤◌, Bool, true, false, List, [], ◌∷◌, ◌++◌, length, get_or, take, drop, refl, ap, sym, subst, ◌∙◌, arith, append_assoc, length-append, take-append-drop}
use Rattle.std.specs.Prelude.{◌↔◌, IsTrue, Some, slice_get}
use Rattle.std.specs.List.{All, Contains}
use Rattle.std.proofs.lemmas.Bool.{both_ways}
use Rattle.std.proofs.lemmas.List.{take-append-le, take-take, take_all}
use Rattle.std.proofs.lemmas.List.Elements.{All-contains, All-more, All-same}
use Rattle.general_lemmas.proofs.Splits.{up_to}
use Rattle.board_base.specs.Game.{IsGame, legal_after}
use Rattle.board_base.specs.declared.moves.Move.{Move}
use Rattle.board_base.specs.declared.unmoves.Unmove.{Unmove}
use Rattle.query_base.specs.Asked.{Asked}
use Rattle.query_base.specs.Reach.{Reaches}
use Rattle.unmove_gen.specs.Predecessor.{predecessor, unmove_after}
use Rattle.claim_findings.specs.SearchEnds.{IsEndedBy, IsReachedIn}
use Rattle.claim_findings.specs.Games.{IsEndIn}
use Rattle.claim_findings.proofs.Steps.{at_place}

-- a front of a game has no move that isn't legal
pub illegal_in : (o : List Bool) (game : List Move) (number i : ℕ) (m : Move) → i < number → number ≤ length game → slice_get game i ≡ Some m → legal_after o (take i game) m ≡ false → IsGame o (take number game) → ⊥
illegal_in o game number i m within few there illegal is =
    let longer : take (i + 1) game ≡ take i game ++ m ∷ [] = up_to game i m (omega (arith, within, few)) (at_place game i m there) in
    let whole : take number game ≡ take i game ++ m ∷ drop (i + 1) (take number game) =
    split_of (take number game) (take i game) m (i + 1) (take-take (i + 1) number game (omega (arith, within)) ∙ longer) in
    both_ways _ illegal (is (take i game) (drop (i + 1) (take number game)) m whole)
  where
    split_of : (g before : List Move) (m : Move) (n : ℕ) → take n g ≡ before ++ m ∷ [] → g ≡ before ++ m ∷ drop n g
    split_of g before m n e = sym (take-append-drop n g) ∙ ap (λ (l : List Move). l ++ drop n g) e ∙ append_assoc before (m ∷ []) (drop n g)

-- whether the whole game reaches the query
pub reached : (r : Bool) (game : List Move) (n : ℕ) (q : Asked) → n ≡ length game → (IsTrue r ↔ Reaches (take n game) q) → r ≡ true → Reaches game q
reached r game n q counted says so = subst (λ (g : List Move). Reaches g q) (take_all n game (omega (arith, counted))) (says.0 so)

pub unreached : (r : Bool) (game : List Move) (n : ℕ) (q : Asked) → n ≡ length game → (IsTrue r ↔ Reaches (take n game) q) → r ≡ false → Reaches game q → ⊥
unreached r game n q counted says fails here = both_ways r fails (says.1 (subst (λ (g : List Move). Reaches g q) (sym (take_all n game (omega (arith, counted)))) here))

-- what holds of the elements so far holds of one more
pub all_more : (P : List Move → Type 0) (xs : List (List Move)) (i : ℕ) (x : List Move) → i < length xs → x ≡ get_or xs i x → All P (take i xs) → P x → All P (take (i + 1) xs)
all_more P xs i x inside is all here = All-more P xs i x inside all (subst P is here)

whole : (P : List Move → Type 0) (found items : List (List Move)) (i : ℕ) → length found ≤ i → found ≡ items → All P (take i found) → All P items
whole P found items i past is all = All-same P items found (sym is) (All-same P found (take i found) (sym (take_all i found past)) all)

among : (found items : List (List Move)) (i : ℕ) (g : List Move) → i < length found → g ≡ get_or found i g → found ≡ items → Contains items g
among found items i g inside at is = let there : Contains found g = (i, inside, sym at) in subst (λ (l : List (List Move)). Contains l g) is there

-- none of the games reaches the query, or one does
pub none_reach : (found items : List (List Move)) (i : ℕ) (q : Asked) → length found ≤ i → found ≡ items → All (λ g. Reaches g q → ⊥) (take i found) → IsTrue false ↔ IsReachedIn items q
none_reach found items i q past is all =
    let none : All (λ g. Reaches g q → ⊥) items = whole (λ g. Reaches g q → ⊥) found items i past is all in
    (λ h. absurd (both_ways false refl h), λ one. absurd (All-contains (λ g. Reaches g q → ⊥) items one.0 none one.1 one.2))

pub one_reaches : (found items : List (List Move)) (i : ℕ) (g : List Move) (q : Asked) → i < length found → g ≡ get_or found i g → found ≡ items → Reaches g q → IsTrue true ↔ IsReachedIn items q
one_reaches found items i g q inside at is here = (λ h. (g, among found items i g inside at is, here), λ one. refl)

-- a game's last move
last_of : (g : List Move) (m : Move) → slice_get (g ++ m ∷ []) (length g) ≡ Some m
last_of [] m = refl
last_of (n ∷ g) m = last_of g m

before_last : (game g : List Move) (m : Move) (n : ℕ) → n ≡ length game → game ≡ g ++ m ∷ [] → n - 1 ≡ length g
before_last game g m n counted e = omega (arith, counted, ap length e, length-append g (m ∷ []))

front_is : (game g : List Move) (m : Move) (n : ℕ) → n ≡ length game → game ≡ g ++ m ∷ [] → take (n - 1) game ≡ g
front_is game g m n counted e =
    let at : n - 1 ≡ length g = before_last game g m n counted e in
    ap (λ (k : ℕ). take k game) at ∙ ap (take (length g)) e ∙ take-append-le (length g) g (m ∷ []) (omega arith) ∙ take_all (length g) g (omega arith)

last_is : (game g : List Move) (m : Move) (n : ℕ) → n ≡ length game → game ≡ g ++ m ∷ [] → slice_get game (n - 1) ≡ Some m
last_is game g m n counted e = ap (slice_get game) (before_last game g m n counted e) ∙ ap (λ (l : List Move). slice_get l (length g)) e ∙ last_of g m

pub ended : (game : List Move) (m : Move) (before : Asked) (n : ℕ) (r : Bool) → n ≡ length game → (n ≡ 0 → ⊥) → slice_get game (n - 1) ≡ Some m → (IsTrue r ↔ Reaches (take (n - 1) game) before) → IsTrue r ↔ IsEndedBy game m before
ended game m before n r counted some last says =
    let next : n - 1 + 1 ≡ n = omega (arith, some) in
    let split : game ≡ take (n - 1) game ++ m ∷ [] =
    sym (take_all n game (omega (arith, counted))) ∙ ap (λ (k : ℕ). take k game) (sym next) ∙ up_to game (n - 1) m (omega (arith, some, counted)) (at_place game (n - 1) m last) in
    (λ h. (take (n - 1) game, split, says.0 h), λ end. says.1 (subst (λ (g : List Move). Reaches g before) (sym (front_is game end.0 m n counted end.1)) end.2))

pub no_moves : (game : List Move) (m : Move) (before : Asked) (n : ℕ) → n ≡ length game → n ≡ 0 → IsTrue false ↔ IsEndedBy game m before
no_moves game m before n counted none =
    (λ h. absurd (both_ways false refl h), λ end. absurd (omega (arith, counted, none, ap length end.1, length-append end.0 (m ∷ []))))

pub other_last : (game : List Move) (m : Move) (before : Asked) (n : ℕ) → n ≡ length game → (slice_get game (n - 1) ≡ Some m → ⊥) → IsTrue false ↔ IsEndedBy game m before
other_last game m before n counted other =
    (λ h. absurd (both_ways false refl h), λ end. absurd (other (last_is game end.0 m n counted end.1)))

-- none of the games ends with the unmove
pub none_end : ((g : List Move) (m : Move) (q : Asked) → Reaches (g ++ m ∷ []) q → Reaches g (predecessor q (unmove_after q.odds g m))) → (q before : Asked) (u : Unmove) (found items : List (List Move)) (i : ℕ) → before ≡ predecessor q u → length found ≤ i → found ≡ items → All (λ h. IsEndedBy h u.mv before → ⊥) (take i found) → IsTrue false ↔ IsEndIn items q u
none_end back q before u found items i front past is all =
    let none : All (λ h. IsEndedBy h u.mv before → ⊥) items = whole (λ h. IsEndedBy h u.mv before → ⊥) found items i past is all in (
      λ h. absurd (both_ways false refl h),
      λ end.
          let here : Reaches end.0 (predecessor q u) = subst (λ (v : Unmove). Reaches end.0 (predecessor q v)) end.3 (back end.0 u.mv q end.2) in
          absurd (All-contains (λ h. IsEndedBy h u.mv before → ⊥) items (end.0 ++ u.mv ∷ []) none end.1 (end.0, refl, subst (λ (a : Asked). Reaches end.0 a) (sym front) here)),
    )

pub one_ends : (q before : Asked) (u : Unmove) (found items : List (List Move)) (i : ℕ) (h : List Move) → ((g : List Move) → Reaches g before → Reaches (g ++ u.mv ∷ []) q × (unmove_after q.odds g u.mv ≡ u)) → i < length found → h ≡ get_or found i h → found ≡ items → IsEndedBy h u.mv before → IsTrue true ↔ IsEndIn items q u
one_ends q before u found items i h onward inside at is end =
    let there : Contains items (end.0 ++ u.mv ∷ []) = subst (Contains items) end.1 (among found items i h inside at is) in
    let here = onward end.0 end.2 in
    (λ h. (end.0, there, here.0, here.1), λ one. refl)
