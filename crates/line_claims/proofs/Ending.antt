-- Where each part due holds, so does the claim.
use Rattle.std.proofs.Common.{◌≡◌, suc, ◌≤◌, Bool, true, List, [], ◌∷◌, ◌++◌, length, map, inl, inr, refl, sym, ap, ◌∙◌, subst, arith, append_assoc, length-append}
use Rattle.std.proofs.lemmas.Bool.{cases_Bool, both_ways}
use Rattle.std.proofs.lemmas.List.Elements.{All-contains, All-tail, Contains-append_left}
use Rattle.std.proofs.lemmas.Option.{same_Some}
use Rattle.std.specs.Prelude.{Option, None, slice_get}
use Rattle.std.specs.List.{All, Contains}
use Rattle.board_base.specs.Game.{last_move, unmoved}
use Rattle.board_base.specs.Legal.{is_move}
use Rattle.board_base.specs.Rights.{with_castling}
use Rattle.board_base.specs.declared.castles.Castle.{Castle}
use Rattle.board_base.specs.declared.moves.Move.{Move}
use Rattle.board_base.specs.declared.unmoves.Unmove.{Unmove}
use Rattle.board_base.proofs.Equal.{last_is, move_self}
use Rattle.board_base.proofs.Rights.{held_or_added}
use Rattle.general_lemmas.proofs.Lists.{by_last, contains-filter, contains-first, contains-later, contains-map}
use Rattle.play_rules.proofs.Doubles.{last_move-more}
use Rattle.query_base.specs.Asked.{Asked}
use Rattle.query_base.specs.Reach.{EndsWith, Holds, Reaches}
use Rattle.query_base.specs.declared.claims.Claim.{Claim}
use Rattle.query_base.specs.declared.claims.Claim.TheVariants.{Illegal, Last}
use Rattle.unmove_gen.specs.Listed.{unmoves}
use Rattle.unmove_gen.specs.Predecessor.{predecessor, unmove_after}
use Rattle.unmove_gen.proofs.Taken.{listed_after, reached_after}
use Rattle.line_claims.specs.declared.claims.LineClaim.{LineClaim}
use Rattle.line_claims.specs.declared.claims.LineClaim.TheVariants.{NotBoth, Line}
use Rattle.line_claims.specs.Due.{excluded, is_other, parts_due, parts_of_step, parts_of_steps, siblings, with_both}
use Rattle.line_claims.specs.Holding.{EndsBy, HoldsLine}
use Rattle.line_claims.proofs.LastItems.{same_end, same_front}
use Rattle.line_claims.proofs.Others.{same_or_other}

-- every one of the parts holds
abbrev pub AllHold : List (Claim × Asked) → Type 0
AllHold parts = All (λ part. Holds part.0 part.1) parts

-- a game of which it can't be that it ends otherwise
ended : (g : List Move) (m : Move) → ((EndsWith g m → ⊥) → ⊥) → EndsWith g m
ended g m claimed = elim (cases_Bool (is_move (last_move g) m)) [
  | inl is ↦ last_is (last_move g) m is
  | inr other ↦ absurd (claimed (λ ends. both_ways _ other (ap (λ (o : Option Move). is_move o m) ends ∙ move_self m)))
]

-- the game is of moves and this one after them
record EndsIn (g : List Move) (m : Move) : Type 0 where
  front : List Move
  whole : g ≡ front ++ m ∷ []

ends_in : (g : List Move) (m : Move) → EndsWith g m → EndsIn g m
ends_in g m ends = elim (by_last g) [
  | inl none ↦ let gone : last_move g ≡ None = ap last_move none in absurd cc
  | inr last ↦
      let same : last.1 ≡ m = same_Some _ _ (sym (last_move-more last.0 last.1) ∙ ap last_move (sym last.2) ∙ ends) in
      record { front = last.0; whole = last.2 ∙ ap (λ (k : Move). last.0 ++ k ∷ []) same }
]

part_holds : (parts : List (Claim × Asked)) → AllHold parts → (part : Claim × Asked) → Contains parts part → Holds part.0 part.1
part_holds parts all part among = All-contains (λ (p : Claim × Asked). Holds p.0 p.1) parts part all among

-- the parts of a step and of those after it
first_part : (q : Asked) (u : Unmove) (us : List Unmove) → AllHold (parts_of_steps q (u ∷ us)) → Holds (Last u.mv) q
first_part q u us all = part_holds (parts_of_steps q (u ∷ us)) all (Last u.mv, q) (contains-first (Last u.mv, q) (map (excluded q) (siblings q u) ++ parts_of_steps (predecessor q u) us))

sibling_part : (q : Asked) (u v : Unmove) (us : List Unmove) → AllHold (parts_of_steps q (u ∷ us)) → Contains (unmoves q) v → is_other u v ≡ true → Holds Illegal (predecessor q v)
unfolding siblings
sibling_part q u v us all listed other =
    let among : Contains (siblings q u) v = contains-filter (is_other u) (unmoves q) v listed other in
    let part : Contains (parts_of_step q u) (excluded q v) = contains-later (Last u.mv, q) (map (excluded q) (siblings q u)) (excluded q v) (contains-map (excluded q) (siblings q u) v among) in
    part_holds (parts_of_steps q (u ∷ us)) all (excluded q v) (Contains-append_left (parts_of_step q u) (parts_of_steps (predecessor q u) us) (excluded q v) part)

later_parts : (q : Asked) (u : Unmove) (us : List Unmove) → AllHold (parts_of_steps q (u ∷ us)) → AllHold (parts_of_steps (predecessor q u) us)
later_parts q u us all = All-later (λ (part : Claim × Asked). Holds part.0 part.1) (parts_of_step q u) _ all
  where
    All-later : {A : Type 0} (P : A → Type 0) (xs ys : List A) → All P (xs ++ ys) → All P ys
    All-later {A} P [] ys all = all
    All-later {A} P (x ∷ xs) ys all = All-later P xs ys (All-tail P x (xs ++ ys) all)

-- one more move, that of the step
one_more : (o : List Bool) (g : List Move) (m : Move) (u : Unmove) (us : List Unmove) → unmove_after o g m ≡ u → EndsBy o g us → EndsBy o (g ++ m ∷ []) (u ∷ us)
one_more o g m u us is before = record {
  long = let few : length us ≤ length g = before.long in omega (arith, length-append g (m ∷ []));
  same = λ front after n v e there. elim (by_last after) [
    | inl none ↦
        let whole : g ++ m ∷ [] ≡ front ++ n ∷ [] = e ∙ ap (λ (l : List Move). front ++ n ∷ l) none in
        let first : u ≡ v = same_Some _ _ (sym (ap (λ (l : List Move). slice_get (u ∷ us) (length l)) none) ∙ there) in
        ap (λ (l : List Move). unmove_after o l n) (sym (same_front g front m n whole)) ∙ ap (unmove_after o g) (sym (same_end g front m n whole)) ∙ is ∙ first
    | inr last ↦
        let whole : g ++ m ∷ [] ≡ (front ++ n ∷ last.0) ++ last.1 ∷ [] = e ∙ ap (λ (l : List Move). front ++ n ∷ l) last.2 ∙ sym (append_assoc front (n ∷ last.0) (last.1 ∷ [])) in
        let place : length after ≡ suc (length last.0) = ap length last.2 ∙ length-append last.0 (last.1 ∷ []) ∙ omega arith in
        before.same front last.0 n v (same_front g (front ++ n ∷ last.0) m last.1 whole) (sym (ap (slice_get (u ∷ us)) place) ∙ there)
  ];
}

-- a game that reaches the query ends by the steps
ends_by : (steps : List Unmove) (q : Asked) → AllHold (parts_of_steps q steps) → (g : List Move) → Reaches g q → EndsBy q.odds g steps
ends_by [] q all g r = record { long = omega arith; same = λ front after n v e there. absurd cc }
ends_by (u ∷ us) q all g r =
    let last = ends_in g u.mv (ended g u.mv (λ other. first_part q u us all g (r, other))) in
    let reached : Reaches (last.front ++ u.mv ∷ []) q = subst (λ (l : List Move). Reaches l q) last.whole r in
    let v : Unmove = unmove_after q.odds last.front u.mv in
    let before : Reaches last.front (predecessor q v) = reached_after last.front u.mv q reached in
    elim (same_or_other u v refl) [
      | inr other ↦ absurd (sibling_part q u v us all (listed_after last.front u.mv q reached) other last.front before)
      | inl same ↦
          let rest : EndsBy q.odds last.front us = ends_by us (predecessor q u) (later_parts q u us all) last.front (subst (λ (w : Unmove). Reaches last.front (predecessor q w)) same before) in
          subst (λ (l : List Move). EndsBy q.odds l (u ∷ us)) (sym last.whole) (one_more q.odds last.front u.mv u us same rest)
    ]

-- a game that leaves both castlings unmoved reaches the query with both held
reaches_both : (g : List Move) (q : Asked) (x y : Castle) → Reaches g q → unmoved q.odds g x ≡ true → unmoved q.odds g y ≡ true → Reaches g (with_both q x y)
reaches_both g q x y r first second = record {
  odds = r.odds;
  game = r.game;
  board = r.board;
  turn = r.turn;
  held = λ z h. elim (held_or_added (with_castling q.held x) y z h) [
    | inl same ↦ subst (λ (c : Castle). unmoved q.odds g c ≡ true) (sym same) second
    | inr h2 ↦ elim (held_or_added q.held x z h2) [
      | inl same ↦ subst (λ (c : Castle). unmoved q.odds g c ≡ true) (sym same) first
      | inr h3 ↦ r.held z h3
    ]
  ];
  only = r.only;
  barred = r.barred;
  clock = r.clock;
}

pub holds_by_parts : (claim : LineClaim) (q : Asked) → AllHold (parts_due claim q) → HoldsLine claim q
holds_by_parts (NotBoth x y) q all = λ g r first second. part_holds (parts_due (NotBoth x y) q) all (Illegal, with_both q x y) (contains-first (Illegal, with_both q x y) []) g (reaches_both g q x y r first second)
holds_by_parts (Line steps) q all = ends_by steps q all
