-- What it costs at least that a figure's man began on a home: there, as a pawn, or as a piece.
use Rattle.std.proofs.Common.{◌≡◌, ℕ, ◌+◌, ◌<◌, ◌≤◌, ◌==◌, inl, inr, min, Bool, true, false, cond, ◌&&◌, ◌||◌, not, List, refl, ap, sym, ◌∙◌, arith}
use Rattle.std.proofs.lemmas.Bool.{and_parts, and_from, cases_Bool, cases_lt, cond-true, cond-false, eqb-true, eq-eqb, ne_eqb, not-true, not_from_false, both_ways, false_from_ne_true}
use Rattle.std.specs.List.{list_any, range_with_len}
use Rattle.general_lemmas.proofs.Ranges.{any-found}
use Rattle.board_base.specs.Board.{is_in, man, rank, same_kind}
use Rattle.board_base.specs.Legal.{is_officer, last_rank}
use Rattle.board_base.specs.declared.men.Colour.{Colour}
use Rattle.board_base.specs.declared.men.Kind.{Kind}
use Rattle.board_base.specs.declared.men.Kind.TheVariants.{Pawn, King}
use Rattle.board_base.proofs.KindsOfMen.{kind_is, no_officer, same_kind-self}
use Rattle.cage_rules.proofs.Tested.{any-told}
use Rattle.men_fates.specs.Ways.{is_straight, is_way, toll, way_end}
use Rattle.capture_prices.specs.Prices.{PriceList, gate, take}
use Rattle.balance_rule.specs.Costs.{never, way_cost}
use Rattle.balance_rule.specs.LeastWays.{IsLeast}
use Rattle.balance_rule.proofs.Leasts.{least-plus}
use Rattle.balance_rule.proofs.Listed.{least-listed}
use Rattle.balance_rule.proofs.Seen.{end-inside}
use Rattle.figures.specs.Figures.{Figure, may_be}
use Rattle.sketch_grounds.specs.Limits.{Limit, allows, brings_in, comes_as, may_come_by, pawn_comes}
use Rattle.sketch_grounds.specs.Zones.{Room}
use Rattle.sketch_account.specs.Coming.{comes_by, comes_to, has_room, is_free, is_goal, is_promoted}
use Rattle.sketch_account.specs.Over.{IsLeastOver}
use Rattle.sketch_grounds.proofs.Freezing.{kind-there}
use Rattle.sketch_account.proofs.Over.{over-base, over-never}
use Rattle.sketch_grounds.proofs.Accesses.{some-kind}

shut : (a b : Bool) (x y : ℕ) → a ≡ true → cond (a || b) x y ≡ x
shut a b x y e = ap (λ (a : Bool). cond (a || b) x y) e

open_ : (a b : Bool) (x y : ℕ) → a ≡ false → b ≡ false → cond (a || b) x y ≡ y
open_ a b x y ea eb = ap (λ (a : Bool). cond (a || b) x y) ea ∙ ap (λ (b : Bool). cond b x y) eb

second : (a b : Bool) (x y : ℕ) → b ≡ true → cond (a || b) x y ≡ x
second true b x y e = refl
second false b x y e = ap (λ (b : Bool). cond b x y) e

base-or : (b : Bool) → 96 ≤ cond b 96 never
base-or true = omega arith
base-or false = omega arith

module _ (p : PriceList) (wall : List Bool) (R : Room) (c : Colour) (l : Limit) (h : ℕ) (f : Figure) where
  -- on the wall
  pub comes-home : (first : Kind) (some : Bool) (n : ℕ) → is_in wall h ≡ true → h < 64 → some ≡ list_any (λ k. true) f.kinds → n ≡ cond (some && is_in f.squares h) 96 never → IsLeastOver f (comes_as p wall R c l first h) n
  comes-home first some n walled inside some_is is =
      let g : Kind → ℕ → ℕ = comes_as p wall R c l first h in
      let each : (k : Kind) (s : ℕ) → g k s ≡ cond (h == s) 96 never = λ k s. shut (is_in wall h) (is_in wall s) (cond (h == s) 96 never) _ walled in
      elim (cases_Bool (some && is_in f.squares h)) [
        | inl here ↦
            let parts = and_parts some (is_in f.squares h) here in
            let x = kind-there (λ k. true) f.kinds (sym some_is ∙ parts.0) in
            rw (is ∙ cond-true _ 96 never here) (over-base f g x.0 h x.1 inside parts.1 (each x.0 h ∙ cond-true (h == h) 96 never (eq-eqb h h refl)) (λ k s may si member. let e : g k s ≡ cond (h == s) 96 never = each k s in omega (arith, base-or (h == s))))
        | inr none ↦
            rw (is ∙ cond-false _ 96 never none) (over-never f g (λ k s may si member. each k s ∙ cond-false (h == s) 96 never (ne_eqb h s (λ same. both_ways _ none (and_from _ _ (some_is ∙ some-kind (λ k. true) f.kinds k may refl) (ap (is_in f.squares) same ∙ member))))))
      ]

  module _ (free_home : is_in wall h ≡ false) where
    walled-never : (first : Kind) (k : Kind) (s : ℕ) → is_in wall s ≡ true → comes_as p wall R c l first h k s ≡ never
    walled-never first k s there =
        second (is_in wall h) (is_in wall s) (cond (h == s) 96 never) _ there ∙ cond-false (h == s) 96 never (ne_eqb h s (λ same. both_ways _ free_home (ap (is_in wall) same ∙ there)))

    -- as a piece
    pub comes-piece : (first : Kind) (plain place : Bool) (n : ℕ) → same_kind first Pawn ≡ false → plain ≡ allows l true → place ≡ list_any (λ s. is_free wall f s && (same_kind first King || R (man c first) h s)) (range_with_len 0 64) → n ≡ cond (plain && may_be f first && place) 96 never → IsLeastOver f (comes_as p wall R c l first h) n
    comes-piece first plain place n piece plain_is place_is is =
        let g : Kind → ℕ → ℕ = comes_as p wall R c l first h in
        let test : Kind → ℕ → Bool = λ k s. allows l true && same_kind first k && (same_kind first King || R (man c first) h s) in
        let off : (k : Kind) (s : ℕ) → is_in wall s ≡ false → g k s ≡ cond (test k s) 96 never = λ k s out. open_ (is_in wall h) (is_in wall s) (cond (h == s) 96 never) _ free_home out ∙ cond-false (same_kind first Pawn) _ _ piece in
        let bound : (k : Kind) (s : ℕ) → 96 ≤ g k s = λ k s. elim (cases_Bool (is_in wall s)) [
          | inl there ↦ let e : g k s ≡ never = walled-never first k s there in omega arith
          | inr out ↦ let e : g k s ≡ cond (test k s) 96 never = off k s out in omega (arith, base-or (test k s))
        ] in
        elim (cases_Bool (plain && may_be f first && place)) [
          | inl here ↦
              let parts = and_parts (plain && may_be f first) place here in
              let two = and_parts plain (may_be f first) parts.0 in
              let x = any-told (λ s. is_free wall f s && (same_kind first King || R (man c first) h s)) 0 64 (sym place_is ∙ parts.1) in
              let s : ℕ = x.0 in
              let three = and_parts (is_free wall f s) (same_kind first King || R (man c first) h s) x.2 in
              let four = and_parts (is_in f.squares s) (not (is_in wall s)) three.0 in
              let inside : s < 64 = x.1 in
              rw (is ∙ cond-true _ 96 never here) (over-base f g first s two.1 inside four.0 (off first s (not-true _ four.1) ∙ cond-true (test first s) 96 never (and_from _ _ (and_from _ _ (sym plain_is ∙ two.0) (same_kind-self first)) three.1)) (λ k s may si member. bound k s))
          | inr none ↦
              rw (is ∙ cond-false _ 96 never none) (over-never f g (λ k s may si member. elim (cases_Bool (is_in wall s)) [
                | inl there ↦ walled-never first k s there
                | inr out ↦ off k s out ∙ cond-false (test k s) 96 never (false_from_ne_true (test k s) (λ passes.
                    let parts = and_parts (allows l true && same_kind first k) (same_kind first King || R (man c first) h s) passes in
                    let two = and_parts (allows l true) (same_kind first k) parts.0 in
                    let there : place ≡ true = place_is ∙ any-found (λ s. is_free wall f s && (same_kind first King || R (man c first) h s)) 0 64 s (omega arith) (omega arith) (and_from _ _ (and_from _ _ member (not_from_false _ out)) parts.1) in
                    both_ways _ none (and_from _ _ (and_from _ _ (plain_is ∙ two.0) (ap (may_be f) (kind_is first k two.1) ∙ may)) there)))
              ]))
        ]

    module _ (goals : List Bool) (plain other : Bool) (on_board : h < 64) (plain_is : plain ≡ allows l true) (other_is : other ≡ allows l false) (goals_are : (e : ℕ) → e < 64 → is_in goals e ≡ is_goal R c wall f e) where
      -- a way brings him to s as a man of this kind, and the limit allows it
      abbrev brought : Kind → ℕ → List ℕ → Bool
      brought k s way = may_come_by l h k way && brings_in R c h way k s

      split : (x : Limit) (b : Bool) → cond b (allows x true) (allows x false) ≡ allows x b
      split x true = refl
      split x false = refl

      -- short of the last rank the limit allows what the two tests do
      by-short : (way : List ℕ) → (rank (way_end h way) == last_rank c) ≡ false → comes_by c plain other h way ≡ allows l (is_straight h way)
      by-short way short =
          ap (λ (b : Bool). cond (is_straight h way) (cond b other plain) other) short ∙ ap (λ (b : Bool). cond (is_straight h way) b other) plain_is ∙ ap (λ (b : Bool). cond (is_straight h way) (allows l true) b) other_is ∙ split l (is_straight h way)

      both-same : (a b : Bool) → cond a b b ≡ b
      both-same true b = refl
      both-same false b = refl

      by-last : (way : List ℕ) → (rank (way_end h way) == last_rank c) ≡ true → comes_by c plain other h way ≡ allows l false
      by-last way last = ap (λ (b : Bool). cond (is_straight h way) (cond b other plain) other) last ∙ both-same (is_straight h way) other ∙ other_is

      to-goal : (way : List ℕ) (k : Kind) (s : ℕ) → is_way c wall h way ≡ true → may_be f k ≡ true → s < 64 → is_in f.squares s ≡ true → is_in wall s ≡ false → brought k s way ≡ true → comes_to c goals plain other h way ≡ true
      to-goal way k s goes may inside member out so =
          let parts = and_parts (may_come_by l h k way) (brings_in R c h way k s) so in
          let e : ℕ = way_end h way in
          let on : e < 64 = end-inside c wall h way on_board goes in
          let free : is_free wall f s ≡ true = and_from _ _ member (not_from_false _ out) in
          elim (cases_Bool (same_kind Pawn k)) [
            | inl pawn ↦
                let it = and_parts (e == s) (not (rank s == last_rank c)) (sym (cond-true (same_kind Pawn k) _ _ pawn) ∙ parts.1) in
                let same : e ≡ s = eqb-true _ _ it.0 in
                let short : (rank e == last_rank c) ≡ false = ap (λ (u : ℕ). rank u == last_rank c) same ∙ not-true _ it.1 in
                and_from _ _ (goals_are e on ∙ cond-false (rank e == last_rank c) (is_promoted R c wall f e) (may_be f Pawn && is_free wall f e) short ∙ and_from _ _ (ap (may_be f) (kind_is Pawn k pawn) ∙ may) (ap (is_free wall f) same ∙ free))
                (by-short way short ∙ ap (λ (b : Bool). allows l (b && is_straight h way)) (sym pawn) ∙ parts.0)
            | inr piece ↦
                let it = and_parts ((rank e == last_rank c) && is_officer k) (R (man c k) e s) (sym (cond-false (same_kind Pawn k) _ _ piece) ∙ parts.1) in
                let two = and_parts (rank e == last_rank c) (is_officer k) it.0 in
                let room : has_room R c wall f e k ≡ true = any-found (λ s. is_free wall f s && R (man c k) e s) 0 64 s (omega arith) (omega arith) (and_from _ _ free it.1) in
                and_from _ _ (goals_are e on ∙ cond-true (rank e == last_rank c) (is_promoted R c wall f e) (may_be f Pawn && is_free wall f e) two.0 ∙ some-kind (λ k. is_officer k && has_room R c wall f e k) f.kinds k may (and_from _ _ two.1 room))
                (by-last way two.0 ∙ ap (λ (b : Bool). allows l (b && is_straight h way)) (sym piece) ∙ parts.0)
          ]

      record From (way : List ℕ) : Type 0 where
        kind : Kind
        square : ℕ
        may : may_be f kind ≡ true
        inside : square < 64
        member : is_in f.squares square ≡ true
        out : is_in wall square ≡ false
        so : brought kind square way ≡ true

      from-goal : (way : List ℕ) → is_way c wall h way ≡ true → comes_to c goals plain other h way ≡ true → From way
      from-goal way goes comes =
          let e : ℕ = way_end h way in
          let on : e < 64 = end-inside c wall h way on_board goes in
          let parts = and_parts (is_in goals e) (comes_by c plain other h way) comes in
          elim (cases_Bool (rank e == last_rank c)) [
            | inl last ↦
                let x = kind-there (λ k. is_officer k && has_room R c wall f e k) f.kinds (sym (goals_are e on ∙ cond-true (rank e == last_rank c) (is_promoted R c wall f e) (may_be f Pawn && is_free wall f e) last) ∙ parts.0) in
                let k : Kind = x.0 in
                let it = and_parts (is_officer k) (has_room R c wall f e k) x.2 in
                let y = any-told (λ s. is_free wall f s && R (man c k) e s) 0 64 it.1 in
                let two = and_parts (is_free wall f y.0) (R (man c k) e y.0) y.2 in
                let three = and_parts (is_in f.squares y.0) (not (is_in wall y.0)) two.0 in
                let piece : same_kind Pawn k ≡ false = no_officer Pawn k refl it.0 in
                record {
                  kind = k;
                  square = y.0;
                  may = x.1;
                  inside = y.1;
                  member = three.0;
                  out = not-true _ three.1;
                  so = and_from _ _ (ap (λ (b : Bool). allows l (b && is_straight h way)) piece ∙ sym (by-last way last) ∙ parts.1) (cond-false (same_kind Pawn k) _ _ piece ∙ and_from _ _ (and_from _ _ last it.0) two.1);
                }
            | inr short ↦
                let it = and_parts (may_be f Pawn) (is_free wall f e) (sym (goals_are e on ∙ cond-false (rank e == last_rank c) (is_promoted R c wall f e) (may_be f Pawn && is_free wall f e) short) ∙ parts.0) in
                let three = and_parts (is_in f.squares e) (not (is_in wall e)) it.1 in
                record {
                  kind = Pawn;
                  square = e;
                  may = it.0;
                  inside = on;
                  member = three.0;
                  out = not-true _ three.1;
                  so = and_from _ _ (sym (by-short way short) ∙ parts.1) (and_from _ _ (eq-eqb e e refl) (not_from_false _ short));
                }
          ]

      -- as a pawn
      pub comes-pawn : (t n : ℕ) → IsLeast c wall h (comes_to c goals plain other h) (toll (take p c) (gate p) h) t → n ≡ min never (96 + t) → IsLeastOver f (comes_as p wall R c l Pawn h) n
      unfolding pawn_comes
      comes-pawn t n tolls is =
          let g : Kind → ℕ → ℕ = comes_as p wall R c l Pawn h in
          let costs : IsLeast c wall h (comes_to c goals plain other h) (way_cost p c h) (min never (96 + t)) = least-plus c wall h (comes_to c goals plain other h) (toll (take p c) (gate p) h) (way_cost p c h) 96 t (λ way goes so. refl) tolls in
          let listed : (k : Kind) (s : ℕ) → IsLeast c wall h (brought k s) (way_cost p c h) (pawn_comes p wall R c l h k s) = λ k s. least-listed c wall h (brought k s) (way_cost p c h) on_board in
          let off : (k : Kind) (s : ℕ) → is_in wall s ≡ false → g k s ≡ pawn_comes p wall R c l h k s = λ k s out. open_ (is_in wall h) (is_in wall s) (cond (h == s) 96 never) (pawn_comes p wall R c l h k s) free_home out in
          let below : (k : Kind) (s : ℕ) → may_be f k ≡ true → s < 64 → is_in f.squares s ≡ true → min never (96 + t) ≤ g k s = λ k s may inside member. elim (cases_Bool (is_in wall s)) [
            | inl there ↦ let e : g k s ≡ never = walled-never Pawn k s there in omega arith
            | inr out ↦
                let e : g k s ≡ pawn_comes p wall R c l h k s = off k s out in
                let m : ℕ = pawn_comes p wall R c l h k s in
                elim (cases_lt m never) [
                  | inl low ↦
                      let x = (listed k s).found low in
                      let bound : min never (96 + t) ≤ way_cost p c h x.0 = costs.below x.0 x.1 (to-goal x.0 k s x.1 may inside member out x.2) in
                      let here : way_cost p c h x.0 ≡ m = x.3 in
                      omega arith
                  | inr high ↦ omega arith
                ]
          ] in
          rw is (record {
            most = costs.most;
            below = below;
            found = λ low.
                let x = costs.found low in
                let y = from-goal x.0 x.1 x.2 in
                let e : g y.kind y.square ≡ pawn_comes p wall R c l h y.kind y.square = off y.kind y.square y.out in
                let up : pawn_comes p wall R c l h y.kind y.square ≤ way_cost p c h x.0 = (listed y.kind y.square).below x.0 x.1 y.so in
                let cost : way_cost p c h x.0 ≡ min never (96 + t) = x.3 in
                let down : min never (96 + t) ≤ g y.kind y.square = below y.kind y.square y.may y.inside y.member in
                let same : g y.kind y.square ≡ min never (96 + t) = omega arith in
                record { kind = y.kind; square = y.square; may = y.may; inside = y.inside; member = y.member; is = same };
          })
