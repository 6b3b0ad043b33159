-- The least toll of the ways that bring a pawn somewhere.
use Rattle.std.proofs.Common.{◌≡◌, ℕ, ◌+◌, ◌<◌, ◌≤◌, inl, inr, Bool, true, false, ◌&&◌, ◌==◌, not, min, List, [], slice_index, refl, ap, sym, ◌∙◌, arith}
use Rattle.std.proofs.lemmas.Bool.{and_from, and_parts, both_ways, cases_eq, eq-eqb, eqb-true, lt-ltb, ltb-true, ne_eqb, not_from_false, not-true}
use Rattle.std.specs.Prelude.{nat_lt, slice_index_or}
use Rattle.board_base.specs.Board.{is_in, man, rank}
use Rattle.board_base.specs.Legal.{is_officer, last_rank}
use Rattle.board_base.specs.declared.men.Colour.{Colour}
use Rattle.board_base.specs.declared.men.Colour.TheVariants.{White, Black}
use Rattle.board_base.specs.declared.men.Kind.{Kind}
use Rattle.board_base.specs.declared.men.Kind.TheVariants.{Pawn, Knight, Bishop, Rook, Queen, King}
use Rattle.cage_rules.specs.Regions.{region_from}
use Rattle.men_fates.specs.Fates.{brings}
use Rattle.men_fates.specs.Ways.{toll, way_end}
use Rattle.capture_prices.specs.Prices.{PriceList, gate, take}
use Rattle.balance_rule.specs.Costs.{never}
use Rattle.balance_rule.specs.Grounds.{ArePromoted}
use Rattle.balance_rule.specs.LeastWays.{IsLeast, IsReach, ends_on, seen_by, toll_of}
use Rattle.balance_rule.specs.declared.reaches.Reach.{Reach}
use Rattle.balance_rule.proofs.Leasts.{least-either, least-like, least-none}
use Rattle.balance_rule.proofs.Reaching.{toll-least}
use Rattle.balance_rule.proofs.Seen.{end-inside, seen-inside, seen-seen}

-- the last rank is that of the last numbers
pub last-rank : (c : Colour) (i : ℕ) → i < 64 → 56 ≤ i → (rank (seen_by c i) == last_rank c) ≡ true
last-rank White i inside last = eq-eqb _ _ (omega arith)
last-rank Black i inside last = eq-eqb _ _ (omega arith)

pub short-of : (c : Colour) (i : ℕ) → i < 64 → i < 56 → (rank (seen_by c i) == last_rank c) ≡ false
short-of White i inside low = ne_eqb _ _ (λ same. omega arith)
short-of Black i inside low = ne_eqb _ _ (λ same. omega arith)

pub last-number : (c : Colour) (s : ℕ) → s < 64 → (rank s == last_rank c) ≡ true → 56 ≤ seen_by c s
last-number White s inside last = let r : rank s ≡ 7 = eqb-true _ _ last in omega arith
last-number Black s inside last = let r : rank s ≡ 0 = eqb-true _ _ last in omega arith

-- what brings an officer somewhere
pub brings-officer : (set : List Bool) (c : Colour) (h : ℕ) (way : List ℕ) (k : Kind) (s : ℕ) → is_officer k ≡ true → brings set c h way k s ≡ ((rank (way_end h way) == last_rank c) && is_officer k && is_in (region_from set (man c k) (way_end h way)) s)
brings-officer set c h way Pawn s officer = cc
brings-officer set c h way Knight s officer = refl
brings-officer set c h way Bishop s officer = refl
brings-officer set c h way Rook s officer = refl
brings-officer set c h way Queen s officer = refl
brings-officer set c h way King s officer = refl

no-king : (a b : Bool) → (a && false && b) ≡ true → ⊥
no-king true b h = both_ways false refl h
no-king false b h = both_ways false refl h

-- the ways that bring him there by one of the first files of the last rank
abbrev pub by_files : List Bool → Colour → ℕ → Kind → ℕ → ℕ → List ℕ → Bool
by_files set c h k s f way = brings set c h way k s && nat_lt (seen_by c (way_end h way)) (56 + f)

module _ (p : PriceList) (set : List Bool) (c : Colour) (k : Kind) (h s : ℕ) (on_board : h < 64) (officer : is_officer k ≡ true) where
  -- he was promoted on the last rank, and his region has the square
  by-parts : (way : List ℕ) → brings set c h way k s ≡ true → (rank (way_end h way) == last_rank c) ≡ true × (is_in (region_from set (man c k) (way_end h way)) s ≡ true)
  by-parts way brought =
      let parts = and_parts _ (is_in (region_from set (man c k) (way_end h way)) s) (sym (brings-officer set c h way k s officer) ∙ brought) in
      ((and_parts (rank (way_end h way) == last_rank c) (is_officer k) parts.0).0, parts.1)

  pub by-none : IsLeast c set h (by_files set c h k s 0) (toll (take p c) (gate p) h) never
  by-none =
      least-none c set h (by_files set c h k s 0) (toll (take p c) (gate p) h) (λ way is passes.
      let parts = and_parts (brings set c h way k s) (nat_lt (seen_by c (way_end h way)) (56 + 0)) passes in
      let low : seen_by c (way_end h way) < 56 + 0 = ltb-true _ _ parts.1 in
      let high = last-number c (way_end h way) (end-inside c set h way on_board is) (by-parts way parts.0).0 in
      omega arith)

  -- one file more, from which he comes there
  pub by-more : (r : Reach) (regions : List (List Bool)) (f n : ℕ) → f < 8 → IsReach p set c h r → ArePromoted set c k regions → is_in (slice_index_or regions f []) s ≡ true → IsLeast c set h (by_files set c h k s f) (toll (take p c) (gate p) h) n
      → IsLeast c set h (by_files set c h k s (f + 1)) (toll (take p c) (gate p) h) (min (toll_of (slice_index r.straight (56 + f)) (slice_index r.aside (56 + f))) n)
  by-more r regions f n low reach are member before =
      let i : ℕ = 56 + f in
      let inside : i < 64 = omega arith in
      let t : ℕ = seen_by c i in
      let here : is_in (region_from set (man c k) t) s ≡ true = ap (λ (l : List Bool). is_in l s) (sym (are f low)) ∙ member in
      least-either c set h (ends_on h t) (by_files set c h k s f) (by_files set c h k s (f + 1)) (toll (take p c) (gate p) h) _ n
      (λ way is passes.
      let parts = and_parts (brings set c h way k s) (nat_lt (seen_by c (way_end h way)) (56 + (f + 1))) passes in
      let below : seen_by c (way_end h way) < 56 + (f + 1) = ltb-true _ _ parts.1 in
      elim (cases_eq (seen_by c (way_end h way)) i) [
        | inl same ↦ inl (eq-eqb _ _ (sym (seen-seen c (way_end h way) (end-inside c set h way on_board is)) ∙ ap (seen_by c) same))
        | inr other ↦ inr (and_from _ _ parts.0 (lt-ltb _ _ (omega arith)))
      ])
      (λ way is ends.
      let e : way_end h way ≡ t = eqb-true _ _ ends in
      let number : seen_by c (way_end h way) ≡ i = ap (seen_by c) e ∙ seen-seen c i inside in
      and_from _ _
      (brings-officer set c h way k s officer
      ∙ and_from _ _ (and_from _ _ (ap (λ (u : ℕ). rank u == last_rank c) e ∙ last-rank c i inside (omega arith)) officer) (ap (λ (u : ℕ). is_in (region_from set (man c k) u) s) e ∙ here))
      (lt-ltb _ _ (omega arith)))
      (λ way is passes.
      let parts = and_parts (brings set c h way k s) (nat_lt (seen_by c (way_end h way)) (56 + f)) passes in
      let below : seen_by c (way_end h way) < 56 + f = ltb-true _ _ parts.1 in
      and_from _ _ parts.0 (lt-ltb _ _ (omega arith)))
      (toll-least c set h on_board p t (slice_index r.straight i) (slice_index r.aside i) (reach i inside)) before

  -- one from which he doesn't
  pub by-same : (regions : List (List Bool)) (f n : ℕ) → f < 8 → ArePromoted set c k regions → is_in (slice_index_or regions f []) s ≡ false → IsLeast c set h (by_files set c h k s f) (toll (take p c) (gate p) h) n → IsLeast c set h (by_files set c h k s (f + 1)) (toll (take p c) (gate p) h) n
  by-same regions f n low are out before =
      let i : ℕ = 56 + f in
      let t : ℕ = seen_by c i in
      let here : is_in (region_from set (man c k) t) s ≡ false = ap (λ (l : List Bool). is_in l s) (sym (are f low)) ∙ out in
      least-like c set h (by_files set c h k s f) (by_files set c h k s (f + 1)) (toll (take p c) (gate p) h) (toll (take p c) (gate p) h) n
      (λ way is passes.
      let parts = and_parts (brings set c h way k s) (nat_lt (seen_by c (way_end h way)) (56 + (f + 1))) passes in
      let below : seen_by c (way_end h way) < 56 + (f + 1) = ltb-true _ _ parts.1 in
      elim (cases_eq (seen_by c (way_end h way)) i) [
        | inl same ↦
            let e : way_end h way ≡ t = sym (seen-seen c (way_end h way) (end-inside c set h way on_board is)) ∙ ap (seen_by c) same in
            absurd (both_ways _ here (ap (λ (u : ℕ). is_in (region_from set (man c k) u) s) (sym e) ∙ (by-parts way parts.0).1))
        | inr other ↦ and_from _ _ parts.0 (lt-ltb _ _ (omega arith))
      ])
      (λ way is passes.
      let parts = and_parts (brings set c h way k s) (nat_lt (seen_by c (way_end h way)) (56 + f)) passes in
      let below : seen_by c (way_end h way) < 56 + f = ltb-true _ _ parts.1 in
      (and_from _ _ parts.0 (lt-ltb _ _ (omega arith)), refl)) before

  pub by-all : (f n : ℕ) → 8 ≤ f → IsLeast c set h (by_files set c h k s f) (toll (take p c) (gate p) h) n → IsLeast c set h (λ way. brings set c h way k s) (toll (take p c) (gate p) h) n
  by-all f n past before =
      least-like c set h (by_files set c h k s f) (λ way. brings set c h way k s) (toll (take p c) (gate p) h) (toll (take p c) (gate p) h) n
      (λ way is brought. let inside : seen_by c (way_end h way) < 64 = seen-inside c (way_end h way) (end-inside c set h way on_board is) in and_from _ _ brought (lt-ltb _ _ (omega arith)))
      (λ way is passes. ((and_parts (brings set c h way k s) (nat_lt (seen_by c (way_end h way)) (56 + f)) passes).0, refl)) before

-- as a pawn, and as a king, which he never becomes
pub pawn-brought : (p : PriceList) (set : List Bool) (c : Colour) (h i s : ℕ) (r : Reach) → h < 64 → IsReach p set c h r → s < 64 → i ≡ seen_by c s → i < 56 → IsLeast c set h (λ way. brings set c h way Pawn s) (toll (take p c) (gate p) h) (toll_of (slice_index r.straight i) (slice_index r.aside i))
pawn-brought p set c h i s r on_board reach inside is low =
    let number : i < 64 = omega arith in
    let back : seen_by c i ≡ s = ap (seen_by c) is ∙ seen-seen c s inside in
    let short : not (rank s == last_rank c) ≡ true = not_from_false _ (ap (λ (u : ℕ). rank u == last_rank c) (sym back) ∙ short-of c i number low) in
    least-like c set h (ends_on h (seen_by c i)) (λ way. brings set c h way Pawn s) (toll (take p c) (gate p) h) (toll (take p c) (gate p) h) _
    (λ way is brought. ap (λ (u : ℕ). way_end h way == u) back ∙ (and_parts (way_end h way == s) (not (rank s == last_rank c)) brought).0)
    (λ way is ends. (and_from _ _ (ap (λ (u : ℕ). way_end h way == u) (sym back) ∙ ends) short, refl)) (toll-least c set h on_board p (seen_by c i) (slice_index r.straight i) (slice_index r.aside i) (reach i number))

pub pawn-never : (p : PriceList) (set : List Bool) (c : Colour) (h s : ℕ) → s < 64 → 56 ≤ seen_by c s → IsLeast c set h (λ way. brings set c h way Pawn s) (toll (take p c) (gate p) h) never
pawn-never p set c h s inside high =
    let last : (rank s == last_rank c) ≡ true = ap (λ (u : ℕ). rank u == last_rank c) (sym (seen-seen c s inside)) ∙ last-rank c (seen_by c s) (seen-inside c s inside) high in
    least-none c set h (λ way. brings set c h way Pawn s) (toll (take p c) (gate p) h) (λ way is brought. both_ways _ (not-true _ (and_parts (way_end h way == s) (not (rank s == last_rank c)) brought).1) last)

pub king-never : (p : PriceList) (set : List Bool) (c : Colour) (h s : ℕ) → IsLeast c set h (λ way. brings set c h way King s) (toll (take p c) (gate p) h) never
king-never p set c h s = least-none c set h (λ way. brings set c h way King s) (toll (take p c) (gate p) h) (λ way is brought. no-king (rank (way_end h way) == last_rank c) _ brought)
