-- What is told of ways by the squares on which they end, and of men by their homes.
use Rattle.std.proofs.Common.{◌≡◌, ℕ, ◌<◌, ◌≤◌, ◌==◌, inl, inr, Bool, true, false, ◌&&◌, ◌||◌, not, List, refl, ap, sym, ◌∙◌, arith}
use Rattle.std.proofs.lemmas.Bool.{both_ways, cases_lt, cond-true, cond-false, false_from_ne_true, le-leb, leb-true, lt-ltb, ltb-true}
use Rattle.std.specs.Prelude.{Option, Some, nat_le, nat_lt}
use Rattle.std.specs.Bool.{beq}
use Rattle.std.specs.List.{list_any, range_with_len}
use Rattle.general_lemmas.proofs.Ranges.{any-found}
use Rattle.general_lemmas.proofs.Truth.{same_truth}
use Rattle.board_base.specs.Board.{array_of, at, is_in, rank, same_colour}
use Rattle.board_base.specs.Legal.{last_rank}
use Rattle.board_base.specs.declared.men.Colour.{Colour}
use Rattle.board_base.specs.declared.men.Man.{Man}
use Rattle.cage_rules.specs.Sets.{squares_that}
use Rattle.cage_rules.proofs.Filling.{is_in-that}
use Rattle.cage_rules.proofs.Tested.{any-told}
use Rattle.capture_prices.specs.Prices.{PriceList}
use Rattle.men_fates.specs.Fates.{may_fall}
use Rattle.men_fates.specs.Ways.{way_end}
use Rattle.balance_rule.specs.Costs.{brings_officer, never}
use Rattle.balance_rule.specs.FirstMen.{BeginsOn}
use Rattle.balance_rule.specs.Grounds.{comes_promoted}
use Rattle.balance_rule.specs.LeastWays.{seen_by}
use Rattle.balance_rule.proofs.Begun.{begins-on}
use Rattle.balance_rule.proofs.Brought.{last-rank, short-of}
use Rattle.balance_rule.proofs.Seen.{seen-inside}
use Rattle.ledger_facts.specs.Supposed.{is_last}
use Rattle.ledger_facts.specs.Accounts.{goes, goes_as, is_lost_by, lost, lost_as, may_be_struck, may_fall_on}
use Rattle.balance_rule.proofs.Lost.{promoted-is}

pub beq-true : (b : Bool) → beq true b ≡ b
beq-true true = refl
beq-true false = refl

pub beq-false : (b : Bool) → beq false b ≡ not b
beq-false true = refl
beq-false false = refl

-- two tests that agree on the board are passed alike
pub any-same : (p q : ℕ → Bool) → ((s : ℕ) → s < 64 → p s ≡ q s) → list_any p (range_with_len 0 64) ≡ list_any q (range_with_len 0 64)
any-same p q same = same_truth _ _
    (λ h. let x = any-told p 0 64 h in let inside : x.0 < 64 = x.1 in any-found q 0 64 x.0 (omega arith) (omega arith) (sym (same x.0 inside) ∙ x.2))
    (λ h. let x = any-told q 0 64 h in let inside : x.0 < 64 = x.1 in any-found p 0 64 x.0 (omega arith) (omega arith) (same x.0 inside ∙ x.2))

-- the first square that both sets have
pub meets-made : (a b from : List Bool) (n : ℕ) → ((s : ℕ) → s < 64 → is_in from s ≡ (is_in a s && is_in b s)) → ((s : ℕ) → s < n → is_in from s ≡ false) → (n < 64 → is_in from n ≡ true) → nat_lt n 64 ≡ list_any (λ s. is_in a s && is_in b s) (range_with_len 0 64)
meets-made a b from n at_from none found =
    same_truth (nat_lt n 64) (list_any (λ s. is_in a s && is_in b s) (range_with_len 0 64))
    (λ low. let inside : n < 64 = ltb-true n 64 low in any-found (λ s. is_in a s && is_in b s) 0 64 n (omega arith) (omega arith) (sym (at_from n inside) ∙ found inside))
    (λ h.
    let x = any-told (λ s. is_in a s && is_in b s) 0 64 h in
    let inside : x.0 < 64 = x.1 in
    elim (cases_lt x.0 n) [
      | inl below ↦ absurd (both_ways _ (none x.0 below) (at_from x.0 inside ∙ x.2))
      | inr past ↦ lt-ltb n 64 (omega arith)
    ])

module _ (set exposed : List Bool) (c : Colour) (falls : exposed ≡ squares_that (may_fall set c)) where
  exposed-at : (s : ℕ) → s < 64 → is_in exposed s ≡ may_fall set c s
  exposed-at s inside = ap (λ (l : List Bool). is_in l s) falls ∙ is_in-that (may_fall set c) s inside

  -- within a region
  pub falls-in : (within : List Bool) → list_any (λ s. is_in within s && is_in exposed s) (range_with_len 0 64) ≡ may_fall_on set c (is_in within)
  falls-in within = any-same (λ s. is_in within s && is_in exposed s) (λ s. is_in within s && may_fall set c s) (λ s inside. ap (λ (b : Bool). is_in within s && b) (exposed-at s inside))

  -- where a way ends, as a pawn and after a promotion
  pub struck-short : (h i : ℕ) (way : List ℕ) → i < 64 → i < 56 → way_end h way ≡ seen_by c i → is_in exposed (seen_by c i) ≡ may_be_struck set c h way
  struck-short h i way inside low ends =
      let short : is_last c h way ≡ false = ap (λ (u : ℕ). rank u == last_rank c) ends ∙ short-of c i inside low in
      exposed-at (seen_by c i) (seen-inside c i inside) ∙ ap (may_fall set c) (sym ends) ∙ sym (cond-false (is_last c h way) (may_fall_on set c (brings_officer set c h way)) (may_fall set c (way_end h way)) short)

  pub struck-last : (h i : ℕ) (way : List ℕ) (within : List Bool) → i < 64 → 56 ≤ i → way_end h way ≡ seen_by c i → ((s : ℕ) → s < 64 → is_in within s ≡ comes_promoted set c (seen_by c i) s) → list_any (λ s. is_in within s && is_in exposed s) (range_with_len 0 64) ≡ may_be_struck set c h way
  struck-last h i way within inside high ends are =
      let at_last : (rank (seen_by c i) == last_rank c) ≡ true = last-rank c i inside high in
      let last : is_last c h way ≡ true = ap (λ (u : ℕ). rank u == last_rank c) ends ∙ at_last in
      any-same (λ s. is_in within s && is_in exposed s) (λ s. brings_officer set c h way s && may_fall set c s) (λ s on.
      ap (λ (b : Bool). b && is_in exposed s) (are s on ∙ sym (promoted-is set c h (seen_by c i) way s ends at_last)) ∙ ap (λ (b : Bool). brings_officer set c h way s && b) (exposed-at s on))
      ∙ sym (cond-true (is_last c h way) (may_fall_on set c (brings_officer set c h way)) (may_fall set c (way_end h way)) last)

-- the last rank has the last numbers
last-is : (c : Colour) (h i : ℕ) (way : List ℕ) → i < 64 → way_end h way ≡ seen_by c i → nat_le 56 i ≡ is_last c h way
last-is c h i way inside ends = elim (cases_lt i 56) [
  | inl low ↦ false_from_ne_true (nat_le 56 i) (λ high. let past : 56 ≤ i = leb-true 56 i high in omega arith) ∙ sym (ap (λ (u : ℕ). rank u == last_rank c) ends ∙ short-of c i inside low)
  | inr high ↦ let past : 56 ≤ i = omega arith in le-leb 56 i past ∙ sym (ap (λ (u : ℕ). rank u == last_rank c) ends ∙ last-rank c i inside past)
]

pub counts-made : (set : List Bool) (c : Colour) (h i : ℕ) (way : List ℕ) (promoted struck became open_there : Bool) → i < 64 → way_end h way ≡ seen_by c i → became ≡ beq promoted (nat_le 56 i) → open_there ≡ may_be_struck set c h way → (became && (not struck || open_there)) ≡ is_lost_by promoted struck set c h way
counts-made set c h i way promoted struck became open_there inside ends first second =
    ap (λ (b : Bool). b && (not struck || open_there)) (first ∙ ap (beq promoted) (last-is c h i way inside ends)) ∙ ap (λ (b : Bool). beq promoted (is_last c h way) && (not struck || b)) second

-- the man of a home is of this colour, and of which kind he begins
pub goes-told : (o : List Bool) (p : PriceList) (set : List Bool) (c : Colour) (straight : Bool) (n s cost : ℕ) (first : Man) (place : Option Man) → n < 16 → at (array_of o) (seen_by c n) ≡ Some first → same_colour c first.colour ≡ true
    → (BeginsOn c first.kind n → cost ≡ goes_as straight p set c first.kind (seen_by c n) place s) → cost ≡ goes straight p set c (at (array_of o) (seen_by c n)) (seen_by c n) place s
goes-told o p set c straight n s cost first place low begins same is =
    is (begins-on o c n first low begins) ∙ sym (cond-true (same_colour c first.colour) (goes_as straight p set c first.kind (seen_by c n) place s) never same)
    ∙ ap (λ (m : Option Man). goes straight p set c m (seen_by c n) place s) (sym begins)

pub lost-told : (o : List Bool) (p : PriceList) (set : List Bool) (c : Colour) (promoted struck : Bool) (n cost : ℕ) (first : Man) → n < 16 → at (array_of o) (seen_by c n) ≡ Some first → same_colour c first.colour ≡ true
    → (BeginsOn c first.kind n → cost ≡ lost_as promoted struck p set c first.kind (seen_by c n)) → cost ≡ lost promoted struck p set c (at (array_of o) (seen_by c n)) (seen_by c n)
lost-told o p set c promoted struck n cost first low begins same is =
    is (begins-on o c n first low begins) ∙ sym (cond-true (same_colour c first.colour) (lost_as promoted struck p set c first.kind (seen_by c n)) never same)
    ∙ ap (λ (m : Option Man). lost promoted struck p set c m (seen_by c n)) (sym begins)
