-- Where the men of a side begin.
use Rattle.std.proofs.Common.{◌≡◌, ℕ, ◌<◌, inl, inr, Bool, true, cond, ◌&&◌, ◌||◌, not, List, refl, ap, sym, ◌∙◌, arith}
use Rattle.std.proofs.lemmas.Bool.{and_parts, both_ways, cases_Bool, cond-true, lt-ltb, or_cases, not_from_true}
use Rattle.std.proofs.lemmas.Option.{none-some}
use Rattle.std.specs.Prelude.{Option, Some, None, nat_le, nat_lt}
use Rattle.std.specs.Bool.{beq}
use Rattle.board_base.specs.Board.{array_of, at, initial_array, is_in, same_colour, same_kind}
use Rattle.board_base.specs.declared.men.Colour.{Colour}
use Rattle.board_base.specs.declared.men.Colour.TheVariants.{White, Black}
use Rattle.board_base.specs.declared.men.Kind.TheVariants.{Pawn, King}
use Rattle.board_base.specs.declared.men.Man.{Man}
use Rattle.board_base.proofs.Without.{at-without}
use Rattle.general_lemmas.proofs.Ranges.{all_in_range}
use Rattle.general_lemmas.proofs.Truth.{beq-same}
use Rattle.cage_rules.specs.Regions.{beginner, is_officer_home}
use Rattle.cage_rules.proofs.Beginners.{array-there}
use Rattle.capture_prices.specs.Prices.{PriceList}
use Rattle.balance_rule.specs.Costs.{gone, gone_as, never, stands, stands_as}
use Rattle.balance_rule.specs.FirstMen.{BeginsOn}
use Rattle.balance_rule.specs.LeastWays.{seen_by}

-- the man on the place begins where he should
fits : Colour → ℕ → Option Man → Bool
fits c n None = true
fits c n (Some m) = beq (same_kind m.kind Pawn) (nat_le 8 n) && (not (nat_lt n 8) || same_kind m.kind King || is_officer_home (seen_by c n))

white-fits : (n : ℕ) → n < 16 → fits White n (at initial_array (seen_by White n)) ≡ true
unfolding fits initial_array beginner
white-fits n low = all_in_range (λ n. fits White n (at initial_array (seen_by White n))) 0 16 n refl (omega arith) (omega arith)

black-fits : (n : ℕ) → n < 16 → fits Black n (at initial_array (seen_by Black n)) ≡ true
unfolding fits initial_array beginner
black-fits n low = all_in_range (λ n. fits Black n (at initial_array (seen_by Black n))) 0 16 n refl (omega arith) (omega arith)

all-fits : (c : Colour) (n : ℕ) → n < 16 → fits c n (at initial_array (seen_by c n)) ≡ true
all-fits White n low = white-fits n low
all-fits Black n low = black-fits n low

fits-begins : (c : Colour) (n : ℕ) (m : Man) → fits c n (Some m) ≡ true → BeginsOn c m.kind n
unfolding fits
fits-begins c n m h =
    let parts = and_parts (beq (same_kind m.kind Pawn) (nat_le 8 n)) (not (nat_lt n 8) || same_kind m.kind King || is_officer_home (seen_by c n)) h in
    record {
      pawn = beq-same (same_kind m.kind Pawn) (nat_le 8 n) parts.0;
      officer = λ low no_king. elim (or_cases _ _ parts.1) [
        | inl some ↦ elim (or_cases _ _ some) [
          | inl high ↦ absurd (both_ways _ (not_from_true _ (lt-ltb n 8 low)) high)
          | inr king ↦ absurd (both_ways _ no_king king)
        ]
        | inr home ↦ home
      ];
    }

pub begins-on : (o : List Bool) (c : Colour) (n : ℕ) (m : Man) → n < 16 → at (array_of o) (seen_by c n) ≡ Some m → BeginsOn c m.kind n
unfolding array_of
begins-on o c n m low stands = elim (cases_Bool (is_in o (seen_by c n))) [
  | inl out ↦ absurd (none-some m (sym (ap (λ (b : Bool). cond b None (at initial_array (seen_by c n))) out) ∙ sym (at-without o initial_array (seen_by c n)) ∙ stands))
  | inr kept ↦ fits-begins c n m (ap (fits c n) (sym (sym (array-there o (seen_by c n) kept) ∙ stands)) ∙ all-fits c n low)
]

pub stands-told : (o : List Bool) (p : PriceList) (set : List Bool) (c : Colour) (n s cost : ℕ) (first man : Man) (place : Option Man) → n < 16 → at (array_of o) (seen_by c n) ≡ Some first → place ≡ Some man → same_colour c first.colour ≡ true
    → (BeginsOn c first.kind n → cost ≡ stands_as p set c first.kind (seen_by c n) man.kind s) → cost ≡ stands p set c (at (array_of o) (seen_by c n)) (seen_by c n) place s
stands-told o p set c n s cost first man place low begins here same is =
    is (begins-on o c n first low begins) ∙ sym (cond-true (same_colour c first.colour) _ never same)
    ∙ ap (λ (m : Option Man). stands p set c (Some first) (seen_by c n) m s) (sym here) ∙ ap (λ (m : Option Man). stands p set c m (seen_by c n) place s) (sym begins)

pub gone-told : (o : List Bool) (p : PriceList) (set : List Bool) (c : Colour) (n cost : ℕ) (first : Man) → n < 16 → at (array_of o) (seen_by c n) ≡ Some first → same_colour c first.colour ≡ true
    → (BeginsOn c first.kind n → cost ≡ gone_as p set c first.kind (seen_by c n)) → cost ≡ gone p set c (at (array_of o) (seen_by c n)) (seen_by c n)
gone-told o p set c n cost first low begins same is =
    is (begins-on o c n first low begins) ∙ sym (cond-true (same_colour c first.colour) _ never same) ∙ ap (λ (m : Option Man). gone p set c m (seen_by c n)) (sym begins)
