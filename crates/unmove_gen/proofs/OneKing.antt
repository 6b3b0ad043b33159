-- A side whose king stands alone has one king.
use Rattle.std.proofs.Common.{◌≡◌, ℕ, zero, suc, ◌+◌, ◌<◌, ◌==◌, Bool, false, ◌&&◌, length, inl, inr, refl, ap, sym, ◌∙◌, arith}
use Rattle.std.proofs.lemmas.Bool.{cases_eq, eq-eqb, ne_eqb}
use Rattle.std.specs.List.{count_by, range_with_len}
use Rattle.std.proofs.Math.Bool.{and-true}
use Rattle.general_lemmas.proofs.Counts.{count-end, one_if}
use Rattle.board_base.specs.Board.{Places, at, is_the, opponent}
use Rattle.board_base.specs.declared.men.Colour.{Colour}
use Rattle.board_base.specs.declared.men.Colour.TheVariants.{White, Black}
use Rattle.board_base.specs.declared.men.Kind.TheVariants.{King}
use Rattle.men_account.specs.Account.{is_any, men}
use Rattle.play_rules.specs.Kings.{HasOneKingEach, kings}
use Rattle.unmove_gen.proofs.SaneGames.{men-kings}

count-none : (p : ℕ → Bool) (n : ℕ) → ((s : ℕ) → s < n → p s ≡ false) → count_by p (range_with_len 0 n) ≡ 0
count-none p zero none = refl
count-none p (suc n) none =
    let here : one_if (p (0 + n)) ≡ 0 = ap one_if (none (0 + n) (omega arith)) in
    omega (arith, count-end p n 0, here, count-none p n (λ s low. none s (omega arith)))

count-one : (p : ℕ → Bool) (k n : ℕ) → k < n → ((s : ℕ) → s < n → p s ≡ (s == k)) → count_by p (range_with_len 0 n) ≡ 1
count-one p k zero low only = absurd (omega arith)
count-one p k (suc n) low only = elim (cases_eq k n) [
  | inl same ↦
      let last : 0 + n ≡ k = omega arith in
      let here : one_if (p (0 + n)) ≡ 1 = ap one_if (only (0 + n) (omega arith) ∙ eq-eqb (0 + n) k last) in
      omega (arith, count-end p n 0, here, count-none p n (λ s below. only s (omega arith) ∙ ne_eqb s k (λ e. omega arith)))
  | inr apart ↦
      let here : one_if (p (0 + n)) ≡ 0 = ap one_if (only (0 + n) (omega arith) ∙ ne_eqb (0 + n) k (λ e. apart (omega arith))) in
      omega (arith, count-end p n 0, here, count-one p k n (omega arith) (λ s below. only s (omega arith)))
]

one-of : (board : Places) (c : Colour) (k : ℕ) → length board ≡ 64 → k < 64 → ((s : ℕ) → s < 64 → is_the c King (at board s) ≡ (s == k)) → kings c board ≡ 1
unfolding men
one-of board c k whole low only =
    sym (men-kings c board whole) ∙ count-one (λ s. is_the c King (at board s) && is_any s) k 64 low (λ s small. and-true (is_the c King (at board s)) ∙ only s small)

-- each side has one, if one side and the other have
pub each-one : (board : Places) (turn : Colour) (k j : ℕ) → length board ≡ 64 → k < 64 → j < 64 → ((s : ℕ) → s < 64 → is_the turn King (at board s) ≡ (s == k)) → ((s : ℕ) → s < 64 → is_the (opponent turn) King (at board s) ≡ (s == j)) → HasOneKingEach board
each-one board White k j whole small low mine theirs White = one-of board White k whole small mine
each-one board White k j whole small low mine theirs Black = one-of board Black j whole low theirs
each-one board Black k j whole small low mine theirs White = one-of board White j whole low theirs
each-one board Black k j whole small low mine theirs Black = one-of board Black k whole small mine
