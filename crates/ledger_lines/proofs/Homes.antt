-- Homes of a set, each after a space or a comma.
use Rattle.std.proofs.Common.{◌≡◌, ℕ, ◌+◌, zero, suc, Bool, true, false, List, ◌++◌, refl, ap, sym, ◌∙◌, arith}
use Rattle.std.specs.Prelude.{◌||◌}
use Rattle.std.specs.List.{list_any, range_with_len}
use Rattle.board_base.specs.Board.{is_in}
use Rattle.ledger_lines.specs.LineTexts.{home_word}

pub or-assoc : (a b c : Bool) → (a || (b || c)) ≡ ((a || b) || c)
or-assoc true b c = refl
or-assoc false b c = refl

or-last : (a : Bool) → (a || false) ≡ a
or-last true = refl
or-last false = refl

pub any-end : (p : ℕ → Bool) (n k : ℕ) → list_any p (range_with_len k (suc n)) ≡ (list_any p (range_with_len k n) || p (k + n))
any-end p zero k = let e : k ≡ k + 0 = omega arith in or-last (p k) ∙ ap p e
any-end p (suc n) k =
    let e : (k + 1) + n ≡ k + suc n = omega arith in
    ap (λ (b : Bool). p k || b) (any-end p n (k + 1) ∙ ap (λ (m : ℕ). list_any p (range_with_len (k + 1) n) || p m) e) ∙ or-assoc (p k) (list_any p (range_with_len (k + 1) n)) (p (k + suc n))

-- whether one of the first numbers passes, with one number more
pub any-more : (p : ℕ → Bool) (n s : ℕ) (before here after : Bool) → before ≡ list_any p (range_with_len 0 n) → s ≡ n → here ≡ p s → after ≡ (before || here) → after ≡ list_any p (range_with_len 0 (n + 1))
any-more p n s before here after first at_n test last =
    let z : n ≡ 0 + n = omega arith in
    let one : suc n ≡ n + 1 = omega arith in
    last ∙ ap (λ (b : Bool). b || here) first ∙ ap (λ (b : Bool). list_any p (range_with_len 0 n) || b) (test ∙ ap p (at_n ∙ z)) ∙ sym (any-end p n 0) ∙ ap (λ (m : ℕ). list_any p (range_with_len 0 m)) one

-- the text of one home
pub home-told : (homes : List Bool) (n s : ℕ) (given several : Bool) (old new : List ℕ) → s ≡ n → given ≡ is_in homes s → several ≡ list_any (is_in homes) (range_with_len 0 n) → new ≡ old ++ home_word given several s → new ≡ old ++ home_word (is_in homes n) (list_any (is_in homes) (range_with_len 0 n)) n
home-told homes n s given several old new at_n is before e =
    e ∙ ap (λ (b : Bool). old ++ home_word b several s) (is ∙ ap (is_in homes) at_n) ∙ ap (λ (b : Bool). old ++ home_word (is_in homes n) b s) before ∙ ap (λ (m : ℕ). old ++ home_word (is_in homes n) (list_any (is_in homes) (range_with_len 0 n)) m) at_n
