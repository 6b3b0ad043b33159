-- Squares that are named one behind the other, and lines that are looked through.
use Rattle.std.proofs.Common.{◌≡◌, ℕ, ◌+◌, ◌<◌, Bool, false, List, ◌++◌, length, get_or, take, ap, sym, ◌∙◌}
use Rattle.std.specs.Prelude.{◌||◌}
use Rattle.std.specs.List.{list_any, range_with_len}
use Rattle.std.proofs.lemmas.List.Folds.{list_any_more}
use Rattle.query_base.specs.Asked.{Asked}
use Rattle.ledger_lines.specs.declared.lines.Line.{Line}
use Rattle.ledger_prose.specs.Sentences.{is_named}
use Rattle.ledger_prose.specs.Words.{given_words, is_any_from, name_at, square_words}
use Rattle.ledger_prose.specs.declared.names.Joint.{Joint}
use Rattle.ledger_prose.specs.declared.names.Style.{Style}

-- the text of one square
pub name-told : (joint : Joint) (style : Style) (q : Asked) (xs : List Line) (n s : ℕ) (given several more : Bool) (old new : List ℕ) → s ≡ n → given ≡ is_named q xs s → several ≡ list_any (is_named q xs) (range_with_len 0 n) → more ≡ is_any_from (is_named q xs) (n + 1) → new ≡ old ++ given_words joint given several more (square_words style q s) → new ≡ old ++ name_at joint style q xs n
name-told joint style q xs n s given several more old new at_n is before behind e =
    let p : ℕ → Bool = is_named q xs in
    e ∙ ap (λ (b : Bool). old ++ given_words joint b several more (square_words style q s)) (is ∙ ap p at_n) ∙ ap (λ (b : Bool). old ++ given_words joint (p n) b more (square_words style q s)) before
    ∙ ap (λ (b : Bool). old ++ given_words joint (p n) (list_any p (range_with_len 0 n)) b (square_words style q s)) behind
    ∙ ap (λ (m : ℕ). old ++ given_words joint (p n) (list_any p (range_with_len 0 n)) (is_any_from p (n + 1)) (square_words style q m)) at_n

-- one item more doesn't pass either
pub any-more : {X : Type 0} (p : X → Bool) (xs : List X) (i : ℕ) (x : X) → i < length xs → x ≡ get_or xs i x → list_any p (take i xs) ≡ false → p x ≡ false → list_any p (take (i + 1) xs) ≡ false
any-more {X} p xs i x lt is before miss = list_any_more p xs i x lt ∙ ap (λ (b : Bool). b || p (get_or xs i x)) before ∙ sym (ap p is) ∙ miss
