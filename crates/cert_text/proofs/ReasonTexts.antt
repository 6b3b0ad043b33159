-- The names of reasons, with what stands behind them.
use Rattle.std.proofs.Common.{◌≡◌, ℕ, true, false, Bool, List, ◌∷◌, ◌++◌, drop, Option, Some, None, refl, sym, ap, ◌∙◌, arith, nat_eq, cond}
use Rattle.std.specs.Prelude.{codes}
use Rattle.std.proofs.lemmas.Bool.{and_parts, and_from, cond_both}
use Rattle.std.specs.List.{starts_with}
use Rattle.std.specs.Option.{option_map}
use Rattle.board_base.specs.Texts.{◌>>=◌}
use Rattle.board_base.proofs.TextLemmas.{mapped_some}
use Rattle.capture_prices.specs.Prices.{PriceList, are_prices}
use Rattle.query_base.specs.declared.rule_lines.RuleLine.{RuleLine}
use Rattle.query_base.specs.declared.rule_lines.RuleLine.TheVariants.{Kings, Ranks, Check, Rights, Count, Frozen, Caps, Promo}
use Rattle.fen_text.specs.Parts.{Free}
use Rattle.fen_text.specs.Sets.{is_whole, set_of, set_text}
use Rattle.fen_text.proofs.Begun.{begun}
use Rattle.fen_text.proofs.HexTexts.{set_back, set_free, set_read}
use Rattle.fen_text.proofs.PartLemmas.{followed, free_append, part_more, parted_next}
use Rattle.cert_text.specs.NodeLines.{balance_of, reason_name, reason_of, rule_name, rule_of}
use Rattle.price_text.specs.PriceTexts.{prices_of, prices_text}
use Rattle.cert_text.specs.Writable.{is_reason}
use Rattle.cert_text.specs.declared.reasons.Reason.{Reason}
use Rattle.cert_text.specs.declared.reasons.Reason.TheVariants.{Line, Balance}
use Rattle.cert_text.proofs.PartTexts.{no_part, no_rest}
use Rattle.price_text.proofs.PriceTexts.{prices_back, prices_free, prices_read}
use Rattle.cert_text.proofs.RuleTexts.{Only, name_back, name_free, name_read}

-- what may stand behind a set
abbrev behind_set : List Bool → List ℕ → Option Reason
behind_set set rest = option_map (λ (p : PriceList). Balance set p) (prices_of rest)

balance_back : (set : List Bool) (p : PriceList) → is_whole set ≡ true → are_prices p ≡ true → balance_of (set_text set ++ 32 ∷ prices_text p) ≡ Some (Balance set p)
unfolding balance_of
balance_back set p whole known =
    parted_next 32 set_of (λ (s : List Bool). None) behind_set (set_text set) (prices_text p) (set_free 32 set (omega arith))
    ∙ ap (λ (o : Option (List Bool)). o >>= (λ (s : List Bool). behind_set s (prices_text p))) (set_back set whole)
    ∙ ap (option_map (λ (d : PriceList). Balance set d)) (prices_back p known)

other_name : (r : RuleLine) → starts_with nat_eq (rule_name r) (codes "balance ") ≡ false
other_name Kings = refl
other_name Ranks = refl
other_name Check = refl
other_name Rights = refl
other_name (Count side) = refl
other_name (Frozen set) = refl
other_name (Caps side set p) = refl
other_name (Promo side set) = refl

-- a reason is the one of its name
pub reason_back : (r : Reason) → is_reason r ≡ true → reason_of (reason_name r) ≡ Some r
reason_back (Line r) known =
    ap (λ (b : Bool). cond b (balance_of (drop 8 (rule_name r))) (option_map (λ (x : RuleLine). Line x) (rule_of (rule_name r)))) (other_name r) ∙ ap (option_map (λ (x : RuleLine). Line x)) (name_back r known)
reason_back (Balance set p) known =
    let parts = and_parts (is_whole set) (are_prices p) known in
    balance_back set p parts.0 parts.1

-- the name is the one of a reason
pub record IsNameOfReason (name : List ℕ) (r : Reason) : Type 0 where
  pub name_is : name ≡ reason_name r
  pub known : is_reason r ≡ true

after_balance : (text : List ℕ) → text ≡ codes "balance " ++ drop 8 text → Only (IsNameOfReason text) (balance_of (drop 8 text))
unfolding balance_of
after_balance text whole r e =
    let f = followed 32 set_of (λ (s : List Bool). None) behind_set (drop 8 text) r (λ x. refl) e in
    let m = mapped_some (λ (d : PriceList). Balance f.value d) (prices_of f.rest) r f.goes_on in
    let first = set_read f.front f.value f.good in
    let second = prices_read f.rest m.0 m.1 in
    record {
      name_is = whole ∙ ap (λ (l : List ℕ). codes "balance " ++ l) (f.whole ∙ ap (λ (l : List ℕ). l ++ 32 ∷ f.rest) first.text_is ∙ ap (λ (l : List ℕ). set_text f.value ++ 32 ∷ l) second.text_is) ∙ ap reason_name m.2;
      known = ap is_reason (sym m.2) ∙ and_from _ _ first.whole second.known;
    }

after_line : (text : List ℕ) → Only (IsNameOfReason text) (option_map (λ (x : RuleLine). Line x) (rule_of text))
after_line text r e =
    let m = mapped_some (λ (x : RuleLine). Line x) (rule_of text) r e in
    let name = name_read text m.0 m.1 in
    record { name_is = name.name_is ∙ ap reason_name m.2; known = ap is_reason (sym m.2) ∙ name.known }

-- what is read as a reason is its name
pub reason_read : (text : List ℕ) → Only (IsNameOfReason text) (reason_of text)
reason_read text =
    cond_both (starts_with nat_eq text (codes "balance ")) _ _ (Only (IsNameOfReason text)) (λ t. after_balance text (begun text (codes "balance ") t)) (λ f. after_line text)

-- no line end stands in a name
pub reason_free : (r : Reason) → is_reason r ≡ true → Free 10 (reason_name r)
reason_free (Line r) known = name_free r known
reason_free (Balance set p) known =
    let parts = and_parts (is_whole set) (are_prices p) known in
    free_append 10 (set_text set) (32 ∷ prices_text p) (set_free 10 set (omega arith)) (prices_free p parts.1)

-- the grammar, part by part

pub balance_short : (text a : List ℕ) → Free 32 a → text ≡ a → balance_of text ≡ None
unfolding balance_of
balance_short text a free whole = no_rest set_of behind_set text a free whole

pub balance_set : (text a rest : List ℕ) → Free 32 a → text ≡ a ++ 32 ∷ rest → set_of a ≡ None → balance_of text ≡ None
unfolding balance_of
balance_set text a rest free whole none = no_part set_of behind_set text a rest free whole none

pub balance_is : (text a rest : List ℕ) (set : List Bool) (o : Option PriceList) → Free 32 a → text ≡ a ++ 32 ∷ rest → set_of a ≡ Some set → prices_of rest ≡ o → balance_of text ≡ option_map (λ (p : PriceList). Balance set p) o
unfolding balance_of
balance_is text a rest set o free whole some e =
    part_more 32 set_of (λ (x : List Bool). None) behind_set text a rest set free whole some ∙ ap (option_map (λ (p : PriceList). Balance set p)) e
