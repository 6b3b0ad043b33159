-- The line of odds.
use Rattle.std.proofs.Common.{◌≡◌, ◌≢◌, ℕ, Bool, true, false, cond, ◌&&◌, ◌||◌, not, nat_eq, List, ◌++◌, length, drop, inl, inr, refl, sym, ap, ◌∙◌, subst, arith, Option, Some, None}
use Rattle.general_lemmas.proofs.Ranges.{all_in_range, all-each}
use Rattle.std.proofs.lemmas.Bool.{and_from, and_parts, both_ways, cases_lt, cases_Bool, cond-true, cond-false, eq-eqb, eqb-true, not-true}
use Rattle.std.proofs.lemmas.List.{get_or_past}
use Rattle.std.proofs.lemmas.Option.{cond_some}
use Rattle.std.specs.Bool.{beq}
use Rattle.std.specs.Cmp.Lexicographic.{pointwise}
use Rattle.std.specs.List.{list_all, range_with_len, starts_with}
use Rattle.std.specs.Option.{option_and_then}
use Rattle.std.specs.Prelude.{codes, ◌↔◌}
use Rattle.board_base.specs.Board.{AreOdds, is_in, may_lack, no_odds}
use Rattle.board_base.specs.SameSets.{sets_decide}
use Rattle.fen_text.specs.OddsLines.{may_all_lack, odds_line, odds_of, odds_text}
use Rattle.fen_text.specs.Sets.{is_whole, set_of, set_text}
use Rattle.fen_text.proofs.Begun.{begun}
use Rattle.fen_text.proofs.HexTexts.{set_back, set_read}

implied : (a b : Bool) → not a || b ≡ true → a ≡ true → b ≡ true
implied true b h e = h
implied false b h e = absurd (both_ways false refl e)

implies : (a b : Bool) → (a ≡ true → b ≡ true) → not a || b ≡ true
implies true b f = f refl
implies false b f = refl

pub odds_are : (set : List Bool) → may_all_lack set ≡ true → AreOdds set
odds_are set h =
    let parts = and_parts (is_whole set) (list_all (λ s. not (is_in set s) || may_lack s) (range_with_len 0 64)) h in
    let size : length set ≡ 64 = eqb-true (length set) 64 parts.0 in
    record {
      size = size;
      only_homes = λ s there. elim (cases_lt s 64) [
        | inl low ↦ implied (is_in set s) (may_lack s) (all_in_range (λ s. not (is_in set s) || may_lack s) 0 64 s parts.1 (omega arith) (omega arith)) there
        | inr past ↦ absurd (both_ways _ (get_or_past set s false (omega (arith, size))) there)
      ];
    }

pub are_odds : (set : List Bool) → AreOdds set → may_all_lack set ≡ true
are_odds set odds = and_from _ _ (eq-eqb (length set) 64 odds.size) (all-each (λ s. not (is_in set s) || may_lack s) 0 64 (λ s low high. implies (is_in set s) (may_lack s) (odds.only_homes s)))

-- a set is the odds that it is read as
pub record IsSome (set odds : List Bool) : Type 0 where
  pub same : set ≡ odds
  pub are : AreOdds odds
  pub some : odds ≢ no_odds

pub of_odds : (set odds : List Bool) → odds_of set ≡ Some odds → IsSome set odds
unfolding odds_of
of_odds set odds e =
    let read = cond_some (may_all_lack set && not (pointwise beq set no_odds)) set odds e in
    let parts = and_parts (may_all_lack set) (not (pointwise beq set no_odds)) read.0 in
    record {
      same = read.1;
      are = subst AreOdds read.1 (odds_are set parts.0);
      some = λ none. both_ways (pointwise beq set no_odds) (not-true (pointwise beq set no_odds) parts.1) ((sets_decide set no_odds).1 (read.1 ∙ none));
    }

pub odds_again : (odds : List Bool) → AreOdds odds → odds ≢ no_odds → odds_of odds ≡ Some odds
unfolding odds_of
odds_again odds are some =
    cond-true (may_all_lack odds && not (pointwise beq odds no_odds)) (Some odds) None (and_from _ _ (are_odds odds are) (elim (cases_Bool (pointwise beq odds no_odds)) [
      | inl same ↦ absurd (some ((sets_decide odds no_odds).0 same))
      | inr other ↦ ap not other
    ]))

-- a set that is refused as odds
pub refused : (set : List Bool) → (AreOdds set → ⊥) → None ≡ odds_of set
unfolding odds_of
refused set not_odds = elim (cases_Bool (may_all_lack set)) [
  | inl all ↦ absurd (not_odds (odds_are set all))
  | inr bad ↦ sym (ap (λ (b : Bool). cond (b && not (pointwise beq set no_odds)) (Some set) None) bad)
]

pub none_refused : (set : List Bool) → set ≡ no_odds → None ≡ odds_of set
unfolding odds_of
none_refused set none = ap (λ (s : List Bool). odds_of s) (sym none)

-- the line that is written of odds is read as them
pub odds_back : (odds : List Bool) → AreOdds odds → odds ≢ no_odds → odds_line (odds_text odds) ≡ Some odds
unfolding odds_line
odds_back odds are some =
    ap (option_and_then odds_of) (set_back odds (eq-eqb (length odds) 64 are.size)) ∙ odds_again odds are some

-- a line that is read as odds is the one that is written of them
pub record IsLineOf (text : List ℕ) (odds : List Bool) : Type 0 where
  pub are : AreOdds odds
  pub some : odds ≢ no_odds
  pub text_is : text ≡ odds_text odds

after_word : (text : List ℕ) (odds : List Bool) (o : Option (List Bool)) → set_of (drop 5 text) ≡ o → text ≡ codes "odds " ++ drop 5 text → option_and_then odds_of o ≡ Some odds → IsLineOf text odds
after_word text odds None is whole e = cc
after_word text odds (Some set) is whole e =
    let read = of_odds set odds e in
    record {
      are = read.are;
      some = read.some;
      text_is = whole ∙ ap (λ (t : List ℕ). codes "odds " ++ t) ((set_read (drop 5 text) set is).text_is ∙ ap set_text read.same);
    }

pub line_read : (text : List ℕ) (odds : List Bool) → odds_line text ≡ Some odds → IsLineOf text odds
unfolding odds_line
line_read text odds e = elim (cases_Bool (starts_with nat_eq text (codes "odds "))) [
  | inl starts ↦
      after_word text odds (set_of (drop 5 text)) refl (begun text (codes "odds ") starts) (sym (cond-true (starts_with nat_eq text (codes "odds ")) (option_and_then odds_of (set_of (drop 5 text))) None starts) ∙ e)
  | inr other ↦ let none = sym (cond-false (starts_with nat_eq text (codes "odds ")) (option_and_then odds_of (set_of (drop 5 text))) None other) ∙ e in cc
]

pub line_law : (text : List ℕ) (odds : List Bool) → odds_line text ≡ Some odds ↔ (AreOdds odds × (odds ≢ no_odds) × (text ≡ odds_text odds))
line_law text odds = (
  λ e. let line = line_read text odds e in (line.are, line.some, line.text_is),
  λ h. ap odds_line h.2 ∙ odds_back odds h.0 h.1,
)
