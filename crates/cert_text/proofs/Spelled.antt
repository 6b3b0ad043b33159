-- What is read as a line is its one text, and is read of it.
use Rattle.std.proofs.Common.{◌≡◌, ℕ, ◌≤◌, ◌==◌, ◌||◌, ◌&&◌, true, false, List, ◌++◌, drop, Option, Some, None, refl, sym, ap, ◌∙◌, arith, nat_eq, nat_lt, nat_le}
use Rattle.std.specs.Prelude.{codes}
use Rattle.std.proofs.lemmas.Bool.{and_parts, and_from, cond-false, cond-true, cond_both, le-leb}
use Rattle.std.proofs.lemmas.Bool.Decides.{nat_tests}
use Rattle.std.proofs.lemmas.Option.{cond_some, same_Some}
use Rattle.std.specs.List.{starts_with}
use Rattle.std.specs.Option.{option_map, option_and_then}
use Rattle.sketch_text.specs.Heads.{Head, head_line, head_text, is_head}
use Rattle.sketch_text.proofs.HeadTexts.{head_read, head_stands}
use Rattle.cert_text.specs.declared.reasons.Reason.{Reason}
use Rattle.fen_text.specs.Numbers.{number}
use Rattle.cert_text.specs.NodeLines.{reason_of, back_at, expand_at, body_at, body_text}
use Rattle.cert_text.specs.Writable.{fits_depth, is_reason}
use Rattle.cert_text.specs.declared.node_lines.BodyLine.{BodyLine}
use Rattle.cert_text.specs.declared.node_lines.BodyLine.TheVariants.{Rule, Back, Expand, Sketch}
use Rattle.fen_text.proofs.Begun.{begun}
use Rattle.fen_text.proofs.Decimals.{number_back, number_read}
use Rattle.cert_text.proofs.ReasonTexts.{reason_back, reason_read}
use Rattle.cert_text.proofs.RuleTexts.{Only}

-- bodies

rule_back : (depth : ℕ) (r : Reason) → is_reason r ≡ true → body_at depth (body_text (Rule r)) ≡ Some (Rule r)
unfolding body_at
rule_back depth r known = ap (option_map (λ (r : Reason). Rule r)) (reason_back r known)

back_read : (depth k : ℕ) → k ≤ 999999 → body_at depth (body_text (Back k)) ≡ back_at depth k
unfolding body_at
back_read depth k few = ap (option_and_then (back_at depth)) (number_back k few)

expand_read : (depth n : ℕ) → n ≤ 999999 → body_at depth (body_text (Expand n)) ≡ expand_at depth n
unfolding body_at
expand_read depth n few = ap (option_and_then (expand_at depth)) (number_back n few)

starts_sketch : (h : Head) → (starts_with nat_eq (head_text h) (codes "rule ") ≡ false) × (starts_with nat_eq (head_text h) (codes "back ") ≡ false) × (starts_with nat_eq (head_text h) (codes "expand ") ≡ false)
unfolding head_text
starts_sketch h = (refl, refl, refl)

sketch_read : (depth : ℕ) (h : Head) → is_head h ≡ true → body_at depth (head_text h) ≡ Some (Sketch h)
unfolding body_at
sketch_read depth h known =
    let other = starts_sketch h in
    cond-false (starts_with nat_eq (head_text h) (codes "rule ")) _ _ other.0 ∙ cond-false (starts_with nat_eq (head_text h) (codes "back ")) _ _ other.1
    ∙ cond-false (starts_with nat_eq (head_text h) (codes "expand ")) _ _ other.2 ∙ ap (option_map (λ (x : Head). Sketch x)) (head_stands h known)

-- the text of a body is read as this body
pub body_back : (depth : ℕ) (b : BodyLine) → depth ≤ 255 → fits_depth depth b ≡ true → body_at depth (body_text b) ≡ Some b
body_back depth (Rule r) low fits = rule_back depth r fits
body_back depth (Back k) low fits =
    let parts = and_parts (nat_le 1 k) (nat_le k depth) fits in
    back_read depth k (grind (arith, nat_tests)) ∙ cond-true (nat_le 1 k && nat_le k depth) (Some (Back k)) None fits
body_back depth (Expand n) low fits =
    let parts = and_parts ((n == 0) || nat_lt depth 255) (nat_le n 999999) fits in
    expand_read depth n (grind (arith, nat_tests)) ∙ cond-true ((n == 0) || nat_lt depth 255) (Some (Expand n)) None parts.0
body_back depth (Sketch h) low fits = sketch_read depth h fits

-- the number in a body, if there is one
abbrev pub number_in : BodyLine → ℕ
number_in (Rule r) = 0
number_in (Back k) = k
number_in (Expand n) = n
number_in (Sketch h) = 0

-- a text is the one of a body, which the depth admits
pub record IsTextOfBody (depth : ℕ) (text : List ℕ) (b : BodyLine) : Type 0 where
  pub text_is : text ≡ body_text b
  pub fits : fits_depth depth b ≡ true
  pub few : number_in b ≤ 999999

after_rule : (depth : ℕ) (text : List ℕ) (o : Option Reason) → text ≡ codes "rule " ++ drop 5 text → reason_of (drop 5 text) ≡ o → Only (IsTextOfBody depth text) (option_map (λ r. Rule r) o)
after_rule depth text None whole e b is = absurd cc
after_rule depth text (Some r) whole e b is =
    let same : Rule r ≡ b = same_Some _ _ is in
    let name = reason_read (drop 5 text) r e in
    record {
      text_is = whole ∙ ap (λ (l : List ℕ). codes "rule " ++ l) name.name_is ∙ ap body_text same;
      fits = ap (fits_depth depth) (sym same) ∙ name.known;
      few = omega (arith, ap number_in same);
    }

after_back : (depth : ℕ) (text : List ℕ) (o : Option ℕ) → text ≡ codes "back " ++ drop 5 text → number (drop 5 text) ≡ o → Only (IsTextOfBody depth text) (option_and_then (back_at depth) o)
after_back depth text None whole e b is = absurd cc
after_back depth text (Some k) whole e b is =
    let at = cond_some (nat_le 1 k && nat_le k depth) (Back k) b is in
    let number = number_read (drop 5 text) k e in
    record {
      text_is = whole ∙ ap (λ (l : List ℕ). codes "back " ++ l) number.text_is ∙ ap body_text at.1;
      fits = ap (fits_depth depth) (sym at.1) ∙ at.0;
      few = omega (arith, number.few, ap number_in at.1);
    }

after_expand : (depth : ℕ) (text : List ℕ) (o : Option ℕ) → text ≡ codes "expand " ++ drop 7 text → number (drop 7 text) ≡ o → Only (IsTextOfBody depth text) (option_and_then (expand_at depth) o)
after_expand depth text None whole e b is = absurd cc
after_expand depth text (Some n) whole e b is =
    let at = cond_some ((n == 0) || nat_lt depth 255) (Expand n) b is in
    let number = number_read (drop 7 text) n e in
    record {
      text_is = whole ∙ ap (λ (l : List ℕ). codes "expand " ++ l) number.text_is ∙ ap body_text at.1;
      fits = ap (fits_depth depth) (sym at.1) ∙ and_from _ _ at.0 (le-leb n 999999 number.few);
      few = omega (arith, number.few, ap number_in at.1);
    }

after_sketch : (depth : ℕ) (text : List ℕ) (o : Option Head) → head_line text ≡ o → Only (IsTextOfBody depth text) (option_map (λ h. Sketch h) o)
after_sketch depth text None e b is = absurd cc
after_sketch depth text (Some h) e b is =
    let same : Sketch h ≡ b = same_Some _ _ is in
    let head = head_read text h e in
    record {
      text_is = head.text_is ∙ ap body_text same;
      fits = ap (fits_depth depth) (sym same) ∙ head.known;
      few = omega (arith, ap number_in same);
    }

-- what is read as a body is its text
pub body_read : (depth : ℕ) (text : List ℕ) → Only (IsTextOfBody depth text) (body_at depth text)
unfolding body_at
body_read depth text =
    cond_both (starts_with nat_eq text (codes "rule ")) _ _ (Only (IsTextOfBody depth text)) (λ t. after_rule depth text (reason_of (drop 5 text)) (begun text (codes "rule ") t) refl)
    (λ f. cond_both (starts_with nat_eq text (codes "back ")) _ _ (Only (IsTextOfBody depth text)) (λ t. after_back depth text (number (drop 5 text)) (begun text (codes "back ") t) refl)
    (λ f. cond_both (starts_with nat_eq text (codes "expand ")) _ _ (Only (IsTextOfBody depth text)) (λ t. after_expand depth text (number (drop 7 text)) (begun text (codes "expand ") t) refl)
    (λ f. after_sketch depth text (head_line text) refl)))
