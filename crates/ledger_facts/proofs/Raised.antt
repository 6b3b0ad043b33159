-- What captures cost more where they are counted.
use Rattle.std.proofs.Common.{◌≡◌, ℕ, ◌+◌, ◌*◌, ◌<◌, cond, inl, inr, List, [], ◌∷◌, length, slice_index, refl, ap, ◌∙◌, arith}
use Rattle.std.proofs.lemmas.Bool.{cases_Bool, cond-true, cond-false}
use Rattle.std.proofs.lemmas.List.FromFn.{get_or-map-range_with_len}
use Rattle.std.proofs.lemmas.List.Sums.{sum_by-cons}
use Rattle.std.specs.List.{filter}
use Rattle.board_base.specs.declared.men.Colour.{Colour}
use Rattle.board_base.specs.declared.men.Colour.TheVariants.{White, Black}
use Rattle.men_fates.specs.Deeds.{Strike}
use Rattle.men_ledger.specs.Ledger.{turnover}
use Rattle.capture_prices.specs.Prices.{PriceList, class_of, take}
use Rattle.ledger_facts.specs.Accounts.{charge, dearer, raised}
use Rattle.ledger_facts.specs.Supposed.{has_class}
use Rattle.ledger_facts.specs.declared.suppositions.Squares.{Squares}

class-few : (s : ℕ) → class_of s < 16
class-few s = omega arith

dearer-at : (squares : Squares) (takes : List ℕ) (s : ℕ) → slice_index (dearer squares takes) (class_of s) ≡ slice_index takes (class_of s) + cond (has_class squares (class_of s)) charge 0
unfolding dearer
dearer-at squares takes s = get_or-map-range_with_len (λ k. slice_index takes k + cond (has_class squares k) charge 0) 0 16 (class_of s) (class_of s) 0 (class-few s) (omega arith)

pub take-raised : (c : Colour) (squares : Squares) (p : PriceList) (s : ℕ) → take (raised c squares p) c s ≡ take p c s + cond (has_class squares (class_of s)) charge 0
take-raised White squares p s = dearer-at squares p.white s
take-raised Black squares p s = dearer-at squares p.black s

-- the captures that are counted
abbrev pub counted : Squares → List Strike → ℕ
counted squares all = length (filter (λ (x : Strike). has_class squares (class_of x.on)) all)

-- each of them costs so much more
pub turnover-raised : (c : Colour) (squares : Squares) (p : PriceList) (all : List Strike) → turnover (take (raised c squares p) c) all ≡ turnover (take p c) all + charge * counted squares all
turnover-raised c squares p [] = refl
turnover-raised c squares p (x ∷ all) =
    let rest = turnover-raised c squares p all in
    let here = take-raised c squares p x.on in
    let more = sum_by-cons (λ (y : Strike). take (raised c squares p) c y.on) x all in
    let less = sum_by-cons (λ (y : Strike). take p c y.on) x all in
    elim (cases_Bool (has_class squares (class_of x.on))) [
      | inl is ↦
          let one = cond-true (has_class squares (class_of x.on)) charge 0 is in
          let many : counted squares (x ∷ all) ≡ 1 + counted squares all = ap (λ (l : List Strike). length l) (cond-true (has_class squares (class_of x.on)) (x ∷ filter (λ (y : Strike). has_class squares (class_of y.on)) all) (filter (λ (y : Strike). has_class squares (class_of y.on)) all) is) ∙ omega arith in
          omega (arith, rest, here, more, less, one, many)
      | inr not_it ↦
          let none = cond-false (has_class squares (class_of x.on)) charge 0 not_it in
          let many : counted squares (x ∷ all) ≡ counted squares all = ap (λ (l : List Strike). length l) (cond-false (has_class squares (class_of x.on)) (x ∷ filter (λ (y : Strike). has_class squares (class_of y.on)) all) (filter (λ (y : Strike). has_class squares (class_of y.on)) all) not_it) in
          omega (arith, rest, here, more, less, none, many)
    ]
