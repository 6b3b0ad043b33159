use Rattle.std.proofs.Common.{◌≡◌, ◌<◌, ℕ, List, Bool, true, ap, sym, ◌∙◌, subst, arith}
use Rattle.std.proofs.lemmas.Bool.{both_ways}
use Rattle.board_base.specs.Board.{is_in}
use Rattle.past_sketches.specs.Figures.{only_on}
use Rattle.figures.proofs.Singles.{in-only, one-square, only-in}
use Rattle.figures.proofs.sets.only_square.Goals as goal

pub returns-then-first-eq64 : goal.returns-then-first-eq64
returns-then-first-eq64 c = record { one = λ s low e. both_ways _ (c.next_from-first.ensures.none s (omega arith) (omega arith)) (ap (λ (l : List Bool). is_in l s) e ∙ in-only s low) }

pub returns-then-next_from-lt64 : goal.returns-then-next_from-lt64
returns-then-next_from-lt64 c = record {
  one = λ s low e.
      let first : is_in c.args.set c.next_from-first.result ≡ true = c.next_from-first.ensures.found (omega arith) in
      let next : is_in c.args.set c.next_from.result ≡ true = c.next_from.ensures.found (omega arith) in
      let at_first : c.next_from-first.result ≡ s = only-in s c.next_from-first.result (ap (λ (l : List Bool). is_in l c.next_from-first.result) (sym e) ∙ first) in
      let at_next : c.next_from.result ≡ s = only-in s c.next_from.result (ap (λ (l : List Bool). is_in l c.next_from.result) (sym e) ∙ next) in
      absurd (omega arith);
}

pub returns : goal.returns
returns c =
    let low : c.next_from-first.result < 64 = omega arith in
    let same : c.known.result ≡ c.next_from-first.result = c.known.ensures in
    record { one = (subst (λ (n : ℕ). n < 64) (sym same) low, one-square c.args.set c.next_from-first.result c.next_from.result c.is_whole.ensures low (c.next_from-first.ensures.found low) (omega arith) c.next_from-first.ensures.none c.next_from.ensures.none ∙ ap only_on (sym same)) }
