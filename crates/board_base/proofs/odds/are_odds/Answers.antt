use Rattle.std.proofs.Common.{◌≡◌, ◌<◌, List, Bool, false, length, refl, sym, ap, ◌∙◌, arith, inl, inr}
use Rattle.std.proofs.lemmas.Bool.{both_ways, cases_lt}
use Rattle.std.proofs.lemmas.List.{get_or_past}
use Rattle.board_base.specs.SquareNumbers.{length-squares_of}
use Rattle.board_base.proofs.odds.are_odds.Goals as goal

pub returns : goal.returns
returns c =
    let size : length c.args.set ≡ 64 = ap (λ (set : List Bool). length set) (sym c.bits.ensures.squares) ∙ length-squares_of c.bits.result in (
      λ _. record {
        size = size;
        only_homes = λ s member. elim (cases_lt s 64) [
          | inl low ↦ let done : s < c.loop-i.i = omega arith in c.loop-i.invariant s done member
          | inr past ↦ absurd (both_ways _ (get_or_past c.args.set s false (omega (arith, size))) member)
        ];
      },
      λ _. refl,
    )
