use Rattle.std.proofs.Common.{◌≡◌, ◌<◌, length, true, false, inl, inr, sym, ap, ◌∙◌, arith}
use Rattle.std.proofs.lemmas.Bool.{cases_eq, eq-eqb, ne_eqb}
use Rattle.std.proofs.lemmas.List.{get_or-set_same, get_or-set_other, length-set}
use Rattle.std.specs.Prelude.{List, Bool, slice_set}
use Rattle.board_base.specs.Board.{is_in}
use Rattle.check_origins.proofs.arrivals.only_square.Goals as goal

pub returns : goal.returns
returns c =
    let before : List Bool = c.no_squares.result in
    let size : length before ≡ 64 = c.no_squares.ensures.size in
    let low = c.index.ensures.on_board in
    let same = c.index.ensures.number in
    let inside : c.args.s < length before = omega arith in
    record {
      size = ap length c.with.ensures ∙ length-set before c.args.s true ∙ size;
      one = λ t small. ap (λ (l : List Bool). is_in l t) c.with.ensures ∙ elim (cases_eq t c.args.s) [
        | inl here ↦ ap (is_in (slice_set before c.args.s true)) here ∙ get_or-set_same before c.args.s true false inside ∙ sym (eq-eqb t c.args.s here)
        | inr other ↦ get_or-set_other before c.args.s t true false other ∙ c.no_squares.ensures.none t small ∙ sym (ne_eqb t c.args.s other)
      ];
    }
