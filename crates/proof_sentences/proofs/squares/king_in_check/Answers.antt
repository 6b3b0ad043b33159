use Rattle.std.proofs.Common.{refl, sym, ◌∙◌, subst, arith, below_more}
use Rattle.std.proofs.lemmas.Bool.{both_ways}
use Rattle.general_lemmas.proofs.Ranges.{any_step, any_end}
use Rattle.board_base.specs.Legal.{in_check}
use Rattle.proof_sentences.specs.Firsts.{IsFirst, is_king_attacked}
use Rattle.proof_sentences.proofs.squares.king_in_check.Goals as goal

pub loop-i-init : goal.loop-i-init
unfolding in_check
loop-i-init c = record { rest = refl; none = λ s low. absurd (omega arith) }

pub loop-i-preserved : goal.loop-i-preserved
loop-i-preserved c =
    let none = rw c.known-s.ensures at (sym c.is_king_attacked.ensures ∙ c.if-is_king_attacked.false) in
    record {
      rest = any_step (is_king_attacked c.args.board.now c.args.side) c.loop-i.i 64 _ c.loop-i-test.true none c.loop-i.invariant.rest;
      none = below_more _ _ c.loop-i.invariant.none none;
    }

pub returns-then-is_king_attacked-clause-first : goal.returns-then-is_king_attacked-clause-first
returns-then-is_king_attacked-clause-first c =
    subst (IsFirst (is_king_attacked c.args.board.now c.args.side)) (sym c.known-s.ensures)
    (rw c.known-s.ensures at (sym c.is_king_attacked.ensures ∙ c.if-is_king_attacked.true), c.loop-i.invariant.none)

pub returns : goal.returns
returns c =
    let no = any_end (is_king_attacked c.args.board.now c.args.side) c.loop-i.i 64 _ (omega arith) c.loop-i.invariant.rest in
    absurd (both_ways _ (sym no) c.requires)
