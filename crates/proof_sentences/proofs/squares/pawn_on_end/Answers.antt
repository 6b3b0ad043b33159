use Rattle.std.proofs.Common.{◌≡◌, ◌-◌, not, Bool, true, ℕ, refl, sym, ap, ◌∙◌, subst, arith, below_more}
use Rattle.std.specs.List.{list_all, range_with_len}
use Rattle.general_lemmas.proofs.Ranges.{all_step}
use Rattle.play_rules.specs.Laws.{has_no_pawn_on_ends}
use Rattle.play_rules.proofs.NoPawns.{answers_law}
use Rattle.proof_sentences.specs.Firsts.{IsFirst, is_pawn_on_end}
use Rattle.proof_sentences.proofs.squares.pawn_on_end.Goals as goal

pub loop-i-init : goal.loop-i-init
unfolding has_no_pawn_on_ends
loop-i-init c = record { rest = refl; none = λ s low. absurd (omega arith) }

pub loop-i-preserved : goal.loop-i-preserved
loop-i-preserved c =
    let p : ℕ → Bool = λ s. not (is_pawn_on_end c.args.board.now s) in
    let none = rw c.known-s.ensures at (sym c.is_pawn_on_end.ensures ∙ c.if-is_pawn_on_end.false) in
    record {
      rest = all_step p c.loop-i.i 64 _ c.loop-i-test.true (ap not none) c.loop-i.invariant.rest;
      none = below_more _ _ c.loop-i.invariant.none none;
    }

pub returns-then-is_pawn_on_end-clause-first : goal.returns-then-is_pawn_on_end-clause-first
returns-then-is_pawn_on_end-clause-first c =
    subst (IsFirst (is_pawn_on_end c.args.board.now)) (sym c.known-s.ensures)
    (rw c.known-s.ensures at (sym c.is_pawn_on_end.ensures ∙ c.if-is_pawn_on_end.true), c.loop-i.invariant.none)

pub returns : goal.returns
returns c =
    let p : ℕ → Bool = λ s. not (is_pawn_on_end c.args.board.now s) in
    let e : 0 ≡ 64 - c.loop-i.i = omega arith in
    let yes : true ≡ has_no_pawn_on_ends c.args.board.now = ap (λ (n : ℕ). list_all p (range_with_len c.loop-i.i n)) e ∙ c.loop-i.invariant.rest in
    absurd (c.requires ((answers_law _ _ yes).0 refl))
