use Rattle.std.proofs.Common.{sym, ap, ◌∙◌, arith, eqb-true}
use Rattle.std.proofs.lemmas.Bool.{eqb-false}
use Rattle.fen_text.proofs.FieldLemmas.{en_passant_none, en_passant_bad, en_passant_short, en_passant_rank, en_passant_over, en_passant_good}
use Rattle.std.specs.Prelude.{Some}
use Rattle.board_base.specs.declared.moves.Move.{Move}
use Rattle.fen_text.proofs.fields.read_en_passant.Goals as goal

pub returns-then-is_empty-clause-read : goal.returns-then-is_empty-clause-read
returns-then-is_empty-clause-read c = en_passant_none c.args.turn c.args.text.now (eqb-true _ _ (sym c.is_empty.ensures ∙ c.if-is_empty.true))

pub returns-then-not-is_file-clause-read : goal.returns-then-not-is_file-clause-read
returns-then-not-is_file-clause-read c =
    let some = eqb-false _ _ (sym c.is_empty.ensures ∙ c.if-is_empty.false) in
    en_passant_bad c.args.turn c.args.text.now (omega arith) c.if-text-eq45.false (sym c.is_file.ensures ∙ c.if-not-is_file.true)

pub returns-then-text-eq1-2-clause-read : goal.returns-then-text-eq1-2-clause-read
returns-then-text-eq1-2-clause-read c = en_passant_short c.args.turn c.args.text.now c.if-text-eq1-2.true c.if-text-eq45.false (sym c.is_file.ensures ∙ c.if-not-is_file.false)

pub returns-then-text-digit_of-clause-read : goal.returns-then-text-digit_of-clause-read
returns-then-text-digit_of-clause-read c =
    let some = eqb-false _ _ (sym c.is_empty.ensures ∙ c.if-is_empty.false) in
    en_passant_rank c.args.turn c.args.text.now (omega arith) (sym c.is_file.ensures ∙ c.if-not-is_file.false) (λ e. c.if-text-digit_of.true (e ∙ sym c.digit_of.ensures))

pub returns-then-text-gt2-clause-read : goal.returns-then-text-gt2-clause-read
returns-then-text-gt2-clause-read c = en_passant_over c.args.turn c.args.text.now c.if-text-gt2.true (sym c.is_file.ensures ∙ c.if-not-is_file.false) (c.if-text-digit_of.false ∙ c.digit_of.ensures)

pub returns-clause-read : goal.returns-clause-read
returns-clause-read c =
    let some = eqb-false _ _ (sym c.is_empty.ensures ∙ c.if-is_empty.false) in
    en_passant_good c.args.turn c.args.text.now (omega arith) (sym c.is_file.ensures ∙ c.if-not-is_file.false) (c.if-text-digit_of.false ∙ c.digit_of.ensures) ∙ ap (λ (m : Move). Some (Some m)) (sym c.double_step.ensures.step)
