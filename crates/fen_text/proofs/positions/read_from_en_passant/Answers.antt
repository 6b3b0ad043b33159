use Rattle.std.proofs.Common.{◌∙◌, sym, ap, subst, Some, None}
use Rattle.query_base.specs.Asked.{Asked}
use Rattle.fen_text.specs.FenFaults.{IsFenFault}
use Rattle.fen_text.specs.Fen.{asked, en_passant, from_numbers, from_en_passant}
use Rattle.fen_text.proofs.PartLemmas.{part_only, part_more}
use Rattle.fen_text.proofs.FieldLemmas.{clean_en_passant}
use Rattle.fen_text.proofs.Stages.{stage_part, stage_more, opens_numbers}
use Rattle.fen_text.proofs.positions.read_from_en_passant.Goals as goal

pub returns-in-Err-clause-read : goal.returns-in-Err-clause-read
unfolding from_en_passant
returns-in-Err-clause-read c = stage_part (en_passant c.args.turn) (λ e. Some (asked c.args.board.now c.args.turn c.args.held e, None)) (λ e. from_numbers (asked c.args.board.now c.args.turn c.args.held e)) c.args.text.now c.split_part.result.0.now c.in-Err.at c.here.result (clean_en_passant c.args.turn) (opens_numbers c.args.board.now c.args.turn c.args.held) c.split_part.ensures.part c.in-Err.ensures.read c.here.ensures.field c.here.ensures.at

pub returns-in_default-clause-read : goal.returns-in_default-clause-read
unfolding from_en_passant
returns-in_default-clause-read c = part_only 32 (en_passant c.args.turn) (λ e. Some (asked c.args.board.now c.args.turn c.args.held e, None)) (λ e. from_numbers (asked c.args.board.now c.args.turn c.args.held e)) c.args.text.now c.split_part.result.0.now c.in-Ok.only c.split_part.ensures.part.free (rw c.in_default.is at c.split_part.ensures.rest) c.in-Ok.ensures.read ∙ ap (λ (q : Asked). Some (q, None)) (sym c.asked-query.ensures)

pub returns-in-Ok-read_from_numbers-clause-read : goal.returns-in-Ok-read_from_numbers-clause-read
unfolding from_en_passant
returns-in-Ok-read_from_numbers-clause-read c = part_more 32 (en_passant c.args.turn) (λ e. Some (asked c.args.board.now c.args.turn c.args.held e, None)) (λ e. from_numbers (asked c.args.board.now c.args.turn c.args.held e)) c.args.text.now c.split_part.result.0.now c.in-Some.rest.now c.in-Ok.only c.split_part.ensures.part.free (rw c.in-Some.is at c.split_part.ensures.rest) c.in-Ok.ensures.read ∙ ap (λ (q : Asked). from_numbers q c.in-Some.rest.now) (sym c.asked-query.ensures) ∙ c.in-Ok-read_from_numbers.ensures.read

pub returns-in-Err-read_from_numbers-clause-read : goal.returns-in-Err-read_from_numbers-clause-read
unfolding from_en_passant
returns-in-Err-read_from_numbers-clause-read c = stage_more (en_passant c.args.turn) (λ e. Some (asked c.args.board.now c.args.turn c.args.held e, None)) (λ e. from_numbers (asked c.args.board.now c.args.turn c.args.held e)) c.args.text.now c.split_part.result.0.now c.in-Some.rest.now c.in-Ok.only c.in-Err-read_from_numbers.fault c.behind.result c.split_part.ensures.part.free (rw c.in-Some.is at c.split_part.ensures.rest) c.in-Ok.ensures.read (subst (λ (q : Asked). IsFenFault (from_numbers q) c.in-Some.rest.now c.in-Err-read_from_numbers.fault) c.asked-query.ensures c.in-Err-read_from_numbers.ensures.read) c.behind.ensures.field c.behind.ensures.at
