use Rattle.std.proofs.Common.{refl, ◌∙◌, None}
use Rattle.fen_text.specs.Fen.{rights, from_en_passant, from_rights}
use Rattle.fen_text.proofs.PartLemmas.{part_more}
use Rattle.fen_text.proofs.FieldLemmas.{clean_rights}
use Rattle.fen_text.proofs.Stages.{stage_part, stage_end, stage_more, opens_en_passant}
use Rattle.fen_text.proofs.positions.read_from_rights.Goals as goal

pub returns-in-Err-clause-read : goal.returns-in-Err-clause-read
unfolding from_rights
returns-in-Err-clause-read c = stage_part rights (λ x. None) (from_en_passant c.args.board.now c.args.turn) c.args.text.now c.split_part.result.0.now c.in-Err.at c.here.result clean_rights (opens_en_passant c.args.board.now c.args.turn) c.split_part.ensures.part c.in-Err.ensures c.here.ensures.field c.here.ensures.at

pub returns-in_default-clause-read : goal.returns-in_default-clause-read
unfolding from_rights
returns-in_default-clause-read c = stage_end rights (λ x. None) (from_en_passant c.args.board.now c.args.turn) c.args.text.now c.split_part.result.0.now c.in-Ok.held c.here-in_default.result (opens_en_passant c.args.board.now c.args.turn) c.split_part.ensures.part (rw c.in_default.is at c.split_part.ensures.rest) c.in-Ok.ensures refl c.here-in_default.ensures.field c.here-in_default.ensures.at

pub returns-in-Ok-read_from_en_passant-clause-read : goal.returns-in-Ok-read_from_en_passant-clause-read
unfolding from_rights
returns-in-Ok-read_from_en_passant-clause-read c = part_more 32 rights (λ x. None) (from_en_passant c.args.board.now c.args.turn) c.args.text.now c.split_part.result.0.now c.in-Some.rest.now c.in-Ok.held c.split_part.ensures.part.free (rw c.in-Some.is at c.split_part.ensures.rest) c.in-Ok.ensures ∙ c.in-Ok-read_from_en_passant.ensures.read

pub returns-in-Err-read_from_en_passant-clause-read : goal.returns-in-Err-read_from_en_passant-clause-read
unfolding from_rights
returns-in-Err-read_from_en_passant-clause-read c = stage_more rights (λ x. None) (from_en_passant c.args.board.now c.args.turn) c.args.text.now c.split_part.result.0.now c.in-Some.rest.now c.in-Ok.held c.in-Err-read_from_en_passant.fault c.behind.result c.split_part.ensures.part.free (rw c.in-Some.is at c.split_part.ensures.rest) c.in-Ok.ensures c.in-Err-read_from_en_passant.ensures.read c.behind.ensures.field c.behind.ensures.at
