use Rattle.std.proofs.Common.{subst}
use Rattle.retro_ports.proofs.Pieces.{StillToCome, last_failed, last_ok, nothing_written, piece_cut, piece_written}
use Rattle.command_answers.specs.Unmoves.{unmove_line, unmoves_text}
use Rattle.command_answers.proofs.Retracting.{given-more, given-none, lines_left-next, lines_left-none, next-listed, total_line}
use Rattle.command_answers.proofs.unmoves.write_retractions.Goals as goal

pub loop-u-init : goal.loop-u-init
loop-u-init g c = rw c.new-left.ensures (record { given = given-none c.args.query.now; lines = nothing_written _ _ (unmoves_text c.args.query.now) })

pub unmove_line-requires-clause-promotion : goal.unmove_line-requires-clause-promotion
unmove_line-requires-clause-promotion g c = c.unmoves_have_texts.ensures.promotion _ _ (next-listed _ _ _ _ _ c.loop-u.invariant.given c.in-Some.ensures)

pub unmove_line-requires-clause-capture : goal.unmove_line-requires-clause-capture
unmove_line-requires-clause-capture g c = c.unmoves_have_texts.ensures.capture _ _ (next-listed _ _ _ _ _ c.loop-u.invariant.given c.in-Some.ensures)

pub returns-in_err-write_all-clause-failed : goal.returns-in_err-write_all-clause-failed
returns-in_err-write_all-clause-failed g c =
    let left = subst (StillToCome _ _ _ _ _) (lines_left-next c.args.query.now c.in-Some.u _ _ c.in-Some.ensures) c.loop-u.invariant.lines in
    let cut = rw (c.as_slice.ensures.value, c.unmove_line.ensures) at c.in_err-write_all.ensures.failed in
    piece_cut _ _ _ _ _ _ (unmove_line c.args.query.now c.in-Some.u) _ _ left cut

pub loop-u-preserved : goal.loop-u-preserved
loop-u-preserved g c =
    let left = subst (StillToCome _ _ _ _ _) (lines_left-next c.args.query.now c.in-Some.u _ _ c.in-Some.ensures) c.loop-u.invariant.lines in
    let taken = rw (c.as_slice.ensures.value, c.unmove_line.ensures) at c.in_ok-write_all.ensures.ok in
    record {
      given = given-more _ _ _ _ _ c.loop-u.invariant.given c.in-Some.ensures;
      lines = piece_written _ _ _ _ _ _ _ (unmove_line c.args.query.now c.in-Some.u) _ left taken c.in_ok-write_all.ensures.cause.kept;
    }

pub returns-clause-ok : goal.returns-clause-ok
returns-clause-ok g c =
    let left = subst (StillToCome _ _ _ _ _) (lines_left-none _ _ _ c.loop-u.invariant.given c.in_default.ensures.0) c.loop-u.invariant.lines in
    let taken = rw (c.as_slice-2.ensures.value, c.total_line.ensures) at c.write_all-2.ensures.ok in
    last_ok _ _ _ _ _ _ (total_line c.loop-u.total) c.write_all-2.result left taken

pub returns-clause-failed : goal.returns-clause-failed
returns-clause-failed g c =
    let left = subst (StillToCome _ _ _ _ _) (lines_left-none _ _ _ c.loop-u.invariant.given c.in_default.ensures.0) c.loop-u.invariant.lines in
    let cut = rw (c.as_slice-2.ensures.value, c.total_line.ensures) at c.write_all-2.ensures.failed in
    last_failed _ _ _ _ _ _ (total_line c.loop-u.total) c.write_all-2.result left cut
