use Rattle.std.proofs.Common.{◌≡◌, ◌++◌, length, subst, arith}
use Rattle.board_base.specs.Play.{all_castles}
use Rattle.ep_history.specs.Fits.{ep_fits}
use Rattle.castle_history.specs.Homes.{are_at_home}
use Rattle.query_base.specs.Asked.{Asked}
use Rattle.codex_verdict.specs.Candidates.{captures_from}
use Rattle.codex_verdict.specs.declared.kinds.Right.TheVariants.{Castling, EnPassant}
use Rattle.codex_verdict.proofs.Gathered.{made, left-step}
use Rattle.codex_verdict.proofs.Few.{few-more, room}
use Rattle.codex_verdict.proofs.AllRights.{rights-are}
use Rattle.codex_verdict.proofs.listing.rights.Goals as goal

pub add_captures-requires-clause-room : goal.add_captures-requires-clause-room
add_captures-requires-clause-room c = room c.loop-file.file (length c.loop-file.rights.items) (omega arith) c.loop-file.invariant.none c.loop-file.invariant.few

pub loop-file-preserved : goal.loop-file-preserved
loop-file-preserved c = record {
  built = left-step (λ m. EnPassant m) (ep_fits c.args.query.now.board c.args.query.now.turn) (captures_from c.args.query.now.turn) c.loop-file.file 8
      c.loop-file.rights.items c.add_captures.new.rights.items _ (omega arith)
      (subst (λ (q : Asked). c.add_captures.new.rights.items ≡ c.loop-file.rights.items ++ made (λ m. EnPassant m) (ep_fits q.board q.turn) (captures_from q.turn c.loop-file.file)) c.query.view_is c.add_captures.ensures.added)
      c.loop-file.invariant.built;
  none = λ e. absurd (omega arith);
  few = λ _. few-more c.loop-file.file (length c.loop-file.rights.items) (length c.add_captures.new.rights.items) (omega arith) c.loop-file.invariant.none c.loop-file.invariant.few c.add_captures.ensures.few;
}

pub returns : goal.returns
returns c = rights-are c.args.query.now.board c.args.query.now.turn c.loop-file.rights.items c.castlings-rights.result.items c.loop-file.file (omega arith)
    (subst (λ (q : Asked). c.castlings-rights.result.items ≡ made (λ x. Castling x) (are_at_home q.board) all_castles) c.query.view_is c.castlings-rights.ensures.all)
    c.loop-file.invariant.built
