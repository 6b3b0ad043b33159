use Rattle.std.proofs.Common.{◌≡◌, ◌+◌, ◌*◌, ◌<◌, ◌≤◌, ◌++◌, length}
use Rattle.ep_history.specs.Fits.{ep_fits}
use Rattle.codex_verdict.specs.Candidates.{captures_from}
use Rattle.codex_verdict.specs.declared.kinds.Right.TheVariants.{EnPassant}
use Rattle.codex_verdict.proofs.Gathered.{left_from}
use Rattle.codex_verdict.proofs.listing.rights.Given as goal

abbrev pub invariant-loop-file : goal.invariant-loop-file
invariant-loop-file l = record {
  built : l.rights.items ++ left_from (λ m. EnPassant m) (ep_fits l.query.board l.query.turn) (captures_from l.query.turn) l.file 8
      ≡ l.initial.rights.items ++ left_from (λ m. EnPassant m) (ep_fits l.query.board l.query.turn) (captures_from l.query.turn) 0 8;
  none : l.file ≡ 0 → length l.rights.items ≤ 4;
  few : 0 < l.file → length l.rights.items ≤ 3 + 2 * l.file;
}
