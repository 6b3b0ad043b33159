use Rattle.std.proofs.Common.{rules, arith, ◌≤◌, ◌+◌, ◌++◌, length}
use Rattle.std.specs.Prelude.{Result, Ok, Err, MatchResult, IfOk, vec_len}
use Rattle.board_base.specs.Game.{IsGame}
use Rattle.san_text.specs.Games.{ArePlayed}
use Rattle.san_text.proofs.Leading.{lead_count}
use Rattle.san_text.proofs.Onward.{played_game}
use Rattle.san_text.proofs.games.read_san_game.Goals as goal

ok_then : {T E : Type 0} (P R : T → Type 0) (Q : E → Type 0) (r : Result T E) → ((v : T) → P v → R v) → MatchResult r P Q → IfOk r R
ok_then {T} {E} P R Q (Ok v) law h = law v h
ok_then {T} {E} P R Q (Err e) law h = tt

pub returns-clause-in_games : goal.returns-clause-in_games
returns-clause-in_games c o g game stands =
    ok_then (λ v. ArePlayed c.args.start c.deref.result.now v.items) (λ v. IsGame o (g ++ v.items)) _ c.played.result (λ v h. played_game o c.args.start g c.deref.result.now v.items game stands h) c.played.ensures

pub returns-clause-few : goal.returns-clause-few
returns-clause-few c =
    ok_then (λ v. ArePlayed c.args.start c.deref.result.now v.items) (λ v. vec_len v ≤ length c.args.bytes.now + 1) _ c.played.result (λ v h. let count = lead_count c.args.start c.deref.result.now v.items h.end h.leads in search (rules, arith)) c.played.ensures
