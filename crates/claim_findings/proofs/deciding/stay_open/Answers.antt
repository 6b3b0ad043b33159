use Rattle.std.proofs.Common.{List, [], ◌∷◌, sym, subst}
use Rattle.std.specs.List.{Contains}
use Rattle.std.proofs.lemmas.List.Elements.{Contains-append_right}
use Rattle.general_lemmas.proofs.Lists.{contains-first}
use Rattle.board_base.specs.declared.moves.Move.{Move}
use Rattle.claim_findings.proofs.Agreeing.{plainly_countered}
use Rattle.claim_findings.proofs.Staying.{stays_listed, stays_told}
use Rattle.claim_findings.proofs.deciding.stay_open.Goals as goal

pub front_of-requires : goal.front_of-requires
front_of-requires c =
    stays_listed c.target.result c.args.subject.now.query c.args.claim.now c.args.subject.now.limits.depth c.in-Line.line c.target.ensures.query (rw c.in-Line.is at c.in_ok-line.ensures)

pub returns-in_ok-front-in-Line-clause-decided : goal.returns-in_ok-front-in-Line-clause-decided
returns-in_ok-front-in-Line-clause-decided c =
    stays_told _ c.unmoves_have_texts.ensures.promotion c.unmoves_have_texts.ensures.capture c.target.result c.args.subject.now.query c.args.claim.now c.args.subject.now.limits.depth c.args.subject.now.limits.nodes c.in-Line.line c.in_ok-front-in-Line.front c.target.ensures.query c.requires.open (rw c.in-Line.is at c.in_ok-line.ensures) c.in_ok-front-in-Line.ensures

pub returns-in_ok-add-in-Game-clause-decided : goal.returns-in_ok-add-in-Game-clause-decided
returns-in_ok-add-in-Game-clause-decided c =
    let game : List Move = c.in-Game.game in
    let last = Contains-append_right c.args.games.now.found.items (game ∷ []) game (contains-first game []) in
    let there = subst (λ (games : List (List Move)). Contains games game) (sym c.in_ok-add-in-Game.ensures) last in
    plainly_countered c.args.subject.now.query c.args.claim.now c.args.subject.now.limits.depth c.args.subject.now.limits.nodes c.add.new.self.found.items c.plainly.result c.plainly.ensures.finding c.plainly.ensures.stuck (game, there, rw c.in-Game.is at c.in_ok-line.ensures)
