use Rattle.std.proofs.Common.{◌++◌, refl, sym}
use Rattle.std.proofs.lemmas.Result.{IfOk-equal}
use Rattle.prose_words.proofs.Squares.{thence}
use Rattle.proof_prose.specs.Heads.{both_given, clock_given, odds_given, only_given}
use Rattle.board_base.specs.Rights.{holds}
use Rattle.board_base.specs.declared.castles.Castle.TheVariants.{WhiteShort, WhiteLong, BlackShort, BlackLong}
use Rattle.proof_prose.proofs.heads.push_givens.Goals as goal

pub returns : goal.returns
returns c =
    let o = c.args.out.now.items in
    let odds = odds_given c.query.inside.odds in
    let clock = clock_given c.query.inside.clock in
    let only = only_given c.query.inside.only in
    let white = both_given (holds c.query.inside.held WhiteShort) (holds c.query.inside.held WhiteLong) WhiteShort WhiteLong in
    let black = both_given (holds c.query.inside.held BlackShort) (holds c.query.inside.held BlackLong) BlackShort BlackLong in
    let h1 = thence o _ _ odds clock c.in_ok-push_odds.ensures c.in_ok-push_clock.ensures in
    let h2 = thence o _ _ (odds ++ clock) only h1 c.in_ok-push_only.ensures in
    let h3 = thence o _ _ (odds ++ clock ++ only) white h2 c.in_ok-push_rights.ensures in
    IfOk-equal c.push_rights-2.result c.push_rights-2.new.out.items _ _ c.push_rights-2.ensures
    (rw (sym c.query.view_is) (thence o _ _ (odds ++ clock ++ only ++ white) black h3 refl))
