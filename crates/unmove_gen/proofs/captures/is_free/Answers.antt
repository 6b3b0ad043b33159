use Rattle.std.proofs.Common.{not, set, sym, ap, ◌∙◌, arith}
use Rattle.std.specs.Prelude.{None}
use Rattle.board_base.specs.Attacks.{attacks, kind_attacks}
use Rattle.board_base.specs.Board.{Places}
use Rattle.query_base.specs.Asked.{Asked}
use Rattle.unmove_gen.specs.Listed.{mover}
use Rattle.unmove_gen.specs.Plain.{put_back}
use Rattle.unmove_gen.proofs.Comes.{strikes-man}
use Rattle.unmove_gen.proofs.PlainFitting.{alone-but}
use Rattle.unmove_gen.proofs.captures.is_free.Goals as goal

pub returns-then-alone : goal.returns-then-alone
returns-then-alone c =
    let q : Asked = c.args.query.now in
    let low = c.index.ensures.on_board in
    let same = c.index.ensures.number in
    ap not (c.attacks_past.ensures ∙ ap (λ (a : Asked). kind_attacks (set a.board c.args.m.now.to None) c.args.them.colour c.args.them.kind c.args.m.now.from c.args.king) c.query.view_is
    ∙ sym (strikes-man (mover q) q.board c.args.m.now c.args.king c.args.them (omega arith) c.requires.plain c.requires.there)
    ∙ alone-but q.turn q.board c.args.m.now c.args.king c.requires.plain (c.requires.alone c.if-alone.true))

pub returns-else-alone : goal.returns-else-alone
returns-else-alone c =
    let q : Asked = c.args.query.now in
    c.is_left_alone.ensures ∙ ap (λ (b : Places). not (attacks b c.args.king (mover q))) (c.put_back.ensures ∙ ap (λ (a : Asked). put_back a.board c.args.m.now None) c.query.view_is)
