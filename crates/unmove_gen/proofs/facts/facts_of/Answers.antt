use Rattle.std.proofs.Common.{◌≡◌, ◌<◌, ◌==◌, ℕ, sym, ap, ◌∙◌, subst, arith}
use Rattle.query_base.specs.Asked.{Asked}
use Rattle.board_base.specs.Attacks.{attacks}
use Rattle.board_base.specs.Board.{Places, at, is_the, opponent}
use Rattle.board_base.specs.declared.men.Colour.{Colour}
use Rattle.board_base.specs.declared.men.Kind.TheVariants.{King}
use Rattle.board_base.proofs.KindsOfMen.{opponent-twice}
use Rattle.men_account.specs.Account.{accounts_for}
use Rattle.unmove_gen.specs.Plain.{AreFacts}
use Rattle.unmove_gen.proofs.OneKing.{each-one}
use Rattle.unmove_gen.proofs.Opened.{check-is}
use Rattle.unmove_gen.proofs.facts.facts_of.Goals as goal

pub returns : goal.returns
returns c =
    let low = c.index.ensures.on_board in
    let same = c.index.ensures.number in
    let low2 = c.index-2.ensures.on_board in
    let same2 = c.index-2.ensures.number in
    let king : ℕ = c.in-Some.king in
    let other : ℕ = c.in-Some-sole_king.other in
    let inside : king < 64 = omega arith in
    let inside2 : other < 64 = omega arith in
    let board : Places = c.query.inside.board in
    let turn : Colour = c.query.inside.turn in
    let theirs : (s : ℕ) → s < 64 → is_the (opponent turn) King (at board s) ≡ (s == other) = λ s small. ap (λ (d : Colour). is_the d King (at board s)) (sym c.other-mover.ensures) ∙ c.in-Some-sole_king.ensures s small in
    subst (λ (a : Asked). AreFacts a (record { king = king; men = c.counts-men.result; allowed = c.allowance-allowed.result; used = c.excess.result; checked = c.attacked-2.result })) c.query.view_is (record {
      whole = c.is_whole.ensures;
      on_board = inside;
      king_is = λ s small. c.in-Some.ensures s small;
      kings = each-one board turn king other c.is_whole.ensures inside inside2 (λ s small. c.in-Some.ensures s small) theirs;
      ends = c.has_no_pawn_on_ends.ensures.law.0 c.if-not-has_no_pawn_on_ends.false;
      safe = check-is board (opponent turn) other inside2 theirs ∙ ap (attacks board other) (opponent-twice turn) ∙ sym c.attacked.ensures ∙ c.if-attacked.false;
      own = ap (accounts_for c.query.inside.odds board) (sym c.other-mover.ensures) ∙ sym c.account_ok.ensures ∙ c.if-not-account_ok.false;
      men_are = c.counts-men.ensures;
      allowed_is = c.allowance-allowed.ensures;
      used_is = c.excess.ensures;
      checked_is = c.attacked-2.ensures ∙ ap (attacks board king) c.other-mover.ensures;
    })
