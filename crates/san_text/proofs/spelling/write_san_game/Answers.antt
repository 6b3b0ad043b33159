use Rattle.std.proofs.Common.{rules, arith, ◌≡◌, ◌≤◌, ◌+◌, ◌/◌, List, [], take, length, true, false, ap, sym, ◌∙◌, subst}
use Rattle.std.proofs.lemmas.List.{length-take-le, take_all}
use Rattle.board_base.specs.declared.moves.Move.{Move}
use Rattle.general_lemmas.proofs.Splits.{up_to}
use Rattle.play_rules.specs.States.{Position, legal_at}
use Rattle.san_text.specs.Pieces.{added_all}
use Rattle.san_text.specs.Spelling.{next, spelling}
use Rattle.san_text.specs.SpelledGames.{AreLegal, game_spelling, numbered, spelled_words, state_after}
use Rattle.san_text.proofs.Blanks.{added_joined}
use Rattle.san_text.proofs.Onward.{first_in_game, first_not, from_array, legal_more, state_more}
use Rattle.san_text.proofs.Respelled.{all_words, spelling_tells, text_more}
use Rattle.san_text.proofs.spelling.write_san_game.Goals as goal

pub returns-then-not-is_legal-clause-here : goal.returns-then-not-is_legal-clause-here
returns-then-not-is_legal-clause-here c =
    let here : legal_at c.loop-i.state c.index-moves-i.result ≡ false = sym c.is_legal.ensures.here ∙ c.if-not-is_legal.true in
    first_not c.args.start c.args.moves.now c.loop-i.i c.index-moves-i.result c.loop-i-test.true c.index-moves-i.is c.loop-i.invariant.0
    (subst (λ (p : Position). legal_at p c.index-moves-i.result ≡ false) c.loop-i.invariant.1 here)

pub returns-then-not-is_legal-clause-in_games : goal.returns-then-not-is_legal-clause-in_games
returns-then-not-is_legal-clause-in_games c o stands =
    first_in_game o c.args.start c.args.moves.now (c.loop-i.i + 1) stands (returns-then-not-is_legal-clause-here c)

pub loop-i-preserved : goal.loop-i-preserved
loop-i-preserved c =
    let p = c.args.start in
    let m = c.index-moves-i.result in
    let before = take c.loop-i.i c.args.moves.now in
    let short : c.loop-i.i ≤ length c.args.moves.now = let low = c.loop-i-test.true in omega arith in
    let here : legal_at c.loop-i.state m ≡ true = sym c.is_legal.ensures.here ∙ c.if-not-is_legal.false in
    let wrote : c.push_ply.new.text.items ≡ added_all c.loop-i.text.items (numbered c.loop-i.state.turn (c.loop-i.i / 2 + 1) (spelling c.loop-i.state m)) = search rules in
    subst (λ (l : List Move). AreLegal p l × (c.after-state.result ≡ state_after p l) × (c.push_ply.new.text.items ≡ added_all [] (spelled_words p 0 l))) (sym (up_to c.args.moves.now c.loop-i.i m c.loop-i-test.true c.index-moves-i.is)) (
      legal_more p before m c.loop-i.invariant.0 (subst (λ (q : Position). legal_at q m ≡ true) c.loop-i.invariant.1 here),
      c.after-state.ensures ∙ ap (λ (q : Position). next q m) c.loop-i.invariant.1 ∙ sym (state_more p before m),
      text_more p before m c.loop-i.state c.loop-i.i c.loop-i.text.items c.push_ply.new.text.items c.loop-i.invariant.1 (length-take-le c.loop-i.i c.args.moves.now short) c.loop-i.invariant.2 wrote,
    )

all_made : (c : goal.After-loop-i) → length c.args.moves.now ≤ c.loop-i.i → AreLegal c.args.start c.args.moves.now × (c.loop-i.text.items ≡ game_spelling c.args.start c.args.moves.now)
all_made c over =
    let p = c.args.start in
    let whole : take c.loop-i.i c.args.moves.now ≡ c.args.moves.now = take_all c.loop-i.i c.args.moves.now over in (
      subst (AreLegal p) whole c.loop-i.invariant.0,
      c.loop-i.invariant.2 ∙ ap (λ (l : List Move). added_all [] (spelled_words p 0 l)) whole ∙ added_joined (spelled_words p 0 c.args.moves.now) (all_words p 0 c.args.moves.now (let few = c.requires in omega arith)),
    )

pub returns-clause-here : goal.returns-clause-here
returns-clause-here c = all_made c (let over = c.loop-i-test.false in omega arith)

pub returns-clause-read : goal.returns-clause-read
returns-clause-read c =
    let made = returns-clause-here c in
    let size : length c.args.start.board ≡ 64 = search rules in
    spelling_tells c.args.start c.args.moves.now c.loop-i.text.items size c.requires made.0 made.1

pub returns-clause-in_games : goal.returns-clause-in_games
returns-clause-in_games c o stands = (from_array o c.args.start c.args.moves.now stands (returns-clause-here c).0).0
