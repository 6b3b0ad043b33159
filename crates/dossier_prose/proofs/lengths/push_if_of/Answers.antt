use Rattle.std.proofs.Common.{◌≡◌, ◌++◌, ◌∷◌, [], ℕ, List, refl, sym, ap, ◌∙◌, drop, get_or, true, false, arith}
use Rattle.std.specs.Prelude.{Option}
use Rattle.std.proofs.lemmas.List.{drop_all}
use Rattle.board_base.specs.Board.{at, is_of}
use Rattle.board_base.specs.declared.men.Man.{Man}
use Rattle.dossier_prose.specs.Lengths.{way_words, ways_words}
use Rattle.dossier_prose.proofs.Ways.{no_homes, passed, taken}
use Rattle.dossier_prose.proofs.lengths.push_if_of.Goals as goal

pub returns-then-not-is_of-clause-words : goal.returns-then-not-is_of-clause-words
returns-then-not-is_of-clause-words c = λ squares.
    let other : is_of c.args.side (at c.args.board.now c.args.s) ≡ false = ap (λ (m : Option Man). is_of c.args.side m) (sym c.at-place.ensures.man) ∙ sym c.is_of.ensures ∙ c.if-not-is_of.true in
    ap (λ (l : List ℕ). c.args.out.now.items ++ l) (passed c.args.odds c.args.side c.args.board.now c.args.s squares (drop c.args.number c.args.homes.now) other)

pub returns-then-number-homes-clause-words : goal.returns-then-number-homes-clause-words
returns-then-number-homes-clause-words c = λ squares.
    let none : drop c.args.number c.args.homes.now ≡ [] = drop_all c.args.number c.args.homes.now (omega arith) in
    let o = c.args.odds in
    let side = c.args.side in
    let board = c.args.board.now in
    ap (λ (l : List ℕ). c.args.out.now.items ++ ways_words o side board squares l) none
    ∙ ap (λ (l : List ℕ). c.args.out.now.items ++ l) (no_homes o side board squares ∙ sym (no_homes o side board (c.args.s ∷ squares)))
    ∙ ap (λ (l : List ℕ). c.args.out.now.items ++ ways_words o side board (c.args.s ∷ squares) l) (sym none)

pub returns-clause-words : goal.returns-clause-words
returns-clause-words c = λ squares.
    let own : is_of c.args.side (at c.args.board.now c.args.s) ≡ true = ap (λ (m : Option Man). is_of c.args.side m) (sym c.at-place.ensures.man) ∙ sym c.is_of.ensures ∙ c.if-not-is_of.false in
    let way = ap (λ (m : Option Man). c.args.out.now.items ++ way_words c.args.odds m c.args.s c.home_of-home.result) c.at-place.ensures.man
    ∙ ap (λ (h : ℕ). c.args.out.now.items ++ way_words c.args.odds (at c.args.board.now c.args.s) c.args.s h) c.home_of-home.ensures in
    taken c.args.odds c.args.side c.args.board.now c.args.s (get_or c.args.homes.now c.args.number 0) c.args.number squares c.args.homes.now c.args.out.now.items c.push_way.new.out.items own (omega arith) refl (c.in_ok-push_way.ensures ∙ way)
