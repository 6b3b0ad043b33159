use Rattle.std.proofs.Common.{rules, tests, arith, ℕ, ◌≡◌, ◌==◌, List, map, length, not, sym, ◌∙◌, subst}
use Rattle.std.proofs.lemmas.Iterator.{YieldsList}
use Rattle.std.proofs.lemmas.Iterator.Consumers.{YieldsList-at, YieldsList-turn, YieldsList-end, YieldsList-so_far, YieldsList-from_filter}
use Rattle.std.proofs.lemmas.Iterator.Splits.{YieldsList-from_slice_split}
use Rattle.game_text.specs.Words.{words, is_blank, AreTextsOf}
use Rattle.game_text.proofs.WordLemmas.{few_words, first_bad, same_count}
use Rattle.game_text.proofs.reading.read_game.Given as given
use Rattle.game_text.proofs.reading.read_game.Goals as goal

pub returns-clause-ok : goal.returns-clause-ok
returns-clause-ok c =
    let road : YieldsList (given.iterator-loop-word).next_gives (λ w. w.now) c.into_iter-word-iterator.result (words c.args.bytes.now) =
    YieldsList-at c.into_iter-word-iterator.ensures.into_iter_gives (YieldsList-from_filter _ (λ (piece : List ℕ). not (length piece == 0)) (YieldsList-at c.filter-word-items.ensures.source (YieldsList-from_slice_split _ is_blank c.args.bytes.now c.split-pieces.ensures.rest c.split-pieces.ensures.done c.split-pieces.ensures.closure (λ x b q k. search (rules, tests)))) c.filter-word-items.ensures.closure (λ x b q k. search (rules, tests))) in
    let end = YieldsList-end road c.loop-word.yielded _ c.loop-word.yielded_by _ _ c.in-None.is c.next.ensures.steps in
    subst (λ (l : List (List ℕ)). AreTextsOf l c.loop-word.moves.items) end.0 c.loop-word.invariant

pub returns-clause-few : goal.returns-clause-few
returns-clause-few c =
    let same : length (words c.args.bytes.now) ≡ length c.loop-word.moves.items = same_count (words c.args.bytes.now) c.loop-word.moves.items (returns-clause-ok c) in
    omega (arith, same, few_words c.args.bytes.now, c.loop-word.moves.ok.0)

pub returns-in_default-clause-fault : goal.returns-in_default-clause-fault
returns-in_default-clause-fault c =
    let road : YieldsList (given.iterator-loop-word).next_gives (λ w. w.now) c.into_iter-word-iterator.result (words c.args.bytes.now) =
    YieldsList-at c.into_iter-word-iterator.ensures.into_iter_gives (YieldsList-from_filter _ (λ (piece : List ℕ). not (length piece == 0)) (YieldsList-at c.filter-word-items.ensures.source (YieldsList-from_slice_split _ is_blank c.args.bytes.now c.split-pieces.ensures.rest c.split-pieces.ensures.done c.split-pieces.ensures.closure (λ x b q k. search (rules, tests)))) c.filter-word-items.ensures.closure (λ x b q k. search (rules, tests))) in
    rw (c.len.ensures, c.loop-word.moves.ok.0) (
    first_bad (words c.args.bytes.now) (map (λ w. w.now) c.loop-word.yielded) c.in-Some.word.now (length c.loop-word.yielded) c.loop-word.moves.items
    (YieldsList-so_far road c.loop-word.yielded _ c.loop-word.yielded_by)
    (YieldsList-turn road c.loop-word.yielded _ c.loop-word.yielded_by _ _ c.in-Some.word c.in-Some.is c.next.ensures.steps)
    c.loop-word.invariant (sym c.read_move.ensures ∙ c.in_default.is))
