use Rattle.std.proofs.Common.{rules, tests, arith, ℕ, ◌≡◌, ◌≤◌, ◌+◌, ◌==◌, ◌∷◌, [], List, map, length, not, sym, ap, ◌∙◌, subst}
use Rattle.std.proofs.lemmas.Iterator.{YieldsList}
use Rattle.std.proofs.lemmas.Iterator.Consumers.{YieldsList-at, YieldsList-turn, YieldsList-end, YieldsList-so_far, YieldsList-from_filter}
use Rattle.std.proofs.lemmas.Iterator.Splits.{YieldsList-from_slice_split}
use Rattle.std.proofs.lemmas.List.{map-append, length-append}
use Rattle.game_text.specs.Words.{words, is_blank}
use Rattle.san_text.specs.Words.{Say, FirstBad, without_result}
use Rattle.san_text.specs.Games.{game_words}
use Rattle.game_text.proofs.WordLemmas.{few_words}
use Rattle.san_text.proofs.Told.{HasRead, bad_result, bad_word, few_read, read_all, read_more}
use Rattle.san_text.proofs.games.read_words.Given as given
use Rattle.san_text.proofs.games.read_words.Goals as goal

pub returns-then-ended-clause-fault : goal.returns-then-ended-clause-fault
returns-then-ended-clause-fault c =
    let road : YieldsList (given.iterator-loop-word).next_gives (λ w. w.now) c.into_iter-word-iterator.result (words c.args.bytes.now) =
    YieldsList-at c.into_iter-word-iterator.ensures.into_iter_gives (YieldsList-from_filter _ (λ (piece : List ℕ). not (length piece == 0)) (YieldsList-at c.filter-word-items.ensures.source (YieldsList-from_slice_split _ is_blank c.args.bytes.now c.split-pieces.ensures.rest c.split-pieces.ensures.done c.split-pieces.ensures.closure (λ x b q k. search (rules, tests)))) c.filter-word-items.ensures.closure (λ x b q k. search (rules, tests))) in
    subst (FirstBad (game_words c.args.bytes.now)) (sym c.loop-word.invariant.0)
    (bad_result c.loop-word.ended (words c.args.bytes.now) (map (λ w. w.now) c.loop-word.yielded) c.loop-word.said.items c.in-Some.word.now (length c.loop-word.yielded) c.if-ended.true
    (YieldsList-so_far road c.loop-word.yielded _ c.loop-word.yielded_by)
    (YieldsList-turn road c.loop-word.yielded _ c.loop-word.yielded_by _ _ c.in-Some.word c.in-Some.is c.next.ensures.steps)
    c.loop-word.invariant.1)

pub returns-in_default-clause-fault : goal.returns-in_default-clause-fault
returns-in_default-clause-fault c =
    let road : YieldsList (given.iterator-loop-word).next_gives (λ w. w.now) c.into_iter-word-iterator.result (words c.args.bytes.now) =
    YieldsList-at c.into_iter-word-iterator.ensures.into_iter_gives (YieldsList-from_filter _ (λ (piece : List ℕ). not (length piece == 0)) (YieldsList-at c.filter-word-items.ensures.source (YieldsList-from_slice_split _ is_blank c.args.bytes.now c.split-pieces.ensures.rest c.split-pieces.ensures.done c.split-pieces.ensures.closure (λ x b q k. search (rules, tests)))) c.filter-word-items.ensures.closure (λ x b q k. search (rules, tests))) in
    subst (λ (n : ℕ). FirstBad (game_words c.args.bytes.now) (n + 1)) (sym c.loop-word.invariant.0)
    (bad_word c.loop-word.ended (words c.args.bytes.now) (map (λ w. w.now) c.loop-word.yielded) c.loop-word.said.items c.in-Some.word.now (length c.loop-word.yielded) c.if-ended.false
    (YieldsList-so_far road c.loop-word.yielded _ c.loop-word.yielded_by)
    (YieldsList-turn road c.loop-word.yielded _ c.loop-word.yielded_by _ _ c.in-Some.word c.in-Some.is c.next.ensures.steps)
    c.loop-word.invariant.1 (sym c.is_result.ensures ∙ c.if-is_result.false) (sym c.read_word.ensures ∙ c.in_default.is))

pub loop-word-preserved : goal.loop-word-preserved
loop-word-preserved c =
    let before : List (List ℕ) = map (λ w. w.now) c.loop-word.yielded in (
      ap (λ (n : ℕ). n + 1) c.loop-word.invariant.0 ∙ sym (length-append c.loop-word.yielded (c.in-Some.word ∷ [])),
      subst (λ (l : List (List ℕ)). HasRead c.loop-word.ended l c.add_said.new.said.items) (sym (map-append (λ w. w.now) c.loop-word.yielded (c.in-Some.word ∷ [])))
          (read_more c.loop-word.ended before c.loop-word.said.items c.add_said.new.said.items c.in-Some.word.now c.in-Some-read_word.told c.if-ended.false c.loop-word.invariant.1
          (sym c.is_result.ensures ∙ c.if-is_result.false) (sym c.read_word.ensures ∙ c.in-Some-read_word.is) c.in_ok-add_said.ensures.ok),
    )

pub returns-clause-ok : goal.returns-clause-ok
returns-clause-ok c =
    let road : YieldsList (given.iterator-loop-word).next_gives (λ w. w.now) c.into_iter-word-iterator.result (words c.args.bytes.now) =
    YieldsList-at c.into_iter-word-iterator.ensures.into_iter_gives (YieldsList-from_filter _ (λ (piece : List ℕ). not (length piece == 0)) (YieldsList-at c.filter-word-items.ensures.source (YieldsList-from_slice_split _ is_blank c.args.bytes.now c.split-pieces.ensures.rest c.split-pieces.ensures.done c.split-pieces.ensures.closure (λ x b q k. search (rules, tests)))) c.filter-word-items.ensures.closure (λ x b q k. search (rules, tests))) in
    let end = YieldsList-end road c.loop-word.yielded _ c.loop-word.yielded_by _ _ c.in-None.is c.next.ensures.steps in
    subst (λ (l : List (List ℕ)). Say (without_result l) c.loop-word.said.items) end.0 (read_all c.loop-word.ended (map (λ w. w.now) c.loop-word.yielded) c.loop-word.said.items c.loop-word.invariant.1)

pub returns-clause-few : goal.returns-clause-few
returns-clause-few c =
    let road : YieldsList (given.iterator-loop-word).next_gives (λ w. w.now) c.into_iter-word-iterator.result (words c.args.bytes.now) =
    YieldsList-at c.into_iter-word-iterator.ensures.into_iter_gives (YieldsList-from_filter _ (λ (piece : List ℕ). not (length piece == 0)) (YieldsList-at c.filter-word-items.ensures.source (YieldsList-from_slice_split _ is_blank c.args.bytes.now c.split-pieces.ensures.rest c.split-pieces.ensures.done c.split-pieces.ensures.closure (λ x b q k. search (rules, tests)))) c.filter-word-items.ensures.closure (λ x b q k. search (rules, tests))) in
    let end = YieldsList-end road c.loop-word.yielded _ c.loop-word.yielded_by _ _ c.in-None.is c.next.ensures.steps in
    let same : length (map (λ w. w.now) c.loop-word.yielded) ≡ length (words c.args.bytes.now) = ap length end.0 in
    let few : length c.loop-word.said.items ≤ length (map (λ w. w.now) c.loop-word.yielded) = few_read c.loop-word.ended (map (λ w. w.now) c.loop-word.yielded) c.loop-word.said.items c.loop-word.invariant.1 in
    omega (arith, same, few, few_words c.args.bytes.now, c.loop-word.said.ok.0)
