use Rattle.std.proofs.Common.{◌≡◌, ℕ, List, [], ◌∷◌, Option, Bor, sym, ap, ◌∙◌}
use Rattle.std.specs.Prelude.{Some, None, MatchOption}
use Rattle.price_text.specs.Words.{words}
use Rattle.price_text.specs.PriceTexts.{takes_from}
use Rattle.price_text.proofs.WordLemmas.{cut_word, left}
use Rattle.price_text.proofs.PriceWords.{takes_bad, takes_next, takes_other, takes_short, takes_slash}
use Rattle.price_text.proofs.price_reading.read_takes.Goals as goal

pub returns-in_default : goal.returns-in_default
returns-in_default c =
    takes_short c.args.text.now c.loop-i.i c.loop-i.rest.now c.loop-i.takes c.split_part.result.0.now c.loop-i-test.true
    (cut_word c.loop-i.rest.now c.split_part.result.0.now c.split_part.result.1 c.split_part.ensures.part.free c.split_part.ensures.rest ∙ ap (λ (o : Option (Bor (List ℕ))). c.split_part.result.0.now ∷ left o) c.in_default.is) c.loop-i.invariant

pub returns-in_default-read_price : goal.returns-in_default-read_price
returns-in_default-read_price c =
    takes_bad c.args.text.now c.loop-i.i c.loop-i.rest.now c.loop-i.takes c.split_part.result.0.now (left c.split_part.result.1) c.loop-i-test.true
    (cut_word c.loop-i.rest.now c.split_part.result.0.now c.split_part.result.1 c.split_part.ensures.part.free c.split_part.ensures.rest) (sym c.in_default-read_price.ensures) c.loop-i.invariant

pub loop-i-preserved : goal.loop-i-preserved
loop-i-preserved c =
    takes_next c.args.text.now c.loop-i.i c.loop-i.rest.now c.in-Some.more.now c.loop-i.takes c.split_part.result.0.now c.in-Some-read_price.price c.loop-i-test.true
    (cut_word c.loop-i.rest.now c.split_part.result.0.now c.split_part.result.1 c.split_part.ensures.part.free c.split_part.ensures.rest ∙ ap (λ (o : Option (Bor (List ℕ))). c.split_part.result.0.now ∷ left o) c.in-Some.is) (sym c.in-Some-read_price.ensures) c.loop-i.invariant

-- what was read, and what is left
read_so : (text takes : List ℕ) (after : Option (Bor (List ℕ))) → takes_from 16 (words text) ≡ Some (takes, left after) → MatchOption after (takes_from 16 (words text) ≡ Some (takes, [])) (λ r. takes_from 16 (words text) ≡ Some (takes, words r.now))
read_so text takes None e = e
read_so text takes (Some r) e = e

pub returns-then-is_slash : goal.returns-then-is_slash
returns-then-is_slash c =
    read_so c.args.text.now c.loop-i.takes c.split_part-2.result.1 (takes_slash c.args.text.now c.loop-i.i c.loop-i.rest.now c.loop-i.takes c.split_part-2.result.0.now (left c.split_part-2.result.1) c.loop-i-test.false
    (cut_word c.loop-i.rest.now c.split_part-2.result.0.now c.split_part-2.result.1 c.split_part-2.ensures.part.free c.split_part-2.ensures.rest) (sym c.is_slash.ensures ∙ c.if-is_slash.true) c.loop-i.invariant)

pub returns-else-is_slash : goal.returns-else-is_slash
returns-else-is_slash c =
    takes_other c.args.text.now c.loop-i.i c.loop-i.rest.now c.loop-i.takes c.split_part-2.result.0.now (left c.split_part-2.result.1) c.loop-i-test.false
    (cut_word c.loop-i.rest.now c.split_part-2.result.0.now c.split_part-2.result.1 c.split_part-2.ensures.part.free c.split_part-2.ensures.rest) (sym c.is_slash.ensures ∙ c.if-is_slash.false) c.loop-i.invariant
