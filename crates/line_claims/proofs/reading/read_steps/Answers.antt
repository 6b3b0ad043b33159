use Rattle.std.proofs.Common.{ℕ, List, sym, Bor}
use Rattle.std.proofs.lemmas.Bool.{both_ways}
use Rattle.line_claims.proofs.StepTexts.{bad_word, read_all, read_bad, read_first, read_next}
use Rattle.line_claims.proofs.reading.read_steps.Goals as goal

abbrev seen : Bor (List ℕ) → List ℕ
seen r = r.now

pub returns-in-None : goal.returns-in-None
returns-in-None c = sym (bad_word seen 15 c.args.text.now c.split_part.result.0.now c.split_part.result.1 c.split_part.ensures.part.free c.split_part.ensures.rest (sym c.in-None.ensures))

pub loop-rest-init : goal.loop-rest-init
loop-rest-init c = read_first seen c.args.text.now c.split_part.result.0.now c.split_part.result.1 c.in-Some.step c.of_one-steps.result c.split_part.ensures.part.free c.split_part.ensures.rest c.in-Some.ensures c.of_one-steps.ensures

pub returns-then-is_full : goal.returns-then-is_full
returns-then-is_full c = read_all seen c.args.text.now c.loop-rest.steps c.loop-rest.rest c.in-Some-rest.more c.loop-rest.invariant c.in-Some-rest.is (c.is_full.ensures.full.0 c.if-is_full.true)

pub returns-in-None-read_unmove : goal.returns-in-None-read_unmove
returns-in-None-read_unmove c =
    read_bad seen c.args.text.now c.loop-rest.steps c.loop-rest.rest c.in-Some-rest.more c.split_part-in-Some-rest.result.0.now c.split_part-in-Some-rest.result.1 c.loop-rest.invariant c.in-Some-rest.is (λ full. both_ways _ c.if-is_full.false (c.is_full.ensures.full.1 full)) c.is_full.ensures.few c.split_part-in-Some-rest.ensures.part.free c.split_part-in-Some-rest.ensures.rest c.in-None-read_unmove.ensures

pub loop-rest-preserved : goal.loop-rest-preserved
loop-rest-preserved c =
    read_next seen c.args.text.now c.loop-rest.steps c.push.new.self c.loop-rest.rest c.in-Some-rest.more c.split_part-in-Some-rest.result.0.now c.split_part-in-Some-rest.result.1 c.in-Some-read_unmove.step c.loop-rest.invariant c.in-Some-rest.is (λ full. both_ways _ c.if-is_full.false (c.is_full.ensures.full.1 full)) c.is_full.ensures.few c.split_part-in-Some-rest.ensures.part.free c.split_part-in-Some-rest.ensures.rest c.in-Some-read_unmove.ensures c.push.ensures
