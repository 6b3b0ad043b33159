use Rattle.std.proofs.Common.{ℕ, ◌≡◌, ◌↔◌, ◌∙◌, [], List, map, sym, subst, arith}
use Rattle.std.proofs.lemmas.Slice.Eq.{bytes_eq-Decides}
use Rattle.std.specs.Prelude.{IsTrue}
use Rattle.retro_top.specs.Statuses.{IsAnswer, IsSilent}
use Rattle.retro_top.specs.Status.{Status}
use Rattle.retro_top.specs.Status.TheVariants.{BadWords}
use Rattle.run_driver.specs.Runs.{CallNothing, Runs}
use Rattle.run_driver.proofs.driving.is_answered.Goals as goal

pub returns-clause-bad_words : goal.returns-clause-bad_words
returns-clause-bad_words c = λ equal.
    let words = map (λ w. w.now) c.args.row.now.words.now in
    let status : c.in_ok-status.status ≡ c.args.row.now.status = grind (arith, c.ne.ensures, c.if-ne.false, c.if-ne.ensures) in
    subst (λ (s : Status). (s ≡ BadWords) ↔ CallNothing words) status c.in_ok-status.ensures.bad_words

pub returns-clause-silent : goal.returns-clause-silent
returns-clause-silent c = λ equal is.
    let status : c.in_ok-status.status ≡ c.args.row.now.status = grind (arith, c.ne.ensures, c.if-ne.false, c.if-ne.ensures) in
    let text : c.in_ok-status.sink.taken ≡ c.args.row.now.text.now = sym c.taken.ensures ∙ (bytes_eq-Decides c.taken.result.now c.args.row.now.text.now).0 (subst IsTrue c.eq.ensures equal) in
    subst (λ (l : List ℕ). l ≡ []) text (subst (λ (s : Status). IsSilent s → c.in_ok-status.sink.taken ≡ []) status c.in_ok-status.ensures.silent is)

pub returns-clause-answer : goal.returns-clause-answer
returns-clause-answer c = λ equal is.
    let words = map (λ w. w.now) c.args.row.now.words.now in
    let input = c.args.row.now.input.now in
    let status : c.in_ok-status.status ≡ c.args.row.now.status = grind (arith, c.ne.ensures, c.if-ne.false, c.if-ne.ensures) in
    let text : c.in_ok-status.sink.taken ≡ c.args.row.now.text.now = sym c.taken.ensures ∙ (bytes_eq-Decides c.taken.result.now c.args.row.now.text.now).0 (subst IsTrue c.eq.ensures equal) in
    subst (λ (l : List ℕ). Runs words input c.args.row.now.status l) text
    (subst (λ (s : Status). IsAnswer s → Runs words input s c.in_ok-status.sink.taken) status c.in_ok-status.ensures.answer is)
