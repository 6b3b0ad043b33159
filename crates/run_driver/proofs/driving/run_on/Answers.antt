use Rattle.std.proofs.Common.{ℕ, List, ap, map, string_bytes, subst, ◌∙◌}
use Rattle.std.specs.Prelude.{Some}
use Rattle.retro_top.specs.Limits.{most_bytes}
use Rattle.retro_top.specs.Answers.{ReadsFor, WritesAnswer, WritesPart}
use Rattle.run_driver.specs.Runs.{Runs, RunsInPart}
use Rattle.run_driver.proofs.Answering.{answered, answered-in-part, none-called}
use Rattle.run_driver.proofs.driving.run_on.Goals as goal

pub returns-clause-bad_words : goal.returns-clause-bad_words
returns-clause-bad_words c = none-called _ c.deref.result.now _ (ap (map string_bytes) c.deref.ensures.value ∙ c.in_ok-words.ensures) c.run-status.ensures.bad_words

pub returns-clause-answer : goal.returns-clause-answer
returns-clause-answer c = λ is.
    let words = c.deref.result.now in
    let status = c.run-status.result in
    let left = c.run-status.new.src.left in
    let taken = c.run-status.new.sink.taken in
    let whole = ap (λ s. s.left) c.new-source.ensures ∙ c.in_ok-bytes.ensures.items in
    let fresh = ap (λ s. s.taken) c.in-Ok.ensures in
    let ran = subst (λ (l : List ℕ). ReadsFor words most_bytes (Some c.args.input.now) (Some left) (λ read. WritesAnswer words read status (Some l) (Some taken))) fresh
    (subst (λ (l : List ℕ). ReadsFor words most_bytes (Some l) (Some left) (λ read. WritesAnswer words read status (Some c.in-Ok.sink.taken) (Some taken))) whole (c.run-status.ensures.answer is)) in
    subst (λ (l : List (List ℕ)). Runs l c.args.input.now status taken) (ap (map string_bytes) c.deref.ensures.value ∙ c.in_ok-words.ensures) (answered words c.args.input.now taken left status ran)

pub returns-clause-cut_short : goal.returns-clause-cut_short
returns-clause-cut_short c = λ is.
    let words = c.deref.result.now in
    let left = c.run-status.new.src.left in
    let taken = c.run-status.new.sink.taken in
    let whole = ap (λ s. s.left) c.new-source.ensures ∙ c.in_ok-bytes.ensures.items in
    let fresh = ap (λ s. s.taken) c.in-Ok.ensures in
    let ran = subst (λ (l : List ℕ). ReadsFor words most_bytes (Some c.args.input.now) (Some left) (λ read. WritesPart words read (Some l) (Some taken))) fresh
    (subst (λ (l : List ℕ). ReadsFor words most_bytes (Some l) (Some left) (λ read. WritesPart words read (Some c.in-Ok.sink.taken) (Some taken))) whole (c.run-status.ensures.cut_short is)) in
    subst (λ (l : List (List ℕ)). RunsInPart l c.args.input.now taken) (ap (map string_bytes) c.deref.ensures.value ∙ c.in_ok-words.ensures) (answered-in-part words c.args.input.now taken left ran)
