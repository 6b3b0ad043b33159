use Rattle.std.proofs.Common.{ℕ, ◌≡◌, ◌∙◌, List, inl, refl, ap}
use Rattle.std.proofs.lemmas.Result.{IfOk-weaker}
use Rattle.cert_text.specs.SeenCert.{cert_of}
use Rattle.query_base.specs.Targets.{target}
use Rattle.cert_text.proofs.CertTexts.{text_written}
use Rattle.position_report.specs.Plain.{HasPlainSketch}
use Rattle.position_report.specs.Settlements.{IsCounterable}
use Rattle.command_answers.specs.Settles.{AnswersSettling}
use Rattle.command_answers.specs.Solves.{spent_line}
use Rattle.command_answers.specs.declared.statuses.Status.{Status}
use Rattle.command_answers.specs.declared.statuses.Status.TheVariants as status
use Rattle.command_answers.proofs.Finding.{found-told, if_undecided}
use Rattle.command_answers.proofs.GameTexts.{countered-spelled}
use Rattle.command_answers.proofs.OpenTexts.{spelled, unsettled-spelled}
use Rattle.command_answers.proofs.settles.answer_settle.Goals as goal

pub write_found-requires-clause-proved : goal.write_found-requires-clause-proved
write_found-requires-clause-proved c = c.in-Ok-settle.ensures.settlement.written c.in-Ok.ensures.promotion

pub write_found-requires-clause-undecided : goal.write_found-requires-clause-undecided
write_found-requires-clause-undecided c =
    if_undecided _ _ _ (λ line said. unsettled-spelled (spelled c.unmoves_have_texts.ensures.promotion c.unmoves_have_texts.ensures.capture) _ _ _ said) c.in-Ok-settle.ensures.settlement.undecided

pub write_found-requires-clause-countered : goal.write_found-requires-clause-countered
write_found-requires-clause-countered c = countered-spelled c.in-Ok-settle.found c.in-Ok.statement.claim c.in-Ok.statement.query c.in-Ok-settle.ensures.settlement.countered

pub returns-in-Ok-settle : goal.returns-in-Ok-settle
returns-in-Ok-settle c =
    let of = c.in-Ok-settle.ensures.settlement in
    let counters = c.in-Ok-settle.ensures.counterable in
    let sketched = c.in-Ok-settle.ensures.sketched in
    let claim = c.in-Ok.statement.claim in
    let query = c.in-Ok.statement.query in
    let Said = λ (s : Status) (text : List ℕ). AnswersSettling c.args.limits.depth c.args.limits.nodes claim query s text × (IsCounterable c.args.limits.depth c.args.limits.nodes claim query → s ≡ status.Countered) × (HasPlainSketch (target query claim) → s ≡ status.Done) in
    IfOk-weaker c.write_found.result _ _
    (λ a told.
    let said = found-told Said c.in-Ok-settle.found a.0 a.1
    (λ cert is text.
    let whole = text_written (cert_of cert) _ (rw is at (of.written c.in-Ok.ensures.promotion)) text in
    (record { cert = cert_of cert; is_proof = rw is at of.proved; is_text = whole; short = (rw is at of.short) _ whole }, λ can. absurd ((rw is at counters) can), λ has. refl))
    (λ line is text.
    (record { line = line; unsettled = rw is at of.undecided; few = rw is at of.short_line; unpriced = λ e. rw is at of.priced c.args.limits.some e; line_unpriced = rw is at of.unpriced; text_is = text }, λ can. absurd ((rw is at counters) can), λ has. absurd ((rw is at sketched) has)))
    (λ game is text. (record { game = game; contradicts = rw is at of.countered; few = rw is at of.short_game; text_is = text }, λ can. refl, λ has. absurd ((rw is at sketched) has)))
    (λ n is text.
    (record { large = rw is at of.large; dear = rw is at of.spent; unpriced = λ e. rw is at of.priced c.args.limits.some e; text_is = text ∙ ap (λ (k : ℕ). spent_line k) (rw is at of.visited) }, λ can. absurd ((rw is at counters) can), λ has. absurd ((rw is at sketched) has)))
    told in
    inl (claim, query, c.in-Ok.ensures.states, said.0, said.1, said.2))
    c.write_found.ensures
