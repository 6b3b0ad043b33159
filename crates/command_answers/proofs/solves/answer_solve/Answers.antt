use Rattle.std.proofs.Common.{ℕ, ◌∙◌, List, inl, ap, subst, sym}
use Rattle.std.proofs.lemmas.Result.{IfOk-weaker}
use Rattle.std.specs.Prelude.{IsTrue}
use Rattle.std.specs.List.{All}
use Rattle.board_base.specs.Texts.{can_promote}
use Rattle.board_base.specs.declared.moves.Move.{Move}
use Rattle.board_base.specs.declared.unmoves.Unmove.{Unmove}
use Rattle.query_base.specs.Targets.{target}
use Rattle.cert_text.specs.SeenCert.{cert_of}
use Rattle.cert_text.proofs.CertTexts.{text_written}
use Rattle.position_report.specs.Answers.{IsCounter, IsUndecided}
use Rattle.command_answers.specs.Solves.{AnswersClaim, spent_line}
use Rattle.command_answers.proofs.Finding.{found-told, if_countered, if_undecided}
use Rattle.command_answers.proofs.OpenTexts.{first_open-spelled, forwards-spelled, spelled}
use Rattle.command_answers.proofs.solves.answer_solve.Goals as goal

pub write_found-requires-clause-proved : goal.write_found-requires-clause-proved
write_found-requires-clause-proved c = c.in-Ok-solve.ensures.answer.written c.in-Ok.ensures.promotion

pub write_found-requires-clause-undecided : goal.write_found-requires-clause-undecided
write_found-requires-clause-undecided c =
    if_undecided _ _ _ (λ (line : List Unmove) (said : IsUndecided line (target c.in-Ok.statement.query c.in-Ok.statement.claim) c.args.limits.depth). first_open-spelled (spelled c.unmoves_have_texts.ensures.promotion c.unmoves_have_texts.ensures.capture) _ _ _ _ said.open_line.first) c.in-Ok-solve.ensures.undecided

pub write_found-requires-clause-countered : goal.write_found-requires-clause-countered
write_found-requires-clause-countered c =
    if_countered _ _ _
    (λ (game : List Move) (counter : IsCounter game c.in-Ok.statement.claim c.in-Ok.statement.query c.args.limits.depth). subst (All (λ (m : Move). IsTrue (can_promote m.promo))) (sym counter.forwards_is)
    (forwards-spelled counter.line (first_open-spelled (spelled c.unmoves_have_texts.ensures.promotion c.unmoves_have_texts.ensures.capture) _ _ _ _ counter.open_line.first)))
    c.in-Ok-solve.ensures.countered

pub returns-in-Ok-solve : goal.returns-in-Ok-solve
returns-in-Ok-solve c =
    let of = c.in-Ok-solve.ensures in
    let claim = c.in-Ok.statement.claim in
    let query = c.in-Ok.statement.query in
    IfOk-weaker c.write_found.result _ _
    (λ a told. inl (
      claim,
      query,
      c.in-Ok.ensures.states,
      found-told (AnswersClaim c.args.limits.depth c.args.limits.nodes claim query) c.in-Ok-solve.found a.0 a.1
          (λ cert is text. record {
            cert = cert_of cert;
            is_proof = rw is at of.answer.proved;
            is_text = text_written (cert_of cert) _ (rw is at (of.answer.written c.in-Ok.ensures.promotion)) text;
            refutable = (rw is at of.exactly).0 tt;
            afforded = rw is at of.afforded;
          })
          (λ line is text. record { line = line; undecided = rw is at of.undecided; few = rw is at of.answer.short_line; text_is = text })
          (λ game is text. record { game = game; counter = rw is at of.countered; few = rw is at of.answer.short_game; text_is = text })
          (λ n is text. record {
            dear = rw is at of.spent;
            text_is = text ∙ ap (λ (k : ℕ). spent_line k) (rw is at of.answer.visited);
          })
          told,
    ))
    c.write_found.ensures
