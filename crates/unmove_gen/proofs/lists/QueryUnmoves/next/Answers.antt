use Rattle.std.proofs.Common.{◌≡◌, ◌+◌, ◌<◌, ◌≤◌, ℕ, Bool, [], ◌∷◌, drop, sym, ap, ◌∙◌, arith}
use Rattle.std.specs.List.{filter}
use Rattle.board_base.specs.declared.unmoves.Unmove.{Unmove}
use Rattle.unmove_gen.specs.Listed.{AskedUnmoves, candidates, is_listed}
use Rattle.unmove_gen.specs.Cursors.{number_of}
use Rattle.general_lemmas.proofs.Filtered.{rest_ends, rest_fails, rest_skips, rest_takes}
use Rattle.unmove_gen.proofs.Numbered.{candidates-long}
use Rattle.unmove_gen.proofs.ReadyListed.{listed-here}
use Rattle.unmove_gen.proofs.lists.QueryUnmoves.next.Goals as goal

pub loop-self-init : goal.loop-self-init
loop-self-init c = record { left = ap (λ (v : AskedUnmoves). v.left) c.self.view_is; query = ap (λ (v : AskedUnmoves). v.query) c.self.view_is; facts = c.self.invariant.0; targets = c.self.invariant.1; alone = c.self.invariant.2; ready = c.self.invariant.3 }

pub invariant_of-self : goal.invariant_of-self
invariant_of-self c = (c.loop-self.invariant.facts, c.loop-self.invariant.targets, c.loop-self.invariant.alone, c.loop-self.invariant.ready)

pub stop_after-self-inside-requires-clause-facts : goal.stop_after-self-inside-requires-clause-facts
stop_after-self-inside-requires-clause-facts c = c.loop-self.invariant.facts

pub stop_after-self-inside-requires-clause-ready : goal.stop_after-self-inside-requires-clause-ready
stop_after-self-inside-requires-clause-ready c = c.loop-self.invariant.ready

pub stop_after-self-inside-requires-clause-targets : goal.stop_after-self-inside-requires-clause-targets
stop_after-self-inside-requires-clause-targets c = c.loop-self.invariant.targets

pub stop_after-self-inside-requires-clause-alone : goal.stop_after-self-inside-requires-clause-alone
stop_after-self-inside-requires-clause-alone c = c.loop-self.invariant.alone

pub invariant_of-self-then-is_listed : goal.invariant_of-self-then-is_listed
invariant_of-self-then-is_listed c = (c.loop-self.invariant.facts, c.loop-self.invariant.targets, c.stop_after-self-inside.ensures.alone, c.stop_after-self-inside.ensures.ready)

pub returns-then-is_listed-clause-left : goal.returns-then-is_listed-clause-left
returns-then-is_listed-clause-left c =
    let p : Unmove → Bool = is_listed c.loop-self.self-inside.query in
    let n : ℕ = number_of c.loop-self.self-inside.stop.cursor in
    let later : n < number_of c.stop_after-self-inside.result.cursor = c.stop_after-self-inside.ensures.forward in
    sym c.loop-self.invariant.left
    ∙ rest_takes p candidates n c.candidate-u.result c.candidate-u.ensures (sym (listed-here c.loop-self.self-inside.query c.loop-self.self-inside.stop.cursor c.loop-self.self-inside.stop.listed c.candidate-u.result c.loop-self-test.true c.candidate-u.ensures c.loop-self.invariant.ready) ∙ c.if-is_listed.true)
    ∙ ap (λ l. c.candidate-u.result ∷ l) (rest_skips p candidates (n + 1) (number_of c.stop_after-self-inside.result.cursor) (omega arith) (λ k u low below there. c.stop_after-self-inside.ensures.unlisted k u low below there))

pub loop-self-preserved : goal.loop-self-preserved
loop-self-preserved c =
    let p : Unmove → Bool = is_listed c.loop-self.self-inside.query in
    let n : ℕ = number_of c.loop-self.self-inside.stop.cursor in
    let later : n < number_of c.stop_after-self-inside.result.cursor = c.stop_after-self-inside.ensures.forward in
    record {
      left =
          sym (rest_skips p candidates (n + 1) (number_of c.stop_after-self-inside.result.cursor) (omega arith) (λ k u low below there. c.stop_after-self-inside.ensures.unlisted k u low below there))
          ∙ sym (rest_fails p candidates n c.candidate-u.result c.candidate-u.ensures (sym (listed-here c.loop-self.self-inside.query c.loop-self.self-inside.stop.cursor c.loop-self.self-inside.stop.listed c.candidate-u.result c.loop-self-test.true c.candidate-u.ensures c.loop-self.invariant.ready) ∙ c.if-is_listed.false))
          ∙ c.loop-self.invariant.left;
      query = c.loop-self.invariant.query;
      facts = c.loop-self.invariant.facts;
      targets = c.loop-self.invariant.targets;
      alone = c.stop_after-self-inside.ensures.alone;
      ready = c.stop_after-self-inside.ensures.ready;
    }

pub returns-clause-left : goal.returns-clause-left
returns-clause-left c =
    let past : 64 ≤ c.loop-self.self-inside.stop.cursor.to = c.loop-self-test.false in
    let gone : filter (is_listed c.loop-self.self-inside.query) (drop (number_of c.loop-self.self-inside.stop.cursor) candidates) ≡ [] = rest_ends (is_listed c.loop-self.self-inside.query) candidates (number_of c.loop-self.self-inside.stop.cursor) (omega (arith, candidates-long)) in
    (sym c.loop-self.invariant.left ∙ gone, gone)
