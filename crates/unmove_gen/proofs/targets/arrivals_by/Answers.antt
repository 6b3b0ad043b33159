use Rattle.std.proofs.Common.{◌≡◌, Bool, false, List, length, sym, ap, ◌∙◌, subst}
use Rattle.std.specs.Prelude.{Option, IfSome}
use Rattle.board_base.specs.Board.{is_in}
use Rattle.board_base.specs.SquareNumbers.{is_in-squares_of, length-squares_of}
use Rattle.board_base.specs.Legal.{in_check}
use Rattle.query_base.specs.Asked.{Asked}
use Rattle.unmove_gen.specs.Plain.{AreFacts}
use Rattle.unmove_gen.specs.declared.facts.QueryFacts.{QueryFacts}
use Rattle.check_origins.proofs.Found.{bit-one, no-check, none-near}
use Rattle.unmove_gen.proofs.Opened.{check-is}
use Rattle.unmove_gen.proofs.targets.arrivals_by.Goals as goal

pub returns-in-Some : goal.returns-in-Some
returns-in-Some c =
    let q : Asked = c.args.query.now in
    let f : AreFacts q c.in-Some.facts = subst (λ (o : Option QueryFacts). IfSome o (λ k. AreFacts q k)) c.in-Some.is c.requires in
    let free : in_check q.board q.turn ≡ false = check-is q.board q.turn c.in-Some.facts.king f.on_board f.king_is ∙ sym f.checked_is ∙ c.if-not-facts.true in
    none-near q.board q.turn c.from_bits.result (ap length c.from_bits.ensures.squares ∙ length-squares_of 18446744073709551615)
    (λ t small. ap (λ (l : List Bool). is_in l t) c.from_bits.ensures.squares ∙ is_in-squares_of 18446744073709551615 t small ∙ bit-one t small) (no-check q.board q.turn free)
