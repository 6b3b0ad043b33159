use Rattle.std.proofs.Common.{◌+◌, ◌≤◌, inl, inr, arith}
use Rattle.std.proofs.lemmas.Bool.{cases_lt}
use Rattle.unmove_gen.specs.Cursors.{number_of}
use Rattle.unmove_gen.specs.Numbers.{number_at}
use Rattle.unmove_gen.specs.declared.candidates.Cursor.{Cursor}
use Rattle.unmove_gen.proofs.ReadyListed.{none-listed}
use Rattle.unmove_gen.proofs.stops.stop_after.Goals as goal

pub returns-then-place-lt7-clause-unlisted : goal.returns-then-place-lt7-clause-unlisted
returns-then-place-lt7-clause-unlisted c = λ n u low high there.
    let p : Cursor = c.args.here.now.cursor in
    none-listed c.args.query.now p c.args.here.now.listed (p.capture + 1) c.next_listed-place.result c.requires.inside c.requires.ready c.next_listed-place.ensures.high c.next_listed-place.ensures.low c.next_listed-place.ensures.none n u (omega arith) high there

pub returns-else-place-lt7-clause-unlisted : goal.returns-else-place-lt7-clause-unlisted
returns-else-place-lt7-clause-unlisted c = λ n u low high there.
    let p : Cursor = c.args.here.now.cursor in
    let past : 7 ≤ c.next_listed-place.result = c.if-place-lt7.false in
    let few = c.next_listed-place.ensures.low in
    let forward = c.past_move.ensures.forward in
    elim (cases_lt n (number_at p.to p.from p.promotion c.next_listed-place.result)) [
      | inl near ↦ none-listed c.args.query.now p c.args.here.now.listed (p.capture + 1) c.next_listed-place.result c.requires.inside c.requires.ready c.next_listed-place.ensures.high few c.next_listed-place.ensures.none n u (omega arith) near there
      | inr far ↦ elim (cases_lt n (number_of c.past_move.result)) [
        | inl before ↦ c.past_move.ensures.unlisted n u (omega arith) before there
        | inr after ↦ c.stop_from.ensures.unlisted n u after high there
      ]
    ]
