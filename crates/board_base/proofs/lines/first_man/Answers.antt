use Rattle.std.proofs.Common.{◌≡◌, ℕ, ◌+◌, ◌-◌, ◌<◌, ◌⊎◌, true, false, inl, inr, sym, ap, ◌∙◌, arith, rules}
use Rattle.std.proofs.lemmas.Bool.{both_ways, cases_eq, cases_lt}
use Rattle.std.specs.Prelude.{Some, is_some}
use Rattle.board_base.specs.Board.{at, file, is_empty, rank}
use Rattle.board_base.specs.Attacks.{king_distance}
use Rattle.board_base.specs.Ways.{IsOff, along}
use Rattle.board_base.proofs.KindsOfMen.{full-some, none-empty}
use Rattle.board_base.proofs.Ways.{IsNext, along-end, along-none, blocked, distance-high, distance-low, is-next, on-board}
use Rattle.board_base.proofs.lines.first_man.Goals as goal

next : (c : goal.In-loop) → IsNext c.args.direction c.args.from c.loop.counter
next c = is-next c.args.direction c.args.from c.loop.counter c.room.result c.room-2.result (search rules) (let low = c.loop-test.true in omega arith) (let low = c.loop-test.true in omega arith) (let r : rank c.args.from ≡ c.rank.result = sym c.rank.ensures in rw r c.room.ensures.inside) (let f : file c.args.from ≡ c.file.result = sym c.file.ensures in rw f c.room-2.ensures.inside)

pub loop-init : goal.loop-init
loop-init c = (c.index-number.ensures.number ∙ sym (along-none c.args.direction c.args.from), c.index-number.ensures.on_board, λ t small lies clear full. distance-low c.args.from t lies.apart)

pub overflow_add-number : goal.overflow_add-number
overflow_add-number c = let small = c.loop.invariant.1 in let few = c.growth-up.ensures.small in omega arith

pub overflow_sub-number : goal.overflow_sub-number
overflow_sub-number c = let here = c.loop.invariant.0 in let w = (next c).number in let up = c.growth-up.ensures.rise in let down = c.growth-up.ensures.fall in omega arith

there : (c : goal.In-loop) → c.loop.number + c.growth-up.result.0 - c.growth-up.result.1 ≡ along c.args.direction c.args.from (c.loop.counter + 1)
there c = let here = c.loop.invariant.0 in let w = (next c).number in let up = c.growth-up.ensures.rise in let down = c.growth-up.ensures.fall in omega arith

pub known-to-requires : goal.known-to-requires
known-to-requires c = let e = there c in let low = (next c).on_board in omega arith

pub returns-then-is_some : goal.returns-then-is_some
returns-then-is_some c = λ t small lies clear full.
    let k = c.loop.counter + 1 in
    let here : c.known-to.result ≡ along c.args.direction c.args.from k = c.known-to.ensures ∙ there c.before.before.before.before.before in
    let man : is_empty (at c.args.board.now (along c.args.direction c.args.from k)) ≡ false =
    ap (λ (n : ℕ). is_empty (at c.args.board.now n)) (sym here) ∙ full-some _ (ap is_some (sym c.at.ensures.man) ∙ sym c.is_some.ensures ∙ c.if-is_some.true) in
    let near : king_distance c.args.from t < k + 1 = blocked c.args.board.now c.args.direction c.args.from k t (omega arith) man lies clear in
    let far : c.loop.counter < king_distance c.args.from t = c.loop.invariant.2 t small lies clear full in
    let e : k ≡ king_distance c.args.from t = omega arith in
    ap Some (here ∙ ap (along c.args.direction c.args.from) e ∙ along-end c.args.direction c.args.from t lies)

pub loop-preserved : goal.loop-preserved
loop-preserved c =
    let k = c.loop.counter + 1 in
    let here : c.known-to.result ≡ along c.args.direction c.args.from k = c.known-to.ensures ∙ there c.before.before.before.before.before in
    let gone : is_empty (at c.args.board.now (along c.args.direction c.args.from k)) ≡ true =
    ap (λ (n : ℕ). is_empty (at c.args.board.now n)) (sym here) ∙ none-empty _ (ap is_some (sym c.at.ensures.man) ∙ sym c.is_some.ensures ∙ c.if-is_some.false) in (
      there c.before.before.before.before.before,
      let e = there c.before.before.before.before.before in let low = (next c.before.before.before.before.before).on_board in omega arith,
      λ t small lies clear full.
          let far : c.loop.counter < king_distance c.args.from t = c.loop.invariant.2 t small lies clear full in
          elim (cases_eq k (king_distance c.args.from t)) [
            | inl e ↦ absurd (both_ways _ full (ap (λ (n : ℕ). is_empty (at c.args.board.now n)) (sym (along-end c.args.direction c.args.from t lies) ∙ ap (along c.args.direction c.args.from) (sym e)) ∙ gone))
            | inr other ↦ omega arith
          ],
    )

-- one step more than there is room for leads off the board
past : (c : goal.After-loop) → c.min-room.result < 7 → IsOff c.args.direction.ranks (rank c.args.from) (c.min-room.result + 1) ⊎ IsOff c.args.direction.files (file c.args.from) (c.min-room.result + 1)
past c low = elim (cases_lt c.room-2.result c.room.result) [
  | inl less ↦
      let e : c.min-room.result ≡ c.room-2.result = let m = c.min-room.ensures in omega arith in
      inr (let f : file c.args.from ≡ c.file.result = sym c.file.ensures in rw (e, f) (c.room-2.ensures.off (omega arith)))
  | inr more ↦
      let e : c.min-room.result ≡ c.room.result = let m = c.min-room.ensures in omega arith in
      inl (let r : rank c.args.from ≡ c.rank.result = sym c.rank.ensures in rw (e, r) (c.room.ensures.off (omega arith)))
]

pub returns : goal.returns
returns c = λ t small lies clear full.
    let home : c.args.from < 64 = search rules in
    let high = distance-high c.args.from t home small in
    let far : c.loop.counter < king_distance c.args.from t = c.loop.invariant.2 t small lies clear full in
    let end = c.loop-test.false in
    absurd (on-board c.args.direction c.args.from t (c.min-room.result + 1) small lies (omega arith) (past c (omega arith)))
