use Rattle.std.proofs.Common.{ℕ, ◌+◌, ◌*◌, Some, sym, ap, subst, ◌∙◌, arith}
use Rattle.fen_text.proofs.HexTexts.{SetSoFar, set_bad, set_done, set_next, set_room, set_size}
use Rattle.fen_text.proofs.sets.read_set.Goals as goal

pub returns-then-text-ne16 : goal.returns-then-text-ne16
returns-then-text-ne16 c = sym (set_size c.args.text.now c.if-text-ne16.true)

pub returns-then-not-is_hex : goal.returns-then-not-is_hex
returns-then-not-is_hex c = sym (set_bad c.args.text.now c.loop-i.i c.loop-i-test.true (sym c.is_hex.ensures ∙ c.if-not-is_hex.true))

pub overflow_mul-bits : goal.overflow_mul-bits
overflow_mul-bits c =
    let size = c.if-text-ne16.false in
    let room = set_room c.args.text.now c.loop-i.i c.loop-i.bits (omega (arith, c.loop-i-test.true)) c.loop-i.invariant in
    omega arith

pub overflow_add-bits : goal.overflow_add-bits
overflow_add-bits c =
    let size = c.if-text-ne16.false in
    let room = set_room c.args.text.now c.loop-i.i c.loop-i.bits (omega (arith, c.loop-i-test.true)) c.loop-i.invariant in
    let small = c.hex_value.ensures.small in
    omega arith

pub loop-i-preserved : goal.loop-i-preserved
loop-i-preserved c =
    subst (λ (v : ℕ). SetSoFar c.args.text.now (c.loop-i.i + 1) (16 * c.loop-i.bits + v)) (sym c.hex_value.ensures.value)
    (set_next c.args.text.now c.loop-i.i c.loop-i.bits c.loop-i-test.true (sym c.is_hex.ensures ∙ c.if-not-is_hex.false) c.loop-i.invariant)

pub returns : goal.returns
returns c = sym (set_done c.args.text.now c.loop-i.i c.loop-i.bits c.if-text-ne16.false c.loop-i-test.false c.loop-i.invariant ∙ sym (ap (λ s. Some s) c.from_bits.ensures.squares))
