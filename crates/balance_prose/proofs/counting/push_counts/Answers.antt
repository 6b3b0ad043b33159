use Rattle.std.proofs.Common.{◌++◌, refl}
use Rattle.std.proofs.lemmas.Result.{IfOk-equal}
use Rattle.std.specs.Prelude.{codes}
use Rattle.std.specs.List.{flat_map}
use Rattle.prose_words.proofs.Squares.{thence}
use Rattle.board_base.specs.declared.men.Colour.TheVariants.{White, Black}
use Rattle.balance_prose.specs.CountWords.{gate_words, twice_words, who_counts}
use Rattle.balance_prose.proofs.Known.{gates-inside}
use Rattle.balance_prose.proofs.counting.push_counts.Goals as goal

pub returns : goal.returns
returns c =
    let o = c.args.out.now.items in
    let a1 = codes "Count the captures by " in
    let a2 = a1 ++ who_counts c.args.prices.now.white c.args.prices.now.black in
    let a3 = a2 ++ codes ". " in
    let a4 = a3 ++ twice_words White c.args.prices.now.white in
    let a5 = a4 ++ twice_words Black c.args.prices.now.black in
    let h2 = thence o _ _ a1 (who_counts c.args.prices.now.white c.args.prices.now.black) c.in_ok-say.ensures (rw (c.takes-white.ensures.value, c.takes-black.ensures.value) at c.in_ok-push_who.ensures) in
    let h3 = thence o _ _ a2 (codes ". ") h2 c.in_ok-say-2.ensures in
    let h4 = thence o _ _ a3 (twice_words White c.args.prices.now.white) h3 (rw c.takes-white.ensures.value at c.in_ok-push_twice.ensures) in
    let h5 = thence o _ _ a4 (twice_words Black c.args.prices.now.black) h4 (rw c.takes-black.ensures.value at c.in_ok-push_twice-2.ensures) in
    IfOk-equal c.say-3.result c.say-3.new.out.items _ _ (rw (c.as_slice.ensures.value, c.in_ok-gates.ensures, c.gates.ensures.value) at c.say-3.ensures)
    (thence o _ _ a5 (flat_map gate_words c.args.prices.now.gates) h5 refl)

pub gates_of-requires : goal.gates_of-requires
gates_of-requires c = rw c.gates.ensures.value (gates-inside c.args.prices.now c.gates.ensures.range)
