use Rattle.std.proofs.Common.{◌≡◌, ◌+◌, arith}
use Rattle.board_base.specs.Board.{file}
use Rattle.board_base.specs.declared.men.Colour.TheVariants.{White, Black}
use Rattle.balance_prose.proofs.laws.one_treads.Goals as goal

pub returns : goal.returns
returns c = λ o s g game left right.
    let same : 8 + file s ≡ 48 + file s = c.files_are_shared.ensures.apart o g White Black (8 + file s) (48 + file s) s game left right in
    omega (arith, same)
