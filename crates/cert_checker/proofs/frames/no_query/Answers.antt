use Rattle.std.proofs.Common.{Bool, false, ap, ◌∙◌}
use Rattle.board_base.specs.Rights.{Rights}
use Rattle.board_base.specs.declared.castles.Castle.TheVariants.{WhiteShort, WhiteLong, BlackShort, BlackLong}
use Rattle.query_base.specs.Asked.{Asked}
use Rattle.cert_checker.specs.Unused.{nobody}
use Rattle.cert_checker.proofs.frames.no_query.Goals as goal

abbrev rights : Bool → Bool → Bool → Bool → Rights
rights k q l r = record { white_short = k; white_long = q; black_short = l; black_long = r }

abbrev asked_with : Rights → Asked
asked_with held = record nobody { held = held }

pub returns : goal.returns
returns c =
    let held = c.none-2.result in
    let none =
    ap (λ (x : Bool). asked_with (rights x held.white_long held.black_short held.black_long)) (c.none-2.ensures WhiteShort)
    ∙ ap (λ (x : Bool). asked_with (rights false x held.black_short held.black_long)) (c.none-2.ensures WhiteLong)
    ∙ ap (λ (x : Bool). asked_with (rights false false x held.black_long)) (c.none-2.ensures BlackShort)
    ∙ ap (λ (x : Bool). asked_with (rights false false false x)) (c.none-2.ensures BlackLong) in
    rw (c.empty.ensures, c.none.ensures) none
