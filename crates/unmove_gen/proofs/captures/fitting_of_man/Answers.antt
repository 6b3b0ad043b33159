use Rattle.std.proofs.Common.{◌≡◌, Bool, true, false, ◌&&◌, ◌||◌, not, refl, sym, ap, ◌∙◌, nat_le}
use Rattle.std.proofs.lemmas.Bool.{and_parts, and_right, not-true, or_parts}
use Rattle.std.specs.Prelude.{None}
use Rattle.board_base.specs.Attacks.{attacks}
use Rattle.board_base.specs.Board.{man}
use Rattle.board_base.specs.declared.men.Kind.TheVariants.{Pawn}
use Rattle.query_base.specs.Asked.{Asked}
use Rattle.unmove_gen.specs.Listed.{mover}
use Rattle.unmove_gen.specs.Plain.{goes_soundly, put_back}
use Rattle.unmove_gen.proofs.PlainFitting.{absorbed, free-full, none-fitting, none-come, same-seven, seven-fitting}
use Rattle.unmove_gen.proofs.captures.fitting_of_man.Goals as goal

pub strikes_freely-takes-requires : goal.strikes_freely-takes-requires
strikes_freely-takes-requires c = λ h.
    let q : Asked = c.args.query.now in
    let king = c.args.facts.now.king in
    free-full q.turn q.board c.args.m.now Pawn king c.requires.plain
    (not-true _ (and_parts (c.comes_quietly-quiet.result || c.comes_taking-taking.result) (not (attacks (put_back q.board c.args.m.now None) king (mover q))) (sym c.comes_freely-free.ensures ∙ h)).1)

pub returns : goal.returns
returns c =
    let q : Asked = c.args.query.now in
    let king = c.args.facts.now.king in
    let safe : Bool = not (attacks (put_back q.board c.args.m.now None) king (mover q)) in
    let quiet : (c.comes_quietly-quiet.result && c.comes_freely-free.result) ≡ goes_soundly (put_back q.board c.args.m.now None) q king c.args.m.now =
    ap (λ (b : Bool). c.comes_quietly-quiet.result && b) c.comes_freely-free.ensures
    ∙ absorbed c.comes_quietly-quiet.result c.comes_taking-taking.result safe
    ∙ ap (λ (b : Bool). b && safe) c.comes_quietly-quiet.ensures in
    same-seven _ _ _ _ _ _ _ _ _ _ _ _ _ _
    (c.fits_account.ensures ∙ ap (λ n. (c.comes_quietly-quiet.result && c.comes_freely-free.result) && nat_le n c.args.facts.now.allowed.pawns) c.requires.facts.used_is)
    c.fits_pawn.ensures c.fits_room.ensures c.fits_room-2.ensures c.fits_room-3.ensures c.fits_room-4.ensures refl
    ∙ seven-fitting q c.args.facts.now c.args.m.now (c.comes_quietly-quiet.result && c.comes_freely-free.result) c.strikes_freely-takes.result c.fits_en_passant.result c.requires.facts c.requires.plain (sym c.obeys.ensures ∙ c.if-not-obeys.false) quiet
    (c.strikes_freely-takes.ensures ∙ ap (λ (b : Bool). b && not (attacks (put_back q.board c.args.m.now (man q.turn Pawn)) king (mover q))) c.comes_taking-taking.ensures) c.fits_en_passant.ensures

pub returns-then-not-quiet-taking : goal.returns-then-not-quiet-taking
returns-then-not-quiet-taking c =
    let none = or_parts c.comes_quietly-quiet.result c.comes_taking-taking.result c.if-not-quiet-taking.true in
    c.only_en_passant.ensures ∙ (none-come c.args.query.now c.args.facts.now c.args.m.now c.requires.facts c.requires.plain (sym c.comes_quietly-quiet.ensures ∙ none.0) (sym c.comes_taking-taking.ensures ∙ none.1))

pub returns-then-not-obeys : goal.returns-then-not-obeys
returns-then-not-obeys c = none-fitting c.args.query.now c.args.m.now (and_right _ _ (sym c.obeys.ensures ∙ c.if-not-obeys.true))
