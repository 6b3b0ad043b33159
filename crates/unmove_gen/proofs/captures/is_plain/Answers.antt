use Rattle.std.proofs.Common.{◌≡◌, Bool, true, false, not, length, refl, sym, ap, ◌∙◌, arith}
use Rattle.std.specs.Prelude.{Option, Some, None, is_some}
use Rattle.query_base.specs.Asked.{Asked}
use Rattle.unmove_gen.specs.Listed.{fits_ends}
use Rattle.unmove_gen.specs.Plain.{king_goes}
use Rattle.unmove_gen.proofs.ReadyListed.{plain-from}
use Rattle.unmove_gen.proofs.captures.is_plain.Goals as goal

none-there : {A : Type 0} (o : Option A) (b : Bool) → is_some o ≡ not b → b ≡ true → o ≡ None
none-there {A} None b e h = refl
none-there {A} (Some x) b e h = let no : true ≡ false = e ∙ ap not h in cc

pub returns-then-is_none : goal.returns-then-is_none
returns-then-is_none c = λ h.
    let q : Asked = c.args.query.now in
    let whole : length q.board ≡ 64 = ap (λ (a : Asked). length a.board) (sym c.query.view_is) ∙ c.is_whole.ensures in
    let king : king_goes q.board c.args.m.now ≡ None = ap (λ (a : Asked). king_goes a.board c.args.m.now) (sym c.query.view_is) ∙ sym c.king_goes.ensures ∙ none-there c.king_goes.result c.is_none-then-is_none.result c.is_none-then-is_none.ensures h in
    plain-from q c.args.m.now whole (omega arith) (omega arith) (ap (fits_ends q) (sym c.taking.ensures) ∙ sym c.fits_ends.ensures ∙ c.if-not-fits_ends.false) (none-there c.args.m.now.promo c.is_none.result c.is_none.ensures c.if-is_none.true) king
