-- It is ready which candidates of a move are listed.
use Rattle.std.proofs.Common.{◌≡◌, ℕ, ◌<◌, Bool, true, false, ◌-◌, ◌≤◌, List, get_or, length, arith, sym, ap, ◌∙◌}
use Rattle.std.proofs.lemmas.Bool.{and_parts}
use Rattle.std.proofs.lemmas.Option.{get_or_from_slice_get, slice_get-map}
use Rattle.std.specs.Prelude.{Some, None, map, slice_get}
use Rattle.std.specs.Option.{option_map}
use Rattle.board_base.specs.Board.{at}
use Rattle.board_base.specs.declared.moves.Move.{Move}
use Rattle.board_base.specs.declared.unmoves.Unmove.{Unmove}
use Rattle.play_rules.specs.Listed.{move_of, promotions}
use Rattle.query_base.specs.Asked.{Asked}
use Rattle.unmove_gen.specs.Listed.{candidates, fits_ends, is_listed, mover, taking, unmoves_of}
use Rattle.unmove_gen.specs.Cursors.{number_of}
use Rattle.unmove_gen.specs.Numbers.{AreUnlisted, number_at}
use Rattle.unmove_gen.specs.Plain.{IsPlain, king_goes}
use Rattle.unmove_gen.specs.Ready.{AreReady}
use Rattle.unmove_gen.specs.declared.candidates.Cursor.{Cursor}
use Rattle.board_base.proofs.Equal.{empty_is}
use Rattle.unmove_gen.proofs.Numbered.{candidate-at}

pub ready-from : (q : Asked) (p : Cursor) (m : Move) (listed : List Bool) → m.to ≡ p.to → m.from ≡ p.from → slice_get promotions p.promotion ≡ Some m.promo → listed ≡ map (is_listed q) (unmoves_of m) → AreReady q p listed
ready-from q p m listed to from promo same = λ below r u few there.
    let origin = p.origins in
    let proms = p.promotions in
    let m' : Move = move_of p.from p.to m.promo in
    let e : m' ≡ m = ap (λ (s : ℕ). move_of s p.to m.promo) (sym from) ∙ ap (λ (s : ℕ). move_of m.from s m.promo) (sym to) in
    let here : slice_get (unmoves_of m) r ≡ Some u = ap (λ (n : Move). slice_get (unmoves_of n) r) (sym e) ∙ sym (candidate-at p.to p.from p.promotion r m.promo below origin proms few promo) ∙ there in
    ap (λ (l : List Bool). slice_get l r) same ∙ slice_get-map (is_listed q) (unmoves_of m) r ∙ ap (option_map (is_listed q)) here

pub plain-from : (q : Asked) (m : Move) → length q.board ≡ 64 → m.from < 64 → m.to < 64 → fits_ends q (taking m None) ≡ true → m.promo ≡ None → king_goes q.board m ≡ None → IsPlain q.board (mover q) m
plain-from q m whole from to fits promo king =
    let ends = and_parts _ _ fits in
    record { whole = whole; from = from; to = to; origin = empty_is (at q.board m.from) ends.0; own = ends.1; promo = promo; king = king }

pub listed-here : (q : Asked) (p : Cursor) (listed : List Bool) (u : Unmove) → p.to < 64 → slice_get candidates (number_of p) ≡ Some u → AreReady q p listed → get_or listed p.capture false ≡ is_listed q u
listed-here q p listed u below there ready = get_or_from_slice_get listed p.capture (is_listed q u) false (ready below p.capture u p.captures there)

-- candidates of the move of which the list says no aren't listed
pub none-listed : (q : Asked) (p : Cursor) (listed : List Bool) (low high : ℕ) → p.to < 64 → AreReady q p listed → low ≤ high → high ≤ 7 → ((r : ℕ) → low ≤ r → r < high → get_or listed r false ≡ false) → AreUnlisted q (number_at p.to p.from p.promotion low) (number_at p.to p.from p.promotion high)
none-listed q p listed low high below ready few fits none n u first last there =
    let r : ℕ = n - number_at p.to p.from p.promotion 0 in
    let e : n ≡ number_at p.to p.from p.promotion r = omega arith in
    let here : slice_get candidates (number_at p.to p.from p.promotion r) ≡ Some u = ap (slice_get candidates) (sym e) ∙ there in
    sym (get_or_from_slice_get listed r (is_listed q u) false (ready below r u (omega arith) here)) ∙ none r (omega arith) (omega arith)
